use Rattle.std.proofs.Common.{◌≡◌, ◌++◌, take}
use Rattle.std.specs.List.{flat_map}
use Rattle.mdl_syntax.proofs.PieceLaws.{next_tree, next_argument, one_initializer}
use Rattle.mdl_syntax.proofs.write.+write.Given as goal

abbrev pub invariant-push_trees-loop-tree : goal.invariant-push_trees-loop-tree
invariant-push_trees-loop-tree l =
    l.kinds.items ≡ l.initial.kinds.items ++ flat_map next_tree (take l.tree-index l.others)

abbrev pub invariant-push_arguments-loop-argument : goal.invariant-push_arguments-loop-argument
invariant-push_arguments-loop-argument l =
    l.kinds.items ≡ l.initial.kinds.items ++ flat_map next_argument (take l.argument-index l.others)

abbrev pub invariant-push_initializers-loop-initializer :
    goal.invariant-push_initializers-loop-initializer
invariant-push_initializers-loop-initializer l =
    l.kinds.items
    ≡ l.initial.kinds.items ++ flat_map one_initializer (take l.initializer-index l.initializers)

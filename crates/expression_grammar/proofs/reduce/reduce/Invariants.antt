use Rattle.std.proofs.Common.{◌≡◌, length}
use Rattle.mdl_syntax.specs.Trees.{tree_of}
use Rattle.expression_grammar.specs.inside.Machine.{reduced}
use Rattle.expression_grammar.specs.inside.Views.{stack_of}
use Rattle.expression_grammar.proofs.reduce.reduce.Given as goal

abbrev pub decreases-loop-alloc : goal.decreases-loop-alloc
decreases-loop-alloc l = length l.frames.items

abbrev pub invariant-loop-alloc : goal.invariant-loop-alloc
invariant-loop-alloc l =
    reduced l.grip (tree_of l.fn.operand) (stack_of l.fn.frames.items)
    ≡ reduced l.grip (tree_of l.whole) (stack_of l.frames.items)

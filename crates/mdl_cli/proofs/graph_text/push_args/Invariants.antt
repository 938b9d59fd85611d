-- the arguments so far
use Rattle.std.proofs.Common.{◌≡◌, ◌++◌, take}
use Rattle.std.specs.List.{flat_map}
use Rattle.std.specs.Prelude.{codes}
use Rattle.type_rules.specs.declared.ty.Arg.{Arg}
use Rattle.type_rules.specs.Texts.{arg_text}
use Rattle.mdl_cli.proofs.graph_text.push_args.Given as goal

abbrev pub invariant-loop-arg : goal.invariant-loop-arg
invariant-loop-arg l =
    l.text.items ≡ l.initial.text.items ++ flat_map (λ (next : Arg). codes "," ++ arg_text next)
    (take l.arg-index l.others)

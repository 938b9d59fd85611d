use Rattle.std.proofs.Common.{◌≡◌, ◌++◌, take}
use Rattle.std.specs.List.{flat_map}
use Rattle.mdl_syntax.proofs.ModulePieces.{next_parameter}
use Rattle.mdl_syntax.proofs.write_module.push_parameter_list.Given as goal

abbrev pub invariant-loop-param : goal.invariant-loop-param
invariant-loop-param l =
    l.kinds.items ≡ l.initial.kinds.items ++ flat_map next_parameter (take l.param-index l.others)

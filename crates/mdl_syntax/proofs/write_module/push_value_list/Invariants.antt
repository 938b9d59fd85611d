use Rattle.std.proofs.Common.{◌≡◌, ◌++◌, take}
use Rattle.std.specs.List.{flat_map}
use Rattle.mdl_syntax.proofs.ModulePieces.{next_value}
use Rattle.mdl_syntax.proofs.write_module.push_value_list.Given as goal

abbrev pub invariant-loop-value : goal.invariant-loop-value
invariant-loop-value l =
    l.kinds.items ≡ l.initial.kinds.items ++ flat_map next_value (take l.value-index l.others)

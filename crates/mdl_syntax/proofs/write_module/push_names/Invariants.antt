use Rattle.std.proofs.Common.{◌≡◌, ◌++◌, take}
use Rattle.std.specs.List.{flat_map}
use Rattle.mdl_syntax.proofs.ModulePieces.{next_name}
use Rattle.mdl_syntax.proofs.write_module.push_names.Given as goal

abbrev pub invariant-loop-name : goal.invariant-loop-name
invariant-loop-name l =
    l.kinds.items ≡ l.initial.kinds.items ++ flat_map next_name (take l.name-index l.others)

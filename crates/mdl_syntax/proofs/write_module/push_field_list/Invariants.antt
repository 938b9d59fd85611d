use Rattle.std.proofs.Common.{◌≡◌, ◌++◌, take}
use Rattle.std.specs.List.{flat_map}
use Rattle.mdl_syntax.proofs.ModulePieces.{one_field}
use Rattle.mdl_syntax.proofs.write_module.push_field_list.Given as goal

abbrev pub invariant-loop-field : goal.invariant-loop-field
invariant-loop-field l =
    l.kinds.items ≡ l.initial.kinds.items ++ flat_map one_field (take l.field-index l.fields)

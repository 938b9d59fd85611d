use Rattle.std.proofs.Common.{◌≡◌, ◌++◌, take}
use Rattle.std.specs.List.{flat_map}
use Rattle.mdl_syntax.proofs.ModulePieces.{next_annotation}
use Rattle.mdl_syntax.proofs.write_module.push_annotation_list.Given as goal

abbrev pub invariant-loop-anno : goal.invariant-loop-anno
invariant-loop-anno l =
    l.kinds.items ≡ l.initial.kinds.items ++ flat_map next_annotation (take l.anno-index l.others)

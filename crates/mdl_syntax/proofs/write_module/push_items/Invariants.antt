use Rattle.std.proofs.Common.{◌≡◌, ◌++◌, take}
use Rattle.std.specs.List.{flat_map}
use Rattle.mdl_syntax.proofs.ModulePieces.{next_item}
use Rattle.mdl_syntax.proofs.write_module.push_items.Given as goal

abbrev pub invariant-loop-item : goal.invariant-loop-item
invariant-loop-item l =
    l.kinds.items ≡ l.initial.kinds.items ++ flat_map next_item (take l.item-index l.others)

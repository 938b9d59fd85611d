use Rattle.std.proofs.Common.{◌≡◌, ◌++◌, map, take}
use Rattle.std.specs.List.{filter_map}
use Rattle.scope_tables.specs.Brought.{brought_item}
use Rattle.scope_tables.specs.inside.Reaching.{bringing_of}
use Rattle.scope_tables.proofs.brought.push_items.Given as goal

abbrev pub invariant-loop-item : goal.invariant-loop-item
invariant-loop-item l = map bringing_of l.all.items
    ≡ map bringing_of l.initial.all.items
    ++ filter_map (brought_item l.names.keys l.importer) (take l.item-index l.items)

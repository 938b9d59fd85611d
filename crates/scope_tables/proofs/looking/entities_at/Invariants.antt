use Rattle.std.proofs.Common.{◌≡◌, map, take}
use Rattle.std.specs.List.{filter_map}
use Rattle.scope_tables.specs.inside.Finding.{entity_at}
use Rattle.scope_tables.proofs.looking.entities_at.Given as goal

abbrev pub invariant-loop-index : goal.invariant-loop-index
invariant-loop-index l = map (λ entity. entity.now) l.entities.items
    ≡ filter_map (entity_at l.view.tables.now) (take l.index l.places)

use Rattle.std.proofs.Common.{◌≡◌, map, take}
use Rattle.scope_tables.specs.inside.Kinds.{ids_among}
use Rattle.scope_tables.proofs.looking.ids_of.Given as goal

abbrev pub invariant-loop-entity : goal.invariant-loop-entity
invariant-loop-entity l = l.ids.items ≡ ids_among (map (λ entity. entity.now) (take l.entity-index l.entities))

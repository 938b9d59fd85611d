use Rattle.std.proofs.Common.{◌≡◌, map, take}
use Rattle.scope_tables.specs.inside.Kinds.{kinds_among}
use Rattle.scope_tables.proofs.looking.kinds_of.Given as goal

abbrev pub invariant-loop-entity : goal.invariant-loop-entity
invariant-loop-entity l = l.kinds ≡ kinds_among (map (λ entity. entity.now) (take l.entity-index l.entities))

use Rattle.std.proofs.Common.{◌≡◌, ◌∷◌, map, take}
use Rattle.scope_tables.specs.inside.Reaching.{bringing_of, froms}
use Rattle.scope_tables.proofs.reach.modules_seen.Given as goal

abbrev pub invariant-loop-bringing : goal.invariant-loop-bringing
invariant-loop-bringing l = l.modules.items ≡ l.own ∷ froms (map bringing_of (take l.bringing-index l.brought))

-- the bringings before are taken in
use Rattle.std.proofs.Common.{map, take}
use Rattle.scope_tables.specs.inside.Reaching.{bringing_of, TakesIn}
use Rattle.scope_tables.proofs.reach.tell_all.Given as goal

abbrev pub invariant-loop-bringing : goal.invariant-loop-bringing
invariant-loop-bringing l =
    TakesIn l.places.keys (map bringing_of (take l.bringing-index l.brought)) l.initial.all.items l.all.items

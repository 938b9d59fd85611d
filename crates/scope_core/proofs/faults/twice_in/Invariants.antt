-- what was noted is what comes before
use Rattle.std.proofs.Common.{◌≡◌, List, Some, map, take, slice_get}
use Rattle.scope_tables.specs.Entities.{Declared}
use Rattle.scope_tables.specs.Visible.{World}
use Rattle.scope_core.specs.inside.Rounds.{AreSettled, last_types}
use Rattle.scope_core.proofs.TwiceLaws.{AreNoted}
use Rattle.scope_core.proofs.faults.twice_in.Given as goal

abbrev pub invariant-loop-index : goal.invariant-loop-index
invariant-loop-index l =
    (world : World) (pieces : List (List Declared)) (own : List Declared) → AreSettled world pieces l.settled
    → slice_get pieces l.module ≡ Some own → l.number ≡ l.module → l.places ≡ map (λ one. one.at) own
    → slice_get l.settled.tables.items l.module ≡ Some l.table
    → AreNoted (last_types world pieces) l.table.own l.settled.lists.keys l.fn.least (take l.index own) l.least
    l.kinds.items l.seen.keys

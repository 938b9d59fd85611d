use Rattle.std.proofs.Common.{Some}
use Rattle.scope_core.specs.inside.Walking.{Walks, left}
use Rattle.scope_core.proofs.settled.Settled.walk.Given as goal

abbrev pub invariant-steps : goal.invariant-steps
invariant-steps l =
    Walks l.scene l.initial.begun l.initial.path.items (Some l.fn.place) l.initial.self l.begun l.path.items l.next
    l.self

abbrev pub decreases-steps : goal.decreases-steps
decreases-steps l = left l.begun l.next

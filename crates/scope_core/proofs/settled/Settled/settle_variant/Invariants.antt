use Rattle.std.proofs.Common.{Some, None, [], length}
use Rattle.scope_core.specs.inside.Walking.{Walks}
use Rattle.scope_core.proofs.settled.Settled.settle_variant.Given as goal

abbrev pub invariant-steps : goal.invariant-steps
invariant-steps l = Walks l.scene l.fn.begun [] (Some l.fn.place) l.fn.self l.begun l.path.items None l.self

abbrev pub decreases-steps : goal.decreases-steps
decreases-steps l = length l.path.items

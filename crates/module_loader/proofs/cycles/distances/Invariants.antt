use Rattle.module_loader.specs.inside.Distances.{Round, links_of, out}
use Rattle.std.proofs.Common.{length}
use Rattle.module_loader.proofs.cycles.distances.Given as goal

abbrev pub invariant-loop-distances : goal.invariant-loop-distances
invariant-loop-distances l = Round (links_of l.all) l.to l.between l.distances.items

abbrev pub decreases-loop-distances : goal.decreases-loop-distances
decreases-loop-distances l = out (length (links_of l.all)) l.distances.items

use Rattle.std.proofs.Common.{◌≡◌, ◌++◌, ◌∷◌, length}
use Rattle.module_loader.specs.inside.Distances.{links_of, way_from, away}
use Rattle.module_loader.proofs.cycles.cycle_through.Given as goal

abbrev pub invariant-loop-between : goal.invariant-loop-between
invariant-loop-between l =
    l.cycle.items ++ way_from (links_of l.all) l.distances l.between l.at
    ≡ l.start ∷ way_from (links_of l.all) l.distances (away (length l.distances) l.distances l.start) l.start

abbrev pub decreases-loop-between : goal.decreases-loop-between
decreases-loop-between l = l.between

use Rattle.std.proofs.Common.{◌≡◌, ◌++◌, drop, length}
use Rattle.module_loader.specs.inside.Distances.{links_of, reached}
use Rattle.module_loader.proofs.cycles.reached.Given as goal

abbrev pub invariant-loop-index : goal.invariant-loop-index
invariant-loop-index l =
    l.found.items ++ reached (length l.all) l.to l.distances l.between (drop l.index (links_of l.all))
    (drop l.index l.distances)
    ≡ reached (length l.all) l.to l.distances l.between (links_of l.all) l.distances

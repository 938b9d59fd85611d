use Rattle.std.proofs.Common.{◌≡◌, ◌-◌, drop, length}
use Rattle.module_loader.specs.inside.Distances.{least_next}
use Rattle.module_loader.proofs.cycles.least_next.Given as goal

abbrev pub invariant-loop-index : goal.invariant-loop-index
invariant-loop-index l =
    l.least ≡ least_next (length l.distances) l.distances l.between (drop (length l.targets - l.index) l.targets)

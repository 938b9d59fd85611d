use Rattle.module_loader.specs.inside.Distances.{links_of}
use Rattle.module_loader.proofs.WayLaws.{NoneBelow}
use Rattle.module_loader.proofs.cycles.first_cycle.Given as goal

abbrev pub invariant-loop-start : goal.invariant-loop-start
invariant-loop-start l = NoneBelow (links_of l.all) l.start

use Rattle.std.proofs.Common.{◌<◌, ℕ}
use Rattle.module_loader.specs.inside.Distances.{links_of}
use Rattle.module_loader.specs.inside.Numbers.{RisesNotAt}
use Rattle.module_loader.proofs.numbers.rise_not.Given as goal

abbrev pub invariant-loop-index : goal.invariant-loop-index
invariant-loop-index l = (index : ℕ) → index < l.index → RisesNotAt (links_of l.all) l.numbers index

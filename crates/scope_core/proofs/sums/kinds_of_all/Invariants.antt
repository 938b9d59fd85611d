-- the sorts are those of what comes before
use Rattle.std.proofs.Common.{◌≡◌, take}
use Rattle.scope_core.specs.inside.Sums.{kinds_of_all}
use Rattle.scope_core.proofs.sums.kinds_of_all.Given as goal

abbrev pub invariant-loop-index : goal.invariant-loop-index
invariant-loop-index l = l.kinds ≡ kinds_of_all l.table l.exported (take l.index-index l.indices)

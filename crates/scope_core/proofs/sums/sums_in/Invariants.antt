-- the sums are those of the names before
use Rattle.std.proofs.Common.{◌≡◌, take}
use Rattle.scope_core.specs.inside.Sums.{sums_in}
use Rattle.scope_core.proofs.sums.sums_in.Given as goal

abbrev pub invariant-loop-number : goal.invariant-loop-number
invariant-loop-number l = l.row.items ≡ take l.number (sums_in l.table)

-- the rows are those of the tables before
use Rattle.std.proofs.Common.{◌≡◌, map, take}
use Rattle.scope_core.specs.inside.Sums.{sums_in}
use Rattle.scope_core.proofs.sums.sums.Given as goal

abbrev pub invariant-loop-table : goal.invariant-loop-table
invariant-loop-table l = map (λ row. row.items) l.sums.items ≡ map sums_in (take l.table-index l.tables)

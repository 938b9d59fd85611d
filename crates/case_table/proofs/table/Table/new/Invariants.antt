use Rattle.std.proofs.Common.{length, ◌-◌, ◌≤◌, map, take, max}
use Rattle.case_table.specs.Tables.{Ascend, names_of}
use Rattle.case_table.specs.Rows.{row_value}
use Rattle.case_table.proofs.table.Table.new.Given as goal

-- the names before the place ascend
abbrev pub invariant-loop-at : goal.invariant-loop-at
invariant-loop-at l =
    (1 ≤ l.at) × ((l.at ≤ max 1 (length l.rows)) × Ascend (take l.at (names_of (map row_value l.rows))))

abbrev pub decreases-loop-at : goal.decreases-loop-at
decreases-loop-at l = length l.rows - l.at

-- The row of a table as a name and its value.
use Rattle.std.specs.Prelude.{ℕ, List}
use Rattle.case_table.specs.declared.table.Row.{Row}

abbrev pub row_value : Row → List ℕ × ℕ
row_value row = (row.name.now, row.value)

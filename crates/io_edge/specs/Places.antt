-- Lines and columns of a text, both from 1.
use Rattle.std.specs.Prelude.{ℕ, suc, ◌==◌, not, Bool, List, length, reverse}
use Rattle.std.specs.List.{count_by, take_while}

abbrev pub is_line_feed : ℕ → Bool
is_line_feed char = char == 10

-- the line behind some characters: each line feed ends one
abbrev pub line_behind : List ℕ → ℕ
line_behind text = suc (count_by is_line_feed text)

-- the column behind some characters: one more than those behind the last line feed
abbrev pub column_behind : List ℕ → ℕ
column_behind text = suc (length (take_while (λ char. not (is_line_feed char)) (reverse text)))

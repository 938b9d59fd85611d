-- Heights in the machine's numbers.
use Rattle.std.specs.Prelude.{ℕ, min}

-- the greatest number stands for all above it
abbrev pub capped : ℕ → ℕ
capped height = min height 18446744073709551615

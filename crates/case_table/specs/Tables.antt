-- Tables: names in ascending order, each with its value.
use Rattle.std.specs.Prelude.{◌≡◌, ℕ, suc, ◌<◌, length, map, take, if◌then◌else◌}
use Rattle.std.specs.Prelude.{List, [], ◌∷◌, Option, Some, None}
use Rattle.std.specs.Str.{bytes_eq}
use Rattle.std.specs.Cmp.Lexicographic.{slice_cmp}
use Rattle.std.specs.Ordering.{nat_cmp}
use Rattle.std.proofs.Common.{Less}

-- a name comes before another in the order of bytes
abbrev pub Below : List ℕ → List ℕ → Type 0
Below name other = slice_cmp nat_cmp name other ≡ Less

-- each name is above the one before it
abbrev pub Ascend : List (List ℕ) → Type 0
Ascend [] = Unit {0}
Ascend (name ∷ []) = Unit {0}
Ascend (name ∷ next ∷ names) = Below name next × Ascend (next ∷ names)

-- the name at this place is the first that isn't above the one before it
pub record StopsAt (names : List (List ℕ)) (at : ℕ) : Type 0 where
  pub within : at < length names
  pub before : Ascend (take at names)
  pub stops : Ascend (take (suc at) names) → ⊥

-- the value of the first row of this name
abbrev pub value_of : List (List ℕ × ℕ) → List ℕ → Option ℕ
value_of [] name = None
value_of (row ∷ rows) name = if bytes_eq name row.0 then Some row.1 else value_of rows name

-- the names of rows
abbrev pub names_of : List (List ℕ × ℕ) → List (List ℕ)
names_of rows = map (λ (row : List ℕ × ℕ). row.0) rows

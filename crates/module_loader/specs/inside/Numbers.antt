-- Numbers of modules that rise along no import.
use Rattle.std.specs.Prelude.{◌≡◌, ℕ, leb, ltb, Bool, true, List, [], slice_index_or}
use Rattle.std.specs.List.{list_all}

-- a module without a number has 0
abbrev pub number : List ℕ → ℕ → ℕ
number numbers index = slice_index_or numbers index 0

abbrev pub is_less : List ℕ → ℕ → ℕ → Bool
is_less numbers own target = ltb (number numbers target) own

abbrev pub is_no_greater : List ℕ → ℕ → ℕ → Bool
is_no_greater numbers own target = leb (number numbers target) own

-- what a module imports has less numbers
abbrev pub all_less : List (List ℕ) → List ℕ → ℕ → Bool
all_less links numbers index = list_all (is_less numbers (number numbers index)) (slice_index_or links index [])

-- what a module imports has no greater numbers
abbrev pub RisesNotAt : List (List ℕ) → List ℕ → ℕ → Type 0
RisesNotAt links numbers index =
    list_all (is_no_greater numbers (number numbers index)) (slice_index_or links index []) ≡ true

abbrev pub RisesNot : List (List ℕ) → List ℕ → Type 0
RisesNot links numbers = (index : ℕ) → RisesNotAt links numbers index

-- An order of modules in which each stands behind those that it imports. A list tells for each module, by its index,
-- the indices of those that it imports.
use Rattle.std.specs.Prelude.{◌≡◌, ℕ, ◌==◌, ◌<◌, ltb, Bool, true, List, [], length, take, slice_get}
use Rattle.std.specs.Prelude.{slice_index_or, Some}
use Rattle.std.specs.List.{list_any, list_all}
use Rattle.case_table.specs.Lists.{firsts}

abbrev pub is_among : List ℕ → ℕ → Bool
is_among ms m = list_any (λ other. other == m) ms

abbrev pub are_below : ℕ → List ℕ → Bool
are_below count ms = list_all (λ m. ltb m count) ms

-- each import is one of the modules
abbrev pub AreWithin : List (List ℕ) → Type 0
AreWithin links = list_all (are_below (length links)) links ≡ true

-- no module stands in it twice, each module does, and what a module imports stands before it
pub record IsOrder (links : List (List ℕ)) (order : List ℕ) : Type 0 where
  pub apart : firsts ◌==◌ order ≡ order
  pub within : are_below (length links) order ≡ true
  pub whole : (m : ℕ) → m < length links → is_among order m ≡ true
  pub behind : (k m : ℕ) → slice_get order k ≡ Some m
      → list_all (is_among (take k order)) (slice_index_or links m []) ≡ true

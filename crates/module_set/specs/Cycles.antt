-- Cycles among modules. A list tells for each module, by its index, the indices of those that it imports.
use Rattle.std.specs.Prelude.{◌≡◌, ℕ, ◌==◌, ◌&&◌, ltb, Bool, true, false, List, [], ◌∷◌, length, slice_index_or}
use Rattle.std.specs.Prelude.{if◌then◌else◌}
use Rattle.std.specs.List.{list_any}

-- one module imports another
abbrev pub leads : List (List ℕ) → ℕ → ℕ → Bool
leads links from to = list_any (λ k. k == to) (slice_index_or links from [])

-- an import path leads from a module over these to another
abbrev pub leads_over : List (List ℕ) → ℕ → List ℕ → ℕ → Bool
leads_over links from [] to = leads links from to
leads_over links from (next ∷ way) to = leads links from next && leads_over links next way to

-- an import path leads from the first of these modules over the others to itself
abbrev pub is_cycle : List (List ℕ) → List ℕ → Bool
is_cycle links [] = false
is_cycle links (first ∷ way) = leads_over links first way first

-- of two lists the one that is less at the first place where they differ isn't the second
abbrev pub is_at_most : List ℕ → List ℕ → Bool
is_at_most [] other = true
is_at_most (a ∷ one) [] = false
is_at_most (a ∷ one) (b ∷ other) = if a == b then is_at_most one other else ltb a b

-- cycles are in order of their first index, then of their length, then of their indices
abbrev pub rank : List ℕ → List ℕ
rank [] = []
rank (first ∷ way) = first ∷ length way ∷ way

-- the first of all cycles: its first index is the least that lies on any, it is a shortest cycle through it,
-- and of these the one whose indices are least
pub record IsFirstCycle (links : List (List ℕ)) (cycle : List ℕ) : Type 0 where
  pub is : is_cycle links cycle ≡ true
  pub first : (other : List ℕ) → is_cycle links other ≡ true → is_at_most (rank cycle) (rank other) ≡ true

abbrev pub HasNoCycle : List (List ℕ) → Type 0
HasNoCycle links = (path : List ℕ) → is_cycle links path ≡ false

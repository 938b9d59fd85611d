-- Of several cycles one is the first.
use Rattle.std.proofs.Common.{◌≡◌, ℕ, true, List, [], ◌∷◌}
use Rattle.std.proofs.Common.{refl, sym, ap, ◌∙◌, arith}
use Rattle.std.proofs.lemmas.Bool.{true≢false}
use Rattle.module_set.specs.Cycles.{is_at_most, rank, IsFirstCycle}

at_most-same : (a b : ℕ) (one other : List ℕ) → is_at_most (a ∷ one) (b ∷ other) ≡ true
    → is_at_most (b ∷ other) (a ∷ one) ≡ true → (a ≡ b) × (is_at_most one other ≡ true) × (is_at_most other one ≡ true)
at_most-same a b one other h k = grind arith

-- lists that are at most each other are one
pub at_most-one : (one other : List ℕ) → is_at_most one other ≡ true → is_at_most other one ≡ true → one ≡ other
at_most-one [] [] h k = refl
at_most-one [] (b ∷ other) h k = absurd (true≢false (sym k))
at_most-one (a ∷ one) [] h k = absurd (true≢false (sym h))
at_most-one (a ∷ one) (b ∷ other) h k =
    let both = at_most-same a b one other h k in
    let rest = at_most-one one other both.1 both.2 in
    λ i. both.0 i ∷ rest i

list_behind : List ℕ → List ℕ
list_behind [] = []
list_behind (a ∷ []) = a ∷ []
list_behind (a ∷ b ∷ rest) = a ∷ rest

unranked : (cycle : List ℕ) → list_behind (rank cycle) ≡ cycle
unfolding list_behind
unranked [] = refl
unranked (a ∷ way) = refl

-- of several cycles one is the first
pub first_cycle_is_one : (links : List (List ℕ)) (one other : List ℕ) → IsFirstCycle links one
    → IsFirstCycle links other → one ≡ other
first_cycle_is_one links one other h k =
    let same = at_most-one (rank one) (rank other) (h.first other k.is) (k.first one h.is) in
    sym (unranked one) ∙ (ap list_behind same ∙ unranked other)

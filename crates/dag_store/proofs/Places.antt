-- What `position` tells of a list.
use Rattle.std.proofs.Common.{◌≡◌, ℕ, suc, ◌+◌, ◌<◌, ◌≤◌, not, Bool, true, false, cond, ltb, Option}
use Rattle.std.proofs.Common.{Some, None, List, [], ◌∷◌, length, refl, sym, subst, arith}
use Rattle.std.specs.Option.{IfSome, IfNone}
use Rattle.std.specs.List.{list_any, slice_get, position_or_len}
use Rattle.std.proofs.lemmas.Bool.{cond_both, ltb-true, ltb-false, or_from, not-true, not-false}

abbrev pub StandsAt : {A : Type 0} → (A → Bool) → List A → ℕ → Type 0
StandsAt {A} test xs k = (x : A) × (slice_get xs k ≡ Some x) × (test x ≡ true)

-- the first place that passes has a member that passes
passes : {A : Type 0} (test : A → Bool) (xs : List A) → position_or_len test xs < length xs
    → StandsAt test xs (position_or_len test xs)
passes test [] h = absurd (omega arith)
passes test (x ∷ xs) h =
    cond_both (not (test x)) (1 + position_or_len test xs) 0
    (λ k. k < length (x ∷ xs) → StandsAt test (x ∷ xs) k)
    (λ failed within.
    let next : suc (position_or_len test xs) ≡ 1 + position_or_len test xs = omega arith in
    subst (StandsAt test (x ∷ xs)) next (passes test xs (omega arith)))
    (λ passed within. (x, refl, not-false (test x) passed)) h

-- no member passes where the first place that passes is the length
none_passes : {A : Type 0} (test : A → Bool) (xs : List A) → length xs ≤ position_or_len test xs
    → list_any test xs ≡ false
none_passes test [] h = refl
none_passes test (x ∷ xs) h =
    cond_both (not (test x)) (1 + position_or_len test xs) 0
    (λ k. length (x ∷ xs) ≤ k → list_any test (x ∷ xs) ≡ false)
    (λ failed past. or_from (test x) (list_any test xs) (not-true (test x) failed)
    (none_passes test xs (omega arith)))
    (λ passed past. absurd (omega arith)) h

abbrev pub IsPosition : {A : Type 0} → (A → Bool) → List A → Option ℕ → Type 0
IsPosition test xs r =
    r ≡ cond (ltb (position_or_len test xs) (length xs)) (Some (position_or_len test xs)) None

-- a place that was found has a member that passes
pub IfSome-position : {A : Type 0} (test : A → Bool) (xs : List A) (r : Option ℕ)
    → IsPosition test xs r → IfSome r (StandsAt test xs)
IfSome-position test xs r e =
    let place = position_or_len test xs in
    subst (λ o. IfSome o (StandsAt test xs)) (sym e)
    (cond_both (ltb place (length xs)) (Some place) None (λ o. IfSome o (StandsAt test xs))
    (λ within. passes test xs (ltb-true place (length xs) within)) (λ past. tt))

-- where no place was found no member passes
pub IfNone-position : {A : Type 0} (test : A → Bool) (xs : List A) (r : Option ℕ)
    → IsPosition test xs r → IfNone r (list_any test xs ≡ false)
IfNone-position test xs r e =
    let place = position_or_len test xs in
    subst (λ o. IfNone o (list_any test xs ≡ false)) (sym e)
    (cond_both (ltb place (length xs)) (Some place) None (λ o. IfNone o (list_any test xs ≡ false))
    (λ within. tt) (λ past. none_passes test xs (ltb-false place (length xs) past)))

-- what follows from what is said of a `None`
pub IfNone_then : {A : Type 0} (r : Option A) {P Q : Type 0} → IfNone r P → (P → Q) → IfNone r Q
IfNone_then None h then = then h
IfNone_then (Some x) h then = tt

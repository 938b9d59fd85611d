-- Laws of lists and of what stands in them.
use Rattle.std.proofs.Common.{◌≡◌, ◌∙◌, ◌++◌, ◌∷◌, ◌+◌, ◌<◌, ◌==◌, ◌&&◌, ◌||◌, [], ℕ, zero, suc, Bool, true, false}
use Rattle.std.proofs.Common.{List, Some, filter, length, slice_get, take, take-suc, get_or, refl, sym, ap, arith}
use Rattle.std.specs.Prelude.{if◌then◌else◌}
use Rattle.std.specs.List.{list_any, list_all}
use Rattle.std.proofs.Math.Bool.{or-false, or_assoc}
use Rattle.std.proofs.lemmas.Bool.{and_parts, and_from, or_parts, or_from, or_left, or_right, false≢true, cond_both}
use Rattle.std.proofs.lemmas.Bool.{eqb-true, eq-eqb, false_from_ne_true}
use Rattle.std.proofs.lemmas.List.Folds.{list_any-append, list_all-append}
use Rattle.std.proofs.lemmas.Option.{same_Some, none-some}
use Rattle.std.proofs.Common.{slice_set}
use Rattle.case_table.specs.Lists.{Tells, with_first, firsts_onto, place_of}
use Rattle.case_table.specs.ListLaws.{slice_get-place_of}

pub numbers : Tells ◌==◌
numbers = record {
  itself = λ n. eq-eqb n n refl;
  only = λ m n same. eqb-true m n same;
}

pub turned : {A : Type 0} (same : A → A → Bool) → Tells same → (a b : A) → same a b ≡ same b a
turned same tells a b = by (same a b) refl
  where
    by : (c : Bool) → same a b ≡ c → c ≡ same b a
    by true is = sym (ap (λ x. same x a) (sym (tells.only a b is)) ∙ tells.itself a)
    by false apart =
        sym (false_from_ne_true (same b a)
        (λ back. false≢true (sym apart ∙ ap (λ x. same x b) (sym (tells.only b a back)) ∙ tells.itself b)))

pub crossed : (a b c d : Bool) → ((a || b) || (c || d)) ≡ ((a || c) || (b || d))
crossed true b c d = refl
crossed false true true d = refl
crossed false true false d = refl
crossed false false c d = refl

-- lists that are equal
pub nil-cons : {A : Type 0} (x : A) (xs : List A) → [] ≡ x ∷ xs → ⊥
nil-cons x xs e = let long = ap length e in omega (arith, long)

pub heads : {A : Type 0} (x y : A) (xs ys : List A) → x ∷ xs ≡ y ∷ ys → x ≡ y
heads x y xs ys e = same_Some x y (ap (λ l. slice_get l 0) e)

-- a place before the end
pub there-is : {A : Type 0} (xs : List A) (i : ℕ) → i < length xs → (x : A) × (slice_get xs i ≡ Some x)
there-is [] i within = absurd (omega (arith, within))
there-is (x ∷ xs) zero within = (x, refl)
there-is (x ∷ xs) (suc i) within = there-is xs i (omega (arith, within))

pub take-next : {A : Type 0} (xs : List A) (i : ℕ) (x : A) → i < length xs → x ≡ get_or xs i x
    → take (i + 1) xs ≡ take i xs ++ x ∷ []
take-next xs i x within is =
    let e : i + 1 ≡ suc i = omega arith in
    ap (λ n. take n xs) e ∙ take-suc xs i x within ∙ ap (λ v. take i xs ++ v ∷ []) (sym is)

-- a member that is set
pub get-set_same : {A : Type 0} (xs : List A) (i : ℕ) (x y : A) → slice_get xs i ≡ Some x
    → slice_get (slice_set xs i y) i ≡ Some y
get-set_same [] i x y at = absurd (none-some x at)
get-set_same (z ∷ xs) zero x y at = refl
get-set_same (z ∷ xs) (suc i) x y at = get-set_same xs i x y at

pub get-set_other : {A : Type 0} (xs : List A) (i j : ℕ) (y : A) → (j ≡ i → ⊥)
    → slice_get (slice_set xs i y) j ≡ slice_get xs j
get-set_other [] i j y apart = refl
get-set_other (z ∷ xs) zero zero y apart = absurd (apart refl)
get-set_other (z ∷ xs) zero (suc j) y apart = refl
get-set_other (z ∷ xs) (suc i) zero y apart = refl
get-set_other (z ∷ xs) (suc i) (suc j) y apart = get-set_other xs i j y (λ e. apart (ap suc e))

-- a test that all members pass
pub all-at : {A : Type 0} (test : A → Bool) (xs : List A) (i : ℕ) (x : A) → list_all test xs ≡ true
    → slice_get xs i ≡ Some x → test x ≡ true
all-at test [] i x all at = absurd (none-some x at)
all-at test (y ∷ xs) zero x all at =
    ap test (sym (same_Some y x at)) ∙ (and_parts (test y) (list_all test xs) all).0
all-at test (y ∷ xs) (suc i) x all at = all-at test xs i x (and_parts (test y) (list_all test xs) all).1 at

pub both-all : {A : Type 0} (test : A → Bool) (xs ys : List A) → list_all test xs ≡ true → list_all test ys ≡ true
    → list_all test (xs ++ ys) ≡ true
both-all test xs ys first second =
    list_all-append test xs ys ∙ and_from (list_all test xs) (list_all test ys) first second

-- a test that some member passes
pub any-at : {A : Type 0} (test : A → Bool) (xs : List A) (i : ℕ) (x : A) → slice_get xs i ≡ Some x
    → test x ≡ true → list_any test xs ≡ true
any-at test [] i x at is = absurd (none-some x at)
any-at test (y ∷ xs) zero x at is = or_left (test y) (list_any test xs) (ap test (same_Some y x at) ∙ is)
any-at test (y ∷ xs) (suc i) x at is = or_right (test y) (list_any test xs) (any-at test xs i x at is)

pub any-of : {A : Type 0} (test : A → Bool) (xs : List A) → list_any test xs ≡ true
    → (i : ℕ) × (x : A) × (slice_get xs i ≡ Some x) × (test x ≡ true)
any-of test [] some = absurd (false≢true some)
any-of {A} test (y ∷ xs) some = by (test y) refl some (λ some. any-of test xs some)
  where
    by : (b : Bool) → test y ≡ b → (b || list_any test xs) ≡ true
        → (list_any test xs ≡ true → (i : ℕ) × (x : A) × (slice_get xs i ≡ Some x) × (test x ≡ true))
        → (i : ℕ) × (x : A) × (slice_get (y ∷ xs) i ≡ Some x) × (test x ≡ true)
    by true is some later = (0, y, refl, is)
    by false is some later = let past = later some in (suc past.0, past.1, past.2, past.3)

pub any-with_first : {A : Type 0} (same : A → A → Bool) → Tells same → (test : A → Bool) (xs : List A) (x : A)
    → list_any test (with_first same xs x) ≡ (list_any test xs || test x)
any-with_first same tells test xs x =
    cond_both (list_any (same x) xs) xs (xs ++ x ∷ []) (λ l. list_any test l ≡ (list_any test xs || test x))
    (λ known. absorbed (list_any test xs) (test x)
    (any-at test xs (place_of same x xs) x (slice_get-place_of same tells xs x known)))
    (λ new. list_any-append test xs (x ∷ []) ∙ ap (λ b. list_any test xs || b) (or-false (test x)))
  where
    absorbed : (a b : Bool) → (b ≡ true → a ≡ true) → a ≡ (a || b)
    absorbed true b h = refl
    absorbed false true h = h refl
    absorbed false false h = refl

pub any-firsts_onto : {A : Type 0} (same : A → A → Bool) → Tells same → (test : A → Bool) (seen xs : List A)
    → list_any test (firsts_onto same seen xs) ≡ (list_any test seen || list_any test xs)
any-firsts_onto same tells test seen [] = sym (or-false (list_any test seen))
any-firsts_onto same tells test seen (x ∷ xs) =
    any-firsts_onto same tells test (with_first same seen x) xs
    ∙ ap (λ b. b || list_any test xs) (any-with_first same tells test seen x)
    ∙ or_assoc (list_any test seen) (test x) (list_any test xs)

-- a test that no member passes
pub any-at-false : {A : Type 0} (test : A → Bool) (xs : List A) (i : ℕ) (x : A) → list_any test xs ≡ false
    → slice_get xs i ≡ Some x → test x ≡ false
any-at-false test [] i x none at = absurd (none-some x at)
any-at-false test (y ∷ xs) zero x none at =
    ap test (sym (same_Some y x at)) ∙ (or_parts (test y) (list_any test xs) none).0
any-at-false test (y ∷ xs) (suc i) x none at =
    any-at-false test xs i x (or_parts (test y) (list_any test xs) none).1 at

pub any-both : {A : Type 0} (test : A → Bool) (xs ys : List A) → list_any test xs ≡ false → list_any test ys ≡ false
    → list_any test (xs ++ ys) ≡ false
any-both test xs ys first second =
    list_any-append test xs ys ∙ or_from (list_any test xs) (list_any test ys) first second

-- the members that are kept
pub any-filtered : {A : Type 0} (keep test : A → Bool) (xs : List A)
    → list_any test (filter keep xs) ≡ list_any (λ x. keep x && test x) xs
any-filtered keep test [] = refl
any-filtered keep test (x ∷ xs) = by (keep x) (any-filtered keep test xs)
  where
    by : (b : Bool) → list_any test (filter keep xs) ≡ list_any (λ x. keep x && test x) xs
        → list_any test (if b then x ∷ filter keep xs else filter keep xs)
        ≡ ((b && test x) || list_any (λ x. keep x && test x) xs)
    by true later = ap (λ b. test x || b) later
    by false later = later

pub filter-of : {A : Type 0} (keep : A → Bool) (xs : List A) (i : ℕ) (x : A)
    → slice_get (filter keep xs) i ≡ Some x → (keep x ≡ true) × (j : ℕ) × (slice_get xs j ≡ Some x)
filter-of keep [] i x at = absurd (none-some x at)
filter-of keep (y ∷ xs) i x at = by (keep y) refl i at (λ i at. filter-of keep xs i x at)
  where
    by : (b : Bool) → keep y ≡ b → (i : ℕ)
        → slice_get (if b then y ∷ filter keep xs else filter keep xs) i ≡ Some x
        → ((i : ℕ) → slice_get (filter keep xs) i ≡ Some x → (keep x ≡ true) × (j : ℕ) × (slice_get xs j ≡ Some x))
        → (keep x ≡ true) × (j : ℕ) × (slice_get (y ∷ xs) j ≡ Some x)
    by true is zero at later = (ap keep (sym (same_Some y x at)) ∙ is, 0, at)
    by true is (suc i) at later = let past = later i at in (past.0, suc past.1, past.2)
    by false is i at later = let past = later i at in (past.0, suc past.1, past.2)

pub filter-has : {A : Type 0} (keep : A → Bool) (xs : List A) (j : ℕ) (x : A)
    → slice_get xs j ≡ Some x → keep x ≡ true → (h : ℕ) × (slice_get (filter keep xs) h ≡ Some x)
filter-has keep [] j x at is = absurd (none-some x at)
filter-has keep (y ∷ xs) zero x at is = by (keep y) (ap keep (same_Some y x at) ∙ is)
  where
    by : (b : Bool) → b ≡ true → (h : ℕ) × (slice_get (if b then y ∷ filter keep xs else filter keep xs) h ≡ Some x)
    by true is = (0, at)
    by false is = absurd (false≢true is)
filter-has keep (y ∷ xs) (suc j) x at is = by (keep y) (filter-has keep xs j x at is)
  where
    by : (b : Bool) → (h : ℕ) × (slice_get (filter keep xs) h ≡ Some x)
        → (h : ℕ) × (slice_get (if b then y ∷ filter keep xs else filter keep xs) h ≡ Some x)
    by true later = (suc later.0, later.1)
    by false later = later

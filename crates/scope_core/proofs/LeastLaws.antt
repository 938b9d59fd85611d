-- The least of faults is one of them, and no other is less.
use Rattle.std.proofs.Common.{◌≡◌, ◌∙◌, ◌∷◌, [], ℕ, zero, suc, ◌≤◌, ◌==◌, ◌&&◌, ◌||◌, ltb, Bool, true, false}
use Rattle.std.proofs.Common.{List, Some, None, slice_get, refl, sym, ap, subst, arith, if◌then◌else◌}
use Rattle.std.specs.List.{list_any}
use Rattle.std.specs.Cmp.{IsStrictWeakOrder}
use Rattle.std.proofs.lemmas.Bool.{or_parts, and_parts, ltb-true, ltb-false, le-ltb, eqb-true, eq-eqb}
use Rattle.std.proofs.lemmas.List.MinMax.{IsStrictWeakOrder-by_number}
use Rattle.std.proofs.lemmas.Option.{same_Some, none-some}
use Rattle.scope_core.specs.declared.fault.ScopeFault.{ScopeFault}
use Rattle.scope_core.specs.ScopeFaults.{is_less, fault_key, IsLeast}
use Rattle.scope_core.specs.inside.Lessening.{least_onto}

-- by number, then by another order
abbrev then_by : {A : Type 0} → (A → ℕ) → (A → A → Bool) → A → A → Bool
then_by key less one other = ltb (key one) (key other) || ((key one == key other) && less one other)

-- each one lesser or equal in number, and by the other order where the numbers are equal
then_by-parts : {A : Type 0} (key : A → ℕ) (less : A → A → Bool) (one other : A) → then_by key less one other ≡ false
    → (key other ≤ key one) × (key one ≡ key other → less one other ≡ false)
then_by-parts key less one other h =
    let parts = or_parts (ltb (key one) (key other)) ((key one == key other) && less one other) h in (
      ltb-false (key one) (key other) parts.0,
      λ same. ap (λ b. b && less one other) (sym (eq-eqb (key one) (key other) same)) ∙ parts.1,
    )

then_by-from : {A : Type 0} (key : A → ℕ) (less : A → A → Bool) (one other : A) → key other ≤ key one
    → (key one ≡ key other → less one other ≡ false) → then_by key less one other ≡ false
then_by-from key less one other high ties =
    ap (λ b. b || ((key one == key other) && less one other)) (le-ltb (key one) (key other) high)
    ∙ by (key one == key other) refl
  where
    by : (b : Bool) → (key one == key other) ≡ b → (b && less one other) ≡ false
    by true is = ties (eqb-true (key one) (key other) is)
    by false is = refl

then_by-one_way : {A : Type 0} (key : A → ℕ) (less : A → A → Bool) → IsStrictWeakOrder less → (one other : A)
    → then_by key less one other ≡ true → then_by key less other one ≡ false
then_by-one_way key less order one other h = by (ltb (key one) (key other)) refl h
  where
    by : (b : Bool) → ltb (key one) (key other) ≡ b → (b || ((key one == key other) && less one other)) ≡ true
        → then_by key less other one ≡ false
    by true is h =
        let below = ltb-true (key one) (key other) is in
        then_by-from key less other one (omega (arith, below)) (λ same. absurd (omega (arith, below, same)))
    by false is h =
        let parts = and_parts (key one == key other) (less one other) h in
        let same = eqb-true (key one) (key other) parts.0 in
        then_by-from key less other one (omega (arith, same)) (λ _. order.one_way one other parts.1)

then_by-chain : {A : Type 0} (key : A → ℕ) (less : A → A → Bool) → IsStrictWeakOrder less → (one two three : A)
    → then_by key less one two ≡ false → then_by key less two three ≡ false → then_by key less one three ≡ false
then_by-chain key less order one two three h g =
    let first = then_by-parts key less one two h in
    let second = then_by-parts key less two three g in
    let p = first.0 in
    let q = second.0 in
    then_by-from key less one three (omega (arith, p, q)) (λ same.
    order.chain one two three (first.1 (omega (arith, p, q, same))) (second.1 (omega (arith, p, q, same))))

then_by-orders : {A : Type 0} (key : A → ℕ) (less : A → A → Bool) → IsStrictWeakOrder less
    → IsStrictWeakOrder (then_by key less)
then_by-orders key less order = record {
  one_way = then_by-one_way key less order;
  chain = then_by-chain key less order;
}

pub is_less-orders : IsStrictWeakOrder is_less
is_less-orders =
    then_by-orders (λ fault. (fault_key fault).0)
    (then_by (λ fault. (fault_key fault).1) (λ one other. ltb (fault_key one).2 (fault_key other).2))
    (then_by-orders (λ fault. (fault_key fault).1) (λ one other. ltb (fault_key one).2 (fault_key other).2)
    (IsStrictWeakOrder-by_number (λ fault. (fault_key fault).2)))

-- no fault is less than itself
pub is_less-itself : (fault : ScopeFault) → is_less fault fault ≡ false
is_less-itself fault = by (is_less fault fault) refl
  where
    by : (b : Bool) → is_less fault fault ≡ b → is_less fault fault ≡ false
    by true is = is_less-orders.one_way fault fault is
    by false is = is

-- one fault that is not less, before others that are not
none-less : (least one : ScopeFault) (faults : List ScopeFault) → is_less least one ≡ false
    → list_any (λ other. is_less other one) faults ≡ false
    → (is_less least one || list_any (λ other. is_less other one) faults) ≡ false
none-less least one faults here others =
    ap (λ b. b || list_any (λ other. is_less other one) faults) here ∙ others

-- a lesser fault stands for the one before
lessened : (least fault one : ScopeFault) (faults : List ScopeFault) → is_less fault least ≡ true
    → IsLeast (fault ∷ faults) one → IsLeast (least ∷ fault ∷ faults) one
lessened least fault one faults less later = record {
  place = suc later.place;
  among = later.among;
  least =
      let parts = or_parts (is_less fault one) (list_any (λ other. is_less other one) faults) later.least in
      none-less least one (fault ∷ faults)
      (is_less-orders.chain least fault one (is_less-orders.one_way fault least less) parts.0) later.least;
}

-- the place that comes behind another
abbrev behind : ℕ → ℕ
behind zero = zero
behind (suc place) = suc (suc place)

behind-get : (least fault one : ScopeFault) (faults : List ScopeFault) (place : ℕ)
    → slice_get (least ∷ faults) place ≡ Some one → slice_get (least ∷ fault ∷ faults) (behind place) ≡ Some one
behind-get least fault one faults zero at = at
behind-get least fault one faults (suc place) at = at

-- another leaves it
stayed : (least fault one : ScopeFault) (faults : List ScopeFault) → is_less fault least ≡ false
    → IsLeast (least ∷ faults) one → IsLeast (least ∷ fault ∷ faults) one
stayed least fault one faults less later = record {
  place = behind later.place;
  among = behind-get least fault one faults later.place later.among;
  least =
      let parts = or_parts (is_less least one) (list_any (λ other. is_less other one) faults) later.least in
      none-less least one (fault ∷ faults) parts.0
      (none-less fault one faults (is_less-orders.chain fault least one less parts.0) parts.1);
}

least-behind : (least one : ScopeFault) (faults : List ScopeFault) → least_onto (Some least) faults ≡ Some one
    → IsLeast (least ∷ faults) one
least-behind least one [] h = record {
  place = 0;
  among = h;
  least =
      none-less least one []
      (subst (λ fault. is_less least fault ≡ false) (same_Some least one h) (is_less-itself least)) refl;
}
least-behind least one (fault ∷ faults) h =
    by (λ first later. least-behind first one faults later) (is_less fault least) refl h
  where
    by : ((first : ScopeFault) → least_onto (Some first) faults ≡ Some one → IsLeast (first ∷ faults) one)
        → (b : Bool) → is_less fault least ≡ b
        → least_onto (if b then Some fault else Some least) faults ≡ Some one → IsLeast (least ∷ fault ∷ faults) one
    by rest true is h = lessened least fault one faults is (rest fault h)
    by rest false is h = stayed least fault one faults is (rest least h)

-- the least of faults
pub least_onto-least : (faults : List ScopeFault) (one : ScopeFault) → least_onto None faults ≡ Some one
    → IsLeast faults one
least_onto-least [] one h = absurd (none-some one h)
least_onto-least (fault ∷ faults) one h = least-behind fault one faults h

some-behind : (least : ScopeFault) (faults : List ScopeFault) → least_onto (Some least) faults ≡ None → ⊥
some-behind least [] h = none-some least (sym h)
some-behind least (fault ∷ faults) h = by (λ first later. some-behind first faults later) (is_less fault least) h
  where
    by : ((first : ScopeFault) → least_onto (Some first) faults ≡ None → ⊥)
        → (b : Bool) → least_onto (if b then Some fault else Some least) faults ≡ None → ⊥
    by rest true h = rest fault h
    by rest false h = rest least h

-- none where there are none
pub least_onto-none : (faults : List ScopeFault) → least_onto None faults ≡ None → faults ≡ []
least_onto-none [] h = refl
least_onto-none (fault ∷ faults) h = absurd (some-behind fault faults h)

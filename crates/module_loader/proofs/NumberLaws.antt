-- Where numbers rise along no import, a module whose imports all have less ones begins no cycle.
use Rattle.std.proofs.Common.{◌≡◌, ◌⊎◌, inl, inr, ℕ, ◌+◌, ◌≤◌, ◌<◌, ◌==◌, ◌||◌, Bool, true, false}
use Rattle.std.proofs.Common.{List, [], ◌∷◌, length, refl, sym, ap, subst, arith}
use Rattle.std.specs.List.{list_any, list_all, slice_index_or}
use Rattle.std.proofs.lemmas.Bool.{false≢true, cases_lt, leb-true, ltb-true}
use Rattle.std.proofs.lemmas.List.{get_or_past}
use Rattle.module_set.specs.Cycles.{leads, leads_over}
use Rattle.module_loader.specs.inside.Numbers.{number, is_less, is_no_greater, all_less, RisesNot, RisesNotAt}
use Rattle.module_loader.proofs.DistanceLaws.{same-number, other-number}
use Rattle.module_loader.proofs.WayLaws.{NoneBelow, and-left, and-right}

all-any : (test : ℕ → Bool) (targets : List ℕ) (target : ℕ) → list_all test targets ≡ true →
    list_any (λ k. k == target) targets ≡ true → test target ≡ true
all-any test [] target all any = absurd (false≢true any)
all-any test (own ∷ targets) target all any =
    by (own == target) refl any (λ rest. all-any test targets target
    (and-right (test own) (list_all test targets) all) rest)
  where
    by : (b : Bool) → (own == target) ≡ b → (b || list_any (λ k. k == target) targets) ≡ true →
        (list_any (λ k. k == target) targets ≡ true → test target ≡ true) → test target ≡ true
    by true same any later =
        subst (λ k. test k ≡ true) (same-number own target same) (and-left (test own) (list_all test targets) all)
    by false same any later = later any

no-rise : (links : List (List ℕ)) (numbers : List ℕ) → RisesNot links numbers → (index target : ℕ) →
    leads links index target ≡ true → number numbers target ≤ number numbers index
no-rise links numbers none index target leads_there =
    leb-true (number numbers target) (number numbers index)
    (all-any (is_no_greater numbers (number numbers index)) (slice_index_or links index []) target (none index)
    leads_there)

no-rise-over : (links : List (List ℕ)) (numbers : List ℕ) → RisesNot links numbers → (index : ℕ) (way : List ℕ)
    (to : ℕ) → leads_over links index way to ≡ true → number numbers to ≤ number numbers index
no-rise-over links numbers none index [] to over = no-rise links numbers none index to over
no-rise-over links numbers none index (next ∷ way) to over =
    let step = no-rise links numbers none index next
    (and-left (leads links index next) (leads_over links next way to) over) in
    let rest = no-rise-over links numbers none next way to
    (and-right (leads links index next) (leads_over links next way to) over) in
    omega (arith, rest, step)

falls : (links : List (List ℕ)) (numbers : List ℕ) (index target : ℕ) → all_less links numbers index ≡ true →
    leads links index target ≡ true → number numbers target < number numbers index
falls links numbers index target less leads_there =
    ltb-true (number numbers target) (number numbers index)
    (all-any (is_less numbers (number numbers index)) (slice_index_or links index []) target less leads_there)

falls-over : (links : List (List ℕ)) (numbers : List ℕ) → RisesNot links numbers → (index : ℕ) (way : List ℕ)
    (to : ℕ) → all_less links numbers index ≡ true → leads_over links index way to ≡ true →
    number numbers to < number numbers index
falls-over links numbers none index [] to less over = falls links numbers index to less over
falls-over links numbers none index (next ∷ way) to less over =
    let step = falls links numbers index next less
    (and-left (leads links index next) (leads_over links next way to) over) in
    let rest = no-rise-over links numbers none next way to
    (and-right (leads links index next) (leads_over links next way to) over) in
    omega (arith, rest, step)

-- a module whose imports all have less numbers begins no cycle
pub none-numbered : (links : List (List ℕ)) (numbers : List ℕ) (start : ℕ) → RisesNot links numbers →
    NoneBelow links start → all_less links numbers start ≡ true → NoneBelow links (start + 1)
none-numbered links numbers start rises none less first way over = by (start == first) refl
  where
    by : (b : Bool) → (start == first) ≡ b → start + 1 ≤ first
    by true same =
        let here = subst (λ k. leads_over links k way k ≡ true) (sym (same-number start first same)) over in
        let below = falls-over links numbers rises start way start less here in
        absurd (omega (arith, below))
    by false apart = omega (arith, none first way over, other-number start first apart)

-- the modules that there are suffice
pub all-rise-not : (links : List (List ℕ)) (numbers : List ℕ) (count : ℕ) → length links ≤ count →
    ((index : ℕ) → index < count → RisesNotAt links numbers index) → RisesNot links numbers
all-rise-not links numbers count whole each index = by (cases_lt index count)
  where
    by : (index < count) ⊎ (count ≤ index) → RisesNotAt links numbers index
    by (inl within) = each index within
    by (inr past) = ap (list_all (is_no_greater numbers (number numbers index)))
        (get_or_past links index [] (omega (arith, past, whole)))

-- where each number is 0, none rises
pub zeros-rise-not : (links : List (List ℕ)) (numbers : List ℕ) → numbers ≡ [] → RisesNot links numbers
zeros-rise-not links numbers none index =
    subst (λ own. RisesNotAt links own index) (sym none) (all (slice_index_or links index []))
  where
    all : (targets : List ℕ) → list_all (is_no_greater [] 0) targets ≡ true
    all [] = refl
    all (target ∷ targets) = all targets

-- one more module at which they rise not
pub rise-not-more : (links : List (List ℕ)) (numbers : List ℕ) (here : ℕ) →
    ((index : ℕ) → index < here → RisesNotAt links numbers index) → RisesNotAt links numbers here → (index : ℕ) →
    index < here + 1 → RisesNotAt links numbers index
rise-not-more links numbers here before own index within = by (here == index) refl
  where
    by : (b : Bool) → (here == index) ≡ b → RisesNotAt links numbers index
    by true same = subst (RisesNotAt links numbers) (same-number here index same) own
    by false apart = before index (omega (arith, within, other-number here index apart))

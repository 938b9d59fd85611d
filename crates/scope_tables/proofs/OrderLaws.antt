-- The walk over the modules, step by step.
use Rattle.std.proofs.Common.{◌≡◌, ◌⊎◌, inl, inr, ℕ, suc, zero, ◌+◌, ◌-◌, ◌≤◌, ◌<◌, ◌==◌, ◌||◌, Bool, true}
use Rattle.std.proofs.Common.{false, List, [], ◌∷◌, ◌++◌, length, take, reverse, slice_get, slice_set}
use Rattle.std.proofs.Common.{slice_index_or, Some, None, ltb, refl, sym, ap, ◌∙◌, subst, arith, if◌then◌else◌}
use Rattle.std.specs.List.{list_any, list_all}
use Rattle.std.proofs.lemmas.Bool.{false≢true, both_ways, cases_lt, and_parts, and_from, or_cases, or_parts}
use Rattle.std.proofs.lemmas.Bool.{or_from, or_left, or_right, ltb-true, lt-ltb, eqb-true, eqb-false}
use Rattle.std.proofs.lemmas.List.{reverse-append, length-set, length_push, get_or-set_same, get_or-set_other}
use Rattle.std.proofs.lemmas.List.{set-get_or, take_all, take_at, take-append-le, take_more, get_or_past}
use Rattle.std.proofs.lemmas.Option.{none-some, same_Some, slice_get-get_or, slice_get_within, get_or_from_slice_get}
use Rattle.std.proofs.Math.Bool.{or-false, or_assoc}
use Rattle.case_table.specs.Lists.{firsts, with_first}
use Rattle.case_table.specs.ListLaws.{firsts-push, with_first-new, slice_get-append, slice_get-push}
use Rattle.module_set.specs.Cycles.{leads, leads_over, HasNoCycle}
use Rattle.scope_tables.specs.declared.order.Opened.{Opened}
use Rattle.scope_tables.specs.declared.order.Walk.{Walk}
use Rattle.scope_tables.specs.inside.Order.{is_among, are_below, AreWithin, IsOrder}
use Rattle.scope_tables.specs.inside.Ordering.{targets_of, modules, begun, gone_on, IsFresh, IsBehind, StandUnder}
use Rattle.scope_tables.specs.inside.Ordering.{Stand}
use Rattle.scope_tables.specs.inside.Ordering.{IsWalk, unseen, left, visited, Keeps, Visits, Steps, Ends, Walked}
use Rattle.scope_tables.proofs.MemberLaws.{numbers, turned, all-at, any-at, both-all}

itself : (a : ℕ) → (a == a) ≡ true
itself a = grind arith

-- members of a list
among-push : (ms : List ℕ) (m x : ℕ) → is_among (ms ++ m ∷ []) x ≡ (is_among ms x || (m == x))
among-push [] m x = or-false (m == x)
among-push (y ∷ ms) m x =
    ap (λ (b : Bool). (y == x) || b) (among-push ms m x) ∙ sym (or_assoc (y == x) (is_among ms x) (m == x))

pub among-last : (ms : List ℕ) (m : ℕ) → is_among (ms ++ m ∷ []) m ≡ true
among-last ms m = among-push ms m m ∙ or_right (is_among ms m) (m == m) (itself m)

among-kept : (ms : List ℕ) (m x : ℕ) → is_among ms x ≡ true → is_among (ms ++ m ∷ []) x ≡ true
among-kept ms m x e = among-push ms m x ∙ or_left (is_among ms x) (m == x) e

-- one more member before the last
among-before : (ms : List ℕ) (m last x : ℕ) → is_among (ms ++ last ∷ []) x ≡ true →
    is_among ((ms ++ m ∷ []) ++ last ∷ []) x ≡ true
among-before ms m last x e =
    among-push (ms ++ m ∷ []) last x ∙ by (or_cases (is_among ms x) (last == x) (sym (among-push ms last x) ∙ e))
  where
    by : (is_among ms x ≡ true) ⊎ ((last == x) ≡ true) → (is_among (ms ++ m ∷ []) x || (last == x)) ≡ true
    by (inl h) = or_left (is_among (ms ++ m ∷ []) x) (last == x) (among-kept ms m x h)
    by (inr h) = or_right (is_among (ms ++ m ∷ []) x) (last == x) h

among-get : (xs : List ℕ) (k x : ℕ) → slice_get xs k ≡ Some x → is_among xs x ≡ true
among-get xs k x at = any-at (λ y. y == x) xs k x at (itself x)

any-flipped : (xs : List ℕ) (x : ℕ) → list_any (◌==◌ x) xs ≡ is_among xs x
any-flipped [] x = refl
any-flipped (y ∷ xs) x =
    ap (λ (b : Bool). b || list_any (◌==◌ x) xs) (turned ◌==◌ numbers x y)
    ∙ ap (λ (b : Bool). (y == x) || b) (any-flipped xs x)

apart-push : (ms : List ℕ) (m : ℕ) → firsts ◌==◌ ms ≡ ms → is_among ms m ≡ false →
    firsts ◌==◌ (ms ++ m ∷ []) ≡ ms ++ m ∷ []
apart-push ms m apart out =
    firsts-push ◌==◌ ms m
    ∙ (ap (λ (xs : List ℕ). with_first ◌==◌ xs m) apart ∙ with_first-new ◌==◌ ms m (any-flipped ms m ∙ out))

-- tests of all members
all-mono : (p q : ℕ → Bool) → ((t : ℕ) → p t ≡ true → q t ≡ true) → (xs : List ℕ) → list_all p xs ≡ true →
    list_all q xs ≡ true
all-mono p q h [] all = refl
all-mono p q h (x ∷ xs) all =
    let parts = and_parts (p x) (list_all p xs) all in
    and_from (q x) (list_all q xs) (h x parts.0) (all-mono p q h xs parts.1)

all-push : (p : ℕ → Bool) (xs : List ℕ) (x : ℕ) → list_all p xs ≡ true → p x ≡ true →
    list_all p (xs ++ x ∷ []) ≡ true
all-push p xs x all h = both-all p xs (x ∷ []) all (and_from (p x) true h refl)

all-among : (p : ℕ → Bool) (xs : List ℕ) → ((x : ℕ) → is_among xs x ≡ true → p x ≡ true) → list_all p xs ≡ true
all-among p [] h = refl
all-among p (y ∷ xs) h =
    and_from (p y) (list_all p xs) (h y (or_left (y == y) (is_among xs y) (itself y)))
    (all-among p xs (λ x e. h x (or_right (y == x) (is_among xs x) e)))

-- what is imported is a module
pub target-within : (links : List (List ℕ)) (m n t : ℕ) → AreWithin links →
    slice_get (targets_of links m) n ≡ Some t → t < length links
target-within links m n t within at = by (cases_lt m (length links))
  where
    by : (m < length links) ⊎ (length links ≤ m) → t < length links
    by (inl inside) =
        ltb-true t (length links)
        (all-at (λ k. ltb k (length links)) (targets_of links m) n t
        (all-at (are_below (length links)) links m (targets_of links m) within (slice_get-get_or links m [] inside))
        at)
    by (inr past) =
        absurd (none-some t (subst (λ (targets : List ℕ). slice_get targets n ≡ Some t) (get_or_past links m [] past)
        at))

seen-within : (seen : List Bool) (m : ℕ) → slice_index_or seen m false ≡ true → m < length seen
seen-within seen m is = by (cases_lt m (length seen))
  where
    by : (m < length seen) ⊎ (length seen ≤ m) → m < length seen
    by (inl inside) = inside
    by (inr past) = absurd (false≢true (sym (get_or_past seen m false past) ∙ is))

take-one-more : (xs : List ℕ) (n t : ℕ) → slice_get xs n ≡ Some t → take (n + 1) xs ≡ take n xs ++ t ∷ []
take-one-more xs n t at =
    take_more xs n t (slice_get_within xs n t at)
    ∙ ap (λ (value : ℕ). take n xs ++ value ∷ []) (get_or_from_slice_get xs n t t at)

none-past : (xs : List ℕ) (n : ℕ) → slice_get xs n ≡ None → length xs ≤ n
none-past xs n at = by (cases_lt n (length xs))
  where
    by : (n < length xs) ⊎ (length xs ≤ n) → length xs ≤ n
    by (inl inside) = absurd (none-some (slice_index_or xs n 0) (sym at ∙ slice_get-get_or xs n 0 inside))
    by (inr past) = past

fresh-done : (done ms : List ℕ) (m : ℕ) → IsFresh done ms → is_among ms m ≡ false → IsFresh (done ++ m ∷ []) ms
fresh-done done [] m h out = tt
fresh-done done (x ∷ ms) m h out =
    let parts = or_parts (x == m) (is_among ms m) out in (
      among-push done m x ∙ or_from (is_among done x) (m == x) h.0 (turned ◌==◌ numbers m x ∙ parts.0),
      h.1,
      fresh-done done ms m h.2 parts.1,
    )

-- a path to a module that is open closes a cycle
here : (links : List (List ℕ)) (above t : ℕ) (way : List ℕ) → HasNoCycle links → leads_over links above way t ≡ true →
    (others : Bool) → (others ≡ true → ⊥) → (b : Bool) → (above == t) ≡ b → (b || others) ≡ true → ⊥
here links above t way none over others later true same among =
    both_ways (leads_over links t way t) (none (t ∷ way))
    (subst (λ k. leads_over links k way t ≡ true) (eqb-true above t same) over)
here links above t way none over others later false same among = later among

on-path : (links : List (List ℕ)) (done : List ℕ) (above : ℕ) (rest : List Opened) → StandUnder links done above rest →
    (t : ℕ) (way : List ℕ) → HasNoCycle links → leads_over links above way t ≡ true →
    is_among (above ∷ modules rest) t ≡ true → ⊥
on-path links done above [] stand t way none over among =
    here links above t way none over false (λ e. false≢true e) (above == t) refl among
on-path links done above (one ∷ rest) stand t way none over among =
    here links above t way none over (is_among (modules (one ∷ rest)) t)
    (λ later. on-path links done one.index rest stand.2 t (above ∷ way) none
    (and_from (leads links one.index above) (leads_over links above way t) stand.0 over) later)
    (above == t) refl among

target-done : (links : List (List ℕ)) (done : List ℕ) (last : Opened) (rest : List Opened) (t : ℕ) →
    HasNoCycle links → StandUnder links done last.index rest → leads links last.index t ≡ true →
    (is_among done t || is_among (modules (last ∷ rest)) t) ≡ true → is_among done t ≡ true
target-done links done last rest t none stand step h =
    by (or_cases (is_among done t) (is_among (modules (last ∷ rest)) t) h)
  where
    by : (is_among done t ≡ true) ⊎ (is_among (modules (last ∷ rest)) t ≡ true) → is_among done t ≡ true
    by (inl e) = e
    by (inr e) = absurd (on-path links done last.index rest stand t [] none step e)

-- one more module has ended
under-more : (links : List (List ℕ)) (done : List ℕ) (above : ℕ) (rest : List Opened) (m : ℕ) →
    StandUnder links done above rest → StandUnder links (done ++ m ∷ []) above rest
under-more links done above [] m h = tt
under-more links done above (one ∷ rest) m h = (
  h.0,
  all-mono (is_among (done ++ above ∷ [])) (is_among ((done ++ m ∷ []) ++ above ∷ []))
      (λ t e. among-before done m above t e) (take one.next (targets_of links one.index)) h.1,
  under-more links done one.index rest m h.2,
)

stand-done : (links : List (List ℕ)) (done : List ℕ) (m : ℕ) (rest : List Opened) → StandUnder links done m rest →
    Stand links (done ++ m ∷ []) rest
stand-done links done m [] h = tt
stand-done links done m (one ∷ rest) h = (h.1, under-more links done one.index rest m h.2)

behind-push : (links : List (List ℕ)) (done : List ℕ) (m : ℕ) →
    ((k x : ℕ) → slice_get done k ≡ Some x → list_all (is_among (take k done)) (targets_of links x) ≡ true) →
    list_all (is_among done) (targets_of links m) ≡ true → (k x : ℕ) → slice_get (done ++ m ∷ []) k ≡ Some x →
    list_all (is_among (take k (done ++ m ∷ []))) (targets_of links x) ≡ true
behind-push links done m behind all k x at = by (cases_lt k (length done))
  where
    by : (k < length done) ⊎ (length done ≤ k) →
        list_all (is_among (take k (done ++ m ∷ []))) (targets_of links x) ≡ true
    by (inl inside) =
        let there = slice_get-get_or done k m inside in
        let was : slice_get done k ≡ Some x =
        there ∙ (sym (slice_get-append done (m ∷ []) k (slice_index_or done k m) there) ∙ at) in
        subst (λ (ms : List ℕ). list_all (is_among ms) (targets_of links x) ≡ true)
        (sym (take-append-le k done (m ∷ []) (omega (arith, inside)))) (behind k x was)
    by (inr past) =
        let inside = slice_get_within (done ++ m ∷ []) k x at in
        let last : length done ≡ k = omega (arith, inside, length_push done m, past) in
        let same : m ≡ x =
        same_Some m x (sym (slice_get-push done m) ∙ (ap (slice_get (done ++ m ∷ [])) last ∙ at)) in
        subst (λ (ms : List ℕ). list_all (is_among ms) (targets_of links x) ≡ true)
        (sym (take_at done (m ∷ []) k last))
        (subst (λ n. list_all (is_among done) (targets_of links n) ≡ true) same all)

-- the module that was open last ends
walk-ends : (links : List (List ℕ)) (seen : List Bool) (last : Opened) (rest : List Opened) (done : List ℕ) →
    IsWalk links seen (last ∷ rest) done → slice_get (targets_of links last.index) last.next ≡ None →
    IsWalk links seen rest (done ++ last.index ∷ [])
walk-ends links seen last rest done walk at = record {
  long = walk.long;
  seen_are = λ m. walk.seen_are m
      ∙ (sym (or_assoc (is_among done m) (last.index == m) (is_among (modules rest) m))
      ∙ ap (λ (b : Bool). b || is_among (modules rest) m) (sym (among-push done last.index m)));
  fresh = fresh-done done (modules rest) last.index walk.fresh.2 walk.fresh.1;
  apart = apart-push done last.index walk.apart walk.fresh.0;
  behind = behind-push links done last.index walk.behind
      (subst (λ (targets : List ℕ). list_all (is_among done) targets ≡ true)
      (take_all last.next (targets_of links last.index) (none-past (targets_of links last.index) last.next at))
      walk.path.0);
  path = stand-done links done last.index rest walk.path.1;
}

-- it goes on past one that was seen
walk-passes : (links : List (List ℕ)) (seen : List Bool) (last : Opened) (rest : List Opened) (done : List ℕ) (t : ℕ) →
    HasNoCycle links → IsWalk links seen (last ∷ rest) done →
    slice_get (targets_of links last.index) last.next ≡ Some t → slice_index_or seen t false ≡ true →
    IsWalk links seen (gone_on last ∷ rest) done
walk-passes links seen last rest done t none walk at is = record {
  long = walk.long;
  seen_are = walk.seen_are;
  fresh = walk.fresh;
  apart = walk.apart;
  behind = walk.behind;
  path = (
    subst (λ (targets : List ℕ). list_all (is_among done) targets ≡ true)
        (sym (take-one-more (targets_of links last.index) last.next t at))
        (all-push (is_among done) (take last.next (targets_of links last.index)) t walk.path.0
        (target-done links done last rest t none walk.path.1 (among-get (targets_of links last.index) last.next t at)
        (sym (walk.seen_are t) ∙ is))),
    walk.path.1,
  );
}

-- a module that wasn't seen is opened
walk-opened : (links : List (List ℕ)) (seen : List Bool) (stack others : List Opened) (done : List ℕ) (t : ℕ) →
    IsWalk links seen stack done → modules others ≡ modules stack → slice_index_or seen t false ≡ false →
    t < length seen → Stand links done (begun t ∷ others) → IsWalk links (slice_set seen t true) (begun t ∷ others) done
walk-opened links seen stack others done t walk same new inside stand =
    let out = or_parts (is_among done t) (is_among (modules stack) t) (sym (walk.seen_are t) ∙ new) in
    record {
      long = length-set seen t true ∙ walk.long;
      seen_are = λ m. by m (t == m) refl;
      fresh = (
        out.0,
        subst (λ (ms : List ℕ). is_among ms t ≡ false) (sym same) out.1,
        subst (IsFresh done) (sym same) walk.fresh,
      );
      apart = walk.apart;
      behind = walk.behind;
      path = stand;
    }
  where
    by : (m : ℕ) (b : Bool) → (t == m) ≡ b →
        slice_index_or (slice_set seen t true) m false ≡ (is_among done m || (b || is_among (modules others) m))
    by m true e =
        subst (λ k. slice_index_or (slice_set seen t true) k false ≡ true) (eqb-true t m e)
        (get_or-set_same seen t true false inside)
        ∙ sym (or_right (is_among done m) true refl)
    by m false e =
        get_or-set_other seen t m true false (λ k. eqb-false t m e (sym k))
        ∙ (walk.seen_are m ∙ ap (λ (ms : List ℕ). is_among done m || is_among ms m) (sym same))

walk-opens : (links : List (List ℕ)) (seen : List Bool) (last : Opened) (rest : List Opened) (done : List ℕ) (t : ℕ) →
    IsWalk links seen (last ∷ rest) done → slice_get (targets_of links last.index) last.next ≡ Some t →
    slice_index_or seen t false ≡ false → t < length seen →
    IsWalk links (slice_set seen t true) (begun t ∷ gone_on last ∷ rest) done
walk-opens links seen last rest done t walk at new inside =
    walk-opened links seen (last ∷ rest) (gone_on last ∷ rest) done t walk refl new inside
    (refl, (among-get (targets_of links last.index) last.next t at, more, walk.path.1))
  where
    more : IsBehind links (done ++ t ∷ []) (gone_on last)
    more =
        subst (λ (targets : List ℕ). list_all (is_among (done ++ t ∷ [])) targets ≡ true)
        (sym (take-one-more (targets_of links last.index) last.next t at))
        (all-push (is_among (done ++ t ∷ [])) (take last.next (targets_of links last.index)) t
        (all-mono (is_among done) (is_among (done ++ t ∷ [])) (λ x e. among-kept done t x e)
        (take last.next (targets_of links last.index)) walk.path.0)
        (among-last done t))

-- flags
set-known : (seen : List Bool) (t : ℕ) → slice_index_or seen t false ≡ true → slice_set seen t true ≡ seen
set-known seen t is = ap (slice_set seen t) (sym is) ∙ set-get_or seen t false

set-keeps : (seen : List Bool) (t : ℕ) → Keeps seen (slice_set seen t true)
set-keeps seen t m is = by (t == m) refl
  where
    by : (b : Bool) → (t == m) ≡ b → slice_index_or (slice_set seen t true) m false ≡ true
    by true e =
        let same = eqb-true t m e in
        subst (λ k. slice_index_or (slice_set seen t true) k false ≡ true) same
        (get_or-set_same seen t true false (omega (arith, seen-within seen m is, same)))
    by false e = get_or-set_other seen t m true false (λ k. eqb-false t m e (sym k)) ∙ is

unseen-set : (links : List (List ℕ)) (seen : List Bool) (t : ℕ) → length seen ≡ length links →
    slice_index_or seen t false ≡ false → t < length seen →
    unseen links (slice_set seen t true) + suc (length (targets_of links t)) ≡ unseen links seen
unseen-set [] [] t long new inside = absurd (omega (arith, inside))
unseen-set [] (b ∷ seen) t long new inside = absurd (omega (arith, long))
unseen-set (targets ∷ links) [] t long new inside = absurd (omega (arith, long))
unseen-set (targets ∷ links) (b ∷ seen) zero long new inside = by b new
  where
    by : (b : Bool) → b ≡ false → (0 + unseen links seen) + suc (length targets)
        ≡ (if b then 0 else suc (length targets)) + unseen links seen
    by true e = absurd (false≢true (sym e))
    by false e = omega arith
unseen-set (targets ∷ links) (b ∷ seen) (suc t) long new inside =
    let later = unseen-set links seen t (omega (arith, long)) new (omega (arith, inside)) in
    by (if b then 0 else suc (length targets)) later
  where
    by : (n : ℕ) → unseen links (slice_set seen t true) + suc (length (targets_of links t)) ≡ unseen links seen →
        (n + unseen links (slice_set seen t true)) + suc (length (targets_of links t)) ≡ n + unseen links seen
    by n later = omega (arith, later)

-- the same for lists that are equal
walk-as : (links : List (List ℕ)) (seen own_seen : List Bool) (stack own_stack : List Opened) (done own_done : List ℕ) →
    IsWalk links seen stack done → own_seen ≡ seen → own_stack ≡ stack → own_done ≡ done →
    IsWalk links own_seen own_stack own_done
walk-as links seen own_seen stack own_stack done own_done walk same_seen same_stack same_done =
    subst (λ (flags : List Bool). IsWalk links flags own_stack own_done) (sym same_seen)
    (subst (λ (opened : List Opened). IsWalk links seen opened own_done) (sym same_stack)
    (subst (λ (ms : List ℕ). IsWalk links seen stack ms) (sym same_done) walk))

pub reversed : (whole opened : List Opened) (last : Opened) → whole ≡ opened ++ last ∷ [] →
    reverse whole ≡ last ∷ reverse opened
reversed whole opened last is = ap reverse is ∙ reverse-append opened (last ∷ [])

-- a step that ends a module
pub steps-end : (links : List (List ℕ)) (old new : Walk) (last : Opened) →
    IsWalk links old.seen.items (last ∷ reverse old.opened.items) old.done.items →
    slice_get (targets_of links last.index) last.next ≡ None → new.seen.items ≡ old.seen.items →
    new.opened.items ≡ old.opened.items → new.done.items ≡ old.done.items ++ last.index ∷ [] →
    Steps links old last new
steps-end links old new last walk at same_seen same_opened done_is =
    let same_left : left links (reverse new.opened.items) ≡ left links (reverse old.opened.items) =
    ap (λ (opened : List Opened). left links (reverse opened)) same_opened in
    let same_unseen : unseen links new.seen.items ≡ unseen links old.seen.items = ap (unseen links) same_seen in
    record {
      walk = walk-as links old.seen.items new.seen.items (reverse old.opened.items) (reverse new.opened.items)
          (old.done.items ++ last.index ∷ []) new.done.items
          (walk-ends links old.seen.items last (reverse old.opened.items) old.done.items walk at) same_seen
          (ap reverse same_opened) done_is;
      fewer = omega (arith, same_left, same_unseen);
      kept = λ m is. ap (λ (flags : List Bool). slice_index_or flags m false) same_seen ∙ is;
    }

-- a step over an import
pub steps-on : (links : List (List ℕ)) (old new : Walk) (pushed : List Opened) (last : Opened) (t : ℕ) →
    AreWithin links → HasNoCycle links →
    IsWalk links old.seen.items (last ∷ reverse old.opened.items) old.done.items →
    slice_get (targets_of links last.index) last.next ≡ Some t → pushed ≡ old.opened.items ++ gone_on last ∷ [] →
    new.seen.items ≡ slice_set old.seen.items t true → new.opened.items ≡ visited old.seen.items t pushed →
    new.done.items ≡ old.done.items → Steps links old last new
steps-on links old new pushed last t within none walk at pushed_is seen_is opened_is same_done =
    by (slice_index_or old.seen.items t false) refl opened_is
  where
    few : last.next < length (targets_of links last.index)
    few = slice_get_within (targets_of links last.index) last.next t at

    on : reverse pushed ≡ gone_on last ∷ reverse old.opened.items
    on = reversed pushed old.opened.items (gone_on last) pushed_is

    kept : Keeps old.seen.items new.seen.items
    kept m is =
        ap (λ (flags : List Bool). slice_index_or flags m false) seen_is ∙ set-keeps old.seen.items t m is

    by : (b : Bool) → slice_index_or old.seen.items t false ≡ b →
        new.opened.items ≡ (if b then pushed else pushed ++ begun t ∷ []) → Steps links old last new
    by true is opened_is =
        let same_seen : new.seen.items ≡ old.seen.items = seen_is ∙ set-known old.seen.items t is in
        let stack_is : reverse new.opened.items ≡ gone_on last ∷ reverse old.opened.items =
        ap reverse opened_is ∙ on in
        let same_unseen : unseen links new.seen.items ≡ unseen links old.seen.items = ap (unseen links) same_seen in
        let left_is : left links (reverse new.opened.items)
        ≡ suc (length (targets_of links last.index) - (last.next + 1)) + left links (reverse old.opened.items) =
        ap (left links) stack_is in
        record {
          walk = walk-as links old.seen.items new.seen.items (gone_on last ∷ reverse old.opened.items)
              (reverse new.opened.items) old.done.items new.done.items
              (walk-passes links old.seen.items last (reverse old.opened.items) old.done.items t none walk at is)
              same_seen stack_is same_done;
          fewer = omega (arith, same_unseen, left_is, few);
          kept = kept;
        }
    by false new_here opened_is =
        let inside : t < length old.seen.items =
        omega (arith, target-within links last.index last.next t within at, walk.long) in
        let stack_is : reverse new.opened.items ≡ begun t ∷ gone_on last ∷ reverse old.opened.items =
        reversed new.opened.items pushed (begun t) opened_is
        ∙ ap (λ (opened : List Opened). begun t ∷ opened) on in
        let less : unseen links (slice_set old.seen.items t true) + suc (length (targets_of links t))
        ≡ unseen links old.seen.items =
        unseen-set links old.seen.items t walk.long new_here inside in
        let unseen_is : unseen links new.seen.items ≡ unseen links (slice_set old.seen.items t true) =
        ap (unseen links) seen_is in
        let left_is : left links (reverse new.opened.items)
        ≡ suc (length (targets_of links t) - 0)
        + (suc (length (targets_of links last.index) - (last.next + 1)) + left links (reverse old.opened.items)) =
        ap (left links) stack_is in
        record {
          walk = walk-as links (slice_set old.seen.items t true) new.seen.items
              (begun t ∷ gone_on last ∷ reverse old.opened.items) (reverse new.opened.items) old.done.items
              new.done.items
              (walk-opens links old.seen.items last (reverse old.opened.items) old.done.items t walk at new_here inside)
              seen_is stack_is same_done;
          fewer = omega (arith, less, unseen_is, left_is, few);
          kept = kept;
        }

-- one more module was walked
pub walked-more : (links : List (List ℕ)) (root : ℕ) (now mid new : Walk) → Walked links root now →
    root < length links → Visits now root mid → Ends links mid new → Walked links (root + 1) new
walked-more links root now mid new walked inside visits ends = record {
  walk = ends.walk;
  none = ends.none;
  each = λ m below. by m below (m == root) refl;
}
  where
    by : (m : ℕ) → m < root + 1 → (b : Bool) → (m == root) ≡ b → slice_index_or new.seen.items m false ≡ true
    by m below true e =
        ends.kept m
        (ap (λ (flags : List Bool). slice_index_or flags m false) visits.seen
        ∙ subst (λ k. slice_index_or (slice_set now.seen.items root true) k false ≡ true)
        (sym (eqb-true m root e))
        (get_or-set_same now.seen.items root true false (omega (arith, walked.walk.long, inside))))
    by m below false e =
        ends.kept m
        (ap (λ (flags : List Bool). slice_index_or flags m false) visits.seen
        ∙ set-keeps now.seen.items root m (walked.each m (omega (arith, below, eqb-false m root e))))

-- where each module was walked, those that have ended are in order
pub walked-all : (links : List (List ℕ)) (root : ℕ) (now : Walk) → Walked links root now → length links ≤ root →
    IsOrder links now.done.items
walked-all links root now walked whole = record {
  apart = walked.walk.apart;
  within = all-among (λ m. ltb m (length links)) now.done.items (λ m e. lt-ltb m (length links) (omega (
    arith,
    walked.walk.long,
    seen-within now.seen.items m (walked.walk.seen_are m ∙ or_left (is_among now.done.items m) false e),
  )));
  whole = λ m below. sym (or-false (is_among now.done.items m)) ∙ (sym (walked.walk.seen_are m)
      ∙ walked.each m (omega (arith, below, whole)));
  behind = walked.walk.behind;
}

-- Laws of what a module sees.
use Rattle.std.proofs.Common.{◌≡◌, ◌∙◌, ◌++◌, ◌∷◌, ◌+◌, ◌<◌, ◌≤◌, ◌==◌, ◌&&◌, ◌||◌, [], ℕ, zero, suc, Bool, true}
use Rattle.std.proofs.Common.{false, List, Some, option_map, take, length, get_or, slice_get, slice_set, refl, sym}
use Rattle.std.proofs.Common.{ap, subst, arith, if◌then◌else◌, ◌⊎◌, inl, inr}
use Rattle.std.specs.List.{list_any, list_all, position}
use Rattle.std.specs.List.Sorted.{IsNonDecreasing, IsPermutation}
use Rattle.std.proofs.Math.Bool.{or-false, or_assoc}
use Rattle.std.proofs.lemmas.Bool.{false≢true, or_left, cond_both, eqb-true, eq-eqb, ne_eqb, cases_eq}
use Rattle.std.proofs.lemmas.List.{append-nil, append_assoc, map-append, map-set, take_more}
use Rattle.std.proofs.lemmas.List.Elements.{filter-append}
use Rattle.std.proofs.lemmas.List.Folds.{list_any-append}
use Rattle.std.proofs.lemmas.List.Quantifiers.{position-Some}
use Rattle.std.proofs.lemmas.List.Sorted.{list_any-IsPermutation}
use Rattle.std.proofs.lemmas.Option.{same_Some, none-some, slice_get-map, slice_get_within, slice_get-get_or}
use Rattle.std.proofs.lemmas.Option.{get_or_from_slice_get}
use Rattle.case_table.specs.Lists.{with_first, firsts, firsts_onto}
use Rattle.case_table.specs.ListLaws.{firsts-push, firsts-firsts, slice_get-once}
use Rattle.mdl_syntax.specs.declared.names.Ident.{Ident}
use Rattle.scope_tables.specs.Brought.{Bringing}
use Rattle.scope_tables.specs.Visible.{lists}
use Rattle.scope_tables.specs.declared.entity.Entity.{Entity}
use Rattle.scope_tables.specs.declared.reach.Reach.{Reach}
use Rattle.scope_tables.specs.inside.Owning.{same_text}
use Rattle.scope_tables.specs.inside.Reaching.{is_listed, brings_it, Tells, Grows, names_it, froms, from_module}
use Rattle.scope_tables.specs.inside.Reaching.{modules_of, Ascends, AreTold, TakesIn, AreReaches}
use Rattle.scope_tables.proofs.OwnLaws.{same_text-tells}
use Rattle.scope_tables.proofs.MemberLaws.{numbers, any-at, any-with_first, any-firsts_onto, turned, crossed}

-- the names of one more
pub listed-more : (keys now : List (List ℕ)) (name : Ident) (entity : Entity)
    → now ≡ with_first same_text keys name.text
    → is_listed now entity ≡ (is_listed keys entity || names_it name entity)
listed-more keys now name entity is =
    ap (λ l. is_listed l entity) is
    ∙ (λ k. one entity.name k || one entity.group k)
    ∙ crossed (list_any (same_text entity.name) keys) (same_text name.text entity.name)
    (list_any (same_text entity.group) keys) (same_text name.text entity.group)
  where
    one : (text : List ℕ) → list_any (same_text text) (with_first same_text keys name.text)
        ≡ (list_any (same_text text) keys || same_text name.text text)
    one text =
        any-with_first same_text same_text-tells (same_text text) keys name.text
        ∙ ap (λ b. list_any (same_text text) keys || b) (turned same_text same_text-tells text name.text)

-- one name after others
pub grows-name : (old now new : Reach) (names : List Ident) (i : ℕ) (name : Ident) (used : Bool)
    → i < length names → get_or names i name ≡ name
    → Grows old (lists (Some (take i names))) used now → Grows now (names_it name) used new
    → Grows old (lists (Some (take (i + 1) names))) used new
grows-name old now new names i name used within at before one = record {
  of = one.of ∙ before.of;
  own = one.own ∙ before.own;
  imports = λ entity.
      one.imports entity
      ∙ ap (λ b. b || names_it name entity) (before.imports entity)
      ∙ or_assoc (brings_it old entity false) (lists (Some (take i names)) entity) (names_it name entity)
      ∙ ap (λ b. brings_it old entity false || b) (sym (longer entity));
  uses = λ entity.
      one.uses entity
      ∙ ap (λ b. b || (used && names_it name entity)) (before.uses entity)
      ∙ shared (brings_it old entity true) used (lists (Some (take i names)) entity) (names_it name entity)
      ∙ ap (λ b. brings_it old entity true || (used && b)) (sym (longer entity));
}
  where
    longer : (entity : Entity) → lists (Some (take (i + 1) names)) entity
        ≡ (lists (Some (take i names)) entity || names_it name entity)
    longer entity =
        ap (λ l. lists (Some l) entity) (take_more names i name within ∙ ap (λ one. take i names ++ one ∷ []) at)
        ∙ list_any-append (λ name. names_it name entity) (take i names) (name ∷ [])
        ∙ ap (λ b. lists (Some (take i names)) entity || b) (or-false (names_it name entity))

    shared : (a used b c : Bool) → ((a || (used && b)) || (used && c)) ≡ (a || (used && (b || c)))
    shared true used b c = refl
    shared false true b c = refl
    shared false false b c = refl

-- one more bringing from a module
tells-more : (bringings : List Bringing) (bringing : Bringing) (old new : Reach) → Tells bringings old
    → Grows old (lists bringing.names) bringing.used new → Tells (bringings ++ bringing ∷ []) new
tells-more bringings bringing old new before grows = record {
  imported = λ entity.
      grows.imports entity
      ∙ ap (λ b. b || lists bringing.names entity) (before.imported entity)
      ∙ sym (list_any-append (λ (b : Bringing). lists b.names entity) bringings (bringing ∷ [])
      ∙ ap (λ b. list_any (λ (b : Bringing). lists b.names entity) bringings || b)
      (or-false (lists bringing.names entity)));
  used = λ entity.
      grows.uses entity
      ∙ ap (λ b. b || (bringing.used && lists bringing.names entity)) (before.used entity)
      ∙ sym (list_any-append (λ (b : Bringing). b.used && lists b.names entity) bringings (bringing ∷ [])
      ∙ ap (λ b. list_any (λ (b : Bringing). b.used && lists b.names entity) bringings || b)
      (or-false (bringing.used && lists bringing.names entity)));
}

-- what one more member at the end leaves, and where it stands
pushed : {A : Type 0} (P : Type 0) (xs : List A) (x : A) (k : ℕ) (y : A) → slice_get (xs ++ x ∷ []) k ≡ Some y
    → (slice_get xs k ≡ Some y → P) → (x ≡ y → P) → P
pushed P [] x zero y at old new = new (same_Some x y at)
pushed P [] x (suc k) y at old new = absurd (none-some y at)
pushed P (z ∷ xs) x zero y at old new = old at
pushed P (z ∷ xs) x (suc k) y at old new = pushed P xs x k y at old new

-- one more module
pub told-new : (own m : ℕ) (keys now : List ℕ) (all : List Reach) (reach : Reach) → now ≡ keys ++ m ∷ []
    → reach.module ≡ m → reach.own ≡ (m == own) → Tells [] reach → AreTold own keys [] all
    → AreTold own now [] (all ++ reach ∷ [])
told-new own m keys now all reach is of own_is tells before = record {
  modules_are =
      map-append (λ (reach : Reach). reach.module) all (reach ∷ [])
      ∙ (λ k. before.modules_are k ++ of k ∷ []) ∙ sym is;
  own_is = λ k one at.
      pushed (one.own ≡ (one.module == own)) all reach k one at (before.own_is k one)
      (λ e. subst (λ (one : Reach). one.own ≡ (one.module == own)) e (own_is ∙ ap (λ n. n == own) (sym of)));
  tells = λ k one at.
      pushed (Tells [] one) all reach k one at (before.tells k one) (λ e. subst (Tells []) e tells);
}

-- what comes from another module
from-other : (m : ℕ) (bringings : List Bringing) (bringing : Bringing) → (bringing.from ≡ m → ⊥)
    → from_module m (bringings ++ bringing ∷ []) ≡ from_module m bringings
from-other m bringings bringing other =
    filter-append (λ (b : Bringing). b.from == m) bringings (bringing ∷ [])
    ∙ ap (λ b. from_module m bringings ++ (if b then bringing ∷ [] else [])) (ne_eqb bringing.from m other)
    ∙ append-nil (from_module m bringings)

from-same : (m : ℕ) (bringings : List Bringing) (bringing : Bringing) → bringing.from ≡ m
    → from_module m (bringings ++ bringing ∷ []) ≡ from_module m bringings ++ bringing ∷ []
from-same m bringings bringing same =
    filter-append (λ (b : Bringing). b.from == m) bringings (bringing ∷ [])
    ∙ ap (λ b. from_module m bringings ++ (if b then bringing ∷ [] else [])) (eq-eqb bringing.from m same)

reached-at : (own : ℕ) (keys : List ℕ) (bringings : List Bringing) (all : List Reach) (k : ℕ) (reach : Reach)
    → AreTold own keys bringings all → slice_get all k ≡ Some reach → slice_get keys k ≡ Some reach.module
reached-at own keys bringings all k reach told at =
    ap (λ l. slice_get l k) (sym told.modules_are)
    ∙ slice_get-map (λ (reach : Reach). reach.module) all k
    ∙ ap (option_map (λ (reach : Reach). reach.module)) at

-- nothing is brought from a module that isn't seen
pub takes-none : (keys : List ℕ) (bringing : Bringing) (all : List Reach)
    → list_any (λ m. bringing.from == m) keys ≡ false → TakesIn keys (bringing ∷ []) all all
takes-none keys bringing all none = record {
  told = λ own before apart told. record {
    modules_are = told.modules_are;
    own_is = told.own_is;
    tells = λ k reach at.
        subst (λ l. Tells l reach)
        (sym (from-other reach.module before bringing (λ same.
        false≢true (sym none ∙ any-at (λ m. bringing.from == m) keys k reach.module
        (reached-at own keys before all k reach told at) (eq-eqb bringing.from reach.module same)))))
        (told.tells k reach at);
  };
}

-- what a member that is set leaves
set-at : {A : Type 0} (P : Type 0) (xs : List A) (p : ℕ) (y : A) (k : ℕ) (z : A)
    → slice_get (slice_set xs p y) k ≡ Some z → (k ≡ p → y ≡ z → P) → ((k ≡ p → ⊥) → slice_get xs k ≡ Some z → P) → P
set-at P [] p y k z at same other = absurd (none-some z at)
set-at P (x ∷ xs) zero y zero z at same other = same refl (same_Some y z at)
set-at P (x ∷ xs) zero y (suc k) z at same other = other (λ e. omega (arith, e)) at
set-at P (x ∷ xs) (suc p) y zero z at same other = other (λ e. omega (arith, e)) at
set-at P (x ∷ xs) (suc p) y (suc k) z at same other =
    set-at P xs p y k z at (λ e. same (ap suc e)) (λ apart. other (λ e. apart (omega (arith, e))))

set-same : {A : Type 0} (xs : List A) (p : ℕ) (x : A) → slice_get xs p ≡ Some x → slice_set xs p x ≡ xs
set-same [] p x at = refl
set-same (y ∷ xs) zero x at = ap (λ z. z ∷ xs) (sym (same_Some y x at))
set-same (y ∷ xs) (suc p) x at = ap (λ l. y ∷ l) (set-same xs p x at)

-- the reach at the place of the module that it is brought from tells it
pub takes-one : (keys : List ℕ) (bringing : Bringing) (all : List Reach) (p : ℕ) (old new : Reach)
    → slice_get keys p ≡ Some bringing.from → slice_get all p ≡ Some old
    → Grows old (lists bringing.names) bringing.used new → TakesIn keys (bringing ∷ []) all (slice_set all p new)
takes-one keys bringing all p old new key_at at grows = record {
  told = λ own before apart told.
      let of : bringing.from ≡ old.module =
      same_Some bringing.from old.module (sym key_at ∙ reached-at own keys before all p old told at) in
      record {
        modules_are =
            map-set (λ (reach : Reach). reach.module) all p new
            ∙ (λ k. slice_set (told.modules_are k) p (grows.of k))
            ∙ set-same keys p old.module (key_at ∙ ap Some of);
        own_is = λ k reach here.
            set-at (reach.own ≡ (reach.module == own)) all p new k reach here
            (λ _ e. subst (λ (one : Reach). one.own ≡ (one.module == own)) e
            (grows.own ∙ told.own_is p old at ∙ ap (λ n. n == own) (sym grows.of)))
            (λ _ there. told.own_is k reach there);
        tells = λ k reach here.
            set-at (Tells (from_module reach.module (before ++ bringing ∷ [])) reach) all p new k reach here
            (λ _ e. subst (λ (one : Reach). Tells (from_module one.module (before ++ bringing ∷ [])) one) e
            (subst (λ l. Tells l new)
            (ap (λ m. from_module m before ++ bringing ∷ []) (sym grows.of)
            ∙ sym (from-same new.module before bringing (of ∙ sym grows.of)))
            (tells-more (from_module old.module before) bringing old new (told.tells p old at) grows)))
            (λ other there.
            subst (λ l. Tells l reach)
            (sym (from-other reach.module before bringing (λ same.
            other (slice_get-once ◌==◌ numbers keys bringing.from k p apart
            (reached-at own keys before all k reach told there ∙ ap Some (sym same)) key_at))))
            (told.tells k reach there));
      };
}

-- a module stands at its position
pub module-found : (keys : List ℕ) (m p : ℕ) → position (λ n. m == n) keys ≡ Some p → slice_get keys p ≡ Some m
module-found keys m p found =
    let at = position-Some (λ n. m == n) keys p m found in
    slice_get-get_or keys p m at.0 ∙ ap Some (sym (eqb-true m (get_or keys p m) at.1))

-- one more module
pub firsts-next : (ms keys now : List ℕ) (i d : ℕ) → i < length ms → now ≡ with_first ◌==◌ keys (get_or ms i d)
    → keys ≡ firsts ◌==◌ (take i ms) → now ≡ firsts ◌==◌ (take (i + 1) ms)
firsts-next ms keys now i d within is before =
    is ∙ ap (λ l. with_first ◌==◌ l (get_or ms i d)) before
    ∙ sym (ap (firsts ◌==◌) (take_more ms i d within) ∙ firsts-push ◌==◌ (take i ms) (get_or ms i d))

-- one more after others
pub takes-more : (keys : List ℕ) (bringings : List Bringing) (bringing : Bringing) (old now new : List Reach)
    → TakesIn keys bringings old now → TakesIn keys (bringing ∷ []) now new
    → TakesIn keys (bringings ++ bringing ∷ []) old new
takes-more keys bringings bringing old now new before one = record {
  told = λ own first apart told.
      subst (λ l. AreTold own keys l new) (append_assoc first bringings (bringing ∷ []))
      (one.told own (first ++ bringings) apart (before.told own first apart told));
}

-- numbers that rise
Rises : List ℕ → Type 0
Rises ms = (j k m n : ℕ) → j < k → slice_get ms j ≡ Some m → slice_get ms k ≡ Some n → m ≤ n

rises-sorted : (ms : List ℕ) → IsNonDecreasing ms → Rises ms
unfolding Rises
rises-sorted ms sorted j k m n less at_j at_k =
    let up = sorted j k 0 (omega (arith, less)) (slice_get_within ms k n at_k) in
    omega (arith, up, get_or_from_slice_get ms j m 0 at_j, get_or_from_slice_get ms k n 0 at_k)

-- one more that is greater than all
ascends-push : (ms : List ℕ) (x : ℕ) → Ascends ms → ((j m : ℕ) → slice_get ms j ≡ Some m → m < x)
    → Ascends (ms ++ x ∷ [])
ascends-push ms x ascend below = λ j k m n less at_j at_k.
    by ms j k m n less at_j at_k ascend below
  where
    by : (ms : List ℕ) (j k m n : ℕ) → j < k → slice_get (ms ++ x ∷ []) j ≡ Some m
        → slice_get (ms ++ x ∷ []) k ≡ Some n → Ascends ms → ((j m : ℕ) → slice_get ms j ≡ Some m → m < x) → m < n
    by [] zero zero m n less at_j at_k ascend below = omega (arith, less)
    by [] zero (suc k) m n less at_j at_k ascend below = absurd (none-some n at_k)
    by [] (suc j) k m n less at_j at_k ascend below = absurd (none-some m at_j)
    by (y ∷ ms) j zero m n less at_j at_k ascend below = omega (arith, less)
    by (y ∷ ms) zero (suc k) m n less at_j at_k ascend below =
        pushed (m < n) ms x k n at_k (λ at. ascend 0 (suc k) m n less at_j at)
        (λ e. subst (λ o. m < o) e (below 0 m at_j))
    by (y ∷ ms) (suc j) (suc k) m n less at_j at_k ascend below =
        by ms j k m n (omega (arith, less)) at_j at_k
        (λ a b o p l at_a at_b. ascend (suc a) (suc b) o p (omega (arith, l)) at_a at_b)
        (λ a o at. below (suc a) o at)

-- a list that rises is without its repeats one that ascends
ascends-onto : (seen ms : List ℕ) → Ascends seen → Rises ms
    → ((j k m n : ℕ) → slice_get seen j ≡ Some m → slice_get ms k ≡ Some n → m ≤ n)
    → Ascends (firsts_onto ◌==◌ seen ms)
unfolding Rises
ascends-onto seen [] ascend rises below = ascend
ascends-onto seen (x ∷ ms) ascend rises below =
    cond_both (list_any (λ m. x == m) seen) seen (seen ++ x ∷ []) (λ l. Ascends (firsts_onto ◌==◌ l ms))
    (λ known. ascends-onto seen ms ascend later (λ j k m n at_j at_k. below j (suc k) m n at_j at_k))
    (λ new. ascends-onto (seen ++ x ∷ []) ms
    (ascends-push seen x ascend (λ j m at. less j m at new)) later
    (λ j k m n at_j at_k. pushed (m ≤ n) seen x j m at_j (λ at. below j (suc k) m n at at_k)
    (λ e. subst (λ o. o ≤ n) e (rises 0 (suc k) x n (omega arith) refl at_k))))
  where
    later : Rises ms
    later = λ j k m n l at_j at_k. rises (suc j) (suc k) m n (omega (arith, l)) at_j at_k

    less : (j m : ℕ) → slice_get seen j ≡ Some m → list_any (λ m. x == m) seen ≡ false → m < x
    less j m at new =
        let up = below j 0 m x at refl in
        by (cases_eq x m) up
      where
        by : (x ≡ m) ⊎ (x ≡ m → ⊥) → m ≤ x → m < x
        by (inl e) up =
            absurd (false≢true (sym new ∙ any-at (λ n. x == n) seen j m at (eq-eqb x m e)))
        by (inr apart) up = omega (arith, up, apart)

-- a test that each member passes
all-from : {A : Type 0} (test : A → Bool) (xs : List A)
    → ((k : ℕ) (x : A) → slice_get xs k ≡ Some x → test x ≡ true) → list_all test xs ≡ true
all-from test [] each = refl
all-from test (x ∷ xs) each =
    both (test x) (list_all test xs) (each 0 x refl) (all-from test xs (λ k y at. each (suc k) y at))
  where
    both : (a b : Bool) → a ≡ true → b ≡ true → (a && b) ≡ true
    both a b one other = ap (λ a. a && b) one ∙ other

-- all that is seen
pub are-reaches : (own : ℕ) (bringings : List Bringing) (modules keys : List ℕ) (start all : List Reach)
    → IsNonDecreasing modules → IsPermutation (own ∷ froms bringings) modules → keys ≡ firsts ◌==◌ modules
    → AreTold own keys [] start → TakesIn keys bringings start all → AreReaches own bringings all
are-reaches own bringings modules keys start all sorted same keys_are begun takes = record {
  ascend = subst Ascends (sym modules_are)
      (ascends-onto [] modules (λ j k m n less at_j at_k. absurd (none-some m at_j)) (rises-sorted modules sorted)
      (λ j k m n at_j at_k. absurd (none-some m at_j)));
  same = same_test;
  itself = seen (λ m. m == own)
      (or_left (own == own) (list_any (λ m. m == own) (froms bringings)) (eq-eqb own own refl));
  all = all-from (λ (bringing : Bringing). list_any (λ m. m == bringing.from) (modules_of all)) bringings
      (λ k bringing at. seen (λ m. m == bringing.from)
      (any-at (λ m. m == bringing.from) (own ∷ froms bringings) (suc k) bringing.from
      (slice_get-map (λ (bringing : Bringing). bringing.from) bringings k
      ∙ ap (option_map (λ (bringing : Bringing). bringing.from)) at)
      (eq-eqb bringing.from bringing.from refl)));
  own_is = told.own_is;
  tells = told.tells;
}
  where
    apart : firsts ◌==◌ keys ≡ keys
    apart = ap (firsts ◌==◌) keys_are ∙ firsts-firsts ◌==◌ modules ∙ sym keys_are

    told : AreTold own keys bringings all
    told = takes.told own [] apart begun

    modules_are : modules_of all ≡ firsts ◌==◌ modules
    modules_are = told.modules_are ∙ keys_are

    same_test : (test : ℕ → Bool) → list_any test (modules_of all) ≡ list_any test (own ∷ froms bringings)
    same_test test =
        ap (list_any test) modules_are
        ∙ any-firsts_onto ◌==◌ numbers test [] modules
        ∙ sym (list_any-IsPermutation test (own ∷ froms bringings) modules same)

    seen : (test : ℕ → Bool) → list_any test (own ∷ froms bringings) ≡ true → list_any test (modules_of all) ≡ true
    seen test passes = same_test test ∙ passes

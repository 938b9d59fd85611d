-- What a variant takes, by what the name of its base finds.
use Rattle.std.proofs.Common.{◌≡◌, ◌∙◌, ◌≤◌, ◌∷◌, ◌==◌, ◌&&◌, ◌||◌, not, [], ℕ, suc, zero, Bool, true, false}
use Rattle.std.proofs.Common.{List, Option, Some, None, option_map, refl, sym, ap, subst, slice_get, map}
use Rattle.std.proofs.Common.{slice_index_or, filter, length, arith}
use Rattle.std.specs.Prelude.{if◌then◌else◌}
use Rattle.std.specs.List.{list_any, list_all}
use Rattle.std.specs.Str.{bytes_eq}
use Rattle.std.specs.Cmp.Lexicographic.{pointwise}
use Rattle.std.specs.declared.vec.Vec.{Vec}
use Rattle.std.specs.declared.alloc.Global.{Global}
use Rattle.std.proofs.lemmas.Bool.{and_parts, and_from, false≢true, true≢false, eqb-true, eq-eqb}
use Rattle.std.proofs.lemmas.Bool.{false_from_ne_true}
use Rattle.std.proofs.lemmas.List.Folds.{list_any-append}
use Rattle.std.proofs.lemmas.Option.{same_Some, none-some, slice_get-map}
use Rattle.std.proofs.Math.Bool.{or-true, not-not}
use Rattle.type_rules.specs.declared.ty.Ty.{Ty}
use Rattle.type_rules.specs.Same.{same_type}
use Rattle.scope_tables.specs.declared.tables.Table.{Table}
use Rattle.scope_tables.specs.declared.tables.Place.{Place}
use Rattle.scope_tables.specs.declared.declared.Takes as held_takes
use Rattle.scope_tables.specs.declared.declared.Written.{Written}
use Rattle.scope_tables.specs.Entities.{Declared, Takes}
use Rattle.scope_tables.specs.Visible.{World}
use Rattle.scope_tables.specs.Types.{is_callable, has_deferred, based_on}
use Rattle.scope_core.specs.Standing.{is_prototype, is_definition, share_name, defines, stands, types_after}
use Rattle.scope_tables.specs.inside.Finding.{entity_at}
use Rattle.scope_core.specs.inside.Holding.{Hold}
use Rattle.scope_core.specs.inside.Settling.{is_prototype_of, is_own_prototype, others_of, only_place, likely_base}
use Rattle.scope_core.specs.inside.Settling.{taken_at, same_number, same_place, is_definition_of, defines_at}
use Rattle.scope_core.specs.inside.Settling.{stands_alone, takes_in, takes_at, defers, is_base_of, is_base_at}
use Rattle.scope_tables.specs.inside.Pieces.{takes_of}
use Rattle.scope_core.specs.inside.Scoping.{AreWritten}
use Rattle.scope_core.specs.inside.Rounds.{declared_in, declared_at, entities_in, settled_count}
use Rattle.scope_core.specs.inside.Rounds.{is_known_number, is_settled, AreKnown, is_out, FindsIn}
use Rattle.scope_core.proofs.FoundIsLaws.{entity-is}
use Rattle.scope_core.proofs.SameLaws.{types-decide}
use Rattle.scope_tables.proofs.MemberLaws.{any-of, any-at, filter-of, filter-has, heads}
use Rattle.scope_core.proofs.VisibleLaws.{module-at, definition-stands}

-- a prototype of a module
abbrev pub is_own : ℕ → Declared → Bool
is_own m one = is_prototype one.entity.sort && (one.entity.id.module == m)

pub both-ways : (a b : Bool) → (a ≡ true → b ≡ true) → (b ≡ true → a ≡ true) → a ≡ b
both-ways true b on back = sym (on refl)
both-ways false true on back = back refl
both-ways false false on back = refl

in-single : {A : Type 0} (b one : A) (h : ℕ) → slice_get (b ∷ []) h ≡ Some one → one ≡ b
in-single b one zero at = sym (same_Some b one at)
in-single b one (suc h) at = absurd (none-some one at)

-- the one that is kept
only-kept : {A : Type 0} (keep : A → Bool) (all : List A) (b : A) (j : ℕ) (one : A) → filter keep all ≡ b ∷ []
    → slice_get all j ≡ Some one → keep one ≡ true → one ≡ b
only-kept keep all b j one single at is =
    let there = filter-has keep all j one at is in
    in-single b one there.0 (ap (λ l. slice_get l there.0) (sym single) ∙ there.1)

none-kept : {A : Type 0} (keep : A → Bool) (all : List A) (j : ℕ) (one : A) → filter keep all ≡ []
    → slice_get all j ≡ Some one → keep one ≡ true → ⊥
none-kept keep all j one none at is =
    let there = filter-has keep all j one at is in
    none-some one (ap (λ l. slice_get l there.0) (sym none) ∙ there.1)

abbrev pub behind : {A : Type 0} → List A → List A
behind [] = []
behind (one ∷ more) = more

-- an entity that doesn't stand in its module is a prototype of it, and has a definition
out-parts : (world : World) (pieces : List (List Declared)) (m k : ℕ) (one : Declared)
    → is_out world pieces m k one ≡ true
    → (is_own m one ≡ true)
    × (list_any (defines (types_after world (entities_in pieces) k) one) (entities_in pieces) ≡ true)
out-parts world pieces m k one out =
    let types = types_after world (entities_in pieces) k in
    let any = list_any (defines types one) (entities_in pieces) in
    let apart = and_parts (one.entity.id.module == m) (not (stands types (entities_in pieces) one)) out in
    let both = and_parts (is_prototype one.entity.sort) any
    (sym (not-not (is_prototype one.entity.sort && any)) ∙ apart.1) in
    (and_from (is_prototype one.entity.sort) (one.entity.id.module == m) both.0 apart.0, both.1)

own-out : (world : World) (pieces : List (List Declared)) (m k : ℕ) (one : Declared) → is_own m one ≡ true
    → list_any (defines (types_after world (entities_in pieces) k) one) (entities_in pieces) ≡ true
    → is_out world pieces m k one ≡ true
own-out world pieces m k one own some =
    let both = and_parts (is_prototype one.entity.sort) (one.entity.id.module == m) own in
    λ i. both.1 i && not (not (both.0 i && some i))

-- a definition is found beside what it hides
definition-in : (world : World) (pieces : List (List Declared)) (closed : List ℕ) (m k : ℕ) (places : List Place)
    (first later : List Declared) (i : ℕ) (one : Declared) → FindsIn world pieces closed m k places first later
    → slice_get first i ≡ Some one → is_out world pieces m k one ≡ true
    → (h : ℕ) × (d : Declared) × (slice_get first h ≡ Some d)
    × (defines (types_after world (entities_in pieces) k) one d ≡ true)
definition-in world pieces closed m k places first later i one finds at out =
    let types = types_after world (entities_in pieces) k in
    let parts = out-parts world pieces m k one out in
    let some = any-of (defines types one) (entities_in pieces) parts.1 in
    let own = (and_parts (is_prototype one.entity.sort) (one.entity.id.module == m) parts.0).1 in
    let rest = (and_parts (is_definition some.1.entity.sort)
    (share_name one some.1 && pointwise same_type (types one) (types some.1)) some.3).1 in
    let share = (and_parts (share_name one some.1) (pointwise same_type (types one) (types some.1)) rest).0 in
    let there = finds.named i some.0 one some.1 at some.2 own share in
    (there.0, some.1, there.1, some.3)

definition-not-own : (types : Declared → List Ty) (m : ℕ) (one d : Declared) → defines types one d ≡ true
    → not (is_own m d) ≡ true
definition-not-own types m one d is =
    let part = (and_parts (is_definition d.entity.sort)
    (share_name one d && pointwise same_type (types one) (types d)) is).0 in
    λ i. not (definition-stands d.entity.sort part i && (d.entity.id.module == m))

-- entities and what is known of their places
pub entity-there : (world : World) (tables : List Table) (pieces : List (List Declared)) (place : Place)
    (one : Declared) → Hold world tables pieces → declared_at pieces place ≡ Some one
    → entity_at tables place ≡ Some one.entity
entity-there world tables pieces place one hold at =
    entity-is world 0 tables pieces place.«module» place.index hold.are
    ∙ ap (option_map (λ (d : Declared). d.entity)) at

pub module-is : (world : World) (tables : List Table) (pieces : List (List Declared)) (place : Place) (one : Declared)
    → Hold world tables pieces → declared_at pieces place ≡ Some one → one.entity.id.module ≡ place.«module»
module-is world tables pieces place one hold at =
    let e = module-at world 0 tables pieces place.«module» place.index one hold.are at in
    omega (arith, e)

pub own-is : (world : World) (tables : List Table) (pieces : List (List Declared)) (m : ℕ) (place : Place)
    (one : Declared) → Hold world tables pieces → declared_at pieces place ≡ Some one
    → is_own_prototype tables m place ≡ is_own m one
own-is world tables pieces m place one hold at =
    let entity = entity-there world tables pieces place one hold at in
    let inside = module-is world tables pieces place one hold at in
    λ i. is_prototype_of (entity i) && (sym inside i == m)

paired-others : (own : Place → Bool) (held : Declared → Bool) (at : Place → Option Declared) (places : List Place)
    (first : List Declared) → map at places ≡ map Some first
    → ((place : Place) (one : Declared) → at place ≡ Some one → own place ≡ held one)
    → map at (filter (λ place. not (own place)) places) ≡ map Some (filter (λ one. not (held one)) first)
paired-others own held at [] [] same agree = refl
paired-others own held at [] (one ∷ first) same agree = let long = ap length same in absurd (omega (arith, long))
paired-others own held at (p ∷ places) [] same agree = let long = ap length same in absurd (omega (arith, long))
paired-others own held at (p ∷ places) (one ∷ first) same agree =
    let here = heads (at p) (Some one) (map at places) (map Some first) same in
    by (own p) (held one) (agree p one here) here (paired-others own held at places first (ap behind same) agree)
  where
    by : (b c : Bool) → b ≡ c → at p ≡ Some one
        → map at (filter (λ place. not (own place)) places) ≡ map Some (filter (λ one. not (held one)) first)
        → map at (if not b then p ∷ filter (λ place. not (own place)) places
        else filter (λ place. not (own place)) places)
        ≡ map Some (if not c then one ∷ filter (λ one. not (held one)) first else filter (λ one. not (held one)) first)
    by true true e here later = later
    by true false e here later = absurd (true≢false e)
    by false true e here later = absurd (false≢true e)
    by false false e here later = λ k. here k ∷ later k

others-are : (world : World) (tables : List Table) (pieces : List (List Declared)) (m : ℕ) (places : List Place)
    (first : List Declared) → Hold world tables pieces → map (declared_at pieces) places ≡ map Some first
    → map (declared_at pieces) (others_of tables m places) ≡ map Some (filter (λ one. not (is_own m one)) first)
others-are world tables pieces m places first hold same =
    paired-others (is_own_prototype tables m) (is_own m) (declared_at pieces) places first same
    (λ place one at. own-is world tables pieces m place one hold at)

paired-all : (at : Place → Option Declared) (f : Place → Bool) (g : Declared → Bool) (places : List Place)
    (first : List Declared) → map at places ≡ map Some first
    → ((i : ℕ) (place : Place) (one : Declared) → slice_get places i ≡ Some place → slice_get first i ≡ Some one
    → at place ≡ Some one → f place ≡ g one)
    → list_all f places ≡ list_all g first
paired-all at f g [] [] same agree = refl
paired-all at f g [] (one ∷ first) same agree = let long = ap length same in absurd (omega (arith, long))
paired-all at f g (p ∷ places) [] same agree = let long = ap length same in absurd (omega (arith, long))
paired-all at f g (p ∷ places) (one ∷ first) same agree =
    let here = agree 0 p one refl refl (heads (at p) (Some one) (map at places) (map Some first) same) in
    let later = paired-all at f g places first (ap behind same)
    (λ i place one there found is. agree (suc i) place one there found is) in
    λ k. here k && later k

-- all but prototypes of the module stay
stay-others : (own out : Declared → Bool) (all : List Declared) → ((d : Declared) → out d ≡ true → own d ≡ true)
    → filter (λ d. not (own d)) (filter (λ d. not (out d)) all) ≡ filter (λ d. not (own d)) all
stay-others own out [] only = refl
stay-others own out (x ∷ all) only = by (out x) (own x) refl (only x) (stay-others own out all only)
  where
    by : (b c : Bool) → own x ≡ c → (b ≡ true → own x ≡ true)
        → filter (λ d. not (own d)) (filter (λ d. not (out d)) all) ≡ filter (λ d. not (own d)) all
        → filter (λ d. not (own d)) (if not b then x ∷ filter (λ d. not (out d)) all else filter (λ d. not (out d)) all)
        ≡ (if not c then x ∷ filter (λ d. not (own d)) all else filter (λ d. not (own d)) all)
    by true true is only later = later
    by true false is only later = absurd (true≢false (sym (only refl) ∙ is))
    by false c is only later =
        (λ i. if not (is i) then x ∷ filter (λ d. not (own d)) (filter (λ d. not (out d)) all)
        else filter (λ d. not (own d)) (filter (λ d. not (out d)) all))
        ∙ ap (λ l. if not c then x ∷ l else l) later

none-out : (out : Declared → Bool) (all : List Declared) → list_any out all ≡ false
    → filter (λ d. not (out d)) all ≡ all
none-out out [] none = refl
none-out out (x ∷ all) none = by (out x) none (none-out out all)
  where
    by : (b : Bool) → (b || list_any out all) ≡ false
        → (list_any out all ≡ false → filter (λ d. not (out d)) all ≡ all)
        → (if not b then x ∷ filter (λ d. not (out d)) all else filter (λ d. not (out d)) all) ≡ x ∷ all
    by true none later = absurd (true≢false none)
    by false none later = ap (λ l. x ∷ l) (later none)

-- where two are kept nothing is taken
two-kept : (types : Declared → List Ty) (keep : Declared → Bool) (all : List Declared) (a b : Declared)
    (more : List Declared) → filter keep all ≡ a ∷ b ∷ more → based_on types all ≡ []
two-kept types keep [] a b more two = refl
two-kept types keep (x ∷ []) a b more two = by (keep x) two
  where
    by : (c : Bool) → (if c then x ∷ [] else []) ≡ a ∷ b ∷ more → based_on types (x ∷ []) ≡ []
    by true two = let long = ap length two in absurd (omega (arith, long))
    by false two = let long = ap length two in absurd (omega (arith, long))
two-kept types keep (x ∷ y ∷ all) a b more two = refl

-- with no base, or several
none-or-two : (at : Place → Option Declared) (places : List Place) (all : List Declared) (Goal : Type 0)
    → map at places ≡ map Some all → only_place places ≡ None → (all ≡ [] → Goal)
    → ((a b : Declared) (more : List Declared) → all ≡ a ∷ b ∷ more → Goal) → Goal
none-or-two at [] [] Goal same only none two = none refl
none-or-two at [] (a ∷ all) Goal same only none two = let long = ap length same in absurd (omega (arith, long))
none-or-two at (p ∷ []) all Goal same only none two = absurd (none-some p (sym only))
none-or-two at (p ∷ q ∷ places) [] Goal same only none two = let long = ap length same in absurd (omega (arith, long))
none-or-two at (p ∷ q ∷ places) (a ∷ []) Goal same only none two =
    let long = ap length same in absurd (omega (arith, long))
none-or-two at (p ∷ q ∷ places) (a ∷ b ∷ all) Goal same only none two = two a b all refl

-- where no variant may stand on what is found, nothing is taken
pub no-base : (world : World) (pieces : List (List Declared)) (closed : List ℕ) (tables : List Table) (m k : ℕ)
    (places : List Place) (first later : List Declared) → Hold world tables pieces
    → FindsIn world pieces closed m k places first later → likely_base tables m places ≡ None
    → based_on (types_after world (entities_in pieces) k) later ≡ []
no-base world pieces closed tables m k [] [] later hold finds likely =
    ap (based_on (types_after world (entities_in pieces) k)) finds.later_are
no-base world pieces closed tables m k [] (a ∷ first) later hold finds likely =
    let long = ap length finds.placed_are in absurd (omega (arith, long))
no-base world pieces closed tables m k (p ∷ []) first later hold finds likely = absurd (none-some p (sym likely))
no-base world pieces closed tables m k (p ∷ q ∷ places) [] later hold finds likely =
    let long = ap length finds.placed_are in absurd (omega (arith, long))
no-base world pieces closed tables m k (p ∷ q ∷ places) (a ∷ []) later hold finds likely =
    let long = ap length finds.placed_are in absurd (omega (arith, long))
no-base world pieces closed tables m k (p ∷ q ∷ places) (a ∷ b ∷ first) later hold finds likely =
    none-or-two (declared_at pieces) (others_of tables m (p ∷ q ∷ places)) (filter keep all) (based_on types later ≡ [])
    (others-are world tables pieces m (p ∷ q ∷ places) all hold finds.placed_are) likely
    (λ none. ap (based_on types) (finds.later_are ∙ none-out out all
    (false_from_ne_true (list_any out all)
    (λ some.
    let one = any-of out all some in
    let d = definition-in world pieces closed m k (p ∷ q ∷ places) all later one.0 one.1 finds one.2 one.3 in
    none-kept keep all d.0 d.1 none d.2 (definition-not-own types m one.1 d.1 d.3)))))
    (λ x y more two. ap (based_on types) finds.later_are
    ∙ two-kept types keep (filter (λ d. not (out d)) all) x y more
    (stay-others (is_own m) out all (λ d is. (out-parts world pieces m k d is).0) ∙ two))
  where
    all : List Declared
    all = a ∷ b ∷ first

    types : Declared → List Ty
    types = types_after world (entities_in pieces) k

    out : Declared → Bool
    out = is_out world pieces m k

    keep : Declared → Bool
    keep = λ (one : Declared). not (is_own m one)

abbrev is_nil : List Declared → Bool
is_nil [] = true
is_nil (one ∷ more) = false

-- where all are prototypes of the module, nothing stays exactly where all are out
alone-rest : (own out : Declared → Bool) (all : List Declared) → filter (λ d. not (own d)) all ≡ []
    → list_all (λ d. not (own d) || out d) all ≡ is_nil (filter (λ d. not (out d)) all)
alone-rest own out [] none = refl
alone-rest own out (x ∷ all) none = by (own x) (out x) none (alone-rest own out all)
  where
    by : (b c : Bool) → (if not b then x ∷ filter (λ d. not (own d)) all else filter (λ d. not (own d)) all) ≡ []
        → (filter (λ d. not (own d)) all ≡ []
        → list_all (λ d. not (own d) || out d) all ≡ is_nil (filter (λ d. not (out d)) all))
        → ((not b || c) && list_all (λ d. not (own d) || out d) all)
        ≡ is_nil (if not c then x ∷ filter (λ d. not (out d)) all else filter (λ d. not (out d)) all)
    by true true none later = later none
    by true false none later = refl
    by false c none later = let long = ap length none in absurd (omega (arith, long))

based-beside : (types : Declared → List Ty) (x : Declared) (all : List Declared)
    → based_on types (x ∷ all) ≡ (if is_nil all then based_on types (x ∷ []) else [])
based-beside types x [] = refl
based-beside types x (y ∷ all) = refl

based-more : (types : Declared → List Ty) (keep : Declared → Bool) (x b : Declared) (all : List Declared)
    → filter keep all ≡ b ∷ [] → based_on types (x ∷ all) ≡ []
based-more types keep x b [] single = let long = ap length single in absurd (omega (arith, long))
based-more types keep x b (y ∷ all) single = refl

-- the only one that is no prototype of the module is a base where all others are out
pub alone-stays : (types : Declared → List Ty) (own out : Declared → Bool) (b : Declared) (all : List Declared)
    → ((d : Declared) → out d ≡ true → own d ≡ true) → filter (λ d. not (own d)) all ≡ b ∷ []
    → based_on types (filter (λ d. not (out d)) all)
    ≡ (if list_all (λ d. not (own d) || out d) all then based_on types (b ∷ []) else [])
alone-stays types own out b [] only single = let long = ap length single in absurd (omega (arith, long))
alone-stays types own out b (x ∷ all) only single =
    by (own x) (out x) (only x) single (alone-stays types own out b all only)
  where
    by : (a c : Bool) → (c ≡ true → a ≡ true)
        → (if not a then x ∷ filter (λ d. not (own d)) all else filter (λ d. not (own d)) all) ≡ b ∷ []
        → (filter (λ d. not (own d)) all ≡ b ∷ [] → based_on types (filter (λ d. not (out d)) all)
        ≡ (if list_all (λ d. not (own d) || out d) all then based_on types (b ∷ []) else []))
        → based_on types (if not c then x ∷ filter (λ d. not (out d)) all else filter (λ d. not (out d)) all)
        ≡ (if (not a || c) && list_all (λ d. not (own d) || out d) all then based_on types (b ∷ []) else [])
    by true true only single later = later single
    by true false more single later =
        based-more types (λ d. not (own d)) x b (filter (λ d. not (out d)) all)
        (stay-others own out all only ∙ single)
    by false true only single later = absurd (false≢true (only refl))
    by false false more single later =
        let here = heads x b (filter (λ d. not (own d)) all) [] single in
        let rest = ap behind single in
        based-beside types x (filter (λ d. not (out d)) all)
        ∙ (λ i. if sym (alone-rest own out all rest) i then based_on types (here i ∷ []) else [])

pub known-number : (number : Option ℕ) → is_known_number number ≡ true → (n : ℕ) × (number ≡ Some n)
known-number None is = absurd (false≢true is)
known-number (Some n) is = (n, refl)

-- an entity at a place is one of all
pub any-in : (test : Declared → Bool) (pieces : List (List Declared)) (n i : ℕ) (one : Declared)
    → declared_in (slice_get pieces n) i ≡ Some one → test one ≡ true → list_any test (entities_in pieces) ≡ true
any-in test [] n i one at is = absurd (none-some one at)
any-in test (piece ∷ pieces) zero i one at is =
    list_any-append test piece (entities_in pieces)
    ∙ ap (λ b. b || list_any test (entities_in pieces)) (any-at test piece i one at is)
any-in test (piece ∷ pieces) (suc n) i one at is =
    list_any-append test piece (entities_in pieces)
    ∙ ap (λ b. list_any test piece || b) (any-in test pieces n i one at is) ∙ or-true (list_any test piece)

-- what is found has one name
pub record AreAlike (all : List Declared) : Type 0 where
  pub alike : (i j : ℕ) (one other : Declared) → slice_get all i ≡ Some one → slice_get all j ≡ Some other
      → bytes_eq one.entity.name other.entity.name ≡ true

-- what is known while a variant of a module is settled by what its base's name finds
pub record Knows (world : World) (pieces : List (List Declared)) (closed : List ℕ) (tables : List Table)
    (taken : List (Vec (Option ℕ) Global)) (keys : List (List Ty)) (m k : ℕ) (places : List Place)
    (first later : List Declared) : Type 0 where
  pub hold : Hold world tables pieces
  pub known : AreKnown world pieces keys taken
  pub less : settled_count taken ≤ k
  pub finds : FindsIn world pieces closed m k places first later
  pub alike : AreAlike first
  pub settled : (i : ℕ) (place : Place) → slice_get places i ≡ Some place → is_own_prototype tables m place ≡ true
      → is_settled taken place ≡ true

-- a base, with the number of what it takes
pub record Stands (pieces : List (List Declared)) (taken : List (Vec (Option ℕ) Global)) (base : Place) (one : Declared)
    (number : ℕ) : Type 0 where
  pub at : declared_at pieces base ≡ Some one
  pub takes : taken_at taken base ≡ Some number

pub same-place : (one other : Place) → same_place one other ≡ true → one ≡ other
same-place one other same =
    let both = and_parts (one.«module» == other.«module») (one.index == other.index) same in
    let there = eqb-true one.«module» other.«module» both.0 in
    let index = eqb-true one.index other.index both.1 in
    λ i. record { «module» = there i; index = index i }

pub place-itself : (place : Place) → same_place place place ≡ true
place-itself place = and_from _ _ (eq-eqb place.«module» place.«module» refl) (eq-eqb place.index place.index refl)

pub only-is : (places : List Place) (base : Place) → only_place places ≡ Some base → places ≡ base ∷ []
only-is [] base is = absurd (none-some base is)
only-is (p ∷ []) base is = ap (λ q. q ∷ []) (same_Some p base is)
only-is (p ∷ q ∷ places) base is = absurd (none-some base is)

single-of : (b : Declared) (all : List Declared) → Some b ∷ [] ≡ map Some all → all ≡ b ∷ []
single-of b [] same = let long = ap length same in absurd (omega (arith, long))
single-of b (x ∷ []) same = ap (λ d. d ∷ []) (sym (same_Some b x (heads (Some b) (Some x) [] [] same)))
single-of b (x ∷ y ∷ all) same = let long = ap length same in absurd (omega (arith, long))

-- the only one that is no prototype of the module defines a prototype by its number exactly where that one is out
pub defines-is : (world : World) (pieces : List (List Declared)) (closed : List ℕ) (tables : List Table)
    (taken : List (Vec (Option ℕ) Global)) (keys : List (List Ty)) (m k : ℕ) (places : List Place)
    (first later : List Declared) (base : Place) (b : Declared) (number : ℕ) (i : ℕ) (place : Place) (one : Declared)
    → Knows world pieces closed tables taken keys m k places first later → Stands pieces taken base b number
    → filter (λ d. not (is_own m d)) first ≡ b ∷ [] → slice_get places i ≡ Some place → slice_get first i ≡ Some one
    → declared_at pieces place ≡ Some one → is_own m one ≡ true
    → defines_at tables taken base place ≡ is_out world pieces m k one
defines-is world pieces closed tables taken keys m k places first later base b number i place one knows base-is single
    there at is own =
    both-ways (defines_at tables taken base place) (is_out world pieces m k one) on back
  where
    types : Declared → List Ty
    types = types_after world (entities_in pieces) k

    settled : (n : ℕ) × (taken_at taken place ≡ Some n)
    settled =
        known-number (taken_at taken place)
        (knows.settled i place there (own-is world tables pieces m place one knows.hold is ∙ own))

    base-types : types b ≡ slice_index_or keys number []
    base-types = knows.known.known base b number k base-is.at base-is.takes knows.less

    own-types : types one ≡ slice_index_or keys settled.0 []
    own-types = knows.known.known place one settled.0 k is settled.1 knows.less

    base-module : b.entity.id.module ≡ base.«module»
    base-module = module-is world tables pieces base b knows.hold base-is.at

    own-module : one.entity.id.module ≡ place.«module»
    own-module = module-is world tables pieces place one knows.hold is

    entity : entity_at tables base ≡ Some b.entity
    entity = entity-there world tables pieces base b knows.hold base-is.at

    defined : defines_at tables taken base place
        ≡ (is_definition b.entity.sort && ((base.«module» == place.«module») && (number == settled.0)))
    defined =
        λ j. is_definition_of (entity j)
        && ((base.«module» == place.«module») && same_number (base-is.takes j) (settled.1 j))

    in-first : (h : ℕ) × (slice_get first h ≡ Some b)
    in-first =
        let found = filter-of (λ d. not (is_own m d)) first 0 b (ap (λ l. slice_get l 0) single) in
        (found.1, found.2)

    on : defines_at tables taken base place ≡ true → is_out world pieces m k one ≡ true
    on truly =
        let parts = and_parts (is_definition b.entity.sort)
        ((base.«module» == place.«module») && (number == settled.0)) (sym defined ∙ truly) in
        let both = and_parts (base.«module» == place.«module») (number == settled.0) parts.1 in
        let modules = own-module ∙ sym (eqb-true base.«module» place.«module» both.0) ∙ sym base-module in
        let same = own-types ∙ ap (λ n. slice_index_or keys n []) (sym (eqb-true number settled.0 both.1))
        ∙ sym base-types in
        let share = and_from (one.entity.id.module == b.entity.id.module) (bytes_eq one.entity.name b.entity.name)
        (eq-eqb one.entity.id.module b.entity.id.module modules)
        (knows.alike.alike i in-first.0 one b at in-first.1) in
        own-out world pieces m k one own
        (any-in (defines types one) pieces base.«module» base.index b base-is.at
        (and_from (is_definition b.entity.sort) (share_name one b && pointwise same_type (types one) (types b)) parts.0
        (and_from (share_name one b) (pointwise same_type (types one) (types b)) share
        ((types-decide (types one) (types b)).1 same))))

    back : is_out world pieces m k one ≡ true → defines_at tables taken base place ≡ true
    back out =
        let d = definition-in world pieces closed m k places first later i one knows.finds at out in
        let e = only-kept (λ d. not (is_own m d)) first b d.0 d.1 single d.2
        (definition-not-own types m one d.1 d.3) in
        let parts = and_parts (is_definition b.entity.sort)
        (share_name one b && pointwise same_type (types one) (types b)) (ap (defines types one) (sym e) ∙ d.3) in
        let both = and_parts (share_name one b) (pointwise same_type (types one) (types b)) parts.1 in
        let share = and_parts (one.entity.id.module == b.entity.id.module)
        (bytes_eq one.entity.name b.entity.name) both.0 in
        let same = sym base-types ∙ sym ((types-decide (types one) (types b)).0 both.1) ∙ own-types in
        let number-is = knows.known.apart number settled.0
        (knows.known.within base number base-is.takes) (knows.known.within place settled.0 settled.1) same in
        let modules = sym base-module ∙ sym (eqb-true one.entity.id.module b.entity.id.module share.0) ∙ own-module in
        defined
        ∙ and_from (is_definition b.entity.sort) ((base.«module» == place.«module») && (number == settled.0)) parts.0
        (and_from (base.«module» == place.«module») (number == settled.0)
        (eq-eqb base.«module» place.«module» modules) (eq-eqb number settled.0 number-is))

-- one of what is found goes with the base exactly where it is the base itself, or out
alone-is : (world : World) (pieces : List (List Declared)) (closed : List ℕ) (tables : List Table)
    (taken : List (Vec (Option ℕ) Global)) (keys : List (List Ty)) (m k : ℕ) (places : List Place)
    (first later : List Declared) (base : Place) (b : Declared) (number : ℕ) (i : ℕ) (place : Place) (one : Declared)
    → Knows world pieces closed tables taken keys m k places first later → Stands pieces taken base b number
    → others_of tables m places ≡ base ∷ [] → filter (λ d. not (is_own m d)) first ≡ b ∷ []
    → slice_get places i ≡ Some place → slice_get first i ≡ Some one → declared_at pieces place ≡ Some one
    → (same_place place base || defines_at tables taken base place)
    ≡ (not (is_own m one) || is_out world pieces m k one)
alone-is world pieces closed tables taken keys m k places first later base b number i place one knows base-is others
    single there at is =
    by (is_own m one) refl
  where
    elsewhere : is_own m one ≡ true → same_place place base ≡ true → ⊥
    elsewhere own same =
        let e = same_Some one b (sym is ∙ ap (declared_at pieces) (same-place place base same) ∙ base-is.at) in
        let kept = filter-of (λ d. not (is_own m d)) first 0 b (ap (λ l. slice_get l 0) single) in
        false≢true ((λ j. not (sym (ap (is_own m) (sym e) ∙ own) j)) ∙ kept.0)

    by : (c : Bool) → is_own m one ≡ c
        → (same_place place base || defines_at tables taken base place)
        ≡ (not (is_own m one) || is_out world pieces m k one)
    by true own =
        (λ j. false_from_ne_true (same_place place base) (elsewhere own) j
        || defines-is world pieces closed tables taken keys m k places first later base b number i place one knows
        base-is single there at is own j)
        ∙ ap (λ c. not c || is_out world pieces m k one) (sym own)
    by false other =
        let apart = own-is world tables pieces m place one knows.hold is ∙ other in
        let e = only-kept (λ p. not (is_own_prototype tables m p)) places base i place others there (ap not apart) in
        ap (λ p. same_place p base || defines_at tables taken base place) e
        ∙ ap (λ c. c || defines_at tables taken base place) (place-itself base)
        ∙ ap (λ c. not c || is_out world pieces m k one) (sym other)

-- among several
base-of-several : (world : World) (pieces : List (List Declared)) (closed : List ℕ) (tables : List Table)
    (taken : List (Vec (Option ℕ) Global)) (keys : List (List Ty)) (m k : ℕ) (places : List Place)
    (first later : List Declared) (base : Place) (b : Declared) (number : ℕ)
    → Knows world pieces closed tables taken keys m k places first later → Stands pieces taken base b number
    → others_of tables m places ≡ base ∷ []
    → based_on (types_after world (entities_in pieces) k) later
    ≡ (if stands_alone tables taken base places then based_on (types_after world (entities_in pieces) k) (b ∷ [])
    else [])
base-of-several world pieces closed tables taken keys m k places first later base b number knows base-is others =
    ap (based_on types) knows.finds.later_are
    ∙ alone-stays types (is_own m) (is_out world pieces m k) b first
    (λ d is. (out-parts world pieces m k d is).0) single
    ∙ ap (λ c. if c then based_on types (b ∷ []) else [])
    (sym (paired-all (declared_at pieces) (λ place. same_place place base || defines_at tables taken base place)
    (λ one. not (is_own m one) || is_out world pieces m k one) places first knows.finds.placed_are
    (λ i place one there at is.
    alone-is world pieces closed tables taken keys m k places first later base b number i place one knows base-is
    others single there at is)))
  where
    types : Declared → List Ty
    types = types_after world (entities_in pieces) k

    single : filter (λ d. not (is_own m d)) first ≡ b ∷ []
    single =
        single-of b (filter (λ d. not (is_own m d)) first)
        ((λ j. sym base-is.at j ∷ []) ∙ ap (map (declared_at pieces)) (sym others)
        ∙ others-are world tables pieces m places first knows.hold knows.finds.placed_are)

-- what is found alone stands
base-alone : (world : World) (pieces : List (List Declared)) (closed : List ℕ) (tables : List Table)
    (taken : List (Vec (Option ℕ) Global)) (keys : List (List Ty)) (m k : ℕ) (first later : List Declared)
    (base : Place) (b : Declared) (number : ℕ) → Knows world pieces closed tables taken keys m k (base ∷ []) first later
    → Stands pieces taken base b number
    → based_on (types_after world (entities_in pieces) k) later
    ≡ (if stands_alone tables taken base (base ∷ []) then based_on (types_after world (entities_in pieces) k) (b ∷ [])
    else [])
base-alone world pieces closed tables taken keys m k [] later base b number knows base-is =
    let long = ap length knows.finds.placed_are in absurd (omega (arith, long))
base-alone world pieces closed tables taken keys m k (x ∷ y ∷ first) later base b number knows base-is =
    let long = ap length knows.finds.placed_are in absurd (omega (arith, long))
base-alone world pieces closed tables taken keys m k (x ∷ []) later base b number knows base-is =
    ap (based_on types) (knows.finds.later_are ∙ none-out out (x ∷ []) (ap (λ c. c || false) stays))
    ∙ ap (λ d. based_on types (d ∷ [])) e
    ∙ sym (ap (λ c. if (c || defines_at tables taken base base) && true then based_on types (b ∷ []) else [])
    (place-itself base))
  where
    types : Declared → List Ty
    types = types_after world (entities_in pieces) k

    out : Declared → Bool
    out = is_out world pieces m k

    e : x ≡ b
    e =
        same_Some x b (sym (heads (declared_at pieces base) (Some x) [] [] knows.finds.placed_are) ∙ base-is.at)

    stays : out x ≡ false
    stays =
        false_from_ne_true (out x)
        (λ is.
        let d = definition-in world pieces closed m k (base ∷ []) (x ∷ []) later 0 x knows.finds refl is in
        let same = in-single x d.1 d.0 d.2 in
        let own = (out-parts world pieces m k x is).0 in
        false≢true (ap not (sym (ap (is_own m) same ∙ own)) ∙ definition-not-own types m x d.1 d.3))

if-both : (a b : Bool) (one other : List Ty) → one ≡ other
    → (if a then (if b then one else []) else []) ≡ (if a && b then other else [])
if-both true true one other e = e
if-both true false one other e = refl
if-both false b one other e = refl

takes-from : (pieces : List (List Declared)) (written : List Written) (n i : ℕ) (one : Declared)
    → AreWritten pieces written → declared_in (slice_get pieces n) i ≡ Some one
    → option_map takes_of (takes_in (slice_get written n) i) ≡ Some one.takes
takes-from [] [] n i one are at = absurd (none-some one at)
takes-from [] (w ∷ written) n i one are at = absurd are
takes-from (p ∷ pieces) [] n i one are at = absurd are
takes-from (p ∷ pieces) (w ∷ written) zero i one are at =
    sym (slice_get-map takes_of w.takes.items i) ∙ ap (λ l. slice_get l i) are.0.takes
    ∙ slice_get-map (λ (d : Declared). d.takes) p i ∙ ap (option_map (λ (d : Declared). d.takes)) at
takes-from (p ∷ pieces) (w ∷ written) (suc n) i one are at = takes-from pieces written n i one are.1 at

-- what is written at a place is what the entity takes
pub takes-is : (pieces : List (List Declared)) (written : List Written) (place : Place) (one : Declared)
    → AreWritten pieces written → declared_at pieces place ≡ Some one
    → option_map takes_of (takes_at written place) ≡ Some one.takes
takes-is pieces written place one are at = takes-from pieces written place.«module» place.index one are at

defers-is : (takes : Option held_takes.Takes) (own : Takes) → option_map takes_of takes ≡ Some own
    → defers takes ≡ has_deferred own
defers-is None own at = absurd (none-some own at)
defers-is (Some takes) own at = ap has_deferred (same_Some (takes_of takes) own at)

base-at : (world : World) (tables : List Table) (pieces : List (List Declared)) (written : List Written) (place : Place)
    (one : Declared) → Hold world tables pieces → AreWritten pieces written → declared_at pieces place ≡ Some one
    → is_base_at tables written place ≡ (is_callable one.entity.sort && not (has_deferred one.takes))
base-at world tables pieces written place one hold are at =
    (λ i. is_base_of (entity-there world tables pieces place one hold at i) (takes_at written place))
    ∙ ap (λ c. is_callable one.entity.sort && not c)
    (defers-is (takes_at written place) one.takes (takes-is pieces written place one are at))

-- a variant takes what the base takes that it may have, where that stands alone and can be one
pub on-base : (world : World) (pieces : List (List Declared)) (closed : List ℕ) (tables : List Table)
    (written : List Written) (taken : List (Vec (Option ℕ) Global)) (keys : List (List Ty)) (m k : ℕ)
    (places : List Place) (first later : List Declared) (base : Place) (b : Declared) (number : ℕ)
    → Knows world pieces closed tables taken keys m k places first later → Stands pieces taken base b number
    → AreWritten pieces written → likely_base tables m places ≡ Some base
    → based_on (types_after world (entities_in pieces) k) later
    ≡ (if stands_alone tables taken base places && is_base_at tables written base
    then slice_index_or keys number [] else [])
on-base world pieces closed tables written taken keys m k places first later base b number knows base-is are likely =
    by places knows likely
    ∙ if-both (stands_alone tables taken base places) (is_callable b.entity.sort && not (has_deferred b.takes))
    (types b) (slice_index_or keys number []) (knows.known.known base b number k base-is.at base-is.takes knows.less)
    ∙ ap (λ c. if stands_alone tables taken base places && c then slice_index_or keys number [] else [])
    (sym (base-at world tables pieces written base b knows.hold are base-is.at))
  where
    types : Declared → List Ty
    types = types_after world (entities_in pieces) k

    by : (places : List Place) → Knows world pieces closed tables taken keys m k places first later
        → likely_base tables m places ≡ Some base
        → based_on types later ≡ (if stands_alone tables taken base places then based_on types (b ∷ []) else [])
    by [] knows likely = absurd (none-some base likely)
    by (p ∷ []) knows likely =
        let e = same_Some p base likely in
        base-alone world pieces closed tables taken keys m k first later base b number
        (subst (λ q. Knows world pieces closed tables taken keys m k (q ∷ []) first later) e knows) base-is
        ∙ ap (λ q. if stands_alone tables taken base (q ∷ []) then based_on types (b ∷ []) else []) (sym e)
    by (p ∷ q ∷ places) knows likely =
        base-of-several world pieces closed tables taken keys m k (p ∷ q ∷ places) first later base b number knows
        base-is (only-is (others_of tables m (p ∷ q ∷ places)) base likely)

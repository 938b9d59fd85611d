-- Laws of entities that stand behind others with which they may not stand together.
use Rattle.std.proofs.Common.{◌≡◌, ◌∙◌, ◌++◌, ◌∷◌, ◌+◌, ◌<◌, ◌≤◌, ◌==◌, ◌&&◌, ◌||◌, not, [], ℕ, zero, suc, Bool}
use Rattle.std.proofs.Common.{true, false, List, Option, Some, None, map, filter, length, slice_get, slice_set}
use Rattle.std.proofs.Common.{take, option_map, refl, sym, ap, subst, arith}
use Rattle.std.specs.Prelude.{if◌then◌else◌, slice_index_or}
use Rattle.std.specs.Bool.{beq}
use Rattle.std.specs.List.{list_any, list_all}
use Rattle.std.specs.Str.{bytes_eq}
use Rattle.std.specs.Cmp.Lexicographic.{pointwise}
use Rattle.std.proofs.Math.Bool.{or-false, or-true, and-false, not-not}
use Rattle.std.proofs.lemmas.Bool.{false≢true, cond-true, cond-false, cond_both, and_parts, eqb-true, eqb-false}
use Rattle.std.proofs.lemmas.Bool.{eq-eqb, ne_eqb}
use Rattle.std.proofs.lemmas.List.{map-append, append-nil, take_all, append_assoc, length-map, get_or-set_same}
use Rattle.std.proofs.lemmas.List.{get_or-set_other}
use Rattle.std.proofs.lemmas.List.Elements.{filter-append}
use Rattle.std.proofs.lemmas.List.Folds.{list_any-append}
use Rattle.std.proofs.lemmas.Option.{same_Some, none-some, slice_get-map, slice_get_within, get_or_from_slice_get}
use Rattle.type_rules.specs.declared.ty.Ty.{Ty}
use Rattle.type_rules.specs.Same.{same_type}
use Rattle.case_table.specs.Lists.{Tells, with_first}
use Rattle.case_table.specs.ListLaws.{list_any-slice_get}
use Rattle.scope_tables.specs.declared.entity.Entity.{Entity}
use Rattle.scope_tables.specs.declared.entity.Sort.{Sort}
use Rattle.scope_tables.specs.declared.entity.Sort.TheVariants as sort
use Rattle.scope_tables.specs.contracts.entity.SortPartialEq.TheImpl as sorts
use Rattle.scope_tables.specs.declared.kinds.Kinds.{Kinds}
use Rattle.scope_core.specs.declared.fault.ScopeFault.{ScopeFault}
use Rattle.scope_core.specs.declared.settled.Settled.{Settled}
use Rattle.scope_tables.specs.declared.tables.Table.{Table}
use Rattle.scope_tables.specs.Entities.{Declared}
use Rattle.scope_tables.specs.Visible.{World, is_function, is_annotation}
use Rattle.scope_core.specs.Standing.{is_prototype, share_name}
use Rattle.scope_core.specs.ScopeFaults.{may_stand, twice, twice_among}
use Rattle.scope_tables.specs.inside.Finding.{placed}
use Rattle.scope_core.specs.inside.Holding.{IsTable, AreTables}
use Rattle.scope_tables.specs.inside.Kinds.{no_kinds, kinds_of, both, kinds_among, has_none, go_together}
use Rattle.scope_core.specs.inside.Lessening.{lesser, least_onto}
use Rattle.scope_core.specs.inside.Noting.{Mark, same_mark, is_twice, kinds_at, NotesDeclared}
use Rattle.scope_tables.specs.inside.Owning.{same_text, names_in, number_in}
use Rattle.scope_core.specs.inside.Rounds.{AreSettled, last_types, declared_at, declared_in}
use Rattle.scope_core.specs.inside.Settling.{taken_at}
use Rattle.scope_tables.proofs.KindLaws.{names_of, kinds-push}
use Rattle.scope_core.proofs.ListedLaws.{least_onto-append}
use Rattle.scope_core.proofs.SameLaws.{types-decide}
use Rattle.scope_tables.proofs.MemberLaws.{crossed, any-filtered, all-at, take-next, there-is}
use Rattle.scope_tables.proofs.OwnLaws.{same_text-tells, number-within, same-number}
use Rattle.scope_core.proofs.VisibleLaws.{tables-long}
use Rattle.scope_core.proofs.FoundIsLaws.{table-at}

-- the program's own test for a prototype
pub prototype-is : (of : Sort) → (sorts.ghosts).eq of sort.Intrinsic ≡ is_prototype of
prototype-is sort.Material = refl
prototype-is sort.Function = refl
prototype-is sort.Intrinsic = refl
prototype-is sort.Struct = refl
prototype-is sort.Enum = refl
prototype-is sort.EnumValue = refl
prototype-is sort.Annotation = refl

-- of one sort of prototypes and definitions
abbrev pub alike_sorts : Sort → Sort → Bool
alike_sorts one other = if is_prototype one then is_prototype other else not (is_prototype other)

abbrev pub alike : (Declared → List Ty) → Declared → Declared → Bool
alike types one earlier =
    pointwise same_type (types earlier) (types one) && alike_sorts earlier.entity.sort one.entity.sort

any-or : (p q : Declared → Bool) (all : List Declared)
    → list_any (λ one. p one || q one) all ≡ (list_any p all || list_any q all)
any-or p q [] = refl
any-or p q (one ∷ all) =
    ap (λ b. (p one || q one) || b) (any-or p q all) ∙ crossed (p one) (q one) (list_any p all) (list_any q all)

any-same : (p q : Declared → Bool) (all : List Declared) → ((one : Declared) → p one ≡ q one)
    → list_any p all ≡ list_any q all
any-same p q [] same = refl
any-same p q (one ∷ all) same = λ k. same one k || any-same p q all same k

-- beside a function
with-function : (f a same q : Bool)
    → not ((f && true && (not same || not q)) || (a && false && not same)) ≡ (not f || (same && q))
with-function false true same q = refl
with-function false false same q = refl
with-function true true true true = refl
with-function true false true true = refl
with-function true true true false = refl
with-function true false true false = refl
with-function true true false q = refl
with-function true false false q = refl

-- beside an annotation
with-annotation : (of : Sort) (same : Bool)
    → not ((is_function of && false && (not same || not (alike_sorts of sort.Annotation)))
    || (is_annotation of && true && not same))
    ≡ (not (is_annotation of) || (same && alike_sorts of sort.Annotation))
with-annotation sort.Material same = refl
with-annotation sort.Function same = refl
with-annotation sort.Intrinsic same = refl
with-annotation sort.Struct same = refl
with-annotation sort.Enum same = refl
with-annotation sort.EnumValue same = refl
with-annotation sort.Annotation true = refl
with-annotation sort.Annotation false = refl

-- beside another
with-other : (f a same q : Bool) → not ((f && false && (not same || not q)) || (a && false && not same)) ≡ true
with-other true true same q = refl
with-other true false same q = refl
with-other false true same q = refl
with-other false false same q = refl

-- whether some aren't functions, or aren't annotations
some-else : (test : Sort → Bool) (pick : Kinds → Bool)
    → (pick no_kinds ≡ false)
    → ((sort : Sort) (rest : Kinds) → pick (both (kinds_of sort) rest) ≡ (not (test sort) || pick rest))
    → (all : List Declared)
    → list_any (λ (one : Declared). not (test one.entity.sort)) all ≡ pick (kinds_among (names_of all))
some-else test pick base step [] = sym base
some-else test pick base step (one ∷ all) =
    ap (λ b. not (test one.entity.sort) || b) (some-else test pick base step all)
    ∙ sym (step one.entity.sort (kinds_among (names_of all)))

some-other : (f a : Bool) → not (not f && (not a && false)) ≡ true
some-other true a = refl
some-other false true = refl
some-other false false = refl

no-functions : (sort : Sort) (rest : Kinds)
    → ((both (kinds_of sort) rest).others || (both (kinds_of sort) rest).annotations)
    ≡ (not (is_function sort) || (rest.others || rest.annotations))
no-functions sort.Material rest = refl
no-functions sort.Function rest = refl
no-functions sort.Intrinsic rest = refl
no-functions sort.Struct rest = refl
no-functions sort.Enum rest = refl
no-functions sort.EnumValue rest = refl
no-functions sort.Annotation rest = or-true rest.others

no-annotations : (sort : Sort) (rest : Kinds)
    → ((both (kinds_of sort) rest).others || (both (kinds_of sort) rest).functions)
    ≡ (not (is_annotation sort) || (rest.others || rest.functions))
no-annotations sort.Material rest = refl
no-annotations sort.Function rest = or-true rest.others
no-annotations sort.Intrinsic rest = or-true rest.others
no-annotations sort.Struct rest = refl
no-annotations sort.Enum rest = refl
no-annotations sort.EnumValue rest = refl
no-annotations sort.Annotation rest = refl

apart-function : (f a o : Bool) → not (not (o || false) && not ((f || true) && (a || false))) ≡ (o || a)
apart-function true true true = refl
apart-function true true false = refl
apart-function true false true = refl
apart-function true false false = refl
apart-function false true true = refl
apart-function false true false = refl
apart-function false false true = refl
apart-function false false false = refl

apart-annotation : (f a o : Bool) → not (not (o || false) && not ((f || false) && (a || true))) ≡ (o || f)
apart-annotation true true true = refl
apart-annotation true true false = refl
apart-annotation true false true = refl
apart-annotation true false false = refl
apart-annotation false true true = refl
apart-annotation false true false = refl
apart-annotation false false true = refl
apart-annotation false false false = refl

apart-other : (f a o : Bool) → not (not (o || true) && not ((f || false) && (a || false))) ≡ true
apart-other f a true = refl
apart-other f a false = refl

-- some sort is among those of a list that has a member
pub some-sort : (sort : Sort) (rest : Kinds) → not (has_none (both (kinds_of sort) rest)) ≡ true
some-sort sort.Material rest = some-other rest.functions rest.annotations
some-sort sort.Function rest = refl
some-sort sort.Intrinsic rest = refl
some-sort sort.Struct rest = some-other rest.functions rest.annotations
some-sort sort.Enum rest = some-other rest.functions rest.annotations
some-sort sort.EnumValue rest = some-other rest.functions rest.annotations
some-sort sort.Annotation rest = ap not (and-false (not rest.functions))

abbrev conflicts : (Declared → List Ty) → List Ty → Sort → Declared → Bool
conflicts types own sort earlier =
    not ((is_function earlier.entity.sort && is_function sort
    && (not (pointwise same_type (types earlier) own) || not (alike_sorts earlier.entity.sort sort)))
    || (is_annotation earlier.entity.sort && is_annotation sort && not (pointwise same_type (types earlier) own)))

abbrev fits : (Declared → List Ty) → List Ty → Sort → Declared → Bool
fits types own sort earlier = pointwise same_type (types earlier) own && alike_sorts earlier.entity.sort sort

-- of some that share a name one conflicts where not all go together, or one is alike
pub some-conflict : (types : Declared → List Ty) (own : List Ty) (mine : Sort) (all : List Declared)
    → list_any (conflicts types own mine) all
    ≡ is_twice (kinds_among (names_of all)) (both (kinds_among (names_of all)) (kinds_of mine))
    (not (list_any (fits types own mine) all))
some-conflict types own mine [] = refl
some-conflict types own mine (first ∷ all) =
    by mine ∙ ap (λ b. not (go_together (both kinds (kinds_of mine))) || b)
    (sym (not-not (list_any (fits types own mine) (first ∷ all))))
    ∙ ap (λ b. b && (not (go_together (both kinds (kinds_of mine)))
    || not (not (list_any (fits types own mine) (first ∷ all)))))
    (sym (some-sort first.entity.sort (kinds_among (names_of all))))
  where
    kinds : Kinds
    kinds = kinds_among (names_of (first ∷ all))

    function : (of : Sort) → is_function of ≡ true → is_annotation of ≡ false
        → list_any (conflicts types own of) (first ∷ all)
        ≡ (not (go_together (both kinds (kinds_of of))) || list_any (fits types own of) (first ∷ all))
    function of is isnt =
        any-same (conflicts types own of)
        (λ (one : Declared). not (is_function one.entity.sort) || fits types own of one)
        (first ∷ all)
        (λ one.
        (λ k. not ((is_function one.entity.sort && is k
        && (not (pointwise same_type (types one) own) || not (alike_sorts one.entity.sort of)))
        || (is_annotation one.entity.sort && isnt k && not (pointwise same_type (types one) own))))
        ∙ with-function (is_function one.entity.sort) (is_annotation one.entity.sort)
        (pointwise same_type (types one) own) (alike_sorts one.entity.sort of))
        ∙ any-or (λ (one : Declared). not (is_function one.entity.sort)) (fits types own of) (first ∷ all)
        ∙ ap (λ b. b || list_any (fits types own of) (first ∷ all))
        (some-else is_function (λ kinds. kinds.others || kinds.annotations) refl no-functions (first ∷ all)
        ∙ sym (apart-function kinds.functions kinds.annotations kinds.others)
        ∙ (λ k. not (not (kinds.others || not (sym is k || sym isnt k))
        && not ((kinds.functions || sym is k) && (kinds.annotations || sym isnt k)))))

    other : (of : Sort) → is_function of ≡ false → is_annotation of ≡ false
        → list_any (conflicts types own of) (first ∷ all)
        ≡ (not (go_together (both kinds (kinds_of of))) || list_any (fits types own of) (first ∷ all))
    other of isnt none =
        ap (λ b. b || list_any (conflicts types own of) all)
        ((λ k. not ((is_function first.entity.sort && isnt k
        && (not (pointwise same_type (types first) own) || not (alike_sorts first.entity.sort of)))
        || (is_annotation first.entity.sort && none k && not (pointwise same_type (types first) own))))
        ∙ with-other (is_function first.entity.sort) (is_annotation first.entity.sort)
        (pointwise same_type (types first) own) (alike_sorts first.entity.sort of))
        ∙ ap (λ b. b || list_any (fits types own of) (first ∷ all))
        (sym (apart-other kinds.functions kinds.annotations kinds.others)
        ∙ (λ k. not (not (kinds.others || not (sym isnt k || sym none k))
        && not ((kinds.functions || sym isnt k) && (kinds.annotations || sym none k)))))

    by : (mine : Sort) → list_any (conflicts types own mine) (first ∷ all)
        ≡ (not (go_together (both kinds (kinds_of mine))) || list_any (fits types own mine) (first ∷ all))
    by sort.Function = function sort.Function refl refl
    by sort.Intrinsic = function sort.Intrinsic refl refl
    by sort.Annotation =
        any-same (conflicts types own sort.Annotation)
        (λ (one : Declared). not (is_annotation one.entity.sort) || fits types own sort.Annotation one) (first ∷ all)
        (λ one. with-annotation one.entity.sort (pointwise same_type (types one) own))
        ∙ any-or (λ (one : Declared). not (is_annotation one.entity.sort)) (fits types own sort.Annotation)
        (first ∷ all)
        ∙ ap (λ b. b || list_any (fits types own sort.Annotation) (first ∷ all))
        (some-else is_annotation (λ kinds. kinds.others || kinds.functions) refl no-annotations (first ∷ all)
        ∙ sym (apart-annotation kinds.functions kinds.annotations kinds.others))
    by sort.Material = other sort.Material refl refl
    by sort.Struct = other sort.Struct refl refl
    by sort.Enum = other sort.Enum refl refl
    by sort.EnumValue = other sort.EnumValue refl refl

same_mark-tells : Tells same_mark
same_mark-tells = record {
  itself = λ mark. (λ k. (eq-eqb mark.0 mark.0 refl k && eq-eqb mark.1 mark.1 refl k) && own mark.2 k);
  only = λ one other same.
      let parts = and_parts ((one.0 == other.0) && (one.1 == other.1)) (beq one.2 other.2) same in
      let numbers = and_parts (one.0 == other.0) (one.1 == other.1) parts.0 in
      λ k. (eqb-true one.0 other.0 numbers.0 k, eqb-true one.1 other.1 numbers.1 k, only one.2 other.2 parts.1 k);
}
  where
    own : (b : Bool) → beq b b ≡ true
    own true = refl
    own false = refl

    only : (a b : Bool) → beq a b ≡ true → a ≡ b
    only true true same = refl
    only false false same = refl
    only true false same = absurd (false≢true same)
    only false true same = absurd (false≢true same)

any-taken-in : {A : Type 0} (same : A → A → Bool) → Tells same → (x one : A) (xs : List A)
    → list_any (same x) (with_first same xs one) ≡ (list_any (same x) xs || same x one)
any-taken-in same tells x one xs =
    cond_both (list_any (same one) xs) xs (xs ++ one ∷ [])
    (λ l. list_any (same x) l ≡ (list_any (same x) xs || same x one))
    (λ known. by (same x one) (λ is. ap (λ y. list_any (same y) xs) (tells.only x one is) ∙ known))
    (λ new. list_any-append (same x) xs (one ∷ []) ∙ ap (λ b. list_any (same x) xs || b) (or-false (same x one)))
  where
    by : (b : Bool) → (b ≡ true → list_any (same x) xs ≡ true) → list_any (same x) xs ≡ (list_any (same x) xs || b)
    by true is = is refl ∙ ap (λ b. b || true) (sym (is refl))
    by false is = sym (or-false (list_any (same x) xs))

abbrev of_text : List ℕ → Declared → Bool
of_text name one = bytes_eq one.entity.name name

-- what was noted of these entities, which have these names and take what has a number among these lists
pub record AreNoted (types : Declared → List Ty) (entities : List Entity) (keys : List (List Ty))
    (start : Option ScopeFault) (before : List Declared) (least : Option ScopeFault) (kinds : List Kinds)
    (seen : List Mark) : Type 0 where
  pub long : length kinds ≡ length entities
  pub kinds_are : (name : List ℕ) → list_any (same_text name) (names_in entities) ≡ true
      → kinds_at kinds (number_in entities name) ≡ kinds_among (names_of (filter (of_text name) before))
  pub seen_are : (one : Declared) (taken : ℕ) → list_any (same_text one.entity.name) (names_in entities) ≡ true
      → slice_get keys taken ≡ Some (types one)
      → list_any (same_mark (number_in entities one.entity.name, taken, is_prototype one.entity.sort)) seen
      ≡ list_any (λ earlier. of_text one.entity.name earlier && alike types one earlier) before
  pub least_is : least ≡ least_onto start (twice_among types [] before)

beq-as : (one other : Bool) → beq one other ≡ (if other then one else not one)
beq-as true true = refl
beq-as true false = refl
beq-as false true = refl
beq-as false false = refl

and-assoc : (a b c : Bool) → ((a && b) && c) ≡ (a && (b && c))
and-assoc true b c = refl
and-assoc false b c = refl

same-taken : (keys : List (List Ty)) (i j : ℕ) (one other : List Ty)
    → ((i j : ℕ) (types : List Ty) → slice_get keys i ≡ Some types → slice_get keys j ≡ Some types → i ≡ j)
    → slice_get keys i ≡ Some one → slice_get keys j ≡ Some other
    → (i == j) ≡ pointwise same_type other one
same-taken keys i j one other apart at there = by (pointwise same_type other one) refl
  where
    by : (b : Bool) → pointwise same_type other one ≡ b → (i == j) ≡ pointwise same_type other one
    by true same =
        eq-eqb i j (apart i j one at (there ∙ ap Some ((types-decide other one).0 same))) ∙ sym same
    by false differ =
        ne_eqb i j
        (λ e. false≢true (sym differ ∙ (types-decide other one).1
        (same_Some other one (sym there ∙ ap (slice_get keys) (sym e) ∙ at))))
        ∙ sym differ

-- marks are the same where the entities share a name and are alike
same-marks : (types : Declared → List Ty) (entities : List Entity) (keys : List (List Ty)) (i j : ℕ)
    (one other : Declared)
    → ((i j : ℕ) (types : List Ty) → slice_get keys i ≡ Some types → slice_get keys j ≡ Some types → i ≡ j)
    → list_any (same_text one.entity.name) (names_in entities) ≡ true
    → list_any (same_text other.entity.name) (names_in entities) ≡ true
    → slice_get keys i ≡ Some (types one) → slice_get keys j ≡ Some (types other)
    → same_mark (number_in entities one.entity.name, i, is_prototype one.entity.sort)
    (number_in entities other.entity.name, j, is_prototype other.entity.sort)
    ≡ (of_text one.entity.name other && alike types one other)
same-marks types entities keys i j one other apart known there at held =
    (λ k. (same-number entities one.entity.name other.entity.name known there k
    && same-taken keys i j (types one) (types other) apart at held k)
    && beq-as (is_prototype one.entity.sort) (is_prototype other.entity.sort) k)
    ∙ and-assoc (of_text one.entity.name other) (pointwise same_type (types other) (types one))
    (alike_sorts other.entity.sort one.entity.sort)

abbrev strikes : (Declared → List Ty) → Declared → Declared → Bool
strikes types one earlier = share_name earlier one && not (may_stand types earlier one)

any-shared : (types : Declared → List Ty) (m : ℕ) (one : Declared) (before : List Declared)
    → list_all (λ (one : Declared). one.entity.id.module == m) before ≡ true → (one.entity.id.module == m) ≡ true
    → list_any (strikes types one) before
    ≡ list_any (λ earlier. of_text one.entity.name earlier
    && conflicts types (types one) one.entity.sort earlier) before
any-shared types m one [] inside own = refl
any-shared types m one (earlier ∷ before) inside own =
    let parts = and_parts (earlier.entity.id.module == m)
    (list_all (λ (one : Declared). one.entity.id.module == m) before) inside in
    let same : (earlier.entity.id.module == one.entity.id.module) ≡ true =
    eq-eqb earlier.entity.id.module one.entity.id.module
    (eqb-true earlier.entity.id.module m parts.0 ∙ sym (eqb-true one.entity.id.module m own)) in
    λ k. ((same k && of_text one.entity.name earlier) && conflicts types (types one) one.entity.sort earlier)
    || any-shared types m one before parts.1 own k

-- what an entity adds behind others
abbrev adds : (Declared → List Ty) → List Declared → Declared → List ScopeFault
adds types before one =
    if list_any (strikes types one) before then twice one.entity.id.module one.at ∷ [] else []

twice_among-push : (types : Declared → List Ty) (before others : List Declared) (one : Declared)
    → twice_among types before (others ++ one ∷ [])
    ≡ twice_among types before others ++ adds types (before ++ others) one
twice_among-push types before [] one =
    append-nil (adds types before one) ∙ ap (λ l. adds types l one) (sym (append-nil before))
twice_among-push types before (other ∷ others) one =
    ap (λ l. adds types before other ++ l)
    (twice_among-push types (before ++ other ∷ []) others one
    ∙ ap (λ l. twice_among types (before ++ other ∷ []) others ++ adds types l one)
    (append_assoc before (other ∷ []) others))
    ∙ sym (append_assoc (adds types before other) (twice_among types (before ++ other ∷ []) others)
    (adds types (before ++ other ∷ others) one))

pub lessened : (strikes : Bool) (least : Option ScopeFault) (fault : ScopeFault)
    → least_onto least (if strikes then fault ∷ [] else []) ≡ (if strikes then lesser least fault else least)
lessened true least fault = refl
lessened false least fault = refl

-- one more entity
pub noted-push : (types : Declared → List Ty) (entities : List Entity) (keys : List (List Ty)) (m taken : ℕ)
    (start least after : Option ScopeFault) (before : List Declared) (one : Declared) (kinds now : List Kinds)
    (seen marks : List Mark)
    → AreNoted types entities keys start before least kinds seen
    → list_any (same_text one.entity.name) (names_in entities) ≡ true → slice_get keys taken ≡ Some (types one)
    → ((i j : ℕ) (types : List Ty) → slice_get keys i ≡ Some types → slice_get keys j ≡ Some types → i ≡ j)
    → list_all (λ (one : Declared). one.entity.id.module == m) before ≡ true → (one.entity.id.module == m) ≡ true
    → NotesDeclared (number_in entities one.entity.name) taken one.entity.sort
    (twice m one.at) least kinds seen after now marks
    → AreNoted types entities keys start (before ++ one ∷ []) after now marks
noted-push types entities keys m taken start least after before one kinds now seen marks noted known at apart
    inside own notes = record {
      long = ap length (notes.kinds_are below)
          ∙ length-set kinds number (both (kinds_at kinds number) (kinds_of one.entity.sort)) ∙ noted.long;
      kinds_are = λ name there. kinds-one name there (same_text one.entity.name name) refl;
      seen_are = λ other held there is.
          ap (list_any (same_mark (number_in entities other.entity.name, held, is_prototype other.entity.sort)))
          notes.seen_is
          ∙ any-taken-in same_mark same_mark-tells
          (number_in entities other.entity.name, held, is_prototype other.entity.sort)
          (number, taken, is_prototype one.entity.sort) seen
          ∙ (λ k. noted.seen_are other held there is k
          || same-marks types entities keys held taken other one apart there known is at k)
          ∙ sym (list_any-append (λ earlier. of_text other.entity.name earlier && alike types other earlier) before
          (one ∷ [])
          ∙ ap (λ b. list_any (λ earlier. of_text other.entity.name earlier && alike types other earlier) before || b)
          (or-false (of_text other.entity.name one && alike types other one)));
      least_is =
          notes.least_is below
          ∙ ap (λ b. if b then lesser least (twice m one.at) else least) test
          ∙ ap (λ n. if list_any (strikes types one) before then lesser least (twice n one.at) else least)
          (sym (eqb-true one.entity.id.module m own))
          ∙ sym (lessened (list_any (strikes types one) before) least (twice one.entity.id.module one.at))
          ∙ ap (λ l. least_onto l (adds types before one)) noted.least_is
          ∙ sym (least_onto-append start (twice_among types [] before) (adds types before one))
          ∙ ap (least_onto start) (sym (twice_among-push types [] before one));
    }
  where
    number : ℕ
    number = number_in entities one.entity.name

    below : number < length kinds
    below =
        let less = number-within entities one.entity.name known in
        omega (arith, less, noted.long)

    length-set : (kinds : List Kinds) (i : ℕ) (kind : Kinds) → length (slice_set kinds i kind) ≡ length kinds
    length-set [] i kind = refl
    length-set (k ∷ kinds) zero kind = refl
    length-set (k ∷ kinds) (suc i) kind = ap suc (length-set kinds i kind)

    kinds-one : (name : List ℕ) → list_any (same_text name) (names_in entities) ≡ true
        → (b : Bool) → same_text one.entity.name name ≡ b
        → kinds_at now (number_in entities name) ≡ kinds_among (names_of (filter (of_text name) (before ++ one ∷ [])))
    kinds-one name there true same =
        let e = ap (number_in entities) (sym (same_text-tells.only one.entity.name name same)) in
        ap (λ l. kinds_at l (number_in entities name)) (notes.kinds_are below)
        ∙ ap (kinds_at (slice_set kinds number (both (kinds_at kinds number) (kinds_of one.entity.sort)))) e
        ∙ get_or-set_same kinds number (both (kinds_at kinds number) (kinds_of one.entity.sort)) no_kinds below
        ∙ ap (λ k. both k (kinds_of one.entity.sort))
        (noted.kinds_are one.entity.name known
        ∙ ap (λ n. kinds_among (names_of (filter (of_text n) before)))
        (same_text-tells.only one.entity.name name same))
        ∙ kinds-push (names_of (filter (of_text name) before)) one.entity
        ∙ ap kinds_among (sym (map-append (λ (one : Declared). one.entity) (filter (of_text name) before) (one ∷ [])))
        ∙ ap (λ l. kinds_among (names_of (filter (of_text name) before ++ l)))
        (sym (cond-true (same_text one.entity.name name) (one ∷ []) [] same))
        ∙ ap (λ l. kinds_among (names_of l)) (sym (filter-append (of_text name) before (one ∷ [])))
    kinds-one name there false differ =
        ap (λ l. kinds_at l (number_in entities name)) (notes.kinds_are below)
        ∙ get_or-set_other kinds number (number_in entities name)
        (both (kinds_at kinds number) (kinds_of one.entity.sort)) no_kinds
        (eqb-false (number_in entities name) number (same-number entities name one.entity.name there known ∙ differ))
        ∙ noted.kinds_are name there
        ∙ ap (λ l. kinds_among (names_of l)) (sym (append-nil (filter (of_text name) before)))
        ∙ ap (λ l. kinds_among (names_of (filter (of_text name) before ++ l)))
        (sym (cond-false (same_text one.entity.name name) (one ∷ []) [] differ))
        ∙ ap (λ l. kinds_among (names_of l)) (sym (filter-append (of_text name) before (one ∷ [])))

    test : is_twice (kinds_at kinds number) (both (kinds_at kinds number) (kinds_of one.entity.sort))
        (not (list_any (same_mark (number, taken, is_prototype one.entity.sort)) seen))
        ≡ list_any (strikes types one) before
    test =
        (λ k. is_twice (noted.kinds_are one.entity.name known k)
        (both (noted.kinds_are one.entity.name known k) (kinds_of one.entity.sort))
        (not ((noted.seen_are one taken known at
        ∙ sym (any-filtered (of_text one.entity.name) (alike types one) before)) k)))
        ∙ sym (some-conflict types (types one) one.entity.sort (filter (of_text one.entity.name) before))
        ∙ any-filtered (of_text one.entity.name) (conflicts types (types one) one.entity.sort) before
        ∙ sym (any-shared types m one before inside own)

-- the table of a piece
pub piece-at : (world : World) (k : ℕ) (tables : List Table) (pieces : List (List Declared)) (m : ℕ) (table : Table)
    (piece : List Declared) → AreTables world k tables pieces → slice_get tables m ≡ Some table
    → slice_get pieces m ≡ Some piece → IsTable world (k + m) piece table
piece-at world k tables pieces m table piece are at there =
    let found = table-at world k tables pieces m table are at in
    subst (λ p. IsTable world (k + m) p table) (same_Some found.0 piece (sym found.1 ∙ there)) found.2

pub own-table : (world : World) (settled : Settled) (pieces : List (List Declared)) (m : ℕ) (table : Table)
    (own : List Declared) → AreSettled world pieces settled → slice_get settled.tables.items m ≡ Some table
    → slice_get pieces m ≡ Some own → IsTable world m own table
own-table world settled pieces m table own are at there =
    let e : 0 + m ≡ m = omega arith in
    subst (λ n. IsTable world n own table) e
    (piece-at world 0 settled.tables.items pieces m table own are.closed.hold.are at there)

all-taken : (test : Declared → Bool) (i : ℕ) (all : List Declared) → list_all test all ≡ true
    → list_all test (take i all) ≡ true
all-taken test zero all every = refl
all-taken test (suc i) [] every = refl
all-taken test (suc i) (one ∷ all) every =
    let parts = and_parts (test one) (list_all test all) every in
    λ k. parts.0 k && all-taken test i all parts.1 k

own-there : (world : World) (settled : Settled) (pieces : List (List Declared)) (m i : ℕ) (table : Table)
    (own : List Declared) → AreSettled world pieces settled → slice_get settled.tables.items m ≡ Some table
    → slice_get pieces m ≡ Some own → i < length table.own → (one : Declared) × (slice_get own i ≡ Some one)
own-there world settled pieces m i table own are at there within =
    let same = ap length (own-table world settled pieces m table own are at there).own in
    let long = length-map own (λ (one : Declared). one.entity) in
    there-is own i (omega (arith, within, same, long))

-- each entity has a place
pub place-there : (world : World) (settled : Settled) (pieces : List (List Declared)) (m i : ℕ) (table : Table)
    (own : List Declared) (places : List ℕ) → AreSettled world pieces settled
    → slice_get settled.tables.items m ≡ Some table → slice_get pieces m ≡ Some own → i < length table.own
    → places ≡ map (λ (one : Declared). one.at) own → slice_get places i ≡ None → ⊥
place-there world settled pieces m i table own places are at there within are_places missing =
    let one = own-there world settled pieces m i table own are at there within in
    none-some one.0.at
    (sym missing ∙ ap (λ l. slice_get l i) are_places ∙ slice_get-map (λ (one : Declared). one.at) own i
    ∙ ap (option_map (λ (one : Declared). one.at)) one.1)

placed-own : (pieces : List (List Declared)) (m i : ℕ) (own : List Declared) (one : Declared)
    → slice_get pieces m ≡ Some own → slice_get own i ≡ Some one → declared_at pieces (placed m i) ≡ Some one
placed-own pieces m i own one there at = ap (λ p. declared_in p i) there ∙ at

-- and is settled
pub taken-there : (world : World) (settled : Settled) (pieces : List (List Declared)) (m i : ℕ) (table : Table)
    (own : List Declared) → AreSettled world pieces settled
    → slice_get settled.tables.items m ≡ Some table → slice_get pieces m ≡ Some own → i < length table.own
    → taken_at settled.taken.items (placed m i) ≡ None → ⊥
taken-there world settled pieces m i table own are at there within missing =
    let one = own-there world settled pieces m i table own are at there within in
    let is = are.closed.taken (placed m i) one.0 (placed-own pieces m i own one.0 there one.1) in
    none-some is.0 (sym missing ∙ is.1)

-- a list of types has one number
lists-apart : (keys : List (List Ty))
    → ((i j : ℕ) → i < length keys → j < length keys → slice_index_or keys i [] ≡ slice_index_or keys j [] → i ≡ j)
    → (i j : ℕ) (types : List Ty) → slice_get keys i ≡ Some types → slice_get keys j ≡ Some types → i ≡ j
lists-apart keys apart i j types at there =
    apart i j (slice_get_within keys i types at) (slice_get_within keys j types there)
    (get_or_from_slice_get keys i types [] at ∙ sym (get_or_from_slice_get keys j types [] there))

-- an entity of the module, behind those before it
pub noted-step : (world : World) (settled : Settled) (pieces : List (List Declared)) (m i taken at : ℕ) (table : Table)
    (own : List Declared) (places : List ℕ) (entity : Entity)
    (start least after : Option ScopeFault) (kinds now : List Kinds) (seen marks : List Mark)
    → AreSettled world pieces settled → slice_get settled.tables.items m ≡ Some table → slice_get pieces m ≡ Some own
    → places ≡ map (λ (one : Declared). one.at) own → i < length table.own
    → slice_get places i ≡ Some at → slice_get table.own i ≡ Some entity
    → taken_at settled.taken.items (placed m i) ≡ Some taken
    → AreNoted (last_types world pieces) table.own settled.lists.keys start (take i own) least kinds seen
    → NotesDeclared (number_in table.own entity.name) taken entity.sort (twice m at) least kinds seen after now marks
    → AreNoted (last_types world pieces) table.own settled.lists.keys start (take (i + 1) own) after now marks
noted-step world settled pieces m i taken at table own places entity start least after kinds now seen marks
    are table_at there are_places within place_is entity_is taken_is noted notes =
    subst (λ l. AreNoted (last_types world pieces) table.own settled.lists.keys start l after now marks)
    (sym (take-next own i one.0 (slice_get_within own i one.0 one.1)
    (sym (get_or_from_slice_get own i one.0 one.0 one.1))))
    (noted-push (last_types world pieces) table.own settled.lists.keys m taken start least after (take i own) one.0
    kinds now seen marks noted
    (list_any-slice_get same_text same_text-tells (names_in table.own) one.0.entity.name i
    (slice_get-map (λ (entity : Entity). entity.name) table.own i
    ∙ ap (option_map (λ (entity : Entity). entity.name)) (entity_is ∙ ap Some same_entity)))
    (ap (slice_get settled.lists.keys) (same_Some taken is.0 (sym taken_is ∙ is.1)) ∙ is.2)
    (lists-apart settled.lists.keys are.closed.apart)
    (all-taken (λ (one : Declared). one.entity.id.module == m) i own inside)
    (all-at (λ (one : Declared). one.entity.id.module == m) own i one.0 inside one.1)
    (subst (λ (e : Entity). NotesDeclared (number_in table.own e.name) taken e.sort
    (twice m one.0.at) least kinds seen after now marks)
    same_entity
    (subst (λ a. NotesDeclared (number_in table.own entity.name) taken entity.sort
    (twice m a) least kinds seen after now marks)
    same_place notes)))
  where
    one : (one : Declared) × (slice_get own i ≡ Some one)
    one = own-there world settled pieces m i table own are table_at there within

    table_is : IsTable world m own table
    table_is = own-table world settled pieces m table own are table_at there

    inside : list_all (λ (one : Declared). one.entity.id.module == m) own ≡ true
    inside = table_is.inside

    same_entity : entity ≡ one.0.entity
    same_entity =
        same_Some entity one.0.entity
        (sym entity_is ∙ ap (λ l. slice_get l i) table_is.own ∙ slice_get-map (λ (one : Declared). one.entity) own i
        ∙ ap (option_map (λ (one : Declared). one.entity)) one.1)

    same_place : at ≡ one.0.at
    same_place =
        same_Some at one.0.at
        (sym place_is ∙ ap (λ l. slice_get l i) are_places ∙ slice_get-map (λ (one : Declared). one.at) own i
        ∙ ap (option_map (λ (one : Declared). one.at)) one.1)

    is : (number : ℕ) × (taken_at settled.taken.items (placed m i) ≡ Some number)
        × (slice_get settled.lists.keys number ≡ Some (last_types world pieces one.0))
    is = are.closed.taken (placed m i) one.0 (placed-own pieces m i own one.0 there one.1)

-- where all are noted
pub noted-all : (world : World) (settled : Settled) (pieces : List (List Declared)) (m i : ℕ) (table : Table)
    (own : List Declared) (start least : Option ScopeFault) (kinds : List Kinds) (seen : List Mark)
    → AreSettled world pieces settled → slice_get settled.tables.items m ≡ Some table → slice_get pieces m ≡ Some own
    → length table.own ≤ i
    → AreNoted (last_types world pieces) table.own settled.lists.keys start (take i own) least kinds seen
    → least ≡ least_onto start (twice_among (last_types world pieces) [] own)
noted-all world settled pieces m i table own start least kinds seen are at there past noted =
    let same = ap length (own-table world settled pieces m table own are at there).own in
    let long = length-map own (λ (one : Declared). one.entity) in
    noted.least_is
    ∙ ap (λ l. least_onto start (twice_among (last_types world pieces) [] l))
    (take_all i own (omega (arith, past, same, long)))

-- each piece has a table
pub table-there : (world : World) (settled : Settled) (pieces : List (List Declared)) (m : ℕ) (own : List Declared)
    → AreSettled world pieces settled → slice_get pieces m ≡ Some own → length settled.tables.items ≤ m → ⊥
table-there world settled pieces m own are there past =
    let same = tables-long world 0 settled.tables.items pieces are.closed.hold.are in
    let within = slice_get_within pieces m own there in
    omega (arith, same, within, past)

-- The sorts of what stands under a name in the tables are those of what stands under it among the entities.
use Rattle.std.proofs.Common.{◌≡◌, ◌∙◌, ◌++◌, ◌∷◌, ◌+◌, ◌<◌, ◌==◌, ◌&&◌, ◌||◌, not, [], ℕ, zero, suc, Bool, true}
use Rattle.std.proofs.Common.{false, List, Some, filter, slice_get, refl, sym, ap, arith}
use Rattle.std.specs.Prelude.{if◌then◌else◌}
use Rattle.std.specs.List.{list_all}
use Rattle.std.specs.Str.{bytes_eq}
use Rattle.std.proofs.Math.Bool.{or-false, or_assoc, not-not}
use Rattle.std.proofs.lemmas.Bool.{and_parts, eqb-true, ne_eqb}
use Rattle.std.proofs.lemmas.List.{map-append}
use Rattle.std.proofs.lemmas.List.Elements.{filter-append}
use Rattle.scope_tables.specs.declared.entity.Entity.{Entity}
use Rattle.scope_tables.specs.declared.kinds.Kinds.{Kinds}
use Rattle.scope_core.specs.declared.settled.Settled.{Settled}
use Rattle.scope_tables.specs.declared.tables.Table.{Table}
use Rattle.scope_tables.specs.Entities.{Declared}
use Rattle.scope_tables.specs.Visible.{World}
use Rattle.scope_core.specs.Standing.{stands}
use Rattle.scope_core.specs.ScopeFaults.{of_name, exported_of}
use Rattle.scope_tables.specs.inside.Finding.{is_hidden}
use Rattle.scope_core.specs.inside.Holding.{AreTables}
use Rattle.scope_tables.specs.inside.Kinds.{no_kinds, kinds_of, both, kinds_among}
use Rattle.scope_core.specs.inside.Sums.{kinds_if, kinds_there, kinds_of_all, kinds_in, kinds_under}
use Rattle.scope_tables.specs.inside.Owning.{same_text, indices_from}
use Rattle.scope_core.specs.inside.Rounds.{AreSettled, last_types, last_standing, entities_in, declared_in}
use Rattle.scope_tables.proofs.KindLaws.{names_of}

pub both-assoc : (one other third : Kinds) → both (both one other) third ≡ both one (both other third)
both-assoc one other third = λ k. record {
  functions = or_assoc one.functions other.functions third.functions k;
  annotations = or_assoc one.annotations other.annotations third.annotations k;
  others = or_assoc one.others other.others third.others k;
}

pub both-none : (kinds : Kinds) → both kinds no_kinds ≡ kinds
both-none kinds = λ k. record {
  functions = or-false kinds.functions k;
  annotations = or-false kinds.annotations k;
  others = or-false kinds.others k;
}

-- the sorts of one more index
pub all-push : (table : Table) (exported : Bool) (indices : List ℕ) (i : ℕ)
    → both (kinds_of_all table exported indices) (kinds_there table exported i)
    ≡ kinds_of_all table exported (indices ++ i ∷ [])
all-push table exported [] i = sym (both-none (kinds_there table exported i))
all-push table exported (index ∷ indices) i =
    both-assoc (kinds_there table exported index) (kinds_of_all table exported indices) (kinds_there table exported i)
    ∙ ap (both (kinds_there table exported index)) (all-push table exported indices i)

-- the sorts of those that pass a test
abbrev pub sorts_where : (Declared → Bool) → List Declared → Kinds
sorts_where test entities = kinds_among (names_of (filter test entities))

pub among-append : (one other : List Entity) → kinds_among (one ++ other) ≡ both (kinds_among one) (kinds_among other)
among-append [] other = refl
among-append (entity ∷ one) other =
    ap (both (kinds_of entity.sort)) (among-append one other)
    ∙ sym (both-assoc (kinds_of entity.sort) (kinds_among one) (kinds_among other))

where-append : (test : Declared → Bool) (one other : List Declared)
    → sorts_where test (one ++ other) ≡ both (sorts_where test one) (sorts_where test other)
where-append test one other =
    ap (λ l. kinds_among (names_of l)) (filter-append test one other)
    ∙ ap kinds_among (map-append (λ (one : Declared). one.entity) (filter test one) (filter test other))
    ∙ among-append (names_of (filter test one)) (names_of (filter test other))

where-cons : (test : Declared → Bool) (one : Declared) (others : List Declared)
    → sorts_where test (one ∷ others)
    ≡ (if test one then both (kinds_of one.entity.sort) (sorts_where test others) else sorts_where test others)
where-cons test one others = by (test one)
  where
    by : (b : Bool) → kinds_among (names_of (if b then one ∷ filter test others else filter test others))
        ≡ (if b then both (kinds_of one.entity.sort) (sorts_where test others) else sorts_where test others)
    by true = refl
    by false = refl

-- what counts, of this name
abbrev pub counts : (Declared → Bool) → List ℕ → Bool → Declared → Bool
counts keep name exported one = bytes_eq name one.entity.name && (keep one && (not exported || one.entity.exported))

-- the entities of a table from an index on
under-from : (table : Table) (keep : Declared → Bool) (name : List ℕ) (exported : Bool) (i : ℕ) (rest : List Declared)
    → ((j : ℕ) → slice_get table.own (i + j) ≡ slice_get (names_of rest) j)
    → ((j : ℕ) (one : Declared) → slice_get rest j ≡ Some one → is_hidden table (i + j) ≡ not (keep one))
    → kinds_of_all table exported (indices_from name i (names_of rest)) ≡ sorts_where (counts keep name exported) rest
under-from table keep name exported i [] own hides = refl
under-from table keep name exported i (one ∷ rest) own hides =
    by (same_text name one.entity.name) (under-from table keep name exported (i + 1) rest
    (λ j. ap (slice_get table.own) (next j) ∙ own (suc j))
    (λ j other at. ap (is_hidden table) (next j) ∙ hides (suc j) other at))
    ∙ sym (where-cons (counts keep name exported) one rest)
  where
    next : (j : ℕ) → i + 1 + j ≡ i + suc j
    next j = omega arith

    start : i ≡ i + 0
    start = omega arith

    more : List ℕ
    more = indices_from name (i + 1) (names_of rest)

    sorts : Kinds
    sorts = sorts_where (counts keep name exported) rest

    hidden_is : not (is_hidden table i) ≡ keep one
    hidden_is = ap (λ n. not (is_hidden table n)) start ∙ ap not (hides 0 one refl) ∙ not-not (keep one)

    here : kinds_there table exported i
        ≡ (if keep one && (not exported || one.entity.exported) then kinds_of one.entity.sort else no_kinds)
    here =
        ap (kinds_if table exported i) (ap (slice_get table.own) start ∙ own 0)
        ∙ ap (λ b. if b && (not exported || one.entity.exported) then kinds_of one.entity.sort else no_kinds) hidden_is

    joined : (b : Bool) (rest : Kinds)
        → both (if b then kinds_of one.entity.sort else no_kinds) rest
        ≡ (if b then both (kinds_of one.entity.sort) rest else rest)
    joined true rest = refl
    joined false rest = refl

    by : (b : Bool) → kinds_of_all table exported more ≡ sorts
        → kinds_of_all table exported (if b then i ∷ more else more)
        ≡ (if b && (keep one && (not exported || one.entity.exported))
        then both (kinds_of one.entity.sort) sorts else sorts)
    by true later =
        (λ k. both (here k) (later k))
        ∙ joined (keep one && (not exported || one.entity.exported)) sorts
    by false later = later

-- of other modules nothing counts
abbrev pub counts_in : (Declared → Bool) → ℕ → List ℕ → Bool → Declared → Bool
counts_in keep m name exported one = (one.entity.id.module == m) && counts keep name exported one

none-counts : (keep : Declared → Bool) (m n : ℕ) (name : List ℕ) (exported : Bool) (piece : List Declared)
    → list_all (λ (one : Declared). one.entity.id.module == n) piece ≡ true → (n ≡ m → ⊥)
    → sorts_where (counts_in keep m name exported) piece ≡ no_kinds
none-counts keep m n name exported [] inside other = refl
none-counts keep m n name exported (one ∷ piece) inside other =
    let parts = and_parts (one.entity.id.module == n)
    (list_all (λ (one : Declared). one.entity.id.module == n) piece) inside in
    let apart : (one.entity.id.module == m) ≡ false =
    ne_eqb one.entity.id.module m (λ e. other (sym (eqb-true one.entity.id.module n parts.0) ∙ e)) in
    where-cons (counts_in keep m name exported) one piece
    ∙ ap (λ b. if b && counts keep name exported one
    then both (kinds_of one.entity.sort) (sorts_where (counts_in keep m name exported) piece)
    else sorts_where (counts_in keep m name exported) piece) apart
    ∙ none-counts keep m n name exported piece parts.1 other

all-count : (keep : Declared → Bool) (m : ℕ) (name : List ℕ) (exported : Bool) (piece : List Declared)
    → list_all (λ (one : Declared). one.entity.id.module == m) piece ≡ true
    → sorts_where (counts_in keep m name exported) piece ≡ sorts_where (counts keep name exported) piece
all-count keep m name exported [] inside = refl
all-count keep m name exported (one ∷ piece) inside =
    let parts = and_parts (one.entity.id.module == m)
    (list_all (λ (one : Declared). one.entity.id.module == m) piece) inside in
    where-cons (counts_in keep m name exported) one piece
    ∙ (λ k. if parts.0 k && counts keep name exported one
    then both (kinds_of one.entity.sort) (all-count keep m name exported piece parts.1 k)
    else all-count keep m name exported piece parts.1 k)
    ∙ sym (where-cons (counts keep name exported) one piece)

-- of pieces from an index on nothing counts for an earlier one
none-later : (world : World) (keep : Declared → Bool) (k m : ℕ) (name : List ℕ) (exported : Bool) (tables : List Table)
    (pieces : List (List Declared)) → AreTables world k tables pieces → m < k
    → sorts_where (counts_in keep m name exported) (entities_in pieces) ≡ no_kinds
none-later world keep k m name exported [] [] are less = refl
none-later world keep k m name exported [] (piece ∷ pieces) are less = absurd are
none-later world keep k m name exported (table ∷ tables) [] are less = absurd are
none-later world keep k m name exported (table ∷ tables) (piece ∷ pieces) are less =
    where-append (counts_in keep m name exported) piece (entities_in pieces)
    ∙ (λ i. both (none-counts keep m k name exported piece are.0.inside (λ e. omega (arith, e, less)) i)
    (none-later world keep (suc k) m name exported tables pieces are.1 (omega (arith, less)) i))

only-piece : (world : World) (keep : Declared → Bool) (k j : ℕ) (name : List ℕ) (exported : Bool) (tables : List Table)
    (pieces : List (List Declared)) (all : List Table) → AreTables world k tables pieces
    → ((i : ℕ) → slice_get all (k + i) ≡ slice_get tables i)
    → ((i : ℕ) (one : Declared) (table : Table) → slice_get all (k + j) ≡ Some table
    → declared_in (slice_get pieces j) i ≡ Some one
    → is_hidden table i ≡ not (keep one))
    → kinds_in (slice_get tables j) name exported
    ≡ sorts_where (counts_in keep (k + j) name exported) (entities_in pieces)
only-piece world keep k j name exported [] [] all are suffix hides = refl
only-piece world keep k j name exported [] (piece ∷ pieces) all are suffix hides = absurd are
only-piece world keep k j name exported (table ∷ tables) [] all are suffix hides = absurd are
only-piece world keep k zero name exported (table ∷ tables) (piece ∷ pieces) all are suffix hides =
    let e : k + 0 ≡ k = omega arith in
    ap (λ own. kinds_of_all table exported (indices_from name 0 own)) are.0.own
    ∙ under-from table keep name exported 0 piece
    (λ i. ap (slice_get table.own) (start i) ∙ ap (λ own. slice_get own i) are.0.own)
    (λ i one at. ap (is_hidden table) (start i) ∙ hides i one table (suffix 0) at)
    ∙ sym (all-count keep k name exported piece are.0.inside)
    ∙ sym (both-none (sorts_where (counts_in keep k name exported) piece))
    ∙ ap (both (sorts_where (counts_in keep k name exported) piece))
    (sym (none-later world keep (suc k) k name exported tables pieces are.1 (omega arith)))
    ∙ sym (where-append (counts_in keep k name exported) piece (entities_in pieces))
    ∙ ap (λ n. sorts_where (counts_in keep n name exported) (piece ++ entities_in pieces)) (sym e)
  where
    start : (i : ℕ) → 0 + i ≡ i
    start i = omega arith
only-piece world keep k (suc j) name exported (table ∷ tables) (piece ∷ pieces) all are suffix hides =
    only-piece world keep (suc k) j name exported tables pieces all are.1
    (λ i. ap (slice_get all) (next i) ∙ suffix (suc i))
    (λ i one t at there. hides i one t (ap (slice_get all) (sym (next j)) ∙ at) there)
    ∙ ap (λ n. sorts_where (counts_in keep n name exported) (entities_in pieces)) (next j)
    ∙ ap (λ kinds. both kinds (sorts_where (counts_in keep (k + suc j) name exported) (entities_in pieces)))
    (sym (none-counts keep (k + suc j) k name exported piece are.0.inside (λ e. omega (arith, e))))
    ∙ sym (where-append (counts_in keep (k + suc j) name exported) piece (entities_in pieces))
  where
    next : (i : ℕ) → suc k + i ≡ k + suc i
    next i = omega arith

-- what is filtered twice
filter-twice : (one other both_ : Declared → Bool) (all : List Declared)
    → ((entity : Declared) → (other entity && one entity) ≡ both_ entity)
    → filter one (filter other all) ≡ filter both_ all
filter-twice one other both_ [] same = refl
filter-twice one other both_ (entity ∷ all) same =
    by (other entity) (one entity) refl refl (filter-twice one other both_ all same)
  where
    by : (b c : Bool) → other entity ≡ b → one entity ≡ c → filter one (filter other all) ≡ filter both_ all
        → filter one (if other entity then entity ∷ filter other all else filter other all)
        ≡ (if both_ entity then entity ∷ filter both_ all else filter both_ all)
    by true c is this later =
        ap (λ b. filter one (if b then entity ∷ filter other all else filter other all)) is
        ∙ (λ k. if one entity then entity ∷ later k else later k)
        ∙ ap (λ b. if b then entity ∷ filter both_ all else filter both_ all)
        (ap (λ b. b && one entity) (sym is) ∙ same entity)
    by false c is this later =
        ap (λ b. filter one (if b then entity ∷ filter other all else filter other all)) is
        ∙ later
        ∙ ap (λ b. if b then entity ∷ filter both_ all else filter both_ all)
        (ap (λ b. b && one entity) (sym is) ∙ same entity)

-- what is listed of a module
abbrev pub under_of : List Declared → ℕ → List ℕ → Bool → List Declared
under_of entities m name exported = if exported then exported_of entities m name else of_name entities m name

counted : (keep : Declared → Bool) (m : ℕ) (name : List ℕ) (exported : Bool) (all : List Declared)
    → filter (counts_in keep m name exported) all ≡ under_of (filter keep all) m name exported
counted keep m name false all =
    sym (filter-twice (λ (one : Declared). (one.entity.id.module == m) && bytes_eq name one.entity.name) keep
    (counts_in keep m name false) all
    (λ one. order (keep one) (one.entity.id.module == m) (bytes_eq name one.entity.name)))
  where
    order : (k m n : Bool) → (k && (m && n)) ≡ (m && (n && (k && true)))
    order true true true = refl
    order true true false = refl
    order true false n = refl
    order false true true = refl
    order false true false = refl
    order false false n = refl
counted keep m name true all =
    sym (ap (filter (λ (one : Declared). one.entity.exported))
    (filter-twice (λ (one : Declared). (one.entity.id.module == m) && bytes_eq name one.entity.name) keep
    (counts_in keep m name false) all
    (λ one. order (keep one) (one.entity.id.module == m) (bytes_eq name one.entity.name)))
    ∙ filter-twice (λ (one : Declared). one.entity.exported) (counts_in keep m name false)
    (counts_in keep m name true) all
    (λ one. last (one.entity.id.module == m) (bytes_eq name one.entity.name) (keep one) one.entity.exported))
  where
    order : (k m n : Bool) → (k && (m && n)) ≡ (m && (n && (k && true)))
    order true true true = refl
    order true true false = refl
    order true false n = refl
    order false true true = refl
    order false true false = refl
    order false false n = refl

    last : (m n k e : Bool) → ((m && (n && (k && true))) && e) ≡ (m && (n && (k && e)))
    last true true true e = refl
    last true true false e = refl
    last true false k e = refl
    last false n k e = refl

-- the sorts under a name in the tables
pub under-is : (world : World) (pieces : List (List Declared)) (settled : Settled) (m : ℕ) (name : List ℕ)
    (exported : Bool)
    → AreSettled world pieces settled
    → kinds_under settled.tables.items m name exported
    ≡ kinds_among (names_of (under_of (last_standing world pieces) m name exported))
under-is world pieces settled m name exported are =
    only-piece world (stands (last_types world pieces) (entities_in pieces)) 0 m name exported
    settled.tables.items pieces
    settled.tables.items are.closed.hold.are (λ i. ap (slice_get settled.tables.items) (start i))
    (λ i one table at there.
    are.closed.hidden m i one table (ap (slice_get settled.tables.items) (sym (start m)) ∙ at) there)
    ∙ ap (λ n. sorts_where (counts_in (stands (last_types world pieces) (entities_in pieces)) n name exported)
    (entities_in pieces)) (start m)
    ∙ ap (λ l. kinds_among (names_of l))
    (counted (stands (last_types world pieces) (entities_in pieces)) m name exported (entities_in pieces))
  where
    start : (i : ℕ) → 0 + i ≡ i
    start i = omega arith

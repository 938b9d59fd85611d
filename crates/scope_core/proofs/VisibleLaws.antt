-- What a name finds while a module is settled, and what it finds in a round.
use Rattle.std.proofs.Common.{◌≡◌, ◌∙◌, ◌+◌, ◌<◌, ◌≤◌, ◌++◌, ◌∷◌, ◌==◌, ◌&&◌, ◌||◌, not, [], ℕ, suc, zero, Bool}
use Rattle.std.proofs.Common.{true, false, List, Option, Some, None, refl, sym, ap, subst, slice_get}
use Rattle.std.proofs.Common.{slice_index_or, map, filter, length, arith}
use Rattle.std.specs.Prelude.{if◌then◌else◌}
use Rattle.std.specs.List.{list_any, list_all}
use Rattle.std.specs.Str.{bytes_eq}
use Rattle.std.specs.Cmp.Lexicographic.{pointwise, bytes_decides}
use Rattle.std.proofs.lemmas.Bool.{and_parts, false≢true, true≢false, eqb-true, and_right}
use Rattle.std.proofs.lemmas.List.Elements.{filter-append}
use Rattle.std.proofs.lemmas.Option.{same_Some, none-some, slice_get_within, slice_get-get_or}
use Rattle.std.proofs.Math.Bool.{not-not}
use Rattle.type_rules.specs.declared.ty.Ty.{Ty}
use Rattle.type_rules.specs.Same.{same_type}
use Rattle.mdl_syntax.specs.declared.declarations.Param.{Param}
use Rattle.mdl_syntax.specs.declared.names.NameForm.{NameForm}
use Rattle.mdl_syntax.specs.declared.names.NameForm.TheVariants as form
use Rattle.mdl_syntax.specs.declared.types.Size.{Size}
use Rattle.mdl_syntax.specs.Modules.{Parameter, parameter_of}
use Rattle.scope_tables.specs.declared.entity.Entity.{Entity}
use Rattle.scope_tables.specs.declared.entity.Sort.{Sort}
use Rattle.scope_tables.specs.declared.entity.Sort.TheVariants as sort
use Rattle.scope_core.specs.declared.settled.Settled.{Settled}
use Rattle.scope_tables.specs.declared.tables.Table.{Table}
use Rattle.scope_tables.specs.declared.tables.Place.{Place}
use Rattle.scope_tables.specs.Entities.{Declared}
use Rattle.scope_tables.specs.Brought.{Bringing}
use Rattle.scope_tables.specs.Visible.{World, brought_at, name_at, brings, uses, is_within, is_near, is_far, is_given}
use Rattle.scope_tables.specs.Visible.{fits, those, found, found_parts, found_near, found_far, or_else, texts}
use Rattle.scope_tables.specs.Visible.{last_part, front_parts, word_text}
use Rattle.scope_core.specs.Standing.{is_prototype, is_definition, share_name, defines, stands, types_after}
use Rattle.scope_core.specs.Standing.{standing_after}
use Rattle.scope_tables.specs.Types.{is_type, single_type, named_type, formed_type, type_of}
use Rattle.scope_tables.specs.inside.Order.{is_among}
use Rattle.scope_tables.specs.inside.Finding.{is_hidden, entity_at, found_places}
use Rattle.scope_tables.specs.inside.Typing.{type_entity, single_place, named, formed_at, types_at}
use Rattle.scope_core.specs.inside.Holding.{standing_in, open_pieces, AreTables}
use Rattle.scope_core.specs.inside.Rounds.{declared_in, entities_in, settled_count, is_out, Settles}
use Rattle.scope_core.specs.inside.Rounds.{CanSettle, FindsIn}
use Rattle.scope_core.proofs.FoundIsLaws.{told, found-is, places-are}
use Rattle.scope_core.proofs.StandingLaws.{single-stays}
use Rattle.scope_core.proofs.WithinLaws.{uses-from, brings-from}
use Rattle.scope_tables.proofs.MemberLaws.{filter-of, filter-has, any-of, any-at, any-at-false, all-at, nil-cons}

filter-same : (one other : Declared → Bool) (all : List Declared) → ((d : Declared) → one d ≡ other d)
    → filter one all ≡ filter other all
filter-same one other [] same = refl
filter-same one other (d ∷ all) same =
    λ k. if same d k then d ∷ filter-same one other all same k else filter-same one other all same k

filter-both : (one other : Declared → Bool) (all : List Declared)
    → filter other (filter one all) ≡ filter (λ d. one d && other d) all
filter-both one other [] = refl
filter-both one other (d ∷ all) = by (one d) (filter-both one other all)
  where
    by : (b : Bool) → filter other (filter one all) ≡ filter (λ d. one d && other d) all
        → filter other (if b then d ∷ filter one all else filter one all)
        ≡ (if b && other d then d ∷ filter (λ d. one d && other d) all else filter (λ d. one d && other d) all)
    by true later = ap (λ l. if other d then d ∷ l else l) later
    by false later = later

-- what tables show is what isn't hidden of their pieces
standing-is : (keep : Declared → Bool) (hidden : List Bool) (piece : List Declared) → length hidden ≡ length piece
    → ((i : ℕ) (one : Declared) → slice_get piece i ≡ Some one → slice_index_or hidden i true ≡ not (keep one))
    → standing_in hidden piece ≡ filter keep piece
standing-is keep [] [] long flags = refl
standing-is keep [] (one ∷ piece) long flags = absurd (omega (arith, long))
standing-is keep (h ∷ hidden) [] long flags = absurd (omega (arith, long))
standing-is keep (h ∷ hidden) (one ∷ piece) long flags =
    by h (keep one) (flags 0 one refl)
    (standing-is keep hidden piece (omega (arith, long)) (λ i one at. flags (suc i) one at))
  where
    by : (h b : Bool) → h ≡ not b → standing_in hidden piece ≡ filter keep piece
        → (if h then standing_in hidden piece else one ∷ standing_in hidden piece)
        ≡ (if b then one ∷ filter keep piece else filter keep piece)
    by true true is later = absurd (true≢false is)
    by true false is later = later
    by false true is later = ap (λ l. one ∷ l) later
    by false false is later = absurd (false≢true is)

pub open-are : (world : World) (keep : Declared → Bool) (k : ℕ) (ts : List Table) (ps : List (List Declared))
    → AreTables world k ts ps
    → ((n i : ℕ) (one : Declared) (table : Table) → slice_get ts n ≡ Some table
    → declared_in (slice_get ps n) i ≡ Some one → is_hidden table i ≡ not (keep one))
    → open_pieces ts ps ≡ filter keep (entities_in ps)
open-are world keep k [] [] are flags = refl
open-are world keep k [] (p ∷ ps) are flags = absurd are
open-are world keep k (t ∷ ts) [] are flags = absurd are
open-are world keep k (t ∷ ts) (p ∷ ps) are flags =
    (λ j. standing-is keep t.hidden.items p are.0.hidden (λ i one at. flags 0 i one t refl at) j
    ++ open-are world keep (suc k) ts ps are.1 (λ n i one table at there. flags (suc n) i one table at there) j)
    ∙ sym (filter-append keep p (entities_in ps))

-- the module of what stands at a place
pub tables-long : (world : World) (k : ℕ) (tables : List Table) (pieces : List (List Declared))
    → AreTables world k tables pieces → length tables ≡ length pieces
tables-long world k [] [] are = refl
tables-long world k [] (p ∷ pieces) are = absurd are
tables-long world k (t ∷ tables) [] are = absurd are
tables-long world k (t ∷ tables) (p ∷ pieces) are = ap suc (tables-long world (suc k) tables pieces are.1)

pub module-at : (world : World) (k : ℕ) (ts : List Table) (ps : List (List Declared)) (n i : ℕ) (one : Declared)
    → AreTables world k ts ps → declared_in (slice_get ps n) i ≡ Some one → one.entity.id.module ≡ k + n
module-at world k [] [] n i one are at = absurd (none-some one at)
module-at world k [] (p ∷ ps) n i one are at = absurd are
module-at world k (t ∷ ts) [] n i one are at = absurd are
module-at world k (t ∷ ts) (p ∷ ps) zero i one are at =
    let own = eqb-true one.entity.id.module k
    (all-at (λ (one : Declared). one.entity.id.module == k) p i one are.0.inside at) in
    omega (arith, own)
module-at world k (t ∷ ts) (p ∷ ps) (suc n) i one are at =
    let later = module-at world (suc k) ts ps n i one are.1 at in
    omega (arith, later)

long-at : (world : World) (k : ℕ) (ts : List Table) (ps : List (List Declared)) (n i : ℕ) (one : Declared)
    (table : Table) → AreTables world k ts ps → slice_get ts n ≡ Some table
    → declared_in (slice_get ps n) i ≡ Some one → i < length table.hidden.items
long-at world k [] [] n i one table are at there = absurd (none-some table at)
long-at world k [] (p ∷ ps) n i one table are at there = absurd are
long-at world k (t ∷ ts) [] n i one table are at there = absurd are
long-at world k (t ∷ ts) (p ∷ ps) zero i one table are at there =
    let long = ap (λ (t : Table). length t.hidden.items) (sym (same_Some t table at)) ∙ are.0.hidden in
    let within = slice_get_within p i one there in
    omega (arith, long, within)
long-at world k (t ∷ ts) (p ∷ ps) (suc n) i one table are at there =
    long-at world (suc k) ts ps n i one table are.1 at there

none-at : (flags : List Bool) (i : ℕ) → list_any (λ hidden. hidden) flags ≡ false → i < length flags
    → slice_index_or flags i true ≡ false
none-at flags i none within =
    any-at-false (λ hidden. hidden) flags i (slice_index_or flags i true) none (slice_get-get_or flags i true within)

abbrev pub stands_in : World → List (List Declared) → ℕ → Declared → Bool
stands_in world pieces k one = stands (types_after world (entities_in pieces) k) (entities_in pieces) one

-- in a module that is closed what stands is seen, in another all
abbrev pub is_seen_in : World → List (List Declared) → List ℕ → ℕ → Declared → Bool
is_seen_in world pieces closed k one = not (is_among closed one.entity.id.module) || stands_in world pieces k one

pub seen-is : (world : World) (pieces : List (List Declared)) (closed : List ℕ) (settled : Settled) (k : ℕ)
    → Settles world pieces closed settled → settled_count settled.taken.items ≤ k
    → open_pieces settled.tables.items pieces ≡ filter (is_seen_in world pieces closed k) (entities_in pieces)
seen-is world pieces closed settled k settles less =
    open-are world (is_seen_in world pieces closed k) 0 settled.tables.items pieces settles.hold.are flags
  where
    flags : (n i : ℕ) (one : Declared) (table : Table) → slice_get settled.tables.items n ≡ Some table
        → declared_in (slice_get pieces n) i ≡ Some one
        → is_hidden table i ≡ not (is_seen_in world pieces closed k one)
    flags n i one table at there =
        by (is_among closed n) refl ∙ ap (λ n. not (not (is_among closed n) || stands_in world pieces k one)) (sym e)
      where
        e : one.entity.id.module ≡ n
        e = module-at world 0 settled.tables.items pieces n i one settles.hold.are there ∙ omega arith

        by : (b : Bool) → is_among closed n ≡ b
            → is_hidden table i ≡ not (not (is_among closed n) || stands_in world pieces k one)
        by true is =
            (settles.closed_are n is).hidden i k one table at there less
            ∙ ap (λ b. not (not b || stands_in world pieces k one)) (sym is)
        by false is =
            none-at table.hidden.items i (settles.open_are n table is at)
            (long-at world 0 settled.tables.items pieces n i one table settles.hold.are at there)
            ∙ ap (λ b. not (not b || stands_in world pieces k one)) (sym is)

-- a test of a name in a module: it passes what is its own or of a module that is closed, and of its own all that
-- share the name
pub record IsTest (closed : List ℕ) (m : ℕ) (test : Entity → Bool) : Type 0 where
  pub within : (entity : Entity) → test entity ≡ true
      → ((entity.id.module == m) || is_among closed entity.id.module) ≡ true
  pub alike : (one other : Entity) → (other.id.module == m) ≡ true → one.id.module ≡ other.id.module
      → one.name ≡ other.name → test one ≡ true → test other ≡ true

both-true : {a b : Bool} → a ≡ true → b ≡ true → (a && b) ≡ true
both-true one other = λ k. one k && other k

brought-closed : (closed : List ℕ) (way : Entity → Bringing → Bool) (entity : Entity) (bringings : List Bringing)
    → ((bringing : Bringing) → way entity bringing ≡ true → bringing.from ≡ entity.id.module)
    → list_all (λ (bringing : Bringing). is_among closed bringing.from) bringings ≡ true
    → list_any (way entity) bringings ≡ true → is_among closed entity.id.module ≡ true
brought-closed closed way entity [] from all some = absurd (false≢true some)
brought-closed closed way entity (bringing ∷ bringings) from all some =
    let both = and_parts (is_among closed bringing.from)
    (list_all (λ (bringing : Bringing). is_among closed bringing.from) bringings) all in
    by (way entity bringing) refl some both.0
    (λ some. brought-closed closed way entity bringings from both.1 some)
  where
    by : (b : Bool) → way entity bringing ≡ b → (b || list_any (way entity) bringings) ≡ true
        → is_among closed bringing.from ≡ true
        → (list_any (way entity) bringings ≡ true → is_among closed entity.id.module ≡ true)
        → is_among closed entity.id.module ≡ true
    by true is some here later = ap (is_among closed) (sym (from bringing is)) ∙ here
    by false is some here later = later some

within-closed : (world : World) (closed : List ℕ) (m : ℕ) (way : Entity → Bringing → Bool) (entity : Entity)
    → ((bringing : Bringing) → way entity bringing ≡ true → bringing.from ≡ entity.id.module)
    → list_all (λ (bringing : Bringing). is_among closed bringing.from) (brought_at world m) ≡ true
    → is_within false way world m entity ≡ true
    → ((entity.id.module == m) || is_among closed entity.id.module) ≡ true
within-closed world closed m way entity from all = by (entity.id.module == m)
  where
    by : (b : Bool) → (b || ((false || entity.exported) && list_any (way entity) (brought_at world m))) ≡ true
        → (b || is_among closed entity.id.module) ≡ true
    by true is = refl
    by false is =
        brought-closed closed way entity (brought_at world m) from all
        (and_parts (false || entity.exported) (list_any (way entity) (brought_at world m)) is).1

near-test : (world : World) (closed : List ℕ) (m : ℕ) (name : List ℕ) → CanSettle world closed m
    → IsTest closed m (is_near false world m name)
near-test world closed m name can = record {
  within = λ entity is. within-closed world closed m uses entity (uses-from entity) can.imports
      (and_parts (bytes_eq name entity.name) (is_within false uses world m entity) is).1;
  alike = λ one other own from same is. both-true
      (ap (bytes_eq name) (sym same) ∙ (and_parts (bytes_eq name one.name) (is_within false uses world m one) is).0)
      (ap (λ b. b || ((false || other.exported) && list_any (uses other) (brought_at world m))) own);
}

far-test : (world : World) (closed : List ℕ) (m : ℕ) (absolute : Bool) (front : List (List ℕ)) (name : List ℕ)
    → CanSettle world closed m → IsTest closed m (is_far false world m absolute front name)
far-test world closed m absolute front name can = record {
  within = λ entity is. within-closed world closed m brings entity (brings-from entity) can.imports
      (and_parts (fit entity) (is_within false brings world m entity)
      (and_parts (bytes_eq name entity.name) (fit entity && is_within false brings world m entity) is).1).1;
  alike = λ one other own from same is.
      let both = and_parts (bytes_eq name one.name) (fit one && is_within false brings world m one) is in
      both-true (ap (bytes_eq name) (sym same) ∙ both.0)
      (both-true (ap (λ n. fits absolute front (name_at world n).parts) (sym from)
      ∙ (and_parts (fit one) (is_within false brings world m one) both.1).0)
      (ap (λ b. b || ((false || other.exported) && list_any (brings other) (brought_at world m))) own));
}
  where
    fit : Entity → Bool
    fit entity = fits absolute front (name_at world entity.id.module).parts

-- what is the prelude's isn't the module's
given-apart : (world : World) (closed : List ℕ) (m : ℕ) (name : List ℕ) (entity : Entity) → CanSettle world closed m
    → is_given world name entity ≡ true → (entity.id.module == m) ≡ true → ⊥
given-apart world closed m name entity can is own =
    let there = eqb-true entity.id.module (length world.names)
    (and_parts (bytes_eq name entity.name) (entity.id.module == length world.names) is).1 in
    let here = eqb-true entity.id.module m own in
    let less = can.within in
    omega (arith, there, here, less)

given-test : (world : World) (closed : List ℕ) (m : ℕ) (name : List ℕ) → CanSettle world closed m
    → IsTest closed m (is_given world name)
given-test world closed m name can = record {
  within = λ entity is. or-right (entity.id.module == m) (is_among closed entity.id.module)
      (ap (is_among closed) (eqb-true entity.id.module (length world.names)
      (and_parts (bytes_eq name entity.name) (entity.id.module == length world.names) is).1) ∙ can.given);
  alike = λ one other own from same is. absurd (given-apart world closed m name one can is
      (ap (λ n. n == m) from ∙ own));
}
  where
    or-right : (a b : Bool) → b ≡ true → (a || b) ≡ true
    or-right true b is = refl
    or-right false b is = is

-- what a name finds while a module is settled, and in a round
pub record Finds (world : World) (pieces : List (List Declared)) (closed : List ℕ) (m k : ℕ)
    (first later : List Declared) : Type 0 where
  pub later_are : later ≡ filter (λ one. not (is_out world pieces m k one)) first
  pub named : (i j : ℕ) (one other : Declared) → slice_get first i ≡ Some one
      → slice_get (entities_in pieces) j ≡ Some other → (one.entity.id.module == m) ≡ true
      → share_name one other ≡ true → (h : ℕ) × (slice_get first h ≡ Some other)
  pub inside : (i : ℕ) (one : Declared) → slice_get first i ≡ Some one
      → ((one.entity.id.module == m) || is_among closed one.entity.id.module) ≡ true

-- a: it is the module's own, c: of a closed module, s: it stands, t: it passes
left-out : (a c s t : Bool) → (t ≡ true → (a || c) ≡ true) → (a ≡ true → c ≡ false)
    → (s && t) ≡ (((not c || s) && t) && not (a && not s))
left-out true true s t within fresh = absurd (true≢false (fresh refl))
left-out true false true true within fresh = refl
left-out true false true false within fresh = refl
left-out true false false true within fresh = refl
left-out true false false false within fresh = refl
left-out false true true true within fresh = refl
left-out false true true false within fresh = refl
left-out false true false t within fresh = refl
left-out false false s true within fresh = absurd (false≢true (within refl))
left-out false false true false within fresh = refl
left-out false false false false within fresh = refl

those-finds : (world : World) (pieces : List (List Declared)) (closed : List ℕ) (m k : ℕ) (test : Entity → Bool)
    → is_among closed m ≡ false → IsTest closed m test
    → Finds world pieces closed m k (those test (filter (is_seen_in world pieces closed k) (entities_in pieces)))
    (those test (standing_after world (entities_in pieces) k))
those-finds world pieces closed m k test fresh is = record {
  later_are =
      filter-both (stands_in world pieces k) passes (entities_in pieces)
      ∙ filter-same (λ one. stands_in world pieces k one && passes one)
      (λ one. (is_seen_in world pieces closed k one && passes one) && not (is_out world pieces m k one))
      (entities_in pieces)
      (λ one. left-out (one.entity.id.module == m) (is_among closed one.entity.id.module)
      (stands_in world pieces k one) (passes one) (is.within one.entity)
      (λ own. ap (is_among closed) (eqb-true one.entity.id.module m own) ∙ fresh))
      ∙ sym (ap (filter (λ one. not (is_out world pieces m k one)))
      (filter-both (is_seen_in world pieces closed k) passes (entities_in pieces))
      ∙ filter-both (λ one. is_seen_in world pieces closed k one && passes one)
      (λ one. not (is_out world pieces m k one)) (entities_in pieces));
  named = λ i j one other at there own shared.
      let both = and_parts (one.entity.id.module == other.entity.id.module)
      (bytes_eq one.entity.name other.entity.name) shared in
      let from = eqb-true one.entity.id.module other.entity.id.module both.0 in
      let same = (bytes_decides one.entity.name other.entity.name).0 both.1 in
      let here = ap (λ n. n == m) (sym from) ∙ own in
      let seen = filter-has (is_seen_in world pieces closed k) (entities_in pieces) j other there
      (ap (λ b. not b || stands_in world pieces k other)
      (ap (is_among closed) (eqb-true other.entity.id.module m here) ∙ fresh)) in
      filter-has passes (filter (is_seen_in world pieces closed k) (entities_in pieces)) seen.0 other seen.1
      (is.alike one.entity other.entity here from same
      (filter-of passes (filter (is_seen_in world pieces closed k) (entities_in pieces)) i one at).0);
  inside = λ i one at. is.within one.entity
      (filter-of passes (filter (is_seen_in world pieces closed k) (entities_in pieces)) i one at).0;
}
  where
    passes : Declared → Bool
    passes one = test one.entity

pub definition-stands : (of : Sort) → is_definition of ≡ true → is_prototype of ≡ false
definition-stands sort.Function is = refl
definition-stands sort.Intrinsic is = absurd (false≢true is)
definition-stands sort.Material is = refl
definition-stands sort.Struct is = refl
definition-stands sort.Enum is = refl
definition-stands sort.EnumValue is = refl
definition-stands sort.Annotation is = refl

always-stands : (types : Declared → List Ty) (all : List Declared) (one : Declared)
    → is_prototype one.entity.sort ≡ false → stands types all one ≡ true
always-stands types all one is = ap (λ b. not (b && list_any (defines types one) all)) is

-- what doesn't stand is a prototype that stands beside a definition
pub beside : (types : Declared → List Ty) (all : List Declared) (one : Declared) → not (stands types all one) ≡ true
    → (is_prototype one.entity.sort ≡ true) × (j : ℕ) × (other : Declared) × (slice_get all j ≡ Some other)
    × (is_definition other.entity.sort ≡ true) × (share_name one other ≡ true)
beside types all one hidden =
    let both = and_parts (is_prototype one.entity.sort) (list_any (defines types one) all)
    (sym (not-not (is_prototype one.entity.sort && list_any (defines types one) all)) ∙ hidden) in
    let there = any-of (defines types one) all both.1 in
    let other = there.1 in
    let apart = and_parts (is_definition other.entity.sort)
    (share_name one other && pointwise same_type (types one) (types other)) there.3 in (
      both.0,
      there.0,
      other,
      there.2,
      apart.0,
      (and_parts (share_name one other) (pointwise same_type (types one) (types other)) apart.1).0,
    )

-- where one is found that is left out, another is found that isn't: its definition
pub definition-found : (world : World) (pieces : List (List Declared)) (closed : List ℕ) (m k : ℕ)
    (first later : List Declared) (i : ℕ) (one : Declared) → Finds world pieces closed m k first later
    → slice_get first i ≡ Some one → is_out world pieces m k one ≡ true
    → (is_prototype one.entity.sort ≡ true) × (h : ℕ) × (other : Declared) × (slice_get first h ≡ Some other)
    × (is_definition other.entity.sort ≡ true) × (not (is_out world pieces m k other) ≡ true)
definition-found world pieces closed m k first later i one finds at out =
    let both = and_parts (one.entity.id.module == m) (not (stands_in world pieces k one)) out in
    let known = beside (types_after world (entities_in pieces) k) (entities_in pieces) one both.1 in
    let other = known.2 in
    let has = finds.named i known.1 one other at known.3 both.0 known.5 in (
      known.0,
      has.0,
      other,
      has.1,
      known.4,
      ap not (and_right (other.entity.id.module == m) (not (stands_in world pieces k other))
          (ap not (always-stands (types_after world (entities_in pieces) k) (entities_in pieces) other
          (definition-stands other.entity.sort known.4)))),
    )

-- what is found isn't all left out
some-stays : (world : World) (pieces : List (List Declared)) (closed : List ℕ) (m k : ℕ) (first later : List Declared)
    (one : Declared) (more : List Declared) → first ≡ one ∷ more → Finds world pieces closed m k first later
    → filter (λ one. not (is_out world pieces m k one)) first ≡ [] → ⊥
some-stays world pieces closed m k first later one more is finds none =
    by (is_out world pieces m k one) refl
  where
    at : slice_get first 0 ≡ Some one
    at = ap (λ l. slice_get l 0) is

    gone : (i : ℕ) (d : Declared) → slice_get first i ≡ Some d → not (is_out world pieces m k d) ≡ true → ⊥
    gone i d at stays =
        let has = filter-has (λ one. not (is_out world pieces m k one)) first i d at stays in
        none-some d (ap (λ l. slice_get l has.0) (sym none) ∙ has.1)

    by : (b : Bool) → is_out world pieces m k one ≡ b → ⊥
    by true out =
        let known = definition-found world pieces closed m k first later 0 one finds at out in
        gone known.1 known.2 known.3 known.5
    by false out = gone 0 one at (ap not out)

or_else-finds : (world : World) (pieces : List (List Declared)) (closed : List ℕ) (m k : ℕ)
    (one one_later other other_later : List Declared) → Finds world pieces closed m k one one_later
    → Finds world pieces closed m k other other_later
    → Finds world pieces closed m k (or_else one other) (or_else one_later other_later)
or_else-finds world pieces closed m k [] one_later other other_later first second = record {
  later_are = ap (λ l. or_else l other_later) first.later_are ∙ second.later_are;
  named = second.named;
  inside = second.inside;
}
or_else-finds world pieces closed m k (one ∷ more) one_later other other_later first second = record {
  later_are = ap (λ l. or_else l other_later) first.later_are
      ∙ kept (filter (λ one. not (is_out world pieces m k one)) (one ∷ more))
      (some-stays world pieces closed m k (one ∷ more) one_later one more refl first);
  named = first.named;
  inside = first.inside;
}
  where
    kept : (l : List Declared) → (l ≡ [] → ⊥) → or_else l other_later ≡ l
    kept [] some = absurd (some refl)
    kept (d ∷ l) some = refl

found-finds : (world : World) (pieces : List (List Declared)) (closed : List ℕ) (m k : ℕ) (name : NameForm)
    → CanSettle world closed m
    → Finds world pieces closed m k
    (found false world (filter (is_seen_in world pieces closed k) (entities_in pieces)) m name)
    (found false world (standing_after world (entities_in pieces) k) m name)
found-finds world pieces closed m k (form.Word word) can =
    those-finds world pieces closed m k (is_given world (word_text word)) can.fresh
    (given-test world closed m (word_text word) can)
found-finds world pieces closed m k (form.Parts absolute parts) can = by (texts parts)
  where
    seen : List Declared
    seen = filter (is_seen_in world pieces closed k) (entities_in pieces)

    later : List Declared
    later = standing_after world (entities_in pieces) k

    either : (b : Bool) (parts : List (List ℕ))
        → Finds world pieces closed m k
        (if b then found_near false world seen m (last_part parts) else found_far false world seen m absolute parts)
        (if b then found_near false world later m (last_part parts) else found_far false world later m absolute parts)
    either true parts =
        or_else-finds world pieces closed m k
        (those (is_near false world m (last_part parts)) seen) (those (is_near false world m (last_part parts)) later)
        (those (is_given world (last_part parts)) seen) (those (is_given world (last_part parts)) later)
        (those-finds world pieces closed m k (is_near false world m (last_part parts)) can.fresh
        (near-test world closed m (last_part parts) can))
        (those-finds world pieces closed m k (is_given world (last_part parts)) can.fresh
        (given-test world closed m (last_part parts) can))
    either false parts =
        those-finds world pieces closed m k (is_far false world m absolute (front_parts parts) (last_part parts))
        can.fresh (far-test world closed m absolute (front_parts parts) (last_part parts) can)

    by : (parts : List (List ℕ)) → Finds world pieces closed m k (found_parts false world seen m absolute parts)
        (found_parts false world later m absolute parts)
    by [] = record {
      later_are = refl;
      named = λ i j one other at there own shared. absurd (none-some one at);
      inside = λ i one at. absurd (none-some one at);
    }
    by (part ∷ parts) = either (not absolute && (length (part ∷ parts) == 1)) (part ∷ parts)

pub finds : (world : World) (pieces : List (List Declared)) (closed : List ℕ) (settled : Settled) (m k : ℕ)
    (name : NameForm) → Settles world pieces closed settled → CanSettle world closed m
    → settled_count settled.taken.items ≤ k
    → Finds world pieces closed m k (found false world (open_pieces settled.tables.items pieces) m name)
    (found false world (standing_after world (entities_in pieces) k) m name)
finds world pieces closed settled m k name settles can less =
    subst (λ entities. Finds world pieces closed m k (found false world entities m name)
    (found false world (standing_after world (entities_in pieces) k) m name))
    (sym (seen-is world pieces closed settled k settles less)) (found-finds world pieces closed m k name can)

-- what is found in the tables, and in each round once all that is known is
pub finds-in : (world : World) (pieces : List (List Declared)) (closed : List ℕ) (settled : Settled) (m k : ℕ)
    (name : NameForm) → Settles world pieces closed settled → CanSettle world closed m
    → settled_count settled.taken.items ≤ k
    → FindsIn world pieces closed m k (found_places world.names settled.tables.items m name false)
    (found false world (open_pieces settled.tables.items pieces) m name)
    (found false world (standing_after world (entities_in pieces) k) m name)
finds-in world pieces closed settled m k name settles can less =
    let known = finds world pieces closed settled m k name settles can less in
    record {
      placed_are = places-are world settled.tables.items pieces m name false settles.hold can.within;
      later_are = known.later_are;
      named = known.named;
      inside = known.inside;
    }

still-those : (world : World) (pieces : List (List Declared)) (closed : List ℕ) (start k : ℕ) (test : Entity → Bool)
    (one : Declared) → is_prototype one.entity.sort ≡ false → (i : ℕ)
    → slice_get (those test (filter (is_seen_in world pieces closed start) (entities_in pieces))) i ≡ Some one
    → (h : ℕ) × (slice_get (those test (standing_after world (entities_in pieces) k)) h ≡ Some one)
still-those world pieces closed start k test one whole i at =
    let seen = is_seen_in world pieces closed start in
    let passed = filter-of (λ (one : Declared). test one.entity) (filter seen (entities_in pieces)) i one at in
    let there = filter-of seen (entities_in pieces) passed.1 one passed.2 in
    let stays = filter-has (stands_in world pieces k) (entities_in pieces) there.1 one there.2
    (always-stands (types_after world (entities_in pieces) k) (entities_in pieces) one whole) in
    filter-has (λ (one : Declared). test one.entity) (standing_after world (entities_in pieces) k) stays.0 one stays.1
    passed.0

still-else : (one : Declared) (a b after other : List Declared)
    → ((i : ℕ) → slice_get a i ≡ Some one → (h : ℕ) × (slice_get after h ≡ Some one))
    → ((i : ℕ) → slice_get b i ≡ Some one → ⊥) → (i : ℕ) → slice_get (or_else a b) i ≡ Some one
    → (h : ℕ) × (slice_get (or_else after other) h ≡ Some one)
still-else one [] b after other has none i at = absurd (none i at)
still-else one (d ∷ a) b after other has none i at = by after (has i at)
  where
    by : (after : List Declared) → (h : ℕ) × (slice_get after h ≡ Some one)
        → (h : ℕ) × (slice_get (or_else after other) h ≡ Some one)
    by [] found = absurd (none-some one found.1)
    by (d ∷ after) found = found

-- what is found of the module's own is found in each round, unless that is a prototype
pub still-found : (world : World) (pieces : List (List Declared)) (closed : List ℕ) (settled : Settled) (m : ℕ)
    (name : NameForm) → Settles world pieces closed settled → CanSettle world closed m → (k i : ℕ) (one : Declared)
    → slice_get (found false world (open_pieces settled.tables.items pieces) m name) i ≡ Some one
    → (one.entity.id.module == m) ≡ true → is_prototype one.entity.sort ≡ false
    → (h : ℕ) × (slice_get (found false world (standing_after world (entities_in pieces) k) m name) h ≡ Some one)
still-found world pieces closed settled m name settles can k i one at own whole =
    still name i (ap (λ entities. slice_get (found false world entities m name) i)
    (sym (seen-is world pieces closed settled start settles (omega arith))) ∙ at)
  where
    start : ℕ
    start = settled_count settled.taken.items

    seen : List Declared
    seen = filter (is_seen_in world pieces closed start) (entities_in pieces)

    later : List Declared
    later = standing_after world (entities_in pieces) k

    either : (b absolute : Bool) (parts : List (List ℕ)) (i : ℕ)
        → slice_get (if b then found_near false world seen m (last_part parts)
        else found_far false world seen m absolute parts) i ≡ Some one
        → (h : ℕ) × (slice_get (if b then found_near false world later m (last_part parts)
        else found_far false world later m absolute parts) h ≡ Some one)
    either true absolute parts i at =
        still-else one (those (is_near false world m (last_part parts)) seen)
        (those (is_given world (last_part parts)) seen) (those (is_near false world m (last_part parts)) later)
        (those (is_given world (last_part parts)) later)
        (λ i at. still-those world pieces closed start k (is_near false world m (last_part parts)) one whole i at)
        (λ i at. given-apart world closed m (last_part parts) one.entity can
        (filter-of (λ (one : Declared). is_given world (last_part parts) one.entity) seen i one at).0 own) i at
    either false absolute parts i at =
        still-those world pieces closed start k (is_far false world m absolute (front_parts parts) (last_part parts))
        one whole i at

    by : (absolute : Bool) (parts : List (List ℕ)) (i : ℕ)
        → slice_get (found_parts false world seen m absolute parts) i ≡ Some one
        → (h : ℕ) × (slice_get (found_parts false world later m absolute parts) h ≡ Some one)
    by absolute [] i at = absurd (none-some one at)
    by absolute (part ∷ parts) i at =
        either (not absolute && (length (part ∷ parts) == 1)) absolute (part ∷ parts) i at

    still : (name : NameForm) (i : ℕ) → slice_get (found false world seen m name) i ≡ Some one
        → (h : ℕ) × (slice_get (found false world later m name) h ≡ Some one)
    still (form.Word word) i at =
        still-those world pieces closed start k (is_given world (word_text word)) one whole i at
    still (form.Parts absolute parts) i at = by absolute (texts parts) i at

prototype-no-type : (of : Sort) → is_prototype of ≡ true → not (is_type of) ≡ true
prototype-no-type sort.Function is = refl
prototype-no-type sort.Intrinsic is = refl
prototype-no-type sort.Material is = refl
prototype-no-type sort.Struct is = absurd (false≢true is)
prototype-no-type sort.Enum is = absurd (false≢true is)
prototype-no-type sort.EnumValue is = refl
prototype-no-type sort.Annotation is = refl

definition-no-type : (of : Sort) → is_definition of ≡ true → not (is_type of) ≡ true
definition-no-type sort.Function is = refl
definition-no-type sort.Intrinsic is = refl
definition-no-type sort.Material is = refl
definition-no-type sort.Struct is = absurd (false≢true is)
definition-no-type sort.Enum is = absurd (false≢true is)
definition-no-type sort.EnumValue is = refl
definition-no-type sort.Annotation is = refl

all-kept : (all : List Declared) → filter (λ one. true) all ≡ all
all-kept [] = refl
all-kept (one ∷ all) = ap (λ l. one ∷ l) (all-kept all)

-- the single type that a name finds is the same in each round
pub type-stays : (world : World) (pieces : List (List Declared)) (closed : List ℕ) (m k : ℕ)
    (first later : List Declared) → Finds world pieces closed m k first later → single_type later ≡ single_type first
type-stays world pieces closed m k first later finds =
    ap single_type (finds.later_are ∙ sym (all-kept (filter (λ one. not (is_out world pieces m k one)) first)))
    ∙ single-stays (λ one. true) (is_out world pieces m k) first
    (λ some.
    let out = any-of (is_out world pieces m k) first some in
    let known = definition-found world pieces closed m k first later out.0 out.1 finds out.2 out.3 in (
      any-at (λ (one : Declared). not (is_type one.entity.sort)) first out.0 out.1 out.2
          (prototype-no-type out.1.entity.sort known.0),
      any-at (λ (one : Declared). not (is_out world pieces m k one) && not (is_type one.entity.sort)) first known.1
          known.2 known.3 (both-true known.5 (definition-no-type known.2.entity.sort known.4)),
    ))
    ∙ ap single_type (all-kept first)

single-is : (tables : List Table) (places : List Place) (first : List Declared)
    → map (entity_at tables) places ≡ map told first → single_place tables places ≡ single_type first
single-is tables [] [] same = refl
single-is tables [] (d ∷ first) same = absurd (nil-cons (told d) (map told first) same)
single-is tables (p ∷ places) [] same =
    absurd (nil-cons (entity_at tables p) (map (entity_at tables) places) (sym same))
single-is tables (p ∷ []) (d ∷ []) same =
    ap type_entity (same_Some (entity_at tables p) (told d) (ap (λ l. slice_get l 0) same))
single-is tables (p ∷ []) (d ∷ e ∷ first) same = let long = ap length same in absurd (omega (arith, long))
single-is tables (p ∷ q ∷ places) (d ∷ []) same = let long = ap length same in absurd (omega (arith, long))
single-is tables (p ∷ q ∷ places) (d ∷ e ∷ first) same = refl

-- a type that is written in a module
pub written-type : (world : World) (pieces : List (List Declared)) (closed : List ℕ) (settled : Settled) (m k : ℕ)
    (name : NameForm) (size : Size) → Settles world pieces closed settled → CanSettle world closed m
    → settled_count settled.taken.items ≤ k
    → formed_type world (standing_after world (entities_in pieces) k) m name size
    ≡ formed_at world.names settled.tables.items m name size
written-type world pieces closed settled m k (form.Word word) size settles can less = refl
written-type world pieces closed settled m k (form.Parts absolute parts) size settles can less =
    by (single_type (found false world (standing_after world (entities_in pieces) k) m name))
    ∙ ap (λ one. named_type (named world.names) one absolute (texts parts) size)
    (type-stays world pieces closed m k (found false world (open_pieces settled.tables.items pieces) m name)
    (found false world (standing_after world (entities_in pieces) k) m name)
    (finds world pieces closed settled m k name settles can less)
    ∙ sym (single-is settled.tables.items (found_places world.names settled.tables.items m name false)
    (found false world (open_pieces settled.tables.items pieces) m name)
    (found-is world settled.tables.items pieces m name false settles.hold can.within)))
  where
    name : NameForm
    name = form.Parts absolute parts

    by : (one : Option Entity) → named_type world one absolute (texts parts) size
        ≡ named_type (named world.names) one absolute (texts parts) size
    by None = refl
    by (Some entity) = refl

pub written-types : (world : World) (pieces : List (List Declared)) (closed : List ℕ) (settled : Settled) (m k : ℕ)
    (params : List Param) → Settles world pieces closed settled → CanSettle world closed m
    → settled_count settled.taken.items ≤ k
    → map (type_of world (standing_after world (entities_in pieces) k) m)
    (map (λ (parameter : Parameter). parameter.ty) (map parameter_of params))
    ≡ types_at world.names settled.tables.items m params
written-types world pieces closed settled m k [] settles can less = refl
written-types world pieces closed settled m k (param ∷ params) settles can less =
    λ j. written-type world pieces closed settled m k param.ty.name.form param.ty.size settles can less j
    ∷ written-types world pieces closed settled m k params settles can less j

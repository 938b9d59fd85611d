-- A module is closed.
use Rattle.std.proofs.Common.{◌≡◌, ◌∙◌, ◌+◌, ◌<◌, ◌≤◌, ◌++◌, ◌∷◌, ◌==◌, ◌&&◌, ◌||◌, not, [], ℕ, zero, suc, Bool}
use Rattle.std.proofs.Common.{true, false, List, Option, Some, None, refl, sym, ap, subst, slice_get}
use Rattle.std.proofs.Common.{slice_index_or, slice_set, map, length, option_map, arith, ltb}
use Rattle.std.specs.Prelude.{if◌then◌else◌}
use Rattle.std.specs.List.{list_any, list_all}
use Rattle.std.specs.Str.{bytes_eq}
use Rattle.std.specs.Cmp.Lexicographic.{pointwise, bytes_decides}
use Rattle.std.specs.declared.vec.Vec.{Vec}
use Rattle.std.specs.declared.alloc.Global.{Global}
use Rattle.std.proofs.lemmas.Bool.{eqb-true, eqb-false, eq-eqb, ne_eqb, false≢true, and_parts, cond-true}
use Rattle.std.proofs.Math.Bool.{or-false, not-not}
use Rattle.std.proofs.lemmas.List.{length-set, length-map}
use Rattle.std.proofs.lemmas.List.Folds.{list_any-append}
use Rattle.std.proofs.lemmas.Option.{same_Some, none-some, slice_get_within, slice_get-map}
use Rattle.case_table.specs.Lists.{firsts}
use Rattle.case_table.specs.ListLaws.{list_any-slice_get}
use Rattle.type_rules.specs.declared.ty.Ty.{Ty}
use Rattle.type_rules.specs.Same.{same_type}
use Rattle.scope_tables.specs.declared.entity.Entity.{Entity}
use Rattle.scope_tables.specs.declared.entity.Sort.{Sort}
use Rattle.scope_tables.specs.declared.reach.Reach.{Reach}
use Rattle.scope_core.specs.declared.settled.Settled.{Settled}
use Rattle.scope_tables.specs.declared.tables.Table.{Table}
use Rattle.scope_tables.specs.Entities.{Declared}
use Rattle.scope_tables.specs.Visible.{World, brought_at}
use Rattle.scope_tables.specs.inside.Reaching.{AreReaches}
use Rattle.scope_core.specs.Standing.{is_prototype, is_definition, share_name, defines, stands, types_after}
use Rattle.scope_tables.specs.inside.Order.{is_among}
use Rattle.scope_tables.specs.inside.Owning.{same_text, names_in, number_in}
use Rattle.scope_tables.specs.inside.Finding.{placed, is_hidden}
use Rattle.scope_core.specs.inside.Holding.{IsTable, AreTables, Hold}
use Rattle.scope_core.specs.inside.Hiding.{key_of, key_in, key_at, has_key, IsHiding}
use Rattle.scope_core.specs.inside.Settling.{taken_in, taken_at}
use Rattle.scope_core.specs.inside.Rounds.{declared_in, declared_at, entities_in, settled_count}
use Rattle.scope_core.specs.inside.Rounds.{is_settled, AreKnown, IsClosed, Settles, Closes}
use Rattle.scope_tables.proofs.OwnLaws.{same_text-tells, name-at}
use Rattle.scope_core.proofs.SameLaws.{types-decide}
use Rattle.scope_core.proofs.CountLaws.{Rows, lengths, in-range}
use Rattle.scope_tables.proofs.MemberLaws.{any-of, all-at, there-is, get-set_same, get-set_other}
use Rattle.scope_tables.proofs.OrderLaws.{among-last}
use Rattle.scope_core.proofs.BaseLaws.{any-in, known-number, both-ways}
use Rattle.scope_core.proofs.FoundIsLaws.{table-at}
use Rattle.scope_core.proofs.VisibleLaws.{tables-long}

pub at-piece : (world : World) (k : ℕ) (tables : List Table) (pieces : List (List Declared)) (m : ℕ)
    (piece : List Declared) → AreTables world k tables pieces → slice_get pieces m ≡ Some piece
    → (table : Table) × (slice_get tables m ≡ Some table) × IsTable world (k + m) piece table
at-piece world k tables pieces m piece are at =
    let long = tables-long world k tables pieces are in
    let within = slice_get_within pieces m piece at in
    let table = there-is tables m (omega (arith, long, within)) in
    let found = table-at world k tables pieces m table.0 are table.1 in (
      table.0,
      table.1,
      subst (λ p. IsTable world (k + m) p table.0) (same_Some found.0 piece (sym found.1 ∙ at)) found.2,
    )

-- a table with other flags
pub set-tables : (world : World) (k : ℕ) (tables : List Table) (pieces : List (List Declared)) (m : ℕ)
    (table now : Table) → AreTables world k tables pieces → slice_get tables m ≡ Some table
    → now.own ≡ table.own → now.reaches ≡ table.reaches → length now.hidden.items ≡ length table.hidden.items
    → AreTables world k (slice_set tables m now) pieces
set-tables world k [] pieces m table now are at own reaches long = absurd (none-some table at)
set-tables world k (one ∷ tables) [] m table now are at own reaches long = absurd are
set-tables world k (one ∷ tables) (piece ∷ pieces) zero table now are at own reaches long = (
  record {
    own = own ∙ is.own;
    hidden = long ∙ is.hidden;
    inside = is.inside;
    reaches = subst (λ (rs : Vec Reach Global). AreReaches k (brought_at world k) rs.items) (sym reaches) is.reaches;
  },
  are.1,
)
  where
    is : IsTable world k piece table
    is = subst (IsTable world k piece) (same_Some one table at) are.0
set-tables world k (one ∷ tables) (piece ∷ pieces) (suc m) table now are at own reaches long =
    (are.0, set-tables world (suc k) tables pieces m table now are.1 at own reaches long)

set-hold : (world : World) (tables : List Table) (pieces : List (List Declared)) (m : ℕ) (table now : Table)
    → Hold world tables pieces → slice_get tables m ≡ Some table
    → now.own ≡ table.own → now.reaches ≡ table.reaches → length now.hidden.items ≡ length table.hidden.items
    → Hold world (slice_set tables m now) pieces
set-hold world tables pieces m table now hold at own reaches long = record {
  are = set-tables world 0 tables pieces m table now hold.are at own reaches long;
  count = length-set tables m now ∙ hold.count;
  alone = hold.alone;
  within = λ n other less has. by n other less has (n == m) refl;
}
  where
    by : (n : ℕ) (other : Table) → n < length world.names → slice_get (slice_set tables m now) n ≡ Some other
        → (b : Bool) → (n == m) ≡ b
        → list_all (λ (reach : Reach). ltb reach.module (length world.names)) other.reaches.items ≡ true
    by n other less has true e =
        let same = eqb-true n m e in
        let is = same_Some now other
        (sym (get-set_same tables m table now at) ∙ ap (slice_get (slice_set tables m now)) (sym same) ∙ has) in
        subst (λ (t : Table). list_all
        (λ (reach : Reach). ltb reach.module (length world.names)) t.reaches.items ≡ true) is
        (subst (λ (rs : Vec Reach Global). list_all
        (λ (reach : Reach). ltb reach.module (length world.names)) rs.items ≡ true)
        (sym reaches) (hold.within n table less (ap (slice_get tables) same ∙ at)))
    by n other less has false e =
        hold.within n other less (sym (get-set_other tables m n now (eqb-false n m e)) ∙ has)

-- one more is among them
among-more : (closed : List ℕ) (m n : ℕ) → (n == m) ≡ false → is_among (closed ++ m ∷ []) n ≡ is_among closed n
among-more closed m n apart =
    list_any-append (λ other. other == n) closed (m ∷ [])
    ∙ ap (λ b. is_among closed n || (b || false)) (ne_eqb m n (λ e. eqb-false n m apart (sym e)))
    ∙ or-false (is_among closed n)

-- a module more is closed, and the tables of others stay
pub close-more : (world : World) (pieces : List (List Declared)) (closed : List ℕ) (m : ℕ) (old new : Settled)
    → Settles world pieces closed old → new.lists.keys ≡ old.lists.keys → new.taken.items ≡ old.taken.items
    → Hold world new.tables.items pieces
    → ((n : ℕ) → (n ≡ m → ⊥) → slice_get new.tables.items n ≡ slice_get old.tables.items n)
    → IsClosed world pieces new.tables.items old.taken.items m
    → Settles world pieces (closed ++ m ∷ []) new
close-more world pieces closed m old new settles same_keys same_taken hold others own = record {
  hold = hold;
  long = ap lengths same_taken ∙ settles.long;
  known = subst (λ (keys : List (List Ty)). AreKnown world pieces keys new.taken.items) (sym same_keys)
      (subst (AreKnown world pieces old.lists.keys) (sym same_taken) settles.known);
  closed_are = λ n is. subst (λ (taken : Rows). IsClosed world pieces new.tables.items taken n) (sym same_taken)
      (closed_are n is (n == m) refl);
  open_are = λ n table apart has. open_are n table apart has (n == m) refl;
}
  where
    closed_are : (n : ℕ) → is_among (closed ++ m ∷ []) n ≡ true → (b : Bool) → (n == m) ≡ b
        → IsClosed world pieces new.tables.items old.taken.items n
    closed_are n is true e =
        subst (IsClosed world pieces new.tables.items old.taken.items) (sym (eqb-true n m e)) own
    closed_are n is false e =
        let was = settles.closed_are n (sym (among-more closed m n e) ∙ is) in
        record {
          settled = was.settled;
          hidden = λ i k one table has at less. was.hidden i k one table
              (sym (others n (eqb-false n m e)) ∙ has) at less;
        }

    open_are : (n : ℕ) (table : Table) → is_among (closed ++ m ∷ []) n ≡ false
        → slice_get new.tables.items n ≡ Some table → (b : Bool) → (n == m) ≡ b
        → list_any (λ hidden. hidden) table.hidden.items ≡ false
    open_are n table apart has true e =
        absurd (false≢true (sym apart ∙ ap (is_among (closed ++ m ∷ [])) (eqb-true n m e) ∙ among-last closed m))
    open_are n table apart has false e =
        settles.open_are n table (sym (among-more closed m n e) ∙ apart) (sym (others n (eqb-false n m e)) ∙ has)

-- a module without entities
pub close-empty : (m : ℕ) (old new : Settled) → new.lists.keys ≡ old.lists.keys → new.taken.items ≡ old.taken.items
    → new.tables.items ≡ old.tables.items
    → ((world : World) (pieces : List (List Declared)) (closed : List ℕ) (i : ℕ) (one : Declared)
    → Settles world pieces closed old → declared_at pieces (placed m i) ≡ Some one → ⊥)
    → Closes m old new
close-empty m old new same_keys same_taken same_tables none = record {
  settles = λ world pieces closed settles all. close-more world pieces closed m old new settles same_keys same_taken
      (subst (λ (tables : List Table). Hold world tables pieces) (sym same_tables) settles.hold)
      (λ n apart. ap (λ (tables : List Table). slice_get tables n) same_tables)
      (record {
        settled = λ i one at. absurd (none world pieces closed i one settles at);
        hidden = λ i k one table has at less. absurd (none world pieces closed i one settles at);
      });
}

-- a place of an entity is that of a table, and of a row
some-piece : (pieces : List (List Declared)) (m i : ℕ) (one : Declared) → declared_at pieces (placed m i) ≡ Some one
    → (piece : List Declared) × (slice_get pieces m ≡ Some piece) × (slice_get piece i ≡ Some one)
some-piece pieces m i one at = by (slice_get pieces m) refl at
  where
    by : (piece : Option (List Declared)) → slice_get pieces m ≡ piece → declared_in piece i ≡ Some one
        → (piece : List Declared) × (slice_get pieces m ≡ Some piece) × (slice_get piece i ≡ Some one)
    by None is at = absurd (none-some one at)
    by (Some piece) is at = (piece, is, at)

pub no-table : (m : ℕ) (old : Settled) → slice_get old.tables.items m ≡ None
    → (world : World) (pieces : List (List Declared)) (closed : List ℕ) (i : ℕ) (one : Declared)
    → Settles world pieces closed old → declared_at pieces (placed m i) ≡ Some one → ⊥
no-table m old none world pieces closed i one settles at =
    let piece = some-piece pieces m i one at in
    let table = at-piece world 0 old.tables.items pieces m piece.0 settles.hold.are piece.1 in
    none-some table.0 (sym none ∙ table.1)

pub no-taken : (m : ℕ) (old : Settled) → slice_get old.taken.items m ≡ None
    → (world : World) (pieces : List (List Declared)) (closed : List ℕ) (i : ℕ) (one : Declared)
    → Settles world pieces closed old → declared_at pieces (placed m i) ≡ Some one → ⊥
no-taken m old none world pieces closed i one settles at =
    let row = in-range (placed m i) pieces old.taken.items one settles.long at in
    none-some row.0 (sym none ∙ row.1)

-- names have the same number only where they are equal
number-of : (own : List Entity) (i : ℕ) (entity : Entity) → slice_get own i ≡ Some entity
    → entity.name ≡ slice_index_or (firsts same_text (names_in own)) (number_in own entity.name) []
number-of own i entity at =
    name-at own entity.name
    (list_any-slice_get same_text same_text-tells (names_in own) entity.name i
    (slice_get-map (λ (one : Entity). one.name) own i ∙ ap (option_map (λ (one : Entity). one.name)) at))

numbers-tell : (own : List Entity) (i j : ℕ) (one other : Entity) → slice_get own i ≡ Some one
    → slice_get own j ≡ Some other → number_in own one.name ≡ number_in own other.name → one.name ≡ other.name
numbers-tell own i j one other at there same =
    number-of own i one at ∙ ap (λ n. slice_index_or (firsts same_text (names_in own)) n []) same
    ∙ sym (number-of own j other there)

from-pieces : (test : Declared → Bool) (pieces : List (List Declared)) → list_any test (entities_in pieces) ≡ true
    → (m : ℕ) × (piece : List Declared) × (slice_get pieces m ≡ Some piece) × (list_any test piece ≡ true)
from-pieces test [] some = absurd (false≢true some)
from-pieces test (this ∷ pieces) some =
    by (list_any test this) refl (sym (list_any-append test this (entities_in pieces)) ∙ some) (from-pieces test pieces)
  where
    by : (b : Bool) → list_any test this ≡ b → (b || list_any test (entities_in pieces)) ≡ true
        → (list_any test (entities_in pieces) ≡ true
        → (m : ℕ) × (piece : List Declared) × (slice_get pieces m ≡ Some piece) × (list_any test piece ≡ true))
        → (m : ℕ) × (piece : List Declared) × (slice_get (this ∷ pieces) m ≡ Some piece) × (list_any test piece ≡ true)
    by true is some later = (0, this, refl, is)
    by false is some later = let at = later some in (suc at.0, at.1, at.2, at.3)

from-entities : (piece : List Declared) (i : ℕ) (entity : Entity)
    → slice_get (map (λ (one : Declared). one.entity) piece) i ≡ Some entity
    → (one : Declared) × (slice_get piece i ≡ Some one) × (one.entity ≡ entity)
from-entities [] i entity at = absurd (none-some entity at)
from-entities (one ∷ piece) zero entity at = (one, refl, same_Some one.entity entity at)
from-entities (one ∷ piece) (suc i) entity at = from-entities piece i entity at

-- what a key says
key-from : (own : List Entity) (taken : List (Option ℕ)) (test : Sort → Bool) (i : ℕ) (key : ℕ × ℕ)
    → key_at own taken test i ≡ Some key
    → (entity : Entity) × (slice_get own i ≡ Some entity) × (test entity.sort ≡ true)
    × (number_in own entity.name ≡ key.0) × (slice_index_or taken i None ≡ Some key.1)
key-from own taken test i key at = by (slice_get own i) refl (slice_index_or taken i None) refl at
  where
    sorted : (entity : Entity) → slice_get own i ≡ Some entity → (b : Bool) → test entity.sort ≡ b → (n : Option ℕ)
        → slice_index_or taken i None ≡ n → (if b then key_of own entity n else None) ≡ Some key
        → (entity : Entity) × (slice_get own i ≡ Some entity) × (test entity.sort ≡ true)
        × (number_in own entity.name ≡ key.0) × (slice_index_or taken i None ≡ Some key.1)
    sorted entity is true sort None has at = absurd (none-some key at)
    sorted entity is true sort (Some n) has at =
        let same = same_Some {A = ℕ × ℕ} (number_in own entity.name, n) key at in
        (entity, is, sort, ap (λ (k : ℕ × ℕ). k.0) same, has ∙ ap (λ (k : ℕ × ℕ). Some k.1) same)
    sorted entity is false sort n has at = absurd (none-some key at)

    by : (entity : Option Entity) → slice_get own i ≡ entity → (n : Option ℕ) → slice_index_or taken i None ≡ n
        → key_in own test entity n ≡ Some key
        → (entity : Entity) × (slice_get own i ≡ Some entity) × (test entity.sort ≡ true)
        × (number_in own entity.name ≡ key.0) × (slice_index_or taken i None ≡ Some key.1)
    by None is n has at = absurd (none-some key at)
    by (Some entity) is n has at = sorted entity is (test entity.sort) refl n has at

key-to : (own : List Entity) (taken : List (Option ℕ)) (test : Sort → Bool) (i n : ℕ) (entity : Entity)
    → slice_get own i ≡ Some entity → test entity.sort ≡ true → slice_index_or taken i None ≡ Some n
    → key_at own taken test i ≡ Some (number_in own entity.name, n)
key-to own taken test i n entity at is has =
    (λ k. key_in own test (at k) (has k)) ∙ cond-true (test entity.sort) (Some (number_in own entity.name, n)) None is

-- a flag says that a prototype doesn't stand
hidden-is : (world : World) (pieces : List (List Declared)) (closed : List ℕ) (m : ℕ) (old : Settled) (table : Table)
    (row : Vec (Option ℕ) Global) (hidden : List Bool) → Settles world pieces closed old
    → slice_get old.tables.items m ≡ Some table → slice_get old.taken.items m ≡ Some row
    → IsHiding table.own row.items hidden
    → ((i : ℕ) (one : Declared) → declared_at pieces (placed m i) ≡ Some one
    → is_settled old.taken.items (placed m i) ≡ true)
    → (i k : ℕ) (one : Declared) → declared_at pieces (placed m i) ≡ Some one → settled_count old.taken.items ≤ k
    → slice_index_or hidden i true ≡ not (stands (types_after world (entities_in pieces) k) (entities_in pieces) one)
hidden-is world pieces closed m old table row hidden settles has_table has_row hiding all i k one at less =
    hiding.are.are i inside
    ∙ both-ways (has_key hiding.keys (key_at table.own row.items is_prototype i))
    (is_prototype one.entity.sort && list_any (defines types one) (entities_in pieces))
    (λ is. to (key_at table.own row.items is_prototype i) refl is) from
    ∙ sym (not-not (is_prototype one.entity.sort && list_any (defines types one) (entities_in pieces)))
  where
    types : Declared → List Ty
    types = types_after world (entities_in pieces) k

    here : (piece : List Declared) × (slice_get pieces m ≡ Some piece) × IsTable world (0 + m) piece table
    here = table-at world 0 old.tables.items pieces m table settles.hold.are has_table

    piece : List Declared
    piece = here.0

    placed-at : (j : ℕ) (other : Declared) → slice_get piece j ≡ Some other
        → declared_at pieces (placed m j) ≡ Some other
    placed-at j other there = ap (λ p. declared_in p j) here.1 ∙ there

    one-at : slice_get piece i ≡ Some one
    one-at = sym (ap (λ p. declared_in p i) here.1) ∙ at

    own-at : (j : ℕ) (other : Declared) → slice_get piece j ≡ Some other → slice_get table.own j ≡ Some other.entity
    own-at j other there =
        ap (λ own. slice_get own j) here.2.own
        ∙ slice_get-map (λ (one : Declared). one.entity) piece j
        ∙ ap (option_map (λ (one : Declared). one.entity)) there

    inside : i < length hidden
    inside = omega (
      arith,
      hiding.long,
      ap length here.2.own,
      length-map piece (λ (one : Declared). one.entity),
      slice_get_within piece i one one-at,
    )

    taken-is : (j : ℕ) → taken_at old.taken.items (placed m j) ≡ slice_index_or row.items j None
    taken-is j = ap (λ r. taken_in r j) has_row

    takes : (j n : ℕ) (other : Declared) → slice_get piece j ≡ Some other → slice_index_or row.items j None ≡ Some n
        → types other ≡ slice_index_or old.lists.keys n []
    takes j n other there number =
        settles.known.known (placed m j) other n k (placed-at j other there) (taken-is j ∙ number) less

    to : (key : Option (ℕ × ℕ)) → key_at table.own row.items is_prototype i ≡ key → has_key hiding.keys key ≡ true
        → (is_prototype one.entity.sort && list_any (defines types one) (entities_in pieces)) ≡ true
    to None key_is is = absurd (false≢true is)
    to (Some key) key_is is =
        let there = hiding.defined.only key is in
        let own = key-from table.own row.items is_prototype i key key_is in
        let defined = key-from table.own row.items is_definition there.0 key there.1 in
        let same = same_Some own.0 one.entity (sym own.1 ∙ own-at i one one-at) in
        let other = from-entities piece there.0 defined.0
        (sym (ap (λ o. slice_get o there.0) here.2.own) ∙ defined.1) in
        let other_number = ap (λ (e : Entity). number_in table.own e.name) other.2 ∙ defined.3 in
        let one_number = ap (λ (e : Entity). number_in table.own e.name) (sym same) ∙ own.3 in
        let names : one.entity.name ≡ other.0.entity.name =
        numbers-tell table.own i there.0 one.entity other.0.entity (own-at i one one-at)
        (own-at there.0 other.0 other.1) (one_number ∙ sym other_number) in
        let one_in = eqb-true one.entity.id.module (0 + m)
        (all-at (λ (d : Declared). d.entity.id.module == 0 + m) piece i one here.2.inside one-at) in
        let other_in = eqb-true other.0.entity.id.module (0 + m)
        (all-at (λ (d : Declared). d.entity.id.module == 0 + m) piece there.0 other.0 here.2.inside other.1) in
        let modules = eq-eqb one.entity.id.module other.0.entity.id.module (one_in ∙ sym other_in) in
        let equal : types one ≡ types other.0 =
        takes i key.1 one one-at own.4 ∙ sym (takes there.0 key.1 other.0 other.1 defined.4) in
        let defines_it : defines types one other.0 ≡ true =
        λ z. (ap (λ (e : Entity). is_definition e.sort) other.2 ∙ defined.2) z
        && ((modules z && (bytes_decides one.entity.name other.0.entity.name).1 names z)
        && (types-decide (types one) (types other.0)).1 equal z) in
        λ z. (ap (λ (e : Entity). is_prototype e.sort) (sym same) ∙ own.2) z
        && any-in (defines types one) pieces m there.0 other.0 (placed-at there.0 other.0 other.1) defines_it z

    from : (is_prototype one.entity.sort && list_any (defines types one) (entities_in pieces)) ≡ true
        → has_key hiding.keys (key_at table.own row.items is_prototype i) ≡ true
    from both =
        let parts = and_parts (is_prototype one.entity.sort) (list_any (defines types one) (entities_in pieces)) both in
        let there = from-pieces (defines types one) pieces parts.1 in
        let other = any-of (defines types one) there.1 there.3 in
        let defined = and_parts (is_definition other.1.entity.sort)
        (share_name one other.1 && pointwise same_type (types one) (types other.1)) other.3 in
        let shares = and_parts (share_name one other.1) (pointwise same_type (types one) (types other.1)) defined.1 in
        let named = and_parts (one.entity.id.module == other.1.entity.id.module)
        (bytes_eq one.entity.name other.1.entity.name) shares.0 in
        let table_of = at-piece world 0 old.tables.items pieces there.0 there.1 settles.hold.are there.2 in
        let one_in = eqb-true one.entity.id.module (0 + m)
        (all-at (λ (d : Declared). d.entity.id.module == 0 + m) piece i one here.2.inside one-at) in
        let other_in = eqb-true other.1.entity.id.module (0 + there.0)
        (all-at (λ (d : Declared). d.entity.id.module == 0 + there.0) there.1 other.0 other.1 table_of.2.inside
        other.2) in
        let same_module = eqb-true one.entity.id.module other.1.entity.id.module named.0 in
        let same : there.0 ≡ m = omega (arith, one_in, other_in, same_module) in
        let same_piece : there.1 ≡ piece =
        same_Some there.1 piece (sym there.2 ∙ ap (slice_get pieces) same ∙ here.1) in
        let other_at : slice_get piece other.0 ≡ Some other.1 = ap (λ p. slice_get p other.0) (sym same_piece)
        ∙ other.2 in
        let one_number = known-number (taken_at old.taken.items (placed m i)) (all i one at) in
        let other_number = known-number (taken_at old.taken.items (placed m other.0))
        (all other.0 other.1 (placed-at other.0 other.1 other_at)) in
        let one_taken = sym (taken-is i) ∙ one_number.1 in
        let other_taken = ◌∙◌ {c = Some other_number.0} (sym (taken-is other.0)) other_number.1 in
        let equal = (types-decide (types one) (types other.1)).0 shares.1 in
        let numbers : one_number.0 ≡ other_number.0 =
        settles.known.apart one_number.0 other_number.0
        (settles.known.within (placed m i) one_number.0 one_number.1)
        (settles.known.within (placed m other.0) other_number.0 other_number.1)
        (◌∙◌ {c = slice_index_or old.lists.keys other_number.0 []}
        (sym (takes i one_number.0 one one-at one_taken))
        (◌∙◌ {c = slice_index_or old.lists.keys other_number.0 []} equal
        (takes other.0 other_number.0 other.1 other_at other_taken))) in
        let names = (bytes_decides one.entity.name other.1.entity.name).0 named.1 in
        let one_key = key-to table.own row.items is_prototype i one_number.0 one.entity (own-at i one one-at) parts.0
        one_taken in
        let other_key = key-to table.own row.items is_definition other.0 other_number.0 other.1.entity
        (own-at other.0 other.1 other_at) defined.0 other_taken in
        let keys_same : Some (number_in table.own other.1.entity.name, other_number.0)
        ≡ Some (number_in table.own one.entity.name, one_number.0) =
        λ z. Some (number_in table.own (sym names z), sym numbers z) in
        ap (has_key hiding.keys) one_key
        ∙ hiding.defined.has other.0 (number_in table.own one.entity.name, one_number.0)
        (slice_get_within table.own other.0 other.1.entity (own-at other.0 other.1 other_at))
        (◌∙◌ {b = Some (number_in table.own other.1.entity.name, other_number.0)}
        {c = Some (number_in table.own one.entity.name, one_number.0)} other_key keys_same)

-- a module whose prototypes are hidden by its functions is closed
pub close-hidden : (m : ℕ) (old new : Settled) (table now : Table) (row : Vec (Option ℕ) Global)
    → new.lists.keys ≡ old.lists.keys → new.taken.items ≡ old.taken.items
    → new.tables.items ≡ slice_set old.tables.items m now
    → slice_get old.tables.items m ≡ Some table → slice_get old.taken.items m ≡ Some row
    → now.own ≡ table.own → now.reaches ≡ table.reaches → IsHiding table.own row.items now.hidden.items
    → Closes m old new
close-hidden m old new table now row same_keys same_taken set has_table has_row own reaches hiding = record {
  settles = λ world pieces closed settles all. close-more world pieces closed m old new settles same_keys same_taken
      (subst (λ (tables : List Table). Hold world tables pieces) (sym set)
      (set-hold world old.tables.items pieces m table now settles.hold has_table own reaches
      (hiding.long ∙ same-long world pieces settles.hold)))
      (λ n apart. ap (λ (tables : List Table). slice_get tables n) set ∙ get-set_other old.tables.items m n now apart)
      (record {
        settled = all;
        hidden = λ i k one t has at less.
            let same = same_Some now t (sym (get-set_same old.tables.items m table now has_table)
            ∙ ap (λ (tables : List Table). slice_get tables m) (sym set) ∙ has) in
            ap (λ (t : Table). is_hidden t i) (sym same)
            ∙ hidden-is world pieces closed m old table row now.hidden.items settles has_table has_row hiding
            all i k one at less;
      });
}
  where
    same-long : (world : World) (pieces : List (List Declared)) → Hold world old.tables.items pieces
        → length table.own ≡ length table.hidden.items
    same-long world pieces hold =
        let here = table-at world 0 old.tables.items pieces m table hold.are has_table in
        ap length here.2.own ∙ length-map here.0 (λ (one : Declared). one.entity) ∙ sym here.2.hidden

-- One more entity is settled.
use Rattle.std.proofs.Common.{◌≡◌, ◌∙◌, ◌⊎◌, inl, inr, ⊎_elim, ◌<◌, ◌≤◌, ◌∷◌, ◌==◌, [], ℕ, zero, suc, Bool, true}
use Rattle.std.proofs.Common.{false, List, Option, Some, None, refl, sym, ap, subst, slice_get, slice_index_or}
use Rattle.std.proofs.Common.{slice_set, map, drop, length, is_some, arith}
use Rattle.std.specs.declared.vec.Vec.{Vec}
use Rattle.std.specs.declared.alloc.Global.{Global}
use Rattle.std.proofs.lemmas.Bool.{eqb-true, eqb-false, false≢true}
use Rattle.std.proofs.lemmas.List.{length-set, get_or-set_same, get_or-set_other}
use Rattle.std.proofs.lemmas.Option.{same_Some, none-some, slice_get_within, slice_get-get_or, get_or_from_slice_get}
use Rattle.type_rules.specs.declared.ty.Ty.{Ty}
use Rattle.scope_core.specs.declared.settled.Settled.{Settled}
use Rattle.scope_tables.specs.declared.tables.Place.{Place}
use Rattle.scope_tables.specs.declared.tables.Table.{Table}
use Rattle.scope_tables.specs.Entities.{Declared}
use Rattle.scope_tables.specs.Visible.{World}
use Rattle.scope_core.specs.Standing.{types_after}
use Rattle.scope_tables.specs.inside.Finding.{placed}
use Rattle.scope_core.specs.inside.Holding.{Hold}
use Rattle.scope_core.specs.inside.Settling.{taken_in, taken_at}
use Rattle.scope_core.specs.inside.Rounds.{declared_in, declared_at, entities_in, settled_in, settled_count}
use Rattle.scope_core.specs.inside.Rounds.{is_known_number, is_settled, AreKnown, IsClosed, Settles, SettlesBy}
use Rattle.scope_tables.proofs.MemberLaws.{get-set_same, get-set_other}

abbrev pub Rows : Type 0
Rows = List (Vec (Option ℕ) Global)

abbrev pub lengths : Rows → List ℕ
lengths taken = map (λ (row : Vec (Option ℕ) Global). length row.items) taken

-- one more place has a number, and all else is as it was
pub record IsSet (place : Place) (number : ℕ) (taken now : Rows) : Type 0 where
  pub at : taken_at now place ≡ Some number
  pub others : (other : Place) → (other ≡ place) ⊎ (taken_at now other ≡ taken_at taken other)
  pub kept : (other : Place) (n : ℕ) → taken_at taken other ≡ Some n → taken_at now other ≡ Some n
  pub count : settled_count now ≡ suc (settled_count taken)
  pub long : lengths now ≡ lengths taken

settled_in-set : (row : List (Option ℕ)) (i n : ℕ) → i < length row → slice_index_or row i None ≡ None
    → settled_in (slice_set row i (Some n)) ≡ suc (settled_in row)
settled_in-set [] i n inside none = absurd (omega (arith, inside))
settled_in-set (None ∷ row) zero n inside none = refl
settled_in-set (Some k ∷ row) zero n inside none = absurd (none-some k (sym none))
settled_in-set (None ∷ row) (suc i) n inside none = settled_in-set row i n (omega (arith, inside)) none
settled_in-set (Some k ∷ row) (suc i) n inside none = ap suc (settled_in-set row i n (omega (arith, inside)) none)

settled_count-set : (taken : Rows) (m : ℕ) (row now : Vec (Option ℕ) Global) → slice_get taken m ≡ Some row
    → settled_in now.items ≡ suc (settled_in row.items)
    → settled_count (slice_set taken m now) ≡ suc (settled_count taken)
settled_count-set [] m row now at more = absurd (none-some row at)
settled_count-set (one ∷ taken) zero row now at more =
    let is = ap (λ (row : Vec (Option ℕ) Global). settled_in row.items) (same_Some one row at) in
    omega (arith, is, more)
settled_count-set (one ∷ taken) (suc m) row now at more =
    omega (arith, settled_count-set taken m row now at more)

lengths-set : (taken : Rows) (m : ℕ) (row now : Vec (Option ℕ) Global) → slice_get taken m ≡ Some row
    → length now.items ≡ length row.items → lengths (slice_set taken m now) ≡ lengths taken
lengths-set [] m row now at same = absurd (none-some row at)
lengths-set (one ∷ taken) zero row now at same =
    let is = ap (λ (row : Vec (Option ℕ) Global). length row.items) (same_Some one row at) in
    ap (λ n. n ∷ lengths taken) (same ∙ sym is)
lengths-set (one ∷ taken) (suc m) row now at same = ap (λ l. length one.items ∷ l) (lengths-set taken m row now at same)

pub same-placed : (one other : Place) → one.«module» ≡ other.«module» → one.index ≡ other.index → one ≡ other
same-placed one other m i = λ k. record { «module» = m k; index = i k }

pub is-set : (place : Place) (number : ℕ) (taken : Rows) (row now : Vec (Option ℕ) Global)
    → slice_get taken place.«module» ≡ Some row → place.index < length row.items
    → slice_index_or row.items place.index None ≡ None
    → now.items ≡ slice_set row.items place.index (Some number)
    → IsSet place number taken (slice_set taken place.«module» now)
is-set place number taken row now at inside none is = record {
  at = own;
  others = others;
  kept = λ other n was. ⊎_elim (λ e. absurd (none-some n (sym (ap (taken_at taken) e ∙ unknown) ∙ was)))
      (λ e. e ∙ was) (others other);
  count =
      settled_count-set taken place.«module» row now at
      (ap settled_in is ∙ settled_in-set row.items place.index number inside none);
  long =
      lengths-set taken place.«module» row now at (ap length is ∙ length-set row.items place.index (Some number));
}
  where
    unknown : taken_at taken place ≡ None
    unknown = ap (λ row. taken_in row place.index) at ∙ none

    own : taken_at (slice_set taken place.«module» now) place ≡ Some number
    own =
        ap (λ row. taken_in row place.index) (get-set_same taken place.«module» row now at)
        ∙ ap (λ items. slice_index_or items place.index None) is
        ∙ get_or-set_same row.items place.index (Some number) None inside

    by : (other : Place) → (b : Bool) → (other.«module» == place.«module») ≡ b → (c : Bool)
        → (other.index == place.index) ≡ c
        → (other ≡ place) ⊎ (taken_at (slice_set taken place.«module» now) other ≡ taken_at taken other)
    by other true m true i =
        inl (same-placed other place (eqb-true other.«module» place.«module» m) (eqb-true other.index place.index i))
    by other true m false i =
        let e = eqb-true other.«module» place.«module» m in
        inr (ap (λ k. taken_in (slice_get (slice_set taken place.«module» now) k) other.index) e
        ∙ ap (λ row. taken_in row other.index) (get-set_same taken place.«module» row now at)
        ∙ ap (λ items. slice_index_or items other.index None) is
        ∙ get_or-set_other row.items place.index other.index (Some number) None (eqb-false other.index place.index i)
        ∙ sym (ap (λ k. taken_in (slice_get taken k) other.index) e ∙ ap (λ row. taken_in row other.index) at))
    by other false m c i =
        inr (ap (λ row. taken_in row other.index)
        (get-set_other taken place.«module» other.«module» now (eqb-false other.«module» place.«module» m)))

    others : (other : Place)
        → (other ≡ place) ⊎ (taken_at (slice_set taken place.«module» now) other ≡ taken_at taken other)
    others other = by other (other.«module» == place.«module») refl (other.index == place.index) refl

-- what is settled stays so
pub settled-on : (taken now : Rows)
    → ((place : Place) (n : ℕ) → taken_at taken place ≡ Some n → taken_at now place ≡ Some n)
    → (place : Place) → is_settled taken place ≡ true → is_settled now place ≡ true
settled-on taken now kept place is = by (taken_at taken place) refl is
  where
    by : (n : Option ℕ) → taken_at taken place ≡ n → is_known_number n ≡ true → is_settled now place ≡ true
    by None at h = absurd (false≢true h)
    by (Some n) at h = ap is_known_number (kept place n at)

closed-on : (world : World) (pieces : List (List Declared)) (m : ℕ) (place : Place) (number : ℕ) (tables : List Table)
    (taken now : Rows) → IsSet place number taken now → IsClosed world pieces tables taken m
    → IsClosed world pieces tables now m
closed-on world pieces m place number tables taken now set closed = record {
  settled = λ i one at. settled-on taken now set.kept (placed m i) (closed.settled i one at);
  hidden = λ i k one table has at less. closed.hidden i k one table has at (omega (arith, less, set.count));
}

-- what is known goes on to be, and so is one more
known-on : (world : World) (pieces : List (List Declared)) (place : Place) (number : ℕ) (keys : List (List Ty))
    (taken now : Rows) (one : Declared) → IsSet place number taken now → number < length keys
    → AreKnown world pieces keys taken → declared_at pieces place ≡ Some one
    → ((k : ℕ) → settled_count taken ≤ k
    → types_after world (entities_in pieces) (suc k) one ≡ slice_index_or keys number [])
    → AreKnown world pieces keys now
known-on world pieces place number keys taken now one set inside known at takes = record {
  apart = known.apart;
  within = λ other n is. ⊎_elim
      (λ e. subst (λ n. n < length keys) (same_Some number n (sym set.at ∙ ap (taken_at now) (sym e) ∙ is)) inside)
      (λ e. known.within other n (sym e ∙ is)) (set.others other);
  known = λ other this n k has is less. ⊎_elim
      (λ e. own k this (same_Some one this (sym at ∙ ap (declared_at pieces) (sym e) ∙ has)) less
      ∙ ap (λ n. slice_index_or keys n []) (same_Some number n (sym set.at ∙ ap (taken_at now) (sym e) ∙ is)))
      (λ e. known.known other this n k has (sym e ∙ is) (omega (arith, less, set.count))) (set.others other);
}
  where
    own : (k : ℕ) (this : Declared) → one ≡ this → settled_count now ≤ k
        → types_after world (entities_in pieces) k this ≡ slice_index_or keys number []
    own zero this same less = absurd (omega (arith, less, set.count))
    own (suc k) this same less =
        ap (types_after world (entities_in pieces) (suc k)) (sym same) ∙ takes k (omega (arith, less, set.count))

-- an entity that wasn't settled is
pub set-settles : (place : Place) (number : ℕ) (old new : Settled) → IsSet place number old.taken.items new.taken.items
    → new.tables ≡ old.tables → new.lists.keys ≡ old.lists.keys → number < length old.lists.keys
    → SettlesBy place (slice_index_or old.lists.keys number []) old new
set-settles place number old new set same_tables same_keys inside = record {
  stays = record { tables = same_tables; kept = set.kept };
  settles = λ world pieces closed one settles at takes. (
    record {
      hold = subst (λ (tables : Vec Table Global). Hold world tables.items pieces) (sym same_tables) settles.hold;
      long = set.long ∙ settles.long;
      known = subst (λ (keys : List (List Ty)). AreKnown world pieces keys new.taken.items) (sym same_keys)
          (known-on world pieces place number old.lists.keys old.taken.items new.taken.items one set inside
          settles.known at takes);
      closed_are = λ m is. subst (λ (tables : Vec Table Global). IsClosed world pieces tables.items new.taken.items m)
          (sym same_tables) (closed-on world pieces m place number old.tables.items old.taken.items new.taken.items set
          (settles.closed_are m is));
      open_are = λ m table apart has. settles.open_are m table apart
          (ap (λ (tables : Vec Table Global). slice_get tables.items m) (sym same_tables) ∙ has);
    },
    ap is_known_number set.at,
  );
}

-- the same for lists that are equal
pub settles-same : (world : World) (pieces : List (List Declared)) (closed : List ℕ) (old new : Settled)
    → new.tables.items ≡ old.tables.items → new.lists.keys ≡ old.lists.keys → new.taken.items ≡ old.taken.items
    → Settles world pieces closed old → Settles world pieces closed new
settles-same world pieces closed old new same_tables same_keys same_taken settles = record {
  hold = subst (λ (tables : List Table). Hold world tables pieces) (sym same_tables) settles.hold;
  long = ap lengths same_taken ∙ settles.long;
  known = subst (λ (keys : List (List Ty)). AreKnown world pieces keys new.taken.items) (sym same_keys)
      (subst (AreKnown world pieces old.lists.keys) (sym same_taken) settles.known);
  closed_are = λ m is. subst (λ (tables : List Table). IsClosed world pieces tables new.taken.items m)
      (sym same_tables) (subst (λ (taken : Rows). IsClosed world pieces old.tables.items taken m) (sym same_taken)
      (settles.closed_are m is));
  open_are = λ m table apart has. settles.open_are m table apart
      (ap (λ (tables : List Table). slice_get tables m) (sym same_tables) ∙ has);
}

-- where nothing changes
pub same-settles : (place : Place) (types : List Ty) (old new : Settled) → new.tables ≡ old.tables
    → new.lists.keys ≡ old.lists.keys → new.taken.items ≡ old.taken.items
    → ((pieces : List (List Declared)) (one : Declared) → lengths old.taken.items ≡ map length pieces
    → declared_at pieces place ≡ Some one → is_settled old.taken.items place ≡ true)
    → SettlesBy place types old new
same-settles place types old new same_tables same_keys same_taken settled = record {
  stays = record {
    tables = same_tables;
    kept = λ other n is. ap (λ (taken : Rows). taken_at taken other) same_taken ∙ is;
  };
  settles = λ world pieces closed one settles at takes. (
    settles-same world pieces closed old new (ap (λ (tables : Vec Table Global). tables.items) same_tables) same_keys
        same_taken settles,
    ap (λ (taken : Rows). is_settled taken place) same_taken ∙ settled pieces one settles.long at,
  );
}

-- a place of an entity is in range
in-rows : (m i : ℕ) (pieces : List (List Declared)) (taken : Rows) (one : Declared)
    → lengths taken ≡ map length pieces → declared_in (slice_get pieces m) i ≡ Some one
    → (row : Vec (Option ℕ) Global) × (slice_get taken m ≡ Some row) × (i < length row.items)
in-rows m i [] taken one long at = absurd (none-some one at)
in-rows m i (piece ∷ pieces) [] one long at = absurd (omega (arith, ap length long))
in-rows zero i (piece ∷ pieces) (row ∷ taken) one long at =
    (row, refl, omega (arith, slice_get_within piece i one at, ap (λ l. slice_index_or l 0 0) long))
in-rows (suc m) i (piece ∷ pieces) (row ∷ taken) one long at =
    in-rows m i pieces taken one (ap (drop 1) long) at

pub in-range : (place : Place) (pieces : List (List Declared)) (taken : Rows) (one : Declared)
    → lengths taken ≡ map length pieces → declared_at pieces place ≡ Some one
    → (row : Vec (Option ℕ) Global) × (slice_get taken place.«module» ≡ Some row) × (place.index < length row.items)
in-range place pieces taken one long at = in-rows place.«module» place.index pieces taken one long at

-- what was known of a place in keys that only grow
pub grown-settles : (place : Place) (types : List Ty) (old mid new : Settled) → mid.tables ≡ old.tables
    → mid.taken ≡ old.taken
    → (((i j : ℕ) → i < length old.lists.keys → j < length old.lists.keys
    → slice_index_or old.lists.keys i [] ≡ slice_index_or old.lists.keys j [] → i ≡ j)
    → (i j : ℕ) → i < length mid.lists.keys → j < length mid.lists.keys
    → slice_index_or mid.lists.keys i [] ≡ slice_index_or mid.lists.keys j [] → i ≡ j)
    → ((n : ℕ) (list : List Ty) → slice_get old.lists.keys n ≡ Some list → slice_get mid.lists.keys n ≡ Some list)
    → SettlesBy place types mid new → SettlesBy place types old new
grown-settles place types old mid new same_tables same_taken apart grown by = record {
  stays = record {
    tables = by.stays.tables ∙ same_tables;
    kept = λ other n is. by.stays.kept other n
        (ap (λ (taken : Vec (Vec (Option ℕ) Global) Global). taken_at taken.items other) same_taken ∙ is);
  };
  settles = λ world pieces closed one settles at takes. by.settles world pieces closed one (record {
    hold = subst (λ (tables : Vec Table Global). Hold world tables.items pieces) (sym same_tables) settles.hold;
    long = ap (λ (taken : Vec (Vec (Option ℕ) Global) Global). lengths taken.items) same_taken ∙ settles.long;
    known = record {
      apart = apart (settles.known.apart);
      within = λ other n is.
          let was = settles.known.within other n (back other n is) in
          slice_get_within mid.lists.keys n (slice_index_or old.lists.keys n [])
          (grown n (slice_index_or old.lists.keys n []) (slice_get-get_or old.lists.keys n [] was));
      known = λ other this n k has is less.
          let was = settles.known.within other n (back other n is) in
          settles.known.known other this n k has (back other n is)
          (subst (λ (taken : Vec (Vec (Option ℕ) Global) Global). settled_count taken.items ≤ k) same_taken less)
          ∙ sym (get_or_from_slice_get mid.lists.keys n (slice_index_or old.lists.keys n []) []
          (grown n (slice_index_or old.lists.keys n []) (slice_get-get_or old.lists.keys n [] was)));
    };
    closed_are = λ m is. subst
        (λ (taken : Vec (Vec (Option ℕ) Global) Global). IsClosed world pieces mid.tables.items taken.items m)
        (sym same_taken)
        (subst (λ (tables : Vec Table Global). IsClosed world pieces tables.items old.taken.items m) (sym same_tables)
        (settles.closed_are m is));
    open_are = λ m table apart has. settles.open_are m table apart
        (ap (λ (tables : Vec Table Global). slice_get tables.items m) (sym same_tables) ∙ has);
  }) at (λ k less. takes k
      (subst (λ (taken : Vec (Vec (Option ℕ) Global) Global). settled_count taken.items ≤ k) same_taken less));
}
  where
    back : (other : Place) (n : ℕ) → taken_at mid.taken.items other ≡ Some n → taken_at old.taken.items other ≡ Some n
    back other n is = ap (λ (taken : Vec (Vec (Option ℕ) Global) Global). taken_at taken.items other)
        (sym same_taken) ∙ is

-- a place that isn't in range is that of no entity
pub no-row : (place : Place) (taken : Rows) (pieces : List (List Declared)) (one : Declared)
    → slice_get taken place.«module» ≡ None → lengths taken ≡ map length pieces → declared_at pieces place ≡ Some one
    → is_settled taken place ≡ true
no-row place taken pieces one none long at =
    let range = in-range place pieces taken one long at in
    absurd (none-some range.0 (sym none ∙ range.1))

pub no-place : (place : Place) (taken : Rows) (row : Vec (Option ℕ) Global) (pieces : List (List Declared))
    (one : Declared)
    → slice_get taken place.«module» ≡ Some row → length row.items ≤ place.index
    → lengths taken ≡ map length pieces → declared_at pieces place ≡ Some one
    → is_settled taken place ≡ true
no-place place taken row pieces one has past long at =
    let range = in-range place pieces taken one long at in
    let same = ap (λ (row : Vec (Option ℕ) Global). length row.items) (same_Some range.0 row (sym range.1 ∙ has)) in
    absurd (omega (arith, range.2, past, same))

pub no-number : (n : Option ℕ) → is_some n ≡ false → n ≡ None
no-number None is = refl
no-number (Some n) is = absurd (false≢true (sym is))

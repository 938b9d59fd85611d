-- What is found in tables is what a name finds among the entities that they hold.
use Rattle.std.proofs.Common.{◌≡◌, ◌∙◌, ◌+◌, ◌-◌, ◌≤◌, ◌++◌, ◌∷◌, ◌==◌, ◌&&◌, not, [], ℕ, suc, Bool, true, false}
use Rattle.std.proofs.Common.{List, Option, Some, None, refl, sym, ap, slice_get, slice_index_or, map, filter}
use Rattle.std.proofs.Common.{length, arith}
use Rattle.std.specs.Prelude.{if◌then◌else◌}
use Rattle.std.specs.List.{list_any, list_all, flat_map}
use Rattle.std.proofs.lemmas.Bool.{and_parts, or_from, eqb-true, eqb-false, ne_eqb}
use Rattle.std.proofs.lemmas.List.{map-append}
use Rattle.std.proofs.lemmas.Simd.{map-map}
use Rattle.std.proofs.lemmas.List.Elements.{filter-append}
use Rattle.scope_tables.specs.declared.entity.Entity.{Entity}
use Rattle.scope_tables.specs.declared.reach.Reach.{Reach}
use Rattle.scope_tables.specs.declared.tables.Table.{Table}
use Rattle.scope_tables.specs.Entities.{Declared}
use Rattle.scope_tables.specs.Visible.{World, those}
use Rattle.scope_tables.specs.inside.Owning.{same_text, indices_from, indices_of}
use Rattle.scope_tables.specs.inside.Reaching.{has_it}
use Rattle.scope_tables.specs.inside.Finding.{placed, sees, sees_at, seen_in}
use Rattle.scope_core.specs.inside.Rounds.{declared_in, declared_at}
use Rattle.scope_core.specs.inside.Holding.{standing_in, open_pieces, IsTable, AreTables, Ordered, Agree}

-- a name that is seen
abbrev pub is_seen : List ℕ → Reach → Bool → Bool → Entity → Bool
is_seen name reach used all entity = same_text name entity.name && has_it reach entity used all

-- one entity of a piece: its index is found and seen exactly where it stands and passes the test
one-seen : (g : ℕ → Option Declared) (i : ℕ) (one : Declared) (found : List ℕ) (stand : List Declared)
    (named hidden had : Bool) → map g found ≡ map Some stand → g i ≡ Some one
    → map g (if named then (if not hidden && had then i ∷ found else found) else found)
    ≡ map Some (if hidden then stand else (if named && had then one ∷ stand else stand))
one-seen g i one found stand true true had rest is = rest
one-seen g i one found stand true false true rest is = λ k. is k ∷ rest k
one-seen g i one found stand true false false rest is = rest
one-seen g i one found stand false true had rest is = rest
one-seen g i one found stand false false had rest is = rest

-- what stands, when one more entity comes before
those-before : (test : Entity → Bool) (hidden : Bool) (one : Declared) (stand : List Declared)
    → those test (if hidden then stand else one ∷ stand)
    ≡ (if hidden then those test stand else (if test one.entity then one ∷ those test stand else those test stand))
those-before test true one stand = refl
those-before test false one stand = refl

found-before : (p : ℕ → Bool) (named : Bool) (i : ℕ) (found : List ℕ)
    → filter p (if named then i ∷ found else found)
    ≡ (if named then (if p i then i ∷ filter p found else filter p found) else filter p found)
found-before p true i found = refl
found-before p false i found = refl

pub seen-from : (table : Table) (reach : Reach) (name : List ℕ) (used all : Bool) (g : ℕ → Option Declared) (i : ℕ)
    (rest : List Declared) (hidden : List Bool)
    → ((j : ℕ) → slice_get table.own (i + j) ≡ slice_get (map (λ (one : Declared). one.entity) rest) j)
    → ((j : ℕ) → g (i + j) ≡ slice_get rest j)
    → ((j : ℕ) → slice_index_or table.hidden.items (i + j) true ≡ slice_index_or hidden j true)
    → length hidden ≡ length rest
    → map g
    (filter (sees_at table reach used all) (indices_from name i (map (λ (one : Declared). one.entity) rest)))
    ≡ map Some (those (is_seen name reach used all) (standing_in hidden rest))
seen-from table reach name used all g i [] [] own is flags long = refl
seen-from table reach name used all g i [] (h ∷ hidden) own is flags long = refl
seen-from table reach name used all g i (one ∷ rest) [] own is flags long = absurd (omega (arith, long))
seen-from table reach name used all g i (one ∷ rest) (h ∷ hidden) own is flags long =
    let here : i + 0 ≡ i = omega arith in
    let entity : slice_get table.own i ≡ Some one.entity = ap (slice_get table.own) (sym here) ∙ own 0 in
    let flag : slice_index_or table.hidden.items i true ≡ h =
    ap (λ k. slice_index_or table.hidden.items k true) (sym here) ∙ flags 0 in
    let had : sees_at table reach used all i ≡ (not h && has_it reach one.entity used all) =
    ap (sees table reach used all i) entity ∙ ap (λ b. not b && has_it reach one.entity used all) flag in
    let step = λ (j : ℕ). ap (slice_get table.own) (next j) ∙ own (suc j) in
    let places = λ (j : ℕ). ap g (next j) ∙ is (suc j) in
    let more = λ (j : ℕ). ap (λ k. slice_index_or table.hidden.items k true) (next j) ∙ flags (suc j) in
    let later = seen-from table reach name used all g (i + 1) rest hidden step places more (omega (arith, long)) in
    let found = indices_from name (i + 1) (map (λ (one : Declared). one.entity) rest) in
    let named = same_text name one.entity.name in
    let kept = filter (sees_at table reach used all) found in
    ap (map g) (found-before (sees_at table reach used all) named i found)
    ∙ ap (λ b. map g (if named then (if b then i ∷ kept else kept) else kept)) had
    ∙ one-seen g i one kept (those (is_seen name reach used all) (standing_in hidden rest)) named h
    (has_it reach one.entity used all) later (ap g (sym here) ∙ is 0)
    ∙ sym (ap (map Some) (those-before (is_seen name reach used all) h one (standing_in hidden rest)))
  where
    next : (j : ℕ) → i + 1 + j ≡ i + suc j
    next j = omega arith

-- tests that agree on the entities of a module find the same of its piece
those-agree : (m : ℕ) (one other : Entity → Bool) (hidden : List Bool) (piece : List Declared)
    → ((entity : Entity) → (entity.id.module == m) ≡ true → one entity ≡ other entity)
    → list_all (λ (d : Declared). d.entity.id.module == m) piece ≡ true
    → those one (standing_in hidden piece) ≡ those other (standing_in hidden piece)
those-agree m one other [] piece agree inside = refl
those-agree m one other (h ∷ hidden) [] agree inside = refl
those-agree m one other (true ∷ hidden) (d ∷ piece) agree inside =
    those-agree m one other hidden piece agree (and_parts (d.entity.id.module == m) _ inside).1
those-agree m one other (false ∷ hidden) (d ∷ piece) agree inside =
    let apart = and_parts (d.entity.id.module == m) (list_all (λ (d : Declared). d.entity.id.module == m) piece)
    inside in
    let later = those-agree m one other hidden piece agree apart.1 in
    λ k. if agree d.entity apart.0 k then d ∷ later k else later k

none-passes : (entities : List Declared) → those (λ entity. false) entities ≡ []
none-passes [] = refl
none-passes (one ∷ others) = none-passes others

those-append : (test : Entity → Bool) (one other : List Declared)
    → those test (one ++ other) ≡ those test one ++ those test other
those-append test one other = filter-append (λ (d : Declared). test d.entity) one other

-- what is seen of a module that has a table
seen-piece : (world : World) (m : ℕ) (tables : List Table) (pieces : List (List Declared)) (table : Table)
    (piece : List Declared) (reach : Reach) (name : List ℕ) (used all : Bool)
    → slice_get tables reach.module ≡ Some table → slice_get pieces reach.module ≡ Some piece
    → IsTable world m piece table
    → map (declared_at pieces) (seen_in (slice_get tables reach.module) reach name used all)
    ≡ map Some (those (is_seen name reach used all) (standing_in table.hidden.items piece))
seen-piece world m tables pieces table piece reach name used all at there is =
    let found = filter (sees_at table reach used all) (indices_of table.own name) in
    ap (λ t. map (declared_at pieces) (seen_in t reach name used all)) at
    ∙ map-map (declared_at pieces) (placed reach.module) found
    ∙ ap (λ t. map (declared_in t) found) there
    ∙ ap (λ own. map (slice_get piece) (filter (sees_at table reach used all) (indices_of own name))) is.own
    ∙ seen-from table reach name used all (slice_get piece) 0 piece table.hidden.items
    (λ j. ap (slice_get table.own) (start j) ∙ ap (λ own. slice_get own j) is.own)
    (λ j. ap (slice_get piece) (start j))
    (λ j. ap (λ k. slice_index_or table.hidden.items k true) (start j)) is.hidden
  where
    start : (j : ℕ) → 0 + j ≡ j
    start j = omega arith

pub ordered-weaken : (k j : ℕ) (reaches : List Reach) → k ≤ j → Ordered j reaches → Ordered k reaches
ordered-weaken k j [] less ordered = tt
ordered-weaken k j (reach ∷ reaches) less ordered = (omega (arith, less, ordered.0), ordered.1)

-- past the last table nothing is seen
none-past : (tables : List Table) (k : ℕ) (reaches : List Reach) (name : List ℕ) (used all : Bool)
    → ((j : ℕ) → slice_get tables (k + j) ≡ None) → Ordered k reaches
    → flat_map (λ (reach : Reach). seen_in (slice_get tables reach.module) reach name used all) reaches ≡ []
none-past tables k [] name used all past ordered = refl
none-past tables k (reach ∷ reaches) name used all past ordered =
    let e : reach.module ≡ k + (reach.module - k) = omega (arith, ordered.0) in
    (λ i. seen_in ((ap (slice_get tables) e ∙ past (reach.module - k)) i) reach name used all
    ++ flat_map (λ (reach : Reach). seen_in (slice_get tables reach.module) reach name used all) reaches)
    ∙ none-past tables k reaches name used all past
    (ordered-weaken k (suc reach.module) reaches (omega (arith, ordered.0)) ordered.1)

not-among : (k : ℕ) (reaches : List Reach) → Ordered (suc k) reaches
    → list_any (λ (reach : Reach). reach.module == k) reaches ≡ false
not-among k [] ordered = refl
not-among k (reach ∷ reaches) ordered =
    or_from (reach.module == k) (list_any (λ (reach : Reach). reach.module == k) reaches)
    (ne_eqb reach.module k (λ e. omega (arith, e, ordered.0)))
    (not-among k reaches (ordered-weaken (suc k) (suc reach.module) reaches (omega (arith, ordered.0)) ordered.1))

-- what some reaches see, and what is left of the entities from an index on
abbrev pub see_all : List Table → List (List Declared) → List ℕ → Bool → Bool → List Reach → List (Option Declared)
see_all tables pieces name used all reaches =
    map (declared_at pieces)
    (flat_map (λ (reach : Reach). seen_in (slice_get tables reach.module) reach name used all) reaches)

abbrev IsElsewhere : ℕ → (Entity → Bool) → List Reach → Type 0
IsElsewhere k test reaches =
    (entity : Entity) → k ≤ entity.id.module
    → list_any (λ (reach : Reach). reach.module == entity.id.module) reaches ≡ false → test entity ≡ false

-- no entity of a module that isn't reached passes
nothing-of : (world : World) (test : Entity → Bool) (k : ℕ) (t : Table) (p : List Declared) (reaches : List Reach)
    → IsTable world k p t → IsElsewhere k test reaches
    → list_any (λ (reach : Reach). reach.module == k) reaches ≡ false
    → map Some (those test (standing_in t.hidden.items p)) ≡ []
nothing-of world test k t p reaches is other apart =
    ap (map Some)
    (those-agree k test (λ entity. false) t.hidden.items p
    (λ entity own.
    let e = eqb-true entity.id.module k own in
    other entity (omega (arith, e))
    (ap (λ m. list_any (λ (reach : Reach). reach.module == m) reaches) e ∙ apart))
    is.inside
    ∙ none-passes (standing_in t.hidden.items p))

both-told : (test : Entity → Bool) (one other : List Declared)
    → map Some (those test (one ++ other)) ≡ map Some (those test one) ++ map Some (those test other)
both-told test one other =
    ap (map Some) (those-append test one other) ∙ map-append Some (those test one) (those test other)

-- one more table, where the others are done
one-table : (world : World) (tables : List Table) (pieces : List (List Declared)) (name : List ℕ) (used all : Bool)
    (test : Entity → Bool) (k : ℕ) (t : Table) (p : List Declared) (rest : List Declared) (reaches : List Reach)
    → IsTable world k p t → slice_get tables k ≡ Some t → slice_get pieces k ≡ Some p → Ordered k reaches
    → Agree test (λ reach. is_seen name reach used all) reaches → IsElsewhere k test reaches
    → ((others : List Reach) → Ordered (suc k) others → Agree test (λ reach. is_seen name reach used all) others
    → IsElsewhere (suc k) test others → see_all tables pieces name used all others ≡ map Some (those test rest))
    → see_all tables pieces name used all reaches ≡ map Some (those test (standing_in t.hidden.items p ++ rest))
one-table world tables pieces name used all test k t p rest [] is at there ordered agree other done =
    done [] tt tt (λ entity less apart. other entity (omega (arith, less)) apart)
    ∙ sym (both-told test (standing_in t.hidden.items p) rest
    ∙ ap (λ l. l ++ map Some (those test rest)) (nothing-of world test k t p [] is other refl))
one-table world tables pieces name used all test k t p rest (reach ∷ reaches) is at there ordered agree other done =
    by (reach.module == k) refl
  where
    here : reach.module ≡ k → see_all tables pieces name used all (reach ∷ reaches)
        ≡ map Some (those test (standing_in t.hidden.items p ++ rest))
    here e =
        map-append (declared_at pieces) (seen_in (slice_get tables reach.module) reach name used all)
        (flat_map (λ (reach : Reach). seen_in (slice_get tables reach.module) reach name used all) reaches)
        ∙ (λ i. (seen-piece world k tables pieces t p reach name used all (ap (slice_get tables) e ∙ at)
        (ap (slice_get pieces) e ∙ there) is
        ∙ ap (map Some) (those-agree k (is_seen name reach used all) test t.hidden.items p
        (λ entity own. agree.0 entity (ap (λ m. entity.id.module == m) e ∙ own)) is.inside)) i
        ++ done reaches (ordered-weaken (suc k) (suc reach.module) reaches (omega (arith, e)) ordered.1) agree.1
        (λ entity less apart. other entity (omega (arith, less))
        (or_from (reach.module == entity.id.module)
        (list_any (λ (reach : Reach). reach.module == entity.id.module) reaches)
        (ne_eqb reach.module entity.id.module (λ same. omega (arith, same, e, less))) apart)) i)
        ∙ sym (both-told test (standing_in t.hidden.items p) rest)

    later : (reach.module ≡ k → ⊥) → see_all tables pieces name used all (reach ∷ reaches)
        ≡ map Some (those test (standing_in t.hidden.items p ++ rest))
    later apart =
        let less : suc k ≤ reach.module = omega (arith, ordered.0, apart) in
        done (reach ∷ reaches) (less, ordered.1) agree
        (λ entity above missing. other entity (omega (arith, above)) missing)
        ∙ sym (both-told test (standing_in t.hidden.items p) rest
        ∙ ap (λ l. l ++ map Some (those test rest))
        (nothing-of world test k t p (reach ∷ reaches) is other (not-among k (reach ∷ reaches) (less, ordered.1))))

    by : (b : Bool) → (reach.module == k) ≡ b → see_all tables pieces name used all (reach ∷ reaches)
        ≡ map Some (those test (standing_in t.hidden.items p ++ rest))
    by true e = here (eqb-true reach.module k e)
    by false e = later (eqb-false reach.module k e)

pub assembled : (world : World) (tables : List Table) (pieces : List (List Declared)) (name : List ℕ) (used all : Bool)
    (test : Entity → Bool) (k : ℕ)
    (ts : List Table) (ps : List (List Declared)) (reaches : List Reach)
    → AreTables world k ts ps → ((j : ℕ) → slice_get tables (k + j) ≡ slice_get ts j)
    → ((j : ℕ) → slice_get pieces (k + j) ≡ slice_get ps j) → Ordered k reaches
    → Agree test (λ reach. is_seen name reach used all) reaches → IsElsewhere k test reaches
    → see_all tables pieces name used all reaches ≡ map Some (those test (open_pieces ts ps))
assembled world tables pieces name used all test k [] [] reaches are suffix past ordered agree other =
    ap (map (declared_at pieces)) (none-past tables k reaches name used all suffix ordered)
assembled world tables pieces name used all test k [] (p ∷ ps) reaches are suffix past ordered agree other = absurd are
assembled world tables pieces name used all test k (t ∷ ts) [] reaches are suffix past ordered agree other = absurd are
assembled world tables pieces name used all test k (t ∷ ts) (p ∷ ps) reaches are suffix past ordered agree other =
    one-table world tables pieces name used all test k t p (open_pieces ts ps) reaches are.0
    (ap (slice_get tables) start ∙ suffix 0) (ap (slice_get pieces) start ∙ past 0) ordered agree other
    (λ others order agrees elsewhere.
    assembled world tables pieces name used all test (suc k) ts ps others are.1
    (λ j. ap (slice_get tables) (next j) ∙ suffix (suc j))
    (λ j. ap (slice_get pieces) (next j) ∙ past (suc j)) order agrees elsewhere)
  where
    start : k ≡ k + 0
    start = omega arith

    next : (j : ℕ) → suc k + j ≡ k + suc j
    next j = omega arith

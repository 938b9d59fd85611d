-- What is found in the tables of a set is what its names find.
use Rattle.std.proofs.Common.{◌≡◌, ◌∙◌, ◌+◌, ◌<◌, ◌≤◌, ◌++◌, ◌∷◌, ◌==◌, ◌&&◌, ◌||◌, not, [], ℕ, suc, zero, Bool}
use Rattle.std.proofs.Common.{true, false, List, Option, Some, option_map, refl, sym, ap, subst, slice_get}
use Rattle.std.proofs.Common.{slice_index_or, map, filter, length, arith, ltb}
use Rattle.std.specs.Prelude.{if◌then◌else◌}
use Rattle.std.specs.List.{list_any, list_all, flat_map}
use Rattle.std.specs.Str.{bytes_eq}
use Rattle.std.proofs.lemmas.Bool.{and_parts, or_from, eqb-true, ne_eqb, ltb-true, ltb-false, and_right}
use Rattle.std.proofs.Math.Bool.{or-false}
use Rattle.std.proofs.lemmas.Option.{same_Some, none-some, slice_get-map}
use Rattle.std.proofs.lemmas.Simd.{map-map}
use Rattle.mdl_syntax.specs.declared.names.NameForm.{NameForm}
use Rattle.mdl_syntax.specs.declared.names.NameForm.TheVariants as form
use Rattle.module_set.specs.declared.module_name.ModuleName.{ModuleName}
use Rattle.scope_tables.specs.declared.entity.Entity.{Entity}
use Rattle.scope_tables.specs.declared.reach.Reach.{Reach}
use Rattle.scope_tables.specs.declared.tables.Table.{Table}
use Rattle.scope_tables.specs.declared.tables.Place.{Place}
use Rattle.scope_tables.specs.Entities.{Declared}
use Rattle.scope_tables.specs.Visible.{World, brought_at, name_at, no_name, brings, uses, is_within, is_near, is_far}
use Rattle.scope_tables.specs.Visible.{is_given, fits, those, found, found_parts, found_near, found_far, or_else}
use Rattle.scope_tables.specs.Visible.{texts, last_part, front_parts, word_text}
use Rattle.scope_tables.specs.inside.Reaching.{AreReaches}
use Rattle.scope_tables.specs.inside.Finding.{entity_of, entity_at, seen_in, reaches_of, near_places, far_in}
use Rattle.scope_tables.specs.inside.Finding.{far_places, fits_name, first_of, parts_places, found_places}
use Rattle.scope_core.specs.inside.Rounds.{declared_in, declared_at}
use Rattle.scope_core.specs.inside.Holding.{open_pieces, IsTable, AreTables, Hold}
use Rattle.scope_core.proofs.HoldLaws.{is_seen, see_all, assembled}
use Rattle.scope_core.proofs.WithinLaws.{has-within, are-ordered, ordered-kept, agree-kept, kept-all}
use Rattle.scope_core.proofs.WithinLaws.{none-within, uses-from, brings-from}
use Rattle.scope_tables.proofs.MemberLaws.{nil-cons, there-is, all-at}

-- the tables at an index
pub table-at : (world : World) (k : ℕ) (tables : List Table) (pieces : List (List Declared)) (m : ℕ) (table : Table)
    → AreTables world k tables pieces → slice_get tables m ≡ Some table
    → (piece : List Declared) × (slice_get pieces m ≡ Some piece) × IsTable world (k + m) piece table
table-at world k [] pieces m table are at = absurd (none-some table at)
table-at world k (one ∷ tables) [] m table are at = absurd are
table-at world k (one ∷ tables) (piece ∷ pieces) zero table are at =
    let here : k ≡ k + 0 = omega arith in (
      piece,
      refl,
      subst (λ n. IsTable world n piece table) here
          (subst (IsTable world k piece) (same_Some one table at) are.0),
    )
table-at world k (one ∷ tables) (piece ∷ pieces) (suc m) table are at =
    let there : suc k + m ≡ k + suc m = omega arith in
    let later = table-at world (suc k) tables pieces m table are.1 at in
    (later.0, later.1, subst (λ n. IsTable world n later.0 table) there later.2)

pub reaches-at : (world : World) (tables : List Table) (pieces : List (List Declared)) (m : ℕ) (table : Table)
    → AreTables world 0 tables pieces → slice_get tables m ≡ Some table
    → AreReaches m (brought_at world m) table.reaches.items
reaches-at world tables pieces m table are at =
    let e : 0 + m ≡ m = omega arith in
    subst (λ n. AreReaches n (brought_at world n) table.reaches.items) e
    (table-at world 0 tables pieces m table are at).2.reaches

pub near-found : (world : World) (tables : List Table) (pieces : List (List Declared)) (m : ℕ) (name : List ℕ)
    (all : Bool) (table : Table) → AreTables world 0 tables pieces → slice_get tables m ≡ Some table
    → map (declared_at pieces) (near_places tables m name all)
    ≡ map Some (those (is_near all world m name) (open_pieces tables pieces))
near-found world tables pieces m name all table are at =
    ap (λ t. see_all tables pieces name true all (reaches_of t)) at
    ∙ ap (see_all tables pieces name true all) (sym (kept-all table.reaches.items))
    ∙ assembled world tables pieces name true all (is_near all world m name) 0 tables pieces
    (filter (λ reach. true) table.reaches.items) are (λ j. ap (slice_get tables) (start j))
    (λ j. ap (slice_get pieces) (start j))
    (ordered-kept 0 (λ reach. true) table.reaches.items
    (are-ordered m (brought_at world m) table.reaches.items reach))
    (agree-kept (λ reach. true) (is_near all world m name) (λ reach. is_seen name reach true all) table.reaches.items
    (λ j one at kept entity here. ap (λ b. bytes_eq name entity.name && b)
    (has-within m (brought_at world m) one entity all world refl (reach.own_is j one at) (reach.tells j one at)
    here).0))
    (λ entity above apart. and_right (bytes_eq name entity.name) (is_within all uses world m entity)
    (none-within m (brought_at world m) table.reaches.items world all uses entity refl reach (uses-from entity)
    (sym (ap (list_any (λ (reach : Reach). reach.module == entity.id.module)) (kept-all table.reaches.items))
    ∙ apart)))
  where
    reach : AreReaches m (brought_at world m) table.reaches.items
    reach = reaches-at world tables pieces m table are at

    start : (j : ℕ) → 0 + j ≡ j
    start j = omega arith

-- the name of a module that there is
fits-at : (absolute : Bool) (front : List (List ℕ)) (names : List ModuleName) (m : ℕ) → m < length names
    → fits_name (slice_get names m) absolute front ≡ fits absolute front (slice_index_or names m no_name).parts
fits-at absolute front [] m within = absurd (omega (arith, within))
fits-at absolute front (name ∷ names) zero within = refl
fits-at absolute front (name ∷ names) (suc m) within = fits-at absolute front names m (omega (arith, within))

kept-flat : (keep : Reach → Bool) (f : Reach → List Place) (reaches : List Reach)
    → flat_map (λ reach. if keep reach then f reach else []) reaches ≡ flat_map f (filter keep reaches)
kept-flat keep f [] = refl
kept-flat keep f (reach ∷ reaches) = by (keep reach) (kept-flat keep f reaches)
  where
    by : (b : Bool) → flat_map (λ reach. if keep reach then f reach else []) reaches ≡ flat_map f (filter keep reaches)
        → (if b then f reach else []) ++ flat_map (λ reach. if keep reach then f reach else []) reaches
        ≡ flat_map f (if b then reach ∷ filter keep reaches else filter keep reaches)
    by true later = ap (λ l. f reach ++ l) later
    by false later = later

any-kept : (keep : ℕ → Bool) (n : ℕ) (reaches : List Reach)
    → list_any (λ (reach : Reach). reach.module == n) (filter (λ (reach : Reach). keep reach.module) reaches)
    ≡ (keep n && list_any (λ (reach : Reach). reach.module == n) reaches)
any-kept keep n [] = sym (and_right (keep n) false refl)
any-kept keep n (reach ∷ reaches) =
    by (reach.module == n) refl (keep reach.module) refl (any-kept keep n reaches)
  where
    kept : List Reach
    kept = filter (λ (reach : Reach). keep reach.module) reaches

    any : List Reach → Bool
    any = list_any (λ (reach : Reach). reach.module == n)

    here : (k : Bool) → keep n ≡ k → any kept ≡ (k && any reaches)
        → list_any (λ (reach : Reach). reach.module == n) (if k then reach ∷ kept else kept)
        ≡ (k && ((reach.module == n) || any reaches))
    here true is later = ap (λ b. (reach.module == n) || b) later
    here false is later = later

    apart : (k : Bool) → any kept ≡ (keep n && any reaches)
        → list_any (λ (reach : Reach). reach.module == n) (if k then reach ∷ kept else kept)
        ≡ (if k then (reach.module == n) || (keep n && any reaches) else (keep n && any reaches))
    apart true later = ap (λ b. (reach.module == n) || b) later
    apart false later = later

    by : (same : Bool) → (reach.module == n) ≡ same → (k : Bool) → keep reach.module ≡ k
        → any kept ≡ (keep n && any reaches)
        → list_any (λ (reach : Reach). reach.module == n) (if keep reach.module then reach ∷ kept else kept)
        ≡ (keep n && ((reach.module == n) || any reaches))
    by true same k is later =
        let e = eqb-true reach.module n same in
        ap (λ m. list_any (λ (reach : Reach). reach.module == n) (if keep m then reach ∷ kept else kept)) e
        ∙ here (keep n) refl later
    by false same true is later =
        ap (λ b. list_any (λ (reach : Reach). reach.module == n) (if b then reach ∷ kept else kept)) is
        ∙ apart true later ∙ ap (λ b. b || (keep n && any reaches)) same
        ∙ ap (λ b. keep n && (b || any reaches)) (sym same)
    by false same false is later =
        ap (λ b. list_any (λ (reach : Reach). reach.module == n) (if b then reach ∷ kept else kept)) is
        ∙ later ∙ ap (λ b. keep n && (b || any reaches)) (sym same)

none-there : (n count : ℕ) (reaches : List Reach) → list_all (λ (reach : Reach). ltb reach.module count) reaches ≡ true
    → count ≤ n → list_any (λ (reach : Reach). reach.module == n) reaches ≡ false
none-there n count [] within past = refl
none-there n count (reach ∷ reaches) within past =
    let both = and_parts (ltb reach.module count) (list_all (λ (reach : Reach). ltb reach.module count) reaches)
    within in
    let less = ltb-true reach.module count both.0 in
    or_from (reach.module == n) (list_any (λ (reach : Reach). reach.module == n) reaches)
    (ne_eqb reach.module n (λ e. omega (arith, e, less, past)))
    (none-there n count reaches both.1 past)

pub far-found : (world : World) (tables : List Table) (pieces : List (List Declared)) (m : ℕ) (absolute : Bool)
    (front : List (List ℕ)) (name : List ℕ) (all : Bool) (table : Table) → AreTables world 0 tables pieces
    → slice_get tables m ≡ Some table
    → list_all (λ (reach : Reach). ltb reach.module (length world.names)) table.reaches.items ≡ true
    → map (declared_at pieces) (far_places world.names tables m absolute front name all)
    ≡ map Some (those (is_far all world m absolute front name) (open_pieces tables pieces))
far-found world tables pieces m absolute front name all table are at within =
    ap (λ t. map (declared_at pieces) (flat_map (far_in world.names tables absolute front name all) (reaches_of t))) at
    ∙ ap (map (declared_at pieces)) (kept-flat (λ reach. keep reach.module)
    (λ reach. seen_in (slice_get tables reach.module) reach name false all) table.reaches.items)
    ∙ assembled world tables pieces name false all (is_far all world m absolute front name) 0 tables pieces
    (filter (λ (reach : Reach). keep reach.module) table.reaches.items) are (λ j. ap (slice_get tables) (start j))
    (λ j. ap (slice_get pieces) (start j))
    (ordered-kept 0 (λ reach. keep reach.module) table.reaches.items
    (are-ordered m (brought_at world m) table.reaches.items reach))
    (agree-kept (λ reach. keep reach.module) (is_far all world m absolute front name)
    (λ reach. is_seen name reach false all) table.reaches.items
    (λ j one is kept entity here.
    let e = eqb-true entity.id.module one.module here in
    let below = there j one is in
    ap (λ b. bytes_eq name entity.name && b)
    ((has-within m (brought_at world m) one entity all world refl (reach.own_is j one is) (reach.tells j one is)
    here).1
    ∙ ap (λ b. b && is_within all brings world m entity)
    (sym (ap (λ n. fits absolute front (slice_index_or world.names n no_name).parts) e
    ∙ sym (fits-at absolute front world.names one.module below) ∙ kept)))))
    (λ entity above apart. and_right (bytes_eq name entity.name)
    (fits absolute front (name_at world entity.id.module).parts && is_within all brings world m entity)
    (by entity (keep entity.id.module) refl
    (sym (any-kept keep entity.id.module table.reaches.items) ∙ apart)))
  where
    keep : ℕ → Bool
    keep n = fits_name (slice_get world.names n) absolute front

    reach : AreReaches m (brought_at world m) table.reaches.items
    reach = reaches-at world tables pieces m table are at

    start : (j : ℕ) → 0 + j ≡ j
    start j = omega arith

    there : (j : ℕ) (one : Reach) → slice_get table.reaches.items j ≡ Some one → one.module < length world.names
    there j one is = ltb-true one.module (length world.names) (all-at _ table.reaches.items j one within is)

    unseen : (entity : Entity)
        → list_any (λ (reach : Reach). reach.module == entity.id.module) table.reaches.items ≡ false
        → (fits absolute front (name_at world entity.id.module).parts && is_within all brings world m entity) ≡ false
    unseen entity none = and_right (fits absolute front (name_at world entity.id.module).parts)
        (is_within all brings world m entity)
        (none-within m (brought_at world m) table.reaches.items world all brings entity refl reach
        (brings-from entity) none)

    by : (entity : Entity) (k : Bool) → keep entity.id.module ≡ k
        → (keep entity.id.module
        && list_any (λ (reach : Reach). reach.module == entity.id.module) table.reaches.items) ≡ false
        → (fits absolute front (name_at world entity.id.module).parts && is_within all brings world m entity) ≡ false
    by entity true is none =
        unseen entity
        (ap (λ b. b && list_any (λ (reach : Reach). reach.module == entity.id.module) table.reaches.items) (sym is)
        ∙ none)
    by entity false is none = past (ltb entity.id.module (length world.names)) refl
      where
        past : (b : Bool) → ltb entity.id.module (length world.names) ≡ b
            → (fits absolute front (name_at world entity.id.module).parts && is_within all brings world m entity)
            ≡ false
        past true less =
            ap (λ b. b && is_within all brings world m entity)
            (sym (fits-at absolute front world.names entity.id.module (ltb-true _ _ less)) ∙ is)
        past false more =
            unseen entity
            (none-there entity.id.module (length world.names) table.reaches.items within (ltb-false _ _ more))

those-same : (one other : Entity → Bool) (entities : List Declared) → ((entity : Entity) → one entity ≡ other entity)
    → those one entities ≡ those other entities
those-same one other [] same = refl
those-same one other (d ∷ entities) same =
    λ k. if same d.entity k then d ∷ those-same one other entities same k else those-same one other entities same k

-- the prelude brings nothing
given-near : (world : World) (name : List ℕ) (all : Bool) (entity : Entity) → brought_at world (length world.names) ≡ []
    → is_near all world (length world.names) name entity ≡ is_given world name entity
given-near world name all entity alone =
    ap (λ b. bytes_eq name entity.name && ((entity.id.module == length world.names) || ((all || entity.exported) && b)))
    (ap (list_any (uses entity)) alone)
    ∙ ap (λ b. bytes_eq name entity.name && ((entity.id.module == length world.names) || b))
    (and_right (all || entity.exported) false refl)
    ∙ ap (λ b. bytes_eq name entity.name && b) (or-false (entity.id.module == length world.names))

first-told : (f : Place → Option Declared) (one other : List Place) (a b : List Declared) → map f one ≡ map Some a
    → map f other ≡ map Some b → map f (first_of one other) ≡ map Some (or_else a b)
first-told f [] other [] b first second = second
first-told f [] other (d ∷ a) b first second = absurd (nil-cons (Some d) (map Some a) first)
first-told f (p ∷ one) other [] b first second = absurd (nil-cons (f p) (map f one) (sym first))
first-told f (p ∷ one) other (d ∷ a) b first second = first

has-table : (world : World) (tables : List Table) (m : ℕ) → length tables ≡ suc (length world.names)
    → m ≤ length world.names → (table : Table) × (slice_get tables m ≡ Some table)
has-table world tables m count within = there-is tables m (omega (arith, count, within))

-- a name finds in the tables the places of what it finds among the entities that they hold
pub places-are : (world : World) (tables : List Table) (pieces : List (List Declared)) (m : ℕ) (name : NameForm)
    (all : Bool)
    → Hold world tables pieces → m < length world.names
    → map (declared_at pieces) (found_places world.names tables m name all)
    ≡ map Some (found all world (open_pieces tables pieces) m name)
places-are world tables pieces m (form.Word word) all hold inside =
    let prelude = has-table world tables (length world.names) hold.count (omega arith) in
    near-found world tables pieces (length world.names) (word_text word) all prelude.0 hold.are prelude.1
    ∙ ap (map Some)
    (those-same (is_near all world (length world.names) (word_text word)) (is_given world (word_text word))
    (open_pieces tables pieces) (λ entity. given-near world (word_text word) all entity hold.alone))
places-are world tables pieces m (form.Parts absolute parts) all hold inside = by (texts parts)
  where
    by : (parts : List (List ℕ)) → map (declared_at pieces) (parts_places world.names tables m absolute parts all)
        ≡ map Some (found_parts all world (open_pieces tables pieces) m absolute parts)
    by [] = refl
    by (part ∷ parts) = either (not absolute && (length (part ∷ parts) == 1))
      where
        name : List ℕ
        name = last_part (part ∷ parts)

        front : List (List ℕ)
        front = front_parts (part ∷ parts)

        near : map (declared_at pieces)
            (first_of (near_places tables m name all) (near_places tables (length world.names) name all))
            ≡ map Some (found_near all world (open_pieces tables pieces) m name)
        near =
            let own = has-table world tables m hold.count (omega (arith, inside)) in
            let prelude = has-table world tables (length world.names) hold.count (omega arith) in
            first-told (declared_at pieces) (near_places tables m name all)
            (near_places tables (length world.names) name all)
            (those (is_near all world m name) (open_pieces tables pieces))
            (those (is_given world name) (open_pieces tables pieces))
            (near-found world tables pieces m name all own.0 hold.are own.1)
            (near-found world tables pieces (length world.names) name all prelude.0 hold.are prelude.1
            ∙ ap (map Some) (those-same (is_near all world (length world.names) name) (is_given world name)
            (open_pieces tables pieces) (λ entity. given-near world name all entity hold.alone)))

        far : map (declared_at pieces) (far_places world.names tables m absolute front name all)
            ≡ map Some (found_far all world (open_pieces tables pieces) m absolute (part ∷ parts))
        far =
            let own = has-table world tables m hold.count (omega (arith, inside)) in
            far-found world tables pieces m absolute front name all own.0 hold.are own.1
            (hold.within m own.0 inside own.1)

        either : (b : Bool)
            → map (declared_at pieces) (if b
            then first_of (near_places tables m name all) (near_places tables (length world.names) name all)
            else far_places world.names tables m absolute front name all)
            ≡ map Some (if b then found_near all world (open_pieces tables pieces) m name
            else found_far all world (open_pieces tables pieces) m absolute (part ∷ parts))
        either true = near
        either false = far

-- the tables have the entity that stands at a place
pub entity-is : (world : World) (k : ℕ) (tables : List Table) (pieces : List (List Declared)) (n i : ℕ)
    → AreTables world k tables pieces
    → entity_of (slice_get tables n) i
    ≡ option_map (λ (one : Declared). one.entity) (declared_in (slice_get pieces n) i)
entity-is world k [] [] n i are = refl
entity-is world k [] (p ∷ ps) n i are = absurd are
entity-is world k (t ∷ ts) [] n i are = absurd are
entity-is world k (t ∷ ts) (p ∷ ps) zero i are =
    ap (λ own. slice_get own i) are.0.own ∙ slice_get-map (λ (one : Declared). one.entity) p i
entity-is world k (t ∷ ts) (p ∷ ps) (suc n) i are = entity-is world (suc k) ts ps n i are.1

abbrev pub told : Declared → Option Entity
told one = Some one.entity

pub told-at : (world : World) (tables : List Table) (pieces : List (List Declared)) (places : List Place)
    (found : List Declared) → AreTables world 0 tables pieces → map (declared_at pieces) places ≡ map Some found
    → map (entity_at tables) places ≡ map told found
told-at world tables pieces places found are same = at places ∙ ap (map inner) same ∙ map-map inner Some found
  where
    inner : Option Declared → Option Entity
    inner = option_map (λ (one : Declared). one.entity)

    at : (places : List Place) → map (entity_at tables) places ≡ map inner (map (declared_at pieces) places)
    at [] = refl
    at (place ∷ places) = λ k. entity-is world 0 tables pieces place.module place.index are k ∷ at places k

-- what a name finds in the tables, as entities
pub found-is : (world : World) (tables : List Table) (pieces : List (List Declared)) (m : ℕ) (name : NameForm)
    (all : Bool)
    → Hold world tables pieces → m < length world.names
    → map (entity_at tables) (found_places world.names tables m name all)
    ≡ map told (found all world (open_pieces tables pieces) m name)
found-is world tables pieces m name all hold inside =
    told-at world tables pieces (found_places world.names tables m name all)
    (found all world (open_pieces tables pieces) m name) hold.are
    (places-are world tables pieces m name all hold inside)

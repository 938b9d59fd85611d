-- What is looked for in tables is what a name means.
use Rattle.std.proofs.Common.{◌≡◌, ◌∙◌, ◌∷◌, ◌<◌, [], ℕ, Bool, true, false, List, Option, map, refl, ap}
use Rattle.std.proofs.Common.{length}
use Rattle.std.specs.Prelude.{if◌then◌else◌}
use Rattle.std.specs.List.{filter_map, cons_option}
use Rattle.mdl_syntax.specs.declared.names.NameForm.{NameForm}
use Rattle.scope_tables.specs.declared.entity.Entity.{Entity}
use Rattle.scope_tables.specs.declared.tables.Table.{Table}
use Rattle.scope_tables.specs.declared.tables.Place.{Place}
use Rattle.scope_tables.specs.declared.looked.Looked.TheVariants as looked
use Rattle.scope_tables.specs.Entities.{Declared}
use Rattle.scope_tables.specs.Visible.{World, found, look, judged, missing, are_overloads, ids}
use Rattle.scope_tables.specs.inside.Finding.{entity_at, found_places}
use Rattle.scope_tables.specs.inside.Kinds.{kinds_among, go_together, answer, ids_among, missing_among}
use Rattle.scope_tables.specs.inside.Kinds.{looked_among}
use Rattle.scope_core.specs.inside.Holding.{Hold, open_pieces}
use Rattle.scope_tables.proofs.KindLaws.{names_of, overloads-are}
use Rattle.scope_core.proofs.FoundIsLaws.{told, found-is}

filter-told : (f : Place → Option Entity) (places : List Place) (found : List Declared) → map f places ≡ map told found
    → filter_map f places ≡ names_of found
filter-told f places found same = of-map places ∙ ap joined same ∙ of-told found
  where
    joined : List (Option Entity) → List Entity
    joined = filter_map (λ one. one)

    of-map : (places : List Place) → filter_map f places ≡ joined (map f places)
    of-map [] = refl
    of-map (place ∷ places) = ap (cons_option (f place)) (of-map places)

    of-told : (found : List Declared) → joined (map told found) ≡ names_of found
    of-told [] = refl
    of-told (one ∷ found) = ap (λ l. one.entity ∷ l) (of-told found)

ids-are : (found : List Declared) → ids_among (names_of found) ≡ ids found
ids-are [] = refl
ids-are (one ∷ found) = ap (λ l. one.entity.id ∷ l) (ids-are found)

missing-is : (hidden : List Declared) → missing_among (names_of hidden) ≡ missing hidden
missing-is [] = refl
missing-is (one ∷ hidden) = refl

judged-is : (found hidden : List Declared) → looked_among (names_of found) (names_of hidden) ≡ judged found hidden
judged-is [] hidden = missing-is hidden
judged-is (one ∷ []) hidden = by (go_together (kinds_among (one.entity ∷ [])))
  where
    by : (b : Bool) → answer b (one.entity.id ∷ []) ≡ looked.Found (one.entity.id ∷ [])
    by true = refl
    by false = refl
judged-is (one ∷ other ∷ more) hidden =
    ap (λ b. answer b (ids_among (names_of (one ∷ other ∷ more)))) (overloads-are (one ∷ other ∷ more))
    ∙ by (are_overloads (one ∷ other ∷ more))
  where
    by : (b : Bool) → answer b (ids_among (names_of (one ∷ other ∷ more)))
        ≡ (if b then looked.Found (ids (one ∷ other ∷ more)) else looked.Clash one.entity.id other.entity.id)
    by true = ap looked.Found (ids-are (one ∷ other ∷ more))
    by false = refl

pub look-is : (world : World) (tables : List Table) (pieces : List (List Declared)) (m : ℕ) (name : NameForm)
    → Hold world tables pieces → m < length world.names
    → looked_among (filter_map (entity_at tables) (found_places world.names tables m name false))
    (filter_map (entity_at tables) (found_places world.names tables m name true))
    ≡ look world (open_pieces tables pieces) m name
look-is world tables pieces m name hold inside =
    (λ k. looked_among (one false k) (one true k))
    ∙ judged-is (found false world (open_pieces tables pieces) m name)
    (found true world (open_pieces tables pieces) m name)
  where
    one : (all : Bool) → filter_map (entity_at tables) (found_places world.names tables m name all)
        ≡ names_of (found all world (open_pieces tables pieces) m name)
    one all = filter-told (entity_at tables) (found_places world.names tables m name all)
        (found all world (open_pieces tables pieces) m name) (found-is world tables pieces m name all hold inside)

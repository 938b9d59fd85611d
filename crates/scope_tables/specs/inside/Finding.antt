-- What a name finds in the tables of modules, as places.
use Rattle.std.specs.Prelude.{ℕ, ◌==◌, ◌&&◌, not, Bool, true, false, List, [], ◌∷◌, Option, Some, None}
use Rattle.std.specs.Prelude.{map, filter, length, slice_get, slice_index_or, if◌then◌else◌}
use Rattle.std.specs.List.{flat_map}
use Rattle.mdl_syntax.specs.declared.names.NameForm.{NameForm}
use Rattle.mdl_syntax.specs.declared.names.NameForm.TheVariants as form
use Rattle.module_set.specs.declared.module_name.ModuleName.{ModuleName}
use Rattle.scope_tables.specs.declared.entity.Entity.{Entity}
use Rattle.scope_tables.specs.declared.reach.Reach.{Reach}
use Rattle.scope_tables.specs.declared.tables.Table.{Table}
use Rattle.scope_tables.specs.declared.tables.Place.{Place}
use Rattle.scope_tables.specs.Visible.{fits, texts, front_parts, last_part, word_text}
use Rattle.scope_tables.specs.inside.Owning.{indices_of}
use Rattle.scope_tables.specs.inside.Reaching.{has_it}

abbrev pub placed : ℕ → ℕ → Place
placed m i = record { «module» = m; index = i }

abbrev pub entity_of : Option Table → ℕ → Option Entity
entity_of None i = None
entity_of (Some table) i = slice_get table.own i

abbrev pub entity_at : List Table → Place → Option Entity
entity_at tables place = entity_of (slice_get tables place.«module») place.index

abbrev pub is_hidden : Table → ℕ → Bool
is_hidden table i = slice_index_or table.hidden.items i true

-- an entity of a module that is reached isn't hidden, and is brought in this way
abbrev pub sees : Table → Reach → Bool → Bool → ℕ → Option Entity → Bool
sees table reach used all i None = false
sees table reach used all i (Some entity) = not (is_hidden table i) && has_it reach entity used all

abbrev pub sees_at : Table → Reach → Bool → Bool → ℕ → Bool
sees_at table reach used all i = sees table reach used all i (slice_get table.own i)

-- what is seen under a name of a module that is reached
abbrev pub seen_in : Option Table → Reach → List ℕ → Bool → Bool → List Place
seen_in None reach name used all = []
seen_in (Some table) reach name used all =
    map (placed reach.«module») (filter (sees_at table reach used all) (indices_of table.own name))

abbrev pub reaches_of : Option Table → List Reach
reaches_of None = []
reaches_of (Some table) = table.reaches.items

abbrev pub near_places : List Table → ℕ → List ℕ → Bool → List Place
near_places tables m name all =
    flat_map (λ (reach : Reach). seen_in (slice_get tables reach.«module») reach name true all)
    (reaches_of (slice_get tables m))

abbrev pub fits_name : Option ModuleName → Bool → List (List ℕ) → Bool
fits_name None absolute front = false
fits_name (Some name) absolute front = fits absolute front name.parts

abbrev pub far_in : List ModuleName → List Table → Bool → List (List ℕ) → List ℕ → Bool → Reach → List Place
far_in names tables absolute front name all reach =
    if fits_name (slice_get names reach.«module») absolute front
    then seen_in (slice_get tables reach.«module») reach name false all else []

abbrev pub far_places : List ModuleName → List Table → ℕ → Bool → List (List ℕ) → List ℕ → Bool → List Place
far_places names tables m absolute front name all =
    flat_map (far_in names tables absolute front name all) (reaches_of (slice_get tables m))

-- of two lists the first that has a member
abbrev pub first_of : List Place → List Place → List Place
first_of [] others = others
first_of (one ∷ more) others = one ∷ more

abbrev pub parts_places : List ModuleName → List Table → ℕ → Bool → List (List ℕ) → Bool → List Place
parts_places names tables m absolute [] all = []
parts_places names tables m absolute (part ∷ parts) all =
    if not absolute && (length (part ∷ parts) == 1)
    then first_of (near_places tables m (last_part (part ∷ parts)) all)
    (near_places tables (length names) (last_part (part ∷ parts)) all)
    else far_places names tables m absolute (front_parts (part ∷ parts)) (last_part (part ∷ parts)) all

-- all that a name finds
abbrev pub found_places : List ModuleName → List Table → ℕ → NameForm → Bool → List Place
found_places names tables m (form.Word word) all =
    near_places tables (length names) (word_text word) all
found_places names tables m (form.Parts absolute parts) all = parts_places names tables m absolute (texts parts) all

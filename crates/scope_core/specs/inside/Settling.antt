-- What entities take, as it is worked out.
use Rattle.std.specs.Prelude.{ℕ, ◌==◌, ◌&&◌, ◌||◌, not, Bool, true, false, List, [], ◌∷◌, Option, Some, None}
use Rattle.std.specs.Prelude.{filter, slice_get}
use Rattle.std.specs.Prelude.{slice_index_or}
use Rattle.std.specs.declared.vec.Vec.{Vec}
use Rattle.std.specs.declared.alloc.Global.{Global}
use Rattle.std.specs.Prelude.{if◌then◌else◌}
use Rattle.std.specs.List.{list_all}
use Rattle.module_set.specs.declared.module_name.ModuleName.{ModuleName}
use Rattle.scope_tables.specs.declared.declared.Takes as held_takes
use Rattle.scope_tables.specs.declared.declared.Takes.TheVariants as held
use Rattle.scope_tables.specs.declared.declared.Written.{Written}
use Rattle.scope_tables.specs.declared.entity.Entity.{Entity}
use Rattle.scope_tables.specs.declared.tables.Table.{Table}
use Rattle.scope_tables.specs.declared.tables.Place.{Place}
use Rattle.scope_core.specs.Standing.{is_prototype, is_definition}
use Rattle.scope_tables.specs.Types.{is_callable, has_deferred}
use Rattle.scope_tables.specs.inside.Finding.{entity_at, found_places}
use Rattle.scope_tables.specs.inside.Pieces.{takes_of}

abbrev pub takes_in : Option Written → ℕ → Option held_takes.Takes
takes_in None i = None
takes_in (Some written) i = slice_get written.takes.items i

abbrev pub takes_at : List Written → Place → Option held_takes.Takes
takes_at written place = takes_in (slice_get written place.«module») place.index

abbrev pub is_prototype_of : Option Entity → Bool
is_prototype_of None = false
is_prototype_of (Some entity) = is_prototype entity.sort

-- a prototype of the module itself
abbrev pub is_own_prototype : List Table → ℕ → Place → Bool
is_own_prototype tables m place = is_prototype_of (entity_at tables place) && (place.«module» == m)

-- those that are no prototypes of the module
abbrev pub others_of : List Table → ℕ → List Place → List Place
others_of tables m places = filter (λ place. not (is_own_prototype tables m place)) places

abbrev pub first_place : List Place → Option Place
first_place [] = None
first_place (one ∷ more) = Some one

abbrev pub has_more : List Place → Bool
has_more [] = false
has_more (one ∷ []) = false
has_more (one ∷ other ∷ more) = true

abbrev pub only_place : List Place → Option Place
only_place places = if has_more places then None else first_place places

-- the base that a variant may have
abbrev pub likely_base : List Table → ℕ → List Place → Option Place
likely_base tables m [] = only_place (others_of tables m [])
likely_base tables m (one ∷ []) = Some one
likely_base tables m (one ∷ other ∷ more) = only_place (others_of tables m (one ∷ other ∷ more))

-- the number of what an entity takes, as far as it is known
abbrev pub taken_in : Option (Vec (Option ℕ) Global) → ℕ → Option ℕ
taken_in None i = None
taken_in (Some taken) i = slice_index_or taken.items i None

abbrev pub taken_at : List (Vec (Option ℕ) Global) → Place → Option ℕ
taken_at taken place = taken_in (slice_get taken place.«module») place.index

abbrev pub same_number : Option ℕ → Option ℕ → Bool
same_number None None = true
same_number (Some a) (Some b) = a == b
same_number _ _ = false

abbrev pub same_place : Place → Place → Bool
same_place one other = (one.«module» == other.«module») && (one.index == other.index)

abbrev pub is_definition_of : Option Entity → Bool
is_definition_of None = false
is_definition_of (Some entity) = is_definition entity.sort

-- a function is the definition of a prototype of its name
abbrev pub defines_at : List Table → List (Vec (Option ℕ) Global) → Place → Place → Bool
defines_at tables taken place prototype =
    is_definition_of (entity_at tables place)
    && ((place.«module» == prototype.«module») && same_number (taken_at taken place) (taken_at taken prototype))

abbrev pub stands_alone : List Table → List (Vec (Option ℕ) Global) → Place → List Place → Bool
stands_alone tables taken base places =
    list_all (λ place. same_place place base || defines_at tables taken base place) places

-- the base that an entity may have
abbrev pub next_of : List ModuleName → List Table → ℕ → Option held_takes.Takes → Option Place
next_of names tables m (Some (held.Based name)) =
    likely_base tables m (found_places names tables m name.now.form false)
next_of names tables m _ = None

abbrev pub defers : Option held_takes.Takes → Bool
defers None = false
defers (Some takes) = has_deferred (takes_of takes)

-- a variant may stand on an entity
abbrev pub is_base_of : Option Entity → Option held_takes.Takes → Bool
is_base_of None takes = false
is_base_of (Some entity) takes = is_callable entity.sort && not (defers takes)

abbrev pub is_base_at : List Table → List Written → Place → Bool
is_base_at tables written place = is_base_of (entity_at tables place) (takes_at written place)

-- the number of what the base of an entity takes, if it is one
abbrev pub number_on : List Table → List Written → List (Vec (Option ℕ) Global) → List Place → Option Place → Option ℕ
number_on tables written taken found None = None
number_on tables written taken found (Some base) =
    if stands_alone tables taken base found && is_base_at tables written base then taken_at taken base else None

abbrev pub base_number : List ModuleName → List Table → List Written → List (Vec (Option ℕ) Global) → ℕ
    → Option held_takes.Takes → Option ℕ
base_number names tables written taken m (Some (held.Based name)) =
    number_on tables written taken (found_places names tables m name.now.form false)
    (likely_base tables m (found_places names tables m name.now.form false))
base_number names tables written taken m _ = None

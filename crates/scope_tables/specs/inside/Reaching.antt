-- What a module sees of one module, itself or one that it brings from.
use Rattle.std.specs.Prelude.{◌≡◌, ℕ, ◌==◌, ◌<◌, ◌&&◌, ◌||◌, Bool, true, false, List, [], ◌∷◌, ◌++◌, map}
use Rattle.std.specs.Prelude.{filter, slice_get, Some}
use Rattle.std.specs.List.{list_any, list_all}
use Rattle.std.specs.Str.{bytes_eq}
use Rattle.case_table.specs.Lists.{firsts}
use Rattle.mdl_syntax.specs.declared.names.Ident.{Ident}
use Rattle.scope_tables.specs.declared.brought.Names as held_names
use Rattle.scope_tables.specs.declared.brought.Names.TheVariants as held
use Rattle.scope_tables.specs.declared.brought.Bringing as held_bringing
use Rattle.scope_tables.specs.declared.entity.Entity.{Entity}
use Rattle.scope_tables.specs.declared.reach.Reach.{Reach}
use Rattle.scope_tables.specs.Brought.{Bringing}
use Rattle.scope_tables.specs.Visible.{lists}
use Rattle.scope_tables.specs.inside.Owning.{same_text}
use Rattle.std.specs.Prelude.{Option, None}

abbrev pub names_of : held_names.Names → Option (List Ident)
names_of held.All = None
names_of (held.One name) = Some (name.now ∷ [])
names_of (held.Listed names) = Some names.now

abbrev pub bringing_of : held_bringing.Bringing → Bringing
bringing_of bringing = record {
  from = bringing.from;
  names = names_of bringing.names;
  used = bringing.used;
}

-- among names that are listed stands that of an entity, or that of its enum
abbrev pub is_listed : List (List ℕ) → Entity → Bool
is_listed names entity = list_any (same_text entity.name) names || list_any (same_text entity.group) names

abbrev pub brings_it : Reach → Entity → Bool → Bool
brings_it reach entity true = reach.whole_used || is_listed reach.used.keys entity
brings_it reach entity false = reach.whole || is_listed reach.listed.keys entity

abbrev pub has_it : Reach → Entity → Bool → Bool → Bool
has_it reach entity used all = reach.own || ((all || entity.exported) && brings_it reach entity used)

-- this is what these bring, whatever module they bring it from
pub record Tells (bringings : List Bringing) (reach : Reach) : Type 0 where
  pub imported : (entity : Entity) → brings_it reach entity false
      ≡ list_any (λ (bringing : Bringing). lists bringing.names entity) bringings
  pub used : (entity : Entity) → brings_it reach entity true
      ≡ list_any (λ (bringing : Bringing). bringing.used && lists bringing.names entity) bringings

abbrev pub from_module : ℕ → List Bringing → List Bringing
from_module m bringings = filter (λ (bringing : Bringing). bringing.from == m) bringings

abbrev pub modules_of : List Reach → List ℕ
modules_of reaches = map (λ (reach : Reach). reach.module) reaches

-- among the names that a bringing lists this one names an entity, or its enum
abbrev pub names_it : Ident → Entity → Bool
names_it name entity = bytes_eq name.text entity.name || bytes_eq name.text entity.group

-- the entities that pass a test are brought too, by `using` if that is told
pub record Grows (old : Reach) (test : Entity → Bool) (used : Bool) (new : Reach) : Type 0 where
  pub of : new.module ≡ old.module
  pub own : new.own ≡ old.own
  pub imports : (entity : Entity) → brings_it new entity false ≡ (brings_it old entity false || test entity)
  pub uses : (entity : Entity) → brings_it new entity true ≡ (brings_it old entity true || (used && test entity))

abbrev pub froms : List Bringing → List ℕ
froms bringings = map (λ (bringing : Bringing). bringing.from) bringings

abbrev pub Ascends : List ℕ → Type 0
Ascends ms = (j k m n : ℕ) → j < k → slice_get ms j ≡ Some m → slice_get ms k ≡ Some n → m < n

-- what a module sees, one for each module that it sees
pub record AreReaches (own : ℕ) (bringings : List Bringing) (reaches : List Reach) : Type 0 where
  pub ascend : Ascends (modules_of reaches)
  pub itself : list_any (λ m. m == own) (modules_of reaches) ≡ true
  pub same : (test : ℕ → Bool) → list_any test (modules_of reaches) ≡ list_any test (own ∷ froms bringings)
  pub all : list_all (λ (bringing : Bringing). list_any (λ m. m == bringing.from) (modules_of reaches)) bringings ≡ true
  pub own_is : (k : ℕ) (reach : Reach) → slice_get reaches k ≡ Some reach → reach.own ≡ (reach.module == own)
  pub tells : (k : ℕ) (reach : Reach) → slice_get reaches k ≡ Some reach
      → Tells (from_module reach.module bringings) reach

-- one for each of these modules, which tells what these bring from it
pub record AreTold (own : ℕ) (modules : List ℕ) (bringings : List Bringing) (reaches : List Reach) : Type 0 where
  pub modules_are : modules_of reaches ≡ modules
  pub own_is : (k : ℕ) (reach : Reach) → slice_get reaches k ≡ Some reach → reach.own ≡ (reach.module == own)
  pub tells : (k : ℕ) (reach : Reach) → slice_get reaches k ≡ Some reach
      → Tells (from_module reach.module bringings) reach

-- these are told behind those before, in a list without repeats
pub record TakesIn (modules : List ℕ) (bringings : List Bringing) (old new : List Reach) : Type 0 where
  pub told : (own : ℕ) (before : List Bringing) → firsts ◌==◌ modules ≡ modules → AreTold own modules before old
      → AreTold own modules (before ++ bringings) new

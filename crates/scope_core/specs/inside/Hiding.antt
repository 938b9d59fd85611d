-- Which prototypes of a module are hidden, by numbers.
use Rattle.std.specs.Prelude.{◌≡◌, ℕ, ◌<◌, ◌==◌, ◌&&◌, Bool, true, false, List, Option, Some, None}
use Rattle.std.specs.Prelude.{length, slice_get, slice_index_or, if◌then◌else◌}
use Rattle.std.specs.List.{list_any}
use Rattle.case_table.specs.Lists.{with_first}
use Rattle.scope_tables.specs.declared.entity.Entity.{Entity}
use Rattle.scope_tables.specs.declared.entity.Sort.{Sort}
use Rattle.scope_core.specs.Standing.{is_prototype, is_definition}
use Rattle.scope_tables.specs.inside.Owning.{number_in}

-- the number of an entity's name in its module, and of what it takes
abbrev pub key_of : List Entity → Entity → Option ℕ → Option (ℕ × ℕ)
key_of own entity None = None
key_of own entity (Some number) = Some (number_in own entity.name, number)

abbrev pub key_in : List Entity → (Sort → Bool) → Option Entity → Option ℕ → Option (ℕ × ℕ)
key_in own test None number = None
key_in own test (Some entity) number = if test entity.sort then key_of own entity number else None

-- the same for the entity of an index, where a test holds of its sort
abbrev pub key_at : List Entity → List (Option ℕ) → (Sort → Bool) → ℕ → Option (ℕ × ℕ)
key_at own taken test i = key_in own test (slice_get own i) (slice_index_or taken i None)

abbrev pub same_key : ℕ × ℕ → ℕ × ℕ → Bool
same_key one other = (one.0 == other.0) && (one.1 == other.1)

abbrev pub has_key : List (ℕ × ℕ) → Option (ℕ × ℕ) → Bool
has_key keys None = false
has_key keys (Some key) = list_any (same_key key) keys

abbrev pub with_key : List (ℕ × ℕ) → Option (ℕ × ℕ) → List (ℕ × ℕ)
with_key keys None = keys
with_key keys (Some key) = with_first same_key keys key

-- functions, or else prototypes
abbrev pub asked : Bool → Sort → Bool
asked true = is_definition
asked false = is_prototype

-- the keys are those of the functions up to an index
pub record AreDefined (own : List Entity) (taken : List (Option ℕ)) (count : ℕ) (keys : List (ℕ × ℕ)) : Type 0 where
  pub has : (i : ℕ) (key : ℕ × ℕ) → i < count → key_at own taken is_definition i ≡ Some key
      → list_any (same_key key) keys ≡ true
  pub only : (key : ℕ × ℕ) → list_any (same_key key) keys ≡ true
      → (i : ℕ) × (key_at own taken is_definition i ≡ Some key)

-- up to an index a prototype is hidden where its key is that of a function
pub record AreHidden (own : List Entity) (taken : List (Option ℕ)) (keys : List (ℕ × ℕ)) (hidden : List Bool) : Type 0
  where
    pub are : (i : ℕ) → i < length hidden
        → slice_index_or hidden i true ≡ has_key keys (key_at own taken is_prototype i)

-- the flags of a module
pub record IsHiding (own : List Entity) (taken : List (Option ℕ)) (hidden : List Bool) : Type 0 where
  pub keys : List (ℕ × ℕ)
  pub long : length hidden ≡ length own
  pub defined : AreDefined own taken (length own) keys
  pub are : AreHidden own taken keys hidden

-- The entities of a module by their names.
use Rattle.std.specs.Prelude.{◌≡◌, ℕ, ◌+◌, ◌==◌, Bool, List, [], ◌∷◌, map, if◌then◌else◌}
use Rattle.std.specs.Cmp.Lexicographic.{pointwise}
use Rattle.std.specs.List.{IsDistinct, position_or_len}
use Rattle.case_table.specs.Lists.{firsts}
use Rattle.scope_tables.specs.declared.entity.Entity.{Entity}

abbrev pub same_text : List ℕ → List ℕ → Bool
same_text = pointwise ◌==◌

abbrev pub names_in : List Entity → List (List ℕ)
names_in entities = map (λ (entity : Entity). entity.name) entities

-- the indices of the entities of a name, the first of which has this index
abbrev pub indices_from : List ℕ → ℕ → List Entity → List ℕ
indices_from name i [] = []
indices_from name i (entity ∷ entities) =
    if same_text name entity.name then i ∷ indices_from name (i + 1) entities else indices_from name (i + 1) entities

abbrev pub indices_of : List Entity → List ℕ → List ℕ
indices_of entities name = indices_from name 0 entities

-- each name has a list of its entities, in the order in which names first stand
pub record AreOwn (entities : List Entity) (names : List (List ℕ)) (lists : List (List ℕ)) : Type 0 where
  pub apart : IsDistinct same_text names
  pub names_are : names ≡ firsts same_text (names_in entities)
  pub lists_are : lists ≡ map (indices_of entities) names

-- the number of a name among those of the entities
abbrev pub number_in : List Entity → List ℕ → ℕ
number_in entities name = position_or_len (same_text name) (firsts same_text (names_in entities))

-- those of the names of the entities themselves
abbrev pub numbers_of : List Entity → List ℕ
numbers_of entities = map (λ (entity : Entity). number_in entities entity.name) entities

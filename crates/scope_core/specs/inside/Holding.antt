-- Tables that hold the entities of modules.
use Rattle.std.specs.Prelude.{◌≡◌, ⊤, ℕ, suc, ◌<◌, ◌≤◌, ◌==◌, Bool, true, List, [], ◌∷◌, ◌++◌, map, length, ltb}
use Rattle.std.specs.Prelude.{slice_get, Some, if◌then◌else◌}
use Rattle.std.specs.List.{list_all}
use Rattle.scope_tables.specs.declared.entity.Entity.{Entity}
use Rattle.scope_tables.specs.declared.reach.Reach.{Reach}
use Rattle.scope_tables.specs.declared.tables.Table.{Table}
use Rattle.scope_tables.specs.Entities.{Declared}
use Rattle.scope_tables.specs.Visible.{World, brought_at}
use Rattle.scope_tables.specs.inside.Reaching.{AreReaches}

-- those of a piece that aren't hidden
abbrev pub standing_in : List Bool → List Declared → List Declared
standing_in [] piece = []
standing_in (hidden ∷ more) [] = []
standing_in (hidden ∷ more) (one ∷ others) =
    if hidden then standing_in more others else one ∷ standing_in more others

-- those of all pieces
abbrev pub open_pieces : List Table → List (List Declared) → List Declared
open_pieces [] pieces = []
open_pieces (table ∷ tables) [] = []
open_pieces (table ∷ tables) (piece ∷ pieces) = standing_in table.hidden.items piece ++ open_pieces tables pieces

pub record IsTable (world : World) (m : ℕ) (piece : List Declared) (table : Table) : Type 0 where
  pub own : table.own ≡ map (λ (one : Declared). one.entity) piece
  pub hidden : length table.hidden.items ≡ length piece
  pub inside : list_all (λ (one : Declared). one.entity.id.module == m) piece ≡ true
  pub reaches : AreReaches m (brought_at world m) table.reaches.items

-- the tables of pieces, the first of which has this index
abbrev pub AreTables : World → ℕ → List Table → List (List Declared) → Type 0
AreTables world m [] [] = ⊤
AreTables world m [] (piece ∷ pieces) = ⊥
AreTables world m (table ∷ tables) [] = ⊥
AreTables world m (table ∷ tables) (piece ∷ pieces) = IsTable world m piece table
    × AreTables world (suc m) tables pieces

-- modules that are reached, from this index on, in order
abbrev pub Ordered : ℕ → List Reach → Type 0
Ordered m [] = ⊤
Ordered m (reach ∷ reaches) = (m ≤ reach.module) × Ordered (suc reach.module) reaches

-- what is seen by each of these is what passes a test
abbrev pub Agree : (Entity → Bool) → (Reach → Entity → Bool) → List Reach → Type 0
Agree test seen [] = ⊤
Agree test seen (reach ∷ reaches) =
    ((entity : Entity) → (entity.id.module == reach.module) ≡ true → seen reach entity ≡ test entity)
    × Agree test seen reaches

-- the tables hold what a set has, and behind it the prelude
pub record Hold (world : World) (tables : List Table) (pieces : List (List Declared)) : Type 0 where
  pub are : AreTables world 0 tables pieces
  pub count : length tables ≡ suc (length world.names)
  pub alone : brought_at world (length world.names) ≡ []
  pub within : (m : ℕ) (table : Table) → m < length world.names → slice_get tables m ≡ Some table
      → list_all (λ (reach : Reach). ltb reach.module (length world.names)) table.reaches.items ≡ true

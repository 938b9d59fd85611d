-- What scopes hold.
use Rattle.std.specs.Prelude.{◌≡◌, ⊤, ℕ, suc, ◌==◌, not, true, List, [], ◌∷◌, ◌++◌, map, drop, length}
use Rattle.std.specs.List.{list_any, list_all, flat_map}
use Rattle.mdl_syntax.specs.declared.modules.Module.{Module}
use Rattle.mdl_syntax.specs.Modules.{module_of}
use Rattle.module_set.specs.declared.module_name.ModuleName.{ModuleName}
use Rattle.scope_core.specs.declared.scopes.Scopes.{Scopes}
use Rattle.scope_tables.specs.declared.declared.Piece.{Piece}
use Rattle.scope_tables.specs.declared.declared.Written.{Written}
use Rattle.scope_tables.specs.declared.tables.Table.{Table}
use Rattle.scope_tables.specs.Entities.{Declared, entities_from}
use Rattle.scope_tables.specs.Brought.{Bringing, brought_by}
use Rattle.scope_tables.specs.Visible.{World}
use Rattle.scope_core.specs.inside.Holding.{Hold, AreTables, open_pieces}
use Rattle.scope_tables.specs.inside.Pieces.{IsPiece, IsWritten}

-- the names of modules with what they bring, and entities that stand
pub record Holds (scopes : Scopes) (world : World) (entities : List Declared) : Type 0 where
  pub names : scopes.names.items ≡ world.names
  pub pieces : List (List Declared)
  pub hold : Hold world scopes.tables.items pieces
  pub stand : open_pieces scopes.tables.items pieces ≡ entities

-- pieces of which each holds its entities
abbrev pub ArePieces : List (List Declared) → List Piece → Type 0
ArePieces [] [] = ⊤
ArePieces [] (piece ∷ pieces) = ⊥
ArePieces (one ∷ all) [] = ⊥
ArePieces (one ∷ all) (piece ∷ pieces) = IsPiece one piece × ArePieces all pieces

-- what is written of the entities of each module
abbrev pub AreWritten : List (List Declared) → List Written → Type 0
AreWritten [] [] = ⊤
AreWritten [] (written ∷ more) = ⊥
AreWritten (one ∷ all) [] = ⊥
AreWritten (one ∷ all) (written ∷ more) = IsWritten one written × AreWritten all more

-- nothing is hidden yet
abbrev pub NoneHidden : List Table → Type 0
NoneHidden tables = list_all (λ (table : Table). not (list_any (λ hidden. hidden) table.hidden.items)) tables ≡ true

-- the pieces of some modules came, and the modules from an index on are left
pub record PiecesLeft (modules : List Module) (pieces : List Piece) (i : ℕ) : Type 0 where
  pub done : List (List Declared)
  pub are : ArePieces done pieces
  pub whole : done ++ entities_from i (map (λ (one : Module). (module_of one).declarations) (drop i modules))
      ≡ entities_from 0 (map (λ (one : Module). (module_of one).declarations) modules)

-- what modules of these names bring, where a name means the first of those that are known
abbrev pub brought_all : List ModuleName → List ModuleName → List Module → List (List Bringing)
brought_all known names [] = []
brought_all known [] (one ∷ modules) = []
brought_all known (name ∷ names) (one ∷ modules) =
    flat_map (brought_by known name) one.imports ∷ brought_all known names modules

-- what came, and what the names and modules from an index on bring, is what all bring
pub record BroughtLeft (known names : List ModuleName) (modules : List Module) (done : List (List Bringing)) (i : ℕ)
    : Type 0 where
  pub whole : done ++ brought_all known (drop i names) (drop i modules) ≡ brought_all known names modules

-- the entities of these pieces are of modules from this index on
abbrev pub AreInside : ℕ → List (List Declared) → Type 0
AreInside m [] = ⊤
AreInside m (piece ∷ pieces) =
    (list_all (λ (one : Declared). one.entity.id.module == m) piece ≡ true) × AreInside (suc m) pieces

-- tables of pieces in which nothing is hidden, and what is written of the entities
pub record AreMade (world : World) (all : List (List Declared)) (tables : List Table) (written : List Written)
    : Type 0 where
  pub tables_are : AreTables world 0 tables all
  pub none_hidden : NoneHidden tables
  pub written_are : AreWritten all written

-- the same of some pieces; others are left
pub record MadeSome (world : World) (all : List (List Declared)) (rest : List Piece) (tables : List Table)
    (written : List Written) : Type 0 where
  pub done : List (List Declared)
  pub left : List (List Declared)
  pub made : AreMade world done tables written
  pub are : ArePieces left rest
  pub count : length tables ≡ length done
  pub inside : AreInside (length done) left
  pub whole : done ++ left ≡ all

-- in any world in which the modules bring this, whatever the pieces hold
pub record Makes (brings : List (List Bringing)) (pieces rest : List Piece) (tables : List Table)
    (written : List Written) : Type 0 where
  pub some : (world : World) (all : List (List Declared)) → world.brings ≡ brings → ArePieces all pieces
      → AreInside 0 all → MadeSome world all rest tables written

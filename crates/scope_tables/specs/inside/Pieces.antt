-- The entities of a module, and what is written of them, as lists beside each other.
use Rattle.std.specs.Prelude.{◌≡◌, ◌+◌, ℕ, Bool, List, ◌++◌, map, drop}
use Rattle.type_rules.specs.Types.{plain}
use Rattle.mdl_syntax.specs.declared.declarations.EnumItem.{EnumItem}
use Rattle.mdl_syntax.specs.declared.declarations.Decl.{Decl}
use Rattle.mdl_syntax.specs.Modules.{parameter_of, declaration_of, enum_value_of}
use Rattle.scope_tables.specs.declared.declared.Takes as held_takes
use Rattle.scope_tables.specs.declared.declared.Takes.TheVariants as held
use Rattle.scope_tables.specs.declared.declared.Written.{Written}
use Rattle.scope_tables.specs.declared.declared.Piece.{Piece}
use Rattle.scope_tables.specs.Entities.{Declared, Takes, parameter_types, known, based, values_from, declared_from}

abbrev pub takes_of : held_takes.Takes → Takes
takes_of (held.Listed params) = parameter_types (map parameter_of params.now)
takes_of (held.Known names) = known (map plain (map (λ name. name.now) names.now))
takes_of (held.Based name) = based name.now

-- what is written of entities
pub record IsWritten (all : List Declared) (written : Written) : Type 0 where
  pub takes : map takes_of written.takes.items ≡ map (λ (one : Declared). one.takes) all
  pub places : written.places.items ≡ map (λ (one : Declared). one.at) all

pub record IsPiece (all : List Declared) (piece : Piece) : Type 0 where
  pub entities : piece.entities.items ≡ map (λ (one : Declared). one.entity) all
  pub written : IsWritten all piece.written

-- these come to the end of a piece
pub record Appends (more : List Declared) (before after : Piece) : Type 0 where
  pub comes : (all : List Declared) → IsPiece all before → IsPiece (all ++ more) after

-- some values of an enum came to a piece, and those from an index on are left
pub record ValuesLeft (m d p : ℕ) (exported : Bool) (group : List ℕ) (values : List EnumItem) (before now : Piece)
    (i : ℕ) : Type 0 where
  pub done : List Declared
  pub came : Appends done before now
  pub whole : done ++ values_from m d (p + i) exported group (map enum_value_of (drop i values))
      ≡ values_from m d p exported group (map enum_value_of values)

-- the same of declarations
pub record DeclarationsLeft (m : ℕ) (decls : List Decl) (now : Piece) (i : ℕ) : Type 0 where
  pub done : List Declared
  pub is : IsPiece done now
  pub whole : done ++ declared_from m i (map declaration_of (drop i decls))
      ≡ declared_from m 0 (map declaration_of decls)

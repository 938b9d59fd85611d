-- The types that are written in a module, by what its tables find.
use Rattle.std.specs.Prelude.{ℕ, false, List, [], ◌∷◌, Option, Some, None, map, if◌then◌else◌}
use Rattle.type_rules.specs.declared.ty.Ty.{Ty}
use Rattle.mdl_syntax.specs.declared.declarations.Param.{Param}
use Rattle.mdl_syntax.specs.declared.names.NameForm.{NameForm}
use Rattle.mdl_syntax.specs.declared.names.NameForm.TheVariants as form
use Rattle.mdl_syntax.specs.declared.types.TypeTree.{TypeTree}
use Rattle.mdl_syntax.specs.declared.types.Size.{Size}
use Rattle.module_set.specs.declared.module_name.ModuleName.{ModuleName}
use Rattle.scope_tables.specs.declared.entity.Entity.{Entity}
use Rattle.scope_tables.specs.declared.tables.Table.{Table}
use Rattle.scope_tables.specs.declared.tables.Place.{Place}
use Rattle.scope_tables.specs.Visible.{World, texts, word_text}
use Rattle.scope_tables.specs.Types.{is_type, named_type, shape_of}
use Rattle.scope_tables.specs.inside.Finding.{entity_at, found_places}

abbrev pub type_entity : Option Entity → Option Entity
type_entity None = None
type_entity (Some entity) = if is_type entity.sort then Some entity else None

abbrev pub single_place : List Table → List Place → Option Entity
single_place tables [] = None
single_place tables (one ∷ []) = type_entity (entity_at tables one)
single_place tables (one ∷ other ∷ more) = None

abbrev pub named : List ModuleName → World
named names = record { names = names; brings = [] }

abbrev pub word_type : ℕ → Size → Ty
word_type word size = record { name = word_text word; shape = shape_of size }

abbrev pub formed_at : List ModuleName → List Table → ℕ → NameForm → Size → Ty
formed_at names tables m (form.Word word) size = word_type word size
formed_at names tables m (form.Parts absolute parts) size =
    named_type (named names) (single_place tables (found_places names tables m (form.Parts absolute parts) false))
    absolute (texts parts) size

abbrev pub type_at : List ModuleName → List Table → ℕ → TypeTree → Ty
type_at names tables m tree = formed_at names tables m tree.name.form tree.size

abbrev pub types_at : List ModuleName → List Table → ℕ → List Param → List Ty
types_at names tables m params = map (λ (param : Param). type_at names tables m param.ty) params

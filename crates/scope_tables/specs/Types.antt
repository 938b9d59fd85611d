-- The types of what an entity takes, by which overloads are told apart.
use Rattle.std.specs.Prelude.{ℕ, ◌==◌, ◌&&◌, not, Bool, true, false, List, [], ◌∷◌, ◌++◌}
use Rattle.std.specs.Prelude.{Option, Some, None}
use Rattle.std.specs.Prelude.{map, length, codes, decimal, if◌then◌else◌}
use Rattle.std.specs.List.{list_any, flat_map}
use Rattle.type_rules.specs.declared.ty.Ty.{Ty}
use Rattle.type_rules.specs.declared.ty.Shape.{Shape}
use Rattle.type_rules.specs.declared.ty.Shape.TheVariants as shape
use Rattle.mdl_syntax.specs.declared.names.NameForm.{NameForm}
use Rattle.mdl_syntax.specs.declared.names.NameForm.TheVariants as form
use Rattle.mdl_syntax.specs.declared.types.TypeTree.{TypeTree}
use Rattle.mdl_syntax.specs.declared.types.Size.{Size}
use Rattle.mdl_syntax.specs.declared.types.Size.TheVariants as size
use Rattle.module_set.specs.Names.{written_name}
use Rattle.scope_tables.specs.declared.entity.Entity.{Entity}
use Rattle.scope_tables.specs.declared.entity.Sort.{Sort}
use Rattle.scope_tables.specs.declared.entity.Sort.TheVariants as sort
use Rattle.scope_tables.specs.Entities.{Declared, Takes, listed, known, based}
use Rattle.scope_tables.specs.Visible.{World, name_at, found, texts, word_text}

abbrev pub is_type : Sort → Bool
is_type sort.Struct = true
is_type sort.Enum = true
is_type _ = false

-- the one entity that a type's name finds, if that is a type
abbrev pub single_type : List Declared → Option Entity
single_type [] = None
single_type (one ∷ []) = if is_type one.entity.sort then Some one.entity else None
single_type (one ∷ other ∷ more) = None

-- what the prelude has is known by its name alone, all else by its absolute name
abbrev pub full_name : World → Entity → List ℕ
full_name world entity =
    if entity.id.module == length world.names then entity.name
    else written_name (name_at world entity.id.module) ++ (codes "::" ++ entity.name)

-- deferred sizes are all one
abbrev pub shape_of : Size → Shape
shape_of size.One = shape.One
shape_of (size.Sized count) = shape.Sized count
shape_of (size.Deferred name) = shape.AnySize

-- how a size, and a name, are written
abbrev pub size_text : Size → List ℕ
size_text size.One = []
size_text (size.Sized count) = codes "[" ++ (decimal count ++ codes "]")
size_text (size.Deferred name) = codes "[<" ++ (name.text ++ codes ">]")

abbrev pub parts_text : Bool → List (List ℕ) → List ℕ
parts_text absolute [] = []
parts_text true parts = flat_map (λ part. codes "::" ++ part) parts
parts_text false (part ∷ parts) = part ++ flat_map (λ part. codes "::" ++ part) parts

-- a type whose name finds no single type is what is written, behind a mark that no name has
abbrev pub named_type : World → Option Entity → Bool → List (List ℕ) → Size → Ty
named_type world (Some entity) absolute parts of = record { name = full_name world entity; shape = shape_of of }
named_type world None absolute parts of = record {
  name = codes "?" ++ (parts_text absolute parts ++ size_text of);
  shape = shape.One;
}

abbrev pub formed_type : World → List Declared → ℕ → NameForm → Size → Ty
formed_type world entities m (form.Word word) of = record { name = word_text word; shape = shape_of of }
formed_type world entities m (form.Parts absolute parts) of =
    named_type world (single_type (found false world entities m (form.Parts absolute parts))) absolute
    (texts parts) of

-- the type that is written in a module
abbrev pub type_of : World → List Declared → ℕ → TypeTree → Ty
type_of world entities m tree = formed_type world entities m tree.name.form tree.size

abbrev pub is_deferred : Size → Bool
is_deferred (size.Deferred name) = true
is_deferred _ = false

abbrev pub has_deferred : Takes → Bool
has_deferred (listed trees) = list_any (λ (tree : TypeTree). is_deferred tree.size) trees
has_deferred _ = false

abbrev pub is_callable : Sort → Bool
is_callable sort.Material = true
is_callable sort.Function = true
is_callable sort.Intrinsic = true
is_callable sort.Struct = true
is_callable _ = false

-- what a variant takes: what its base does, where that is one callable without a parameter of deferred size
abbrev pub based_on : (Declared → List Ty) → List Declared → List Ty
based_on types [] = []
based_on types (base ∷ []) = if is_callable base.entity.sort && not (has_deferred base.takes) then types base else []
based_on types (base ∷ other ∷ more) = []

-- what an entity of a module takes, by what stands and by what others take
abbrev pub types_in : World → List Declared → (Declared → List Ty) → ℕ → Takes → List Ty
types_in world entities types m (listed trees) = map (type_of world entities m) trees
types_in world entities types m (known given) = given
types_in world entities types m (based name) = based_on types (found false world entities m name.form)

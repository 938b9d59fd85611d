-- What the modules of a set declare.
use Rattle.std.specs.Prelude.{ℕ, suc, ◌==◌, ◌&&◌, Bool, true, false, List, [], ◌∷◌, ◌++◌}
use Rattle.std.specs.Prelude.{Option, Some, None}
use Rattle.std.specs.Prelude.{map, if◌then◌else◌}
use Rattle.mdl_syntax.specs.declared.names.Ident.{Ident}
use Rattle.mdl_syntax.specs.declared.names.Name.{Name}
use Rattle.mdl_syntax.specs.declared.names.NameForm.TheVariants as form
use Rattle.mdl_syntax.specs.declared.names.NameForm.{NameForm}
use Rattle.mdl_syntax.specs.declared.types.TypeTree.{TypeTree}
use Rattle.mdl_syntax.specs.declared.types.Size.{Size}
use Rattle.mdl_syntax.specs.declared.types.Size.TheVariants as size
use Rattle.mdl_syntax.specs.Trees.{Tree}
use Rattle.mdl_syntax.specs.Modules.{Parameter, EnumValue, Declaration, material, variant, function}
use Rattle.mdl_syntax.specs.Modules.{structure, enumeration, annotation}
use Rattle.type_rules.specs.declared.ty.Ty.{Ty}
use Rattle.scope_tables.specs.declared.entity.Entity.{Entity}
use Rattle.scope_tables.specs.declared.entity.EntityId.{EntityId}
use Rattle.scope_tables.specs.declared.entity.Sort.{Sort}
use Rattle.scope_tables.specs.declared.entity.Sort.TheVariants as sort

-- what an entity takes: parameters or fields of types that are written in its module, or of types that are
-- known, or what the base of a variant takes
pub data Takes : Type 0 where
  listed : List TypeTree → Takes
  known : List Ty → Takes
  based : Name → Takes

-- an entity, with the place of its name
pub record Declared : Type 0 where
  pub entity : Entity
  pub takes : Takes
  pub at : ℕ

abbrev pub numbered : ℕ → ℕ → ℕ → EntityId
numbered m d p = record { «module» = m; decl = d; part = p }

abbrev pub parameter_types : List Parameter → Takes
parameter_types parameters = listed (map (λ (parameter : Parameter). parameter.ty) parameters)

-- an entity that is a declaration
abbrev pub whole : EntityId → Bool → Ident → Sort → Takes → Declared
whole id exported name of takes = record {
  entity = record { id = id; name = name.text; group = name.text; sort = of; exported = exported };
  takes = takes;
  at = name.span.at;
}

-- the word `material`, and no array of it
abbrev pub is_material_size : Size → Bool
is_material_size size.One = true
is_material_size _ = false

abbrev pub is_material_form : NameForm → Bool
is_material_form (form.Word word) = word == 32
is_material_form (form.Parts absolute parts) = false

abbrev pub variant_sort : TypeTree → Sort
variant_sort ty =
    if is_material_form ty.name.form && is_material_size ty.size then sort.Material else sort.Function

-- a function without a body is a prototype
abbrev pub function_sort : Option Tree → Sort
function_sort None = sort.Intrinsic
function_sort (Some body) = sort.Function

-- an entity that is a value of an enum
abbrev pub a_value : EntityId → Bool → List ℕ → EnumValue → Declared
a_value id exported group value = record {
  entity = record { id = id; name = value.name.text; group = group; sort = sort.EnumValue; exported = exported };
  takes = listed [];
  at = value.name.span.at;
}

-- the values of an enum, from this part of the declaration on
abbrev pub values_from : ℕ → ℕ → ℕ → Bool → List ℕ → List EnumValue → List Declared
values_from m d p exported group [] = []
values_from m d p exported group (value ∷ values) =
    a_value (numbered m d p) exported group value ∷ values_from m d (suc p) exported group values

-- the entities of a declaration
abbrev pub declared : ℕ → ℕ → Declaration → List Declared
declared m d (material exported name parameters _ _ _) =
    whole (numbered m d 0) exported name sort.Material (parameter_types parameters) ∷ []
declared m d (variant exported ty name _ base _ _) =
    whole (numbered m d 0) exported name (variant_sort ty) (based base) ∷ []
declared m d (function exported _ name parameters _ _ body _) =
    whole (numbered m d 0) exported name (function_sort body) (parameter_types parameters) ∷ []
declared m d (structure exported name _ fields _) =
    whole (numbered m d 0) exported name sort.Struct (parameter_types fields) ∷ []
declared m d (enumeration exported name _ values _) =
    whole (numbered m d 0) exported name sort.Enum (listed []) ∷ values_from m d 1 exported name.text values
declared m d (annotation exported name parameters _ _) =
    whole (numbered m d 0) exported name sort.Annotation (parameter_types parameters) ∷ []

-- those of declarations, from this index on
abbrev pub declared_from : ℕ → ℕ → List Declaration → List Declared
declared_from m d [] = []
declared_from m d (one ∷ others) = declared m d one ++ declared_from m (suc d) others

-- those of modules, from this index on, a list for each
abbrev pub entities_from : ℕ → List (List Declaration) → List (List Declared)
entities_from m [] = []
entities_from m (one ∷ others) = declared_from m 0 one ∷ entities_from (suc m) others

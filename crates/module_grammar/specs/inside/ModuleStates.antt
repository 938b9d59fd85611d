-- What the reader of modules holds between two tokens, and what it makes of what it has read.
use Rattle.std.specs.Prelude.{ℕ, suc, ◌==◌, ◌&&◌, Bool, true, false, List, [], ◌∷◌, ◌++◌, Option, Some, None}
use Rattle.std.specs.Prelude.{if◌then◌else◌, codes}
use Rattle.mdl_syntax.specs.declared.names.Span.{Span}
use Rattle.mdl_syntax.specs.declared.names.Ident.{Ident}
use Rattle.mdl_syntax.specs.declared.names.NameForm.{NameForm}
use Rattle.mdl_syntax.specs.declared.names.NameForm.TheVariants as form
use Rattle.mdl_syntax.specs.declared.types.Size.{Size}
use Rattle.mdl_syntax.specs.declared.types.Size.TheVariants as size
use Rattle.mdl_syntax.specs.declared.types.TypeTree.{TypeTree}
use Rattle.mdl_syntax.specs.declared.types.Freq.{Freq}
use Rattle.mdl_syntax.specs.declared.imports.Lead.{Lead}
use Rattle.mdl_syntax.specs.declared.imports.Lead.TheVariants as lead
use Rattle.mdl_syntax.specs.declared.imports.ModuleRef.{ModuleRef}
use Rattle.mdl_syntax.specs.declared.imports.Qualified.{Qualified}
use Rattle.mdl_syntax.specs.declared.imports.Import.{Import}
use Rattle.mdl_syntax.specs.declared.modules.VersionLit.{VersionLit}
use Rattle.mdl_syntax.specs.Levels.{mark_number, reserved_number}
use Rattle.mdl_syntax.specs.Trees.{Tree}
use Rattle.mdl_syntax.specs.Modules.{Annotation, Parameter, EnumValue, Declaration, material, function}
use Rattle.expression_grammar.specs.inside.Machine.{Sort, Mode, Frame, from_to, ident_at, span_of, identifier}
use Rattle.expression_grammar.specs.inside.Machine.{double_colon, dot}

-- a name of a module so far
pub data Naming : Type 0 where
  -- nothing, `.`, so many `..::` and `..`, so many `..::`, and `.` behind them
  unnamed : Naming
  one_dot : ℕ → Naming
  two_dots : ℕ → ℕ → Naming
  up_steps : ℕ → ℕ → Naming
  one_dot_behind : ℕ → ℕ → Naming
  -- `::` or `.::`
  led : Lead → ℕ → Naming
  -- parts with `::` between them, and `::` behind them
  parted : Lead → ℕ → List Ident → ℕ → Naming
  open_ended : Lead → ℕ → List Ident → ℕ → Naming

-- what has been read of the module
pub record Begun : Type 0 where
  pub at : ℕ
  pub end : ℕ
  pub version : VersionLit
  pub imports : List Import
  pub annotations : Option (List Annotation)
  pub declarations : List Declaration

-- a declaration so far: where it begins, whether it is exported, and its name
pub record Named : Type 0 where
  pub at : ℕ
  pub exported : Bool
  pub name : Ident

-- the front of a function, a material or a variant, with the place of the first size of a parameter that is deferred
pub record Fronted : Type 0 where
  pub named : Named
  pub ty : TypeTree
  pub deferred : Option ℕ

-- the front of a parameter or field
pub record Front : Type 0 where
  pub at : ℕ
  pub frequency : Option Freq
  pub ty : TypeTree
  pub name : Ident

-- what parameters belong to
pub data Owner : Type 0 where
  of_function : Fronted → Owner
  of_annotation : Named → Owner

-- a struct, or an enum, so far
pub record Struct : Type 0 where
  pub named : Named
  pub annotations : Option (List Annotation)
  pub fields : List Parameter

pub record Enum : Type 0 where
  pub named : Named
  pub annotations : Option (List Annotation)
  pub values : List EnumValue

-- what annotations belong to
pub data Holder : Type 0 where
  the_module : Holder
  a_parameter : Owner → List Parameter → Front → Option Tree → Holder
  a_function : Fronted → List Parameter → Option Freq → Holder
  an_annotation : Named → List Parameter → Holder
  a_variant : Fronted → Holder
  a_struct : Named → Holder
  a_field : Struct → Front → Option Tree → Holder
  an_enum : Named → Holder
  an_enum_value : Enum → Ident → Option ℕ → Holder

-- where an expression stands
pub data Site : Type 0 where
  in_function_body : Fronted → List Parameter → Option Freq → Option (List Annotation) → Site
  in_default : Owner → List Parameter → Front → Site
  in_field_default : Struct → Front → Site
  -- calls that are no expressions
  in_annotation : Holder → List Annotation → Site
  in_base : Fronted → Option (List Annotation) → Site

-- where a type and a name stand. A declaration begins here, be it exported
pub data Fronting : Type 0 where
  of_declaration : ℕ → Bool → Fronting
  of_parameter : Owner → List Parameter → Fronting
  of_field : Struct → Fronting

-- the word that a declaration begins with
pub data Kin : Type 0 where
  struct_kin : Kin
  enum_kin : Kin
  annotation_kin : Kin

-- what was read last
pub data Position : Type 0 where
  -- imports and annotations of the module may come, or none any more
  item_wanted : Bool → Position
  -- `import`, what it imports so far, and a name; `*` behind a name
  importing : ℕ → List Qualified → Naming → Position
  imported : ℕ → List Qualified → Position
  -- `using` and a name; `import` behind it; names, and `,`; `*`
  using : ℕ → Naming → Position
  used_wanted : ℕ → ModuleRef → Position
  used_read : ℕ → ModuleRef → List Ident → Position
  used_next : ℕ → ModuleRef → List Ident → Position
  used_all : ℕ → ModuleRef → Position
  -- `module`
  own_wanted : Position
  -- `[`, `[[`, an annotation, the first `]`, and `]]` with its end
  annotations_begun : Holder → Position
  first_annotation : Holder → Position
  annotation_read : Holder → List Annotation → Position
  annotations_closing : Holder → List Annotation → Position
  annotated : Holder → List Annotation → ℕ → Position
  -- `export`; `struct`, `enum` or `annotation`
  exported_read : ℕ → Position
  kin_named : ℕ → Bool → Kin → Position
  annotation_named : Named → Position
  -- a type and a name
  fronting : Fronting → Mode → Position
  -- behind them; `(`; `(*`; `(*)`; a base
  declared : Fronted → Position
  parameters_begun : Owner → Position
  star_read : Fronted → Position
  variant_read : Fronted → Position
  base_read : Fronted → Option (List Annotation) → Annotation → Position
  -- a parameter's name; `,`
  parameter_read : Owner → List Parameter → Front → Position
  parameter_next : Owner → List Parameter → Position
  -- all parameters
  function_read : Fronted → List Parameter → Option Freq → Position
  annotation_declared : Named → List Parameter → Position
  struct_named : Named → Position
  -- `{`, or a field; a field's name
  fields_read : Struct → Position
  field_read : Struct → Front → Position
  enum_named : Named → Position
  -- `{` or `,`; a value's name; `=`; a number with its end
  value_wanted : Enum → Position
  value_read : Enum → Ident → Position
  number_wanted : Enum → Ident → Position
  number_read : Enum → Ident → ℕ → ℕ → Position
  -- `}`
  struct_closed : Struct → Position
  enum_closed : Enum → Position
  -- within an expression; and `[` behind one, which begins annotations or an index
  expression : Site → Mode → List Frame → Position
  opened : Site → Mode → List Frame → Span → Position

pub data State : Type 0 where
  mdl_wanted : State
  version_wanted : ℕ → State
  version_read : ℕ → VersionLit → State
  within : Begun → Position → State

-- what comes of a token
pub data Outcome : Type 0 where
  on : State → Outcome
  -- with a size at this token that is left out, unless an earlier one of the same head is
  waits : State → Outcome
  wrong : Outcome
  too_deep : Outcome
  -- at an earlier token, where one is given
  leaves_out : Option ℕ → List ℕ → Outcome
  statement_body : Outcome
  other_version : Outcome

-- Words and parts.

abbrev pub is_star : ℕ → Bool
is_star op = op == mark_number (codes "*")

abbrev pub same_number : ℕ → ℕ → Bool
same_number one other = one == other

-- the type `material`, as it stands
abbrev pub is_material_form : NameForm → Bool
is_material_form (form.Word number) = number == reserved_number (codes "material")
is_material_form _ = false

abbrev pub is_one : Size → Bool
is_one size.One = true
is_one _ = false

abbrev pub is_material : TypeTree → Bool
is_material ty = is_material_form ty.name.form && is_one ty.size

-- the end of a parameter without annotations
abbrev pub default_end : Front → Option Tree → ℕ
default_end front None = front.name.span.end
default_end front (Some tree) = (span_of tree).end

abbrev pub parameter_from : Front → Option Tree → Option (List Annotation) → ℕ → Parameter
parameter_from front default annotations end = record {
  frequency = front.frequency;
  ty = front.ty;
  name = front.name;
  default = default;
  annotations = annotations;
  span = from_to front.at end;
}

abbrev pub plain_parameter : Front → Option Tree → Parameter
plain_parameter front default = parameter_from front default None (default_end front default)

abbrev pub enum_value_from : Ident → Option ℕ → Option (List Annotation) → ℕ → EnumValue
enum_value_from name number annotations end = record {
  name = name;
  number = number;
  annotations = annotations;
  span = from_to name.span.at end;
}

abbrev pub with_import : Begun → Import → ℕ → State
with_import begun one end =
    within (record begun { imports = begun.imports ++ one ∷ []; end = end }) (item_wanted true)

abbrev pub with_declaration : Begun → Declaration → ℕ → State
with_declaration begun one end =
    within (record begun { declarations = begun.declarations ++ one ∷ []; end = end }) (item_wanted false)

abbrev pub with_field : Struct → Parameter → Struct
with_field held one = record held { fields = held.fields ++ one ∷ [] }

abbrev pub with_value : Enum → EnumValue → Enum
with_value held one = record held { values = held.values ++ one ∷ [] }

-- a declaration from its first place to this one
abbrev pub place_of_declaration : Named → ℕ → Span
place_of_declaration named end = from_to named.at end

-- a function, or the material that it is
abbrev pub function_from : Fronted → List Parameter → Option Freq → Option (List Annotation) → Tree → ℕ → Declaration
function_from fronted parameters None annotations body end =
    if is_material fronted.ty
    then material fronted.named.exported fronted.named.name parameters annotations body
    (place_of_declaration fronted.named end)
    else function fronted.named.exported fronted.ty fronted.named.name parameters None annotations (Some body)
    (place_of_declaration fronted.named end)
function_from fronted parameters (Some frequency) annotations body end =
    function fronted.named.exported fronted.ty fronted.named.name parameters (Some frequency) annotations (Some body)
    (place_of_declaration fronted.named end)

abbrev pub prototype_from : Fronted → List Parameter → Option Freq → Option (List Annotation) → ℕ → Declaration
prototype_from fronted parameters frequency annotations end =
    function fronted.named.exported fronted.ty fronted.named.name parameters frequency annotations None
    (place_of_declaration fronted.named end)

-- Names of modules.

abbrev pub module_name : Lead → ℕ → List Ident → ℕ → ModuleRef
module_name lead at parts end = record { lead = lead; parts = parts; span = from_to at end }

-- the parts but the last, and the last
abbrev pub split_last : Ident → List Ident → List Ident × Ident
split_last first [] = ([], first)
split_last first (next ∷ more) = let rest = split_last next more in (first ∷ rest.0, rest.1)

abbrev pub part_end : List Ident → ℕ → ℕ
part_end [] end = end
part_end (part ∷ parts) end = part_end parts part.span.end

-- a name of a module, and one of its names behind it
abbrev pub qualified_from : Lead → ℕ → List Ident → ℕ → Option Qualified
qualified_from lead at [] end = None
qualified_from lead at (first ∷ []) end = None
qualified_from lead at (first ∷ next ∷ more) end =
    let parts = split_last next more in
    let front = first ∷ parts.0 in
    Some (record {
      «module» = module_name lead at front (part_end front at);
      name = Some parts.1;
      span = from_to at end;
    })

-- what a token makes of a name
abbrev pub naming_step : Naming → Sort → Span → Option Naming
naming_step unnamed dot place = Some (one_dot place.at)
naming_step unnamed double_colon place = Some (led lead.Absolute place.at)
naming_step unnamed (identifier text) place =
    Some (parted lead.Bare place.at (ident_at text place ∷ []) place.end)
naming_step (one_dot at) dot place = Some (two_dots 0 at)
naming_step (one_dot at) double_colon place = Some (led lead.Here at)
naming_step (two_dots steps at) double_colon place = Some (up_steps (suc steps) at)
naming_step (up_steps steps at) dot place = Some (one_dot_behind steps at)
naming_step (up_steps steps at) (identifier text) place =
    Some (parted (lead.Up steps) at (ident_at text place ∷ []) place.end)
naming_step (one_dot_behind steps at) dot place = Some (two_dots steps at)
naming_step (led lead at) (identifier text) place = Some (parted lead at (ident_at text place ∷ []) place.end)
naming_step (parted lead at parts end) double_colon place = Some (open_ended lead at parts end)
naming_step (open_ended lead at parts end) (identifier text) place =
    Some (parted lead at (parts ++ ident_at text place ∷ []) place.end)
naming_step naming _ place = None

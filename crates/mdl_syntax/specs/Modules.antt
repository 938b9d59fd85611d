-- Modules as trees, each part with its place.
use Rattle.std.specs.Prelude.{ℕ, Bool, List, [], ◌∷◌, Option, Some, None, map}
use Rattle.mdl_syntax.specs.declared.names.Span.{Span}
use Rattle.mdl_syntax.specs.declared.names.Ident.{Ident}
use Rattle.mdl_syntax.specs.declared.names.Name.{Name}
use Rattle.mdl_syntax.specs.declared.types.TypeTree.{TypeTree}
use Rattle.mdl_syntax.specs.declared.types.Freq.{Freq}
use Rattle.mdl_syntax.specs.declared.expressions.Expr.{Expr}
use Rattle.mdl_syntax.specs.declared.declarations.Anno as held_anno
use Rattle.mdl_syntax.specs.declared.declarations.Param as held_param
use Rattle.mdl_syntax.specs.declared.declarations.EnumItem as held_item
use Rattle.mdl_syntax.specs.declared.declarations.Decl as held_decl
use Rattle.mdl_syntax.specs.declared.declarations.Decl.TheVariants as decl
use Rattle.mdl_syntax.specs.declared.imports.Import.{Import}
use Rattle.mdl_syntax.specs.declared.modules.VersionLit.{VersionLit}
use Rattle.mdl_syntax.specs.declared.modules.Module as held_module
use Rattle.mdl_syntax.specs.Trees.{Tree, Arguments, tree_of, argument_of, arguments_of}

pub record Annotation : Type 0 where
  pub name : Name
  pub arguments : Arguments
  pub span : Span

-- a parameter, or a field of a struct
pub record Parameter : Type 0 where
  pub frequency : Option Freq
  pub ty : TypeTree
  pub name : Ident
  pub default : Option Tree
  pub annotations : Option (List Annotation)
  pub span : Span

pub record EnumValue : Type 0 where
  pub name : Ident
  pub number : Option ℕ
  pub annotations : Option (List Annotation)
  pub span : Span

-- each with whether it is exported
pub data Declaration : Type 0 where
  material : Bool → Ident → List Parameter → Option (List Annotation) → Tree → Span → Declaration
  variant : Bool → TypeTree → Ident → Option (List Annotation) → Name → Arguments → Span → Declaration
  function : Bool → TypeTree → Ident → List Parameter → Option Freq → Option (List Annotation) → Option Tree →
      Span → Declaration
  structure : Bool → Ident → Option (List Annotation) → List Parameter → Span → Declaration
  enumeration : Bool → Ident → Option (List Annotation) → List EnumValue → Span → Declaration
  annotation : Bool → Ident → List Parameter → Option (List Annotation) → Span → Declaration

pub record ModuleTree : Type 0 where
  pub version : VersionLit
  pub imports : List Import
  pub annotations : Option (List Annotation)
  pub declarations : List Declaration
  pub span : Span

-- those that the program holds

abbrev pub default_of : Option Expr → Option Tree
default_of None = None
default_of (Some value) = Some (tree_of value)

abbrev pub annotation_of : held_anno.Anno → Annotation
annotation_of anno = record {
  name = anno.name;
  arguments = arguments_of (map argument_of anno.args);
  span = anno.span;
}

abbrev pub annotations_of : Option (List held_anno.Anno) → Option (List Annotation)
annotations_of None = None
annotations_of (Some annos) = Some (map annotation_of annos)

abbrev pub parameter_of : held_param.Param → Parameter
parameter_of param = record {
  frequency = param.freq;
  ty = param.ty;
  name = param.name;
  default = default_of param.default;
  annotations = annotations_of param.annos;
  span = param.span;
}

abbrev pub enum_value_of : held_item.EnumItem → EnumValue
enum_value_of item = record {
  name = item.name;
  number = item.number;
  annotations = annotations_of item.annos;
  span = item.span;
}

abbrev pub declaration_of : held_decl.Decl → Declaration
declaration_of (decl.Material exported name params annos body span) =
    material exported name (map parameter_of params) (annotations_of annos) (tree_of body) span
declaration_of (decl.Variant exported ty name annos base args span) =
    variant exported ty name (annotations_of annos) base (arguments_of (map argument_of args)) span
declaration_of (decl.Function exported ty name params freq annos body span) =
    function exported ty name (map parameter_of params) freq (annotations_of annos) (default_of body) span
declaration_of (decl.Struct exported name annos fields span) =
    structure exported name (annotations_of annos) (map parameter_of fields) span
declaration_of (decl.Enum exported name annos values span) =
    enumeration exported name (annotations_of annos) (map enum_value_of values) span
declaration_of (decl.Annotation exported name params annos span) =
    annotation exported name (map parameter_of params) (annotations_of annos) span

abbrev pub module_of : held_module.Module → ModuleTree
module_of held = record {
  version = held.version;
  imports = held.imports;
  annotations = annotations_of held.annos;
  declarations = map declaration_of held.decls;
  span = held.span;
}

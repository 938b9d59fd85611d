-- A module that is placed again has the places of the second tokens, whatever the first ones were.
use Rattle.std.proofs.Common.{◌≡◌, ap, refl, ℕ, Bool, List, [], ◌∷◌, Option, Some, None}
use Rattle.std.proofs.Common.{drop}
use Rattle.mdl_lexer.specs.declared.token.Kind.{Kind}
use Rattle.mdl_lexer.specs.declared.token.Token.{Token}
use Rattle.mdl_syntax.specs.declared.names.Span.{Span}
use Rattle.mdl_syntax.specs.declared.names.Ident.{Ident}
use Rattle.mdl_syntax.specs.declared.names.Name.{Name}
use Rattle.mdl_syntax.specs.declared.types.TypeTree.{TypeTree}
use Rattle.mdl_syntax.specs.declared.types.Freq.{Freq}
use Rattle.mdl_syntax.specs.declared.imports.ModuleRef.{ModuleRef}
use Rattle.mdl_syntax.specs.declared.imports.Qualified.{Qualified}
use Rattle.mdl_syntax.specs.declared.imports.Import.{Import}
use Rattle.mdl_syntax.specs.declared.imports.Import.TheVariants as import_form
use Rattle.mdl_syntax.specs.Trees.{Tree, Arguments}
use Rattle.mdl_syntax.specs.Words.{ident_word, name_words, type_words, frequency_words}
use Rattle.mdl_syntax.specs.Written.{write}
use Rattle.mdl_syntax.specs.Modules.{Annotation, Parameter, EnumValue, Declaration, ModuleTree}
use Rattle.mdl_syntax.specs.Modules.{material, variant, function, structure, enumeration}
use Rattle.mdl_syntax.specs.Modules.{annotation}
use Rattle.mdl_syntax.specs.WrittenModules.{write_each, lead_words, module_words, qualified_words}
use Rattle.mdl_syntax.specs.WrittenModules.{write_import, write_annotation, write_annotations}
use Rattle.mdl_syntax.specs.WrittenModules.{write_value, write_parameter, write_parameters}
use Rattle.mdl_syntax.specs.WrittenModules.{write_field, write_number, write_enum_value}
use Rattle.mdl_syntax.specs.WrittenModules.{export_words, write_declaration, write_own}
use Rattle.mdl_syntax.specs.Placed.{place_of, tokens_of, behind, placed_ident}
use Rattle.mdl_syntax.specs.PlacedModules.{placed_each, placed_module_name, placed_last}
use Rattle.mdl_syntax.specs.PlacedModules.{placed_qualified, placed_used, placed_import}
use Rattle.mdl_syntax.specs.PlacedModules.{placed_annotation, placed_annotations, placed_value}
use Rattle.mdl_syntax.specs.PlacedModules.{placed_parameter, placed_enum_value, placed_parameters}
use Rattle.mdl_syntax.specs.PlacedModules.{placed_declaration, placed_version}
use Rattle.mdl_syntax.specs.PlacedModules.{placed_module}
use Rattle.mdl_syntax.proofs.PlacedLaws.{name_written, type_written, written}
use Rattle.mdl_syntax.proofs.PlacedTwice.{parts_twice, name_twice, type_twice, placed_twice}
use Rattle.mdl_syntax.proofs.PlacedTwice.{arguments_twice}
use Rattle.mdl_syntax.proofs.PlacedModuleLaws.{each_written, module_name_written, qualified_written}
use Rattle.mdl_syntax.proofs.PlacedModuleLaws.{used_name_written, import_written}
use Rattle.mdl_syntax.proofs.PlacedModuleLaws.{annotation_written, annotations_written}
use Rattle.mdl_syntax.proofs.PlacedModuleLaws.{value_written, parameter_written, parameters_written}
use Rattle.mdl_syntax.proofs.PlacedModuleLaws.{field_written, enum_value_written}
use Rattle.mdl_syntax.proofs.PlacedModuleLaws.{declaration_written, own_written}

-- what holds of one that is placed twice holds of several
each_twice : {A : Type 0} (write_one : A → List Kind) (place_one : A → List Token → A) →
    ((one : A) (tokens : List Token) → write_one (place_one one tokens) ≡ write_one one) →
    ((one : A) (tokens other : List Token) →
    place_one (place_one one tokens) other ≡ place_one one other) →
    (between : ℕ) (all : List A) (tokens other : List Token) →
    placed_each write_one place_one between
    (placed_each write_one place_one between all tokens) other
    ≡ placed_each write_one place_one between all other
each_twice write_one place_one keeps twice between [] tokens other = refl
each_twice write_one place_one keeps twice between (first ∷ more) tokens other =
    let of_first = tokens_of (write_one first) tokens in
    let of_more = behind (write_one first) between tokens in λ i.
    let words = keeps first of_first i in
    twice first of_first (tokens_of words other) i
    ∷ each_twice write_one place_one keeps twice between more of_more (behind words between other) i

-- imports

module_name_twice : (name : ModuleRef) (tokens other : List Token) →
    placed_module_name (placed_module_name name tokens) other ≡ placed_module_name name other
module_name_twice name tokens other = λ i. record {
  lead = name.lead;
  parts = parts_twice name.parts (behind (lead_words name.lead) 0 tokens)
      (behind (lead_words name.lead) 0 other) i;
  span = place_of (tokens_of (module_name_written name tokens i) other);
}

last_twice : (name : Option Ident) (tokens other : List Token) →
    placed_last (placed_last name tokens) other ≡ placed_last name other
last_twice None tokens other = refl
last_twice (Some name) tokens other = refl

qualified_twice : (item : Qualified) (tokens other : List Token) →
    placed_qualified (placed_qualified item tokens) other ≡ placed_qualified item other
qualified_twice item tokens other = λ i. record {
  «module» = module_name_twice item.module tokens other i;
  name = last_twice item.name (behind (module_words item.module) 1 tokens)
      (behind (module_name_written item.module tokens i) 1 other) i;
  span = place_of other;
}

used_name_twice : (name : Ident) (tokens other : List Token) →
    placed_ident (placed_ident name tokens) other ≡ placed_ident name other
used_name_twice name tokens other = refl

used_twice : (names : Option (List Ident)) (tokens other : List Token) →
    placed_used (placed_used names tokens) other ≡ placed_used names other
used_twice None tokens other = refl
used_twice (Some names) tokens other =
    ap Some (each_twice (λ name. ident_word name ∷ []) placed_ident used_name_written
    used_name_twice 1 names tokens other)

import_twice : (one : Import) (tokens other : List Token) →
    placed_import (placed_import one tokens) other ≡ placed_import one other
import_twice (import_form.Import items span) tokens other = λ i.
    import_form.Import (each_twice qualified_words placed_qualified qualified_written
    qualified_twice 1 items (drop 1 tokens) (drop 1 other) i) (place_of other)
import_twice (import_form.Using name names span) tokens other =
    let of_name = drop 1 tokens in λ i.
    import_form.Using (module_name_twice name of_name (drop 1 other) i)
    (used_twice names (behind (module_words name) 2 tokens)
    (behind (module_name_written name of_name i) 2 other) i) (place_of other)

-- parts of declarations

annotation_twice : (one : Annotation) (tokens other : List Token) →
    placed_annotation (placed_annotation one tokens) other ≡ placed_annotation one other
annotation_twice one tokens other = λ i. record {
  name = name_twice one.name tokens other i;
  arguments = arguments_twice one.arguments (behind (name_words one.name) 1 tokens)
      (behind (name_written one.name tokens i) 1 other) i;
  span = place_of other;
}

annotations_twice : (all : Option (List Annotation)) (tokens other : List Token) →
    placed_annotations (placed_annotations all tokens) other ≡ placed_annotations all other
annotations_twice None tokens other = refl
annotations_twice (Some all) tokens other =
    ap Some (each_twice write_annotation placed_annotation annotation_written annotation_twice 1 all
    (drop 2 tokens) (drop 2 other))

value_twice : (value : Option Tree) (tokens other : List Token) →
    placed_value (placed_value value tokens) other ≡ placed_value value other
value_twice None tokens other = refl
value_twice (Some tree) tokens other =
    let of_tree = tokens_of (write tree) (drop 1 tokens) in λ i.
    Some (placed_twice tree of_tree (tokens_of (written tree of_tree i) (drop 1 other)) i)

parameter_twice : (one : Parameter) (tokens other : List Token) →
    placed_parameter (placed_parameter one tokens) other ≡ placed_parameter one other
parameter_twice one tokens other =
    let of_type = behind (frequency_words one.frequency) 0 tokens in
    let of_default = drop 1 (behind (type_words one.ty) 0 of_type) in
    let of_annotations = behind (write_value one.default) 0 of_default in
    let at_type = behind (frequency_words one.frequency) 0 other in λ i.
    let at_name = behind (type_written one.ty of_type i) 0 at_type in
    let at_default = drop 1 at_name in
    let at_annotations = behind (value_written one.default of_default i) 0 at_default in
    record {
      frequency = one.frequency;
      ty = type_twice one.ty of_type at_type i;
      name = placed_ident one.name at_name;
      default = value_twice one.default of_default at_default i;
      annotations = annotations_twice one.annotations of_annotations at_annotations i;
      span = place_of (tokens_of (parameter_written one tokens i) other);
    }

parameters_twice : (all : List Parameter) (tokens other : List Token) →
    placed_parameters (placed_parameters all tokens) other ≡ placed_parameters all other
parameters_twice all tokens other =
    each_twice write_parameter placed_parameter parameter_written parameter_twice 1 all
    (drop 1 tokens) (drop 1 other)

enum_value_twice : (one : EnumValue) (tokens other : List Token) →
    placed_enum_value (placed_enum_value one tokens) other ≡ placed_enum_value one other
enum_value_twice one tokens other = λ i. record {
  name = placed_ident one.name other;
  number = one.number;
  annotations = annotations_twice one.annotations (behind (write_number one.number) 1 tokens)
      (behind (write_number one.number) 1 other) i;
  span = place_of other;
}

-- declarations

material_twice : (exported : Bool) (name : Ident) (parameters : List Parameter)
    (annotations : Option (List Annotation)) (body : Tree) (span : Span)
    (tokens other : List Token) →
    placed_declaration
    (placed_declaration (material exported name parameters annotations body span) tokens) other
    ≡ placed_declaration (material exported name parameters annotations body span) other
material_twice exported name parameters annotations body span tokens other =
    let of_parameters = drop 1 (behind (export_words exported) 1 tokens) in
    let of_annotations = behind (write_parameters parameters) 0 of_parameters in
    let behind_annotations = behind (write_annotations annotations) 1 of_annotations in
    let of_body = tokens_of (write body) behind_annotations in
    let at_name = behind (export_words exported) 1 other in
    let at_parameters = drop 1 at_name in λ i.
    let at_annotations = behind (parameters_written parameters of_parameters i) 0 at_parameters in
    let at_body = behind (annotations_written annotations of_annotations i) 1 at_annotations in
    material exported (placed_ident name at_name)
    (parameters_twice parameters of_parameters at_parameters i)
    (annotations_twice annotations of_annotations at_annotations i)
    (placed_twice body of_body (tokens_of (written body of_body i) at_body) i) (place_of other)

variant_twice : (exported : Bool) (ty : TypeTree) (name : Ident)
    (annotations : Option (List Annotation)) (base : Name) (arguments : Arguments) (span : Span)
    (tokens other : List Token) →
    placed_declaration
    (placed_declaration (variant exported ty name annotations base arguments span) tokens) other
    ≡ placed_declaration (variant exported ty name annotations base arguments span) other
variant_twice exported ty name annotations base arguments span tokens other =
    let of_type = behind (export_words exported) 0 tokens in
    let of_annotations = drop 4 (behind (type_words ty) 0 of_type) in
    let of_base = behind (write_annotations annotations) 1 of_annotations in
    let of_arguments = behind (name_words base) 1 of_base in
    let at_type = behind (export_words exported) 0 other in λ i.
    let at_name = behind (type_written ty of_type i) 0 at_type in
    let at_annotations = drop 4 at_name in
    let at_base = behind (annotations_written annotations of_annotations i) 1 at_annotations in
    let at_arguments = behind (name_written base of_base i) 1 at_base in
    variant exported (type_twice ty of_type at_type i) (placed_ident name at_name)
    (annotations_twice annotations of_annotations at_annotations i)
    (name_twice base of_base at_base i) (arguments_twice arguments of_arguments at_arguments i)
    (place_of other)

function_twice : (exported : Bool) (ty : TypeTree) (name : Ident) (parameters : List Parameter)
    (frequency : Option Freq) (annotations : Option (List Annotation)) (body : Option Tree)
    (span : Span) (tokens other : List Token) →
    placed_declaration (placed_declaration
    (function exported ty name parameters frequency annotations body span) tokens) other
    ≡ placed_declaration
    (function exported ty name parameters frequency annotations body span) other
function_twice exported ty name parameters frequency annotations body span tokens other =
    let of_type = behind (export_words exported) 0 tokens in
    let of_parameters = drop 1 (behind (type_words ty) 0 of_type) in
    let of_frequency = behind (write_parameters parameters) 0 of_parameters in
    let of_annotations = behind (frequency_words frequency) 0 of_frequency in
    let of_body = behind (write_annotations annotations) 0 of_annotations in
    let at_type = behind (export_words exported) 0 other in λ i.
    let at_name = behind (type_written ty of_type i) 0 at_type in
    let at_parameters = drop 1 at_name in
    let at_frequency = behind (parameters_written parameters of_parameters i) 0 at_parameters in
    let at_annotations = behind (frequency_words frequency) 0 at_frequency in
    let at_body = behind (annotations_written annotations of_annotations i) 0 at_annotations in
    function exported (type_twice ty of_type at_type i) (placed_ident name at_name)
    (parameters_twice parameters of_parameters at_parameters i) frequency
    (annotations_twice annotations of_annotations at_annotations i)
    (value_twice body of_body at_body i) (place_of other)

structure_twice : (exported : Bool) (name : Ident) (annotations : Option (List Annotation))
    (fields : List Parameter) (span : Span) (tokens other : List Token) →
    placed_declaration
    (placed_declaration (structure exported name annotations fields span) tokens) other
    ≡ placed_declaration (structure exported name annotations fields span) other
structure_twice exported name annotations fields span tokens other =
    let of_annotations = drop 1 (behind (export_words exported) 1 tokens) in
    let of_fields = behind (write_annotations annotations) 1 of_annotations in
    let at_name = behind (export_words exported) 1 other in
    let at_annotations = drop 1 at_name in λ i.
    let at_fields = behind (annotations_written annotations of_annotations i) 1 at_annotations in
    structure exported (placed_ident name at_name)
    (annotations_twice annotations of_annotations at_annotations i)
    (each_twice write_field placed_parameter field_written parameter_twice 0 fields of_fields
    at_fields i) (place_of other)

enumeration_twice : (exported : Bool) (name : Ident) (annotations : Option (List Annotation))
    (values : List EnumValue) (span : Span) (tokens other : List Token) →
    placed_declaration
    (placed_declaration (enumeration exported name annotations values span) tokens) other
    ≡ placed_declaration (enumeration exported name annotations values span) other
enumeration_twice exported name annotations values span tokens other =
    let of_annotations = drop 1 (behind (export_words exported) 1 tokens) in
    let of_values = behind (write_annotations annotations) 1 of_annotations in
    let at_name = behind (export_words exported) 1 other in
    let at_annotations = drop 1 at_name in λ i.
    let at_values = behind (annotations_written annotations of_annotations i) 1 at_annotations in
    enumeration exported (placed_ident name at_name)
    (annotations_twice annotations of_annotations at_annotations i)
    (each_twice write_enum_value placed_enum_value enum_value_written enum_value_twice 1 values
    of_values at_values i) (place_of other)

declared_annotation_twice : (exported : Bool) (name : Ident) (parameters : List Parameter)
    (annotations : Option (List Annotation)) (span : Span) (tokens other : List Token) →
    placed_declaration
    (placed_declaration (annotation exported name parameters annotations span) tokens) other
    ≡ placed_declaration (annotation exported name parameters annotations span) other
declared_annotation_twice exported name parameters annotations span tokens other =
    let of_parameters = drop 1 (behind (export_words exported) 1 tokens) in
    let of_annotations = behind (write_parameters parameters) 0 of_parameters in
    let at_name = behind (export_words exported) 1 other in
    let at_parameters = drop 1 at_name in λ i.
    let at_annotations = behind (parameters_written parameters of_parameters i) 0 at_parameters in
    annotation exported (placed_ident name at_name)
    (parameters_twice parameters of_parameters at_parameters i)
    (annotations_twice annotations of_annotations at_annotations i) (place_of other)

declaration_twice : (one : Declaration) (tokens other : List Token) →
    placed_declaration (placed_declaration one tokens) other ≡ placed_declaration one other
declaration_twice (material exported name parameters annotations body span) tokens other =
    material_twice exported name parameters annotations body span tokens other
declaration_twice (variant exported ty name annotations base arguments span) tokens other =
    variant_twice exported ty name annotations base arguments span tokens other
declaration_twice (function exported ty name parameters frequency annotations body span) tokens
    other =
    function_twice exported ty name parameters frequency annotations body span tokens other
declaration_twice (structure exported name annotations fields span) tokens other =
    structure_twice exported name annotations fields span tokens other
declaration_twice (enumeration exported name annotations values span) tokens other =
    enumeration_twice exported name annotations values span tokens other
declaration_twice (annotation exported name parameters annotations span) tokens other =
    declared_annotation_twice exported name parameters annotations span tokens other

-- placed twice is placed once, with the second tokens
pub placed_module_twice : (tree : ModuleTree) (tokens other : List Token) →
    placed_module (placed_module tree tokens) other ≡ placed_module tree other
placed_module_twice tree tokens other =
    let of_imports = drop 3 tokens in
    let of_own = behind (write_each write_import tree.imports) 0 of_imports in
    let of_declarations = behind (write_own tree.annotations) 0 of_own in
    let at_imports = drop 3 other in λ i.
    let at_own = behind (each_written write_import placed_import import_written 0 tree.imports
    of_imports i) 0 at_imports in
    let at_declarations = behind (own_written tree.annotations of_own i) 0 at_own in
    record {
      version = placed_version tree.version (drop 1 other);
      imports = each_twice write_import placed_import import_written import_twice 0 tree.imports
          of_imports at_imports i;
      annotations = annotations_twice tree.annotations (drop 1 of_own) (drop 1 at_own) i;
      declarations = each_twice write_declaration placed_declaration declaration_written
          declaration_twice 0 tree.declarations of_declarations at_declarations i;
      span = place_of other;
    }

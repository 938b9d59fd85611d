-- The places of a module's parts among the tokens that it writes.
use Rattle.std.specs.Prelude.{◌≡◌, ℕ, ◌+◌, Bool, List, [], ◌∷◌, ◌++◌, Option, Some, None}
use Rattle.std.specs.Prelude.{length, take, drop}
use Rattle.std.specs.Prelude.{if◌then◌else◌}
use Rattle.mdl_lexer.specs.declared.token.Kind.{Kind}
use Rattle.mdl_lexer.specs.declared.token.Token.{Token}
use Rattle.mdl_syntax.specs.declared.names.Ident.{Ident}
use Rattle.mdl_syntax.specs.declared.imports.ModuleRef.{ModuleRef}
use Rattle.mdl_syntax.specs.declared.imports.Qualified.{Qualified}
use Rattle.mdl_syntax.specs.declared.imports.Import.{Import}
use Rattle.mdl_syntax.specs.declared.imports.Import.TheVariants as import_form
use Rattle.mdl_syntax.specs.declared.modules.VersionLit.{VersionLit}
use Rattle.mdl_syntax.specs.Trees.{Tree, Arguments}
use Rattle.mdl_syntax.specs.Words.{ident_word, name_words, type_words, frequency_words}
use Rattle.mdl_syntax.specs.Written.{write, write_arguments}
use Rattle.mdl_syntax.specs.Placed.{place_of, tokens_of, behind, placed_ident, placed_parts, placed_name}
use Rattle.mdl_syntax.specs.Placed.{placed_type, placed, placed_arguments}
use Rattle.mdl_syntax.specs.Modules.{Annotation, Parameter, EnumValue, Declaration, ModuleTree}
use Rattle.mdl_syntax.specs.Modules.{material, variant, function, structure, enumeration, annotation}
use Rattle.mdl_syntax.specs.WrittenModules.{write_several, write_each, lead_words, module_words}
use Rattle.mdl_syntax.specs.WrittenModules.{qualified_words, write_import, write_annotation, write_annotations}
use Rattle.mdl_syntax.specs.WrittenModules.{write_value, write_parameter, write_parameters, write_field}
use Rattle.mdl_syntax.specs.WrittenModules.{write_number, write_enum_value, export_words, write_declaration}
use Rattle.mdl_syntax.specs.WrittenModules.{write_own, write_module}

-- each of several at the tokens that it writes, with so many tokens between one and the next
abbrev pub placed_each : {A : Type 0} → (A → List Kind) → (A → List Token → A) → ℕ → List A → List Token → List A
placed_each write_one place_one between [] tokens = []
placed_each write_one place_one between (first ∷ more) tokens =
    place_one first (tokens_of (write_one first) tokens)
    ∷ placed_each write_one place_one between more (behind (write_one first) between tokens)

abbrev pub placed_module_name : ModuleRef → List Token → ModuleRef
placed_module_name name tokens = record {
  lead = name.lead;
  parts = placed_parts name.parts (behind (lead_words name.lead) 0 tokens);
  span = place_of (tokens_of (module_words name) tokens);
}

abbrev pub placed_last : Option Ident → List Token → Option Ident
placed_last None tokens = None
placed_last (Some name) tokens = Some (placed_ident name tokens)

abbrev pub placed_qualified : Qualified → List Token → Qualified
placed_qualified item tokens = record {
  «module» = placed_module_name item.module tokens;
  name = placed_last item.name (behind (module_words item.module) 1 tokens);
  span = place_of tokens;
}

abbrev pub placed_used : Option (List Ident) → List Token → Option (List Ident)
placed_used None tokens = None
placed_used (Some names) tokens =
    Some (placed_each (λ name. ident_word name ∷ []) placed_ident 1 names tokens)

abbrev pub placed_import : Import → List Token → Import
placed_import (import_form.Import items span) tokens =
    import_form.Import (placed_each qualified_words placed_qualified 1 items (drop 1 tokens)) (place_of tokens)
placed_import (import_form.Using name names span) tokens =
    import_form.Using (placed_module_name name (drop 1 tokens))
    (placed_used names (behind (module_words name) 2 tokens)) (place_of tokens)

abbrev pub placed_annotation : Annotation → List Token → Annotation
placed_annotation one tokens = record {
  name = placed_name one.name tokens;
  arguments = placed_arguments one.arguments (behind (name_words one.name) 1 tokens);
  span = place_of tokens;
}

abbrev pub placed_annotations : Option (List Annotation) → List Token → Option (List Annotation)
placed_annotations None tokens = None
placed_annotations (Some annotations) tokens =
    Some (placed_each write_annotation placed_annotation 1 annotations (drop 2 tokens))

abbrev pub placed_value : Option Tree → List Token → Option Tree
placed_value None tokens = None
placed_value (Some tree) tokens = Some (placed tree (tokens_of (write tree) (drop 1 tokens)))

abbrev pub placed_parameter : Parameter → List Token → Parameter
placed_parameter one tokens =
    let at_type = behind (frequency_words one.frequency) 0 tokens in
    let at_name = behind (type_words one.ty) 0 at_type in
    let at_default = drop 1 at_name in
    record {
      frequency = one.frequency;
      ty = placed_type one.ty at_type;
      name = placed_ident one.name at_name;
      default = placed_value one.default at_default;
      annotations = placed_annotations one.annotations (behind (write_value one.default) 0 at_default);
      span = place_of (tokens_of (write_parameter one) tokens);
    }

abbrev pub placed_enum_value : EnumValue → List Token → EnumValue
placed_enum_value one tokens = record {
  name = placed_ident one.name tokens;
  number = one.number;
  annotations = placed_annotations one.annotations (behind (write_number one.number) 1 tokens);
  span = place_of tokens;
}

-- behind `(`
abbrev pub placed_parameters : List Parameter → List Token → List Parameter
placed_parameters parameters tokens = placed_each write_parameter placed_parameter 1 parameters (drop 1 tokens)

abbrev pub placed_declaration : Declaration → List Token → Declaration
placed_declaration (material exported name parameters annotations body span) tokens =
    let at_name = behind (export_words exported) 1 tokens in
    let at_parameters = drop 1 at_name in
    let at_annotations = behind (write_parameters parameters) 0 at_parameters in
    material exported (placed_ident name at_name) (placed_parameters parameters at_parameters)
    (placed_annotations annotations at_annotations)
    (placed body (tokens_of (write body) (behind (write_annotations annotations) 1 at_annotations)))
    (place_of tokens)
placed_declaration (variant exported ty name annotations base arguments span) tokens =
    let at_type = behind (export_words exported) 0 tokens in
    let at_name = behind (type_words ty) 0 at_type in
    let at_annotations = drop 4 at_name in
    let at_base = behind (write_annotations annotations) 1 at_annotations in
    variant exported (placed_type ty at_type) (placed_ident name at_name)
    (placed_annotations annotations at_annotations) (placed_name base at_base)
    (placed_arguments arguments (behind (name_words base) 1 at_base)) (place_of tokens)
placed_declaration (function exported ty name parameters frequency annotations body span) tokens =
    let at_type = behind (export_words exported) 0 tokens in
    let at_name = behind (type_words ty) 0 at_type in
    let at_parameters = drop 1 at_name in
    let at_frequency = behind (write_parameters parameters) 0 at_parameters in
    let at_annotations = behind (frequency_words frequency) 0 at_frequency in
    function exported (placed_type ty at_type) (placed_ident name at_name)
    (placed_parameters parameters at_parameters) frequency (placed_annotations annotations at_annotations)
    (placed_value body (behind (write_annotations annotations) 0 at_annotations)) (place_of tokens)
placed_declaration (structure exported name annotations fields span) tokens =
    let at_name = behind (export_words exported) 1 tokens in
    let at_annotations = drop 1 at_name in
    structure exported (placed_ident name at_name) (placed_annotations annotations at_annotations)
    (placed_each write_field placed_parameter 0 fields (behind (write_annotations annotations) 1 at_annotations))
    (place_of tokens)
placed_declaration (enumeration exported name annotations values span) tokens =
    let at_name = behind (export_words exported) 1 tokens in
    let at_annotations = drop 1 at_name in
    enumeration exported (placed_ident name at_name) (placed_annotations annotations at_annotations)
    (placed_each write_enum_value placed_enum_value 1 values
    (behind (write_annotations annotations) 1 at_annotations))
    (place_of tokens)
placed_declaration (annotation exported name parameters annotations span) tokens =
    let at_name = behind (export_words exported) 1 tokens in
    let at_parameters = drop 1 at_name in
    annotation exported (placed_ident name at_name) (placed_parameters parameters at_parameters)
    (placed_annotations annotations (behind (write_parameters parameters) 0 at_parameters)) (place_of tokens)

-- behind `module`
abbrev pub placed_own : Option (List Annotation) → List Token → Option (List Annotation)
placed_own annotations tokens = placed_annotations annotations (drop 1 tokens)

abbrev pub placed_version : VersionLit → List Token → VersionLit
placed_version version tokens = record {
  text = version.text;
  double = version.double;
  span = place_of (take 1 tokens);
}

abbrev pub placed_module : ModuleTree → List Token → ModuleTree
placed_module tree tokens =
    let at_imports = drop 3 tokens in
    let at_own = behind (write_each write_import tree.imports) 0 at_imports in
    let at_declarations = behind (write_own tree.annotations) 0 at_own in
    record {
      version = placed_version tree.version (drop 1 tokens);
      imports = placed_each write_import placed_import 0 tree.imports at_imports;
      annotations = placed_own tree.annotations at_own;
      declarations = placed_each write_declaration placed_declaration 0 tree.declarations at_declarations;
      span = place_of tokens;
    }

-- modules that differ in their places alone
abbrev pub IsSameModule : ModuleTree → ModuleTree → Type 0
IsSameModule one other = (tokens : List Token) → placed_module one tokens ≡ placed_module other tokens

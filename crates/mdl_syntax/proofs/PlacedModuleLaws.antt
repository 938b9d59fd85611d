-- Places change no word of a module.
use Rattle.std.proofs.Common.{◌≡◌, ap, refl, ℕ, Bool, List, [], ◌∷◌, ◌++◌, Option, Some, None}
use Rattle.std.proofs.Common.{codes, drop}
use Rattle.mdl_lexer.specs.declared.token.Kind.{Kind}
use Rattle.mdl_lexer.specs.declared.token.Kind.TheVariants as kind
use Rattle.mdl_lexer.specs.declared.token.Token.{Token}
use Rattle.mdl_lexer.specs.Kinds.{mark_word, name_word}
use Rattle.mdl_syntax.specs.declared.names.Span.{Span}
use Rattle.mdl_syntax.specs.declared.names.Ident.{Ident}
use Rattle.mdl_syntax.specs.declared.names.Name.{Name}
use Rattle.mdl_syntax.specs.declared.types.TypeTree.{TypeTree}
use Rattle.mdl_syntax.specs.declared.types.Freq.{Freq}
use Rattle.mdl_syntax.specs.declared.imports.ModuleRef.{ModuleRef}
use Rattle.mdl_syntax.specs.declared.imports.Qualified.{Qualified}
use Rattle.mdl_syntax.specs.declared.imports.Import.{Import}
use Rattle.mdl_syntax.specs.declared.imports.Import.TheVariants as import_form
use Rattle.mdl_syntax.specs.Trees.{Tree, Arguments}
use Rattle.mdl_syntax.specs.Words.{ident_word, name_words, type_words, frequency_words}
use Rattle.mdl_syntax.specs.Written.{write}
use Rattle.mdl_syntax.specs.Modules.{Annotation, Parameter, EnumValue, Declaration, ModuleTree}
use Rattle.mdl_syntax.specs.Modules.{material, variant, function, structure, enumeration}
use Rattle.mdl_syntax.specs.Modules.{annotation}
use Rattle.mdl_syntax.specs.WrittenModules.{write_more, write_several, write_each, semicolon}
use Rattle.mdl_syntax.specs.WrittenModules.{lead_words, module_words, qualified_words, used_words}
use Rattle.mdl_syntax.specs.WrittenModules.{write_import, write_annotation, write_annotations}
use Rattle.mdl_syntax.specs.WrittenModules.{write_value, write_parameter, write_parameters}
use Rattle.mdl_syntax.specs.WrittenModules.{write_field, write_number, write_enum_value}
use Rattle.mdl_syntax.specs.WrittenModules.{export_words, write_declaration, write_own}
use Rattle.mdl_syntax.specs.WrittenModules.{write_module}
use Rattle.mdl_syntax.specs.Placed.{tokens_of, behind, placed_ident}
use Rattle.mdl_syntax.specs.PlacedModules.{placed_each, placed_module_name}
use Rattle.mdl_syntax.specs.PlacedModules.{placed_qualified, placed_used, placed_import}
use Rattle.mdl_syntax.specs.PlacedModules.{placed_annotation, placed_annotations, placed_value}
use Rattle.mdl_syntax.specs.PlacedModules.{placed_parameter, placed_enum_value, placed_parameters}
use Rattle.mdl_syntax.specs.PlacedModules.{placed_declaration, placed_own, placed_module}
use Rattle.mdl_syntax.proofs.PlacedLaws.{parts_written, name_written, type_written, written}
use Rattle.mdl_syntax.proofs.PlacedLaws.{arguments_written}

-- what places one without a change of its words places several so

more_written : {A : Type 0} (write_one : A → List Kind) (place_one : A → List Token → A) →
    ((one : A) (tokens : List Token) → write_one (place_one one tokens) ≡ write_one one) →
    (between : ℕ) (all : List A) (tokens : List Token) →
    write_more write_one (placed_each write_one place_one between all tokens)
    ≡ write_more write_one all
more_written write_one place_one keeps between [] tokens = refl
more_written write_one place_one keeps between (first ∷ more) tokens = λ i.
    mark_word (codes ",") ∷ (keeps first (tokens_of (write_one first) tokens) i
    ++ more_written write_one place_one keeps between more
    (behind (write_one first) between tokens) i)

several_written : {A : Type 0} (write_one : A → List Kind) (place_one : A → List Token → A) →
    ((one : A) (tokens : List Token) → write_one (place_one one tokens) ≡ write_one one) →
    (between : ℕ) (all : List A) (tokens : List Token) →
    write_several write_one (placed_each write_one place_one between all tokens)
    ≡ write_several write_one all
several_written write_one place_one keeps between [] tokens = refl
several_written write_one place_one keeps between (first ∷ more) tokens = λ i.
    keeps first (tokens_of (write_one first) tokens) i
    ++ more_written write_one place_one keeps between more
    (behind (write_one first) between tokens) i

pub each_written : {A : Type 0} (write_one : A → List Kind) (place_one : A → List Token → A) →
    ((one : A) (tokens : List Token) → write_one (place_one one tokens) ≡ write_one one) →
    (between : ℕ) (all : List A) (tokens : List Token) →
    write_each write_one (placed_each write_one place_one between all tokens)
    ≡ write_each write_one all
each_written write_one place_one keeps between [] tokens = refl
each_written write_one place_one keeps between (first ∷ more) tokens = λ i.
    keeps first (tokens_of (write_one first) tokens) i
    ++ each_written write_one place_one keeps between more
    (behind (write_one first) between tokens) i

-- imports

pub module_name_written : (name : ModuleRef) (tokens : List Token) →
    module_words (placed_module_name name tokens) ≡ module_words name
module_name_written name tokens = λ i.
    lead_words name.lead ++ parts_written name.parts (behind (lead_words name.lead) 0 tokens) i

qualified_parts : (own : ModuleRef) (name : Option Ident) (span : Span) (tokens : List Token) →
    qualified_words (placed_qualified (record { «module» = own; name = name; span = span }) tokens)
    ≡ qualified_words (record { «module» = own; name = name; span = span })
qualified_parts own None span tokens = λ i.
    module_name_written own tokens i ++ (mark_word (codes "::") ∷ mark_word (codes "*") ∷ [])
qualified_parts own (Some name) span tokens = λ i.
    module_name_written own tokens i ++ (mark_word (codes "::") ∷ ident_word name ∷ [])

pub qualified_written : (item : Qualified) (tokens : List Token) →
    qualified_words (placed_qualified item tokens) ≡ qualified_words item
qualified_written item tokens = qualified_parts item.module item.name item.span tokens

pub used_name_written : (name : Ident) (tokens : List Token) →
    ident_word (placed_ident name tokens) ∷ [] ≡ ident_word name ∷ []
used_name_written name tokens = refl

used_written : (names : Option (List Ident)) (tokens : List Token) →
    used_words (placed_used names tokens) ≡ used_words names
used_written None tokens = refl
used_written (Some names) tokens =
    several_written (λ name. ident_word name ∷ []) placed_ident used_name_written 1 names tokens

pub import_written : (one : Import) (tokens : List Token) →
    write_import (placed_import one tokens) ≡ write_import one
import_written (import_form.Import items span) tokens = λ i.
    name_word (codes "import")
    ∷ (several_written qualified_words placed_qualified qualified_written 1 items (drop 1 tokens) i
    ++ semicolon)
import_written (import_form.Using name names span) tokens = λ i.
    name_word (codes "using") ∷ (module_name_written name (drop 1 tokens) i
    ++ (name_word (codes "import") ∷ (used_written names (behind (module_words name) 2 tokens) i
    ++ semicolon)))

-- parts of declarations

pub annotation_written : (one : Annotation) (tokens : List Token) →
    write_annotation (placed_annotation one tokens) ≡ write_annotation one
annotation_written one tokens = λ i.
    name_written one.name tokens i ++ (mark_word (codes "(")
    ∷ (arguments_written one.arguments (behind (name_words one.name) 1 tokens) i
    ++ mark_word (codes ")") ∷ []))

pub annotations_written : (all : Option (List Annotation)) (tokens : List Token) →
    write_annotations (placed_annotations all tokens) ≡ write_annotations all
annotations_written None tokens = refl
annotations_written (Some all) tokens = λ i.
    mark_word (codes "[") ∷ mark_word (codes "[")
    ∷ (several_written write_annotation placed_annotation annotation_written 1 all (drop 2 tokens) i
    ++ mark_word (codes "]") ∷ mark_word (codes "]") ∷ [])

pub value_written : (value : Option Tree) (tokens : List Token) →
    write_value (placed_value value tokens) ≡ write_value value
value_written None tokens = refl
value_written (Some tree) tokens =
    ap (λ words. mark_word (codes "=") ∷ words)
    (written tree (tokens_of (write tree) (drop 1 tokens)))

pub parameter_written : (one : Parameter) (tokens : List Token) →
    write_parameter (placed_parameter one tokens) ≡ write_parameter one
parameter_written one tokens =
    let at_type = behind (frequency_words one.frequency) 0 tokens in
    let at_default = drop 1 (behind (type_words one.ty) 0 at_type) in
    let at_annotations = behind (write_value one.default) 0 at_default in λ i.
    frequency_words one.frequency ++ (type_written one.ty at_type i
    ++ (ident_word one.name ∷ (value_written one.default at_default i
    ++ annotations_written one.annotations at_annotations i)))

pub parameters_written : (all : List Parameter) (tokens : List Token) →
    write_parameters (placed_parameters all tokens) ≡ write_parameters all
parameters_written all tokens = λ i.
    mark_word (codes "(")
    ∷ (several_written write_parameter placed_parameter parameter_written 1 all (drop 1 tokens) i
    ++ mark_word (codes ")") ∷ [])

pub field_written : (one : Parameter) (tokens : List Token) →
    write_field (placed_parameter one tokens) ≡ write_field one
field_written one tokens = ap (λ words. words ++ semicolon) (parameter_written one tokens)

pub enum_value_written : (one : EnumValue) (tokens : List Token) →
    write_enum_value (placed_enum_value one tokens) ≡ write_enum_value one
enum_value_written one tokens = λ i.
    ident_word one.name ∷ (write_number one.number
    ++ annotations_written one.annotations (behind (write_number one.number) 1 tokens) i)

-- declarations

material_written : (exported : Bool) (name : Ident) (parameters : List Parameter)
    (annotations : Option (List Annotation)) (body : Tree) (span : Span) (tokens : List Token) →
    write_declaration
    (placed_declaration (material exported name parameters annotations body span) tokens)
    ≡ write_declaration (material exported name parameters annotations body span)
material_written exported name parameters annotations body span tokens =
    let at_parameters = drop 1 (behind (export_words exported) 1 tokens) in
    let at_annotations = behind (write_parameters parameters) 0 at_parameters in
    let at_body = behind (write_annotations annotations) 1 at_annotations in λ i.
    export_words exported ++ (name_word (codes "material") ∷ ident_word name
    ∷ (parameters_written parameters at_parameters i
    ++ (annotations_written annotations at_annotations i
    ++ (mark_word (codes "=") ∷ (written body (tokens_of (write body) at_body) i ++ semicolon)))))

variant_written : (exported : Bool) (ty : TypeTree) (name : Ident)
    (annotations : Option (List Annotation)) (base : Name) (arguments : Arguments) (span : Span)
    (tokens : List Token) →
    write_declaration
    (placed_declaration (variant exported ty name annotations base arguments span) tokens)
    ≡ write_declaration (variant exported ty name annotations base arguments span)
variant_written exported ty name annotations base arguments span tokens =
    let at_type = behind (export_words exported) 0 tokens in
    let at_annotations = drop 4 (behind (type_words ty) 0 at_type) in
    let at_base = behind (write_annotations annotations) 1 at_annotations in λ i.
    export_words exported ++ (type_written ty at_type i ++ (ident_word name ∷ mark_word (codes "(")
    ∷ mark_word (codes "*") ∷ mark_word (codes ")")
    ∷ (annotations_written annotations at_annotations i
    ++ (mark_word (codes "=") ∷ (name_written base at_base i ++ (mark_word (codes "(")
    ∷ (arguments_written arguments (behind (name_words base) 1 at_base) i
    ++ mark_word (codes ")") ∷ semicolon)))))))

function_written : (exported : Bool) (ty : TypeTree) (name : Ident) (parameters : List Parameter)
    (frequency : Option Freq) (annotations : Option (List Annotation)) (body : Option Tree)
    (span : Span) (tokens : List Token) →
    write_declaration (placed_declaration
    (function exported ty name parameters frequency annotations body span) tokens)
    ≡ write_declaration (function exported ty name parameters frequency annotations body span)
function_written exported ty name parameters frequency annotations body span tokens =
    let at_type = behind (export_words exported) 0 tokens in
    let at_parameters = drop 1 (behind (type_words ty) 0 at_type) in
    let at_frequency = behind (write_parameters parameters) 0 at_parameters in
    let at_annotations = behind (frequency_words frequency) 0 at_frequency in
    let at_body = behind (write_annotations annotations) 0 at_annotations in λ i.
    export_words exported ++ (type_written ty at_type i ++ (ident_word name
    ∷ (parameters_written parameters at_parameters i ++ (frequency_words frequency
    ++ (annotations_written annotations at_annotations i
    ++ (value_written body at_body i ++ semicolon))))))

structure_written : (exported : Bool) (name : Ident) (annotations : Option (List Annotation))
    (fields : List Parameter) (span : Span) (tokens : List Token) →
    write_declaration (placed_declaration (structure exported name annotations fields span) tokens)
    ≡ write_declaration (structure exported name annotations fields span)
structure_written exported name annotations fields span tokens =
    let at_annotations = drop 1 (behind (export_words exported) 1 tokens) in
    let at_fields = behind (write_annotations annotations) 1 at_annotations in λ i.
    export_words exported ++ (name_word (codes "struct") ∷ ident_word name
    ∷ (annotations_written annotations at_annotations i ++ (mark_word (codes "{")
    ∷ (each_written write_field placed_parameter field_written 0 fields at_fields i
    ++ mark_word (codes "}") ∷ semicolon))))

enumeration_written : (exported : Bool) (name : Ident) (annotations : Option (List Annotation))
    (values : List EnumValue) (span : Span) (tokens : List Token) →
    write_declaration
    (placed_declaration (enumeration exported name annotations values span) tokens)
    ≡ write_declaration (enumeration exported name annotations values span)
enumeration_written exported name annotations values span tokens =
    let at_annotations = drop 1 (behind (export_words exported) 1 tokens) in
    let at_values = behind (write_annotations annotations) 1 at_annotations in λ i.
    export_words exported ++ (name_word (codes "enum") ∷ ident_word name
    ∷ (annotations_written annotations at_annotations i ++ (mark_word (codes "{")
    ∷ (several_written write_enum_value placed_enum_value enum_value_written 1 values at_values i
    ++ mark_word (codes "}") ∷ semicolon))))

declared_annotation_written : (exported : Bool) (name : Ident) (parameters : List Parameter)
    (annotations : Option (List Annotation)) (span : Span) (tokens : List Token) →
    write_declaration
    (placed_declaration (annotation exported name parameters annotations span) tokens)
    ≡ write_declaration (annotation exported name parameters annotations span)
declared_annotation_written exported name parameters annotations span tokens =
    let at_parameters = drop 1 (behind (export_words exported) 1 tokens) in
    let at_annotations = behind (write_parameters parameters) 0 at_parameters in λ i.
    export_words exported ++ (name_word (codes "annotation") ∷ ident_word name
    ∷ (parameters_written parameters at_parameters i
    ++ (annotations_written annotations at_annotations i ++ semicolon)))

pub declaration_written : (one : Declaration) (tokens : List Token) →
    write_declaration (placed_declaration one tokens) ≡ write_declaration one
declaration_written (material exported name parameters annotations body span) tokens =
    material_written exported name parameters annotations body span tokens
declaration_written (variant exported ty name annotations base arguments span) tokens =
    variant_written exported ty name annotations base arguments span tokens
declaration_written (function exported ty name parameters frequency annotations body span) tokens =
    function_written exported ty name parameters frequency annotations body span tokens
declaration_written (structure exported name annotations fields span) tokens =
    structure_written exported name annotations fields span tokens
declaration_written (enumeration exported name annotations values span) tokens =
    enumeration_written exported name annotations values span tokens
declaration_written (annotation exported name parameters annotations span) tokens =
    declared_annotation_written exported name parameters annotations span tokens

-- modules

pub own_written : (all : Option (List Annotation)) (tokens : List Token) →
    write_own (placed_own all tokens) ≡ write_own all
own_written None tokens = refl
own_written (Some all) tokens =
    ap (λ words. name_word (codes "module") ∷ (words ++ semicolon))
    (annotations_written (Some all) (drop 1 tokens))

-- a placed module writes what the module writes
pub placed_module_same_words : (tree : ModuleTree) (tokens : List Token) →
    write_module (placed_module tree tokens) ≡ write_module tree
placed_module_same_words tree tokens =
    let at_imports = drop 3 tokens in
    let at_own = behind (write_each write_import tree.imports) 0 at_imports in
    let at_declarations = behind (write_own tree.annotations) 0 at_own in λ i.
    name_word (codes "mdl") ∷ kind.Real tree.version.text tree.version.double ∷ (semicolon
    ++ (each_written write_import placed_import import_written 0 tree.imports at_imports i
    ++ (own_written tree.annotations at_own i
    ++ each_written write_declaration placed_declaration declaration_written 0 tree.declarations
    at_declarations i)))

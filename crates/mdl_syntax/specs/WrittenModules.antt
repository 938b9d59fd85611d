-- The words that a module writes.
use Rattle.std.specs.Prelude.{ℕ, zero, suc, Bool, List, [], ◌∷◌, ◌++◌, Option, Some, None, codes}
use Rattle.std.specs.Prelude.{if◌then◌else◌}
use Rattle.mdl_lexer.specs.declared.token.Kind.{Kind}
use Rattle.mdl_lexer.specs.declared.token.Kind.TheVariants as kind
use Rattle.mdl_lexer.specs.Kinds.{mark_word, name_word}
use Rattle.mdl_syntax.specs.declared.names.Ident.{Ident}
use Rattle.mdl_syntax.specs.declared.imports.Lead.{Lead}
use Rattle.mdl_syntax.specs.declared.imports.Lead.TheVariants as lead
use Rattle.mdl_syntax.specs.declared.imports.ModuleRef.{ModuleRef}
use Rattle.mdl_syntax.specs.declared.imports.Qualified.{Qualified}
use Rattle.mdl_syntax.specs.declared.imports.Import.{Import}
use Rattle.mdl_syntax.specs.declared.imports.Import.TheVariants as import_form
use Rattle.mdl_syntax.specs.declared.modules.VersionLit.{VersionLit}
use Rattle.mdl_syntax.specs.Trees.{Tree}
use Rattle.mdl_syntax.specs.Words.{ident_word, parts_words, name_words, type_words, frequency_words}
use Rattle.mdl_syntax.specs.Written.{number_words, write, write_arguments}
use Rattle.mdl_syntax.specs.Modules.{Annotation, Parameter, EnumValue, Declaration, ModuleTree}
use Rattle.mdl_syntax.specs.Modules.{material, variant, function, structure, enumeration, annotation}

-- the words of several, with commas between them
abbrev pub write_more : {A : Type 0} → (A → List Kind) → List A → List Kind
write_more write_one [] = []
write_more write_one (first ∷ more) = mark_word (codes ",") ∷ (write_one first ++ write_more write_one more)

abbrev pub write_several : {A : Type 0} → (A → List Kind) → List A → List Kind
write_several write_one [] = []
write_several write_one (first ∷ more) = write_one first ++ write_more write_one more

-- the words of several, each with its own end
abbrev pub write_each : {A : Type 0} → (A → List Kind) → List A → List Kind
write_each write_one [] = []
write_each write_one (first ∷ more) = write_one first ++ write_each write_one more

abbrev pub semicolon : List Kind
semicolon = mark_word (codes ";") ∷ []

-- so many `..::`
abbrev pub up_words : ℕ → List Kind
up_words zero = []
up_words (suc steps) =
    mark_word (codes ".") ∷ mark_word (codes ".") ∷ mark_word (codes "::") ∷ up_words steps

abbrev pub lead_words : Lead → List Kind
lead_words lead.Bare = []
lead_words lead.Absolute = mark_word (codes "::") ∷ []
lead_words lead.Here = mark_word (codes ".") ∷ mark_word (codes "::") ∷ []
lead_words (lead.Up steps) = up_words steps

abbrev pub module_words : ModuleRef → List Kind
module_words name = lead_words name.lead ++ parts_words name.parts

-- a name of a module, or `*` for all
abbrev pub qualified_words : Qualified → List Kind
qualified_words item = module_words item.module ++ (mark_word (codes "::") ∷ named_or_all item.name)
  where
    named_or_all : Option Ident → List Kind
    named_or_all None = mark_word (codes "*") ∷ []
    named_or_all (Some name) = ident_word name ∷ []

abbrev pub used_words : Option (List Ident) → List Kind
used_words None = mark_word (codes "*") ∷ []
used_words (Some names) = write_several (λ name. ident_word name ∷ []) names

abbrev pub write_import : Import → List Kind
write_import (import_form.Import items span) =
    name_word (codes "import") ∷ (write_several qualified_words items ++ semicolon)
write_import (import_form.Using name names span) =
    name_word (codes "using") ∷ (module_words name ++ (name_word (codes "import") ∷ (used_words names ++
    semicolon)))

abbrev pub write_annotation : Annotation → List Kind
write_annotation one =
    name_words one.name ++ (mark_word (codes "(") ∷ (write_arguments one.arguments ++ mark_word (codes ")") ∷
    []))

abbrev pub write_annotations : Option (List Annotation) → List Kind
write_annotations None = []
write_annotations (Some annotations) =
    mark_word (codes "[") ∷ mark_word (codes "[") ∷ (write_several write_annotation annotations
    ++ mark_word (codes "]") ∷ mark_word (codes "]") ∷ [])

-- `=` and an expression
abbrev pub write_value : Option Tree → List Kind
write_value None = []
write_value (Some tree) = mark_word (codes "=") ∷ write tree

abbrev pub write_parameter : Parameter → List Kind
write_parameter one =
    frequency_words one.frequency ++ (type_words one.ty ++ (ident_word one.name ∷ (write_value one.default
    ++ write_annotations one.annotations)))

abbrev pub write_parameters : List Parameter → List Kind
write_parameters parameters =
    mark_word (codes "(") ∷ (write_several write_parameter parameters ++ mark_word (codes ")") ∷ [])

abbrev pub write_field : Parameter → List Kind
write_field one = write_parameter one ++ semicolon

-- `=` and a number
abbrev pub write_number : Option ℕ → List Kind
write_number None = []
write_number (Some number) = mark_word (codes "=") ∷ kind.Int number ∷ []

abbrev pub write_enum_value : EnumValue → List Kind
write_enum_value one = ident_word one.name ∷ (write_number one.number ++ write_annotations one.annotations)

abbrev pub export_words : Bool → List Kind
export_words exported = if exported then name_word (codes "export") ∷ [] else []

abbrev pub write_declaration : Declaration → List Kind
write_declaration (material exported name parameters annotations body span) =
    export_words exported ++ (name_word (codes "material") ∷ ident_word name ∷ (write_parameters parameters
    ++ (write_annotations annotations ++ (mark_word (codes "=") ∷ (write body ++ semicolon)))))
write_declaration (variant exported ty name annotations base arguments span) =
    export_words exported ++ (type_words ty ++ (ident_word name ∷ mark_word (codes "(") ∷ mark_word (codes "*")
    ∷ mark_word (codes ")") ∷ (write_annotations annotations ++ (mark_word (codes "=") ∷ (name_words base
    ++ (mark_word (codes "(") ∷ (write_arguments arguments ++ mark_word (codes ")") ∷ semicolon)))))))
write_declaration (function exported ty name parameters frequency annotations body span) =
    export_words exported ++ (type_words ty ++ (ident_word name ∷ (write_parameters parameters
    ++ (frequency_words frequency ++ (write_annotations annotations ++ (write_value body ++ semicolon))))))
write_declaration (structure exported name annotations fields span) =
    export_words exported ++ (name_word (codes "struct") ∷ ident_word name ∷ (write_annotations annotations
    ++ (mark_word (codes "{") ∷ (write_each write_field fields ++ mark_word (codes "}") ∷ semicolon))))
write_declaration (enumeration exported name annotations values span) =
    export_words exported ++ (name_word (codes "enum") ∷ ident_word name ∷ (write_annotations annotations
    ++ (mark_word (codes "{") ∷ (write_several write_enum_value values ++ mark_word (codes "}") ∷ semicolon))))
write_declaration (annotation exported name parameters annotations span) =
    export_words exported ++ (name_word (codes "annotation") ∷ ident_word name ∷ (write_parameters parameters
    ++ (write_annotations annotations ++ semicolon)))

-- the annotations of the module itself
abbrev pub write_own : Option (List Annotation) → List Kind
write_own None = []
write_own (Some annotations) =
    name_word (codes "module") ∷ (write_annotations (Some annotations) ++ semicolon)

abbrev pub write_module : ModuleTree → List Kind
write_module tree =
    name_word (codes "mdl") ∷ kind.Real tree.version.text tree.version.double ∷ (semicolon
    ++ (write_each write_import tree.imports ++ (write_own tree.annotations
    ++ write_each write_declaration tree.declarations)))

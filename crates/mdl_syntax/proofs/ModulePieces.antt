-- The lists of a module, written piece by piece.
use Rattle.std.proofs.Common.{◌≡◌, ◌∙◌, ap, refl, arith, ℕ, zero, suc, ◌+◌, List, [], ◌∷◌, ◌++◌, map, codes}
use Rattle.std.proofs.lemmas.Grind.{common_steps}
use Rattle.std.specs.List.{flat_map}
use Rattle.mdl_lexer.specs.declared.token.Kind.{Kind}
use Rattle.mdl_lexer.specs.Kinds.{mark_word}
use Rattle.mdl_syntax.specs.declared.names.Ident.{Ident}
use Rattle.mdl_syntax.specs.declared.imports.Qualified.{Qualified}
use Rattle.mdl_syntax.specs.declared.imports.Import.{Import}
use Rattle.mdl_syntax.specs.declared.declarations.Anno.{Anno}
use Rattle.mdl_syntax.specs.declared.declarations.Param.{Param}
use Rattle.mdl_syntax.specs.declared.declarations.EnumItem.{EnumItem}
use Rattle.mdl_syntax.specs.declared.declarations.Decl.{Decl}
use Rattle.mdl_syntax.specs.Words.{ident_word}
use Rattle.mdl_syntax.specs.Modules.{annotation_of, parameter_of, enum_value_of, declaration_of}
use Rattle.mdl_syntax.specs.WrittenModules.{write_more, write_each, up_words, qualified_words}
use Rattle.mdl_syntax.specs.WrittenModules.{write_import, write_annotation, write_parameter, write_field}
use Rattle.mdl_syntax.specs.WrittenModules.{write_enum_value, write_declaration}

-- a name, an import and so on behind others
abbrev pub next_name : Ident → List Kind
next_name name = mark_word (codes ",") ∷ ident_word name ∷ []

abbrev pub next_item : Qualified → List Kind
next_item item = mark_word (codes ",") ∷ qualified_words item

abbrev pub next_annotation : Anno → List Kind
next_annotation anno = mark_word (codes ",") ∷ write_annotation (annotation_of anno)

abbrev pub next_parameter : Param → List Kind
next_parameter param = mark_word (codes ",") ∷ write_parameter (parameter_of param)

abbrev pub next_value : EnumItem → List Kind
next_value item = mark_word (codes ",") ∷ write_enum_value (enum_value_of item)

abbrev pub one_field : Param → List Kind
one_field param = write_field (parameter_of param)

abbrev pub one_declaration : Decl → List Kind
one_declaration decl = write_declaration (declaration_of decl)

-- one `..::`
abbrev pub one_step : List Kind
one_step = mark_word (codes ".") ∷ mark_word (codes ".") ∷ mark_word (codes "::") ∷ []

more_in_pieces : {A B : Type 0} (write_one : B → List Kind) (of : A → B) (list : List A) →
    write_more write_one (map of list)
    ≡ flat_map (λ one. mark_word (codes ",") ∷ write_one (of one)) list
more_in_pieces write_one of [] = refl
more_in_pieces write_one of (first ∷ more) =
    ap (λ rest. mark_word (codes ",") ∷ (write_one (of first) ++ rest)) (more_in_pieces write_one of more)

each_in_pieces : {A B : Type 0} (write_one : B → List Kind) (of : A → B) (list : List A) →
    write_each write_one (map of list) ≡ flat_map (λ one. write_one (of one)) list
each_in_pieces write_one of [] = refl
each_in_pieces write_one of (first ∷ more) =
    ap (λ rest. write_one (of first) ++ rest) (each_in_pieces write_one of more)

pub names_in_pieces : (names : List Ident) →
    write_more (λ name. ident_word name ∷ []) names ≡ flat_map next_name names
names_in_pieces [] = refl
names_in_pieces (name ∷ names) = ap (λ rest. next_name name ++ rest) (names_in_pieces names)

pub items_in_pieces : (items : List Qualified) →
    write_more qualified_words items ≡ flat_map next_item items
items_in_pieces [] = refl
items_in_pieces (item ∷ items) = ap (λ rest. next_item item ++ rest) (items_in_pieces items)

pub imports_in_pieces : (imports : List Import) →
    write_each write_import imports ≡ flat_map write_import imports
imports_in_pieces [] = refl
imports_in_pieces (import ∷ imports) = ap (λ rest. write_import import ++ rest) (imports_in_pieces imports)

pub annotations_in_pieces : (annos : List Anno) →
    write_more write_annotation (map annotation_of annos) ≡ flat_map next_annotation annos
annotations_in_pieces = more_in_pieces write_annotation annotation_of

pub parameters_in_pieces : (params : List Param) →
    write_more write_parameter (map parameter_of params) ≡ flat_map next_parameter params
parameters_in_pieces = more_in_pieces write_parameter parameter_of

pub values_in_pieces : (items : List EnumItem) →
    write_more write_enum_value (map enum_value_of items) ≡ flat_map next_value items
values_in_pieces = more_in_pieces write_enum_value enum_value_of

pub fields_in_pieces : (params : List Param) →
    write_each write_field (map parameter_of params) ≡ flat_map one_field params
fields_in_pieces = each_in_pieces write_field parameter_of

pub declarations_in_pieces : (decls : List Decl) →
    write_each write_declaration (map declaration_of decls) ≡ flat_map one_declaration decls
declarations_in_pieces = each_in_pieces write_declaration declaration_of

step_more : (steps : ℕ) → up_words (suc steps) ≡ up_words steps ++ one_step
step_more zero = refl
step_more (suc steps) = ap (λ rest. one_step ++ rest) (step_more steps)

pub one_step_more : (steps : ℕ) → up_words (steps + 1) ≡ up_words steps ++ one_step
one_step_more steps =
    let behind : steps + 1 ≡ suc steps = omega (arith) in
    ap up_words behind ∙ step_more steps

pub ruleset module_pieces = (
  common_steps,
  names_in_pieces,
  items_in_pieces,
  imports_in_pieces,
  annotations_in_pieces,
  parameters_in_pieces,
  values_in_pieces,
  fields_in_pieces,
  declarations_in_pieces,
  one_step_more,
)

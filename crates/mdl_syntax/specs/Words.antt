-- The words that the parts of a tree write: literals, names, types.
use Rattle.std.specs.Prelude.{List, [], ◌∷◌, ◌++◌, Option, Some, None, codes, if◌then◌else◌}
use Rattle.mdl_lexer.specs.Kinds.{name_word, mark_word}
use Rattle.mdl_lexer.specs.declared.token.Kind.{Kind}
use Rattle.mdl_lexer.specs.declared.token.Kind.TheVariants as kind
use Rattle.mdl_syntax.specs.declared.names.Ident.{Ident}
use Rattle.mdl_syntax.specs.declared.names.Name.{Name}
use Rattle.mdl_syntax.specs.declared.names.NameForm.{NameForm}
use Rattle.mdl_syntax.specs.declared.names.NameForm.TheVariants as form
use Rattle.mdl_syntax.specs.declared.types.Size.{Size}
use Rattle.mdl_syntax.specs.declared.types.Size.TheVariants as size
use Rattle.mdl_syntax.specs.declared.types.TypeTree.{TypeTree}
use Rattle.mdl_syntax.specs.declared.types.Freq.{Freq}
use Rattle.mdl_syntax.specs.declared.types.Freq.TheVariants as freq
use Rattle.mdl_syntax.specs.declared.expressions.Lit.{Lit}
use Rattle.mdl_syntax.specs.declared.expressions.Lit.TheVariants as lit

abbrev pub literal_word : Lit → Kind
literal_word (lit.Bool value) = if value then name_word (codes "true") else name_word (codes "false")
literal_word (lit.Int value) = kind.Int value
literal_word (lit.Real text double) = kind.Real text double
literal_word (lit.Str text) = kind.Str text

abbrev pub ident_word : Ident → Kind
ident_word ident = kind.Word ident.text

-- identifiers with `::` between them
abbrev pub parts_words : List Ident → List Kind
parts_words [] = []
parts_words (part ∷ []) = ident_word part ∷ []
parts_words (part ∷ next ∷ parts) = ident_word part ∷ mark_word (codes "::") ∷ parts_words (next ∷ parts)

abbrev pub form_words : NameForm → List Kind
form_words (form.Parts absolute parts) =
    if absolute then mark_word (codes "::") ∷ parts_words parts else parts_words parts
form_words (form.Word number) = kind.Reserved number ∷ []

abbrev pub name_words : Name → List Kind
name_words name = form_words name.form

abbrev pub size_words : Size → List Kind
size_words size.One = []
size_words (size.Sized number) = mark_word (codes "[") ∷ kind.Int number ∷ mark_word (codes "]") ∷ []
size_words (size.Deferred name) =
    mark_word (codes "[") ∷ mark_word (codes "<") ∷ ident_word name ∷ mark_word (codes ">") ∷ mark_word
    (codes "]") ∷ []

abbrev pub type_words : TypeTree → List Kind
type_words ty = name_words ty.name ++ size_words ty.size

abbrev pub frequency_words : Option Freq → List Kind
frequency_words None = []
frequency_words (Some freq.Uniform) = name_word (codes "uniform") ∷ []
frequency_words (Some freq.Varying) = name_word (codes "varying") ∷ []

-- Places change no word.
use Rattle.std.proofs.Common.{◌≡◌, ap, refl, true, false, List, [], ◌∷◌, ◌++◌, Option, Some, None, codes}
use Rattle.std.proofs.Common.{drop}
use Rattle.mdl_lexer.specs.declared.token.Kind.TheVariants as kind
use Rattle.mdl_lexer.specs.declared.token.Token.{Token}
use Rattle.mdl_syntax.specs.declared.names.Ident.{Ident}
use Rattle.mdl_syntax.specs.declared.names.Name.{Name}
use Rattle.mdl_syntax.specs.declared.names.NameForm.{NameForm}
use Rattle.mdl_syntax.specs.declared.names.NameForm.TheVariants as form
use Rattle.mdl_syntax.specs.declared.types.Size.{Size}
use Rattle.mdl_syntax.specs.declared.types.Size.TheVariants as size
use Rattle.mdl_syntax.specs.declared.types.TypeTree.{TypeTree}
use Rattle.mdl_lexer.specs.Kinds.{mark_word, name_word}
use Rattle.mdl_syntax.specs.Words.{ident_word, parts_words, form_words, name_words, size_words}
use Rattle.mdl_syntax.specs.Words.{type_words, frequency_words}
use Rattle.mdl_syntax.specs.Written.{number_words, label_words, write, write_trees, write_more_trees}
use Rattle.mdl_syntax.specs.Written.{write_arguments, write_more_arguments, write_initializers}
use Rattle.mdl_syntax.specs.Placed.{tokens_of, behind, placed_parts, placed_form, placed_name, placed_size}
use Rattle.mdl_syntax.specs.Placed.{placed_type, placed_label, placed, placed_trees, placed_arguments}
use Rattle.mdl_syntax.specs.Placed.{placed_initializers}
use Rattle.mdl_syntax.specs.Trees.{Tree, literal, named, parenthesized, unary, binary, conditional, indexed}
use Rattle.mdl_syntax.specs.Trees.{field, call, array, binding, Trees, no_trees, tree_and}
use Rattle.mdl_syntax.specs.Trees.{Arguments, no_arguments, argument_and, Initializers, no_initializers}
use Rattle.mdl_syntax.specs.Trees.{initializer_and}

pub parts_written : (parts : List Ident) (tokens : List Token) →
    parts_words (placed_parts parts tokens) ≡ parts_words parts
parts_written [] tokens = refl
parts_written (part ∷ []) tokens = refl
parts_written (part ∷ next ∷ parts) tokens =
    ap (λ words. ident_word part ∷ mark_word (codes "::") ∷ words) (parts_written (next ∷ parts) (drop 2
    tokens))

form_written : (own : NameForm) (tokens : List Token) → form_words (placed_form own tokens) ≡ form_words own
form_written (form.Parts true parts) tokens =
    ap (λ words. mark_word (codes "::") ∷ words) (parts_written parts (drop 1 tokens))
form_written (form.Parts false parts) tokens = parts_written parts tokens
form_written (form.Word number) tokens = refl

pub name_written : (name : Name) (tokens : List Token) → name_words (placed_name name tokens) ≡ name_words name
name_written name tokens = form_written name.form tokens

size_written : (own : Size) (tokens : List Token) → size_words (placed_size own tokens) ≡ size_words own
size_written size.One tokens = refl
size_written (size.Sized number) tokens = refl
size_written (size.Deferred name) tokens = refl

pub type_written : (ty : TypeTree) (tokens : List Token) → type_words (placed_type ty tokens) ≡ type_words ty
type_written ty tokens = λ i.
    name_written ty.name tokens i ++ size_written ty.size (behind (name_words ty.name) 0 tokens) i

pub label_written : (name : Option Ident) (tokens : List Token) →
    label_words (placed_label name tokens) ≡ label_words name
label_written None tokens = refl
label_written (Some name) tokens = refl

mutual
  -- a placed tree writes what the tree writes
  pub written : (tree : Tree) (tokens : List Token) → write (placed tree tokens) ≡ write tree
  written (literal lit span) tokens = refl
  written (named name span) tokens = name_written name tokens
  written (parenthesized inner span) tokens =
      ap (λ words. mark_word (codes "(") ∷ (words ++ mark_word (codes ")") ∷ []))
      (written inner (tokens_of (write inner) (drop 1 tokens)))
  written (unary op operand span) tokens = ap (λ words. kind.Mark op ∷ words) (written operand (drop 1
      tokens))
  written (binary op left right span) tokens = λ i.
      written left (tokens_of (write left) tokens) i
      ++ (kind.Mark op ∷ written right (behind (write left) 1 tokens) i)
  written (conditional test one other span) tokens =
      let at_one = behind (write test) 1 tokens in λ i.
      written test (tokens_of (write test) tokens) i
      ++ (mark_word (codes "?") ∷ (written one (tokens_of (write one) at_one) i
      ++ (mark_word (codes ":") ∷ written other (behind (write one) 1 at_one) i)))
  written (indexed of at span) tokens = λ i.
      written of (tokens_of (write of) tokens) i
      ++ (mark_word (codes "[") ∷ (written at (tokens_of (write at) (behind (write of) 1 tokens)) i
      ++ mark_word (codes "]") ∷ []))
  written (field of name span) tokens =
      ap (λ words. words ++ (mark_word (codes ".") ∷ ident_word name ∷ [])) (written of (tokens_of (write of)
      tokens))
  written (call name arguments span) tokens = λ i.
      name_written name tokens i
      ++ (mark_word (codes "(") ∷ (arguments_written arguments (behind (name_words name) 1 tokens) i
      ++ mark_word (codes ")") ∷ []))
  written (array name own elements span) tokens = λ i.
      name_written name tokens i ++ (mark_word (codes "[") ∷ (number_words own
      ++ (mark_word (codes "]") ∷ mark_word (codes "(")
      ∷ (trees_written elements (behind (name_words name ++ number_words own) 3 tokens) i ++ mark_word (codes
      ")") ∷ []))))
  written (binding true initializers body span) tokens =
      let at_first = drop 2 tokens in λ i.
      name_word (codes "let") ∷ mark_word (codes "{") ∷ (initializers_written initializers at_first i
      ++ (mark_word (codes "}") ∷ name_word (codes "in") ∷ written body (behind (write_initializers
      initializers) 2 at_first) i))
  written (binding false initializers body span) tokens =
      let at_first = drop 1 tokens in λ i.
      name_word (codes "let") ∷ (initializers_written initializers at_first i
      ++ (name_word (codes "in") ∷ written body (behind (write_initializers initializers) 1 at_first) i))

  trees_written : (trees : Trees) (tokens : List Token) →
      write_trees (placed_trees trees tokens) ≡ write_trees trees
  trees_written no_trees tokens = refl
  trees_written (tree_and tree trees) tokens = λ i.
      written tree (tokens_of (write tree) tokens) i ++ more_trees_written trees (behind (write tree) 1
      tokens) i

  more_trees_written : (trees : Trees) (tokens : List Token) →
      write_more_trees (placed_trees trees tokens) ≡ write_more_trees trees
  more_trees_written no_trees tokens = refl
  more_trees_written (tree_and tree trees) tokens = λ i.
      mark_word (codes ",") ∷ (written tree (tokens_of (write tree) tokens) i
      ++ more_trees_written trees (behind (write tree) 1 tokens) i)

  pub arguments_written : (arguments : Arguments) (tokens : List Token) →
      write_arguments (placed_arguments arguments tokens) ≡ write_arguments arguments
  arguments_written no_arguments tokens = refl
  arguments_written (argument_and name value span arguments) tokens =
      let own = label_words name ++ write value in λ i.
      label_written name tokens i
      ++ (written value (tokens_of (write value) (behind (label_words name) 0 tokens)) i
      ++ more_arguments_written arguments (behind own 1 tokens) i)

  more_arguments_written : (arguments : Arguments) (tokens : List Token) →
      write_more_arguments (placed_arguments arguments tokens) ≡ write_more_arguments arguments
  more_arguments_written no_arguments tokens = refl
  more_arguments_written (argument_and name value span arguments) tokens =
      let own = label_words name ++ write value in λ i.
      mark_word (codes ",") ∷ (label_written name tokens i
      ++ (written value (tokens_of (write value) (behind (label_words name) 0 tokens)) i
      ++ more_arguments_written arguments (behind own 1 tokens) i))

  pub initializers_written : (initializers : Initializers) (tokens : List Token) →
      write_initializers (placed_initializers initializers tokens) ≡ write_initializers initializers
  initializers_written no_initializers tokens = refl
  initializers_written (initializer_and frequency ty name value span initializers) tokens =
      let at_type = behind (frequency_words frequency) 0 tokens in
      let at_value = drop 2 (behind (type_words ty) 0 at_type) in
      let own = frequency_words frequency ++ (type_words ty ++ write value) in λ i.
      frequency_words frequency ++ (type_written ty at_type i
      ++ (ident_word name ∷ mark_word (codes "=") ∷ (written value (tokens_of (write value) at_value) i
      ++ (mark_word (codes ";") ∷ initializers_written initializers (behind own 3 tokens) i))))

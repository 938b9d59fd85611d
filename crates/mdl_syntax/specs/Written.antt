-- The words that an expression writes.
use Rattle.std.specs.Prelude.{ℕ, List, [], ◌∷◌, ◌++◌, Option, Some, None, codes, if◌then◌else◌}
use Rattle.mdl_lexer.specs.declared.token.Kind.{Kind}
use Rattle.mdl_lexer.specs.declared.token.Kind.TheVariants as kind
use Rattle.mdl_syntax.specs.declared.names.Ident.{Ident}
use Rattle.mdl_lexer.specs.Kinds.{mark_word, name_word}
use Rattle.mdl_syntax.specs.Words.{literal_word, ident_word, name_words, type_words, frequency_words}
use Rattle.mdl_syntax.specs.Trees.{Tree, literal, named, parenthesized, unary, binary, conditional, indexed}
use Rattle.mdl_syntax.specs.Trees.{field, call, array, binding, Trees, no_trees, tree_and}
use Rattle.mdl_syntax.specs.Trees.{Arguments, no_arguments, argument_and, Initializers, no_initializers}
use Rattle.mdl_syntax.specs.Trees.{initializer_and}

abbrev pub number_words : Option ℕ → List Kind
number_words None = []
number_words (Some number) = kind.Int number ∷ []

-- the name of an argument, and `:`
abbrev pub label_words : Option Ident → List Kind
label_words None = []
label_words (Some name) = ident_word name ∷ mark_word (codes ":") ∷ []

abbrev mutual
  pub write : Tree → List Kind
  write (literal lit span) = literal_word lit ∷ []
  write (named name span) = name_words name
  write (parenthesized inner span) = mark_word (codes "(") ∷ (write inner ++ mark_word (codes ")") ∷ [])
  write (unary op operand span) = kind.Mark op ∷ write operand
  write (binary op left right span) = write left ++ (kind.Mark op ∷ write right)
  write (conditional test one other span) =
      write test ++ (mark_word (codes "?") ∷ (write one ++ (mark_word (codes ":") ∷ write other)))
  write (indexed of at span) = write of ++ (mark_word (codes "[") ∷ (write at ++ mark_word (codes "]") ∷ []))
  write (field of name span) = write of ++ (mark_word (codes ".") ∷ ident_word name ∷ [])
  write (call name arguments span) =
      name_words name ++ (mark_word (codes "(") ∷ (write_arguments arguments ++ mark_word (codes ")") ∷ []))
  write (array name size elements span) =
      name_words name ++ (mark_word (codes "[") ∷ (number_words size
      ++ (mark_word (codes "]") ∷ mark_word (codes "(") ∷ (write_trees elements ++ mark_word (codes ")") ∷
      []))))
  write (binding braces initializers body span) =
      name_word (codes "let") ∷ (if braces
      then mark_word (codes "{") ∷ (write_initializers initializers
      ++ (mark_word (codes "}") ∷ name_word (codes "in") ∷ write body))
      else write_initializers initializers ++ (name_word (codes "in") ∷ write body))

  -- elements, and arguments, have commas between them
  pub write_trees : Trees → List Kind
  write_trees no_trees = []
  write_trees (tree_and tree trees) = write tree ++ write_more_trees trees

  pub write_more_trees : Trees → List Kind
  write_more_trees no_trees = []
  write_more_trees (tree_and tree trees) = mark_word (codes ",") ∷ (write tree ++ write_more_trees trees)

  pub write_arguments : Arguments → List Kind
  write_arguments no_arguments = []
  write_arguments (argument_and name value span arguments) =
      label_words name ++ (write value ++ write_more_arguments arguments)

  pub write_more_arguments : Arguments → List Kind
  write_more_arguments no_arguments = []
  write_more_arguments (argument_and name value span arguments) =
      mark_word (codes ",") ∷ (label_words name ++ (write value ++ write_more_arguments arguments))

  -- each initializer ends with `;`
  pub write_initializers : Initializers → List Kind
  write_initializers no_initializers = []
  write_initializers (initializer_and frequency ty name value span initializers) =
      frequency_words frequency ++ (type_words ty ++ (ident_word name ∷ mark_word (codes "=") ∷ (write value
      ++ (mark_word (codes ";") ∷ write_initializers initializers))))

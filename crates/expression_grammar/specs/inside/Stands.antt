-- Which tokens a tree and its parts stand for: those that it writes, with their places.
use Rattle.std.specs.Prelude.{◌≡◌, List, [], Option}
use Rattle.mdl_lexer.specs.declared.token.Token.{Token}
use Rattle.mdl_syntax.specs.declared.names.Ident.{Ident}
use Rattle.mdl_syntax.specs.declared.names.Name.{Name}
use Rattle.mdl_syntax.specs.declared.types.TypeTree.{TypeTree}
use Rattle.mdl_syntax.specs.Trees.{Tree, Argument, Initializer, arguments_of, trees_of, initializers_of}
use Rattle.mdl_syntax.specs.Words.{name_words, type_words}
use Rattle.mdl_syntax.specs.Written.{write, label_words, write_arguments, write_trees, write_initializers}
use Rattle.mdl_syntax.specs.Placed.{placed, placed_name, placed_type, placed_label, placed_arguments}
use Rattle.mdl_syntax.specs.Placed.{placed_trees, placed_initializers}
use Rattle.expression_grammar.specs.Readings.{kinds}

pub record Stands (tree : Tree) (tokens : List Token) : Type 0 where
  pub writes : write tree ≡ kinds tokens
  pub places : placed tree tokens ≡ tree
  pub some : tokens ≡ [] → ⊥

pub record NameStands (name : Name) (tokens : List Token) : Type 0 where
  pub writes : name_words name ≡ kinds tokens
  pub places : placed_name name tokens ≡ name
  pub some : tokens ≡ [] → ⊥

pub record TypeStands (ty : TypeTree) (tokens : List Token) : Type 0 where
  pub writes : type_words ty ≡ kinds tokens
  pub places : placed_type ty tokens ≡ ty
  pub some : tokens ≡ [] → ⊥

pub record LabelStands (label : Option Ident) (tokens : List Token) : Type 0 where
  pub writes : label_words label ≡ kinds tokens
  pub places : placed_label label tokens ≡ label

pub record ArgumentsStand (arguments : List Argument) (tokens : List Token) : Type 0 where
  pub writes : write_arguments (arguments_of arguments) ≡ kinds tokens
  pub places : placed_arguments (arguments_of arguments) tokens ≡ arguments_of arguments

pub record TreesStand (trees : List Tree) (tokens : List Token) : Type 0 where
  pub writes : write_trees (trees_of trees) ≡ kinds tokens
  pub places : placed_trees (trees_of trees) tokens ≡ trees_of trees

pub record InitializersStand (initializers : List Initializer) (tokens : List Token) : Type 0 where
  pub writes : write_initializers (initializers_of initializers) ≡ kinds tokens
  pub places : placed_initializers (initializers_of initializers) tokens ≡ initializers_of initializers

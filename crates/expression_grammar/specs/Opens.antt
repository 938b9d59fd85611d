-- Words that an expression begins with, and words that are one.
use Rattle.std.specs.Prelude.{◌≡◌, ℕ, ◌≤◌, List}
use Rattle.mdl_lexer.specs.declared.token.Kind.{Kind}
use Rattle.mdl_syntax.specs.Trees.{Tree}
use Rattle.mdl_syntax.specs.Written.{write}
use Rattle.mdl_syntax.specs.Heights.{height}
use Rattle.mdl_syntax.specs.Levelled.{Levelled}
use Rattle.expression_grammar.specs.Languages.{OpensIn, OpensToIn}

-- an expression of at most this height writes the words
pub record Writes (words : List Kind) (most : ℕ) : Type 0 where
  pub tree : Tree
  pub levelled : Levelled tree
  pub low : height tree ≤ most
  pub writes : write tree ≡ words

-- one begins with them
abbrev pub Opens : List Kind → ℕ → Type 0
Opens words most = OpensIn Writes words most

abbrev pub OpensTo : List Kind → ℕ → ℕ → Type 0
OpensTo words at most = OpensToIn Writes words at most

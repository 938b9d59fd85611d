-- What tokens are: an expression with its places, or a fault at its place.
use Rattle.std.specs.Prelude.{◌≡◌, ℕ, List, Option, Some, None, map}
use Rattle.mdl_lexer.specs.declared.token.Kind.{Kind}
use Rattle.mdl_lexer.specs.declared.token.Token.{Token}
use Rattle.mdl_syntax.specs.Trees.{Tree}
use Rattle.mdl_syntax.specs.Written.{write}
use Rattle.mdl_syntax.specs.Placed.{placed}
use Rattle.mdl_syntax.specs.Levelled.{Accepted}
use Rattle.expression_grammar.specs.Languages.{NoneBefore}
use Rattle.expression_grammar.specs.Faults.{IsBad, IsDeep, IsLeftOut, IsNamed}

abbrev pub kinds : List Token → List Kind
kinds tokens = map (λ token. token.kind) tokens

-- the tokens are what the tree writes, and its places are theirs
pub record IsTree (most : ℕ) (tokens : List Token) (tree : Tree) : Type 0 where
  pub writes : write tree ≡ kinds tokens
  pub places : placed tree tokens ≡ tree
  pub accepted : Accepted most tree

pub data Reading : Type 0 where
  a_tree : Tree → Reading
  bad_syntax : ℕ → Reading
  too_deep : ℕ → Reading
  left_out : ℕ → List ℕ → Reading

-- of several faults the one that stands first
abbrev pub HasReading : ℕ → List Token → Reading → Type 0
HasReading most tokens (a_tree tree) = IsTree most tokens tree
HasReading most tokens (bad_syntax at) = IsBad most (kinds tokens) at
HasReading most tokens (too_deep at) =
    IsDeep most (kinds tokens) at × NoneBefore (IsNamed most (kinds tokens)) at
HasReading most tokens (left_out at text) =
    IsLeftOut (kinds tokens) at text × NoneBefore (IsNamed most (kinds tokens)) at

-- tokens have one reading
pub record OneReading (most : ℕ) (tokens : List Token) : Type 0 where
  pub reading : Reading
  pub has : HasReading most tokens reading
  pub only : (other : Reading) → HasReading most tokens other → other ≡ reading

-- where a fault stands
abbrev pub fault_place : Reading → Option ℕ
fault_place (a_tree tree) = None
fault_place (bad_syntax at) = Some at
fault_place (too_deep at) = Some at
fault_place (left_out at text) = Some at

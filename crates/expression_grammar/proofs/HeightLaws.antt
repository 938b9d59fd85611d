-- Places don't change heights and levels, and no expression is lower than a leaf.
use Rattle.std.proofs.Common.{◌≡◌, ◌≤◌, arith, refl, ap, ℕ, suc, List, max}
use Rattle.mdl_lexer.specs.declared.token.Token.{Token}
use Rattle.mdl_syntax.specs.Placed.{placed, placed_trees, placed_arguments, placed_initializers}
use Rattle.mdl_syntax.specs.Heights.{height, trees_height, arguments_height, initializers_height}
use Rattle.mdl_syntax.specs.Levels.{level}
use Rattle.mdl_syntax.specs.Trees.{Tree, literal, named, parenthesized, unary, binary, conditional}
use Rattle.mdl_syntax.specs.Trees.{indexed}
use Rattle.mdl_syntax.specs.Trees.{field, call, array, binding, Trees, no_trees, tree_and}
use Rattle.mdl_syntax.specs.Trees.{Arguments}
use Rattle.mdl_syntax.specs.Trees.{no_arguments, argument_and, Initializers, no_initializers}
use Rattle.mdl_syntax.specs.Trees.{initializer_and}

pub max_same : {a b c d : ℕ} → a ≡ c → b ≡ d → max a b ≡ max c d
max_same one other = λ i. max (one i) (other i)

mutual
  pub placed_height : (tree : Tree) (tokens : List Token) →
      height (placed tree tokens) ≡ height tree
  placed_height (literal lit span) tokens = refl
  placed_height (named name span) tokens = refl
  placed_height (parenthesized inner span) tokens = ap suc (placed_height inner _)
  placed_height (unary op operand span) tokens = ap suc (placed_height operand _)
  placed_height (binary op left right span) tokens =
      ap suc (max_same (placed_height left _) (placed_height right _))
  placed_height (conditional test one other span) tokens =
      ap suc (max_same (placed_height test _) (max_same (placed_height one _)
      (placed_height other _)))
  placed_height (indexed of at span) tokens =
      ap suc (max_same (placed_height of _) (placed_height at _))
  placed_height (field of name span) tokens = ap suc (placed_height of _)
  placed_height (call name arguments span) tokens = ap suc (placed_arguments_height arguments _)
  placed_height (array name size elements span) tokens = ap suc (placed_trees_height elements _)
  placed_height (binding braces initializers body span) tokens =
      ap suc (max_same (placed_initializers_height initializers _) (placed_height body _))

  placed_trees_height : (trees : Trees) (tokens : List Token) →
      trees_height (placed_trees trees tokens) ≡ trees_height trees
  placed_trees_height no_trees tokens = refl
  placed_trees_height (tree_and tree trees) tokens =
      max_same (placed_height tree _) (placed_trees_height trees _)

  pub placed_arguments_height : (arguments : Arguments) (tokens : List Token) →
      arguments_height (placed_arguments arguments tokens) ≡ arguments_height arguments
  placed_arguments_height no_arguments tokens = refl
  placed_arguments_height (argument_and name value span arguments) tokens =
      max_same (placed_height value _) (placed_arguments_height arguments _)

  placed_initializers_height : (initializers : Initializers) (tokens : List Token) →
      initializers_height (placed_initializers initializers tokens) ≡ initializers_height
      initializers
  placed_initializers_height no_initializers tokens = refl
  placed_initializers_height (initializer_and frequency ty name value span initializers) tokens =
      max_same (placed_height value _) (placed_initializers_height initializers _)

pub placed_level : (tree : Tree) (tokens : List Token) → level (placed tree tokens) ≡ level tree
placed_level (literal lit span) tokens = refl
placed_level _ tokens = refl

-- no expression is lower than a leaf
pub some_height : (tree : Tree) → 1 ≤ height tree
some_height (literal lit span) = omega arith
some_height _ = omega arith

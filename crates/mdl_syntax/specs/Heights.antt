-- The height of an expression: 1 for a leaf, and one more than the highest part for all others.
use Rattle.std.specs.Prelude.{ℕ, suc, max}
use Rattle.mdl_syntax.specs.Trees.{Tree, literal, named, parenthesized, unary, binary, conditional, indexed}
use Rattle.mdl_syntax.specs.Trees.{field, call, array, binding, Trees, no_trees, tree_and}
use Rattle.mdl_syntax.specs.Trees.{Arguments, no_arguments, argument_and, Initializers, no_initializers}
use Rattle.mdl_syntax.specs.Trees.{initializer_and}

abbrev mutual
  pub height : Tree → ℕ
  height (literal lit span) = 1
  height (named name span) = 1
  height (parenthesized inner span) = suc (height inner)
  height (unary op operand span) = suc (height operand)
  height (binary op left right span) = suc (max (height left) (height right))
  height (conditional test one other span) = suc (max (height test) (max (height one) (height other)))
  height (indexed of at span) = suc (max (height of) (height at))
  height (field of name span) = suc (height of)
  height (call name arguments span) = suc (arguments_height arguments)
  height (array name size elements span) = suc (trees_height elements)
  height (binding braces initializers body span) =
      suc (max (initializers_height initializers) (height body))

  -- of the highest of several, or 0
  pub trees_height : Trees → ℕ
  trees_height no_trees = 0
  trees_height (tree_and tree trees) = max (height tree) (trees_height trees)

  pub arguments_height : Arguments → ℕ
  arguments_height no_arguments = 0
  arguments_height (argument_and name value span arguments) = max (height value) (arguments_height arguments)

  pub initializers_height : Initializers → ℕ
  initializers_height no_initializers = 0
  initializers_height (initializer_and frequency ty name value span initializers) =
      max (height value) (initializers_height initializers)

-- the greatest height of an accepted expression
abbrev pub most_height : ℕ
most_height = 400

-- Expressions as trees, each part with its place.
use Rattle.std.specs.Prelude.{ℕ, Bool, List, [], ◌∷◌, Option}
use Rattle.mdl_syntax.specs.declared.names.Span.{Span}
use Rattle.mdl_syntax.specs.declared.names.Ident.{Ident}
use Rattle.mdl_syntax.specs.declared.names.Name.{Name}
use Rattle.mdl_syntax.specs.declared.types.TypeTree.{TypeTree}
use Rattle.mdl_syntax.specs.declared.types.Freq.{Freq}
use Rattle.mdl_syntax.specs.declared.expressions.Lit.{Lit}
use Rattle.mdl_syntax.specs.declared.expressions.Expr.{Expr, fold-Expr}
use Rattle.mdl_syntax.specs.declared.expressions.Expr.TheOpen.{Expr-F, Argument-F, LetInit-F}
use Rattle.mdl_syntax.specs.declared.expressions.Argument as held
use Rattle.mdl_syntax.specs.declared.expressions.LetInit as held_init

mutual
  pub data Tree : Type 0 where
    literal : Lit → Span → Tree
    named : Name → Span → Tree
    parenthesized : Tree → Span → Tree
    unary : ℕ → Tree → Span → Tree
    binary : ℕ → Tree → Tree → Span → Tree
    conditional : Tree → Tree → Tree → Span → Tree
    indexed : Tree → Tree → Span → Tree
    field : Tree → Ident → Span → Tree
    call : Name → Arguments → Span → Tree
    array : Name → Option ℕ → Trees → Span → Tree
    binding : Bool → Initializers → Tree → Span → Tree

  -- the elements of an array
  pub data Trees : Type 0 where
    no_trees : Trees
    tree_and : Tree → Trees → Trees

  -- arguments, each with its name, if it has one
  pub data Arguments : Type 0 where
    no_arguments : Arguments
    argument_and : Option Ident → Tree → Span → Arguments → Arguments

  -- the initializers of a let
  pub data Initializers : Type 0 where
    no_initializers : Initializers
    initializer_and : Option Freq → TypeTree → Ident → Tree → Span → Initializers → Initializers

-- one argument, and one initializer
abbrev pub Argument : Type 0
Argument = Option Ident × Tree × Span

abbrev pub Initializer : Type 0
Initializer = Option Freq × TypeTree × Ident × Tree × Span

abbrev pub trees_of : List Tree → Trees
trees_of [] = no_trees
trees_of (tree ∷ trees) = tree_and tree (trees_of trees)

abbrev pub arguments_of : List Argument → Arguments
arguments_of [] = no_arguments
arguments_of ((name, value, span) ∷ arguments) = argument_and name value span (arguments_of arguments)

abbrev pub initializers_of : List Initializer → Initializers
initializers_of [] = no_initializers
initializers_of ((frequency, ty, name, value, span) ∷ initializers) =
    initializer_and frequency ty name value span (initializers_of initializers)

-- one level of the program's tree, what is below it being such trees already
abbrev pub tree_step : Expr-F Tree Argument Initializer → Tree
tree_step (Expr-F.Lit lit span) = literal lit span
tree_step (Expr-F.Name name span) = named name span
tree_step (Expr-F.Paren inner span) = parenthesized inner.value span
tree_step (Expr-F.Unary op arg span) = unary op arg.value span
tree_step (Expr-F.Binary op left right span) = binary op left.value right.value span
tree_step (Expr-F.Cond test one other span) = conditional test.value one.value other.value span
tree_step (Expr-F.Index of at span) = indexed of.value at.value span
tree_step (Expr-F.Field of name span) = field of.value name span
tree_step (Expr-F.Call name args span) = call name (arguments_of args) span
tree_step (Expr-F.Array name size args span) = array name size (trees_of args) span
tree_step (Expr-F.Let braces inits body span) = binding braces (initializers_of inits) body.value span

abbrev pub argument_step : Argument-F Tree Argument Initializer → Argument
argument_step argument = (argument.name, argument.value, argument.span)

abbrev pub initializer_step : LetInit-F Tree Argument Initializer → Initializer
initializer_step init = (init.freq, init.ty, init.name, init.value, init.span)

-- the trees, arguments and initializers that the program holds
unfoldable pub tree_of : Expr → Tree
tree_of = fold-Expr Tree Argument Initializer tree_step argument_step initializer_step

unfoldable pub argument_of : held.Argument → Argument
argument_of = held.fold-Argument Tree Argument Initializer tree_step argument_step initializer_step

unfoldable pub initializer_of : held_init.LetInit → Initializer
initializer_of = held_init.fold-LetInit Tree Argument Initializer tree_step argument_step initializer_step

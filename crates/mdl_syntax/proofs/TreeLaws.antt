-- The trees that the program holds, form by form.
use Rattle.std.proofs.Common.{◌≡◌, ◌∙◌, sym, ap, append_assoc, ℕ, Bool, Option, Global, map}
use Rattle.std.specs.declared.boxed.Box.{Box}
use Rattle.case_table.specs.declared.seq.Seq.{Seq}
use Rattle.mdl_syntax.specs.declared.names.Span.{Span}
use Rattle.mdl_syntax.specs.declared.names.Ident.{Ident}
use Rattle.mdl_syntax.specs.declared.names.Name.{Name}
use Rattle.mdl_syntax.specs.declared.expressions.Lit.{Lit}
use Rattle.mdl_syntax.specs.declared.expressions.Expr.{Expr, roll-Expr, map-Expr, fold-roll-Expr}
use Rattle.mdl_syntax.specs.declared.expressions.Expr.TheOpen.{Expr-F}
use Rattle.mdl_syntax.specs.declared.expressions.Expr.TheVariants as expr
use Rattle.mdl_syntax.specs.declared.expressions.Argument as held
use Rattle.mdl_syntax.specs.declared.expressions.LetInit as held_init
use Rattle.mdl_syntax.specs.Trees.{Tree, Argument, Initializer, literal, named, parenthesized, unary}
use Rattle.mdl_syntax.specs.Trees.{binary, conditional, indexed, field, call, array, binding}
use Rattle.mdl_syntax.specs.Trees.{trees_of, arguments_of, initializers_of}
use Rattle.mdl_syntax.specs.Trees.{tree_step, argument_step, initializer_step}
use Rattle.mdl_syntax.specs.Trees.{tree_of, argument_of, initializer_of}

-- a tree by its top
pub tree_by_top : (layer : Expr-F Expr held.Argument held_init.LetInit) (tree : Expr) →
    roll-Expr layer ≡ tree →
    tree_of tree
    ≡ tree_step (map-Expr Expr held.Argument held_init.LetInit Tree Argument Initializer
    tree_of argument_of initializer_of layer)
unfolding tree_of argument_of initializer_of
tree_by_top layer tree rolls =
    ap tree_of (sym rolls)
    ∙ fold-roll-Expr Tree Argument Initializer tree_step argument_step initializer_step layer

pub tree_of-Lit : (lit : Lit) (span : Span) → tree_of (expr.Lit lit span) ≡ literal lit span
tree_of-Lit lit span = tree_by_top _ _ (expr.rolls-Lit lit span)

pub tree_of-Name : (name : Name) (span : Span) → tree_of (expr.Name name span) ≡ named name span
tree_of-Name name span = tree_by_top _ _ (expr.rolls-Name name span)

pub tree_of-Paren : (inner : Box Expr Global) (span : Span) →
    tree_of (expr.Paren inner span) ≡ parenthesized (tree_of inner.value) span
tree_of-Paren inner span = tree_by_top _ _ (expr.rolls-Paren inner span)

pub tree_of-Unary : (op : ℕ) (arg : Box Expr Global) (span : Span) →
    tree_of (expr.Unary op arg span) ≡ unary op (tree_of arg.value) span
tree_of-Unary op arg span = tree_by_top _ _ (expr.rolls-Unary op arg span)

pub tree_of-Binary : (op : ℕ) (left right : Box Expr Global) (span : Span) →
    tree_of (expr.Binary op left right span) ≡ binary op (tree_of left.value) (tree_of right.value) span
tree_of-Binary op left right span = tree_by_top _ _ (expr.rolls-Binary op left right span)

pub tree_of-Cond : (test one other : Box Expr Global) (span : Span) →
    tree_of (expr.Cond test one other span)
    ≡ conditional (tree_of test.value) (tree_of one.value) (tree_of other.value) span
tree_of-Cond test one other span = tree_by_top _ _ (expr.rolls-Cond test one other span)

pub tree_of-Index : (of at : Box Expr Global) (span : Span) →
    tree_of (expr.Index of at span) ≡ indexed (tree_of of.value) (tree_of at.value) span
tree_of-Index of at span = tree_by_top _ _ (expr.rolls-Index of at span)

pub tree_of-Field : (of : Box Expr Global) (name : Ident) (span : Span) →
    tree_of (expr.Field of name span) ≡ field (tree_of of.value) name span
tree_of-Field of name span = tree_by_top _ _ (expr.rolls-Field of name span)

pub tree_of-Call : (name : Name) (args : Seq held.Argument) (span : Span) →
    tree_of (expr.Call name args span) ≡ call name (arguments_of (map argument_of args)) span
tree_of-Call name args span = tree_by_top _ _ (expr.rolls-Call name args span)

pub tree_of-Array : (name : Name) (size : Option ℕ) (args : Seq Expr) (span : Span) →
    tree_of (expr.Array name size args span) ≡ array name size (trees_of (map tree_of args)) span
tree_of-Array name size args span = tree_by_top _ _ (expr.rolls-Array name size args span)

pub tree_of-Let : (braces : Bool) (inits : Seq held_init.LetInit) (body : Box Expr Global) (span : Span) →
    tree_of (expr.Let braces inits body span)
    ≡ binding braces (initializers_of (map initializer_of inits)) (tree_of body.value) span
tree_of-Let braces inits body span = tree_by_top _ _ (expr.rolls-Let braces inits body span)

pub argument_by_parts : (argument : held.Argument) →
    let parts = held.out-Argument argument in
    argument_of argument ≡ (parts.name, tree_of parts.value, parts.span)
unfolding tree_of argument_of
argument_by_parts argument =
    held.fold_out-Argument Tree Argument Initializer tree_step argument_step initializer_step argument

pub initializer_by_parts : (initializer : held_init.LetInit) →
    let parts = held_init.out-LetInit initializer in
    initializer_of initializer ≡ (parts.freq, parts.ty, parts.name, tree_of parts.value, parts.span)
unfolding tree_of initializer_of
initializer_by_parts initializer =
    held_init.fold_out-LetInit Tree Argument Initializer tree_step argument_step initializer_step initializer

pub ruleset tree_laws = (
  tree_of-Lit,
  tree_of-Name,
  tree_of-Paren,
  tree_of-Unary,
  tree_of-Binary,
  tree_of-Cond,
  tree_of-Index,
  tree_of-Field,
  tree_of-Call,
  tree_of-Array,
  tree_of-Let,
  argument_by_parts,
  initializer_by_parts,
  append_assoc,
)

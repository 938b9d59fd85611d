-- A tree that is no call.
use Rattle.std.proofs.Common.{◌≡◌, ◌∙◌, sym, subst}
use Rattle.case_table.specs.declared.seq.Seq.{Seq}
use Rattle.mdl_syntax.specs.declared.names.Span.{Span}
use Rattle.mdl_syntax.specs.declared.names.Name.{Name}
use Rattle.mdl_syntax.specs.declared.expressions.Expr.{Expr, roll-Expr, out-Expr, roll-out-Expr}
use Rattle.mdl_syntax.specs.declared.expressions.Expr.TheOpen.{Expr-F}
use Rattle.mdl_syntax.specs.declared.expressions.Expr.TheOpen as top
use Rattle.mdl_syntax.specs.declared.expressions.Expr.TheVariants as expr
use Rattle.mdl_syntax.specs.declared.expressions.Argument as held_argument
use Rattle.mdl_syntax.specs.declared.expressions.LetInit as held_init
use Rattle.mdl_syntax.specs.Trees.{tree_of}
use Rattle.mdl_syntax.proofs.TreeLaws.{tree_by_top}
use Rattle.expression_grammar.specs.inside.Views.{IsNoCall}

by_layer : (layer : Expr-F Expr held_argument.Argument held_init.LetInit) (tree : Expr) →
    roll-Expr layer ≡ tree →
    ((name : Name) (args : Seq held_argument.Argument) (span : Span) → tree ≡ expr.Call name args span → ⊥) →
    IsNoCall (tree_of tree)
by_layer (top.Call name args span) tree rolls not =
    absurd (not name args span (sym rolls ∙ expr.rolls-Call name args span))
by_layer layer tree rolls not = subst IsNoCall (sym (tree_by_top layer tree rolls)) tt

pub no_call : (tree : Expr) →
    ((name : Name) (args : Seq held_argument.Argument) (span : Span) → tree ≡ expr.Call name args span → ⊥) →
    IsNoCall (tree_of tree)
no_call tree not = by_layer (out-Expr tree) tree (roll-out-Expr tree) not

-- The term that a tree of the code stands for.
use Rattle.type_rules.specs.Terms.{Term, apply, terms_from}
use Rattle.mdl_cli.specs.declared.tree.Tree.{Tree, fold-Tree}

unfoldable pub term_of : Tree → Term
term_of = fold-Tree Term (λ layer. apply layer.symbol (terms_from layer.kids))

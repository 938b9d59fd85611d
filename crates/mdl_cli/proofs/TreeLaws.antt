-- The term that a tree stands for, by its top.
use Rattle.std.proofs.Common.{◌≡◌, map}
use Rattle.type_rules.specs.Terms.{Term, apply, terms_from}
use Rattle.mdl_cli.specs.declared.tree.Tree.{Tree, Tree-F, roll-Tree, out-Tree, fold-roll-Tree, fold_out-Tree}
use Rattle.mdl_cli.specs.inside.Trees.{term_of}

pub term_of-roll : (layer : Tree-F Tree) →
    term_of (roll-Tree layer) ≡ apply layer.symbol (terms_from (map term_of layer.kids))
unfolding term_of
term_of-roll layer = fold-roll-Tree Term (λ top. apply top.symbol (terms_from top.kids)) layer

pub term_of-out : (t : Tree) →
    term_of t ≡ apply (out-Tree t).symbol (terms_from (map term_of (out-Tree t).kids))
unfolding term_of
term_of-out t = fold_out-Tree Term (λ top. apply top.symbol (terms_from top.kids)) t

use Rattle.std.proofs.Common.{◌∙◌, ap, arith, Some}
use Rattle.mdl_cli.specs.inside.Trees.{term_of}
use Rattle.dag_store.specs.Unfolding.{terms_of}
use Rattle.mdl_cli.proofs.PutLaws.{put_more, typed_at, kids_typed, length-post, length-post_at}
use Rattle.mdl_cli.proofs.PutLaws.{puts-fits, puts-stands, puts-terms}
use Rattle.mdl_cli.proofs.put.+put.Goals as goal

pub put_kids-put_tree-requires : goal.put_kids-put_tree-requires
put_kids-put_tree-requires t c = (
  omega (
    arith,
    c.decreases,
    length-post_at c.args.kids.now c.loop-kid.kid-index c.kid-item.result
        c.loop-kid-test.true c.kid-item.is,
  ),
  typed_at c.args.kids.now c.loop-kid.kid-index c.kid-item.result c.requires c.loop-kid-test.true
      c.kid-item.is,
)

pub put_tree-put_kids-requires : goal.put_tree-put_kids-requires
put_tree-put_kids-requires t c = (
  omega (arith, c.decreases, length-post (term_of c.args.tree.now) _ c.kids.ensures),
  kids_typed (term_of c.args.tree.now) _ c.kids.ensures c.requires,
)

pub put_kids-loop-kid-preserved : goal.put_kids-loop-kid-preserved
put_kids-loop-kid-preserved t c =
    put_more _ _ _ c.args.kids.now c.loop-kid.kid-index c.kid-item.result _ _ _ c.loop-kid.invariant
    c.loop-kid-test.true
    c.kid-item.is c.in_ok-id.ensures.terms c.in_ok-id.ensures.id c.in_ok-push.ensures.items

pub put_tree-put-requires : goal.put_tree-put-requires
put_tree-put-requires t c =
    puts-fits (terms_of c.args.store.now) c.put_kids.new.store c.intern.new.self c.in_ok-symbol.symbol
    c.in_ok-kids.kids.items c.of.result _
    (term_of c.args.tree.now)
    (record {
      kids_are = c.kids.ensures;
      onto = c.in_ok-kids.ensures.terms;
      found = c.in_ok-kids.ensures.ids;
      same_terms = c.in_ok-symbol.ensures.terms;
      symbol = c.in_ok-symbol.ensures.number ∙ ap Some c.symbol.ensures;
    })
    c.requires c.of.ensures

pub put_tree-returns-clause-terms : goal.put_tree-returns-clause-terms
put_tree-returns-clause-terms t c =
    puts-terms (terms_of c.args.store.now) c.put_kids.new.store c.intern.new.self c.put.new.self
    c.in_ok-symbol.symbol
    c.in_ok-kids.kids.items c.of.result _ (term_of c.args.tree.now)
    (record {
      kids_are = c.kids.ensures;
      onto = c.in_ok-kids.ensures.terms;
      found = c.in_ok-kids.ensures.ids;
      same_terms = c.in_ok-symbol.ensures.terms;
      symbol = c.in_ok-symbol.ensures.number ∙ ap Some c.symbol.ensures;
    })
    c.of.ensures c.in_ok-id.ensures.terms

pub put_tree-returns-clause-id : goal.put_tree-returns-clause-id
put_tree-returns-clause-id t c =
    c.in_ok-id.ensures.id
    ∙ ap Some (puts-stands (terms_of c.args.store.now) c.put_kids.new.store c.intern.new.self
    c.in_ok-symbol.symbol
    c.in_ok-kids.kids.items c.of.result _ (term_of c.args.tree.now)
    (record {
      kids_are = c.kids.ensures;
      onto = c.in_ok-kids.ensures.terms;
      found = c.in_ok-kids.ensures.ids;
      same_terms = c.in_ok-symbol.ensures.terms;
      symbol = c.in_ok-symbol.ensures.number ∙ ap Some c.symbol.ensures;
    })
    c.of.ensures)

use Rattle.std.proofs.Common.{◌∙◌, ◌++◌, ◌<◌, List, ℕ, length, ap, arith}
use Rattle.dag_store.specs.Unfolding.{terms_of, term_at}
use Rattle.mdl_cli.specs.GraphText.{node_line}
use Rattle.mdl_cli.proofs.GraphTextLaws.{lines_more}
use Rattle.mdl_cli.proofs.graph_text.push_nodes.Goals as goal

pub loop-id-preserved : goal.loop-id-preserved
loop-id-preserved c =
    let all = terms_of c.args.store.now in
    let within : c.loop-id.id < length all = omega (arith, c.len-count.ensures.terms) in
    c.in_ok-push_node.ensures
    ∙ (ap (λ (text : List ℕ). text ++ node_line all c.loop-id.id (term_at all c.loop-id.id))
    c.loop-id.invariant
    ∙ lines_more all c.args.text.now.items c.loop-id.id within)

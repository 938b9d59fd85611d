use Rattle.std.proofs.Common.{◌∙◌, ◌++◌, List, ℕ, ap}
use Rattle.mdl_cli.specs.inside.GraphLines.{line_text}
use Rattle.mdl_cli.proofs.GraphTextLaws.{symbol_is, line_is}
use Rattle.mdl_cli.proofs.graph_text.push_node.Goals as goal

pub returns : goal.returns
returns c =
    let kept = c.args.store.now in
    let node = c.get-node.result.now in
    let s = c.index-symbols-node.result in
    let is = symbol_is kept.symbols c.symbols.result.now node.symbol s c.symbols.ensures
    c.get-node.ensures.made.symbol c.index-symbols-node.is in
    let line = line_is kept c.args.id.0 node s c.requires.shared c.get-node.ensures.made
    c.get-node.ensures.term is in
    c.in_ok-push_line.ensures
    ∙ ap (λ (text : List ℕ). c.args.text.now.items ++ text)
    (ap (λ (kids : List ℕ). line_text c.args.id.0 kids s) c.list.ensures ∙ line)

use Rattle.mdl_cli.proofs.GraphTextLaws.{ids_end}
use Rattle.mdl_cli.proofs.graph_text.push_kids.Goals as goal

pub returns : goal.returns
returns c =
    ids_end c.args.text.now.items c.push_number.new.text.items c.loop-kid.text.items c.args.kids.now
    c.in-Some.others.now c.in-Some.first.now c.loop-kid.kid-index c.in-Some.ensures.cases.0
    c.in_ok-push_number.ensures c.loop-kid-test.false c.loop-kid.invariant

use Rattle.std.proofs.Common.{arith}
use Rattle.std.proofs.lemmas.List.{length-map}
use Rattle.scope_tables.specs.inside.Ordering.{links_of}
use Rattle.scope_tables.proofs.OrderLaws.{walked-more, walked-all}
use Rattle.scope_tables.proofs.order.order.Goals as goal

pub loop-root-preserved : goal.loop-root-preserved
loop-root-preserved c =
    walked-more (links_of c.args.links.now) c.loop-root.root c.loop-root.walk c.visit.new.self c.run.new.self
    c.loop-root.invariant (omega (arith, length-map c.args.links.now (λ targets. targets.items)))
    c.in_ok-visit.ensures c.in_ok-run.ensures

pub returns : goal.returns
returns c =
    walked-all (links_of c.args.links.now) c.loop-root.root c.loop-root.walk c.loop-root.invariant
    (omega (arith, length-map c.args.links.now (λ targets. targets.items)))

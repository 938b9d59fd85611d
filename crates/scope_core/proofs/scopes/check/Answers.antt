use Rattle.std.proofs.Common.{◌∙◌, sym, map, arith}
use Rattle.scope_tables.specs.inside.Reaching.{bringing_of}
use Rattle.scope_core.proofs.CheckLaws.{none-here, some-here}
use Rattle.scope_core.proofs.scopes.check.Goals as goal

pub returns-in-Some-clause-fault : goal.returns-in-Some-clause-fault
returns-in-Some-clause-fault c world pieces settled written within =
    some-here world pieces c.args.settled.now.tables.items (map (λ one. map bringing_of one.items) c.args.brought.now)
    c.loop-index.index c.args.modules.now c.index-modules-index.result c.in-Some.fault settled.closed.hold.are
    (omega arith) c.index-modules-index.is
    (sym (c.in_ok-fault.ensures world pieces settled written (omega (arith, within))) ∙ c.in-Some.is)
    (c.loop-index.invariant world pieces settled written within)

pub loop-index-preserved : goal.loop-index-preserved
loop-index-preserved c world pieces settled written within =
    none-here world pieces (map (λ one. map bringing_of one.items) c.args.brought.now)
    c.loop-index.index c.args.modules.now c.index-modules-index.result (omega arith)
    c.index-modules-index.is
    (sym (c.in_ok-fault.ensures world pieces settled written (omega (arith, within))) ∙ c.in_default.is)
    (c.loop-index.invariant world pieces settled written within)

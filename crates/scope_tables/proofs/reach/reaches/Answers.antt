use Rattle.std.proofs.Common.{ap, map, arith, ◌==◌, ◌∙◌}
use Rattle.std.proofs.lemmas.List.{take_all}
use Rattle.case_table.specs.Lists.{firsts}
use Rattle.scope_tables.specs.inside.Reaching.{bringing_of}
use Rattle.scope_tables.proofs.ReachLaws.{firsts-next, are-reaches}
use Rattle.scope_tables.proofs.reach.reaches.Goals as goal

pub loop-module-preserved : goal.loop-module-preserved
loop-module-preserved c = (
  firsts-next c.deref-module-items.result.now c.loop-module.places.keys c.see.new.places.keys
      c.loop-module.module-index 0 (omega arith) c.in_ok-see.ensures.places c.loop-module.invariant.0,
  c.in_ok-see.ensures.told c.loop-module.invariant.1,
)

pub returns : goal.returns
returns c =
    are-reaches c.args.own (map bringing_of c.args.brought.now) c.in_ok-modules.modules.items
    c.loop-module.places.keys c.loop-module.all.items c.tell_all.new.all.items c.in_ok-modules.ensures.rise
    c.in_ok-modules.ensures.are
    (c.loop-module.invariant.0
    ∙ ap (firsts ◌==◌) (take_all c.loop-module.module-index c.deref-module-items.result.now (omega arith)
    ∙ c.deref-module-items.ensures.value))
    c.loop-module.invariant.1 c.in_ok-tell_all.ensures

use Rattle.std.proofs.Common.{sym, arith}
use Rattle.scope_tables.proofs.ReachLaws.{grows-name}
use Rattle.scope_tables.proofs.reach.Reach.take_names.Goals as goal

pub loop-name-preserved : goal.loop-name-preserved
loop-name-preserved c =
    grows-name c.args.self.now c.loop-name.self c.take_name.new.self c.args.names.now c.loop-name.name-index
    c.name-item.result c.args.used (omega arith) (sym c.name-item.is) c.loop-name.invariant c.in_ok-take_name.ensures

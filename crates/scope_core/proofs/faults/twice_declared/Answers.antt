use Rattle.std.proofs.Common.{ap, arith, length}
use Rattle.scope_core.proofs.TwiceLaws.{table-there}
use Rattle.scope_core.proofs.faults.twice_declared.Goals as goal

pub returns-in-None : goal.returns-in-None
returns-in-None c world pieces own are there number places =
    let long = ap length c.deref.ensures.value in
    absurd (table-there world c.args.settled.now pieces c.args.module own are there
    (omega (arith, long, c.in-None.ensures.lookup.3)))

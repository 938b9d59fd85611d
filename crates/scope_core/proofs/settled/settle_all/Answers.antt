use Rattle.std.proofs.Common.{subst}
use Rattle.scope_core.specs.inside.Sums.{AreSums}
use Rattle.scope_core.proofs.ClosingLaws.{none-settled}
use Rattle.scope_core.proofs.settled.settle_all.Goals as goal

pub returns : goal.returns
returns c world pieces describes hold none long ordered =
    let closed =
    c.in_ok-settle_modules.ensures.settles world pieces describes
    (none-settled world pieces c.args.scene
    (record { tables = c.args.tables; lists = c.new.result; taken = c.in_ok-unknown.field-0; sums = c.new-2.result })
    describes hold none c.new.ensures.empty c.in_ok-unknown.ensures) long ordered in
    record {
      closed = record { hold = closed.hold; apart = closed.apart; taken = closed.taken; hidden = closed.hidden };
      sums =
          subst (λ tables. AreSums tables c.in_ok-settled.field-0.items) c.deref.ensures.value c.in_ok-settled.ensures;
    }

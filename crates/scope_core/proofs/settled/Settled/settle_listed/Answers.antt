use Rattle.std.proofs.Common.{◌≡◌, arith, length, subst}
use Rattle.scope_core.specs.inside.Rounds.{SettlesListed}
use Rattle.scope_core.proofs.ClosingLaws.{listed-start, listed-more}
use Rattle.scope_core.proofs.settled.Settled.settle_listed.Goals as goal

pub loop-index-init : goal.loop-index-init
loop-index-init c = listed-start c.args.scene c.args.module c.args.takes.now c.args.self.now

pub loop-index-preserved : goal.loop-index-preserved
loop-index-preserved c =
    listed-more c.args.scene c.args.module c.args.takes.now c.loop-index.index c.index-takes-index.result
    c.args.self.now c.loop-index.self c.settle_written.new.self (omega arith) c.index-takes-index.is
    c.loop-index.invariant c.in_ok-settle_written.ensures

pub returns : goal.returns
returns c =
    let all : c.loop-index.index ≡ length c.args.takes.now =
    omega (arith, c.loop-index-test.false, c.loop-index.auto.index-end) in
    subst (λ i. SettlesListed c.args.scene c.args.module c.args.takes.now i c.args.self.now c.loop-index.self) all
    c.loop-index.invariant

use Rattle.std.proofs.Common.{arith, refl, length, get_or}
use Rattle.scope_core.proofs.ClosingLaws.{order-start, order-more, order-end}
use Rattle.scope_core.proofs.settled.Settled.settle_modules.Goals as goal

pub loop-module-init : goal.loop-module-init
loop-module-init c =
    order-start c.args.scene c.args.order.now c.args.self.now c.settle_module.new.self (length c.args.scene.names.now)
    refl c.in_ok-settle_module.ensures

pub loop-module-preserved : goal.loop-module-preserved
loop-module-preserved c =
    order-more c.args.scene c.args.order.now c.loop-module.module-index
    (get_or c.args.order.now c.loop-module.module-index 0) 0 c.args.self.now c.loop-module.self
    c.settle_module-in-loop-module.new.self (omega arith) refl c.loop-module.invariant
    c.in_ok-settle_module-2.ensures

pub returns : goal.returns
returns c = record {
  settles = order-end c.args.scene c.args.order.now c.loop-module.module-index c.args.self.now c.loop-module.self
      (omega (arith, c.loop-module-test.false)) c.loop-module.invariant;
}

use Rattle.scope_core.specs.inside.Closing.{OrderSome}
use Rattle.scope_core.proofs.settled.Settled.settle_modules.Given as goal

abbrev pub invariant-loop-module : goal.invariant-loop-module
invariant-loop-module l = OrderSome l.scene l.order l.module-index l.fn.self l.self

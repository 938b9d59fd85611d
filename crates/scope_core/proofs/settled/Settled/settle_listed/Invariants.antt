use Rattle.scope_core.specs.inside.Rounds.{SettlesListed}
use Rattle.scope_core.proofs.settled.Settled.settle_listed.Given as goal

abbrev pub invariant-loop-index : goal.invariant-loop-index
invariant-loop-index l = SettlesListed l.scene l.module l.takes l.index l.initial.self l.self

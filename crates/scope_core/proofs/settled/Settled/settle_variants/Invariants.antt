use Rattle.scope_core.specs.inside.Closing.{VariantsSome}
use Rattle.scope_core.proofs.settled.Settled.settle_variants.Given as goal

abbrev pub invariant-loop-index : goal.invariant-loop-index
invariant-loop-index l = VariantsSome l.scene l.module l.count l.index l.begun.items l.initial.self l.self

use Rattle.scope_core.specs.inside.Hiding.{AreDefined}
use Rattle.scope_core.proofs.settled.defined_in.Given as goal

abbrev pub invariant-loop-index : goal.invariant-loop-index
invariant-loop-index l = AreDefined l.table.own l.taken l.index l.defined.keys

use Rattle.scope_tables.specs.inside.Ordering.{links_of, Walked}
use Rattle.scope_tables.proofs.order.order.Given as goal

abbrev pub invariant-loop-root : goal.invariant-loop-root
invariant-loop-root l = Walked (links_of l.links) l.root l.walk

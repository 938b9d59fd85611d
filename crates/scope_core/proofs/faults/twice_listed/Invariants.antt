-- what was noted is what stands twice among what comes before
use Rattle.std.proofs.Common.{map, take}
use Rattle.scope_core.proofs.ListedLaws.{AreListed}
use Rattle.scope_core.proofs.faults.twice_listed.Given as goal

abbrev pub invariant-loop-param : goal.invariant-loop-param
invariant-loop-param l =
    AreListed l.module l.fn.least (map (λ param. param.name) (take l.param-index l.params)) l.names.keys l.least

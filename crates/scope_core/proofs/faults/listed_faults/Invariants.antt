-- what was noted is what is wrong with the names before
use Rattle.std.proofs.Common.{take}
use Rattle.scope_core.specs.inside.Noting.{NotesNames}
use Rattle.scope_core.proofs.faults.listed_faults.Given as goal

abbrev pub invariant-loop-name : goal.invariant-loop-name
invariant-loop-name l =
    NotesNames l.settled l.module l.number l.bringing.from l.bringing.used (take l.name-index l.names)
    l.fn.earlier.entries l.fn.least l.earlier.entries l.least

-- what was noted is what is wrong with the bringings before
use Rattle.std.proofs.Common.{map, take}
use Rattle.scope_tables.specs.inside.Reaching.{bringing_of}
use Rattle.scope_core.proofs.ImportLaws.{AreBrought}
use Rattle.scope_core.proofs.faults.import_faults.Given as goal

abbrev pub invariant-loop-bringing : goal.invariant-loop-bringing
invariant-loop-bringing l =
    AreBrought l.settled l.module l.number (map bringing_of (take l.bringing-index l.brought)) l.fn.least
    l.earlier.entries l.least

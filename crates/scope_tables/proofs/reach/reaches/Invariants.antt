-- the modules before are there, and nothing is told
use Rattle.std.proofs.Common.{◌≡◌, ◌==◌, [], take}
use Rattle.case_table.specs.Lists.{firsts}
use Rattle.scope_tables.specs.inside.Reaching.{AreTold}
use Rattle.scope_tables.proofs.reach.reaches.Given as goal

abbrev pub invariant-loop-module : goal.invariant-loop-module
invariant-loop-module l =
    (l.places.keys ≡ firsts ◌==◌ (take l.module-index l.module-items)) × AreTold l.own l.places.keys [] l.all.items

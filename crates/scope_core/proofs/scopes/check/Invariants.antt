-- the modules before have no fault
use Rattle.std.proofs.Common.{◌≡◌, ◌<◌, List, map, drop, length}
use Rattle.scope_tables.specs.Entities.{Declared}
use Rattle.scope_tables.specs.Visible.{World}
use Rattle.scope_tables.specs.inside.Reaching.{bringing_of}
use Rattle.scope_core.specs.inside.Scoping.{AreWritten}
use Rattle.scope_core.specs.inside.Rounds.{AreSettled}
use Rattle.scope_core.specs.inside.Checking.{faults_in}
use Rattle.scope_core.proofs.scopes.check.Given as goal

abbrev pub invariant-loop-index : goal.invariant-loop-index
invariant-loop-index l =
    (world : World) (pieces : List (List Declared)) → AreSettled world pieces l.settled
    → AreWritten pieces l.scene.written.now → length l.modules < length pieces
    → faults_in world pieces (map (λ one. map bringing_of one.items) l.brought) 0 l.modules
    ≡ faults_in world pieces (map (λ one. map bringing_of one.items) l.brought) l.index (drop l.index l.modules)

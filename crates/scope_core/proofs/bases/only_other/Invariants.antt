use Rattle.std.proofs.Common.{◌≡◌, take}
use Rattle.scope_core.specs.inside.Settling.{others_of, first_place, has_more}
use Rattle.scope_core.proofs.bases.only_other.Given as goal

abbrev pub invariant-loop-index : goal.invariant-loop-index
invariant-loop-index l =
    (l.first ≡ first_place (others_of l.tables l.module (take l.index l.found)))
    × (l.more ≡ has_more (others_of l.tables l.module (take l.index l.found)))

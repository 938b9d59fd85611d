use Rattle.std.proofs.Common.{◌≡◌, length}
use Rattle.scope_core.specs.inside.Hiding.{AreHidden}
use Rattle.scope_core.proofs.settled.flags_of.Given as goal

abbrev pub invariant-loop-index : goal.invariant-loop-index
invariant-loop-index l =
    (length l.hidden.items ≡ l.index) × AreHidden l.table.own l.taken l.defined.keys l.hidden.items

use Rattle.std.proofs.Common.{◌≡◌, take}
use Rattle.scope_tables.specs.Visible.{texts}
use Rattle.scope_tables.proofs.found.are_same.Given as goal

abbrev pub invariant-loop-index : goal.invariant-loop-index
invariant-loop-index l = take l.index (texts l.front) ≡ take l.index l.parts

-- the texts are those of the parts before
use Rattle.std.proofs.Common.{◌≡◌, take}
use Rattle.scope_tables.specs.Visible.{texts}
use Rattle.scope_core.proofs.bases.copied.Given as goal

abbrev pub invariant-loop-part : goal.invariant-loop-part
invariant-loop-part l = l.copied.items ≡ texts (take l.part-index l.parts)

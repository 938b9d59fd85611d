use Rattle.std.proofs.Common.{◌≡◌, take}
use Rattle.module_set.proofs.module_name.ModuleName.copy.Given as goal

abbrev pub invariant-loop-part : goal.invariant-loop-part
invariant-loop-part l = l.parts.items ≡ take l.part-index l.self.parts

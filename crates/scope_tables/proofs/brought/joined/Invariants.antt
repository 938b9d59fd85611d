use Rattle.std.proofs.Common.{◌≡◌, ◌++◌, map, take}
use Rattle.scope_tables.proofs.brought.joined.Given as goal

abbrev pub invariant-loop-part : goal.invariant-loop-part
invariant-loop-part l = l.all.items ≡ take l.part-index l.folder

abbrev pub invariant-loop-part-2 : goal.invariant-loop-part-2
invariant-loop-part-2 l = l.all.items ≡ l.folder ++ map (λ part. part.text) (take l.part-index l.parts)

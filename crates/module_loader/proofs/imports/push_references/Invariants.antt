use Rattle.std.proofs.Common.{◌≡◌, ◌++◌, map, take}
use Rattle.module_loader.proofs.imports.push_references.Given as goal

abbrev pub invariant-loop-item : goal.invariant-loop-item
invariant-loop-item l = map (λ one. one.now) l.all.items
    ≡ map (λ one. one.now) l.initial.all.items ++ map (λ item. item.module) (take l.item-index l.item-items)

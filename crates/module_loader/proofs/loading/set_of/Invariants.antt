use Rattle.std.proofs.Common.{◌≡◌, ◌++◌, map}
use Rattle.module_loader.proofs.loading.set_of.Given as goal

abbrev pub invariant-loop-one : goal.invariant-loop-one
invariant-loop-one l =
    (l.names.items ++ map (λ one. one.name) l.one-iterator.rest.items ≡ map (λ one. one.name) l.fn.all.items)
    × (l.modules.items ++ map (λ one. one.loaded.module) l.one-iterator.rest.items
    ≡ map (λ one. one.loaded.module) l.fn.all.items)
    × (l.texts.items ++ map (λ one. one.loaded.text) l.one-iterator.rest.items
    ≡ map (λ one. one.loaded.text) l.fn.all.items)

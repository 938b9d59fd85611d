use Rattle.std.proofs.Common.{◌≡◌, map, take, flat_map}
use Rattle.module_set.specs.Imports.{references_in}
use Rattle.module_loader.proofs.imports.references.Given as goal

abbrev pub invariant-loop-import : goal.invariant-loop-import
invariant-loop-import l =
    map (λ one. one.now) l.all.items ≡ flat_map references_in (take l.import-index l.read.imports)

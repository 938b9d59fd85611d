use Rattle.std.proofs.Common.{◌≤◌, ◌-◌, map, length, string_bytes}
use Rattle.module_loader.specs.LoadFaults.{most_modules}
use Rattle.module_loader.specs.inside.Contents.{Reading}
use Rattle.module_loader.specs.inside.Loading.{Surely}
use Rattle.module_loader.specs.inside.Linking.{Holds, ArePlaced}
use Rattle.module_loader.proofs.closure.load_closure.Given as goal

-- the modules so far come first in the closure
abbrev pub invariant-loop-name : goal.invariant-loop-name
invariant-loop-name g l =
    Reading (g.S.Source.state l.initial.source) (g.S.Source.state l.source) l.initial.contents l.contents
    × ArePlaced l.all.items × (length l.all.items ≤ most_modules)
    × Surely (map string_bytes l.roots) l.contents (λ packages. Holds packages l.first l.names.keys l.all.items)

abbrev pub decreases-loop-name : goal.decreases-loop-name
decreases-loop-name g l = most_modules - length l.all.items

use Rattle.std.proofs.Common.{◌≡◌, take, slice_get, true}
use Rattle.std.specs.List.{flat_map}
use Rattle.scope_tables.specs.inside.Finding.{seen_in}
use Rattle.scope_tables.proofs.found.near.Given as goal

abbrev pub invariant-loop-reach : goal.invariant-loop-reach
invariant-loop-reach l = l.found.items
    ≡ flat_map (λ reach. seen_in (slice_get l.view.tables.now reach.module) reach l.name true l.all)
    (take l.reach-index l.reach-items)

use Rattle.std.proofs.Common.{◌≡◌, take}
use Rattle.std.specs.List.{flat_map}
use Rattle.scope_tables.specs.Visible.{texts}
use Rattle.scope_tables.specs.inside.Finding.{far_in}
use Rattle.scope_tables.proofs.found.found_far.Given as goal

abbrev pub invariant-loop-reach : goal.invariant-loop-reach
invariant-loop-reach l = l.found.items
    ≡ flat_map (far_in l.view.names.now l.view.tables.now l.absolute (texts l.front) l.name l.all)
    (take l.reach-index l.reach-items)

use Rattle.std.proofs.Common.{◌≡◌, map, take}
use Rattle.module_loader.specs.LoadFaults.{name_at}
use Rattle.module_loader.specs.inside.Linking.{linked_members}
use Rattle.module_loader.proofs.loading.names_at.Given as goal

abbrev pub invariant-loop-index : goal.invariant-loop-index
invariant-loop-index l =
    l.names.items ≡ map (name_at (linked_members l.all)) (take l.index-index l.indices)

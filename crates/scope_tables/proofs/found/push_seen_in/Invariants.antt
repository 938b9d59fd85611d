use Rattle.std.proofs.Common.{◌≡◌, ◌++◌, map, filter, take}
use Rattle.scope_tables.specs.inside.Finding.{placed, sees_at}
use Rattle.scope_tables.proofs.found.push_seen_in.Given as goal

abbrev pub invariant-loop-index : goal.invariant-loop-index
invariant-loop-index l = l.found.items ≡ l.fn.found.items
    ++ map (placed l.reach.module) (filter (sees_at l.table l.reach l.used l.all) (take l.index-index l.index-items))

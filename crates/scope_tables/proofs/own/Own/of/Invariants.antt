-- what was noted is what comes before
use Rattle.std.proofs.Common.{◌≡◌, map, take}
use Rattle.scope_tables.specs.inside.Owning.{AreOwn, numbers_of}
use Rattle.scope_tables.proofs.own.Own.of.Given as goal

abbrev pub invariant-loop-index : goal.invariant-loop-index
invariant-loop-index l =
    AreOwn (take l.index l.entities.items) l.names.keys (map (λ list. list.items) l.lists.items)
    × (l.numbers.items ≡ numbers_of (take l.index l.entities.items))

use Rattle.std.proofs.Common.{◌≡◌, map, take, length, replicate, None}
use Rattle.scope_core.proofs.settled.unknown.Given as goal

abbrev pub invariant-loop-one : goal.invariant-loop-one
invariant-loop-one l =
    map (λ row. row.items) l.taken.items
    ≡ map (λ one. replicate (length one.takes.items) None) (take l.one-index l.written)

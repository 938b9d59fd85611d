use Rattle.std.proofs.Common.{◌≡◌, map, take}
use Rattle.scope_core.proofs.scopes.sources.Given as goal

abbrev pub invariant-loop-bringing : goal.invariant-loop-bringing
invariant-loop-bringing l = l.sources.items ≡ map (λ one. one.from) (take l.bringing-index l.brought)

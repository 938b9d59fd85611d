use Rattle.std.proofs.Common.{◌≡◌, map, take}
use Rattle.type_rules.specs.Types.{plain}
use Rattle.scope_core.proofs.settled.known_types.Given as goal

abbrev pub invariant-loop-index : goal.invariant-loop-index
invariant-loop-index l = l.types.items ≡ map plain (map (λ name. name.now) (take l.index l.names))

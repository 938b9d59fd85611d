use Rattle.std.proofs.Common.{◌≡◌, map, take}
use Rattle.scope_core.proofs.scopes.links_of.Given as goal

abbrev pub invariant-loop-one : goal.invariant-loop-one
invariant-loop-one l =
    map (λ targets. targets.items) l.links.items
    ≡ map (λ one. map (λ bringing. bringing.from) one.items) (take l.one-index l.brought)

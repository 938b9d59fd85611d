-- the ids so far
use Rattle.std.proofs.Common.{◌≡◌, ◌++◌, ℕ, take}
use Rattle.std.specs.List.{flat_map}
use Rattle.std.specs.Prelude.{codes, decimal}
use Rattle.mdl_cli.proofs.graph_text.push_kids.Given as goal

abbrev pub invariant-loop-kid : goal.invariant-loop-kid
invariant-loop-kid l =
    l.text.items ≡ l.initial.text.items ++ flat_map (λ (next : ℕ). codes "," ++ decimal next)
    (take l.kid-index l.others)

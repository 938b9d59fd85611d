use Rattle.std.proofs.Common.{◌≡◌, ◌≤◌, ◌-◌, true, length, drop}
use Rattle.expression_grammar.specs.inside.Machine.{run, run_from, goes}
use Rattle.expression_grammar.specs.inside.Views.{mode_of, stack_of}
use Rattle.expression_grammar.proofs.parse.read_tokens.Given as goal

abbrev pub decreases-loop-at : goal.decreases-loop-at
decreases-loop-at l = length l.fn.tokens - l.at

abbrev pub invariant-loop-at : goal.invariant-loop-at
invariant-loop-at l =
    (l.at ≤ length l.fn.tokens)
    × (run l.limit l.fn.tokens
    ≡ run_from true l.limit l.at (goes (mode_of l.mode) (stack_of l.frames.items)) (drop l.at l.fn.tokens))

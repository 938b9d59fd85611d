-- no byte so far is a `:`
use Rattle.std.proofs.Common.{◌≡◌, ℕ, ◌<◌, ◌==◌, not, true, get_or}
use Rattle.command_words.proofs.names.part_len.Given as goal

abbrev pub invariant-loop-i : goal.invariant-loop-i
invariant-loop-i l = (k : ℕ) → k < l.i → not (get_or l.text k 0 == 58) ≡ true

-- the characters so far
use Rattle.std.proofs.Common.{◌≡◌, ◌<◌, ℕ, None, [], ◌∷◌, get_or, length}
use Rattle.mdl_lexer.specs.inside.Tokens.{number_in_either}
use Rattle.mdl_lexer.proofs.marks.singles.Given as goal

abbrev pub invariant-loop-i : goal.invariant-loop-i
invariant-loop-i l =
    (length l.singles ≡ 128)
    × ((k : ℕ) → k < l.i → get_or l.singles k None ≡ number_in_either l.in_use l.left_out (k ∷ []))

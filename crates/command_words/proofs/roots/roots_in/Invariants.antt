-- the pieces of what is left come behind the paths so far
use Rattle.std.proofs.Common.{◌≡◌, length}
use denote.Text.{Utf8}
use denote.Shadow.{shadow}
use Rattle.command_words.specs.inside.Roots as reading
use Rattle.command_words.proofs.roots.roots_in.Given as goal

abbrev pub invariant-loop-root : goal.invariant-loop-root
invariant-loop-root l =
    shadow (Utf8 l.rest)
    × (reading.roots_onto l.roots.items (reading.pieces_of l.rest) ≡ reading.roots_in l.word)

abbrev pub decreases-loop-root : goal.decreases-loop-root
decreases-loop-root l = length l.rest

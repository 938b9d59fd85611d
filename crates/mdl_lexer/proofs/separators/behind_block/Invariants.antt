use Rattle.std.proofs.Common.{◌≡◌, chars, length}
use denote.Text.{Utf8}
use denote.Shadow.{shadow}
use Rattle.mdl_lexer.specs.inside.Cutting.{IsRest}
use Rattle.mdl_lexer.specs.inside.Separators.{behind_block}
use Rattle.mdl_lexer.proofs.separators.behind_block.Given as goal

abbrev pub invariant-loop-character : goal.invariant-loop-character
invariant-loop-character l =
    shadow (Utf8 l.rest)
    × (IsRest l.text l.rest
    × (behind_block (chars l.rest) ≡ behind_block (chars l.text)))

abbrev pub decreases-loop-character : goal.decreases-loop-character
decreases-loop-character l = length l.rest

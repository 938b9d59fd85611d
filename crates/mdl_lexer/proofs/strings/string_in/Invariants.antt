use Rattle.std.proofs.Common.{chars, length, string_bytes}
use denote.Text.{Utf8}
use denote.Shadow.{shadow}
use Rattle.mdl_lexer.specs.inside.Cutting.{IsRest}
use Rattle.mdl_lexer.specs.inside.Strings.{string_in}
use Rattle.mdl_lexer.proofs.StringLaws.{IsLeft}
use Rattle.mdl_lexer.proofs.strings.string_in.Given as goal

abbrev pub invariant-loop-character : goal.invariant-loop-character
invariant-loop-character l =
    shadow (Utf8 l.rest)
    × (IsRest l.text l.rest
    × IsLeft (string_in (length (chars l.text)) (chars l.text)) (chars (string_bytes l.meaning)) (chars
    l.rest))

abbrev pub decreases-loop-character : goal.decreases-loop-character
decreases-loop-character l = length l.rest

use Rattle.std.proofs.Common.{◌≡◌, chars, length}
use denote.Text.{Utf8}
use denote.Shadow.{shadow}
use Rattle.mdl_lexer.specs.inside.Cutting.{IsRest, drop_while}
use Rattle.mdl_lexer.specs.inside.Classes.{in_class}
use Rattle.mdl_lexer.proofs.cursor.skip.Given as goal

abbrev pub invariant-loop-character : goal.invariant-loop-character
invariant-loop-character l =
    shadow (Utf8 l.rest)
    × (IsRest l.text l.rest
    × (drop_while (in_class l.class) (chars l.rest) ≡ drop_while (in_class l.class) (chars l.text)))

abbrev pub decreases-loop-character : goal.decreases-loop-character
decreases-loop-character l = length l.rest

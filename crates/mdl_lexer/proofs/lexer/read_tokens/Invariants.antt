use Rattle.std.proofs.Common.{chars, length}
use denote.Text.{Utf8}
use denote.Shadow.{shadow}
use Rattle.mdl_lexer.specs.inside.Cutting.{IsRest}
use Rattle.mdl_lexer.proofs.LexingLaws.{LeadsOn}
use Rattle.mdl_lexer.proofs.lexer.read_tokens.Given as goal

abbrev pub invariant-loop-rest : goal.invariant-loop-rest
invariant-loop-rest l =
    shadow (Utf8 l.rest) × (IsRest l.text l.rest × LeadsOn l.text l.tokens.items (chars l.rest))

abbrev pub decreases-loop-rest : goal.decreases-loop-rest
decreases-loop-rest l = length l.rest

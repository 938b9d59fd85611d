-- From what reading a text gives to what lexing its bytes gives.
use Rattle.std.proofs.Common.{◌≡◌, subst, ℕ, List, [], IsUtf8, Result, Ok, Err, IfOk, IfErr}
use Rattle.std.specs.declared.vec.Vec.{Vec}
use Rattle.std.specs.declared.alloc.Global.{Global}
use Rattle.std.specs.List.{AllByRecursion}
use Rattle.mdl_lexer.specs.declared.token.Token.{Token}
use Rattle.mdl_lexer.specs.declared.token.LexFault.{LexFault}
use Rattle.mdl_lexer.specs.Lexes.{HasTokens, HasFault}
use Rattle.mdl_lexer.specs.Places.{IsPlace, HasPlace}
use Rattle.mdl_lexer.specs.inside.Lexing.{Reaches, Stopped}
use Rattle.mdl_lexer.proofs.ChainLaws.{tokens_of, fault_of}
use Rattle.mdl_lexer.proofs.PlaceLaws.{token_places, fault_place}

pub has_tokens : (bytes text : List ℕ) (result : Result (Vec Token Global) LexFault) → text ≡ bytes →
    IsUtf8 bytes →
    IfOk result (λ tokens. Reaches text tokens.items []) →
    IfOk result (λ tokens. HasTokens bytes tokens.items)
has_tokens bytes text (Ok tokens) same is_text reaches =
    tokens_of bytes tokens.items is_text (subst (λ (t : List ℕ). Reaches t tokens.items []) same reaches)
has_tokens bytes text (Err found) same is_text reaches = reaches

pub has_fault : (bytes text : List ℕ) (result : Result (Vec Token Global) LexFault) → text ≡ bytes →
    IsUtf8 bytes →
    IfErr result (λ found. Stopped text found) → IfErr result (λ found. HasFault bytes found)
has_fault bytes text (Ok tokens) same is_text stopped = stopped
has_fault bytes text (Err found) same is_text stopped =
    fault_of bytes found is_text (subst (λ (t : List ℕ). Stopped t found) same stopped)

pub has_places : (bytes : List ℕ) (result : Result (Vec Token Global) LexFault) →
    IfOk result (λ tokens. HasTokens bytes tokens.items) →
    IfOk result (λ tokens. AllByRecursion (λ (token : Token). IsPlace bytes token.at) tokens.items)
has_places bytes (Ok tokens) has = token_places bytes tokens.items has
has_places bytes (Err found) has = has

pub has_fault_place : (bytes : List ℕ) (result : Result (Vec Token Global) LexFault) →
    IfErr result (λ found. HasFault bytes found) → IfErr result (λ found. HasPlace bytes found)
has_fault_place bytes (Ok tokens) has = has
has_fault_place bytes (Err found) has = fault_place bytes found has

-- What comes of a token holds, where the machine goes on.
use Rattle.std.proofs.Common.{◌≡◌, subst, ℕ, ◌+◌, Bool, true, false, List, length, nat_le}
use Rattle.std.proofs.Common.{if◌then◌else◌}
use Rattle.mdl_lexer.specs.declared.token.Token.{Token}
use Rattle.expression_grammar.specs.inside.Machine.{Frame, Step, goes, bad, deep, is_left_out}
use Rattle.expression_grammar.specs.inside.Machine.{within, unless_bad}
use Rattle.expression_grammar.specs.inside.Sound.{Holds}

-- where the step goes on, its state holds these tokens
abbrev pub HoldsAt : Step → List Token → Type 0
HoldsAt (goes mode frames) tokens = Holds mode frames tokens
HoldsAt bad tokens = Unit {0}
HoldsAt deep tokens = Unit {0}
HoldsAt (is_left_out text) tokens = Unit {0}

pub moved : (tokens others : List Token) (step : Step) → tokens ≡ others → HoldsAt step tokens →
    HoldsAt step others
moved tokens others step is holds = subst (HoldsAt step) is holds

pub chosen : (tokens : List Token) (is_first : Bool) (one other : Step) → HoldsAt one tokens →
    HoldsAt other tokens → HoldsAt (if is_first then one else other) tokens
chosen tokens true one other first second = first
chosen tokens false one other first second = second

pub within_holds : (tokens : List Token) (limit : ℕ) (frames : List Frame) (need : ℕ)
    (step : Step) → HoldsAt step tokens → HoldsAt (within limit frames need step) tokens
within_holds tokens limit frames need step holds =
    chosen tokens (nat_le (length frames + need) limit) step deep holds tt

pub unless_bad_holds : (tokens : List Token) (limit : ℕ) (frames : List Frame) (need : ℕ)
    (step : Step) → HoldsAt step tokens → HoldsAt (unless_bad limit frames need step) tokens
unless_bad_holds tokens limit frames need bad holds = tt
unless_bad_holds tokens limit frames need (goes mode below) holds =
    within_holds tokens limit frames need (goes mode below) holds
unless_bad_holds tokens limit frames need deep holds = within_holds tokens limit frames need deep
    holds
unless_bad_holds tokens limit frames need (is_left_out text) holds =
    within_holds tokens limit frames need (is_left_out text) holds

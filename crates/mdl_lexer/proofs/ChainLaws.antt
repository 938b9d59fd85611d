-- Chains of what is read are chains of steps.
use Rattle.std.proofs.Common.{◌≡◌, ◌≢◌, ◌<◌, ◌∙◌, sym, ap, subst, refl, arith, ℕ, Bool, true, false}
use Rattle.std.proofs.Common.{List, [], Option, Some, None, length, chars, IsUtf8}
use Rattle.std.specs.Prelude.{nat_le}
use Rattle.std.proofs.lemmas.Bool.{cond-true, cond-false, false≢true, leb-true}
use Rattle.std.proofs.lemmas.Bool.Decides.{nat_tests}
use Rattle.std.proofs.lemmas.Option.{none-some}
use Rattle.mdl_lexer.specs.declared.token.Kind.{Kind}
use Rattle.mdl_lexer.specs.declared.token.Kind.TheVariants as kind
use Rattle.mdl_lexer.specs.declared.token.Token.{Token}
use Rattle.mdl_lexer.specs.declared.token.LexFault.{LexFault}
use Rattle.mdl_lexer.specs.declared.token.LexFault.TheVariants as fault
use Rattle.mdl_lexer.specs.Steps.{StepsOver, Reads, Chain, stop, over, word}
use Rattle.mdl_lexer.specs.Lexes.{behind_mark, most_integer, IsSmall, AreSmall, HasTokens, EndsBefore}
use Rattle.mdl_lexer.specs.Lexes.{NothingBegins}
use Rattle.mdl_lexer.specs.Lexes.{HasFault}
use Rattle.mdl_lexer.specs.inside.Separators.{behind_separator}
use Rattle.mdl_lexer.specs.inside.Tokens.{Read, NoWord, PastRange, Found}
use Rattle.mdl_lexer.specs.inside.Lexing.{SkipsTo, FindsWord, Reaches, StopsFor, Stopped}
use Rattle.mdl_lexer.proofs.AnyWord.{any_word}
use Rattle.mdl_lexer.proofs.StepLaws.{word_is_read}
use Rattle.mdl_lexer.proofs.ReadSteps.{over_found, over_read, word_found}
use Rattle.mdl_lexer.proofs.LimitLaws.{limited, word_limited}

-- what a reading tells
abbrev kind_of : Kind → Read → Kind
kind_of other (Found what rest) = what
kind_of other _ = other

abbrev rest_of : List ℕ → Read → List ℕ
rest_of other (Found what rest) = rest
rest_of other _ = other

abbrev is_found : Read → Bool
is_found (Found what rest) = true
is_found _ = false

abbrev is_past : Read → Bool
is_past PastRange = true
is_past _ = false

-- a word within the limit
record Within (read : Option (Kind × List ℕ)) (what : Kind) (rest : List ℕ) : Type 0 where
  same : read ≡ Some (what, rest)
  small : IsSmall what

-- a word past it
record Past (read : Option (Kind × List ℕ)) : Type 0 where
  value : ℕ
  rest : List ℕ
  same : read ≡ Some (kind.Int value, rest)
  large : most_integer < value

found_same : (what other : Kind) (rest behind : List ℕ) → Found what rest ≡ Found other behind →
    IsSmall what →
    Within (Some (what, rest)) other behind
found_same what other rest behind found small =
    let kind_is = ap (kind_of what) found in
    record {
      same = ap (λ (w : Kind). Some (w, rest)) kind_is
          ∙ ap (λ (r : List ℕ). Some (other, r)) (ap (rest_of rest) found);
      small = subst IsSmall kind_is small;
    }

within : (read : Option (Kind × List ℕ)) (what : Kind) (rest : List ℕ) → limited read ≡ Found what rest →
    Within read what rest
within None what rest found = absurd (false≢true (ap is_found found))
within (Some (kind.Int value, behind)) what rest found = by (nat_le value most_integer) refl
  where
    by : (b : Bool) → nat_le value most_integer ≡ b → Within (Some (kind.Int value, behind)) what rest
    by true is =
        found_same (kind.Int value) what behind rest
        (sym (cond-true (nat_le value most_integer) (Found (kind.Int value) behind) PastRange is) ∙ found)
        (leb-true value most_integer is)
    by false is =
        absurd (false≢true (ap is_found
        (sym (cond-false (nat_le value most_integer) (Found (kind.Int value) behind) PastRange is) ∙ found)))
within (Some (kind.Word own, behind)) what rest found = found_same (kind.Word own) what behind rest found tt
within (Some (kind.Reserved number, behind)) what rest found =
    found_same (kind.Reserved number) what behind rest found tt
within (Some (kind.Mark number, behind)) what rest found =
    found_same (kind.Mark number) what behind rest found tt
within (Some (kind.Real own double, behind)) what rest found =
    found_same (kind.Real own double) what behind rest found tt
within (Some (kind.Str own, behind)) what rest found = found_same (kind.Str own) what behind rest found tt

past : (read : Option (Kind × List ℕ)) → limited read ≡ PastRange → Past read
past None found = absurd (false≢true (ap is_past found))
past (Some (kind.Int value, rest)) found = by (nat_le value most_integer) refl
  where
    larger : nat_le value most_integer ≡ false → most_integer < value
    larger is = grind (arith, nat_tests)

    by : (b : Bool) → nat_le value most_integer ≡ b → Past (Some (kind.Int value, rest))
    by true is =
        absurd (false≢true (ap is_past
        (sym (cond-true (nat_le value most_integer) (Found (kind.Int value) rest) PastRange is) ∙ found)))
    by false is = record { value = value; rest = rest; same = refl; large = larger is }
past (Some (kind.Word own, rest)) found = absurd (false≢true (ap is_past found))
past (Some (kind.Reserved number, rest)) found = absurd (false≢true (ap is_past found))
past (Some (kind.Mark number, rest)) found = absurd (false≢true (ap is_past found))
past (Some (kind.Real own double, rest)) found = absurd (false≢true (ap is_past found))
past (Some (kind.Str own, rest)) found = absurd (false≢true (ap is_past found))

abbrev is_no_word : Read → Bool
is_no_word NoWord = true
is_no_word _ = false

nothing : (read : Option (Kind × List ℕ)) → limited read ≡ NoWord → read ≡ None
nothing None found = refl
nothing (Some (kind.Int value, rest)) found = absurd (by (nat_le value most_integer) refl)
  where
    by : (b : Bool) → nat_le value most_integer ≡ b → ⊥
    by true is =
        false≢true (ap is_no_word
        (sym (cond-true (nat_le value most_integer) (Found (kind.Int value) rest) PastRange is) ∙ found))
    by false is =
        false≢true (ap is_no_word
        (sym (cond-false (nat_le value most_integer) (Found (kind.Int value) rest) PastRange is) ∙ found))
nothing (Some (kind.Word own, rest)) found = absurd (false≢true (ap is_no_word found))
nothing (Some (kind.Reserved number, rest)) found = absurd (false≢true (ap is_no_word found))
nothing (Some (kind.Mark number, rest)) found = absurd (false≢true (ap is_no_word found))
nothing (Some (kind.Real own double, rest)) found = absurd (false≢true (ap is_no_word found))
nothing (Some (kind.Str own, rest)) found = absurd (false≢true (ap is_no_word found))

-- a word that is read is a step, and within the limit
read_word : (text : List ℕ) (what : Kind) (rest : List ℕ) → FindsWord text what rest →
    Reads text what rest × IsSmall what
read_word text what rest finds =
    let w = within (any_word text) what rest (sym (word_limited text) ∙ finds.found) in
    (word_found text what rest finds.no_separator w.same, w.small)

-- a chain of what is read is one of steps, over small words
pub chain_of : (bytes : ℕ) (text : List ℕ) (tokens : List Token) (rest : List ℕ) →
    Chain SkipsTo FindsWord bytes text tokens rest →
    Chain StepsOver Reads bytes text tokens rest × AreSmall tokens
chain_of bytes text tokens rest stop = (stop, tt)
chain_of bytes text tokens rest (over {rest = next} skips chain) =
    let later = chain_of bytes next tokens rest chain in (over (over_found text next skips) later.0, later.1)
chain_of bytes text tokens rest (word {rest = next} {what = what} {tokens = more} finds chain) =
    let later = chain_of bytes next more rest chain in
    let one = read_word text what next finds in (word one.0 later.0, (one.1, later.1))

-- a chain to the end gives the tokens
pub tokens_of : (bytes : List ℕ) (tokens : List Token) → IsUtf8 bytes → Reaches bytes tokens [] →
    HasTokens bytes tokens
tokens_of bytes tokens is_text reaches =
    let chain = chain_of (length bytes) (behind_mark (chars bytes)) tokens [] reaches in
    record { lexes = record { is_text = is_text; chain = chain.0 }; small = chain.1 }

-- a chain to where reading stops
ends_before : (bytes : List ℕ) (at : ℕ) (cause : Read) → IsUtf8 bytes → (stops : StopsFor bytes at cause) →
    EndsBefore bytes stops.rest at
ends_before bytes at cause is_text stops =
    let chain = chain_of (length bytes) (behind_mark (chars bytes)) stops.tokens stops.rest stops.reaches in
    record {
      tokens = stops.tokens;
      lexes = record { is_text = is_text; chain = chain.0 };
      small = chain.1;
      place = stops.place;
    }

-- nothing is read where nothing begins
pub nothing_begins : (text : List ℕ) → text ≢ [] → behind_separator text ≡ None → any_word text ≡ None →
    NothingBegins text
nothing_begins text some no_separator no_word = record {
  some = some;
  no_separator = λ rest over. none-some rest (sym no_separator ∙ over_read text rest over);
  no_word = λ what rest reads. none-some (what, rest) (sym no_word ∙ word_is_read text what rest reads);
}

-- where reading stops a fault stands
pub fault_of : (bytes : List ℕ) (found : LexFault) → IsUtf8 bytes → Stopped bytes found → HasFault bytes found
fault_of bytes (fault.NotUtf8 at) is_text stopped = absurd stopped
fault_of bytes (fault.BadToken at) is_text stops = (
  stops.rest,
  ends_before bytes at NoWord is_text stops,
  nothing_begins stops.rest stops.some stops.no_separator
      (nothing (any_word stops.rest) (sym (word_limited stops.rest) ∙ stops.read)),
)
fault_of bytes (fault.IntRange at) is_text stops =
    let large = past (any_word stops.rest) (sym (word_limited stops.rest) ∙ stops.read) in (
      stops.rest,
      ends_before bytes at PastRange is_text stops,
      record {
        value = large.value;
        rest = large.rest;
        reads = word_found stops.rest (kind.Int large.value) large.rest stops.no_separator large.same;
        large = large.large;
      },
    )
fault_of bytes fault.OutOfMemory is_text stopped = tt

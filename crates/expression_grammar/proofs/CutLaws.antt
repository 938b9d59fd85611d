-- Tokens whose kinds are known words come apart as the words do.
use Rattle.std.proofs.Common.{◌≡◌, sym, ap, refl, arith, List, [], ◌∷◌, ◌++◌, length}
use Rattle.mdl_lexer.specs.declared.token.Kind.{Kind}
use Rattle.mdl_lexer.specs.declared.token.Token.{Token}
use Rattle.expression_grammar.specs.Readings.{kinds}
use Rattle.expression_grammar.proofs.KindLaws.{same_head, same_tail}

-- a token is the first word, and the others are the other words
pub head_is : {one other : Kind} {words more : List Kind} → one ∷ words ≡ other ∷ more → other ≡ one
head_is {one} {other} {words} {more} is = sym (same_head one other words more is)

pub tail_is : {one other : Kind} {words more : List Kind} → one ∷ words ≡ other ∷ more →
    words ≡ more
tail_is {one} {other} {words} {more} is = same_tail one other words more is

-- no tokens
pub data NoTokens : List Token → Type 0 where
  no_tokens : NoTokens []

pub none : {tokens : List Token} → [] ≡ kinds tokens → NoTokens tokens
none {tokens = []} is = no_tokens
none {tokens = token ∷ tokens} is = absurd (omega (arith, ap length is))

-- the first token
pub data First (word : Kind) (words : List Kind) : List Token → Type 0 where
  first : (token : Token) (tokens : List Token) → token.kind ≡ word → words ≡ kinds tokens →
      First word words (token ∷ tokens)

pub cut_first : {word : Kind} {words : List Kind} {tokens : List Token} →
    word ∷ words ≡ kinds tokens → First word words tokens
cut_first {word} {words} {tokens = []} is = absurd (omega (arith, ap length is))
cut_first {word} {words} {tokens = token ∷ tokens} is =
    first token tokens (sym (same_head word token.kind words (kinds tokens) is))
    (same_tail word token.kind words (kinds tokens) is)

-- two halves
pub data Halves (a b : List Kind) : List Token → Type 0 where
  halves : (one other : List Token) → a ≡ kinds one → b ≡ kinds other → Halves a b (one ++ other)

longer_half : (word : Kind) (a b : List Kind) (token : Token) (tokens : List Token) →
    word ≡ token.kind → Halves a b tokens → Halves (word ∷ a) b (token ∷ tokens)
longer_half word a b token tokens is (halves one other front back) =
    halves (token ∷ one) other (λ i. is i ∷ front i) back

pub cut : {a b : List Kind} {tokens : List Token} → a ++ b ≡ kinds tokens → Halves a b tokens
cut {a = []} {b} {tokens} is = halves [] tokens refl is
cut {a = word ∷ a} {b} {tokens = []} is = absurd (omega (arith, ap length is))
cut {a = word ∷ a} {b} {tokens = token ∷ tokens} is =
    longer_half word a b token tokens (same_head word token.kind (a ++ b) (kinds tokens) is)
    (cut (same_tail word token.kind (a ++ b) (kinds tokens) is))

-- a token with tokens at both sides
pub data Around (a : List Kind) (word : Kind) (b : List Kind) : List Token → Type 0 where
  around : (one : List Token) (token : Token) (other : List Token) → a ≡ kinds one →
      token.kind ≡ word → b ≡ kinds other → Around a word b (one ++ token ∷ other)

around_first : (a : List Kind) (word : Kind) (b : List Kind) (one others : List Token) →
    a ≡ kinds one → First word b others → Around a word b (one ++ others)
around_first a word b one others front (first token other is back) = around one token other front is
    back

around_halves : (a : List Kind) (word : Kind) (b : List Kind) (tokens : List Token) →
    Halves a (word ∷ b) tokens → Around a word b tokens
around_halves a word b tokens (halves one others front back) =
    around_first a word b one others front (cut_first back)

pub cut_at : {a : List Kind} {word : Kind} {b : List Kind} {tokens : List Token} →
    a ++ word ∷ b ≡ kinds tokens → Around a word b tokens
cut_at {a} {word} {b} {tokens} is = around_halves a word b tokens (cut is)

-- a token at the end
pub data Last (a : List Kind) (word : Kind) : List Token → Type 0 where
  last : (one : List Token) (token : Token) → a ≡ kinds one → token.kind ≡ word →
      Last a word (one ++ token ∷ [])

last_none : (a : List Kind) (word : Kind) (one : List Token) (token : Token) (others : List Token) →
    a ≡ kinds one → token.kind ≡ word → NoTokens others → Last a word (one ++ token ∷ others)
last_none a word one token others front is no_tokens = last one token front is

last_around : (a : List Kind) (word : Kind) (tokens : List Token) → Around a word [] tokens →
    Last a word tokens
last_around a word tokens (around one token other front is back) =
    last_none a word one token other front is (none back)

pub cut_last : {a : List Kind} {word : Kind} {tokens : List Token} → a ++ word ∷ [] ≡ kinds tokens →
    Last a word tokens
cut_last {a} {word} {tokens} is = last_around a word tokens (cut_at is)

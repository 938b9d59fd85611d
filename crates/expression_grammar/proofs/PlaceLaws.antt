-- Places in lists, and tokens and their words.
use Rattle.std.proofs.Common.{◌≡◌, ◌⊎◌, inl, inr, ap, refl, ℕ, zero, suc, ◌≤◌, ◌<◌, List, [], ◌∷◌}
use Rattle.std.proofs.Common.{◌++◌, length, take, slice_get, arith, Some}
use Rattle.std.proofs.lemmas.Option.{same_Some, none-some}
use Rattle.std.proofs.lemmas.List.{length-map, take-map}
use Rattle.mdl_lexer.specs.declared.token.Kind.{Kind}
use Rattle.mdl_lexer.specs.declared.token.Token.{Token}
use Rattle.expression_grammar.specs.Readings.{kinds}
use Rattle.expression_grammar.proofs.KindLaws.{same_head, same_tail}

pub take_with : {A : Type 0} (one other : List A) (x : A) →
    take (suc (length one)) (one ++ x ∷ other) ≡ one ++ x ∷ []
take_with [] other x = refl
take_with (y ∷ one) other x = ap (λ l. y ∷ l) (take_with one other x)

pub get_front : {A : Type 0} (one other : List A) (at : ℕ) → at < length one →
    slice_get (one ++ other) at ≡ slice_get one at
get_front [] other at less = absurd (omega (arith, less))
get_front (x ∷ one) other zero less = refl
get_front (x ∷ one) other (suc at) less = get_front one other at (omega (arith, less))

-- a longer front is a shorter one and more
pub take_more : {A : Type 0} (list : List A) (less more : ℕ) → less ≤ more →
    (rest : List A) × (take more list ≡ take less list ++ rest)
take_more list zero more within = (take more list, refl)
take_more [] (suc less) zero within = absurd (omega (arith, within))
take_more (x ∷ list) (suc less) zero within = absurd (omega (arith, within))
take_more [] (suc less) (suc more) within = ([], refl)
take_more (x ∷ list) (suc less) (suc more) within =
    let (rest, is) = take_more list less more (omega (arith, within)) in (rest, ap (λ l. x ∷ l) is)

pub take_rest : {A : Type 0} (list : List A) (at : ℕ) → (rest : List A)
    × (list ≡ take at list ++ rest)
take_rest list zero = (list, refl)
take_rest [] (suc at) = ([], refl)
take_rest (x ∷ list) (suc at) = let (rest, is) = take_rest list at in (rest, ap (λ l. x ∷ l) is)

pub kinds_length : (tokens : List Token) → length (kinds tokens) ≡ length tokens
kinds_length tokens = length-map tokens (λ token. token.kind)

pub kinds_take : (tokens : List Token) (at : ℕ) → take at (kinds tokens) ≡ kinds (take at tokens)
kinds_take tokens at = take-map (λ (token : Token). token.kind) at tokens

-- tokens of words, wherever they stand
pub some_tokens : List Kind → List Token
some_tokens [] = []
some_tokens (word ∷ words) = record { kind = word; at = 0; end = 0 } ∷ some_tokens words

pub kinds_some : (words : List Kind) → kinds (some_tokens words) ≡ words
unfolding some_tokens
kinds_some [] = refl
kinds_some (word ∷ words) = ap (λ l. word ∷ l) (kinds_some words)

-- tokens of words that are put together
pub kinds_split : (tokens : List Token) (one other : List Kind) → kinds tokens ≡ one ++ other →
    (front : List Token) × (rest : List Token) × (tokens ≡ front ++ rest) × (kinds front ≡ one)
    × (kinds rest ≡ other)
kinds_split tokens [] other is = ([], tokens, refl, refl, is)
kinds_split [] (word ∷ one) other is = absurd (omega (arith, ap length is))
kinds_split (token ∷ tokens) (word ∷ one) other is =
    let (front, rest, same, first, second) = kinds_split tokens one other
    (same_tail token.kind word (kinds tokens) (one ++ other) is) in (
      token ∷ front,
      rest,
      ap (λ l. token ∷ l) same,
      (λ i. same_head token.kind word (kinds tokens) (one ++ other) is i ∷ first i),
      second,
    )

pub get_kind : (before rest : List Token) (token : Token) →
    slice_get (kinds (before ++ token ∷ rest)) (length before) ≡ Some token.kind
get_kind [] rest token = refl
get_kind (first ∷ before) rest token = get_kind before rest token

pub get_next_kind : (before rest : List Token) (one token : Token) →
    slice_get (kinds (before ++ one ∷ token ∷ rest)) (suc (length before)) ≡ Some token.kind
get_next_kind [] rest one token = refl
get_next_kind (first ∷ before) rest one token = get_next_kind before rest one token

pub get_take : {A : Type 0} (list : List A) (at : ℕ) → slice_get (take (suc at) list) at ≡ slice_get
    list at
get_take [] at = refl
get_take (x ∷ list) zero = refl
get_take (x ∷ list) (suc at) = get_take list at

head_of : {A : Type 0} (list : List A) (y : A) → slice_get list 0 ≡ Some y → (rest : List A)
    × (list ≡ y ∷ rest)
head_of [] y is = absurd (none-some y is)
head_of (x ∷ list) y is = (list, ap (λ z. z ∷ list) (same_Some x y is))

-- two beside each other divide the list
pub pair_at : {A : Type 0} (list : List A) (at : ℕ) (x y : A) → slice_get list at ≡ Some x →
    slice_get list (suc at) ≡ Some y →
    (before : List A) × (rest : List A) × (list ≡ before ++ x ∷ y ∷ rest)
pair_at [] at x y first second = absurd (none-some x first)
pair_at (z ∷ list) zero x y first second =
    let (rest, is) = head_of list y second in
    ([], rest, λ i. same_Some z x first i ∷ is i)
pair_at (z ∷ list) (suc at) x y first second =
    let (before, rest, is) = pair_at list at x y first second in
    (z ∷ before, rest, ap (λ l. z ∷ l) is)

pub order : (one other : ℕ) → (one < other) ⊎ (other ≤ one)
order one zero = inr (omega arith)
order zero (suc other) = inl (omega arith)
order (suc one) (suc other) = by (order one other)
  where
    by : (one < other) ⊎ (other ≤ one) → (suc one < suc other) ⊎ (suc other ≤ suc one)
    by (inl less) = inl (omega (arith, less))
    by (inr more) = inr (omega (arith, more))

pub less_or_same : (one other : ℕ) → one ≤ other → (one < other) ⊎ (one ≡ other)
less_or_same one other within = by (order one other)
  where
    by : (one < other) ⊎ (other ≤ one) → (one < other) ⊎ (one ≡ other)
    by (inl less) = inl less
    by (inr more) = inr (omega (arith, within, more))

next_token : (tokens : List Token) (word : Kind) → slice_get (kinds tokens) 0 ≡ Some word →
    (token : Token) × (rest : List Token) × (tokens ≡ token ∷ rest) × (token.kind ≡ word)
next_token [] word is = absurd (none-some word is)
next_token (token ∷ tokens) word is = (token, tokens, refl, same_Some token.kind word is)

-- tokens of two words beside each other
pub pair_tokens : (tokens : List Token) (at : ℕ) (one other : Kind) →
    slice_get (kinds tokens) at ≡ Some one → slice_get (kinds tokens) (suc at) ≡ Some other →
    (front : List Token) × (first : Token) × (second : Token) × (behind : List Token)
    × (tokens ≡ front ++ first ∷ second ∷ behind) × (length front ≡ at) × (first.kind ≡ one)
    × (second.kind ≡ other)
pair_tokens [] at one other is also = absurd (none-some one is)
pair_tokens (token ∷ tokens) zero one other is also =
    let (second, rest, same, kind_is) = next_token tokens other also in
    ([], token, second, rest, ap (λ l. token ∷ l) same, refl, same_Some token.kind one is, kind_is)
pair_tokens (token ∷ tokens) (suc at) one other is also =
    let (front, first, second, behind, same, long, one_is, other_is) =
    pair_tokens tokens at one other is also in
    (token ∷ front, first, second, behind, ap (λ l. token ∷ l) same, ap suc long, one_is, other_is)

pub same_place : (one other : ℕ) → (one < other → ⊥) → (other < one → ⊥) → one ≡ other
same_place one other not_before not_behind = by (order one other)
  where
    by : (one < other) ⊎ (other ≤ one) → one ≡ other
    by (inl less) = absurd (not_before less)
    by (inr more) = on (less_or_same other one more)
      where
        on : (other < one) ⊎ (other ≡ one) → one ≡ other
        on (inl less) = absurd (not_behind less)
        on (inr same) = omega (arith, same)

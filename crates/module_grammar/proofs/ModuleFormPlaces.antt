-- In words, the forms that are left out of modules stand where tokens of them do.
use Rattle.std.proofs.Common.{◌≡◌, ◌⊎◌, ◌∙◌, inl, inr, sym, ap, subst, refl, arith, ℕ, zero, suc}
use Rattle.std.proofs.Common.{List, [], ◌∷◌, ◌++◌, Some, codes, length, take, slice_get}
use Rattle.std.proofs.Common.{length-append}
use Rattle.std.proofs.lemmas.Option.{same_Some, none-some}
use Rattle.std.proofs.lemmas.List.{append_assoc}
use Rattle.mdl_lexer.specs.declared.token.Kind.{Kind}
use Rattle.mdl_lexer.specs.declared.token.Kind.TheVariants as kind
use Rattle.mdl_lexer.specs.declared.token.Token.{Token}
use Rattle.mdl_lexer.specs.Kinds.{mark_word, name_word}
use Rattle.expression_grammar.specs.Languages.{OpensIn, left_out_text}
use Rattle.module_grammar.specs.ModuleFaults.{WritesModule, ArePair, IsAlias, IsStraySize}
use Rattle.module_grammar.specs.ModuleFaults.{IsSizeOfHead, IsLeftOutForm, a_word, a_string}
use Rattle.module_grammar.specs.ModuleFaults.{a_re_export, an_alias, a_stray_size, a_size_of_head}
use Rattle.expression_grammar.specs.Readings.{kinds}
use Rattle.module_grammar.specs.inside.ModuleForms.{LeftOutBy, by_word, by_string, by_re_export}
use Rattle.module_grammar.specs.inside.ModuleForms.{by_alias, FormStands}
use Rattle.expression_grammar.proofs.PlaceLaws.{get_kind, pair_tokens}
use Rattle.expression_grammar.proofs.FaultLaws.{words_front}

-- From tokens to words.

abbrev Opens : List Kind → Type 0
Opens words = (most : ℕ) × OpensIn WritesModule words most

opens_front : (before rest : List Token) → Opens (kinds before) →
    Opens (take (length before) (kinds (before ++ rest)))
opens_front before rest (most, opens) =
    (most, subst (λ words. OpensIn WritesModule words most) (sym (words_front before rest)) opens)

-- a token of the front, in all words
kind_in : (front more rest before : List Token) (word : Token) → before ≡ front ++ word ∷ more →
    slice_get (kinds (before ++ rest)) (length front) ≡ Some word.kind
kind_in front more rest before word are =
    ap (λ l. slice_get (kinds l) (length front)) (ap (λ l. l ++ rest) are
    ∙ append_assoc front (word ∷ more) rest) ∙ get_kind front (more ++ rest) word

pair_in : (front rest before : List Token) (word token : Token) (one other : Kind) →
    before ≡ front ++ word ∷ [] → word.kind ≡ one → token.kind ≡ other → Opens (kinds before) →
    ArePair (kinds (before ++ token ∷ rest)) (length before) one other
pair_in front rest before word token one other are first second opens = record {
  before = length front;
  behind = omega (arith, ap length are, length-append front (word ∷ []));
  first = kind_in front [] (token ∷ rest) before word are ∙ ap Some first;
  there = get_kind before rest token ∙ ap Some second;
  opens = opens_front before (token ∷ rest) opens;
}

pub form_of : (most : ℕ) (before rest : List Token) (token : Token) (text : List ℕ) →
    LeftOutBy before token text → (higher : ℕ) × OpensIn WritesModule (kinds before) higher →
    IsLeftOutForm most (kinds (before ++ token ∷ rest)) (length before) text
form_of most before rest token text (by_word own is) opens = a_word own (record {
  opens = opens_front before (token ∷ rest) opens;
  word = token.kind;
  there = get_kind before rest token;
  text_is = is;
})
form_of most before rest token text (by_string front word own are (inl imports) is) opens =
    a_string own (inl (pair_in front rest before word token (name_word (codes "import"))
    (kind.Str own) are imports.is is opens))
form_of most before rest token text (by_string front word own are (inr uses) is) opens =
    a_string own (inr (pair_in front rest before word token (name_word (codes "using"))
    (kind.Str own) are uses.is is opens))
form_of most before rest token text (by_re_export front word are exports uses) opens =
    a_re_export (pair_in front rest before word token (name_word (codes "export"))
    (name_word (codes "using")) are exports.is uses.is opens)
form_of most before rest token text (by_alias front word name own are uses named equal) opens =
    an_alias (record {
      text = own;
      pair = pair_in (front ++ word ∷ []) rest before name token (kind.Word own)
          (mark_word (codes "=")) (are ∙ sym (append_assoc front (word ∷ []) (name ∷ []))) named
          equal.is opens;
      start = length front;
      ahead = omega (arith, ap length are, length-append front (word ∷ name ∷ []));
      front = kind_in front (name ∷ []) (token ∷ rest) before word are ∙ ap Some uses.is;
    })

-- From words to tokens.

-- a token in its place
record TokenAt (tokens : List Token) (at : ℕ) (word : Kind) : Type 0 where
  pub front : List Token
  pub token : Token
  pub rest : List Token
  pub are : tokens ≡ front ++ token ∷ rest
  pub long : length front ≡ at
  pub is : token.kind ≡ word

token_at : (tokens : List Token) (at : ℕ) (word : Kind) → slice_get (kinds tokens) at ≡ Some word →
    TokenAt tokens at word
token_at [] at word there = absurd (none-some word there)
token_at (token ∷ tokens) zero word there = record {
  front = [];
  token = token;
  rest = tokens;
  are = refl;
  long = refl;
  is = same_Some token.kind word there;
}
token_at (token ∷ tokens) (suc at) word there =
    let found = token_at tokens at word there in record {
      front = token ∷ found.front;
      token = found.token;
      rest = found.rest;
      are = ap (λ l. token ∷ l) found.are;
      long = ap suc found.long;
      is = found.is;
    }

three_tokens : (tokens : List Token) (at : ℕ) (one two three : Kind) →
    slice_get (kinds tokens) at ≡ Some one → slice_get (kinds tokens) (suc at) ≡ Some two →
    slice_get (kinds tokens) (suc (suc at)) ≡ Some three →
    (front : List Token) × (first : Token) × (second : Token) × (third : Token)
    × (behind : List Token) × (tokens ≡ front ++ first ∷ second ∷ third ∷ behind)
    × (length front ≡ at) × (first.kind ≡ one) × (second.kind ≡ two) × (third.kind ≡ three)
three_tokens [] at one two three is also last = absurd (none-some one is)
three_tokens (first ∷ []) zero one two three is also last = absurd (none-some two also)
three_tokens (first ∷ second ∷ []) zero one two three is also last = absurd (none-some three last)
three_tokens (first ∷ second ∷ third ∷ behind) zero one two three is also last = (
  [],
  first,
  second,
  third,
  behind,
  refl,
  refl,
  same_Some first.kind one is,
  same_Some second.kind two also,
  same_Some third.kind three last,
)
three_tokens (token ∷ tokens) (suc at) one two three is also last =
    let (front, first, second, third, behind, same, long, one_is, two_is, three_is) =
    three_tokens tokens at one two three is also last in (
      token ∷ front,
      first,
      second,
      third,
      behind,
      ap (λ l. token ∷ l) same,
      ap suc long,
      one_is,
      two_is,
      three_is,
    )

front_opens : (tokens before rest : List Token) (at : ℕ) → tokens ≡ before ++ rest →
    length before ≡ at → Opens (take at (kinds tokens)) → Opens (kinds before)
front_opens tokens before rest at are long (most, opens) = (
  most,
  subst (λ words. OpensIn WritesModule words most)
      (ap (λ l. take at (kinds l)) are
      ∙ (ap (λ n. take n (kinds (before ++ rest))) (sym long) ∙ words_front before rest))
      opens,
)

word_stands : (tokens : List Token) (at : ℕ) (word : Kind) (text : List ℕ) →
    slice_get (kinds tokens) at ≡ Some word → left_out_text word ≡ Some text →
    Opens (take at (kinds tokens)) → FormStands tokens at text
word_stands tokens at word text there is opens =
    let found = token_at tokens at word there in record {
      before = found.front;
      token = found.token;
      rest = found.rest;
      are = found.are;
      long = found.long;
      form = by_word text (ap left_out_text found.is ∙ is);
      opens = front_opens tokens found.front (found.token ∷ found.rest) at found.are found.long
          opens;
    }

-- of two words beside each other, the second ends the form
pair_stands : (tokens : List Token) (at : ℕ) (one other : Kind) (text : List ℕ) →
    ((front : List Token) (word token : Token) → word.kind ≡ one → token.kind ≡ other →
    LeftOutBy (front ++ word ∷ []) token text) → ArePair (kinds tokens) at one other →
    FormStands tokens at text
pair_stands tokens at one other text law pair =
    let (front, word, token, rest, are, long, first, second) =
    pair_tokens tokens pair.before one other pair.first
    (subst (λ n. slice_get (kinds tokens) n ≡ Some other) pair.behind pair.there) in
    let split = are ∙ sym (append_assoc front (word ∷ []) (token ∷ rest)) in
    let behind : length (front ++ word ∷ []) ≡ at =
    omega (arith, long, pair.behind, length-append front (word ∷ [])) in record {
      before = front ++ word ∷ [];
      token = token;
      rest = rest;
      are = split;
      long = behind;
      form = law front word token first second;
      opens = front_opens tokens (front ++ word ∷ []) (token ∷ rest) at split behind pair.opens;
    }

alias_stands : (tokens : List Token) (at : ℕ) → IsAlias (kinds tokens) at →
    FormStands tokens at (codes "alias")
alias_stands tokens at one =
    let before_is : one.pair.before ≡ suc one.start =
    omega (arith, one.ahead, one.pair.behind) in
    let (front, word, name, token, rest, are, long, first, second, third) =
    three_tokens tokens one.start (name_word (codes "using")) (kind.Word one.text)
    (mark_word (codes "=")) one.front
    (subst (λ n. slice_get (kinds tokens) n ≡ Some (kind.Word one.text)) before_is one.pair.first)
    (subst (λ n. slice_get (kinds tokens) n ≡ Some (mark_word (codes "="))) one.ahead
    one.pair.there) in
    let split = are ∙ sym (append_assoc front (word ∷ name ∷ []) (token ∷ rest)) in
    let behind : length (front ++ word ∷ name ∷ []) ≡ at =
    omega (arith, long, one.ahead, length-append front (word ∷ name ∷ [])) in record {
      before = front ++ word ∷ name ∷ [];
      token = token;
      rest = rest;
      are = split;
      long = behind;
      form = by_alias front word name one.text refl (record { is = first }) second
          (record { is = third });
      opens = front_opens tokens (front ++ word ∷ name ∷ []) (token ∷ rest) at split behind
          one.pair.opens;
    }

-- a form that is left out is a size that is deferred, or stands so in the tokens
abbrev pub FormOrSize : ℕ → List Kind → List Token → ℕ → List ℕ → Type 0
FormOrSize most words tokens at text =
    ((text ≡ codes "deferred-size") × (IsStraySize words at ⊎ IsSizeOfHead most words at))
    ⊎ FormStands tokens at text

form_in : (most : ℕ) (tokens : List Token) (at : ℕ) (text : List ℕ) →
    IsLeftOutForm most (kinds tokens) at text → FormOrSize most (kinds tokens) tokens at text
form_in most tokens at text (a_word own one) =
    inr (word_stands tokens at one.word own one.there one.text_is one.opens)
form_in most tokens at text (a_string own (inl pair)) =
    inr (pair_stands tokens at (name_word (codes "import")) (kind.Str own) (codes "string-name")
    (λ front word token first second. by_string front word own refl
    (inl (record { is = first })) second) pair)
form_in most tokens at text (a_string own (inr pair)) =
    inr (pair_stands tokens at (name_word (codes "using")) (kind.Str own) (codes "string-name")
    (λ front word token first second. by_string front word own refl
    (inr (record { is = first })) second) pair)
form_in most tokens at text (a_re_export pair) =
    inr (pair_stands tokens at (name_word (codes "export")) (name_word (codes "using"))
    (codes "re-export")
    (λ front word token first second. by_re_export front word refl (record { is = first })
    (record { is = second })) pair)
form_in most tokens at text (an_alias one) = inr (alias_stands tokens at one)
form_in most tokens at text (a_stray_size one) = inl (refl, inl one)
form_in most tokens at text (a_size_of_head one) = inl (refl, inr one)

pub form_by : (most : ℕ) (words : List Kind) (tokens : List Token) (at : ℕ) (text : List ℕ) →
    words ≡ kinds tokens → IsLeftOutForm most words at text →
    FormOrSize most words tokens at text
form_by most words tokens at text same form =
    subst (λ own. FormOrSize most own tokens at text) (sym same)
    (form_in most tokens at text (subst (λ own. IsLeftOutForm most own at text) same form))

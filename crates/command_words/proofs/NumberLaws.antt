-- Reading the number of workers agrees with what it is.
use Rattle.std.proofs.Common.{◌≡◌, ◌≢◌, ◌<◌, ◌≤◌, ◌^◌, ℕ, zero, suc}
use Rattle.std.proofs.Common.{List, [], ◌∷◌, Option, Some, None, Result, Ok, Err, get_or, decimal}
use Rattle.std.proofs.Common.{refl, sym, ap, ◌∙◌, subst, arith}
use Rattle.std.specs.Str.{bytes_eq}
use Rattle.std.specs.Str.Parse.{ParsesUnsigned, IsNumeral, AllDigits, without_leading_plus, digits_value}
use Rattle.std.specs.Cmp.Lexicographic.{bytes_decides}
use Rattle.std.proofs.lemmas.Bool.{true≢false, cond_both}
use Rattle.std.proofs.lemmas.Option.{same_Some, none-some}
use Rattle.std.proofs.lemmas.Fmt.{decimal_injective, first_decimal, parse-decimal, decimal-digits_value}
use Rattle.std.proofs.lemmas.Fmt.{decimal_digit}
use Rattle.std.proofs.lemmas.Str.Parse.{numerals_by_value, tells_digits, without_leading_plus_none}
use Rattle.std.specs.Result.{result_ok}
use Rattle.command_words.specs.Requests.{AreWorkers}
use Rattle.command_words.specs.inside.Options.{number_upto, number_in, workers_in}
use Rattle.command_words.proofs.OptionLaws.{choice, same_bytes}

-- the number is written so, and lies in the bounds
abbrev pub IsNumber : ℕ → List ℕ → ℕ → Type 0
IsNumber most word number = (word ≡ decimal number) × (1 ≤ number) × (number ≤ most)

number_sound : (most : ℕ) (word : List ℕ) (number : ℕ) → number_upto most word ≡ Some number →
    IsNumber most word number
unfolding number_upto
number_sound zero word number e = absurd (none-some number e)
number_sound (suc most) word number e =
    choice (bytes_eq word (decimal (suc most))) (Some (suc most)) (number_upto most word) (Some number) e
    (λ is found.
    subst (IsNumber (suc most) word) (same_Some (suc most) number found)
    (same_bytes word (decimal (suc most)) is, omega arith, omega arith))
    (λ other found.
    let r = number_sound most word number found in
    (r.0, r.1, omega (arith, r.2)))

number_complete : (most number : ℕ) → most < 2 ^ 64 → 1 ≤ number → number ≤ most →
    number_upto most (decimal number) ≡ Some number
unfolding number_upto
number_complete zero number small low high = absurd (omega arith)
number_complete (suc most) number small low high =
    cond_both (bytes_eq (decimal number) (decimal (suc most))) (Some (suc most))
    (number_upto most (decimal number)) (λ found. found ≡ Some number)
    (λ is.
    ap Some (sym (decimal_injective number (suc most) (omega arith) small
    (same_bytes (decimal number) (decimal (suc most)) is))))
    (λ other.
    let differ : number ≢ suc most =
    λ e. true≢false (sym ((bytes_decides (decimal number) (decimal (suc most))).1 (ap decimal e)) ∙ other) in
    number_complete most number (omega arith) low (omega (arith, differ)))

-- the word is a number from 1 to 64
pub number_in_sound : (word : List ℕ) (number : ℕ) → number_in word ≡ Some number → IsNumber 64 word number
unfolding number_in
number_in_sound word number e = number_sound 64 word number e

pub number_in_complete : (word : List ℕ) (number : ℕ) → IsNumber 64 word number → number_in word ≡ Some number
unfolding number_in
number_in_complete word number h =
    ap (number_upto 64) h.0 ∙ number_complete 64 number (omega arith) h.1 h.2

none_unless : {A : Type 0} (found : Option A) → ((a : A) → found ≡ Some a → ⊥) → found ≡ None
none_unless None h = refl
none_unless (Some a) h = absurd (h a refl)

-- no number is written so
pub number_none : (word : List ℕ) → ((number : ℕ) → IsNumber 64 word number → ⊥) → number_in word ≡ None
number_none word h = none_unless (number_in word) (λ number e. h number (number_in_sound word number e))

-- a number doesn't begin with `0` or with a sign
pub number_first : (word : List ℕ) → get_or word 0 0 ≤ 48 → number_in word ≡ None
number_first word low =
    number_none word (λ number h.
    let first : 48 < get_or (decimal number) 0 0 = first_decimal number (omega (arith, h.1)) (omega (arith, h.2)) in
    let same : get_or word 0 0 ≡ get_or (decimal number) 0 0 = ap (λ bytes. get_or bytes 0 0) h.0 in
    omega arith)

-- what isn't parsed is no number
pub number_refused : {E : Type 0} (word : List ℕ) (error : E) (r : Result ℕ E) → r ≡ Err error →
    ParsesUnsigned 32 10 word r → number_in word ≡ None
number_refused word error r is parses =
    number_none word (λ number h.
    none-some number
    (ap result_ok (sym is ∙ parse-decimal 32 number word r (omega (arith, h.2)) (omega (arith, h.2)) h.0 parses)))

-- a larger number is none
pub number_large : {E : Type 0} (word : List ℕ) (number : ℕ) (r : Result ℕ E) → r ≡ Ok number →
    ParsesUnsigned 32 10 word r → 64 < number → number_in word ≡ None
number_large word number r is parses large =
    number_none word (λ other h.
    let same : number ≡ other =
    same_Some number other (ap result_ok (sym is
    ∙ parse-decimal 32 other word r (omega (arith, h.2)) (omega (arith, h.2)) h.0 parses)) in
    omega (arith, h.2))

-- a number that doesn't begin with `0` is at least 1
number_some : (word : List ℕ) (number : ℕ) → 48 < get_or word 0 0 → word ≡ decimal number → 1 ≤ number
number_some word zero first is =
    let zero_is : get_or word 0 0 ≡ 48 = ap (λ bytes. get_or bytes 0 0) (is ∙ decimal_digit 0 (omega arith)) in
    absurd (omega arith)
number_some word (suc number) first is = omega arith

-- a number that is parsed from digits that begin with none of `0` and a sign
pub number_parsed : {E : Type 0} (word : List ℕ) (number : ℕ) (r : Result ℕ E) → r ≡ Ok number →
    48 < get_or word 0 0 → ParsesUnsigned 32 10 word r → number ≤ 64 → number_in word ≡ Some number
number_parsed {E} word number r is_ok first parsing small =
    let parses : ParsesUnsigned {E = E} 32 10 word (Ok number) =
    subst (ParsesUnsigned {E = E} 32 10 word) is_ok parsing in
    let plain : without_leading_plus word ≡ word = without_leading_plus_none word (λ e. absurd (omega arith)) in
    let parsed : IsNumeral 10 word × (digits_value 10 word ≡ number) =
    subst (λ bytes. IsNumeral 10 bytes × (digits_value 10 bytes ≡ number)) plain (parses.0.0, sym parses.1) in
    let value_small : digits_value 10 word < 2 ^ 64 = omega (arith, parsed.1) in
    let written : decimal (digits_value 10 word) ≡ word =
    decimal-digits_value (numerals_by_value (AllDigits 10) tells_digits) word parsed.0.1 parsed.0.0
    (λ e. absurd (omega arith)) value_small in
    let is : word ≡ decimal number = sym written ∙ ap decimal parsed.1 in
    number_in_complete word number (is, number_some word number first is, small)

-- the workers that values are
pub workers_sound : (values : List (List ℕ)) (workers : ℕ) → workers_in values ≡ Some workers →
    AreWorkers values workers
unfolding workers_in
workers_sound [] workers e = sym (same_Some 1 workers e)
workers_sound (value ∷ []) workers e = number_in_sound value workers e
workers_sound (value ∷ more ∷ values) workers e = absurd (none-some workers e)

pub workers_complete : (values : List (List ℕ)) (workers : ℕ) → AreWorkers values workers →
    workers_in values ≡ Some workers
unfolding workers_in
workers_complete [] workers h = ap Some (sym h)
workers_complete (value ∷ []) workers h = number_in_complete value workers h
workers_complete (value ∷ more ∷ values) workers h = absurd h

-- Laws of reading numbers.
use Rattle.std.proofs.Common.{◌≡◌, ◌<◌, ◌∙◌, sym, ap, subst, refl, arith, ℕ, Bool, true, false, ◌&&◌, ◌||◌}
use Rattle.std.proofs.Common.{◌==◌, Some, None, is_some}
use Rattle.std.proofs.Common.{List, [], ◌∷◌, ◌++◌, length, take_while, IsAscii, encode_utf8_all}
use Rattle.std.specs.List.{list_all}
use Rattle.std.specs.Char.{digit_value}
use Rattle.std.specs.Str.Parse.{AllDigits}
use Rattle.std.proofs.lemmas.Bool.{cond-true, cond-false, and_parts, false≢true}
use Rattle.std.proofs.lemmas.Bool.Decides.{nat_tests}
use Rattle.std.proofs.lemmas.List.Sums.{take_while-cons}
use Rattle.std.proofs.lemmas.Str.{chars-IsAscii}
use Rattle.std.proofs.lemmas.Str.Ascii.{encodes-IsAscii, IsAscii-nil, IsAscii-cons}
use Rattle.mdl_lexer.specs.Characters.{is_digit, is_octal, is_hexadecimal}
use Rattle.mdl_lexer.specs.inside.Cutting.{drop_while, begins, behind_one}
use Rattle.mdl_lexer.specs.inside.Numbers.{AreDigits}
use Rattle.mdl_lexer.specs.inside.Reading.{front_of, begins_number, real_end, real_end_from}
use Rattle.mdl_lexer.proofs.CuttingLaws.{front_taken}

-- a text is the characters of a class at its front, and what stands behind them
pub parted : (class : ℕ → Bool) (text : List ℕ) → text ≡ take_while class text ++ drop_while class text
parted class [] = refl
parted class (char ∷ text) = by (class char) refl (parted class text)
  where
    by : (b : Bool) → class char ≡ b → text ≡ take_while class text ++ drop_while class text →
        char ∷ text ≡ take_while class (char ∷ text) ++ drop_while class (char ∷ text)
    by true is later =
        ap (λ rest. char ∷ rest) later
        ∙ sym (ap (λ front. front ++ drop_while class (char ∷ text)) (take_while-cons class char text
        ∙ cond-true (class char) (char ∷ take_while class text) [] is)
        ∙ ap (λ rest. (char ∷ take_while class text) ++ rest) (cond-true (class char) (drop_while class text)
        (char ∷ text) is))
    by false is later =
        sym (ap (λ front. front ++ drop_while class (char ∷ text)) (take_while-cons class char text
        ∙ cond-false (class char) (char ∷ take_while class text) [] is)
        ∙ cond-false (class char) (drop_while class text) (char ∷ text) is)

-- what stands before the first character that isn't of the class
pub front_class : (class : ℕ → Bool) (text : List ℕ) →
    take_while class text ≡ front_of text (drop_while class text)
front_class class text = front_taken text (take_while class text) (drop_while class text) (parted class text)

-- all of it is of the class
pub all_taken : (class : ℕ → Bool) (text : List ℕ) → list_all class (take_while class text) ≡ true
all_taken class [] = refl
all_taken class (char ∷ text) = by (class char) refl (all_taken class text)
  where
    by : (b : Bool) → class char ≡ b → list_all class (take_while class text) ≡ true →
        list_all class (take_while class (char ∷ text)) ≡ true
    by true is later =
        ap (list_all class) (take_while-cons class char text
        ∙ cond-true (class char) (char ∷ take_while class text) [] is)
        ∙ (ap (λ (b : Bool). b && list_all class (take_while class text)) is ∙ later)
    by false is later = ap (list_all class) (take_while-cons class char text
        ∙ cond-false (class char) (char ∷ take_while class text) [] is)

-- digits of a class below a base
pub all_digits : (class : ℕ → Bool) (base : ℕ) → ((char : ℕ) → class char ≡ true → digit_value char < base) →
    (digits : List ℕ) → list_all class digits ≡ true → AllDigits base digits
all_digits class base below [] all = tt
all_digits class base below (char ∷ digits) all =
    let both = and_parts (class char) (list_all class digits) all in
    (below char both.0, all_digits class base below digits both.1)

pub decimal_below : (char : ℕ) → is_digit char ≡ true → digit_value char < 10
decimal_below char is = grind (arith, nat_tests)

pub octal_below : (char : ℕ) → is_octal char ≡ true → digit_value char < 8
octal_below char is = grind (arith, nat_tests)

pub hexadecimal_below : (char : ℕ) → is_hexadecimal char ≡ true → digit_value char < 16
hexadecimal_below char is = grind (arith, nat_tests)

pub below_ascii : (class : ℕ → Bool) → ((char : ℕ) → class char ≡ true → char < 128) → (text : List ℕ) →
    list_all class text ≡ true → IsAscii text
below_ascii class below [] all = IsAscii-nil
below_ascii class below (char ∷ text) all =
    let both = and_parts (class char) (list_all class text) all in
    IsAscii-cons char text (below char both.0) (below_ascii class below text both.1)

-- the digits at the front of a text, as bytes
pub digits_front : (class : ℕ → Bool) (base : ℕ) → ((char : ℕ) → class char ≡ true →
    digit_value char < base) → ((char : ℕ) → class char ≡ true → char < 128) → (text bytes : List ℕ) →
    begins class text ≡ true → bytes ≡ encode_utf8_all (front_of text (drop_while class text)) →
    AreDigits base bytes
digits_front class base below ascii text bytes some is =
    let taken = take_while class text in
    let all = all_taken class text in
    let is_ascii : IsAscii taken = below_ascii class ascii taken all in
    let same : bytes ≡ taken = is ∙ (ap encode_utf8_all (sym (front_class class text))
    ∙ encodes-IsAscii taken is_ascii) in
    subst (AreDigits base) (sym same)
    (record {
      numeral = (not_empty text some, all_digits class base below taken all);
      characters = chars-IsAscii taken is_ascii;
    })
  where
    not_empty : (text : List ℕ) → begins class text ≡ true → 0 < length (take_while class text)
    not_empty [] some = absurd (false≢true some)
    not_empty (char ∷ text) some =
        omega (
          arith,
          ap length (take_while-cons class char text
              ∙ cond-true (class char) (char ∷ take_while class text) [] some),
        )

pub digit_ascii : (char : ℕ) → is_digit char ≡ true → char < 128
digit_ascii char is = grind (arith, nat_tests)

pub octal_ascii : (char : ℕ) → is_octal char ≡ true → char < 128
octal_ascii char is = grind (arith, nat_tests)

pub hexadecimal_ascii : (char : ℕ) → is_hexadecimal char ≡ true → char < 128
hexadecimal_ascii char is = grind (arith, nat_tests)

some_none : {A : Type 0} {x : A} → Some x ≡ None → ⊥
some_none e = false≢true (sym (ap is_some e))

-- where digits alone begin a number, the text begins with one
pub begins_digit : (text : List ℕ) → begins_number text ≡ true → real_end (drop_while is_digit text) ≡ None →
    begins is_digit text ≡ true
unfolding real_end
begins_digit [] number none = absurd (false≢true number)
begins_digit (char ∷ text) number none = by (is_digit char) refl
  where
    by : (b : Bool) → is_digit char ≡ b → is_digit char ≡ true
    by true is = is
    by false is =
        let point : (char == 46) ≡ true =
        (and_parts (char == 46) (begins is_digit text) (sym (ap (λ (b : Bool). b || ((char == 46) && begins
        is_digit text)) is) ∙ number)).0 in
        let same : drop_while is_digit (char ∷ text) ≡ char ∷ text =
        cond-false (is_digit char) (drop_while is_digit text) (char ∷ text) is in
        let found : behind_one 46 (char ∷ text) ≡ Some text = cond-true (char == 46) (Some text) None point in
        absurd (some_none (sym (ap real_end same ∙ ap (real_end_from (char ∷ text)) found) ∙ none))

-- digits that alone are a number
pub decimal_digits : (text rest bytes : List ℕ) → begins_number text ≡ true →
    rest ≡ drop_while is_digit text →
    real_end rest ≡ None → bytes ≡ encode_utf8_all (front_of text rest) → AreDigits 10 bytes
decimal_digits text rest bytes number dropped none is =
    digits_front is_digit 10 decimal_below digit_ascii text bytes
    (begins_digit text number (ap real_end (sym dropped) ∙ none))
    (is ∙ ap (λ r. encode_utf8_all (front_of text r)) dropped)

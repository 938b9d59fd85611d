-- Reading an escape and its definition agree.
use Rattle.std.proofs.Common.{◌≡◌, ◌≤◌, ◌<◌, ◌*◌, ◌+◌, ◌∙◌, sym, ap, refl, arith, ℕ, ◌==◌, nat_lt}
use Rattle.std.proofs.Common.{Bool, true, false, if◌then◌else◌}
use Rattle.std.proofs.Common.{Option, Some, None, List, [], ◌∷◌, ◌++◌, length}
use Rattle.std.specs.List.{list_all}
use Rattle.std.specs.Char.{digit_value}
use Rattle.std.specs.Str.Parse.{digits_value}
use Rattle.std.proofs.lemmas.Bool.{lt-ltb, ltb-true, eqb-true, cond-true, cond-false, and_parts, and_from}
use Rattle.std.proofs.lemmas.Bool.Decides.{nat_tests}
use Rattle.std.proofs.lemmas.Option.{cond_some, option_and_then_some, some_pair_parts, none-some}
use Rattle.mdl_lexer.specs.Characters.{is_octal, is_hexadecimal}
use Rattle.mdl_lexer.specs.Strings.{escapes, escaped_in}
use Rattle.mdl_lexer.specs.inside.Strings.{digit_in, octal_in, hexadecimal_in, escape_from, escape_in}
use Rattle.mdl_lexer.specs.inside.Reading.{◌>>=◌}
use Rattle.mdl_lexer.proofs.NumberLaws.{hexadecimal_below}
use Rattle.mdl_lexer.proofs.OctalLaws.{digit_read, digit_found, OctalBefore, octal_read, octal_found}

-- two hexadecimal digits below 80 at the front of a text, their value and the rest
pub record HexadecimalBefore (text : List ℕ) (value : ℕ) (rest : List ℕ) : Type 0 where
  pub high : ℕ
  pub low : ℕ
  pub written : text ≡ high ∷ low ∷ rest
  pub are_digits : list_all is_hexadecimal (high ∷ low ∷ []) ≡ true
  pub small : digits_value 16 (high ∷ low ∷ []) < 128
  pub is_value : value ≡ digits_value 16 (high ∷ low ∷ [])

-- a character whose value is below 16 is a hexadecimal digit
hexadecimal_digit : (char : ℕ) → digit_value char < 16 → is_hexadecimal char ≡ true
hexadecimal_digit char below = grind (arith, nat_tests)

-- two hexadecimal digits below 80 are read
hexadecimal_read : (text : List ℕ) (value : ℕ) (rest : List ℕ) → HexadecimalBefore text value rest →
    hexadecimal_in text ≡ Some (value, rest)
unfolding hexadecimal_in
hexadecimal_read text value rest is =
    let both = and_parts (is_hexadecimal is.high) (list_all is_hexadecimal (is.low ∷ [])) is.are_digits in
    let high_below = hexadecimal_below is.high both.0 in
    let low_below = hexadecimal_below is.low (and_parts (is_hexadecimal is.low) true both.1).0 in
    rw (is.written, digit_read 16 is.high (is.low ∷ rest) high_below, digit_read 16 is.low rest low_below)
    (cond-true (nat_lt (digit_value is.high) 8)
    (Some (digit_value is.high * 16 + digit_value is.low, rest)) None
    (lt-ltb (digit_value is.high) 8 (omega (arith, is.small)))
    ∙ ap (λ v. Some (v, rest)) (omega (arith, is.is_value)))

-- what is read as two hexadecimal digits are two below 80
hexadecimal_found : (text : List ℕ) (value : ℕ) (rest : List ℕ) → hexadecimal_in text ≡ Some (value, rest) →
    HexadecimalBefore text value rest
unfolding hexadecimal_in
hexadecimal_found text value rest found =
    option_and_then_some (λ high. digit_in 16 high.1 >>= from high) (digit_in 16 text) (value, rest) found
    (λ high is_high same.
    option_and_then_some (from high) (digit_in 16 high.1) (value, rest) same (by high is_high))
  where
    from : ℕ × List ℕ → ℕ × List ℕ → Option (ℕ × List ℕ)
    from high low = if nat_lt high.0 8 then Some (high.0 * 16 + low.0, low.1) else None

    by : (high : ℕ × List ℕ) → digit_in 16 text ≡ Some high →
        (low : ℕ × List ℕ) → digit_in 16 high.1 ≡ Some low →
        from high low ≡ Some (value, rest) → HexadecimalBefore text value rest
    by high is_high low is_low same =
        let first = digit_found 16 text high.0 high.1 is_high in
        let second = digit_found 16 high.1 low.0 low.1 is_low in
        let both = cond_some (nat_lt high.0 8) (high.0 * 16 + low.0, low.1) (value, rest) same in
        let parts = some_pair_parts (high.0 * 16 + low.0) value low.1 rest (ap Some both.1) in
        let small : high.0 < 8 = ltb-true high.0 8 both.0 in
        record {
          high = first.char;
          low = second.char;
          written =
              first.written ∙ ap (λ t. first.char ∷ t) (second.written ∙ ap (λ t. second.char ∷ t) parts.1);
          are_digits =
              and_from _ _ (hexadecimal_digit first.char first.below)
              (and_from _ _ (hexadecimal_digit second.char second.below) refl);
          small = omega (arith, small, first.is_value, second.below);
          is_value = omega (arith, parts.0, first.is_value, second.is_value);
        }

-- an octal digit is no other escape's letter
octal_letter : (letter : ℕ) → is_octal letter ≡ true →
    (escaped_in escapes letter ≡ None) × ((letter == 120) ≡ false)
octal_letter letter is = (grind (arith, nat_tests), grind (arith, nat_tests))

-- an escape at the front of a text that begins behind its `\`, its character and the rest
pub data IsEscape (text : List ℕ) (char : ℕ) (rest : List ℕ) : Type 0 where
  by_letter : (letter : ℕ) → text ≡ letter ∷ rest → escaped_in escapes letter ≡ Some char →
      IsEscape text char rest
  by_octal : OctalBefore text char rest → IsEscape text char rest
  by_hexadecimal : (digits : List ℕ) → text ≡ 120 ∷ digits → HexadecimalBefore digits char rest →
      IsEscape text char rest

-- what is read as an escape is one
pub escape_found : (text : List ℕ) (char : ℕ) (rest : List ℕ) → escape_in text ≡ Some (char, rest) →
    IsEscape text char rest
unfolding escape_in
escape_found [] char rest found = absurd (none-some (char, rest) found)
escape_found (letter ∷ text) char rest found = by (escaped_in escapes letter) refl
  where
    by_number : (b : Bool) → (letter == 120) ≡ b → escape_from None letter text ≡ Some (char, rest) →
        IsEscape (letter ∷ text) char rest
    by_number true is same =
        by_hexadecimal text (ap (λ c. c ∷ text) (eqb-true letter 120 is))
        (hexadecimal_found text char rest
        (sym (cond-true (letter == 120) (hexadecimal_in text) (octal_in (letter ∷ text)) is) ∙ same))
    by_number false is same =
        by_octal (octal_found (letter ∷ text) char rest
        (sym (cond-false (letter == 120) (hexadecimal_in text) (octal_in (letter ∷ text)) is) ∙ same))

    by : (own : Option ℕ) → escaped_in escapes letter ≡ own → IsEscape (letter ∷ text) char rest
    by None is = by_number (letter == 120) refl (sym (ap (λ o. escape_from o letter text) is) ∙ found)
    by (Some own) is =
        let same = sym (ap (λ o. escape_from o letter text) is) ∙ found in
        let parts = some_pair_parts own char text rest same in
        by_letter letter (ap (λ t. letter ∷ t) parts.1) (is ∙ ap Some parts.0)

-- an escape is read
pub escape_read : (text : List ℕ) (char : ℕ) (rest : List ℕ) → IsEscape text char rest →
    escape_in text ≡ Some (char, rest)
unfolding escape_in
escape_read text char rest (by_letter letter written is) =
    ap escape_in written ∙ ap (λ o. escape_from o letter rest) is
escape_read text char rest (by_hexadecimal digits written is) =
    ap escape_in written ∙ hexadecimal_read digits char rest is
escape_read text char rest (by_octal is) =
    ap escape_in is.written
    ∙ (octal_escape is.digits is.is_escape.some is.is_escape.are_digits
    ∙ (octal_read is.digits rest is.is_escape is.is_longest ∙ ap (λ v. Some (v, rest)) (sym is.is_value)))
  where
    octal_escape : (digits : List ℕ) → 1 ≤ length digits → list_all is_octal digits ≡ true →
        escape_in (digits ++ rest) ≡ octal_in (digits ++ rest)
    octal_escape [] some all = absurd (omega (arith, some))
    octal_escape (letter ∷ digits) some all =
        let none = octal_letter letter (and_parts (is_octal letter) (list_all is_octal digits) all).0 in
        ap (λ o. escape_from o letter (digits ++ rest)) none.0
        ∙ cond-false (letter == 120) (hexadecimal_in (digits ++ rest)) (octal_in (letter ∷ (digits ++ rest)))
        none.1

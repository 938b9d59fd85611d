-- Laws of reading reals.
use Rattle.std.proofs.Common.{◌≡◌, ◌⊎◌, inl, inr, ◌≤◌, ◌<◌, ◌∙◌, sym, ap, subst, refl, arith, ℕ, Bool, true}
use Rattle.std.proofs.Common.{false, ◌&&◌, ◌||◌, ◌==◌}
use Rattle.std.proofs.Common.{List, [], ◌∷◌, ◌++◌, length, take_while, Option, Some, None, unwrap_or, IsAscii}
use Rattle.std.proofs.Common.{eqb-true}
use Rattle.std.specs.List.{list_all}
use Rattle.std.proofs.lemmas.Bool.{cond-false, and_parts, or_left, or_right, false≢true}
use Rattle.std.proofs.lemmas.Bool.Decides.{nat_tests}
use Rattle.std.proofs.lemmas.List.{append_assoc, length-append}
use Rattle.std.proofs.lemmas.List.Folds.{list_all-append}
use Rattle.std.proofs.lemmas.Option.{same_Some, none-some}
use Rattle.std.proofs.lemmas.Str.{IsAscii-append}
use Rattle.std.proofs.lemmas.Str.Ascii.{IsAscii-nil, IsAscii-cons}
use Rattle.mdl_lexer.specs.Characters.{is_digit}
use Rattle.mdl_lexer.specs.Forms.{are, IsPointed, IsExponent, IsUnsuffixed, pointed, both, scaled}
use Rattle.mdl_lexer.specs.inside.Cutting.{drop_while, begins, behind_one}
use Rattle.mdl_lexer.specs.inside.Reading.{begins_number, behind_exponent, real_end, real_end_from}
use Rattle.mdl_lexer.proofs.ListLaws.{drop_front, drop_none, dropped_length}
use Rattle.mdl_lexer.proofs.NumberLaws.{parted, all_taken, below_ascii, digit_ascii}
use Rattle.mdl_lexer.proofs.NumberParts.{are_all, are_begin, are_left, are_right, taken_are, one_found}
use Rattle.mdl_lexer.proofs.NumberParts.{exponent_read, exponent_found}

-- what ends a real behind its `.` and the digits there
abbrev pub pointed_end : List ℕ → List ℕ
pointed_end text = unwrap_or (behind_exponent text) text

-- the letter of an exponent is no digit and no `.`
letter_other : (letter : ℕ) → (letter == 101 || letter == 69) ≡ true →
    (is_digit letter ≡ false) × ((letter == 46) ≡ false)
letter_other letter is = (grind (arith, nat_tests), grind (arith, nat_tests))

-- no digits stand before an exponent
no_digits : (form after : List ℕ) → IsExponent form → drop_while is_digit (form ++ after) ≡ form ++ after
no_digits form after is =
    drop_none is_digit (form ++ after)
    (ap (λ f. begins is_digit (f ++ after)) is.written ∙ (letter_other is.letter is.is_letter).0)

-- the digits on both sides of a `.`
pointed_digits : {text : List ℕ} → (is : IsPointed text) →
    (list_all is_digit is.whole ≡ true) × (list_all is_digit is.fraction ≡ true)
pointed_digits is =
    and_parts (list_all is_digit is.whole) (list_all is_digit is.fraction)
    (sym (list_all-append is_digit is.whole is.fraction)
    ∙ are_all is_digit (is.whole ++ is.fraction) is.digits)

-- what stands behind a pointed text
pointed_read : (text after : List ℕ) → IsPointed text →
    real_end (drop_while is_digit (text ++ after)) ≡ Some (pointed_end (drop_while is_digit after))
unfolding real_end
pointed_read text after form =
    let each = pointed_digits form in
    ap (λ t. real_end (drop_while is_digit (t ++ after))) form.written
    ∙ (ap (λ t. real_end (drop_while is_digit t)) (append_assoc form.whole (46 ∷ form.fraction) after)
    ∙ (ap real_end (drop_front is_digit form.whole (46 ∷ (form.fraction ++ after)) each.0)
    ∙ ap (λ t. Some (pointed_end t)) (drop_front is_digit form.fraction after each.1)))

-- where a real ends that is written before a text: there if the text begins with no digit and no exponent
pub record RealEnd (end : Option (List ℕ)) (after : List ℕ) : Type 0 where
  pub rest : List ℕ
  pub is : end ≡ Some rest
  pub shorter : length rest ≤ length after
  pub exact : begins is_digit after ≡ false → behind_exponent after ≡ None → rest ≡ after

-- with an exponent it ends behind digits
digits_end : (end : Option (List ℕ)) (after : List ℕ) → end ≡ Some (drop_while is_digit after) →
    RealEnd end after
digits_end end after is =
    record {
      rest = drop_while is_digit after;
      is = is;
      shorter = dropped_length is_digit after;
      exact = λ none no_exponent. drop_none is_digit after none;
    }

-- a pointed text may be followed by an exponent
pointed_shorter : (text : List ℕ) → length (pointed_end text) ≤ length text
pointed_shorter text = by (behind_exponent text) refl
  where
    by : (o : Option (List ℕ)) → behind_exponent text ≡ o → length (unwrap_or o text) ≤ length text
    by None is = omega arith
    by (Some rest) is =
        let found = exponent_found text rest is in
        omega (arith, ap length found.written, length-append found.form rest)

-- what stands behind a real isn't longer than what stands behind its digits
pub end_shorter : (text rest : List ℕ) → real_end text ≡ Some rest → length rest ≤ length text
unfolding real_end
end_shorter text rest is = by (behind_one 46 text) refl
  where
    by : (o : Option (List ℕ)) → behind_one 46 text ≡ o → length rest ≤ length text
    by None none =
        let found = exponent_found text rest (sym (ap (real_end_from text) none) ∙ is) in
        omega (arith, ap length found.written, length-append found.form rest)
    by (Some fraction) some =
        let end = drop_while is_digit fraction in
        let same : pointed_end end ≡ rest =
        same_Some (pointed_end end) rest (sym (ap (real_end_from text) some) ∙ is) in
        omega (
          arith,
          ap length same,
          pointed_shorter end,
          dropped_length is_digit fraction,
          ap length
              (one_found 46 text fraction some),
        )

-- where a real is written one is read
pub real_read : (text after : List ℕ) → IsUnsuffixed text →
    RealEnd (real_end (drop_while is_digit (text ++ after))) after
unfolding real_end
real_read text after (pointed form is) =
    let end = drop_while is_digit after in
    record {
      rest = pointed_end end;
      is = pointed_read text after is;
      shorter = omega (arith, pointed_shorter end, dropped_length is_digit after);
      exact = λ none no_exponent.
          ap pointed_end (drop_none is_digit after none)
          ∙ ap (λ (o : Option (List ℕ)). unwrap_or o after) no_exponent;
    }
real_read text after (both front exponent is is_exponent) =
    digits_end (real_end (drop_while is_digit (text ++ after))) after
    (ap (λ t. real_end (drop_while is_digit t)) (append_assoc front exponent after)
    ∙ (pointed_read front (exponent ++ after) is
    ∙ (ap (λ t. Some (pointed_end t)) (no_digits exponent after is_exponent)
    ∙ ap (λ (o : Option (List ℕ)). Some (unwrap_or o (exponent ++ after)))
    (exponent_read exponent after is_exponent))))
real_read text after (scaled digits exponent all is_exponent) =
    digits_end (real_end (drop_while is_digit (text ++ after))) after
    (ap (λ t. real_end (drop_while is_digit t)) (append_assoc digits exponent after)
    ∙ (ap real_end
    (drop_front is_digit digits (exponent ++ after) (are_all is_digit digits all)
    ∙ no_digits exponent after is_exponent)
    ∙ (ap (real_end_from (exponent ++ after)) no_point ∙ exponent_read exponent after is_exponent)))
  where
    no_point : behind_one 46 (exponent ++ after) ≡ None
    no_point =
        ap (λ t. behind_one 46 (t ++ after)) is_exponent.written
        ∙ cond-false (is_exponent.letter == 46) (Some _) None
        (letter_other is_exponent.letter is_exponent.is_letter).1

-- a text begins with digits, and then with a `.` or the letter of an exponent
pub record RealStart (text : List ℕ) : Type 0 where
  pub digits : List ℕ
  pub char : ℕ
  pub more : List ℕ
  pub written : text ≡ digits ++ char ∷ more
  pub all : list_all is_digit digits ≡ true
  pub is : (char == 46 || (char == 101 || char == 69)) ≡ true

-- digits alone are ASCII
digits_ascii : (digits : List ℕ) → list_all is_digit digits ≡ true → IsAscii digits
digits_ascii digits all = below_ascii is_digit digit_ascii digits all

-- a pointed text does
pointed_start : {text : List ℕ} → IsPointed text → RealStart text
pointed_start is =
    record {
      digits = is.whole;
      char = 46;
      more = is.fraction;
      written = is.written;
      all = (pointed_digits is).0;
      is = refl;
    }

-- it is ASCII
pointed_ascii : (text : List ℕ) → IsPointed text → IsAscii text
pointed_ascii text is =
    subst IsAscii (sym is.written)
    (IsAscii-append is.whole (46 ∷ is.fraction) (digits_ascii is.whole (pointed_digits is).0)
    (IsAscii-cons 46 is.fraction (omega arith) (digits_ascii is.fraction (pointed_digits is).1)))

-- a text that begins with a digit begins as a number
pub digit_begins : (text : List ℕ) → begins is_digit text ≡ true → begins_number text ≡ true
digit_begins [] some = some
digit_begins (char ∷ text) some = or_left (is_digit char) (char == 46 && begins is_digit text) some

-- a pointed text begins as a number
pointed_begins : (text after : List ℕ) → IsPointed text → begins_number (text ++ after) ≡ true
pointed_begins text after is = ap (λ t. begins_number (t ++ after)) is.written ∙ by is.whole is.digits
  where
    by : (whole : List ℕ) → are is_digit (whole ++ is.fraction) ≡ true →
        begins_number ((whole ++ 46 ∷ is.fraction) ++ after) ≡ true
    by [] digits = are_begin is_digit is.fraction after digits
    by (char ∷ whole) digits =
        digit_begins (char ∷ ((whole ++ 46 ∷ is.fraction) ++ after))
        (are_begin is_digit (char ∷ (whole ++ is.fraction)) [] digits)

-- so does each real
pub real_start : (text : List ℕ) → IsUnsuffixed text → RealStart text
real_start text (pointed form is) = pointed_start is
real_start text (both front exponent is is_exponent) =
    let start = pointed_start is in
    record {
      digits = start.digits;
      char = start.char;
      more = start.more ++ exponent;
      written =
          ap (λ t. t ++ exponent) start.written
          ∙ append_assoc start.digits (start.char ∷ start.more) exponent;
      all = start.all;
      is = start.is;
    }
real_start text (scaled digits exponent all is) =
    record {
      digits = digits;
      char = is.letter;
      more = is.sign ++ is.digits;
      written = ap (λ t. digits ++ t) is.written;
      all = are_all is_digit digits all;
      is = or_right (is.letter == 46) (is.letter == 101 || is.letter == 69) is.is_letter;
    }

-- an exponent is ASCII
exponent_ascii : (form : List ℕ) → IsExponent form → IsAscii form
exponent_ascii form is =
    subst IsAscii (sym is.written)
    (IsAscii-cons is.letter (is.sign ++ is.digits) (letter_ascii is.letter is.is_letter)
    (IsAscii-append is.sign is.digits (sign_ascii is.sign is.is_sign)
    (digits_ascii is.digits (are_all is_digit is.digits is.are_digits))))
  where
    letter_ascii : (letter : ℕ) → (letter == 101 || letter == 69) ≡ true → letter < 128
    letter_ascii letter is = grind (arith, nat_tests)

    sign_ascii : (sign : List ℕ) → (sign ≡ []) ⊎ ((sign ≡ 43 ∷ []) ⊎ (sign ≡ 45 ∷ [])) → IsAscii sign
    sign_ascii sign (inl is) = subst IsAscii (sym is) IsAscii-nil
    sign_ascii sign (inr (inl is)) = subst IsAscii (sym is) (IsAscii-cons 43 [] (omega arith) IsAscii-nil)
    sign_ascii sign (inr (inr is)) = subst IsAscii (sym is) (IsAscii-cons 45 [] (omega arith) IsAscii-nil)

-- and so is a real
pub real_ascii : (text : List ℕ) → IsUnsuffixed text → IsAscii text
real_ascii text (pointed form is) = pointed_ascii text is
real_ascii text (both front exponent is is_exponent) =
    IsAscii-append front exponent (pointed_ascii front is) (exponent_ascii exponent is_exponent)
real_ascii text (scaled digits exponent all is) =
    IsAscii-append digits exponent (digits_ascii digits (are_all is_digit digits all))
    (exponent_ascii exponent is)

-- a real begins as a number
pub real_begins : (text after : List ℕ) → IsUnsuffixed text → begins_number (text ++ after) ≡ true
real_begins text after (pointed form is) = pointed_begins text after is
real_begins text after (both front exponent is is_exponent) =
    ap begins_number (append_assoc front exponent after) ∙ pointed_begins front (exponent ++ after) is
real_begins text after (scaled digits exponent all is) =
    ap begins_number (append_assoc digits exponent after)
    ∙ digit_begins (digits ++ (exponent ++ after)) (are_begin is_digit digits (exponent ++ after) all)

-- a text is a real without a suffix, and a rest
pub record RealFound (text rest : List ℕ) : Type 0 where
  pub form : List ℕ
  pub written : text ≡ form ++ rest
  pub is : IsUnsuffixed form

-- a text begins with a `.` and a digit
record PointFirst (text : List ℕ) : Type 0 where
  more : List ℕ
  written : text ≡ 46 ∷ more
  digit : begins is_digit more ≡ true

-- a text that begins as a number, and not with a digit, does
point_first : (text : List ℕ) → begins_number text ≡ true → begins is_digit text ≡ false → PointFirst text
point_first [] number none = absurd (false≢true number)
point_first (char ∷ text) number none =
    let parts = and_parts (char == 46) (begins is_digit text)
    (sym (ap (λ (b : Bool). b || (char == 46 && begins is_digit text)) none) ∙ number) in
    record { more = text; written = ap (λ c. c ∷ text) (eqb-true char 46 parts.0); digit = parts.1 }

-- no `.` stands behind its digits: there are some
digits_first : (text : List ℕ) → begins_number text ≡ true → behind_one 46 (drop_while is_digit text) ≡ None →
    begins is_digit text ≡ true
digits_first text number none = by (begins is_digit text) refl
  where
    by : (b : Bool) → begins is_digit text ≡ b → begins is_digit text ≡ true
    by true is = is
    by false is =
        let point = point_first text number is in
        absurd (none-some point.more
        (sym none ∙ ap (behind_one 46) (drop_none is_digit text is ∙ point.written)))

-- one does: digits stand before or behind it
digits_around : (text fraction : List ℕ) → begins_number text ≡ true →
    drop_while is_digit text ≡ 46 ∷ fraction →
    are is_digit (take_while is_digit text ++ take_while is_digit fraction) ≡ true
digits_around text fraction number is_point = by (begins is_digit text) refl
  where
    by : (b : Bool) → begins is_digit text ≡ b →
        are is_digit (take_while is_digit text ++ take_while is_digit fraction) ≡ true
    by true is =
        are_left is_digit (take_while is_digit text) (take_while is_digit fraction)
        (taken_are is_digit text is) (all_taken is_digit fraction)
    by false is =
        let point = point_first text number is in
        let same : 46 ∷ fraction ≡ 46 ∷ point.more =
        sym is_point ∙ (drop_none is_digit text is ∙ point.written) in
        let more : fraction ≡ point.more = cc in
        are_right is_digit (take_while is_digit text) (take_while is_digit fraction)
        (all_taken is_digit text) (taken_are is_digit fraction (ap (begins is_digit) more ∙ point.digit))

-- so what stands there is a real, with or without an exponent
behind_point : (text fraction : List ℕ) → begins_number text ≡ true →
    drop_while is_digit text ≡ 46 ∷ fraction →
    (o : Option (List ℕ)) (rest : List ℕ) → behind_exponent (drop_while is_digit fraction) ≡ o →
    unwrap_or o (drop_while is_digit fraction) ≡ rest → RealFound text rest
behind_point text fraction number is_point o rest is end = by o is end
  where
    form : List ℕ
    form = take_while is_digit text ++ 46 ∷ take_while is_digit fraction

    is_pointed : IsPointed form
    is_pointed =
        record {
          whole = take_while is_digit text;
          fraction = take_while is_digit fraction;
          written = refl;
          digits = digits_around text fraction number is_point;
        }

    written : text ≡ form ++ drop_while is_digit fraction
    written =
        parted is_digit text
        ∙ (ap (λ t. take_while is_digit text ++ t) (is_point ∙ ap (λ t. 46 ∷ t) (parted is_digit fraction))
        ∙ sym (append_assoc (take_while is_digit text) (46 ∷ take_while is_digit fraction)
        (drop_while is_digit fraction)))

    by : (o : Option (List ℕ)) → behind_exponent (drop_while is_digit fraction) ≡ o →
        unwrap_or o (drop_while is_digit fraction) ≡ rest → RealFound text rest
    by None is end =
        record { form = form; written = written ∙ ap (λ t. form ++ t) end; is = pointed form is_pointed }
    by (Some behind) is end =
        let exponent = exponent_found (drop_while is_digit fraction) behind is in
        record {
          form = form ++ exponent.form;
          written =
              written
              ∙ (ap (λ t. form ++ t) (exponent.written ∙ ap (λ r. exponent.form ++ r) end)
              ∙ sym (append_assoc form exponent.form rest));
          is = both form exponent.form is_pointed exponent.is;
        }

-- where a real was read, it stands there
pub real_found : (text rest : List ℕ) → begins_number text ≡ true →
    real_end (drop_while is_digit text) ≡ Some rest → RealFound text rest
unfolding real_end
real_found text rest number found = by (behind_one 46 (drop_while is_digit text)) refl
  where
    front : List ℕ
    front = take_while is_digit text

    by : (o : Option (List ℕ)) → behind_one 46 (drop_while is_digit text) ≡ o → RealFound text rest
    by None none =
        let exponent =
        exponent_found (drop_while is_digit text) rest
        (sym (ap (real_end_from (drop_while is_digit text)) none) ∙ found) in
        record {
          form = front ++ exponent.form;
          written =
              parted is_digit text
              ∙ (ap (λ t. front ++ t) exponent.written ∙ sym (append_assoc front exponent.form rest));
          is =
              scaled front exponent.form
              (taken_are is_digit text (digits_first text number none)) exponent.is;
        }
    by (Some fraction) some =
        behind_point text fraction number (one_found 46 (drop_while is_digit text) fraction some)
        (behind_exponent (drop_while is_digit fraction)) rest refl
        (same_Some _ _ (sym (ap (real_end_from (drop_while is_digit text)) some) ∙ found))

-- Laws of reading integers.
use Rattle.std.proofs.Common.{◌≡◌, ◌≤◌, ◌∙◌, sym, ap, subst, refl, arith, ℕ, Bool, true, false, cond, not}
use Rattle.std.proofs.Common.{◌&&◌, ◌||◌, ◌==◌}
use Rattle.std.proofs.Common.{List, [], ◌∷◌, ◌++◌, length, Option, Some, None}
use Rattle.std.specs.List.{list_all}
use Rattle.std.specs.Str.Parse.{digits_value}
use Rattle.std.proofs.lemmas.Bool.{cond-true, cond-false, and_from, and_parts, false≢true}
use Rattle.std.proofs.lemmas.Bool.Decides.{nat_tests}
use Rattle.std.proofs.lemmas.List.{append-nil, length-append}
use Rattle.std.proofs.lemmas.List.Folds.{list_all-append}
use Rattle.std.proofs.lemmas.Option.{same_Some, none-some, option_and_then_some}
use Rattle.mdl_lexer.specs.Characters.{is_digit, is_octal, is_hexadecimal}
use Rattle.mdl_lexer.specs.Forms.{are, is_decimal, IsInteger, decimal, octal}
use Rattle.mdl_lexer.specs.inside.Cutting.{drop_while, begins, behind_some, behind_one}
use Rattle.mdl_lexer.specs.inside.Reading.{Found as Number, Integer, ◌>>=◌, or_else, front_of, hexadecimal_in}
use Rattle.mdl_lexer.specs.inside.Reading.{integer_of, integer_from}
use Rattle.mdl_lexer.proofs.CuttingLaws.{front_taken}
use Rattle.mdl_lexer.proofs.NumberParts.{are_all, some_read, some_found, either_read, neither_read}
use Rattle.mdl_lexer.proofs.NumberParts.{either_found, one_found}

-- what is read behind `0x`
abbrev behind_x : List ℕ → Option (Number × List ℕ)
behind_x digits = behind_some is_hexadecimal digits >>= λ rest. Some (Integer (front_of digits rest) 16, rest)

-- and behind `0`
abbrev behind_zero : List ℕ → Option (Number × List ℕ)
behind_zero zero = or_else (behind_one 120 zero) (behind_one 88 zero) >>= behind_x

-- a hexadecimal integer is read where it stands
pub hexadecimal_read : (x : ℕ) (digits rest : List ℕ) → (x == 120 || x == 88) ≡ true →
    are is_hexadecimal digits ≡ true →
    hexadecimal_in (48 ∷ x ∷ (digits ++ rest))
    ≡ Some (
      Integer
          (front_of (digits ++ rest) (drop_while is_hexadecimal rest)) 16,
      drop_while is_hexadecimal rest,
    )
unfolding hexadecimal_in
hexadecimal_read x digits rest is all =
    ap (λ (o : Option (List ℕ)). o >>= behind_x) (either_read 120 88 x (digits ++ rest) is)
    ∙ ap (λ (o : Option (List ℕ)). o >>= λ end. Some (Integer (front_of (digits ++ rest) end) 16, end))
    (some_read is_hexadecimal digits rest all)

-- a text is a hexadecimal integer and a rest
pub record HexadecimalFound (text : List ℕ) (found : Number × List ℕ) : Type 0 where
  pub x : ℕ
  pub digits : List ℕ
  pub written : text ≡ 48 ∷ x ∷ (digits ++ found.1)
  pub is_x : (x == 120 || x == 88) ≡ true
  pub all : are is_hexadecimal digits ≡ true
  pub is : found.0 ≡ Integer digits 16

-- where one was read, it stands there
pub hexadecimal_found : (text : List ℕ) (found : Number × List ℕ) → hexadecimal_in text ≡ Some found →
    HexadecimalFound text found
unfolding hexadecimal_in
hexadecimal_found text found is =
    option_and_then_some behind_zero (behind_one 48 text) found is
    (λ zero is_zero on. option_and_then_some behind_x
    (or_else (behind_one 120 zero) (behind_one 88 zero)) found on
    (λ digits is_x on. option_and_then_some (λ rest. Some (Integer (front_of digits rest) 16, rest))
    (behind_some is_hexadecimal digits) found on
    (λ rest is_rest last.
    let letter = either_found 120 88 zero digits is_x in
    let run = some_found is_hexadecimal digits rest is_rest in
    let same = same_Some {A = Number × List ℕ} (Integer (front_of digits rest) 16, rest) found last in
    record {
      x = letter.char;
      digits = run.front;
      written =
          one_found 48 text zero is_zero
          ∙ ap (λ t. 48 ∷ t)
          (letter.written
          ∙ ap (λ t. letter.char ∷ t) (run.written ∙ ap (λ (f : Number × List ℕ). run.front ++ f.1) same));
      is_x = letter.is;
      all = run.all;
      is =
          sym (ap (λ (f : Number × List ℕ). f.0) same)
          ∙ ap (λ d. Integer d 16) (sym (front_taken digits run.front rest run.written));
    })))

-- none is read where the second character is no `x`
other_second : (first second : ℕ) (text : List ℕ) → (second == 120 || second == 88) ≡ false →
    hexadecimal_in (first ∷ second ∷ text) ≡ None
unfolding hexadecimal_in
other_second first second text other = by (first == 48)
  where
    by : (b : Bool) → (cond b (Some (second ∷ text)) None >>= behind_zero) ≡ None
    by true = ap (λ (o : Option (List ℕ)). o >>= behind_x) (neither_read 120 88 second text other)
    by false = refl

-- a digit is no `x`
digit_other : (char : ℕ) → is_digit char ≡ true → (char == 120 || char == 88) ≡ false
digit_other char is = grind (arith, nat_tests)

-- none is read where others follow the digits
pub not_hexadecimal : (digits : List ℕ) (char : ℕ) (text : List ℕ) → list_all is_digit digits ≡ true →
    (char == 48) ≡ false →
    (char == 120 || char == 88) ≡ false → hexadecimal_in (digits ++ char ∷ text) ≡ None
unfolding hexadecimal_in
not_hexadecimal [] char text all not_zero not_x =
    ap (λ (o : Option (List ℕ)). o >>= behind_zero) (cond-false (char == 48) (Some text) None not_zero)
not_hexadecimal (first ∷ []) char text all not_zero not_x = other_second first char text not_x
not_hexadecimal (first ∷ second ∷ digits) char text all not_zero not_x =
    let parts = and_parts (is_digit first) (is_digit second && list_all is_digit digits) all in
    other_second first second (digits ++ char ∷ text)
    (digit_other second (and_parts (is_digit second) (list_all is_digit digits) parts.1).0)

-- none is read where digits stand alone
pub digits_alone : (digits : List ℕ) → are is_digit digits ≡ true → hexadecimal_in digits ≡ None
unfolding hexadecimal_in
digits_alone [] all = absurd (false≢true all)
digits_alone (first ∷ []) all = by (first == 48)
  where
    by : (b : Bool) → (cond b (Some []) None >>= behind_zero) ≡ None
    by true = refl
    by false = refl
digits_alone (first ∷ second ∷ digits) all =
    let parts = and_parts (is_digit first) (is_digit second && list_all is_digit digits) all in
    other_second first second digits
    (digit_other second (and_parts (is_digit second) (list_all is_digit digits) parts.1).0)

-- one that digits begin is longer than they are
pub longer_hexadecimal : (digits rest : List ℕ) (found : Number × List ℕ) → are is_digit digits ≡ true →
    hexadecimal_in (digits ++ rest) ≡ Some found → length found.1 ≤ length rest
longer_hexadecimal [] rest found all is = absurd (false≢true all)
longer_hexadecimal (first ∷ []) rest found all is =
    let h = hexadecimal_found (first ∷ rest) found is in
    omega (arith, ap length h.written, length-append h.digits found.1)
longer_hexadecimal (first ∷ second ∷ digits) rest found all is =
    let parts = and_parts (is_digit first) (is_digit second && list_all is_digit digits) all in
    absurd (none-some found
    (sym (other_second first second (digits ++ rest)
    (digit_other second (and_parts (is_digit second) (list_all is_digit digits) parts.1).0)) ∙ is))

-- a text is read as an integer of this value
pub record IntegerRead (text : List ℕ) (value : ℕ) : Type 0 where
  pub digits : List ℕ
  pub base : ℕ
  pub is : integer_of text ≡ Some (Integer digits base)
  pub value_is : digits_value base digits ≡ value

-- a decimal integer is read as its value
pub decimal_read : (text : List ℕ) → is_decimal text ≡ true → IntegerRead text (digits_value 10 text)
unfolding integer_of
decimal_read [] all = absurd (false≢true all)
decimal_read (char ∷ []) all = record { digits = char ∷ []; base = 10; is = by (char == 48); value_is = refl }
  where
    by : (b : Bool) → integer_from (char ∷ []) (cond b (Some []) None) ≡ Some (Integer (char ∷ []) 10)
    by true = refl
    by false = refl
decimal_read (char ∷ next ∷ text) all =
    let parts = and_parts (not (char == 48)) (are is_digit (char ∷ next ∷ text)) all in
    record {
      digits = char ∷ next ∷ text;
      base = 10;
      is =
          ap (integer_from (char ∷ next ∷ text))
          (cond-false (char == 48) (Some (next ∷ text)) None (not_zero (char == 48) parts.0));
      value_is = refl;
    }
  where
    not_zero : (b : Bool) → not b ≡ true → b ≡ false
    not_zero true is = sym is
    not_zero false is = refl

-- an octal digit is a digit
pub octal_digit : (char : ℕ) → is_octal char ≡ true → is_digit char ≡ true
octal_digit char is = grind (arith, nat_tests)

-- octal digits behind a `0` are read as their value
pub octal_read : (digits : List ℕ) → are is_octal digits ≡ true →
    IntegerRead (48 ∷ digits) (digits_value 8 digits)
unfolding integer_of
octal_read digits all =
    record {
      digits = front_of digits [];
      base = 8;
      is =
          cond-true (begins is_digit digits) (behind_some is_octal digits >>= on)
          (Some (Integer (48 ∷ digits) 10)) (first digits all)
          ∙ ap (λ (o : Option (List ℕ)). o >>= on)
          (sym (ap (behind_some is_octal) (append-nil digits)) ∙ some_read is_octal digits [] all);
      value_is = ap (digits_value 8) (sym (front_taken digits digits [] (sym (append-nil digits))));
    }
  where
    on : List ℕ → Option Number
    on rest = cond (begins is_digit rest) None (Some (Integer (front_of digits rest) 8))

    first : (digits : List ℕ) → are is_octal digits ≡ true → begins is_digit digits ≡ true
    first [] all = absurd (false≢true all)
    first (char ∷ digits) all = octal_digit char (and_parts (is_octal char) (list_all is_octal digits) all).0

-- an integer that digits are
pub record IntegerFound (text : List ℕ) (found : Number) : Type 0 where
  pub digits : List ℕ
  pub base : ℕ
  pub is : found ≡ Integer digits base
  pub form : IsInteger text (digits_value base digits)

-- digits that begin with no digit are none
no_digit : (text : List ℕ) → list_all is_digit text ≡ true → begins is_digit text ≡ false → text ≡ []
no_digit [] all none = refl
no_digit (char ∷ text) all none =
    absurd (false≢true (sym none ∙ (and_parts (is_digit char) (list_all is_digit text) all).0))

-- digits without a `0` at their front are a decimal integer
decimal_form : (text : List ℕ) → are is_digit text ≡ true → behind_one 48 text ≡ None → is_decimal text ≡ true
decimal_form [] all none = all
decimal_form (char ∷ []) all none = (and_parts (is_digit char) true all).0
decimal_form (char ∷ next ∷ text) all none =
    and_from (not (char == 48)) (are is_digit (char ∷ next ∷ text)) (not_zero (char == 48) none) all
  where
    not_zero : (b : Bool) → cond b (Some (next ∷ text)) None ≡ None → not b ≡ true
    not_zero true none = absurd (none-some (next ∷ text) (sym none))
    not_zero false none = refl

-- digits behind a `0` are an octal integer, where one is read
octal_found : (digits : List ℕ) (found : Number) → list_all is_digit digits ≡ true →
    integer_from (48 ∷ digits) (Some digits) ≡ Some found → IntegerFound (48 ∷ digits) found
octal_found digits found all is = by (begins is_digit digits) refl
  where
    on : List ℕ → Option Number
    on rest = cond (begins is_digit rest) None (Some (Integer (front_of digits rest) 8))

    run : (rest : List ℕ) → behind_some is_octal digits ≡ Some rest → on rest ≡ Some found →
        IntegerFound (48 ∷ digits) found
    run rest some last = ends (begins is_digit rest) refl
      where
        ends : (b : Bool) → begins is_digit rest ≡ b → IntegerFound (48 ∷ digits) found
        ends true is =
            absurd (none-some found
            (sym (cond-true (begins is_digit rest) None (Some (Integer (front_of digits rest) 8)) is) ∙ last))
        ends false is =
            let some = some_found is_octal digits rest some in
            let parts = and_parts (list_all is_digit some.front) (list_all is_digit rest)
            (sym (list_all-append is_digit some.front rest)
            ∙ (ap (list_all is_digit) (sym some.written) ∙ all)) in
            let whole : some.front ≡ digits =
            sym (some.written
            ∙ (ap (λ r. some.front ++ r) (no_digit rest parts.1 is) ∙ append-nil some.front)) in
            record {
              digits = digits;
              base = 8;
              is =
                  sym (same_Some (Integer (front_of digits rest) 8) found
                  (sym (cond-false (begins is_digit rest) None (Some (Integer (front_of digits rest) 8)) is)
                  ∙ last))
                  ∙ ap (λ d. Integer d 8) (sym (front_taken digits some.front rest some.written) ∙ whole);
              form = octal (ap (are is_octal) (sym whole) ∙ some.all);
            }

    by : (b : Bool) → begins is_digit digits ≡ b → IntegerFound (48 ∷ digits) found
    by true first =
        option_and_then_some on (behind_some is_octal digits) found
        (sym (cond-true (begins is_digit digits) (behind_some is_octal digits >>= on)
        (Some (Integer (48 ∷ digits) 10)) first) ∙ is)
        run
    by false first =
        record {
          digits = 48 ∷ digits;
          base = 10;
          is =
              sym (same_Some (Integer (48 ∷ digits) 10) found
              (sym (cond-false (begins is_digit digits) (behind_some is_octal digits >>= on)
              (Some (Integer (48 ∷ digits) 10)) first) ∙ is));
          form = decimal (ap (λ d. is_decimal (48 ∷ d)) (no_digit digits all first));
        }

-- where digits were read as an integer they are one
pub integer_found : (text : List ℕ) (found : Number) → are is_digit text ≡ true →
    integer_of text ≡ Some found → IntegerFound text found
unfolding integer_of
integer_found text found all is = by (behind_one 48 text) refl
  where
    by : (o : Option (List ℕ)) → behind_one 48 text ≡ o → IntegerFound text found
    by None none =
        record {
          digits = text;
          base = 10;
          is = sym (same_Some (Integer text 10) found (sym (ap (integer_from text) none) ∙ is));
          form = decimal (decimal_form text all none);
        }
    by (Some digits) some =
        let written = one_found 48 text digits some in
        subst (λ t. IntegerFound t found) (sym written)
        (octal_found digits found (are_all is_digit (48 ∷ digits) (ap (are is_digit) (sym written) ∙ all))
        (sym (ap (integer_from text) some ∙ ap (λ t. integer_from t (Some digits)) written) ∙ is))

-- Laws of the parts of numbers: runs of a class, one of two characters, exponents.
use Rattle.std.proofs.Common.{◌≡◌, ◌⊎◌, inl, inr, ◌∙◌, sym, ap, refl, arith, ℕ, Bool, true, false, cond, ◌||◌}
use Rattle.std.proofs.Common.{◌==◌, eqb-true}
use Rattle.std.proofs.Common.{List, [], ◌∷◌, ◌++◌, take_while, Option, Some, None, unwrap_or}
use Rattle.std.specs.List.{list_all}
use Rattle.std.proofs.lemmas.Bool.{cond-true, cond-false, and_from, and_parts, false≢true}
use Rattle.std.proofs.lemmas.Bool.Decides.{nat_tests}
use Rattle.std.proofs.lemmas.List.Folds.{list_all-append}
use Rattle.std.proofs.lemmas.List.Sums.{take_while-cons}
use Rattle.std.proofs.lemmas.Option.{same_Some, none-some, cond_some, option_and_then_some}
use Rattle.mdl_lexer.specs.Characters.{is_digit}
use Rattle.mdl_lexer.specs.Forms.{are, IsExponent}
use Rattle.mdl_lexer.specs.inside.Cutting.{drop_while, begins, behind_some, behind_one}
use Rattle.mdl_lexer.specs.inside.Reading.{◌>>=◌, or_else, behind_exponent}
use Rattle.mdl_lexer.proofs.ListLaws.{drop_front}
use Rattle.mdl_lexer.proofs.NumberLaws.{parted, all_taken}

-- one or more are all
pub are_all : (class : ℕ → Bool) (text : List ℕ) → are class text ≡ true → list_all class text ≡ true
are_all class [] all = refl
are_all class (char ∷ text) all = all

-- one or more begin with one
pub are_begin : (class : ℕ → Bool) (text after : List ℕ) → are class text ≡ true →
    begins class (text ++ after) ≡ true
are_begin class [] after all = absurd (false≢true all)
are_begin class (char ∷ text) after all = (and_parts (class char) (list_all class text) all).0

-- one or more, and then others of the class
pub are_left : (class : ℕ → Bool) (text more : List ℕ) → are class text ≡ true → list_all class more ≡ true →
    are class (text ++ more) ≡ true
are_left class [] more all others = absurd (false≢true all)
are_left class (char ∷ text) more all others =
    list_all-append class (char ∷ text) more
    ∙ and_from (list_all class (char ∷ text)) (list_all class more) all others

-- characters of the class, and then one or more
pub are_right : (class : ℕ → Bool) (text more : List ℕ) → list_all class text ≡ true → are class more ≡ true →
    are class (text ++ more) ≡ true
are_right class [] more all others = others
are_right class (char ∷ text) more all others =
    are_left class (char ∷ text) more all (are_all class more others)

-- the characters of the class at the front of a text that begins with one
pub taken_are : (class : ℕ → Bool) (text : List ℕ) → begins class text ≡ true →
    are class (take_while class text) ≡ true
taken_are class [] some = some
taken_are class (char ∷ text) some =
    ap (are class)
    (take_while-cons class char text ∙ cond-true (class char) (char ∷ take_while class text) [] some)
    ∙ and_from (class char) (list_all class (take_while class text)) some (all_taken class text)

-- what stands behind one or more of a class, where they do
pub some_read : (class : ℕ → Bool) (text after : List ℕ) → are class text ≡ true →
    behind_some class (text ++ after) ≡ Some (drop_while class after)
some_read class text after all =
    cond-true (begins class (text ++ after)) (Some (drop_while class (text ++ after))) None
    (are_begin class text after all)
    ∙ ap Some (drop_front class text after (are_all class text all))

-- a text is one or more of a class and a rest
pub record SomeFound (class : ℕ → Bool) (text rest : List ℕ) : Type 0 where
  pub front : List ℕ
  pub written : text ≡ front ++ rest
  pub all : are class front ≡ true

-- where one or more of a class were read, they do stand there
pub some_found : (class : ℕ → Bool) (text rest : List ℕ) → behind_some class text ≡ Some rest →
    SomeFound class text rest
some_found class text rest found =
    let both = cond_some (begins class text) (drop_while class text) rest found in
    record {
      front = take_while class text;
      written = parted class text ∙ ap (λ r. take_while class text ++ r) both.1;
      all = taken_are class text both.0;
    }

-- one of two characters is read where it stands
pub either_read : (a b char : ℕ) (text : List ℕ) → (char == a || char == b) ≡ true →
    or_else (behind_one a (char ∷ text)) (behind_one b (char ∷ text)) ≡ Some text
either_read a b char text is = by (char == a) (char == b) is
  where
    by : (x y : Bool) → (x || y) ≡ true →
        or_else (cond x (Some text) None) (cond y (Some text) None) ≡ Some text
    by true y is = refl
    by false y is = cond-true y (Some text) None is

-- and none of them where another does
pub neither_read : (a b char : ℕ) (text : List ℕ) → (char == a || char == b) ≡ false →
    or_else (behind_one a (char ∷ text)) (behind_one b (char ∷ text)) ≡ None
neither_read a b char text is = by (char == a) (char == b) is
  where
    by : (x y : Bool) → (x || y) ≡ false → or_else (cond x (Some text) None) (cond y (Some text) None) ≡ None
    by true y is = absurd (false≢true (sym is))
    by false y is = cond-false y (Some text) None is

-- a text is a character of two and a rest
pub record EitherFound (a b : ℕ) (text rest : List ℕ) : Type 0 where
  pub char : ℕ
  pub written : text ≡ char ∷ rest
  pub is : (char == a || char == b) ≡ true

-- where one of two characters was read, it stands there
pub either_found : (a b : ℕ) (text rest : List ℕ) →
    or_else (behind_one a text) (behind_one b text) ≡ Some rest →
    EitherFound a b text rest
either_found a b [] rest found = absurd (none-some rest found)
either_found a b (char ∷ text) rest found = by (char == a || char == b) refl
  where
    by : (t : Bool) → (char == a || char == b) ≡ t → EitherFound a b (char ∷ text) rest
    by true is =
        record {
          char = char;
          written = ap (λ r. char ∷ r)
              (same_Some text rest (sym (either_read a b char text is) ∙ found));
          is = is;
        }
    by false is = absurd (none-some rest (sym (neither_read a b char text is) ∙ found))

-- where a character was read, it stands there
pub one_found : (char : ℕ) (text rest : List ℕ) → behind_one char text ≡ Some rest → text ≡ char ∷ rest
one_found char [] rest found = absurd (none-some rest found)
one_found char (other ∷ text) rest found =
    let both = cond_some (other == char) text rest found in
    ap (λ c. c ∷ text) (eqb-true other char both.0) ∙ ap (λ r. char ∷ r) both.1

-- what stands behind the sign and the digits of an exponent
abbrev pub behind_sign : List ℕ → Option (List ℕ)
behind_sign text = behind_some is_digit (unwrap_or (or_else (behind_one 43 text) (behind_one 45 text)) text)

-- a digit is no sign
no_sign : (char : ℕ) → is_digit char ≡ true → (char == 43 || char == 45) ≡ false
no_sign char is = grind (arith, nat_tests)

-- an exponent is read where it stands
pub exponent_read : (text after : List ℕ) → IsExponent text →
    behind_exponent (text ++ after) ≡ Some (drop_while is_digit after)
unfolding behind_exponent
exponent_read text after form =
    ap (λ t. behind_exponent (t ++ after)) form.written
    ∙ (ap (λ (o : Option (List ℕ)). o >>= behind_sign)
    (either_read 101 69 form.letter ((form.sign ++ form.digits) ++ after) form.is_letter)
    ∙ signed form.sign form.digits form.is_sign form.are_digits)
  where
    unsigned : (digits : List ℕ) → are is_digit digits ≡ true →
        behind_sign (digits ++ after) ≡ Some (drop_while is_digit after)
    unsigned [] all = absurd (false≢true all)
    unsigned (char ∷ digits) all =
        let other =
        neither_read 43 45 char (digits ++ after)
        (no_sign char (and_parts (is_digit char) (list_all is_digit digits) all).0) in
        ap (λ (o : Option (List ℕ)). behind_some is_digit (unwrap_or o (char ∷ (digits ++ after)))) other
        ∙ some_read is_digit (char ∷ digits) after all

    signed : (sign digits : List ℕ) → (sign ≡ []) ⊎ ((sign ≡ 43 ∷ []) ⊎ (sign ≡ 45 ∷ [])) →
        are is_digit digits ≡ true →
        behind_sign ((sign ++ digits) ++ after) ≡ Some (drop_while is_digit after)
    signed sign digits (inl is) all = ap (λ s. behind_sign ((s ++ digits) ++ after)) is ∙ unsigned digits all
    signed sign digits (inr (inl is)) all =
        ap (λ s. behind_sign ((s ++ digits) ++ after)) is ∙ some_read is_digit digits after all
    signed sign digits (inr (inr is)) all =
        ap (λ s. behind_sign ((s ++ digits) ++ after)) is ∙ some_read is_digit digits after all

-- a text is an exponent and a rest
pub record ExponentFound (text rest : List ℕ) : Type 0 where
  pub form : List ℕ
  pub written : text ≡ form ++ rest
  pub is : IsExponent form

-- where an exponent was read, it stands there
pub exponent_found : (text rest : List ℕ) → behind_exponent text ≡ Some rest → ExponentFound text rest
unfolding behind_exponent
exponent_found text rest found =
    option_and_then_some behind_sign (or_else (behind_one 101 text) (behind_one 69 text)) rest found
    (λ signed is goes. behind_letter signed (either_found 101 69 text signed is)
    (or_else (behind_one 43 signed) (behind_one 45 signed)) refl goes)
  where
    sign_is : (char : ℕ) → (char == 43 || char == 45) ≡ true → (char ≡ 43) ⊎ (char ≡ 45)
    sign_is char is = grind (arith, nat_tests)

    sign_form : (char : ℕ) → (char ≡ 43) ⊎ (char ≡ 45) →
        ((char ∷ []) ≡ []) ⊎ (((char ∷ []) ≡ 43 ∷ []) ⊎ ((char ∷ []) ≡ 45 ∷ []))
    sign_form char (inl is) = inr (inl (ap (λ c. c ∷ []) is))
    sign_form char (inr is) = inr (inr (ap (λ c. c ∷ []) is))

    behind_letter : (signed : List ℕ) → EitherFound 101 69 text signed → (o : Option (List ℕ)) →
        or_else (behind_one 43 signed) (behind_one 45 signed) ≡ o → behind_sign signed ≡ Some rest →
        ExponentFound text rest
    behind_letter signed letter None none goes =
        let found =
        some_found is_digit signed rest
        (sym (ap (λ (o : Option (List ℕ)). behind_some is_digit (unwrap_or o signed)) none) ∙ goes) in
        record {
          form = letter.char ∷ found.front;
          written = letter.written ∙ ap (λ t. letter.char ∷ t) found.written;
          is = record {
            letter = letter.char;
            sign = [];
            digits = found.front;
            written = refl;
            is_letter = letter.is;
            is_sign = inl refl;
            are_digits = found.all;
          };
        }
    behind_letter signed letter (Some digits) some goes =
        let found =
        some_found is_digit digits rest
        (sym (ap (λ (o : Option (List ℕ)). behind_some is_digit (unwrap_or o signed)) some) ∙ goes) in
        let sign = either_found 43 45 signed digits some in
        record {
          form = letter.char ∷ (sign.char ∷ found.front);
          written =
              letter.written
              ∙ ap (λ t. letter.char ∷ t) (sign.written ∙ ap (λ t. sign.char ∷ t) found.written);
          is = record {
            letter = letter.char;
            sign = sign.char ∷ [];
            digits = found.front;
            written = refl;
            is_letter = letter.is;
            is_sign = sign_form sign.char (sign_is sign.char sign.is);
            are_digits = found.all;
          };
        }

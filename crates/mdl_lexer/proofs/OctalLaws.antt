-- Reading an octal escape and its definition agree.
use Rattle.std.proofs.Common.{◌≡◌, ◌≤◌, ◌<◌, ◌*◌, ◌+◌, ◌∙◌, sym, ap, subst, refl, arith, ℕ, suc, nat_lt}
use Rattle.std.proofs.Common.{Bool, true, false, if◌then◌else◌, Some, None, List, [], ◌∷◌, ◌++◌, length}
use Rattle.std.specs.List.{list_all}
use Rattle.std.specs.Char.{digit_value}
use Rattle.std.specs.Str.Parse.{digits_value}
use Rattle.std.proofs.lemmas.Bool.{lt-ltb, ltb-true, cond-true, cond-false, and_parts, and_from, false≢true}
use Rattle.std.proofs.lemmas.Bool.Decides.{nat_tests}
use Rattle.std.proofs.lemmas.Int.Digits.{digits_value_push}
use Rattle.std.proofs.lemmas.List.{length-append, append_assoc}
use Rattle.std.proofs.lemmas.List.Folds.{list_all-append}
use Rattle.std.proofs.lemmas.Option.{cond_some, option_and_then_some, some_pair_parts, none-some, same_Some}
use Rattle.mdl_lexer.specs.Characters.{is_octal}
use Rattle.mdl_lexer.specs.Strings.{IsOctal}
use Rattle.mdl_lexer.specs.inside.Strings.{digit_in, with_digit, octal_more, octal_in}
use Rattle.mdl_lexer.specs.inside.Reading.{◌>>=◌}
use Rattle.mdl_lexer.proofs.NumberLaws.{octal_below}

-- a digit of the base is read
pub digit_read : (base char : ℕ) (text : List ℕ) → digit_value char < base →
    digit_in base (char ∷ text) ≡ Some (digit_value char, text)
unfolding digit_in
digit_read base char text below =
    cond-true (nat_lt (digit_value char) base) (Some (digit_value char, text)) None
    (lt-ltb (digit_value char) base below)

-- a digit of the base at the front of a text, its value and the rest
pub record DigitBefore (base : ℕ) (text : List ℕ) (value : ℕ) (rest : List ℕ) : Type 0 where
  pub char : ℕ
  pub written : text ≡ char ∷ rest
  pub below : digit_value char < base
  pub is_value : value ≡ digit_value char

-- what is read as a digit is one
pub digit_found : (base : ℕ) (text : List ℕ) (value : ℕ) (rest : List ℕ) →
    digit_in base text ≡ Some (value, rest) → DigitBefore base text value rest
unfolding digit_in
digit_found base [] value rest found = absurd (none-some (value, rest) found)
digit_found base (char ∷ text) value rest found =
    let both = cond_some (nat_lt (digit_value char) base) (digit_value char, text) (value, rest) found in
    let parts = some_pair_parts (digit_value char) value text rest (ap Some both.1) in
    record {
      char = char;
      written = ap (λ t. char ∷ t) parts.1;
      below = ltb-true (digit_value char) base both.0;
      is_value = sym parts.0;
    }

-- a character whose value is below 8 is an octal digit
octal_digit : (char : ℕ) → digit_value char < 8 → is_octal char ≡ true
octal_digit char below = grind (arith, nat_tests)

-- no digit of the rest belongs to an octal escape of these digits
pub record IsLongest (digits rest : List ℕ) : Type 0 where
  pub longest : (digit : ℕ) (tail : List ℕ) → rest ≡ digit ∷ tail → IsOctal (digits ++ digit ∷ []) → ⊥

-- the next character doesn't belong to it
pub longest_here : (digits : List ℕ) (digit : ℕ) (rest : List ℕ) → (IsOctal (digits ++ digit ∷ []) → ⊥) →
    IsLongest digits (digit ∷ rest)
longest_here digits digit rest none =
    record {
      longest = λ other tail same is.
          let equal : other ≡ digit = cc in none (subst (λ d. IsOctal (digits ++ d ∷ [])) equal is);
    }

-- an octal escape may have one more digit
octal_longer : (digits : List ℕ) (digit : ℕ) → IsOctal digits → length digits ≤ 2 → is_octal digit ≡ true →
    digits_value 8 digits < 16 → IsOctal (digits ++ digit ∷ [])
octal_longer digits digit is few one room =
    record {
      some = omega (arith, length-append digits (digit ∷ []));
      few = omega (arith, length-append digits (digit ∷ []));
      are_digits =
          list_all-append is_octal digits (digit ∷ []) ∙ and_from _ _ is.are_digits (and_from _ _ one refl);
      small = omega (arith, digits_value_push 8 digits digit, octal_below digit one);
    }

-- an octal escape that may have this digit more
record IsShorter (digits : List ℕ) (digit : ℕ) : Type 0 where
  is_escape : IsOctal digits
  few : length digits ≤ 2
  one : is_octal digit ≡ true
  room : digits_value 8 digits < 16

-- an octal escape without its last digit is one
octal_shorter : (digits : List ℕ) (digit : ℕ) → 1 ≤ length digits → IsOctal (digits ++ digit ∷ []) →
    IsShorter digits digit
octal_shorter digits digit some is =
    let both = and_parts (list_all is_octal digits) (list_all is_octal (digit ∷ []))
    (sym (list_all-append is_octal digits (digit ∷ [])) ∙ is.are_digits) in
    let few : length digits ≤ 2 = omega (arith, length-append digits (digit ∷ [])) in
    let room : digits_value 8 digits < 16 = omega (arith, digits_value_push 8 digits digit) in
    record {
      is_escape = record { some = some; few = omega arith; are_digits = both.0; small = omega arith };
      few = few;
      one = (and_parts (is_octal digit) true both.1).0;
      room = room;
    }

-- what reading one more digit makes of an octal escape: nothing, or a longer one
data IsMore (digits rest : List ℕ) (more : ℕ × List ℕ) : Type 0 where
  stays : IsLongest digits rest → more ≡ (digits_value 8 digits, rest) → IsMore digits rest more
  takes : (digit : ℕ) (tail : List ℕ) → rest ≡ digit ∷ tail → IsOctal (digits ++ digit ∷ []) →
      more ≡ (digits_value 8 (digits ++ digit ∷ []), tail) → IsMore digits rest more

-- reading one more digit does one of the two
octal_step : (digits rest : List ℕ) → IsOctal digits → length digits ≤ 2 →
    IsMore digits rest (octal_more (digits_value 8 digits, rest))
unfolding octal_more digit_in
octal_step digits [] is few = stays (record { longest = λ digit tail same. absurd (cc) }) refl
octal_step digits (digit ∷ rest) is few =
    by (nat_lt (digit_value digit) 8) (nat_lt (digits_value 8 digits) 16) refl refl
  where
    kept : ℕ × List ℕ
    kept = (digits_value 8 digits, digit ∷ rest)

    taken : ℕ × List ℕ
    taken = (digits_value 8 digits * 8 + digit_value digit, rest)

    more : Bool → ℕ × List ℕ
    more one = with_digit kept (if one then Some (digit_value digit, rest) else None)

    -- the digit doesn't belong to it
    ends : (IsShorter digits digit → ⊥) → IsLongest digits (digit ∷ rest)
    ends none = longest_here digits digit rest (λ longer. none (octal_shorter digits digit is.some longer))

    by : (one room : Bool) → nat_lt (digit_value digit) 8 ≡ one → nat_lt (digits_value 8 digits) 16 ≡ room →
        IsMore digits (digit ∷ rest) (octal_more kept)
    by false room is_one is_room =
        stays
        (ends (λ shorter.
        false≢true (sym is_one ∙ lt-ltb (digit_value digit) 8 (octal_below digit shorter.one))))
        (ap more is_one)
    by true false is_one is_room =
        stays
        (ends (λ shorter. false≢true (sym is_room ∙ lt-ltb (digits_value 8 digits) 16 shorter.room)))
        (ap more is_one ∙ cond-false (nat_lt (digits_value 8 digits) 16) taken kept is_room)
    by true true is_one is_room =
        takes digit rest refl
        (octal_longer digits digit is few (octal_digit digit (ltb-true (digit_value digit) 8 is_one))
        (ltb-true (digits_value 8 digits) 16 is_room))
        (ap more is_one ∙ (cond-true (nat_lt (digits_value 8 digits) 16) taken kept is_room
        ∙ ap (λ v. (v, rest)) (sym (digits_value_push 8 digits digit))))

-- an octal escape with no more digits stays
more_stays : (digits rest : List ℕ) → IsOctal digits → length digits ≤ 2 → IsLongest digits rest →
    octal_more (digits_value 8 digits, rest) ≡ (digits_value 8 digits, rest)
more_stays digits rest is few end = by _ (octal_step digits rest is few)
  where
    by : (more : ℕ × List ℕ) → IsMore digits rest more → more ≡ (digits_value 8 digits, rest)
    by more (stays longest same) = same
    by more (takes digit tail behind longer same) = absurd (end.longest digit tail behind longer)

-- one with one more digit takes it
more_takes : (digits : List ℕ) (digit : ℕ) (rest : List ℕ) → 1 ≤ length digits →
    IsOctal (digits ++ digit ∷ []) →
    octal_more (digits_value 8 digits, digit ∷ rest) ≡ (digits_value 8 (digits ++ digit ∷ []), rest)
more_takes digits digit rest some longer =
    let shorter = octal_shorter digits digit some longer in
    by _ (octal_step digits (digit ∷ rest) shorter.is_escape shorter.few)
  where
    by : (more : ℕ × List ℕ) → IsMore digits (digit ∷ rest) more →
        more ≡ (digits_value 8 (digits ++ digit ∷ []), rest)
    by more (stays end same) = absurd (end.longest digit rest refl longer)
    by more (takes found tail behind is same) =
        let equal : found ≡ digit = cc in
        let after : tail ≡ rest = cc in
        same
        ∙ (ap (λ d. (digits_value 8 (digits ++ d ∷ []), tail)) equal
        ∙ ap (λ t. (digits_value 8 (digits ++ digit ∷ []), t)) after)

-- a first digit is read
octal_first : (digit : ℕ) (rest digits : List ℕ) → list_all is_octal (digit ∷ digits) ≡ true →
    octal_in (digit ∷ rest) ≡ Some (octal_more (octal_more (digits_value 8 (digit ∷ []), rest)))
unfolding octal_in
octal_first digit rest digits all =
    ap (λ o. o >>= λ first. Some (octal_more (octal_more first)))
    (digit_read 8 digit rest (octal_below digit (and_parts (is_octal digit) (list_all is_octal digits) all).0)
    ∙ ap (λ v. Some (v, rest)) (omega arith))

-- an octal escape is read
pub octal_read : (digits rest : List ℕ) → IsOctal digits → IsLongest digits rest →
    octal_in (digits ++ rest) ≡ Some (digits_value 8 digits, rest)
octal_read [] rest is end = let some : 1 ≤ 0 = is.some in absurd (omega arith)
octal_read (a ∷ []) rest is end =
    let stay = more_stays (a ∷ []) rest is (omega arith) end in
    octal_first a rest [] is.are_digits ∙ ap Some (ap octal_more stay ∙ stay)
octal_read (a ∷ b ∷ []) rest is end =
    octal_first a (b ∷ rest) (b ∷ []) is.are_digits
    ∙ ap Some (ap octal_more (more_takes (a ∷ []) b rest (omega arith) is)
    ∙ more_stays (a ∷ b ∷ []) rest is (omega arith) end)
octal_read (a ∷ b ∷ c ∷ []) rest is end =
    let shorter = octal_shorter (a ∷ b ∷ []) c (omega arith) is in
    octal_first a (b ∷ c ∷ rest) (b ∷ c ∷ []) is.are_digits
    ∙ ap Some (ap octal_more (more_takes (a ∷ []) b (c ∷ rest) (omega arith) shorter.is_escape)
    ∙ more_takes (a ∷ b ∷ []) c rest (omega arith) is)
octal_read (a ∷ b ∷ c ∷ d ∷ digits) rest is end =
    let few : length (a ∷ b ∷ c ∷ d ∷ digits) ≤ 3 = is.few in absurd (omega arith)

-- an octal escape of at most so many digits at the front of a text, its value and the rest: the longest,
-- where it has fewer digits
record UpTo (most : ℕ) (text : List ℕ) (found : ℕ × List ℕ) : Type 0 where
  digits : List ℕ
  written : text ≡ digits ++ found.1
  is_escape : IsOctal digits
  few : length digits ≤ most
  is_value : found.0 ≡ digits_value 8 digits
  end : length digits < most → IsLongest digits found.1

-- with room for one more digit
read_more : (most : ℕ) (text : List ℕ) (found : ℕ × List ℕ) → most ≤ 2 → UpTo most text found →
    UpTo (suc most) text (octal_more found)
read_more most text found small is =
    subst (λ value. UpTo (suc most) text (octal_more (value, found.1))) (sym is.is_value)
    (by _ (octal_step is.digits found.1 is.is_escape (omega (arith, is.few))))
  where
    by : (more : ℕ × List ℕ) → IsMore is.digits found.1 more → UpTo (suc most) text more
    by more (stays longest same) =
        subst (UpTo (suc most) text) (sym same)
        (record {
          digits = is.digits;
          written = is.written;
          is_escape = is.is_escape;
          few = omega (arith, is.few);
          is_value = refl;
          end = λ fewer. longest;
        })
    by more (takes digit tail behind longer same) =
        let size = length-append is.digits (digit ∷ []) in
        subst (UpTo (suc most) text) (sym same)
        (record {
          digits = is.digits ++ digit ∷ [];
          written =
              is.written
              ∙ (ap (λ t. is.digits ++ t) behind ∙ sym (append_assoc is.digits (digit ∷ []) tail));
          is_escape = longer;
          few = omega (arith, is.few, size);
          is_value = refl;
          end = λ fewer. absurd ((is.end (omega (arith, fewer, size))).longest digit tail behind longer);
        })

-- the longest octal escape at the front of a text, its value and the rest
pub record OctalBefore (text : List ℕ) (value : ℕ) (rest : List ℕ) : Type 0 where
  pub digits : List ℕ
  pub written : text ≡ digits ++ rest
  pub is_escape : IsOctal digits
  pub is_longest : IsLongest digits rest
  pub is_value : value ≡ digits_value 8 digits

-- what is read as an octal escape is the longest
pub octal_found : (text : List ℕ) (value : ℕ) (rest : List ℕ) → octal_in text ≡ Some (value, rest) →
    OctalBefore text value rest
unfolding octal_in
octal_found text value rest found =
    option_and_then_some (λ first. Some (octal_more (octal_more first))) (digit_in 8 text) (value, rest) found
    (λ first is same.
    longest (subst (UpTo 3 text) (same_Some _ _ same)
    (read_more 2 text (octal_more first) (omega arith)
    (read_more 1 text first (omega arith) (one first is)))))
  where
    one : (first : ℕ × List ℕ) → digit_in 8 text ≡ Some first → UpTo 1 text first
    one first is =
        let digit = digit_found 8 text first.0 first.1 is in
        record {
          digits = digit.char ∷ [];
          written = digit.written;
          is_escape =
              record {
                some = omega arith;
                few = omega arith;
                are_digits = and_from _ _ (octal_digit digit.char digit.below) refl;
                small = omega (arith, digit.below);
              };
          few = omega arith;
          is_value = omega (arith, digit.is_value);
          end = λ fewer. absurd (omega (arith, fewer));
        }

    longest : UpTo 3 text (value, rest) → OctalBefore text value rest
    longest is =
        record {
          digits = is.digits;
          written = is.written;
          is_escape = is.is_escape;
          is_longest =
              record {
                longest = λ next tail behind longer.
                    let shorter = octal_shorter is.digits next is.is_escape.some longer in
                    (is.end (omega (arith, shorter.few))).longest next tail behind longer;
              };
          is_value = is.is_value;
        }

-- Reading a string and its definition agree.
use Rattle.std.proofs.Common.{◌≡◌, ◌≤◌, ◌∙◌, sym, ap, subst, refl, arith, ℕ, zero, suc, ◌==◌}
use Rattle.std.proofs.Common.{Bool, true, false, if◌then◌else◌}
use Rattle.std.proofs.Common.{Option, Some, None, List, [], ◌∷◌, ◌++◌, length}
use Rattle.std.specs.List.{list_all}
use Rattle.std.specs.Str.Parse.{digits_value}
use Rattle.std.proofs.lemmas.Bool.{eqb-true, cond-false, and_parts, false≢true}
use Rattle.std.proofs.lemmas.Bool.Decides.{nat_tests}
use Rattle.std.proofs.lemmas.List.{append_assoc, length-append}
use Rattle.std.proofs.lemmas.List.Folds.{list_all-append}
use Rattle.std.proofs.lemmas.Option.{option_and_then_some, some_pair_parts, none-some}
use Rattle.mdl_lexer.specs.Characters.{is_octal}
use Rattle.mdl_lexer.specs.Strings.{is_plain, IsOctal, IsBody, end, plain, letter, octal, hexadecimal}
use Rattle.mdl_lexer.specs.inside.Strings.{string_in, escape_in, behind_char}
use Rattle.mdl_lexer.specs.inside.Reading.{◌>>=◌}
use Rattle.mdl_lexer.proofs.OctalLaws.{IsLongest, longest_here}
use Rattle.mdl_lexer.proofs.EscapeLaws.{IsEscape, by_letter, by_octal, by_hexadecimal}
use Rattle.mdl_lexer.proofs.EscapeLaws.{escape_found, escape_read}

-- a string stands at the front of a text that begins behind its first quote
pub record StringBefore (text meaning rest : List ℕ) : Type 0 where
  pub body : List ℕ
  pub written : text ≡ body ++ 34 ∷ rest
  pub is_body : IsBody body meaning

-- a string with an escape before it is one
escape_before : (text : List ℕ) (char : ℕ) (behind meaning rest : List ℕ) → IsEscape text char behind →
    StringBefore behind meaning rest → StringBefore (92 ∷ text) (char ∷ meaning) rest
escape_before text char behind meaning rest (by_letter sign written is) before =
    record {
      body = 92 ∷ sign ∷ before.body;
      written = ap (λ t. 92 ∷ t) (written ∙ ap (λ t. sign ∷ t) before.written);
      is_body = letter is before.is_body;
    }
escape_before text char behind meaning rest (by_octal is) before =
    record {
      body = 92 ∷ (is.digits ++ before.body);
      written =
          ap (λ t. 92 ∷ t)
          (is.written
          ∙ (ap (λ t. is.digits ++ t) before.written ∙ sym (append_assoc is.digits before.body (34 ∷ rest))));
      is_body =
          subst (λ value. IsBody (92 ∷ (is.digits ++ before.body)) (value ∷ meaning)) (sym is.is_value)
          (octal is.is_escape
          (λ digit tail same.
          is.is_longest.longest digit (tail ++ 34 ∷ rest) (before.written ∙ ap (λ t. t ++ 34 ∷ rest) same))
          before.is_body);
    }
escape_before text char behind meaning rest (by_hexadecimal digits written is) before =
    record {
      body = 92 ∷ 120 ∷ is.high ∷ is.low ∷ before.body;
      written =
          ap (λ t. 92 ∷ t)
          (written ∙ ap (λ t. 120 ∷ t) (is.written ∙ ap (λ t. is.high ∷ is.low ∷ t) before.written));
      is_body =
          subst (λ value. IsBody (92 ∷ 120 ∷ is.high ∷ is.low ∷ before.body) (value ∷ meaning))
          (sym is.is_value)
          (hexadecimal is.are_digits is.small before.is_body);
    }

-- what was found, where a character before it makes this meaning
record BehindChar (char : ℕ) (found : Option (List ℕ × List ℕ)) (meaning rest : List ℕ) : Type 0 where
  later : List ℕ
  is_found : found ≡ Some (later, rest)
  is_meaning : char ∷ later ≡ meaning

-- what was found behind a character is found with it
behind_found : (char : ℕ) (found : Option (List ℕ × List ℕ)) (meaning rest : List ℕ) →
    behind_char char found ≡ Some (meaning, rest) → BehindChar char found meaning rest
behind_found char None meaning rest same = absurd (none-some (meaning, rest) same)
behind_found char (Some found) meaning rest same =
    let parts = some_pair_parts (char ∷ found.0) meaning found.1 rest same in
    record { later = found.0; is_found = ap (λ r. Some (found.0, r)) parts.1; is_meaning = parts.0 }

-- a character that isn't `"`, a line feed or `\` stands for itself
plain_from : (char : ℕ) → (char == 34) ≡ false → (char == 10) ≡ false → (char == 92) ≡ false →
    is_plain char ≡ true
plain_from char quote feed backslash = grind (arith, nat_tests)

-- one that stands for itself is none of the three
plain_parts : (char : ℕ) → is_plain char ≡ true →
    ((char == 34) ≡ false) × ((char == 10) ≡ false) × ((char == 92) ≡ false)
plain_parts char is = (grind (arith, nat_tests), grind (arith, nat_tests), grind (arith, nat_tests))

-- what is read from a character on is a string, where what is read behind it is one
string_first : (n char : ℕ) (text meaning rest : List ℕ) →
    ((behind own last : List ℕ) → string_in n behind ≡ Some (own, last) → StringBefore behind own last) →
    string_in (suc n) (char ∷ text) ≡ Some (meaning, rest) → StringBefore (char ∷ text) meaning rest
unfolding string_in
string_first n char text meaning rest later found = by (char == 34) (char == 10) (char == 92) refl refl refl
  where
    -- what is read, by the outcome of the tests
    read : Bool → Bool → Bool → Option (List ℕ × List ℕ)
    read quote feed backslash =
        if quote then Some ([], text)
        else (if feed then None
        else (if backslash then (escape_in text >>= λ first. behind_char first.0 (string_in n first.1))
        else behind_char char (string_in n text)))

    told : (quote feed backslash : Bool) →
        (char == 34) ≡ quote → (char == 10) ≡ feed → (char == 92) ≡ backslash →
        read quote feed backslash ≡ Some (meaning, rest)
    told quote feed backslash is_quote is_feed is_backslash =
        sym (ap (λ q. read q (char == 10) (char == 92)) is_quote
        ∙ (ap (λ f. read quote f (char == 92)) is_feed ∙ ap (read quote feed) is_backslash))
        ∙ found

    by : (quote feed backslash : Bool) →
        (char == 34) ≡ quote → (char == 10) ≡ feed → (char == 92) ≡ backslash →
        StringBefore (char ∷ text) meaning rest
    by true feed backslash is_quote is_feed is_backslash =
        let same = told true feed backslash is_quote is_feed is_backslash in
        let parts = some_pair_parts [] meaning text rest same in
        record {
          body = [];
          written = ap (λ c. c ∷ text) (eqb-true char 34 is_quote) ∙ ap (λ t. 34 ∷ t) parts.1;
          is_body = subst (IsBody []) parts.0 end;
        }
    by false true backslash is_quote is_feed is_backslash =
        absurd (none-some (meaning, rest) (told false true backslash is_quote is_feed is_backslash))
    by false false true is_quote is_feed is_backslash =
        option_and_then_some (λ first. behind_char first.0 (string_in n first.1))
        (escape_in text) (meaning, rest)
        (told false false true is_quote is_feed is_backslash)
        (λ first is same.
        let behind = behind_found first.0 (string_in n first.1) meaning rest same in
        subst (λ c. StringBefore (c ∷ text) meaning rest) (sym (eqb-true char 92 is_backslash))
        (subst (λ m. StringBefore (92 ∷ text) m rest) behind.is_meaning
        (escape_before text first.0 first.1 behind.later rest (escape_found text first.0 first.1 is)
        (later first.1 behind.later rest behind.is_found))))
    by false false false is_quote is_feed is_backslash =
        let same = told false false false is_quote is_feed is_backslash in
        let behind = behind_found char (string_in n text) meaning rest same in
        let before = later text behind.later rest behind.is_found in
        record {
          body = char ∷ before.body;
          written = ap (λ t. char ∷ t) before.written;
          is_body =
              subst (IsBody (char ∷ before.body)) behind.is_meaning
              (plain (plain_from char is_quote is_feed is_backslash) before.is_body);
        }

-- what reading gives is a string
pub string_found : (n : ℕ) (text meaning rest : List ℕ) → string_in n text ≡ Some (meaning, rest) →
    StringBefore text meaning rest
unfolding string_in
string_found zero text meaning rest found = absurd (none-some (meaning, rest) found)
string_found (suc n) [] meaning rest found = absurd (none-some (meaning, rest) found)
string_found (suc n) (char ∷ text) meaning rest found =
    string_first n char text meaning rest (string_found n) found

-- an escape is read before what is read behind it
escape_goes : (n : ℕ) (text : List ℕ) (char : ℕ) (behind meaning rest : List ℕ) → IsEscape text char behind →
    string_in n behind ≡ Some (meaning, rest) → string_in (suc n) (92 ∷ text) ≡ Some (char ∷ meaning, rest)
unfolding string_in
escape_goes n text char behind meaning rest is later =
    ap (λ (o : Option (ℕ × List ℕ)). o >>= λ first. behind_char first.0 (string_in n first.1))
    (escape_read text char behind is)
    ∙ ap (behind_char char) later

-- the longest digits of an escape in a body are the longest in front of its quote
longest_before : (digits body rest : List ℕ) →
    ((digit : ℕ) (tail : List ℕ) → body ≡ digit ∷ tail → IsOctal (digits ++ digit ∷ []) → ⊥) →
    IsLongest digits (body ++ 34 ∷ rest)
longest_before digits [] rest none =
    longest_here digits 34 rest (λ is.
    false≢true (and_parts (list_all is_octal digits) false
    (sym (list_all-append is_octal digits (34 ∷ [])) ∙ is.are_digits)).1)
longest_before digits (char ∷ body) rest none =
    longest_here digits char (body ++ 34 ∷ rest) (none char body refl)

-- a string is what reading gives
pub string_read_back : (n : ℕ) (body meaning rest : List ℕ) → IsBody body meaning →
    length (body ++ 34 ∷ rest) ≤ n →
    string_in n (body ++ 34 ∷ rest) ≡ Some (meaning, rest)
unfolding string_in
string_read_back zero body meaning rest is enough =
    absurd (omega (arith, enough, length-append body (34 ∷ rest)))
string_read_back (suc n) _ _ rest end enough = refl
string_read_back (suc n) _ _ rest (plain {char} {body} {text} is is_body) enough =
    let other = plain_parts char is in
    cond-false (char == 34) (Some ([], body ++ 34 ∷ rest)) _ other.0
    ∙ (cond-false (char == 10) None _ other.1
    ∙ (cond-false (char == 92) _ (behind_char char (string_in n (body ++ 34 ∷ rest))) other.2
    ∙ ap (behind_char char) (string_read_back n body text rest is_body (omega (arith, enough)))))
string_read_back (suc n) _ _ rest (letter {letter = sign} {char} {body} {text} is is_body) enough =
    escape_goes n (sign ∷ (body ++ 34 ∷ rest)) char (body ++ 34 ∷ rest) text rest (by_letter sign refl is)
    (string_read_back n body text rest is_body (omega (arith, enough)))
string_read_back (suc n) _ _ rest (octal {digits} {body} {text} is none is_body) enough =
    let behind : List ℕ = body ++ 34 ∷ rest in
    let same : (digits ++ body) ++ 34 ∷ rest ≡ digits ++ behind = append_assoc digits body (34 ∷ rest) in
    escape_goes n ((digits ++ body) ++ 34 ∷ rest) (digits_value 8 digits) behind text rest
    (by_octal (record {
      digits = digits;
      written = same;
      is_escape = is;
      is_longest = longest_before digits body rest none;
      is_value = refl;
    }))
    (string_read_back n body text rest is_body
    (omega (arith, enough, ap length same, length-append digits behind)))
string_read_back (suc n) _ _ rest (hexadecimal {high} {low} {body} {text} are small is_body) enough =
    let behind : List ℕ = body ++ 34 ∷ rest in
    escape_goes n (120 ∷ high ∷ low ∷ behind) (digits_value 16 (high ∷ low ∷ [])) behind text rest
    (by_hexadecimal (high ∷ low ∷ behind) refl (record {
      high = high;
      low = low;
      written = refl;
      are_digits = are;
      small = small;
      is_value = refl;
    }))
    (string_read_back n body text rest is_body (omega (arith, enough)))

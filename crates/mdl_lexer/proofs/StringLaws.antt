-- Laws of reading a string one character after another.
use Rattle.std.proofs.Common.{◌≡◌, ◌≤◌, ◌∙◌, sym, ap, refl, arith, ℕ, zero, suc, ◌==◌, true, false, List, []}
use Rattle.std.proofs.Common.{◌∷◌, ◌++◌, length, Option, Some, None, if◌then◌else◌, chars, encode_utf8}
use Rattle.std.proofs.Common.{IsUtf8}
use Rattle.std.proofs.lemmas.Bool.{cond-true, cond-false}
use Rattle.std.proofs.lemmas.Bool.Decides.{nat_tests}
use Rattle.std.proofs.lemmas.List.{append-nil, append_assoc, length-append}
use Rattle.std.proofs.lemmas.Str.{chars-append, chars_past_char, chars-nil, IsUtf8-encode}
use Rattle.std.specs.Char.{IsScalar}
use Rattle.mdl_lexer.specs.inside.Cutting.{IsRest}
use Rattle.mdl_lexer.specs.inside.Reading.{◌>>=◌}
use Rattle.mdl_lexer.specs.inside.Strings.{string_in, escape_in, behind_char, behind_chars}

-- the string is what was read and what is left to read
pub record IsLeft (whole : Option (List ℕ × List ℕ)) (read text : List ℕ) : Type 0 where
  pub fuel : ℕ
  pub enough : length text ≤ fuel
  pub left : whole ≡ behind_chars read (string_in fuel text)

behind_one : (read : List ℕ) (char : ℕ) (found : Option (List ℕ × List ℕ)) →
    behind_chars read (behind_char char found) ≡ behind_chars (read ++ char ∷ []) found
behind_one read char (Some found) = ap (λ front. Some (front, found.1)) (sym (append_assoc read (char ∷ [])
    found.0))
behind_one read char None = refl

behind_none : (found : Option (List ℕ × List ℕ)) → found ≡ behind_chars [] found
behind_none (Some found) = refl
behind_none None = refl

-- nothing was read
pub all_left : (text : List ℕ) → IsLeft (string_in (length text) text) [] text
all_left text = record {
  fuel = length text;
  enough = omega arith;
  left =
      behind_none (string_in (length text) text);
}

-- what the string is, by its next character
abbrev string_step : ℕ → ℕ → List ℕ → Option (List ℕ × List ℕ)
string_step char n text =
    if char == 34 then Some ([], text)
    else (if char == 10 then None
    else (if char == 92 then (escape_in text >>= λ found. behind_char found.0 (string_in n found.1))
    else behind_char char (string_in n text)))

record Stepped (whole : Option (List ℕ × List ℕ)) (read : List ℕ) (char : ℕ) (rest : List ℕ) : Type 0 where
  fuel : ℕ
  enough : length rest ≤ fuel
  left : whole ≡ behind_chars read (string_step char fuel rest)

stepped : (whole : Option (List ℕ × List ℕ)) (read text rest : List ℕ) (char : ℕ) → IsLeft whole read text →
    text ≡ char ∷ rest → Stepped whole read char rest
unfolding string_in
stepped whole read text rest char is_left is = by is_left.fuel is_left.enough is_left.left
  where
    by : (n : ℕ) → length text ≤ n → whole ≡ behind_chars read (string_in n text) →
        Stepped whole read char rest
    by zero enough left = absurd (omega (arith, enough, ap length is))
    by (suc n) enough left =
        record {
          fuel = n;
          enough = omega (arith, enough, ap length is);
          left = left ∙ ap (λ t. behind_chars read (string_in (suc n) t)) is;
        }

-- the text ends before the string does
pub text_ends : (whole : Option (List ℕ × List ℕ)) (read text : List ℕ) → IsLeft whole read text →
    text ≡ [] → whole ≡ None
unfolding string_in
text_ends whole read text is_left none = by is_left.fuel is_left.left
  where
    by : (n : ℕ) → whole ≡ behind_chars read (string_in n text) → whole ≡ None
    by zero left = left
    by (suc n) left = left ∙ ap (λ t. behind_chars read (string_in (suc n) t)) none

-- a quote ends the string
pub quote_ends : (whole : Option (List ℕ × List ℕ)) (read text rest : List ℕ) (char : ℕ) →
    IsLeft whole read text → text ≡ char ∷ rest → (char == 34) ≡ true → whole ≡ Some (read, rest)
quote_ends whole read text rest char is_left is quote =
    let step = stepped whole read text rest char is_left is in
    step.left
    ∙ (ap (behind_chars read) (cond-true (char == 34) (Some ([], rest)) _ quote)
    ∙ ap (λ front. Some (front, rest)) (append-nil read))

-- there is no string where its line ends before it
pub line_ends : (whole : Option (List ℕ × List ℕ)) (read text rest : List ℕ) (char : ℕ) →
    IsLeft whole read text → text ≡ char ∷ rest → (char == 34) ≡ false → (char == 10) ≡ true → whole ≡ None
line_ends whole read text rest char is_left is quote feed =
    let step = stepped whole read text rest char is_left is in
    step.left
    ∙ ap (behind_chars read) (cond-false (char == 34) (Some ([], rest)) _ quote
    ∙ cond-true (char == 10) None _ feed)

-- what follows a backslash, which is the step there
escaped_step : (char n : ℕ) (rest : List ℕ) → (char == 34) ≡ false → (char == 10) ≡ false →
    (char == 92) ≡ true → string_step char n rest ≡ (escape_in rest >>= λ found. behind_char found.0
    (string_in n found.1))
escaped_step char n rest quote feed backslash =
    cond-false (char == 34) (Some ([], rest)) _ quote
    ∙ (cond-false (char == 10) None _ feed
    ∙ cond-true (char == 92) (escape_in rest >>= λ found. behind_char found.0 (string_in n found.1)) _
    backslash)

-- there is none where an escape is none
pub escape_fails : (whole : Option (List ℕ × List ℕ)) (read text rest : List ℕ) (char : ℕ) →
    IsLeft whole read text → text ≡ char ∷ rest → (char == 34) ≡ false → (char == 10) ≡ false →
    (char == 92) ≡ true → escape_in rest ≡ None → whole ≡ None
escape_fails whole read text rest char is_left is quote feed backslash fails =
    let step = stepped whole read text rest char is_left is in
    step.left
    ∙ ap (behind_chars read) (escaped_step char step.fuel rest quote feed backslash
    ∙ ap (λ (o : Option (ℕ × List ℕ)). o >>= λ found. behind_char found.0 (string_in step.fuel found.1))
    fails)

-- the string goes on behind an escape
pub escape_goes_on : (whole : Option (List ℕ × List ℕ)) (read text rest behind : List ℕ) (char escaped : ℕ) →
    IsLeft whole read text → text ≡ char ∷ rest → (char == 34) ≡ false → (char == 10) ≡ false →
    (char == 92) ≡ true → escape_in rest ≡ Some (escaped, behind) → length behind ≤ length rest →
    IsLeft whole (read ++ escaped ∷ []) behind
escape_goes_on whole read text rest behind char escaped is_left is quote feed backslash found shorter =
    let step = stepped whole read text rest char is_left is in
    record {
      fuel = step.fuel;
      enough = omega (arith, step.enough, shorter);
      left =
          step.left
          ∙ (ap (behind_chars read) (escaped_step char step.fuel rest quote feed backslash
          ∙ ap (λ (o : Option (ℕ × List ℕ)). o >>= λ found. behind_char found.0 (string_in step.fuel
          found.1)) found)
          ∙ behind_one read escaped (string_in step.fuel behind));
    }

-- the string goes on behind another character
pub character_goes_on : (whole : Option (List ℕ × List ℕ)) (read text rest : List ℕ) (char : ℕ) →
    IsLeft whole read text → text ≡ char ∷ rest → (char == 34) ≡ false → (char == 10) ≡ false →
    (char == 92) ≡ false → IsLeft whole (read ++ char ∷ []) rest
character_goes_on whole read text rest char is_left is quote feed backslash =
    let step = stepped whole read text rest char is_left is in
    record {
      fuel = step.fuel;
      enough = step.enough;
      left =
          step.left
          ∙ (ap (behind_chars read) (cond-false (char == 34) (Some ([], rest)) _ quote
          ∙ (cond-false (char == 10) None _ feed
          ∙ cond-false (char == 92) (escape_in rest >>= λ found. behind_char found.0 (string_in step.fuel
          found.1)) (behind_char char (string_in step.fuel rest)) backslash))
          ∙ behind_one read char (string_in step.fuel rest));
    }

pub is_equal : (a b : ℕ) → a ≡ b → (a == b) ≡ true
is_equal a b same = grind (arith, nat_tests)

pub is_other : (a b : ℕ) → (a ≡ b → ⊥) → (a == b) ≡ false
is_other a b other = grind (arith, nat_tests)

-- the characters of a text with one more
pub chars_push : (text longer : List ℕ) (char : ℕ) → IsUtf8 text → IsScalar char →
    longer ≡ text ++ encode_utf8 char → chars longer ≡ chars text ++ char ∷ []
chars_push text longer char is_text scalar pushed =
    ap chars pushed
    ∙ (chars-append text (encode_utf8 char) is_text
    ∙ ap (λ last. chars text ++ last)
    (chars_past_char (encode_utf8 char) [] char (IsUtf8-encode char scalar) (sym (append-nil (encode_utf8
    char))) ∙ ap (λ rest. char ∷ rest) chars-nil))

-- the rest has no more characters than the text
pub rest_shorter : (text rest : List ℕ) → IsRest text rest → length (chars rest) ≤ length (chars text)
rest_shorter text rest is_rest =
    omega (
      arith,
      ap length (ap chars is_rest.written
          ∙ chars-append is_rest.front rest is_rest.is_text),
      length-append (chars is_rest.front) (chars rest),
    )

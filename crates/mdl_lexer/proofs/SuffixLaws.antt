-- Laws of reading the suffix of a real.
use Rattle.std.proofs.Common.{◌≡◌, ◌≤◌, ◌∙◌, ap, refl, arith, ℕ, Bool, true, false, cond, ◌||◌, ◌==◌}
use Rattle.std.proofs.Common.{List, [], ◌∷◌, ◌++◌, length, Option, None}
use Rattle.std.proofs.lemmas.Bool.{cond-true, cond-false, or_left, or_right}
use Rattle.std.proofs.lemmas.Bool.Decides.{nat_tests}
use Rattle.std.proofs.lemmas.List.{length-append}
use Rattle.mdl_lexer.specs.Characters.{is_digit}
use Rattle.mdl_lexer.specs.Forms.{IsSuffix, no_suffix, float_suffix, double_suffix}
use Rattle.mdl_lexer.specs.inside.Cutting.{begins}
use Rattle.mdl_lexer.specs.inside.Reading.{◌>>=◌, behind_exponent, suffix_in}
use Rattle.mdl_lexer.proofs.NumberParts.{behind_sign, neither_read}

-- a text is a suffix and a rest
pub record SuffixFound (text rest : List ℕ) (double : Bool) : Type 0 where
  pub suffix : List ℕ
  pub written : text ≡ suffix ++ rest
  pub is : IsSuffix suffix double

-- a suffix that makes a real a double, or none, and what stands behind it
abbrev suffix_behind : ℕ → List ℕ → Bool × List ℕ
suffix_behind char text = cond (char == 100 || char == 68) (true, text) (false, char ∷ text)

-- the same by what was found
abbrev FoundBy : List ℕ → Bool × List ℕ → Type 0
FoundBy text found = SuffixFound text found.1 found.0

-- what is read as a suffix is one
pub suffix_found : (text : List ℕ) → SuffixFound text (suffix_in text).1 (suffix_in text).0
unfolding suffix_in
suffix_found [] = record { suffix = []; written = refl; is = no_suffix }
suffix_found (char ∷ text) = float (char == 102 || char == 70) refl
  where
    double : (b : Bool) → (char == 100 || char == 68) ≡ b →
        FoundBy (char ∷ text) (cond b (true, text) (false, char ∷ text))
    double true is = record { suffix = char ∷ []; written = refl; is = double_suffix is }
    double false is = record { suffix = []; written = refl; is = no_suffix }

    float : (b : Bool) → (char == 102 || char == 70) ≡ b →
        FoundBy (char ∷ text) (cond b (false, text) (suffix_behind char text))
    float true is = record { suffix = char ∷ []; written = refl; is = float_suffix is }
    float false is = double (char == 100 || char == 68) refl

-- a text is read as a suffix and a rest, and as no digit and no exponent
pub record SuffixRead (text rest : List ℕ) (double : Bool) : Type 0 where
  pub no_digit : begins is_digit text ≡ false
  pub no_exponent : behind_exponent text ≡ None
  pub is : suffix_in text ≡ (double, rest)

-- the letter of a suffix is no digit, and not that of an exponent
letter_other : (letter : ℕ) → ((letter == 102 || letter == 70) || (letter == 100 || letter == 68)) ≡ true →
    (is_digit letter ≡ false) × ((letter == 101 || letter == 69) ≡ false)
letter_other letter is = (grind (arith, nat_tests), grind (arith, nat_tests))

-- so where such a letter is read as a suffix nothing else is read there
letter_read : (letter : ℕ) (rest : List ℕ) (double : Bool) →
    ((letter == 102 || letter == 70) || (letter == 100 || letter == 68)) ≡ true →
    suffix_in (letter ∷ rest) ≡ (double, rest) → SuffixRead (letter ∷ rest) rest double
unfolding behind_exponent
letter_read letter rest double letter_is is =
    record {
      no_digit = (letter_other letter letter_is).0;
      no_exponent =
          ap (λ (o : Option (List ℕ)). o >>= behind_sign)
          (neither_read 101 69 letter rest (letter_other letter letter_is).1);
      is = is;
    }

-- `f` or `F` is read as a suffix
float_read : (letter : ℕ) (rest : List ℕ) → (letter == 102 || letter == 70) ≡ true →
    SuffixRead (letter ∷ rest) rest false
unfolding suffix_in
float_read letter rest is =
    letter_read letter rest false (or_left (letter == 102 || letter == 70) (letter == 100 || letter == 68) is)
    (cond-true (letter == 102 || letter == 70) (false, rest) (suffix_behind letter rest) is)

-- `d` or `D` is read as a suffix
double_read : (letter : ℕ) (rest : List ℕ) → (letter == 100 || letter == 68) ≡ true →
    SuffixRead (letter ∷ rest) rest true
unfolding suffix_in
double_read letter rest is =
    letter_read letter rest true (or_right (letter == 102 || letter == 70) (letter == 100 || letter == 68) is)
    (cond-false (letter == 102 || letter == 70) (false, rest) (suffix_behind letter rest) (no_float letter is)
    ∙ cond-true (letter == 100 || letter == 68) (true, rest) (false, letter ∷ rest) is)
  where
    no_float : (letter : ℕ) → (letter == 100 || letter == 68) ≡ true → (letter == 102 || letter == 70) ≡ false
    no_float letter is = grind (arith, nat_tests)

-- a suffix alone is read whole
pub suffix_alone : (suffix : List ℕ) (double : Bool) → IsSuffix suffix double → SuffixRead suffix [] double
unfolding behind_exponent suffix_in
suffix_alone suffix double no_suffix = record { no_digit = refl; no_exponent = refl; is = refl }
suffix_alone suffix double (float_suffix {letter} is) = float_read letter [] is
suffix_alone suffix double (double_suffix {letter} is) = double_read letter [] is

-- no more is left behind the letter of a suffix
letter_bound : (letter : ℕ) (rest end : List ℕ) (double : Bool) → SuffixRead (letter ∷ rest) rest double →
    (begins is_digit (letter ∷ rest) ≡ false → behind_exponent (letter ∷ rest) ≡ None → end ≡ letter ∷ rest) →
    length (suffix_in end).1 ≤ length rest
letter_bound letter rest end double read exact =
    let same = ap suffix_in (exact read.no_digit read.no_exponent) ∙ read.is in
    omega (arith, ap (λ (f : Bool × List ℕ). length f.1) same)

-- where a real ends no later than its unsuffixed text, no more is left behind its suffix
pub suffix_bound : (suffix rest end : List ℕ) (double : Bool) → IsSuffix suffix double →
    length end ≤ length (suffix ++ rest) →
    (begins is_digit (suffix ++ rest) ≡ false → behind_exponent
    (suffix ++ rest) ≡ None → end ≡ suffix ++ rest) →
    length (suffix_in end).1 ≤ length rest
suffix_bound suffix rest end double no_suffix shorter exact =
    let found = suffix_found end in
    omega (arith, shorter, ap length found.written, length-append found.suffix (suffix_in end).1)
suffix_bound suffix rest end double (float_suffix {letter} is) shorter exact =
    letter_bound letter rest end false (float_read letter rest is) exact
suffix_bound suffix rest end double (double_suffix {letter} is) shorter exact =
    letter_bound letter rest end true (double_read letter rest is) exact

-- The forms of separators and words, as lists of characters.
use Rattle.std.specs.Prelude.{◌≡◌, ◌⊎◌, ℕ, ◌==◌, ◌||◌, ◌&&◌, not, Bool, true, false}
use Rattle.std.specs.Prelude.{List, [], ◌∷◌, ◌++◌, Some, None, is_none, codes, encode_utf8_all}
use Rattle.std.specs.List.{list_all}
use Rattle.std.specs.Str.Parse.{digits_value}
use Rattle.case_table.specs.Tables.{value_of}
use Rattle.mdl_lexer.specs.declared.token.Kind.{Kind}
use Rattle.mdl_lexer.specs.declared.token.Kind.TheVariants as kind
use Rattle.mdl_lexer.specs.Characters.{line_feed, point, is_blank, is_digit, is_octal, is_hexadecimal}
use Rattle.mdl_lexer.specs.Characters.{starts_name}
use Rattle.mdl_lexer.specs.Characters.{continues_name}
use Rattle.mdl_lexer.specs.WordTables.{reserved, marks}
use Rattle.mdl_lexer.specs.Strings.{IsStringOf}

-- one or more of a class
abbrev pub are : (ℕ → Bool) → List ℕ → Bool
are class [] = false
are class (char ∷ text) = class char && list_all class text

-- from `//` on, on one line
pub record IsLineComment (text : List ℕ) : Type 0 where
  pub rest : List ℕ
  pub written : text ≡ codes "//" ++ rest
  pub one_line : list_all (λ char. not (char == line_feed)) rest ≡ true

-- from `/*` to the next `*/`
pub record IsBlockComment (text : List ℕ) : Type 0 where
  pub body : List ℕ
  pub written : text ≡ codes "/*" ++ (body ++ codes "*/")
  pub next : (front back : List ℕ) → body ++ codes "*/" ≡ front ++ (codes "*/" ++ back) → back ≡ []

-- a blank, or a comment
pub data IsSeparator : List ℕ → Type 0 where
  blank : {char : ℕ} → is_blank char ≡ true → IsSeparator (char ∷ [])
  line : {text : List ℕ} → IsLineComment text → IsSeparator text
  block : {text : List ℕ} → IsBlockComment text → IsSeparator text

-- a name, reserved or not
abbrev pub is_name : List ℕ → Bool
is_name [] = false
is_name (char ∷ text) = starts_name char && list_all continues_name text

-- a name that isn't reserved
abbrev pub is_identifier : List ℕ → Bool
is_identifier text = is_name text && is_none (value_of reserved text)

-- `0`, or digits that don't begin with `0`
abbrev pub is_decimal : List ℕ → Bool
is_decimal [] = false
is_decimal (char ∷ []) = is_digit char
is_decimal (char ∷ next ∷ text) = not (char == 48) && are is_digit (char ∷ next ∷ text)

-- the text of an integer, and its value
pub data IsInteger : List ℕ → ℕ → Type 0 where
  decimal : {text : List ℕ} → is_decimal text ≡ true → IsInteger text (digits_value 10 text)
  octal : {digits : List ℕ} → are is_octal digits ≡ true → IsInteger (48 ∷ digits) (digits_value 8 digits)
  hexadecimal : {x : ℕ} {digits : List ℕ} → (x == 120 || x == 88) ≡ true → are is_hexadecimal digits ≡ true →
      IsInteger (48 ∷ x ∷ digits) (digits_value 16 digits)

-- digits with a `.` before, among or after them
pub record IsPointed (text : List ℕ) : Type 0 where
  pub whole : List ℕ
  pub fraction : List ℕ
  pub written : text ≡ whole ++ point ∷ fraction
  pub digits : are is_digit (whole ++ fraction) ≡ true

-- `e` or `E`, a sign or none, and digits
pub record IsExponent (text : List ℕ) : Type 0 where
  pub letter : ℕ
  pub sign : List ℕ
  pub digits : List ℕ
  pub written : text ≡ letter ∷ (sign ++ digits)
  pub is_letter : (letter == 101 || letter == 69) ≡ true
  pub is_sign : (sign ≡ []) ⊎ ((sign ≡ codes "+") ⊎ (sign ≡ codes "-"))
  pub are_digits : are is_digit digits ≡ true

-- the text of a real without its suffix
pub data IsUnsuffixed : List ℕ → Type 0 where
  pointed : (text : List ℕ) → IsPointed text → IsUnsuffixed text
  both : (text exponent : List ℕ) → IsPointed text → IsExponent exponent → IsUnsuffixed (text ++ exponent)
  scaled : (text exponent : List ℕ) → are is_digit text ≡ true → IsExponent exponent →
      IsUnsuffixed (text ++ exponent)

-- a suffix, and whether it makes the real a double
pub data IsSuffix : List ℕ → Bool → Type 0 where
  no_suffix : IsSuffix [] false
  float_suffix : {letter : ℕ} → (letter == 102 || letter == 70) ≡ true → IsSuffix (letter ∷ []) false
  double_suffix : {letter : ℕ} → (letter == 100 || letter == 68) ≡ true → IsSuffix (letter ∷ []) true

-- the text of a real, without its suffix, and whether it is a double
pub record IsReal (text kept : List ℕ) (double : Bool) : Type 0 where
  pub suffix : List ℕ
  pub written : text ≡ kept ++ suffix
  pub unsuffixed : IsUnsuffixed kept
  pub is_suffix : IsSuffix suffix double

-- the text of a word, and what it is
abbrev pub IsWord : List ℕ → Kind → Type 0
IsWord text (kind.Word own) =
    (is_name text ≡ true) × ((value_of reserved text ≡ None) × (own ≡ encode_utf8_all text))
IsWord text (kind.Reserved number) = value_of reserved text ≡ Some number
IsWord text (kind.Mark number) = value_of marks text ≡ Some number
IsWord text (kind.Int value) = IsInteger text value
IsWord text (kind.Real own double) = IsReal text own double
IsWord text (kind.Str own) = IsStringOf text own

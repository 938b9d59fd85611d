-- Reading a word from the front of a text, as functions on characters: what was read and the rest, or nothing.
use Rattle.std.specs.Prelude.{ℕ, ◌-◌, ◌==◌, ◌||◌, ◌&&◌, Bool, true, false, if◌then◌else◌}
use Rattle.std.specs.Prelude.{List, [], ◌∷◌, Option, Some, None, option_and_then, length, take, unwrap_or}
use Rattle.mdl_lexer.specs.Characters.{is_digit, is_octal, is_hexadecimal, continues_name}
use Rattle.mdl_lexer.specs.inside.Cutting.{drop_while, begins, behind_some, behind_one}

infixl 10 ◌>>=◌
abbrev pub ◌>>=◌ : {A B : Type 0} → Option A → (A → Option B) → Option B
o >>= f = option_and_then f o

-- the first, or the second where there is none
abbrev pub or_else : {A : Type 0} → Option A → Option A → Option A
or_else (Some found) other = Some found
or_else None other = other

-- what stands before the end of a text
abbrev pub front_of : List ℕ → List ℕ → List ℕ
front_of text rest = take (length text - length rest) text

-- a number, by the characters of its digits or of its text
pub data Found : Type 0 where
  Integer : List ℕ → ℕ → Found
  Real : List ℕ → Bool → Found

-- a number begins with a digit, or with `.` and a digit
abbrev pub begins_number : List ℕ → Bool
begins_number [] = false
begins_number (char ∷ text) = is_digit char || ((char == 46) && begins is_digit text)

-- a number that ends before this text would go on
abbrev pub goes_on : List ℕ → Bool
goes_on [] = false
goes_on (char ∷ text) = if char == 46 then begins is_digit text else continues_name char

unfoldable pub hexadecimal_in : List ℕ → Option (Found × List ℕ)
hexadecimal_in text = do
  zero ← behind_one 48 text
  digits ← or_else (behind_one 120 zero) (behind_one 88 zero)
  rest ← behind_some is_hexadecimal digits
  Some (Integer (front_of digits rest) 16, rest)

-- what stands behind an exponent
unfoldable pub behind_exponent : List ℕ → Option (List ℕ)
behind_exponent text = do
  sign ← or_else (behind_one 101 text) (behind_one 69 text)
  behind_some is_digit (unwrap_or (or_else (behind_one 43 sign) (behind_one 45 sign)) sign)

-- whether a suffix makes a real a double, and what stands behind it
unfoldable pub suffix_in : List ℕ → Bool × List ℕ
suffix_in [] = (false, [])
suffix_in (char ∷ text) =
    if char == 102 || char == 70 then (false, text)
    else (if char == 100 || char == 68 then (true, text) else (false, char ∷ text))

-- what stands behind a real whose digits before the `.` end here, by what stands behind a `.`
abbrev pub real_end_from : List ℕ → Option (List ℕ) → Option (List ℕ)
real_end_from digits_end None = behind_exponent digits_end
real_end_from digits_end (Some fraction) =
    let pointed = drop_while is_digit fraction in
    Some (unwrap_or (behind_exponent pointed) pointed)

unfoldable pub real_end : List ℕ → Option (List ℕ)
real_end digits_end = real_end_from digits_end (behind_one 46 digits_end)

-- the integer that digits are, by what stands behind a `0` at their front: octal digits, if any do
abbrev pub integer_from : List ℕ → Option (List ℕ) → Option Found
integer_from digits None = Some (Integer digits 10)
integer_from digits (Some octal) =
    if begins is_digit octal
    then (behind_some is_octal octal >>= λ rest.
    if begins is_digit rest then None else Some (Integer (front_of octal rest) 8))
    else Some (Integer digits 10)

unfoldable pub integer_of : List ℕ → Option Found
integer_of digits = integer_from digits (behind_one 48 digits)

-- the number that digits are, or the real that they begin
abbrev pub real_or_integer : List ℕ → List ℕ → Option (List ℕ) → Option (Found × List ℕ)
real_or_integer text digits_end None = integer_of (front_of text digits_end) >>= λ found. Some (
  found,
  digits_end,
)
real_or_integer text digits_end (Some rest) = Some (
  Real (front_of text rest) (suffix_in rest).0,
  (suffix_in
      rest).1,
)

unfoldable pub decimal_in : List ℕ → Option (Found × List ℕ)
decimal_in text = let digits_end = drop_while is_digit text in
    real_or_integer text digits_end (real_end digits_end)

-- the longest number at the front, and what stands behind it
unfoldable pub number_in : List ℕ → Option (Found × List ℕ)
number_in text = or_else (hexadecimal_in text) (decimal_in text) >>= λ found. if goes_on found.1 then None
    else Some found

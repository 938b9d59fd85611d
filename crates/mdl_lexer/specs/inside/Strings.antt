-- Reading a string from behind its first quote, as functions on characters.
use Rattle.std.specs.Prelude.{ℕ, zero, suc, ◌+◌, ◌*◌, ◌==◌, nat_lt, if◌then◌else◌}
use Rattle.std.specs.Prelude.{List, [], ◌∷◌, ◌++◌, Option, Some, None}
use Rattle.std.specs.Option.{option_map}
use Rattle.std.specs.Char.{digit_value}
use Rattle.mdl_lexer.specs.Strings.{escapes, escaped_in}
use Rattle.mdl_lexer.specs.inside.Reading.{◌>>=◌}

-- a digit's value in a base, and the rest
unfoldable pub digit_in : ℕ → List ℕ → Option (ℕ × List ℕ)
digit_in base [] = None
digit_in base (char ∷ text) = if nat_lt (digit_value char) base then Some (digit_value char, text) else None

-- a value with one more octal digit, where it has room for one and one comes
abbrev pub with_digit : ℕ × List ℕ → Option (ℕ × List ℕ) → ℕ × List ℕ
with_digit found None = found
with_digit found (Some digit) = if nat_lt found.0 16 then (found.0 * 8 + digit.0, digit.1) else found

unfoldable pub octal_more : ℕ × List ℕ → ℕ × List ℕ
octal_more found = with_digit found (digit_in 8 found.1)

-- one to three octal digits up to 177
unfoldable pub octal_in : List ℕ → Option (ℕ × List ℕ)
octal_in text = digit_in 8 text >>= λ first. Some (octal_more (octal_more first))

-- two hexadecimal digits below 80
unfoldable pub hexadecimal_in : List ℕ → Option (ℕ × List ℕ)
hexadecimal_in text = do
  high ← digit_in 16 text
  low ← digit_in 16 high.1
  if nat_lt high.0 8 then Some (high.0 * 16 + low.0, low.1) else None

-- the character of an escape, by what its letter stands for
abbrev pub escape_from : Option ℕ → ℕ → List ℕ → Option (ℕ × List ℕ)
escape_from (Some char) letter text = Some (char, text)
escape_from None letter text = if letter == 120 then hexadecimal_in text else octal_in (letter ∷ text)

-- the character of an escape behind its `\`
unfoldable pub escape_in : List ℕ → Option (ℕ × List ℕ)
escape_in [] = None
escape_in (letter ∷ text) = escape_from (escaped_in escapes letter) letter text

-- a character before what a string stands for
abbrev pub behind_char : ℕ → Option (List ℕ × List ℕ) → Option (List ℕ × List ℕ)
behind_char char found = option_map (λ (string : List ℕ × List ℕ). (char ∷ string.0, string.1)) found

-- what a string of at most so many characters stands for, from behind its first quote, and the rest
unfoldable pub string_in : ℕ → List ℕ → Option (List ℕ × List ℕ)
string_in zero text = None
string_in (suc n) [] = None
string_in (suc n) (char ∷ text) =
    if char == 34 then Some ([], text)
    else (if char == 10 then None
    else (if char == 92 then (escape_in text >>= λ found. behind_char found.0 (string_in n found.1))
    else behind_char char (string_in n text)))

-- characters before what a string stands for
abbrev pub behind_chars : List ℕ → Option (List ℕ × List ℕ) → Option (List ℕ × List ℕ)
behind_chars chars found = option_map (λ (string : List ℕ × List ℕ). (chars ++ string.0, string.1)) found

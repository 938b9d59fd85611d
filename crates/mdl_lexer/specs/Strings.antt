-- Strings and their escapes, as lists of characters.
use Rattle.std.specs.Prelude.{◌≡◌, ℕ, ◌≤◌, ◌<◌, ◌==◌, ◌||◌, not, Bool, true, List, [], ◌∷◌, ◌++◌}
use Rattle.std.specs.Prelude.{Option, Some, None, encode_utf8_all, length, if◌then◌else◌}
use Rattle.std.specs.List.{list_all}
use Rattle.std.specs.Str.Parse.{digits_value}
use Rattle.mdl_lexer.specs.Characters.{quote, backslash, line_feed, is_octal, is_hexadecimal}

-- a character that stands for itself: not `"`, `\` or a line feed
abbrev pub is_plain : ℕ → Bool
is_plain char = not (char == quote || (char == backslash || char == line_feed))

-- the letters behind `\`, each with the character that it stands for
abbrev pub escapes : List (ℕ × ℕ)
escapes =
    (97, 7) ∷ (98, 8) ∷ (102, 12) ∷ (110, 10) ∷ (114, 13) ∷ (116, 9) ∷ (118, 11) ∷ (92, 92) ∷ (39, 39)
    ∷ (34, 34) ∷ []

abbrev pub escaped_in : List (ℕ × ℕ) → ℕ → Option ℕ
escaped_in [] letter = None
escaped_in (row ∷ rows) letter = if row.0 == letter then Some row.1 else escaped_in rows letter

-- one to three octal digits up to 177
pub record IsOctal (digits : List ℕ) : Type 0 where
  pub some : 1 ≤ length digits
  pub few : length digits ≤ 3
  pub are_digits : list_all is_octal digits ≡ true
  pub small : digits_value 8 digits ≤ 127

-- what stands between the quotes of a string, and the characters that it stands for
pub data IsBody : List ℕ → List ℕ → Type 0 where
  end : IsBody [] []
  plain : {char : ℕ} {body text : List ℕ} → is_plain char ≡ true → IsBody body text →
      IsBody (char ∷ body) (char ∷ text)
  letter : {letter char : ℕ} {body text : List ℕ} → escaped_in escapes letter ≡ Some char → IsBody body text →
      IsBody (backslash ∷ letter ∷ body) (char ∷ text)
  octal : {digits body text : List ℕ} → IsOctal digits →
      ((digit : ℕ) (rest : List ℕ) → body ≡ digit ∷ rest → IsOctal (digits ++ digit ∷ []) → ⊥) →
      IsBody body text →
      IsBody (backslash ∷ (digits ++ body)) (digits_value 8 digits ∷ text)
  hexadecimal : {high low : ℕ} {body text : List ℕ} → list_all is_hexadecimal (high ∷ low ∷ []) ≡ true →
      digits_value 16 (high ∷ low ∷ []) < 128 → IsBody body text →
      IsBody (backslash ∷ 120 ∷ high ∷ low ∷ body) (digits_value 16 (high ∷ low ∷ []) ∷ text)

-- a string's text, and the bytes that it stands for
pub record IsStringOf (text own : List ℕ) : Type 0 where
  pub body : List ℕ
  pub meaning : List ℕ
  pub written : text ≡ quote ∷ (body ++ quote ∷ [])
  pub is_body : IsBody body meaning
  pub bytes : own ≡ encode_utf8_all meaning

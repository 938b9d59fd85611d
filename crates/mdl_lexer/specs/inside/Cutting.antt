-- Cutting texts: as bytes, and as lists of characters.
use Rattle.std.specs.Prelude.{◌≡◌, ℕ, ◌<◌, ◌==◌, ◌||◌, Bool, false, List, [], ◌∷◌, ◌++◌, length}
use Rattle.std.specs.Prelude.{if◌then◌else◌}
use Rattle.std.specs.Prelude.{Option, Some, None, chars, encode_utf8, IsUtf8}

-- the end of a text, behind a front that is text too
pub record IsRest (text rest : List ℕ) : Type 0 where
  pub front : List ℕ
  pub written : text ≡ front ++ rest
  pub is_text : IsUtf8 front
  pub rest_is_text : IsUtf8 rest

-- a text's first character, and the text behind it
pub record IsFirst (text : List ℕ) (char : ℕ) (behind : List ℕ) : Type 0 where
  pub written : text ≡ encode_utf8 char ++ behind
  pub characters : chars text ≡ char ∷ chars behind
  pub is_text : IsUtf8 behind
  pub is_rest : IsRest text behind
  pub shorter : length behind < length text

-- the characters without those at the front that are of the class
abbrev pub drop_while : (ℕ → Bool) → List ℕ → List ℕ
drop_while class [] = []
drop_while class (char ∷ text) = if class char then drop_while class text else char ∷ text

-- the first character is of the class
abbrev pub begins : (ℕ → Bool) → List ℕ → Bool
begins class [] = false
begins class (char ∷ text) = class char

-- what stands behind one or more of the class
abbrev pub behind_some : (ℕ → Bool) → List ℕ → Option (List ℕ)
behind_some class text = if begins class text then Some (drop_while class text) else None

-- what stands behind a character
abbrev pub behind_one : ℕ → List ℕ → Option (List ℕ)
behind_one char [] = None
behind_one char (found ∷ text) = if found == char then Some text else None

-- what stands behind one character of the class
abbrev pub behind_class : (ℕ → Bool) → List ℕ → Option (List ℕ)
behind_class class [] = None
behind_class class (char ∷ text) = if class char then Some text else None

-- a character that isn't the first of some mark: one of `=&|+-<>:`
abbrev pub extends_mark : ℕ → Bool
extends_mark char =
    (char == 61 || (char == 38 || (char == 124 || char == 43)))
    || (char == 45 || (char == 60 || (char == 62 || char == 58)))

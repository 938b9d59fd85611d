-- One separator or word at the front of a text, and chains of them. Texts are lists of characters.
use Rattle.std.specs.Prelude.{◌≡◌, ◌⊎◌, ℕ, ◌-◌, ◌≤◌, ◌==◌, ◌&&◌, ◌||◌, Bool, true, false}
use Rattle.std.specs.Prelude.{List, [], ◌∷◌, ◌++◌, length, encode_utf8_all}
use Rattle.mdl_lexer.specs.declared.token.Kind.{Kind}
use Rattle.mdl_lexer.specs.declared.token.Kind.TheVariants as kind
use Rattle.mdl_lexer.specs.declared.token.Token.{Token}
use Rattle.mdl_lexer.specs.Characters.{point, is_digit, continues_name}
use Rattle.mdl_lexer.specs.Forms.{IsSeparator, IsWord}

-- a separator, or a word
abbrev pub IsForm : List ℕ → Type 0
IsForm form = IsSeparator form ⊎ ((what : Kind) × IsWord form what)

-- a text begins with a form, and with no longer one
pub record Begins (text form rest : List ℕ) : Type 0 where
  pub written : text ≡ form ++ rest
  pub longest : (longer after : List ℕ) → text ≡ longer ++ after → IsForm longer → length longer ≤ length form

-- a digit comes first
abbrev pub digit_first : List ℕ → Bool
digit_first [] = false
digit_first (char ∷ text) = is_digit char

-- what would make a number another: a character that continues a name, or a `.` and a digit
abbrev pub goes_on : List ℕ → Bool
goes_on [] = false
goes_on (char ∷ text) = continues_name char || ((char == point) && digit_first text)

abbrev pub is_number : Kind → Bool
is_number (kind.Int value) = true
is_number (kind.Real text is_double) = true
is_number _ = false

-- a separator, and then the rest
pub record StepsOver (text rest : List ℕ) : Type 0 where
  pub form : List ℕ
  pub begins : Begins text form rest
  pub separator : IsSeparator form

-- a word of this kind, and then the rest
pub record Reads (text : List ℕ) (what : Kind) (rest : List ℕ) : Type 0 where
  pub form : List ℕ
  pub begins : Begins text form rest
  pub word : IsWord form what
  pub ends : is_number what ≡ true → goes_on rest ≡ false

-- the bytes before the rest of a text of so many bytes
abbrev pub place_in : ℕ → List ℕ → ℕ
place_in bytes rest = bytes - length (encode_utf8_all rest)

-- a chain of separators and words, by what steps over one and what reads one, leads over these tokens to a
-- rest. The whole text has so many bytes
pub data Chain (Over : List ℕ → List ℕ → Type 0) (Word : List ℕ → Kind → List ℕ → Type 0) (bytes : ℕ) :
    List ℕ → List Token → List ℕ → Type 0 where
  stop : {text : List ℕ} → Chain Over Word bytes text [] text
  over : {text rest last : List ℕ} {tokens : List Token} →
      Over text rest → Chain Over Word bytes rest tokens last → Chain Over Word bytes text tokens last
  word : {text rest last : List ℕ} {what : Kind} {tokens : List Token} →
      Word text what rest → Chain Over Word bytes rest tokens last →
      Chain Over Word bytes text
      (record { kind = what; at = place_in bytes text; end = place_in bytes rest } ∷ tokens) last

-- Faults of words that are to be a tree of a language, each at its place.
use Rattle.std.specs.Prelude.{◌≡◌, ◌⊎◌, ℕ, suc, ◌<◌, ◌≤◌, ◌==◌, List, [], ◌∷◌, ◌++◌, Option, Some, None, codes}
use Rattle.std.specs.Prelude.{if◌then◌else◌, length, take, slice_get}
use Rattle.mdl_lexer.specs.declared.token.Kind.{Kind}
use Rattle.mdl_lexer.specs.declared.token.Kind.TheVariants as kind
use Rattle.mdl_lexer.specs.Kinds.{mark_word}
use Rattle.mdl_lexer.specs.WordTables.{reserved_left_out, marks_left_out}

-- which words some tree of at most this height writes
abbrev pub Language : Type 1
Language = List Kind → ℕ → Type 0

-- a tree of at most this height begins with the words
pub record OpensIn (language : Language) (words : List Kind) (most : ℕ) : Type 0 where
  pub rest : List Kind
  pub whole : language (words ++ rest) most

-- the words up to this place and with it open. The end of the text is a place too, behind the last word
abbrev pub OpensToIn : Language → List Kind → ℕ → ℕ → Type 0
OpensToIn language words at most =
    ((at < length words) × OpensIn language (take (suc at) words) most)
    ⊎ ((at ≡ length words) × language words most)

-- the words up to this place open, but only higher
pub record IsDeepIn (language : Language) (most : ℕ) (words : List Kind) (at : ℕ) : Type 0 where
  pub opens : (higher : ℕ) × OpensToIn language words at higher
  pub high : OpensToIn language words at most → ⊥

-- the text of a row by its number
abbrev pub text_in : List (List ℕ × ℕ) → ℕ → Option (List ℕ)
text_in [] number = None
text_in (row ∷ rows) number = if row.1 == number then Some row.0 else text_in rows number

-- the text of a word that no form has
abbrev pub left_out_text : Kind → Option (List ℕ)
left_out_text (kind.Reserved number) = text_in reserved_left_out number
left_out_text (kind.Mark number) = text_in marks_left_out number
left_out_text _ = None

-- the words before this place open, and a word that no form has stands there
pub record IsLeftOutWordIn (language : Language) (words : List Kind) (at : ℕ) (text : List ℕ) : Type 0 where
  pub opens : (most : ℕ) × OpensIn language (take at words) most
  pub word : Kind
  pub there : slice_get words at ≡ Some word
  pub text_is : left_out_text word ≡ Some text

-- the words up to a `<` behind `[` open, so it begins the size of a type: no expression begins with `<`
pub record IsDeferredSizeIn (language : Language) (words : List Kind) (at : ℕ) : Type 0 where
  pub before : ℕ
  pub behind : at ≡ suc before
  pub bracket : slice_get words before ≡ Some (mark_word (codes "["))
  pub there : slice_get words at ≡ Some (mark_word (codes "<"))
  pub opens : (most : ℕ) × OpensIn language (take (suc at) words) most

-- no fault with a name of its own stands before this place
abbrev pub NoneBefore : (ℕ → Type 0) → ℕ → Type 0
NoneBefore named at = (earlier : ℕ) → earlier < at → named earlier → ⊥

-- the first place up to which the words don't open, where no fault has a name of its own
pub record IsBadIn (language : Language) (named : ℕ → Type 0) (words : List Kind) (at : ℕ) : Type 0 where
  pub within : at ≤ length words
  pub before : (earlier : ℕ) → earlier < at → (higher : ℕ) × OpensToIn language words earlier higher
  pub none : (higher : ℕ) → OpensToIn language words at higher → ⊥
  pub unnamed : (place : ℕ) → named place → ⊥

-- Reading the options among the words behind a command, as functions.
use Rattle.std.specs.Prelude.{ℕ, zero, suc, nat_eq, if◌then◌else◌}
use Rattle.std.specs.Prelude.{List, [], ◌∷◌, ◌++◌, Option, Some, None, option_and_then, codes, decimal, drop}
use Rattle.std.specs.List.{starts_with}
use Rattle.std.specs.Str.{bytes_eq}
use Rattle.command_words.specs.Requests.{is_option, workers_word}

infixl 10 ◌>>=◌
abbrev pub ◌>>=◌ : {A B : Type 0} → Option A → (A → Option B) → Option B
o >>= f = option_and_then f o

-- what stands before the value of an option that is one word
abbrev pub workers_equals : List ℕ
workers_equals = codes "--workers="

-- the first word, and the others
abbrev pub first_of : List (List ℕ) → Option (List ℕ × List (List ℕ))
first_of [] = None
first_of (value ∷ words) = Some (value, words)

-- what stands behind `--workers=` in a word
abbrev pub joined_value : List ℕ → Option (List ℕ)
joined_value word = if starts_with nat_eq word workers_equals then Some (drop 10 word) else None

-- the value of an option that begins with a word, and the words behind it
unfoldable pub option_in : List ℕ → List (List ℕ) → Option (List ℕ × List (List ℕ))
option_in word words =
    if bytes_eq word workers_word then first_of words
    else if starts_with nat_eq word workers_equals then Some (drop 10 word, words) else None

unfoldable mutual
  -- these values and other words, and behind them those of the words
  pub sorted_onto : List (List ℕ) → List (List ℕ) → List (List ℕ) →
      Option (List (List ℕ) × List (List ℕ))
  sorted_onto values others [] = Some (values, others)
  sorted_onto values others (word ∷ words) =
      if bytes_eq word (codes "--") then Some (values, others ++ words)
      else if is_option word
      then (if bytes_eq word workers_word then value_onto values others words
      else if starts_with nat_eq word workers_equals
      then sorted_onto (values ++ drop 10 word ∷ []) others words else None)
      else sorted_onto values (others ++ word ∷ []) words

  -- the same where a value comes first
  pub value_onto : List (List ℕ) → List (List ℕ) → List (List ℕ) →
      Option (List (List ℕ) × List (List ℕ))
  value_onto values others [] = None
  value_onto values others (value ∷ words) = sorted_onto (values ++ value ∷ []) others words

-- the number from 1 to `most` that a word is
unfoldable pub number_upto : ℕ → List ℕ → Option ℕ
number_upto zero word = None
number_upto (suc most) word =
    if bytes_eq word (decimal (suc most)) then Some (suc most) else number_upto most word

-- the number of workers that a word is
unfoldable pub number_in : List ℕ → Option ℕ
number_in word = number_upto 64 word

-- the number of workers that the values of the options are
unfoldable pub workers_in : List (List ℕ) → Option ℕ
workers_in [] = Some 1
workers_in (value ∷ []) = number_in value
workers_in (value ∷ more ∷ values) = None

-- What the code's numbers stand for.
use Rattle.std.specs.Prelude.{◌≡◌, ◌≤◌, ℕ, List, chars, IsUtf8}
use Rattle.std.specs.Str.Parse.{IsNumeral}
use Rattle.std.specs.Borrow.{Bor}
use Rattle.mdl_lexer.specs.declared.numbers.Number.{Number}
use Rattle.mdl_lexer.specs.declared.numbers.Number.TheVariants as number
use Rattle.mdl_lexer.specs.inside.Reading.{Found, Integer, Real}

abbrev pub number_value : Number → Found
number_value (number.Integer digits base) = Integer (chars digits.now) base
number_value (number.Real text double) = Real (chars text.now) double

-- a number and the rest
abbrev pub number_found : Number × Bor (List ℕ) → Found × List ℕ
number_found found = (number_value found.0, chars found.1.now)

-- digits of a base, as bytes
pub record AreDigits (base : ℕ) (digits : List ℕ) : Type 0 where
  pub numeral : IsNumeral base digits
  pub characters : chars digits ≡ digits

-- the digits of an integer are those of its base, and what a real is is text
abbrev pub IsNumber : Number → Type 0
IsNumber (number.Integer digits base) = AreDigits base digits.now × ((2 ≤ base) × (base ≤ 16))
IsNumber (number.Real text double) = IsUtf8 text.now

-- What the code's values stand for.
use Rattle.std.specs.Prelude.{ℕ, ◌==◌, not, Bool, List, chars}
use Rattle.std.specs.Borrow.{Bor}
use Rattle.mdl_lexer.specs.declared.token.Kind.{Kind}
use Rattle.mdl_lexer.specs.declared.cursor.Class.{Class}
use Rattle.mdl_lexer.specs.declared.cursor.Class.TheVariants as class
use Rattle.mdl_lexer.specs.Characters.{is_digit, is_octal, is_hexadecimal, continues_name}
use Rattle.mdl_lexer.specs.inside.Cutting.{extends_mark}

abbrev pub in_class : Class → ℕ → Bool
in_class class.Digit char = is_digit char
in_class class.Octal char = is_octal char
in_class class.Hexadecimal char = is_hexadecimal char
in_class class.Name char = continues_name char
in_class class.Line char = not (char == 10)
in_class class.Mark char = extends_mark char

-- the characters of a borrowed text
abbrev pub characters_of : Bor (List ℕ) → List ℕ
characters_of text = chars text.now

-- a value and the characters of the rest
abbrev pub value_found : ℕ × Bor (List ℕ) → ℕ × List ℕ
value_found found = (found.0, chars found.1.now)

-- the characters of a text and of the rest
abbrev pub string_found : List ℕ × Bor (List ℕ) → List ℕ × List ℕ
string_found found = (chars found.0, chars found.1.now)

-- a kind and the characters of the rest
abbrev pub kind_found : Kind × Bor (List ℕ) → Kind × List ℕ
kind_found found = (found.0, chars found.1.now)

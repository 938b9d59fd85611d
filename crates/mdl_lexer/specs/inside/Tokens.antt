-- Reading a word from the front of a text, as functions on characters.
use Rattle.std.specs.Prelude.{ℕ, ◌==◌, nat_le, if◌then◌else◌}
use Rattle.std.specs.Prelude.{List, [], ◌∷◌, Option, Some, None, length, encode_utf8_all}
use Rattle.case_table.specs.Tables.{value_of}
use Rattle.mdl_lexer.specs.declared.token.Kind.{Kind}
use Rattle.mdl_lexer.specs.declared.token.Kind.TheVariants as kind
use Rattle.mdl_lexer.specs.Characters.{starts_name, continues_name}
use Rattle.mdl_lexer.specs.WordTables.{reserved_in_use, reserved_left_out, marks_in_use, marks_left_out}
use Rattle.mdl_lexer.specs.inside.Cutting.{drop_while, behind_class, extends_mark}
use Rattle.mdl_lexer.specs.inside.Reading.{◌>>=◌, or_else, front_of, begins_number, number_in}
use Rattle.mdl_lexer.specs.inside.Reading.{Found as Number, Integer, Real}
use Rattle.mdl_lexer.specs.inside.Strings.{string_in}
use Rattle.std.specs.Str.Parse.{digits_value}

-- the number of a word in one of two tables
abbrev pub number_in_either : List (List ℕ × ℕ) → List (List ℕ × ℕ) → List ℕ → Option ℕ
number_in_either one other name = or_else (value_of one name) (value_of other name)

-- the kind of a name, by its bytes and its number if it is reserved
abbrev pub name_kind : List ℕ → Option ℕ → Kind
name_kind name None = kind.Word name
name_kind name (Some number) = kind.Reserved number

-- a name, whose first character is known to start one
unfoldable pub name_in : List ℕ → List ℕ → Kind × List ℕ
name_in text behind =
    let rest = drop_while continues_name behind in
    let name = encode_utf8_all (front_of text rest) in
    (name_kind name (number_in_either reserved_in_use reserved_left_out name), rest)

-- the number of the mark that ends before a rest
abbrev pub mark_to : List ℕ → Option (List ℕ) → Option (ℕ × List ℕ)
mark_to text None = None
mark_to text (Some rest) =
    number_in_either marks_in_use marks_left_out (encode_utf8_all (front_of text rest)) >>= λ number. Some
    (number, rest)

-- what stands behind one more character that marks go on with
abbrev pub one_more : Option (List ℕ) → Option (List ℕ)
one_more end = end >>= behind_class extends_mark

-- the longest mark behind whose first character this text stands
abbrev pub mark_behind : List ℕ → List ℕ → Option (ℕ × List ℕ)
mark_behind text one =
    let two = one_more (Some one) in
    let three = one_more two in
    let four = one_more three in
    or_else (mark_to text four) (or_else (mark_to text three) (or_else (mark_to text two) (mark_to text (Some
    one))))

unfoldable pub mark_in : List ℕ → Option (ℕ × List ℕ)
mark_in [] = None
mark_in (char ∷ behind) = mark_behind (char ∷ behind) behind

-- what reading a word gives: none stands there, an integer that is too large, or a word and the rest
pub data Read : Type 0 where
  NoWord : Read
  PastRange : Read
  Found : Kind → List ℕ → Read

-- the word that a number is
abbrev pub integer_read : ℕ → List ℕ → Read
integer_read value rest = if nat_le value 4294967295 then Found (kind.Int value) rest else PastRange

abbrev pub number_read : Option (Number × List ℕ) → Read
number_read None = NoWord
number_read (Some (Integer digits base, rest)) = integer_read (digits_value base digits) rest
number_read (Some (Real text double, rest)) = Found (kind.Real (encode_utf8_all text) double) rest

unfoldable pub number_word : List ℕ → Read
number_word text = number_read (number_in text)

-- the word that a string is, from behind its first quote
abbrev pub string_read : Option (List ℕ × List ℕ) → Read
string_read None = NoWord
string_read (Some string) = Found (kind.Str (encode_utf8_all string.0)) string.1

abbrev pub mark_read : Option (ℕ × List ℕ) → Read
mark_read None = NoWord
mark_read (Some mark) = Found (kind.Mark mark.0) mark.1

-- the word at the front of a text
unfoldable pub word_in : List ℕ → Read
word_in [] = NoWord
word_in (char ∷ text) =
    if char == 34 then string_read (string_in (length text) text)
    else (if begins_number (char ∷ text) then number_word (char ∷ text)
    else (if starts_name char then Found (name_in (char ∷ text) text).0 (name_in (char ∷ text) text).1
    else mark_read (mark_in (char ∷ text))))

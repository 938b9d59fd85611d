-- What is read of a word that isn't too large.
use Rattle.std.proofs.Common.{◌≡◌, ◌∙◌, sym, ap, refl, arith, ℕ, Bool, true, false}
use Rattle.std.proofs.Common.{◌==◌, ◌||◌, ◌&&◌}
use Rattle.std.proofs.Common.{List, [], ◌∷◌, Option, Some, None, if◌then◌else◌, length}
use Rattle.std.proofs.Common.{option_map, option_and_then}
use Rattle.std.proofs.lemmas.Bool.{cond-true, cond-false, false≢true}
use Rattle.std.proofs.lemmas.Bool.Decides.{nat_tests}
use Rattle.unicode_ident.proofs.IdentLemmas.{is_xid_continue-ascii}
use Rattle.mdl_lexer.specs.declared.token.Kind.{Kind}
use Rattle.mdl_lexer.specs.declared.token.Kind.TheVariants as kind
use Rattle.mdl_lexer.specs.Characters.{is_digit, starts_name, continues_name}
use Rattle.mdl_lexer.specs.Steps as steps
use Rattle.mdl_lexer.specs.inside.Cutting.{begins}
use Rattle.mdl_lexer.specs.inside.Reading as reading
use Rattle.mdl_lexer.specs.inside.Strings.{string_in}
use Rattle.mdl_lexer.specs.inside.Tokens.{name_in, mark_in, Read, NoWord, Found, integer_read}
use Rattle.mdl_lexer.specs.inside.Tokens.{number_read, number_word}
use Rattle.mdl_lexer.specs.inside.Tokens.{string_read, mark_read, word_in}
use Rattle.mdl_lexer.proofs.NumberWords.{number_kind, any_number}
use Rattle.mdl_lexer.proofs.WordKinds.{Sort, AString, ANumber, AName, AMark, sort_of, name_sort}
use Rattle.mdl_lexer.proofs.AnyWord.{string_word, mark_word, ended, word_by, any_word}

abbrev is_names : Sort → Bool
is_names AName = true
is_names _ = false

-- a word, unless it is an integer that is too large
abbrev pub limited_word : Kind → List ℕ → Read
limited_word (kind.Int value) rest = integer_read value rest
limited_word what rest = Found what rest

abbrev pub limited : Option (Kind × List ℕ) → Read
limited None = NoWord
limited (Some word) = limited_word word.0 word.1

-- whether a number goes on, by both definitions
same_goes_on : (text : List ℕ) → reading.goes_on text ≡ steps.goes_on text
same_goes_on [] = refl
same_goes_on (char ∷ text) = by (char == 46) refl
  where
    point : (char == 46) ≡ true → char ≡ 46
    point is = grind (arith, nat_tests)

    no_name : continues_name 46 ≡ false
    no_name = is_xid_continue-ascii 46 (omega arith)

    digits : (t : List ℕ) → begins is_digit t ≡ steps.digit_first t
    digits [] = refl
    digits (c ∷ t) = refl

    other : (b c : Bool) → b ≡ (b || (false && c))
    other true c = refl
    other false c = refl

    by : (b : Bool) → (char == 46) ≡ b → reading.goes_on (char ∷ text) ≡ steps.goes_on (char ∷ text)
    by true is =
        cond-true (char == 46) (begins is_digit text) (continues_name char) is
        ∙ (digits text
        ∙ sym (ap (λ (b : Bool). continues_name char || (b && steps.digit_first text)) is
        ∙ ap (λ (b : Bool). b || steps.digit_first text) (ap continues_name (point is) ∙ no_name)))
    by false is =
        cond-false (char == 46) (begins is_digit text) (continues_name char) is
        ∙ (other (continues_name char) (steps.digit_first text)
        ∙ sym (ap (λ (b : Bool). continues_name char || (b && steps.digit_first text)) is))

-- a number that is read is the longest one there, within the limit
number_limited : (text : List ℕ) → number_word text ≡ limited (ended (any_number text))
unfolding number_word reading.number_in
number_limited text = by (reading.or_else (reading.hexadecimal_in text) (reading.decimal_in text)) refl
  where
    kept : reading.Found × List ℕ → Option (reading.Found × List ℕ)
    kept found = if reading.goes_on found.1 then None else Some found

    read : Option (reading.Found × List ℕ) → Read
    read o = number_read (option_and_then kept o)

    as_word : reading.Found × List ℕ → Kind × List ℕ
    as_word found = (number_kind found.0, found.1)

    one : (found : reading.Found) (rest : List ℕ) →
        number_read (Some (found, rest)) ≡ limited_word (number_kind found) rest
    one (reading.Integer digits base) rest = refl
    one (reading.Real own double) rest = refl

    choose : (found : reading.Found) (rest : List ℕ) (b : Bool) → steps.goes_on rest ≡ b →
        read (Some (found, rest)) ≡ limited (ended (Some (as_word (found, rest))))
    choose found rest true goes =
        ap number_read (cond-true (reading.goes_on rest) None (Some (found, rest)) (same_goes_on rest ∙ goes))
        ∙ sym (ap limited (cond-true (steps.goes_on rest) None (Some (as_word (found, rest))) goes))
    choose found rest false goes =
        ap number_read (cond-false (reading.goes_on rest) None (Some (found, rest)) (same_goes_on rest
        ∙ goes))
        ∙ (one found rest
        ∙ sym (ap limited (cond-false (steps.goes_on rest) None (Some (as_word (found, rest))) goes)))

    by : (o : Option (reading.Found × List ℕ)) →
        reading.or_else (reading.hexadecimal_in text) (reading.decimal_in text) ≡ o →
        read (reading.or_else (reading.hexadecimal_in text) (reading.decimal_in text))
        ≡ limited (ended (option_map as_word (reading.or_else (reading.hexadecimal_in text)
        (reading.decimal_in text))))
    by None is = ap read is ∙ sym (ap (λ (o : Option (reading.Found × List ℕ)). limited (ended (option_map
        as_word o))) is)
    by (Some found) is =
        ap read is
        ∙ (choose found.0 found.1 (steps.goes_on found.1) refl
        ∙ sym (ap (λ (o : Option (reading.Found × List ℕ)). limited (ended (option_map as_word o))) is))

string_limited : (found : Option (List ℕ × List ℕ)) → string_read found ≡ limited (string_word found)
string_limited None = refl
string_limited (Some string) = refl

mark_limited : (found : Option (ℕ × List ℕ)) → mark_read found ≡ limited (mark_word found)
mark_limited None = refl
mark_limited (Some mark) = refl

name_limited : (what : Kind) (rest : List ℕ) → sort_of what ≡ AName → Found what rest ≡ limited_word what rest
name_limited (kind.Int value) rest sort = absurd (false≢true (ap is_names sort))
name_limited what rest sort = refl

-- a word that is read is the longest one there, within the limit
pub word_limited : (text : List ℕ) → word_in text ≡ limited (any_word text)
unfolding word_in
word_limited [] = refl
word_limited (char ∷ text) = same (char == 34) (reading.begins_number (char ∷ text)) (starts_name char)
  where
    name : Kind × List ℕ
    name = name_in (char ∷ text) text

    read : Bool → Bool → Bool → Read
    read a b c =
        if a then string_read (string_in (length text) text)
        else (if b then number_word (char ∷ text)
        else (if c then Found name.0 name.1 else mark_read (mark_in (char ∷ text))))

    sort : Bool → Bool → Bool → Sort
    sort a b c = if a then AString else (if b then ANumber else (if c then AName else AMark))

    same : (a b c : Bool) → read a b c ≡ limited (word_by (sort a b c) char text)
    same true b c = string_limited (string_in (length text) text)
    same false true c = number_limited (char ∷ text)
    same false false true = name_limited name.0 name.1 (name_sort char text)
    same false false false = mark_limited (mark_in (char ∷ text))

-- Words have the sorts that the forms ask of them, and a token of a sort is taken as its mode says.
use Rattle.std.proofs.Common.{◌≡◌, ◌∙◌, sym, ap, subst, refl, ℕ, Bool, true, false, ◌==◌, List, []}
use Rattle.std.proofs.Common.{◌∷◌, Option, Some, None, codes, if◌then◌else◌}
use Rattle.std.proofs.lemmas.Bool.{cond-false, eqb-true, false≢true}
use Rattle.mdl_lexer.specs.declared.token.Kind.{Kind}
use Rattle.mdl_lexer.specs.declared.token.Kind.TheVariants as kind
use Rattle.mdl_lexer.specs.declared.token.Token.{Token}
use Rattle.mdl_lexer.specs.Kinds.{name_word}
use Rattle.mdl_syntax.specs.declared.types.Freq.{Freq}
use Rattle.mdl_syntax.specs.declared.types.Freq.TheVariants as freq
use Rattle.mdl_syntax.specs.Words.{frequency_words}
use Rattle.mdl_syntax.specs.Levels.{mark_number, reserved_number, is_unary, binary_level}
use Rattle.mdl_syntax.specs.Levels.{is_type_word}
use Rattle.mdl_syntax.specs.declared.names.Span.{Span}
use Rattle.expression_grammar.specs.inside.Sound.{place}
use Rattle.expression_grammar.specs.inside.Machine.{Sort, sort_of, sort_among, reserved_sorts, mark_sorts}
use Rattle.expression_grammar.specs.inside.Machine.{type_word, unary_operator, either_operator}
use Rattle.expression_grammar.specs.inside.Machine.{binary_operator, frequency_word}
use Rattle.expression_grammar.specs.inside.Machine.{left_out, type_or_else, reserved_sort, operator_sort}
use Rattle.expression_grammar.specs.inside.Machine.{mark_sort, Mode, Frame, goes, allowed, taken}
use Rattle.expression_grammar.specs.inside.Machine.{mode_step, sort_step, is_deferred}
use Rattle.expression_grammar.proofs.KindLaws.{same_head}
use Rattle.expression_grammar.proofs.TakenLaws.{allowed_goes}

-- no row's number passes the test
abbrev none_is : (ℕ → Bool) → (List ℕ → ℕ) → List (List ℕ × Sort) → Bool
none_is test number_of [] = true
none_is test number_of (row ∷ rows) = if test (number_of row.0) then false else none_is test
    number_of rows

none_among : (test : ℕ → Bool) (number_of : List ℕ → ℕ) (rows : List (List ℕ × Sort)) →
    none_is test number_of rows ≡ true → (number : ℕ) → test number ≡ true →
    sort_among number_of rows number ≡ None
none_among test number_of [] all number is = refl
none_among test number_of (row ∷ rows) all number is =
    by (λ rest. none_among test number_of rows rest number is) (test (number_of row.0)) refl all
    (number_of row.0 == number) refl
  where
    by : (none_is test number_of rows ≡ true → sort_among number_of rows number ≡ None) →
        (t : Bool) → test (number_of row.0) ≡ t → (if t then false else none_is test number_of rows)
        ≡ true → (b : Bool) → (number_of row.0 == number) ≡ b →
        sort_among number_of (row ∷ rows) number ≡ None
    by behind true tested rest b same = absurd (false≢true rest)
    by behind false tested rest true same =
        absurd (false≢true (sym tested ∙ (ap test (eqb-true (number_of row.0) number same) ∙ is)))
    by behind false tested rest false other =
        cond-false (number_of row.0 == number) (Some row.1) (sort_among number_of rows number) other
        ∙ behind rest

abbrev has_level : Option ℕ → Bool
has_level None = false
has_level (Some own) = true

pub type_sort : (number : ℕ) → is_type_word number ≡ true → sort_of (kind.Reserved number)
    ≡ type_word number
type_sort number is =
    ap (λ found. reserved_sort found number) (none_among is_type_word reserved_number reserved_sorts
    refl number is) ∙ ap (λ b. type_or_else b number) is

-- an operator in front of its operand, and one between two
pub data FrontSort (number : ℕ) : Sort → Type 0 where
  front_alone : FrontSort number (unary_operator number)
  front_either : (level : ℕ) → FrontSort number (either_operator number level)

pub data InfixSort (number own : ℕ) : Sort → Type 0 where
  infix_either : InfixSort number own (either_operator number own)
  infix_alone : InfixSort number own (binary_operator number own)

pub front_sort : (number : ℕ) → is_unary number ≡ true →
    FrontSort number (sort_of (kind.Mark number))
front_sort number is =
    subst (λ found. FrontSort number (mark_sort found number))
    (sym (none_among is_unary mark_number mark_sorts refl number is))
    (subst (λ b. FrontSort number (operator_sort b (binary_level number) number)) (sym is)
    (by (binary_level number)))
  where
    by : (found : Option ℕ) → FrontSort number (operator_sort true found number)
    by None = front_alone
    by (Some level) = front_either level

pub infix_sort : (number own : ℕ) → binary_level number ≡ Some own →
    InfixSort number own (sort_of (kind.Mark number))
infix_sort number own is =
    subst (λ found. InfixSort number own (mark_sort found number))
    (sym (none_among (λ n. has_level (binary_level n)) mark_number mark_sorts refl number
    (ap has_level is))) (subst (λ found. InfixSort number own (operator_sort (is_unary number) found
    number)) (sym is) (by (is_unary number)))
  where
    by : (b : Bool) → InfixSort number own (operator_sort b (Some own) number)
    by true = infix_either
    by false = infix_alone

pub frequency_sort : (frequency : Freq) (word : Kind) → frequency_words (Some frequency)
    ≡ word ∷ [] → sort_of word ≡ frequency_word frequency
frequency_sort freq.Uniform word is = ap sort_of
    (sym (same_head (name_word (codes "uniform")) word [] [] is))
frequency_sort freq.Varying word is = ap sort_of
    (sym (same_head (name_word (codes "varying")) word [] [] is))

-- no sort of something left out
abbrev IsKept : Sort → Type 0
IsKept (left_out text) = ⊥
IsKept sort = Unit {0}

kept_step : (limit : ℕ) (mode : Mode) (frames : List Frame) (sort : Sort) (at : Span) →
    IsKept sort → sort_step limit mode frames sort at ≡ mode_step limit mode frames sort at
kept_step limit mode frames (left_out text) at kept = absurd kept
kept_step limit mode frames sort at kept = refl

-- a token of a sort is taken as its mode says
pub by_sort : (strict : Bool) (limit : ℕ) (mode : Mode) (frames : List Frame) (token : Token)
    (sort : Sort) (after : Mode) (after_frames : List Frame) → sort_of token.kind ≡ sort →
    IsKept sort → is_deferred after ≡ false → mode_step limit mode frames sort (place token)
    ≡ goes after after_frames → taken strict limit mode frames token ≡ goes after after_frames
by_sort strict limit mode frames token sort after after_frames is kept other same =
    ap (λ s. allowed strict (sort_step limit mode frames s (place token))) is ∙ ap (allowed strict)
    (kept_step limit mode frames sort (place token) kept ∙ same) ∙ allowed_goes strict after
    after_frames other

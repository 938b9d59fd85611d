-- Each word is of its sort.
use Rattle.std.proofs.Common.{◌≡◌, ◌∙◌, sym, subst, refl, ℕ, Bool, true, false, ◌==◌, List, [], ◌∷◌}
use Rattle.std.proofs.Common.{Option, Some, None}
use Rattle.std.proofs.lemmas.Bool.{cond-true, cond-false, eqb-true}
use Rattle.std.proofs.lemmas.Option.{same_Some, none-some}
use Rattle.mdl_lexer.specs.declared.token.Kind.{Kind}
use Rattle.mdl_lexer.specs.declared.token.Kind.TheVariants as kind
use Rattle.mdl_lexer.specs.WordTables.{reserved_left_out, marks_left_out}
use Rattle.mdl_syntax.specs.Levels.{mark_number, reserved_number, is_unary, binary_level}
use Rattle.mdl_syntax.specs.Levels.{is_type_word}
use Rattle.expression_grammar.specs.Languages.{text_in, left_out_text}
use Rattle.expression_grammar.specs.inside.Sorts.{IsOf}
use Rattle.expression_grammar.specs.inside.Machine.{Sort, sort_of, sort_among, reserved_sorts, mark_sorts}
use Rattle.expression_grammar.specs.inside.Machine.{left_out_or_unused, type_or_else, reserved_sort}
use Rattle.expression_grammar.specs.inside.Machine.{operator_sort}
use Rattle.expression_grammar.specs.inside.Machine.{mark_sort}

-- each row's word is of the row's sort
abbrev AreOf : (ℕ → Kind) → (List ℕ → ℕ) → List (List ℕ × Sort) → Type 0
AreOf word_of number_of [] = Unit {0}
AreOf word_of number_of (row ∷ rows) =
    IsOf row.1 (word_of (number_of row.0)) × AreOf word_of number_of rows

among : (word_of : ℕ → Kind) (number_of : List ℕ → ℕ) (rows : List (List ℕ × Sort)) →
    AreOf word_of number_of rows → (number : ℕ) (sort : Sort) →
    sort_among number_of rows number ≡ Some sort → IsOf sort (word_of number)
among word_of number_of [] all number sort found = absurd (none-some sort found)
among word_of number_of (row ∷ rows) all number sort found =
    by (among word_of number_of rows all.1 number sort) (number_of row.0 == number) refl
  where
    by : (sort_among number_of rows number ≡ Some sort → IsOf sort (word_of number)) → (b : Bool) →
        (number_of row.0 == number) ≡ b → IsOf sort (word_of number)
    by behind true same =
        subst (λ s. IsOf s (word_of number))
        (same_Some row.1 sort (sym (cond-true (number_of row.0 == number) (Some row.1)
        (sort_among number_of rows number) same) ∙ found)) (subst (λ n. IsOf row.1 (word_of n))
        (eqb-true (number_of row.0) number same) all.0)
    by behind false other =
        behind (sym (cond-false (number_of row.0 == number) (Some row.1) (sort_among number_of rows
        number) other) ∙ found)

marks_are : AreOf kind.Mark mark_number mark_sorts
marks_are = (
  refl,
  (
    refl,
    (refl, (refl, (refl, (refl, (refl, (refl, (refl, (refl, (refl, (refl, (refl, tt))))))))))),
  ),
)

reserved_are : AreOf kind.Reserved reserved_number reserved_sorts
reserved_are = (
  refl,
  (
    refl,
    (refl, (refl, (refl, (refl, (refl, (refl, (refl, (refl, (refl, (refl, (refl, (refl, tt)))))))))))),
  ),
)

left_out_is : (word : Kind) (text : Option (List ℕ)) → left_out_text word ≡ text →
    IsOf (left_out_or_unused text) word
left_out_is word None is = tt
left_out_is word (Some text) is = is

reserved_is : (number : ℕ) (found : Option Sort) →
    sort_among reserved_number reserved_sorts number ≡ found →
    IsOf (reserved_sort found number) (kind.Reserved number)
reserved_is number (Some sort) found = among kind.Reserved reserved_number reserved_sorts
    reserved_are number sort found
reserved_is number None found = by (is_type_word number) refl
  where
    by : (b : Bool) → is_type_word number ≡ b → IsOf (type_or_else b number) (kind.Reserved number)
    by true is = (refl, is)
    by false is = left_out_is (kind.Reserved number) (text_in reserved_left_out number) refl

operator_is : (number : ℕ) (a : Bool) (b : Option ℕ) → is_unary number ≡ a →
    binary_level number ≡ b → IsOf (operator_sort a b number) (kind.Mark number)
operator_is number true (Some level) one other = (refl, one, other)
operator_is number true None one other = (refl, one)
operator_is number false (Some level) one other = (refl, other)
operator_is number false None one other = left_out_is (kind.Mark number)
    (text_in marks_left_out number) refl

mark_is : (number : ℕ) (found : Option Sort) → sort_among mark_number mark_sorts number ≡ found →
    IsOf (mark_sort found number) (kind.Mark number)
mark_is number (Some sort) found = among kind.Mark mark_number mark_sorts marks_are number sort
    found
mark_is number None found = operator_is number (is_unary number) (binary_level number) refl refl

-- each word is of its sort
pub is_of_sort : (word : Kind) → IsOf (sort_of word) word
is_of_sort (kind.Word text) = refl
is_of_sort (kind.Reserved number) = reserved_is number
    (sort_among reserved_number reserved_sorts number) refl
is_of_sort (kind.Mark number) = mark_is number (sort_among mark_number mark_sorts number) refl
is_of_sort (kind.Int value) = refl
is_of_sort (kind.Real text double) = refl
is_of_sort (kind.Str text) = refl

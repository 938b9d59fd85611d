-- Reading a mark agrees with its definition.
use Rattle.std.proofs.Common.{◌≡◌, ◌≤◌, ◌∙◌, sym, ap, subst, refl, arith, ℕ, Bool, true, false}
use Rattle.std.proofs.Common.{List, [], ◌∷◌, ◌++◌, Option, Some, None, length, encode_utf8_all}
use Rattle.std.specs.List.{list_all}
use Rattle.std.proofs.lemmas.Bool.{cond-true, cond-false, and_parts}
use Rattle.std.proofs.lemmas.List.{append_assoc}
use Rattle.std.proofs.lemmas.Option.{none-some, option_and_then_some, some_pair_parts}
use Rattle.case_table.specs.Tables.{value_of}
use Rattle.mdl_lexer.specs.WordTables.{marks, marks_in_use, marks_left_out}
use Rattle.mdl_lexer.specs.inside.Cutting.{extends_mark}
use Rattle.mdl_lexer.specs.inside.Reading.{◌>>=◌, or_else, front_of}
use Rattle.mdl_lexer.specs.inside.Tokens.{number_in_either, mark_to, one_more, mark_in}
use Rattle.mdl_lexer.proofs.CuttingLaws.{front_taken}
use Rattle.mdl_lexer.proofs.TableLaws.{mark_number, is_mark}

-- a mark, and then the rest
pub record MarkBefore (text : List ℕ) (number : ℕ) (rest : List ℕ) : Type 0 where
  pub form : List ℕ
  pub written : text ≡ form ++ rest
  pub mark : value_of marks form ≡ Some number

-- an end of a text, if there is one
abbrev IsEnd : List ℕ → Option (List ℕ) → Type 0
IsEnd text None = Unit {0}
IsEnd text (Some rest) = (front : List ℕ) × (text ≡ front ++ rest)

-- one more character leads to an end
end_more : (text : List ℕ) (end : Option (List ℕ)) → IsEnd text end → IsEnd text (one_more end)
end_more text None is = tt
end_more text (Some []) is = tt
end_more text (Some (char ∷ rest)) is = by (extends_mark char) refl
  where
    by : (b : Bool) → extends_mark char ≡ b → IsEnd text (one_more (Some (char ∷ rest)))
    by true more =
        subst (IsEnd text) (sym (cond-true (extends_mark char) (Some rest) None more))
        (is.0 ++ char ∷ [], is.1 ∙ sym (append_assoc is.0 (char ∷ []) rest))
    by false more = subst (IsEnd text) (sym (cond-false (extends_mark char) (Some rest) None more)) tt

-- the mark up to an end
mark_to_found : (text : List ℕ) (end : Option (List ℕ)) (number : ℕ) (rest : List ℕ) → IsEnd text end →
    mark_to text end ≡ Some (number, rest) → MarkBefore text number rest
mark_to_found text None number rest is found = absurd (none-some (number, rest) found)
mark_to_found text (Some end) number rest is found =
    option_and_then_some {P = MarkBefore text number rest} (λ (other : ℕ). Some (other, end))
    (number_in_either marks_in_use marks_left_out (encode_utf8_all (front_of text end))) (number, rest) found
    (λ other some same.
    let both = some_pair_parts other number end rest same in
    record {
      form = is.0;
      written = is.1 ∙ ap (λ r. is.0 ++ r) both.1;
      mark =
          ap (value_of marks) (front_taken text is.0 end is.1)
          ∙ (sym (mark_number (front_of text end)) ∙ (some ∙ ap (λ n. Some n) both.0));
    })

-- what one of two gives
of_either : {A P : Type 0} (one other : Option A) (found : A) → or_else one other ≡ Some found →
    (one ≡ Some found → P) → (other ≡ Some found → P) → P
of_either (Some first) other found is left right = left is
of_either None other found is left right = right is

-- what is read is a mark
pub mark_found : (text : List ℕ) (number : ℕ) (rest : List ℕ) → mark_in text ≡ Some (number, rest) →
    MarkBefore text number rest
unfolding mark_in
mark_found [] number rest found = absurd (none-some (number, rest) found)
mark_found (char ∷ one) number rest found =
    of_either (mark_to text four) _ (number, rest) found
    (mark_to_found text four number rest four_is)
    (λ found. of_either (mark_to text three) _ (number, rest) found
    (mark_to_found text three number rest three_is)
    (λ found. of_either (mark_to text two) _ (number, rest) found
    (mark_to_found text two number rest two_is)
    (mark_to_found text (Some one) number rest one_is)))
  where
    text : List ℕ
    text = char ∷ one

    two : Option (List ℕ)
    two = one_more (Some one)

    three : Option (List ℕ)
    three = one_more two

    four : Option (List ℕ)
    four = one_more three

    one_is : IsEnd text (Some one)
    one_is = (char ∷ [], refl)

    two_is : IsEnd text two
    two_is = end_more text (Some one) one_is

    three_is : IsEnd text three
    three_is = end_more text two two_is

    four_is : IsEnd text four
    four_is = end_more text three three_is

-- there is a mark, and its rest isn't longer
abbrev pub MarkBound : Option (ℕ × List ℕ) → List ℕ → Type 0
MarkBound None rest = ⊥
MarkBound (Some found) rest = length found.1 ≤ length rest

-- an end that isn't longer, if there is one
abbrev Short : Option (List ℕ) → List ℕ → Type 0
Short None rest = Unit {0}
Short (Some end) rest = length end ≤ length rest

-- one more character leads to a shorter end
short_more : (end : Option (List ℕ)) (rest : List ℕ) → Short end rest → Short (one_more end) rest
short_more None rest short = tt
short_more (Some []) rest short = tt
short_more (Some (char ∷ end)) rest short = by (extends_mark char) refl
  where
    by : (b : Bool) → extends_mark char ≡ b → Short (one_more (Some (char ∷ end))) rest
    by true more =
        subst (λ o. Short o rest) (sym (cond-true (extends_mark char) (Some end) None more))
        (omega (arith, short))
    by false more = subst (λ o. Short o rest) (sym (cond-false (extends_mark char) (Some end) None more)) tt

-- a shorter end is tried first
bound_later : (text rest : List ℕ) (end : Option (List ℕ)) (other : Option (ℕ × List ℕ)) → Short end rest →
    MarkBound other rest → MarkBound (or_else (mark_to text end) other) rest
bound_later text rest None other short bound = bound
bound_later text rest (Some end) other short bound =
    by (number_in_either marks_in_use marks_left_out (encode_utf8_all (front_of text end)))
  where
    by : (o : Option ℕ) → MarkBound (or_else (o >>= λ number. Some (number, end)) other) rest
    by None = bound
    by (Some number) = short

-- the mark up to this rest is one
mark_here : (form rest : List ℕ) (number : ℕ) (end : Option (List ℕ)) → value_of marks form ≡ Some number →
    end ≡ Some rest → mark_to (form ++ rest) end ≡ Some (number, rest)
mark_here form rest number end found is =
    ap (mark_to (form ++ rest)) is
    ∙ ap (λ (o : Option ℕ). o >>= λ found. Some (found, rest))
    (mark_number (front_of (form ++ rest) rest)
    ∙ (ap (value_of marks) (sym (front_taken (form ++ rest) form rest refl)) ∙ found))

-- it is tried before other marks
bound_here : (form rest : List ℕ) (number : ℕ) (end : Option (List ℕ)) (other : Option (ℕ × List ℕ)) →
    value_of marks form ≡ Some number → end ≡ Some rest →
    MarkBound (or_else (mark_to (form ++ rest) end) other) rest
bound_here form rest number end other found is =
    subst (λ (o : Option (ℕ × List ℕ)). MarkBound (or_else o other) rest)
    (sym (mark_here form rest number end found is)) (omega arith)

-- one more character is dropped
more_is : (end : Option (List ℕ)) (char : ℕ) (rest : List ℕ) → end ≡ Some (char ∷ rest) →
    extends_mark char ≡ true → one_more end ≡ Some rest
more_is end char rest is extends = ap one_more is ∙ cond-true (extends_mark char) (Some rest) None extends

-- an end that is this rest is short
short_is : (end : Option (List ℕ)) (rest : List ℕ) → end ≡ Some rest → Short end rest
short_is end rest is = subst (λ o. Short o rest) (sym is) (omega arith)

-- a mark at the front, or a longer one, is found, by how many characters follow its first one
bound_by : (first : ℕ) (others rest : List ℕ) (number : ℕ) → list_all extends_mark others ≡ true →
    length others ≤ 3 → value_of marks (first ∷ others) ≡ Some number →
    MarkBound (mark_in ((first ∷ others) ++ rest)) rest
unfolding mark_in
bound_by first [] rest number extend few mark =
    let two = one_more (Some rest) in
    let three = one_more two in
    let short_two : Short two rest = short_more (Some rest) rest (omega arith) in
    let short_three : Short three rest = short_more two rest short_two in
    bound_later (first ∷ rest) rest (one_more three) _ (short_more three rest short_three)
    (bound_later (first ∷ rest) rest three _ short_three
    (bound_later (first ∷ rest) rest two _ short_two
    (subst (λ o. MarkBound o rest) (sym (mark_here (first ∷ []) rest number (Some rest) mark refl))
    (omega arith))))
bound_by first (second ∷ []) rest number extend few mark =
    let text = first ∷ second ∷ rest in
    let two = one_more (Some (second ∷ rest)) in
    let three = one_more two in
    let two_is : two ≡ Some rest =
    more_is (Some (second ∷ rest)) second rest refl (and_parts (extends_mark second) true extend).0 in
    let short_three : Short three rest = short_more two rest (short_is two rest two_is) in
    bound_later text rest (one_more three) _ (short_more three rest short_three)
    (bound_later text rest three _ short_three
    (bound_here (first ∷ second ∷ []) rest number two _ mark two_is))
bound_by first (second ∷ third ∷ []) rest number extend few mark =
    let text = first ∷ second ∷ third ∷ rest in
    let two = one_more (Some (second ∷ third ∷ rest)) in
    let three = one_more two in
    let both = and_parts (extends_mark second) (list_all extends_mark (third ∷ [])) extend in
    let two_is : two ≡ Some (third ∷ rest) =
    more_is (Some (second ∷ third ∷ rest)) second (third ∷ rest) refl both.0 in
    let three_is : three ≡ Some rest =
    more_is two third rest two_is (and_parts (extends_mark third) true both.1).0 in
    bound_later text rest (one_more three) _ (short_more three rest (short_is three rest three_is))
    (bound_here (first ∷ second ∷ third ∷ []) rest number three _ mark three_is)
bound_by first (second ∷ third ∷ fourth ∷ []) rest number extend few mark =
    let two = one_more (Some (second ∷ third ∷ fourth ∷ rest)) in
    let three = one_more two in
    let both = and_parts (extends_mark second) (list_all extends_mark (third ∷ fourth ∷ [])) extend in
    let later = and_parts (extends_mark third) (list_all extends_mark (fourth ∷ [])) both.1 in
    let two_is : two ≡ Some (third ∷ fourth ∷ rest) =
    more_is (Some (second ∷ third ∷ fourth ∷ rest)) second (third ∷ fourth ∷ rest) refl both.0 in
    let three_is : three ≡ Some (fourth ∷ rest) = more_is two third (fourth ∷ rest) two_is later.0 in
    let four_is : one_more three ≡ Some rest =
    more_is three fourth rest three_is (and_parts (extends_mark fourth) true later.1).0 in
    bound_here (first ∷ second ∷ third ∷ fourth ∷ []) rest number (one_more three) _ mark four_is
bound_by first (second ∷ third ∷ fourth ∷ fifth ∷ others) rest number extend few mark =
    absurd (omega (arith, few))

-- a mark at the front is found, or a longer one
pub mark_bound : (form rest : List ℕ) (number : ℕ) → value_of marks form ≡ Some number →
    MarkBound (mark_in (form ++ rest)) rest
mark_bound form rest number found =
    let parts = is_mark form number found in
    subst (λ f. MarkBound (mark_in (f ++ rest)) rest) (sym parts.written)
    (bound_by parts.first parts.others rest number parts.extend parts.few
    (ap (value_of marks) (sym parts.written) ∙ found))

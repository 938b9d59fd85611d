-- Laws of cutting texts.
use Rattle.std.proofs.Common.{◌≤◌, ◌<◌, ◌≡◌, ◌-◌, ◌∙◌, sym, ap, subst, refl, arith, ℕ, Bool, true, false}
use Rattle.std.proofs.Common.{List, [], ◌∷◌, ◌++◌, chars, length, take, IsUtf8, IsCharBoundary}
use Rattle.std.proofs.Common.{Result, Ok, Err, IfOk}
use Rattle.std.specs.Borrow.{Bor}
use Rattle.std.proofs.lemmas.Bool.{cond-true, cond-false}
use Rattle.std.proofs.lemmas.List.{length-append, append_assoc, take_at}
use Rattle.std.proofs.lemmas.Str.{chars-nil, chars-append, IsUtf8-nil, IsUtf8-append, IsCharBoundary-at_seam}
use Rattle.mdl_lexer.specs.inside.Cutting.{drop_while, IsFirst, IsRest}
use Rattle.mdl_lexer.specs.inside.Reading.{front_of}

-- a text without bytes has no characters
pub none_left : (text rest : List ℕ) → rest ≡ text → length rest ≡ 0 → chars text ≡ []
none_left text [] same none = ap chars (sym same) ∙ chars-nil
none_left text (byte ∷ rest) same none = absurd (omega (arith, none))

-- a first character that passes is dropped
pub dropped_one : (class : ℕ → Bool) (text : List ℕ) (char : ℕ) (behind : List ℕ) →
    IsFirst text char behind → class char ≡ true →
    drop_while class (chars text) ≡ drop_while class (chars behind)
dropped_one class text char behind first passes =
    ap (drop_while class) first.characters
    ∙ cond-true (class char) (drop_while class (chars behind)) (char ∷ chars behind) passes

-- one that doesn't stays
pub dropped_none : (class : ℕ → Bool) (text : List ℕ) (char : ℕ) (behind : List ℕ) →
    IsFirst text char behind → class char ≡ false → drop_while class (chars text) ≡ chars text
dropped_none class text char behind first fails =
    ap (drop_while class) first.characters
    ∙ (cond-false (class char) (drop_while class (chars behind)) (char ∷ chars behind) fails
    ∙ sym first.characters)

pub dropped_end : (class : ℕ → Bool) (text : List ℕ) → text ≡ [] → drop_while class text ≡ text
dropped_end class text end = ap (drop_while class) end ∙ sym end

-- a text is a rest of itself
pub whole_rest : (text : List ℕ) → IsUtf8 text → IsRest text text
whole_rest text is_text = record { front = []; written = refl; is_text = IsUtf8-nil; rest_is_text = is_text }

-- a rest of a rest is one
pub rest_of_rest : (text rest last : List ℕ) → IsRest text rest → IsRest rest last → IsRest text last
rest_of_rest text rest last a b =
    record {
      front = a.front ++ b.front;
      written = a.written ∙ (ap (λ r. a.front ++ r) b.written ∙ sym (append_assoc a.front b.front last));
      is_text = IsUtf8-append a.front b.front a.is_text b.is_text;
      rest_is_text = b.rest_is_text;
    }

-- a text may be cut before a rest of it
pub cut_before : (text rest : List ℕ) → IsRest text rest → IsUtf8 rest →
    IsCharBoundary text (length text - length rest)
cut_before text rest is_rest is_text =
    subst (IsCharBoundary text)
    (omega (arith, ap length is_rest.written, length-append is_rest.front rest))
    (IsCharBoundary-at_seam text is_rest.front rest is_rest.written is_text)

-- what is cut off there is the front
pub front_is : (text rest front : List ℕ) → IsRest text rest →
    front ≡ take (length text - length rest) text →
    (text ≡ front ++ rest) × (chars text ≡ chars front ++ chars rest)
front_is text rest front is_rest cut =
    let n : length text - length rest ≡ length is_rest.front =
    omega (arith, ap length is_rest.written, length-append is_rest.front rest) in
    let same : front ≡ is_rest.front = cut ∙ (ap (λ k. take k text) n
    ∙ (ap (take (length is_rest.front)) is_rest.written
    ∙ take_at is_rest.front rest (length is_rest.front) refl)) in
    let written : text ≡ front ++ rest = is_rest.written ∙ ap (λ f. f ++ rest) (sym same) in (
      written,
      ap chars is_rest.written ∙ (chars-append is_rest.front rest is_rest.is_text
          ∙ ap (λ f. chars f ++ chars rest) (sym same)),
    )

-- what stands before the end of a list
pub front_taken : (text front rest : List ℕ) → text ≡ front ++ rest → front ≡ front_of text rest
front_taken text front rest written =
    let n : length text - length rest ≡ length front =
    omega (arith, ap length written, length-append front rest) in
    sym (ap (λ k. take k text) n ∙ (ap (take (length front)) written
    ∙ take_at front rest (length front) refl))

-- a rest isn't longer
pub rest_length : (text rest : List ℕ) → IsRest text rest → length rest ≤ length text
rest_length text rest is_rest = omega (arith, ap length is_rest.written, length-append is_rest.front rest)

-- a rest of what is shorter is shorter
pub rest_shorter_than : (whole text rest : List ℕ) → length text < length whole → IsRest text rest →
    length rest < length whole
rest_shorter_than whole text rest less is_rest = omega (arith, less, rest_length text rest is_rest)

-- what is found behind a rest is found behind the text
pub ok_rest : {X E : Type 0} (text mid : List ℕ) (found : Result (X × Bor (List ℕ)) E) → IsRest text mid →
    IfOk found (λ word. IsRest mid word.1.now) → IfOk found (λ word. IsRest text word.1.now)
ok_rest text mid (Ok word) first rest = rest_of_rest text mid word.1.now first rest
ok_rest text mid (Err error) first rest = rest

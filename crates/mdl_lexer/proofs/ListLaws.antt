-- Laws of lists that are cut in front of a character.
use Rattle.std.proofs.Common.{◌≡◌, ◌≤◌, ◌∙◌, sym, ap, refl, arith, ℕ, Bool, true, false, List, [], ◌∷◌}
use Rattle.std.proofs.Common.{◌++◌, length, ◌&&◌}
use Rattle.std.specs.List.{list_all}
use Rattle.std.proofs.lemmas.Bool.{cond-true, cond-false, and_parts}
use Rattle.mdl_lexer.specs.inside.Cutting.{drop_while, begins}

-- the list is empty
abbrev pub is_nothing : List ℕ → Bool
is_nothing [] = true
is_nothing (char ∷ text) = false

-- what is of the class is dropped
pub drop_front : (class : ℕ → Bool) (front text : List ℕ) → list_all class front ≡ true →
    drop_while class (front ++ text) ≡ drop_while class text
drop_front class [] text all = refl
drop_front class (char ∷ front) text all =
    let both = and_parts (class char) (list_all class front) all in
    cond-true (class char) (drop_while class (front ++ text)) (char ∷ (front ++ text)) both.0
    ∙ drop_front class front text both.1

-- nothing is dropped where the first character isn't of the class
pub drop_none : (class : ℕ → Bool) (text : List ℕ) → begins class text ≡ false → drop_while class text ≡ text
drop_none class [] other = refl
drop_none class (char ∷ text) other = cond-false (class char) (drop_while class text) (char ∷ text) other

-- what is left isn't longer
pub dropped_length : (class : ℕ → Bool) (text : List ℕ) → length (drop_while class text) ≤ length text
dropped_length class [] = omega arith
dropped_length class (char ∷ text) = by (class char) refl (dropped_length class text)
  where
    by : (b : Bool) → class char ≡ b → length (drop_while class text) ≤ length text →
        length (drop_while class (char ∷ text)) ≤ length (char ∷ text)
    by true is less = omega (
      arith,
      less,
      ap length (cond-true (class char) (drop_while class text) (char ∷
          text) is),
    )
    by false is less = omega (
      arith,
      ap length (cond-false (class char) (drop_while class text) (char ∷ text)
          is),
    )

abbrev pub tail_of : List ℕ → List ℕ
tail_of [] = []
tail_of (char ∷ text) = text

-- the first character, or another where there is none
abbrev pub head_or : ℕ → List ℕ → ℕ
head_or other [] = other
head_or other (char ∷ text) = char

-- two fronts of a text of one length are equal, and so are the rests
pub same_front : (front rest other behind : List ℕ) → front ++ rest ≡ other ++ behind →
    length front ≡ length other →
    (front ≡ other) × (rest ≡ behind)
same_front [] rest [] behind same size = (refl, same)
same_front [] rest (char ∷ other) behind same size = absurd (omega (arith, size))
same_front (char ∷ front) rest [] behind same size = absurd (omega (arith, size))
same_front (char ∷ front) rest (found ∷ other) behind same size =
    let both = same_front front rest other behind (ap tail_of same) (omega (arith, size)) in
    (ap (λ c. c ∷ front) (ap (head_or char) same) ∙ ap (λ f. found ∷ f) both.0, both.1)

-- all is of the class exactly where nothing is left
pub dropped_all : (class : ℕ → Bool) (text : List ℕ) →
    list_all class text ≡ is_nothing (drop_while class text)
dropped_all class [] = refl
dropped_all class (char ∷ text) = by (class char) refl (dropped_all class text)
  where
    by : (b : Bool) → class char ≡ b → list_all class text ≡ is_nothing (drop_while class text) →
        list_all class (char ∷ text) ≡ is_nothing (drop_while class (char ∷ text))
    by true is later =
        ap (λ (b : Bool). b && list_all class text) is
        ∙ (later ∙ sym (ap is_nothing (cond-true (class char) (drop_while class text) (char ∷ text) is)))
    by false is later =
        ap (λ (b : Bool). b && list_all class text) is
        ∙ sym (ap is_nothing (cond-false (class char) (drop_while class text) (char ∷ text) is))

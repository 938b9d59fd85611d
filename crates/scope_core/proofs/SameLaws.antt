-- Types are equal where the test for it says so.
use Rattle.std.proofs.Common.{◌≡◌, ◌∙◌, ◌&&◌, ◌<◌, ◌++◌, ◌∷◌, [], ℕ, Bool, true, false, List, Some}
use Rattle.std.proofs.Common.{length, slice_index_or, ltb, refl, sym, ap, subst, arith}
use Rattle.std.specs.List.{list_any}
use Rattle.std.specs.Bool.{Decides}
use Rattle.std.specs.Str.{bytes_eq}
use Rattle.std.specs.Cmp.Lexicographic.{pointwise, pointwise_decides, bytes_decides}
use Rattle.std.proofs.lemmas.Bool.{false≢true, eqb-true, eq-eqb, and_parts, cond_both, ltb-true, ltb-false}
use Rattle.std.proofs.lemmas.List.{get_or_append_left, get_or_push, length_push}
use Rattle.std.proofs.lemmas.Option.{slice_get-get_or}
use Rattle.case_table.specs.Lists.{Tells, with_first}
use Rattle.case_table.specs.ListLaws.{list_any-slice_get}
use Rattle.type_rules.specs.declared.ty.Ty.{Ty}
use Rattle.type_rules.specs.declared.ty.Shape.{Shape}
use Rattle.type_rules.specs.declared.ty.Shape.TheVariants.{One, Sized, AnySize}
use Rattle.type_rules.specs.contracts.ty.ShapePartialEq.TheImpl as shape
use Rattle.type_rules.specs.contracts.ty.TyPartialEq.TheImpl as ty
use Rattle.type_rules.specs.Same.{same_shape, same_type}

same_shape-itself : (shape : Shape) → same_shape shape shape ≡ true
same_shape-itself One = refl
same_shape-itself (Sized count) = eq-eqb count count refl
same_shape-itself AnySize = refl

same_shape-only : (one other : Shape) → same_shape one other ≡ true → one ≡ other
same_shape-only One One same = refl
same_shape-only (Sized count) (Sized other) same = ap Sized (eqb-true count other same)
same_shape-only AnySize AnySize same = refl
same_shape-only One (Sized other) same = absurd (false≢true same)
same_shape-only One AnySize same = absurd (false≢true same)
same_shape-only (Sized count) One same = absurd (false≢true same)
same_shape-only (Sized count) AnySize same = absurd (false≢true same)
same_shape-only AnySize One same = absurd (false≢true same)
same_shape-only AnySize (Sized other) same = absurd (false≢true same)

pub type-decides : (one other : Ty) → Decides (same_type one other) (one ≡ other)
type-decides one other = (only, λ is. ap (same_type one) (sym is) ∙ itself)
  where
    itself : same_type one one ≡ true
    itself = λ k. (bytes_decides one.name one.name).1 refl k && same_shape-itself one.shape k

    only : same_type one other ≡ true → one ≡ other
    only same =
        let parts = and_parts (bytes_eq one.name other.name) (same_shape one.shape other.shape) same in
        λ k. record {
          name = (bytes_decides one.name other.name).0 parts.0 k;
          shape = same_shape-only one.shape other.shape parts.1 k;
        }

-- lists of types are equal where their types are
pub types-decide : (one other : List Ty) → Decides (pointwise same_type one other) (one ≡ other)
types-decide one other = pointwise_decides type-decides one other

shapes-as : (one other : Shape) → (shape.ghosts).eq one other ≡ same_shape one other
shapes-as One One = refl
shapes-as (Sized count) (Sized other) = refl
shapes-as AnySize AnySize = refl
shapes-as _ _ = refl

-- the program's own test is this one
pub test-as : (ty.ghosts).eq ≡ same_type
test-as = λ i one other. bytes_eq one.name other.name && shapes-as one.shape other.shape i

pub held-decide : (one other : List Ty) → Decides (pointwise (ty.ghosts).eq one other) (one ≡ other)
held-decide one other =
    subst (λ (same : Ty → Ty → Bool). Decides (pointwise same one other) (one ≡ other)) (sym test-as)
    (types-decide one other)

held-tell : Tells (pointwise (ty.ghosts).eq)
held-tell = record {
  itself = λ types. (held-decide types types).1 refl;
  only = λ one other same. (held-decide one other).0 same;
}

-- one more list where it is none of those that are there
pub apart-more : (keys now : List (List Ty)) (types : List Ty) → now ≡ with_first (pointwise (ty.ghosts).eq) keys types
    → ((i j : ℕ) → i < length keys → j < length keys → slice_index_or keys i [] ≡ slice_index_or keys j [] → i ≡ j)
    → (i j : ℕ) → i < length now → j < length now → slice_index_or now i [] ≡ slice_index_or now j [] → i ≡ j
apart-more keys now types is apart =
    subst Apart (sym is)
    (cond_both (list_any (pointwise (ty.ghosts).eq types) keys) keys (keys ++ types ∷ []) Apart (λ known. apart) new)
  where
    Apart : List (List Ty) → Type 0
    Apart keys =
        (i j : ℕ) → i < length keys → j < length keys → slice_index_or keys i [] ≡ slice_index_or keys j [] → i ≡ j

    absent : list_any (pointwise (ty.ghosts).eq types) keys ≡ false → (i : ℕ) → i < length keys
        → slice_index_or keys i [] ≡ types → ⊥
    absent none i inside same =
        false≢true (sym none
        ∙ list_any-slice_get (pointwise (ty.ghosts).eq) held-tell keys types i
        (slice_get-get_or keys i [] inside ∙ ap Some same))

    new : list_any (pointwise (ty.ghosts).eq types) keys ≡ false → Apart (keys ++ types ∷ [])
    new none i j i_in j_in same = by (ltb i (length keys)) refl (ltb j (length keys)) refl
      where
        by : (b : Bool) → ltb i (length keys) ≡ b → (c : Bool) → ltb j (length keys) ≡ c → i ≡ j
        by true i_is true j_is =
            let i_old = ltb-true i (length keys) i_is in
            let j_old = ltb-true j (length keys) j_is in
            apart i j i_old j_old
            (sym (get_or_append_left keys (types ∷ []) [] i i_old) ∙ same
            ∙ get_or_append_left keys (types ∷ []) [] j j_old)
        by true i_is false j_is =
            let i_old = ltb-true i (length keys) i_is in
            let last : length keys ≡ j = omega (arith, ltb-false j (length keys) j_is, j_in, length_push keys types) in
            absurd (absent none i i_old
            (sym (get_or_append_left keys (types ∷ []) [] i i_old) ∙ same ∙ get_or_push keys types [] j last))
        by false i_is true j_is =
            let j_old = ltb-true j (length keys) j_is in
            let last : length keys ≡ i = omega (arith, ltb-false i (length keys) i_is, i_in, length_push keys types) in
            absurd (absent none j j_old
            (sym (get_or_append_left keys (types ∷ []) [] j j_old) ∙ sym same ∙ get_or_push keys types [] i last))
        by false i_is false j_is = omega (
          arith,
          ltb-false i (length keys) i_is,
          ltb-false j (length keys) j_is,
          i_in,
          j_in,
          length_push keys types,
        )

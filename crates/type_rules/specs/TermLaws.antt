-- Laws of the equality of symbols and terms, and of lists of terms.
use Rattle.std.specs.Prelude.{◌≡◌, ℕ, ◌&&◌, Bool, true, false, List, [], ◌∷◌, nat_eq}
use Rattle.std.specs.Bool.{Decides}
use Rattle.std.specs.Str.{bytes_eq}
use Rattle.std.specs.Cmp.Lexicographic.{pointwise, pointwise_decides, bytes_decides}
use Rattle.std.proofs.Common.{refl, ap, subst, eq-eqb}
use Rattle.std.proofs.lemmas.Bool.{false≢true, and_parts, and_from, eqb-true}
use Rattle.case_table.specs.Lists.{Tells}
use Rattle.type_rules.specs.declared.ty.Ty.{Ty}
use Rattle.type_rules.specs.declared.ty.Shape.{Shape}
use Rattle.type_rules.specs.declared.ty.Shape.TheVariants.{One, Sized, AnySize}
use Rattle.type_rules.specs.declared.ty.Arg.{Arg}
use Rattle.type_rules.specs.declared.symbol.Symbol.{Symbol}
use Rattle.type_rules.specs.declared.symbol.Symbol.TheVariants as symbol
use Rattle.type_rules.specs.Terms.{Term, Terms, apply, nil, cons, list_of, terms_from}
use Rattle.type_rules.specs.Same.{same_bool, same_shape, same_type, same_arg, same_symbol}
use Rattle.type_rules.specs.Same.{same_term, same_terms}

bytes_eq-itself : (a : List ℕ) → bytes_eq a a ≡ true
bytes_eq-itself a = (bytes_decides a a).1 refl

bytes_eq-only : (a b : List ℕ) → bytes_eq a b ≡ true → a ≡ b
bytes_eq-only a b = (bytes_decides a b).0

same_bool-itself : (a : Bool) → same_bool a a ≡ true
same_bool-itself true = refl
same_bool-itself false = refl

same_bool-only : (a b : Bool) → same_bool a b ≡ true → a ≡ b
same_bool-only true true h = refl
same_bool-only true false h = absurd (false≢true h)
same_bool-only false true h = absurd (false≢true h)
same_bool-only false false h = refl

same_shape-itself : (a : Shape) → same_shape a a ≡ true
same_shape-itself One = refl
same_shape-itself (Sized a) = eq-eqb a a refl
same_shape-itself AnySize = refl

same_shape-only : (a b : Shape) → same_shape a b ≡ true → a ≡ b
same_shape-only One One h = refl
same_shape-only (Sized a) (Sized b) h = ap Sized (eqb-true a b h)
same_shape-only AnySize AnySize h = refl
same_shape-only _ _ h = absurd (false≢true h)

-- the test of types is true of a type and itself
pub same_type-itself : (a : Ty) → same_type a a ≡ true
same_type-itself a = and_from _ _ (bytes_eq-itself a.name) (same_shape-itself a.shape)

-- the test of types is true of equal types alone
pub same_type-only : (a b : Ty) → same_type a b ≡ true → a ≡ b
same_type-only a b h =
    let both = and_parts (bytes_eq a.name b.name) (same_shape a.shape b.shape) h in
    let name : a.name ≡ b.name = bytes_eq-only a.name b.name both.0 in
    let shape : a.shape ≡ b.shape = same_shape-only a.shape b.shape both.1 in
    λ i. record { name = name i; shape = shape i }

same_arg-itself : (a : Arg) → same_arg a a ≡ true
same_arg-itself a = and_from _ _ (same_type-itself a.ty) (same_bool-itself a.uniform)

same_arg-only : (a b : Arg) → same_arg a b ≡ true → a ≡ b
same_arg-only a b h =
    let both = and_parts (same_type a.ty b.ty) (same_bool a.uniform b.uniform) h in
    let ty : a.ty ≡ b.ty = same_type-only a.ty b.ty both.0 in
    let uniform : a.uniform ≡ b.uniform = same_bool-only a.uniform b.uniform both.1 in
    λ i. record { ty = ty i; uniform = uniform i }

same_args-decides : (xs ys : List Arg) → Decides (pointwise same_arg xs ys) (xs ≡ ys)
same_args-decides =
    pointwise_decides (λ a b.
    (same_arg-only a b, λ e. subst (λ c. same_arg a c ≡ true) e (same_arg-itself a)))

same_args-itself : (xs : List Arg) → pointwise same_arg xs xs ≡ true
same_args-itself xs = (same_args-decides xs xs).1 refl

-- the test of symbols is true of a symbol and itself
pub same_symbol-itself : (a : Symbol) → same_symbol a a ≡ true
same_symbol-itself (symbol.Bool a) = same_bool-itself a
same_symbol-itself (symbol.Int a) = eq-eqb a a refl
same_symbol-itself (symbol.Real a d) = and_from _ _ (bytes_eq-itself a) (same_bool-itself d)
same_symbol-itself (symbol.Str a) = bytes_eq-itself a
same_symbol-itself (symbol.EnumValue t a) = and_from _ _ (bytes_eq-itself t) (bytes_eq-itself a)
same_symbol-itself (symbol.Param k t u) =
    and_from _ _ (eq-eqb k k refl) (and_from _ _ (same_type-itself t) (same_bool-itself u))
same_symbol-itself (symbol.Op f args r v) =
    let own = and_from (same_type r r) (same_bool v v) (same_type-itself r) (same_bool-itself v) in
    and_from _ _ (bytes_eq-itself f) (and_from _ _ (same_args-itself args) own)

-- the test of symbols is true of equal symbols alone
pub same_symbol-only : (a b : Symbol) → same_symbol a b ≡ true → a ≡ b
same_symbol-only (symbol.Bool a) (symbol.Bool b) h = ap symbol.Bool (same_bool-only a b h)
same_symbol-only (symbol.Int a) (symbol.Int b) h = ap symbol.Int (eqb-true a b h)
same_symbol-only (symbol.Real a d) (symbol.Real b e) h =
    let both = and_parts (bytes_eq a b) (same_bool d e) h in
    λ i. symbol.Real (bytes_eq-only a b both.0 i) (same_bool-only d e both.1 i)
same_symbol-only (symbol.Str a) (symbol.Str b) h = ap symbol.Str (bytes_eq-only a b h)
same_symbol-only (symbol.EnumValue t a) (symbol.EnumValue u b) h =
    let both = and_parts (bytes_eq t u) (bytes_eq a b) h in
    λ i. symbol.EnumValue (bytes_eq-only t u both.0 i) (bytes_eq-only a b both.1 i)
same_symbol-only (symbol.Param k t u) (symbol.Param l v w) h =
    let both = and_parts (nat_eq k l) (same_type t v && same_bool u w) h in
    let marks = and_parts (same_type t v) (same_bool u w) both.1 in
    let ty : t ≡ v = same_type-only t v marks.0 in
    λ i. symbol.Param (eqb-true k l both.0 i) (ty i) (same_bool-only u w marks.1 i)
same_symbol-only (symbol.Op f args r v) (symbol.Op g brgs s w) h =
    let rest = pointwise same_arg args brgs && (same_type r s && same_bool v w) in
    let name = and_parts (bytes_eq f g) rest h in
    let list = and_parts (pointwise same_arg args brgs) (same_type r s && same_bool v w) name.1 in
    let marks = and_parts (same_type r s) (same_bool v w) list.1 in
    let same_list : args ≡ brgs = (same_args-decides args brgs).0 list.0 in
    let ty : r ≡ s = same_type-only r s marks.0 in
    λ i. symbol.Op (bytes_eq-only f g name.0 i) (same_list i) (ty i) (same_bool-only v w marks.1 i)
same_symbol-only _ _ h = absurd (false≢true h)

-- the test of symbols tells equal symbols
pub same_symbol-tells : Tells same_symbol
same_symbol-tells = record { itself = same_symbol-itself; only = same_symbol-only }

mutual
  -- the test of terms is true of a term and itself
  pub same_term-itself : (a : Term) → same_term a a ≡ true
  same_term-itself (apply a ts) = and_from _ _ (same_symbol-itself a) (same_terms-itself ts)

  pub same_terms-itself : (ts : Terms) → same_terms ts ts ≡ true
  same_terms-itself nil = refl
  same_terms-itself (cons t ts) = and_from _ _ (same_term-itself t) (same_terms-itself ts)

mutual
  -- the test of terms is true of equal terms alone
  pub same_term-only : (a b : Term) → same_term a b ≡ true → a ≡ b
  same_term-only (apply a ts) (apply b us) h =
      let both = and_parts (same_symbol a b) (same_terms ts us) h in
      λ i. apply (same_symbol-only a b both.0 i) (same_terms-only ts us both.1 i)

  pub same_terms-only : (ts us : Terms) → same_terms ts us ≡ true → ts ≡ us
  same_terms-only nil nil h = refl
  same_terms-only nil (cons u us) h = absurd (false≢true h)
  same_terms-only (cons t ts) nil h = absurd (false≢true h)
  same_terms-only (cons t ts) (cons u us) h =
      let both = and_parts (same_term t u) (same_terms ts us) h in
      λ i. cons (same_term-only t u both.0 i) (same_terms-only ts us both.1 i)

-- the test of terms tells equal terms
pub same_term-tells : Tells same_term
same_term-tells = record { itself = same_term-itself; only = same_term-only }

-- a list, made kids and read again, is that list
pub list_of-terms_from : (ts : List Term) → list_of (terms_from ts) ≡ ts
list_of-terms_from [] = refl
list_of-terms_from (t ∷ ts) = ap (λ rest. t ∷ rest) (list_of-terms_from ts)

-- kids, read as a list and made again, are those kids
pub terms_from-list_of : (ts : Terms) → terms_from (list_of ts) ≡ ts
terms_from-list_of nil = refl
terms_from-list_of (cons t ts) = ap (cons t) (terms_from-list_of ts)

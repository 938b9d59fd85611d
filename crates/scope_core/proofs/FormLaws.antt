-- Laws of the bases of a module by their names.
use Rattle.std.proofs.Common.{◌≡◌, ◌∙◌, ◌++◌, ◌∷◌, ◌+◌, ◌==◌, [], ℕ, zero, suc, Bool, true, false, List}
use Rattle.std.proofs.Common.{Option, Some, None, length, slice_get, slice_index_or, not, refl, sym, ap, subst, arith}
use Rattle.std.specs.List.{list_any}
use Rattle.std.specs.Bool.{beq}
use Rattle.std.specs.Cmp.Lexicographic.{pointwise, pointwise_decides, bytes_decides}
use Rattle.std.proofs.lemmas.Bool.{and_parts, false≢true}
use Rattle.std.proofs.lemmas.List.{length_push}
use Rattle.std.proofs.lemmas.Option.{same_Some, none-some}
use Rattle.case_table.specs.Lists.{with_first}
use Rattle.case_table.specs.ListLaws.{slice_get-with_first_kept, with_first-known, with_first-new}
use Rattle.mdl_syntax.specs.declared.names.NameForm.{NameForm}
use Rattle.mdl_syntax.specs.declared.names.NameForm.TheVariants as form
use Rattle.module_set.specs.declared.module_name.ModuleName.{ModuleName}
use Rattle.scope_core.specs.declared.bases.Base.{Base}
use Rattle.scope_core.specs.declared.bases.Bases.{Bases}
use Rattle.scope_tables.specs.declared.declared.Takes as held_takes
use Rattle.scope_tables.specs.declared.declared.Takes.TheVariants as held
use Rattle.scope_tables.specs.declared.tables.Table.{Table}
use Rattle.scope_tables.specs.inside.Finding.{found_places, parts_places}
use Rattle.scope_core.specs.inside.Based.{Form, same_form, form_in, form_of, IsBase, AreForms, NotesBase}
use Rattle.scope_core.specs.inside.Based.{AreNotedBases, AreBasesOf, IsBaseOf, base_in}

from-not : (one other : Bool) → not one ≡ other → one ≡ not other
from-not true other is = ap not is
from-not false other is = ap not is

beq-only : (one other : Bool) → beq one other ≡ true → one ≡ other
beq-only true true same = refl
beq-only false false same = refl
beq-only true false same = absurd (false≢true same)
beq-only false true same = absurd (false≢true same)

pub same_form-only : (one other : Form) → same_form one other ≡ true → one ≡ other
same_form-only one other same =
    let parts = and_parts (beq one.0 other.0) (pointwise (pointwise ◌==◌) one.1 other.1) same in
    λ k. (
      beq-only one.0 other.0 parts.0 k,
      (pointwise_decides bytes_decides one.1 other.1).0 parts.1 k,
    )

-- one more on both sides
pushed : (P : Form → Base → Type 0) (forms : List Form) (bases : List Base) (form : Form) (base : Base)
    → length bases ≡ length forms
    → ((n : ℕ) (one : Form) (kept : Base) → slice_get forms n ≡ Some one → slice_get bases n ≡ Some kept → P one kept)
    → P form base → (n : ℕ) (one : Form) (kept : Base) → slice_get (forms ++ form ∷ []) n ≡ Some one
    → slice_get (bases ++ base ∷ []) n ≡ Some kept → P one kept
pushed P [] [] form base long are last zero one kept at there =
    subst (λ f. P f kept) (same_Some form one at) (subst (P form) (same_Some base kept there) last)
pushed P [] [] form base long are last (suc n) one kept at there = absurd (none-some one at)
pushed P [] (other ∷ bases) form base long are last n one kept at there = absurd (omega (arith, long))
pushed P (other ∷ forms) [] form base long are last n one kept at there = absurd (omega (arith, long))
pushed P (first ∷ forms) (own ∷ bases) form base long are last zero one kept at there = are 0 one kept at there
pushed P (first ∷ forms) (own ∷ bases) form base long are last (suc n) one kept at there =
    pushed P forms bases form base (omega (arith, long)) (λ n one kept at there. are (suc n) one kept at there) last n
    one kept at there

forms-stay : (old new : List Form) (form : Form) → new ≡ with_first same_form old form → (n : ℕ) (one : Form)
    → slice_get old n ≡ Some one → slice_get new n ≡ Some one
forms-stay old new form is n one at =
    ap (λ l. slice_get l n) is ∙ slice_get-with_first_kept same_form old form n one at

numbered : (takes : held_takes.Takes) (new : List Form) (form : Form) (number : ℕ) → form_of takes ≡ Some form
    → slice_get new number ≡ Some form → (n : ℕ) → Some number ≡ Some n
    → (one : Form) × (form_of takes ≡ Some one) × (slice_get new n ≡ Some one)
numbered takes new form number of at n same =
    (form, of, subst (λ k. slice_get new k ≡ Some form) (same_Some number n same) at)

-- a name that wasn't noted before
pub notes-fresh : (names : List ModuleName) (tables : List Table) (m : ℕ) (takes : held_takes.Takes)
    (old new : List Form) (bases after : List Base) (form : Form) (base : Base) (number : ℕ)
    → form_of takes ≡ Some form → new ≡ with_first same_form old form → not (list_any (same_form form) old) ≡ true
    → slice_get new number ≡ Some form → IsBase tables m (parts_places names tables m form.0 form.1 false) base
    → after ≡ bases ++ base ∷ [] → NotesBase names tables m takes old bases (Some number) new after
notes-fresh names tables m takes old new bases after form base number of is none at based later = record {
  notes = λ are. record {
    long =
        ap length later ∙ length_push bases base ∙ ap (λ n. n + 1) are.long ∙ sym (length_push old form)
        ∙ ap length (sym more);
    are = λ n one kept at there.
        pushed (λ one kept. IsBase tables m (parts_places names tables m one.0 one.1 false) kept) old bases form base
        are.long are.are based n one kept (ap (λ l. slice_get l n) (sym more) ∙ at)
        (ap (λ l. slice_get l n) (sym later) ∙ there);
  };
  kept = forms-stay old new form is;
  number_is = numbered takes new form number of at;
}
  where
    more : new ≡ old ++ form ∷ []
    more = is ∙ with_first-new same_form old form (from-not (list_any (same_form form) old) true none)

-- one that was
pub notes-known : (names : List ModuleName) (tables : List Table) (m : ℕ) (takes : held_takes.Takes)
    (old new : List Form) (bases : List Base) (form : Form) (number : ℕ)
    → form_of takes ≡ Some form → new ≡ with_first same_form old form → not (list_any (same_form form) old) ≡ false
    → slice_get new number ≡ Some form → NotesBase names tables m takes old bases (Some number) new bases
notes-known names tables m takes old new bases form number of is known at = record {
  notes = subst (λ forms. AreForms names tables m forms bases)
      (sym (is ∙ with_first-known same_form old form (from-not (list_any (same_form form) old) false known)));
  kept = forms-stay old new form is;
  number_is = numbered takes new form number of at;
}

-- one more number
number-more : (P : ℕ → ℕ → Type 0) (numbers : List (Option ℕ)) (number : Option ℕ)
    → ((i n : ℕ) → slice_index_or numbers i None ≡ Some n → P i n)
    → ((n : ℕ) → number ≡ Some n → P (length numbers) n)
    → (i n : ℕ) → slice_index_or (numbers ++ number ∷ []) i None ≡ Some n → P i n
number-more P [] number are last zero n at = last n at
number-more P [] number are last (suc i) n at = absurd (none-some n at)
number-more P (one ∷ numbers) number are last zero n at = are 0 n at
number-more P (one ∷ numbers) number are last (suc i) n at =
    number-more (λ i n. P (suc i) n) numbers number (λ i n at. are (suc i) n at) last i n at

-- one more entity
pub noted-more : (names : List ModuleName) (tables : List Table) (m : ℕ) (takes : List held_takes.Takes) (count : ℕ)
    (forms now : List Form) (bases after : List Base) (numbers : List (Option ℕ)) (number : Option ℕ)
    (one : held_takes.Takes) → AreNotedBases names tables m takes count forms bases numbers
    → slice_get takes count ≡ Some one → NotesBase names tables m one forms bases number now after
    → AreNotedBases names tables m takes (count + 1) now after (numbers ++ number ∷ [])
noted-more names tables m takes count forms now bases after numbers number one noted here notes = record {
  forms_are = notes.notes noted.forms_are;
  long = length_push numbers number ∙ ap (λ n. n + 1) noted.long;
  numbers_are = λ i n other at there.
      number-more
      (λ i n. (other : held_takes.Takes) → slice_get takes i ≡ Some other
      → (form : Form) × (form_of other ≡ Some form) × (slice_get now n ≡ Some form))
      numbers number
      (λ i n at other there.
      let known = noted.numbers_are i n other at there in
      (known.0, known.1, notes.kept n known.0 known.2))
      (λ n at other there.
      subst (λ (other : held_takes.Takes). (form : Form) × (form_of other ≡ Some form)
      × (slice_get now n ≡ Some form))
      (same_Some one other (sym here ∙ ap (slice_get takes) (sym noted.long) ∙ there)) (notes.number_is n at))
      i n at other there;
}

-- what a name of this form finds
found-form : (names : List ModuleName) (tables : List Table) (m : ℕ) (name : NameForm) (one : Form)
    → form_in name ≡ Some one
    → found_places names tables m name false ≡ parts_places names tables m one.0 one.1 false
found-form names tables m (form.Word word) one is = absurd (none-some one is)
found-form names tables m (form.Parts absolute parts) one is =
    ap (λ (one : Form). parts_places names tables m one.0 one.1 false) (same_Some _ one is)

based-form : (names : List ModuleName) (tables : List Table) (m : ℕ) (takes : held_takes.Takes) (one : Form)
    (base : Base) → form_of takes ≡ Some one → IsBase tables m (parts_places names tables m one.0 one.1 false) base
    → IsBaseOf names tables m takes base
based-form names tables m (held.Based name) one base of is =
    subst (λ found. IsBase tables m found base) (sym (found-form names tables m name.now.form one of)) is
based-form names tables m (held.Listed params) one base of is = tt
based-form names tables m (held.Known types) one base of is = tt

-- the bases of all
pub bases-made : (names : List ModuleName) (tables : List Table) (m : ℕ) (takes : List held_takes.Takes) (count : ℕ)
    (forms : List Form) (bases : Bases) → bases.«module» ≡ m
    → AreNotedBases names tables m takes count forms bases.bases.items bases.indices.items
    → AreBasesOf names tables m takes bases
bases-made names tables m takes count forms bases of noted = record {
  module_is = of;
  are = λ i base one is at. by i base one (slice_index_or bases.indices.items i None) refl is at;
}
  where
    by : (i : ℕ) (base : Base) (one : held_takes.Takes) (number : Option ℕ)
        → slice_index_or bases.indices.items i None ≡ number → base_in bases.bases.items number ≡ Some base
        → slice_get takes i ≡ Some one → IsBaseOf names tables m one base
    by i base one None same is at = absurd (none-some base is)
    by i base one (Some n) same is at =
        let known = noted.numbers_are i n one same at in
        based-form names tables m one known.0 base known.1 (noted.forms_are.are n known.0 base known.2 is)

-- A type is found or not whether or not prototypes are hidden that stand beside their definitions.
use Rattle.std.proofs.Common.{◌≡◌, ◌∙◌, ◌∷◌, ◌&&◌, not, [], Bool, true, false, List, Some, None, filter}
use Rattle.std.proofs.Common.{refl, sym, ap}
use Rattle.std.specs.Prelude.{if◌then◌else◌}
use Rattle.std.specs.List.{list_any}
use Rattle.std.proofs.lemmas.Bool.{or_parts, cond-false, false≢true, not-true}
use Rattle.std.proofs.Math.Bool.{or-false}
use Rattle.scope_tables.specs.Entities.{Declared}
use Rattle.scope_tables.specs.Types.{is_type, single_type}
use Rattle.scope_tables.proofs.MemberLaws.{any-filtered}

-- where something is no type, no single type is found
no-type : (all : List Declared) → list_any (λ (one : Declared). not (is_type one.entity.sort)) all ≡ true
    → single_type all ≡ None
no-type [] some = absurd (false≢true some)
no-type (one ∷ []) some =
    cond-false (is_type one.entity.sort) (Some one.entity) None
    (not-true (is_type one.entity.sort) (sym (or-false (not (is_type one.entity.sort))) ∙ some))
no-type (one ∷ other ∷ more) some = refl

-- where none of those that pass is left out, all stay
all-stay : (keep out : Declared → Bool) (all : List Declared)
    → list_any (λ (one : Declared). keep one && out one) all ≡ false
    → filter keep (filter (λ one. not (out one)) all) ≡ filter keep all
all-stay keep out [] none = refl
all-stay keep out (one ∷ all) none =
    let apart = or_parts (keep one && out one) (list_any (λ (one : Declared). keep one && out one) all) none in
    by (out one) refl (keep one) refl apart.0 (all-stay keep out all apart.1)
  where
    by : (b : Bool) → out one ≡ b → (k : Bool) → keep one ≡ k → (keep one && out one) ≡ false
        → filter keep (filter (λ one. not (out one)) all) ≡ filter keep all
        → filter keep (if not (out one) then one ∷ filter (λ one. not (out one)) all else filter
        (λ one. not (out one)) all)
        ≡ (if keep one then one ∷ filter keep all else filter keep all)
    by true is true same none later = absurd (false≢true (sym none ∙ (λ i. same i && is i)))
    by true is false same none later =
        ap (λ b. filter keep (if not b then one ∷ filter (λ one. not (out one)) all else filter
        (λ one. not (out one)) all)) is
        ∙ later ∙ ap (λ b. if b then one ∷ filter keep all else filter keep all) (sym same)
    by false is k same none later =
        ap (λ b. filter keep (if not b then one ∷ filter (λ one. not (out one)) all else filter
        (λ one. not (out one)) all)) is
        ∙ ap (λ l. if keep one then one ∷ l else l) later

-- where one that passes is left out only beside another that passes and is no type, and is none itself, the single
-- type that is found stays
pub single-stays : (keep out : Declared → Bool) (all : List Declared)
    → (list_any (λ (one : Declared). keep one && out one) all ≡ true
    → (list_any (λ (one : Declared). keep one && not (is_type one.entity.sort)) all ≡ true)
    × (list_any (λ (one : Declared). not (out one) && (keep one && not (is_type one.entity.sort))) all ≡ true))
    → single_type (filter keep (filter (λ one. not (out one)) all)) ≡ single_type (filter keep all)
single-stays keep out all beside = by (list_any (λ (one : Declared). keep one && out one) all) refl
  where
    by : (b : Bool) → list_any (λ (one : Declared). keep one && out one) all ≡ b
        → single_type (filter keep (filter (λ one. not (out one)) all)) ≡ single_type (filter keep all)
    by true some =
        let both = beside some in
        no-type (filter keep (filter (λ one. not (out one)) all))
        (any-filtered keep (λ (one : Declared). not (is_type one.entity.sort)) (filter (λ one. not (out one)) all)
        ∙ any-filtered (λ one. not (out one))
        (λ (one : Declared). keep one && not (is_type one.entity.sort)) all ∙ both.1)
        ∙ sym (no-type (filter keep all)
        (any-filtered keep (λ (one : Declared). not (is_type one.entity.sort)) all ∙ both.0))
    by false none = ap single_type (all-stay keep out all none)

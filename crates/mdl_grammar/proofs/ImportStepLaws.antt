-- Steps of imports by the token that comes, as the reader takes them.
use Rattle.std.proofs.Common.{◌≡◌, ◌∙◌, ap, refl, arith, ℕ, zero, suc, Bool, true, false, List, []}
use Rattle.std.proofs.Common.{◌∷◌, ◌++◌, Some, if◌then◌else◌, length, ◌-◌, slice_get, Bor}
use Rattle.std.proofs.lemmas.Option.{same_Some, none-some}
use Rattle.mdl_syntax.specs.declared.names.Span.{Span}
use Rattle.mdl_syntax.specs.declared.names.Ident.{Ident}
use Rattle.mdl_syntax.specs.declared.imports.Lead.{Lead}
use Rattle.mdl_syntax.specs.declared.imports.Lead.TheVariants as lead
use Rattle.mdl_syntax.specs.declared.imports.Qualified.{Qualified}
use Rattle.expression_grammar.specs.declared.sort.Sort as words
use Rattle.expression_grammar.specs.declared.sort.Sort.TheVariants as sort
use Rattle.module_grammar.specs.inside.ModuleMachine.{using_step}
use Rattle.module_grammar.specs.inside.ModuleStates.{Begun, Naming, unnamed, one_dot, two_dots}
use Rattle.module_grammar.specs.inside.ModuleStates.{up_steps, one_dot_behind, led, parted, open_ended}
use Rattle.module_grammar.specs.inside.ModuleStates.{split_last, part_end, qualified_from, module_name}
use Rattle.expression_grammar.specs.inside.Machine.{from_to}
use Rattle.module_grammar.specs.inside.ModuleMachine.{import_step}
use Rattle.module_grammar.specs.inside.ModuleStates.{wrong, is_star}
use Rattle.expression_grammar.specs.inside.Machine.{Sort, binary_operator, other_literal}
use Rattle.mdl_syntax.specs.declared.expressions.Lit.TheVariants as lit
use Rattle.mdl_grammar.specs.inside.ModuleViews.{uses_on, imports_by, imports_on}
use Rattle.expression_grammar.specs.inside.SortViews.{sort_view}

pub using_otherwise : (begun : Begun) (at : ℕ) (naming : Naming) (word : words.Sort) (place : Span) →
    ((text : Bor _) → word ≡ sort.Str text → ⊥) → (word ≡ sort.Equals → ⊥) → (word ≡ sort.Import → ⊥) →
    using_step begun at naming (sort_view word) place ≡ uses_on begun at naming (sort_view word) place
using_otherwise begun at naming (sort.Str text) place one two three = absurd (one text refl)
using_otherwise begun at naming sort.Equals place one two three = absurd (two refl)
using_otherwise begun at naming sort.Import place one two three = absurd (three refl)
using_otherwise begun at unnamed _ place one two three = refl
using_otherwise begun at (one_dot from) _ place one two three = refl
using_otherwise begun at (two_dots steps from) _ place one two three = refl
using_otherwise begun at (up_steps steps from) _ place one two three = refl
using_otherwise begun at (one_dot_behind steps from) _ place one two three = refl
using_otherwise begun at (led way from) _ place one two three = refl
using_otherwise begun at (parted lead.Bare from [] end) _ place one two three = refl
using_otherwise begun at (parted lead.Bare from (part ∷ []) end) _ place one two three = refl
using_otherwise begun at (parted lead.Bare from (part ∷ other ∷ parts) end) _ place one two three = refl
using_otherwise begun at (parted way from parts end) _ place one two three = refl
using_otherwise begun at (open_ended way from parts end) _ place one two three = refl

either_wrong : (test : Bool) → wrong ≡ (if test then wrong else wrong)
either_wrong true = refl
either_wrong false = refl

pub import_by : (begun : Begun) (at : ℕ) (items : List Qualified) (naming : Naming) (sort : Sort)
    (place : Span) → import_step begun at items naming sort place
    ≡ imports_by begun at items naming sort place
import_by begun at [] unnamed (binary_operator op level) place = either_wrong (is_star op)
import_by begun at (item ∷ items) unnamed (binary_operator op level) place = either_wrong (is_star op)
import_by begun at items (one_dot from) (binary_operator op level) place = either_wrong (is_star op)
import_by begun at items (two_dots steps from) (binary_operator op level) place = either_wrong (is_star op)
import_by begun at items (up_steps steps from) (binary_operator op level) place = either_wrong (is_star op)
import_by begun at items (one_dot_behind steps from) (binary_operator op level) place =
    either_wrong (is_star op)
import_by begun at items (led way from) (binary_operator op level) place = either_wrong (is_star op)
import_by begun at items (parted way from parts end) (binary_operator op level) place =
    either_wrong (is_star op)
import_by begun at items (open_ended way from parts end) (binary_operator op level) place = refl
import_by begun at [] unnamed (other_literal (lit.Str text)) place = refl
import_by begun at (item ∷ items) unnamed (other_literal (lit.Str text)) place = refl
import_by begun at [] unnamed (other_literal other) place = refl
import_by begun at (item ∷ items) unnamed (other_literal other) place = refl
import_by begun at items naming (other_literal (lit.Str text)) place = refl
import_by begun at items naming (other_literal other) place = refl
import_by begun at [] unnamed sort place = refl
import_by begun at (item ∷ items) unnamed sort place = refl
import_by begun at items naming sort place = refl

pub imports_otherwise : (begun : Begun) (at : ℕ) (items : List Qualified) (naming : Naming)
    (word : words.Sort) (place : Span) → (word ≡ sort.Comma → ⊥) → (word ≡ sort.Semicolon → ⊥) →
    ((op level : ℕ) → word ≡ sort.BinaryOperator op level → ⊥) →
    ((text : Bor _) → word ≡ sort.Str text → ⊥) →
    imports_by begun at items naming (sort_view word) place
    ≡ imports_on begun at items naming (sort_view word) place
imports_otherwise begun at items naming sort.Comma place one two three four = absurd (one refl)
imports_otherwise begun at items naming sort.Semicolon place one two three four = absurd (two refl)
imports_otherwise begun at items naming (sort.BinaryOperator op level) place one two three four =
    absurd (three op level refl)
imports_otherwise begun at items naming (sort.Str text) place one two three four =
    absurd (four text refl)
imports_otherwise begun at items naming _ place one two three four = refl

-- The last part of a name.

split_at_end : (first : Ident) (more : List Ident) (name : Ident) →
    split_last first (more ++ name ∷ []) ≡ (first ∷ more, name)
split_at_end first [] name = refl
split_at_end first (part ∷ parts) name =
    ap (λ (rest : List Ident × Ident). (first ∷ rest.0, rest.1)) (split_at_end part parts name)

end_of_last : (parts : List Ident) (last : Ident) (at n : ℕ) → length parts ≡ suc n →
    slice_get parts n ≡ Some last → part_end parts at ≡ last.span.end
end_of_last [] last at n long is = absurd (omega (arith, long))
end_of_last (part ∷ []) last at zero long is =
    ap (λ (i : Ident). i.span.end) (same_Some part last is)
end_of_last (part ∷ []) last at (suc n) long is = absurd (omega (arith, long))
end_of_last (part ∷ other ∷ parts) last at zero long is = absurd (omega (arith, long))
end_of_last (part ∷ other ∷ parts) last at (suc n) long is =
    end_of_last (other ∷ parts) last part.span.end n (omega (arith, long)) is

pub qualified_split : (way : Lead) (at : ℕ) (front : List Ident) (name last : Ident) (end : ℕ) →
    slice_get front (length front - 1) ≡ Some last →
    qualified_from way at (front ++ name ∷ []) end ≡ Some (record {
      «module» = module_name way at front last.span.end;
      name = Some name;
      span = from_to at end;
    })
qualified_split way at [] name last end is = absurd (none-some last is)
qualified_split way at (first ∷ []) name last end is =
    let long : length (first ∷ []) ≡ suc (length (first ∷ []) - 1) = omega arith in
    ap (λ n. Some (record {
      «module» = module_name way at (first ∷ []) n;
      name = Some name;
      span = from_to at end;
    })) (end_of_last (first ∷ []) last at (length (first ∷ []) - 1) long is)
qualified_split way at (first ∷ next ∷ more) name last end is =
    let parts = first ∷ next ∷ more in
    let long : length parts ≡ suc (length parts - 1) = omega arith in
    ap (λ (parts : List Ident × Ident). Some (record {
      «module» = module_name way at (first ∷ parts.0) (part_end (first ∷ parts.0) at);
      name = Some parts.1;
      span = from_to at end;
    })) (split_at_end next more name)
    ∙ ap (λ n. Some (record {
      «module» = module_name way at (first ∷ next ∷ more) n;
      name = Some name;
      span = from_to at end;
    })) (end_of_last parts last at (length parts - 1) long is)

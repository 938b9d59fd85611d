-- Steps at the fronts of declarations on the sorts that their default arms are for.
use Rattle.std.proofs.Common.{◌≡◌, refl, ℕ, Bool, true, false, List, [], Option, None}
use Rattle.mdl_syntax.specs.declared.names.Span.{Span}
use Rattle.mdl_syntax.specs.declared.types.Freq.{Freq}
use Rattle.mdl_syntax.specs.Modules.{Parameter}
use Rattle.expression_grammar.specs.declared.sort.Sort as words
use Rattle.expression_grammar.specs.declared.sort.Sort.TheVariants as sort
use Rattle.module_grammar.specs.inside.ModuleMachine.{typed_step}
use Rattle.module_grammar.specs.inside.ModuleStates.{Begun, Owner, Struct, Fronted}
use Rattle.module_grammar.specs.inside.ModuleMachine.{declaration_step, exported_step, item_step}
use Rattle.module_grammar.specs.inside.ModuleMachine.{parameters_step, fields_step, first_front_step}
use Rattle.module_grammar.specs.inside.ModuleMachine.{function_step}
use Rattle.module_grammar.specs.inside.ModuleStates.{of_parameter, of_field}
use Rattle.module_grammar.specs.inside.ModuleMachine.{function_annotated}
use Rattle.mdl_grammar.specs.inside.ModuleViews.{late_item, unmarked}
use Rattle.expression_grammar.specs.inside.SortViews.{sort_view}

pub declaration_otherwise : (token : ℕ) (begun : Begun) (at : ℕ) (exported : Bool) (word : words.Sort)
    (place : Span) → (word ≡ sort.Struct → ⊥) → (word ≡ sort.Enum → ⊥) →
    (word ≡ sort.Annotation → ⊥) → declaration_step token begun at exported (sort_view word) place
    ≡ typed_step token begun at exported (sort_view word) place
declaration_otherwise token begun at exported sort.Struct place one two three = absurd (one refl)
declaration_otherwise token begun at exported sort.Enum place one two three = absurd (two refl)
declaration_otherwise token begun at exported sort.Annotation place one two three =
    absurd (three refl)
declaration_otherwise token begun at exported _ place one two three = refl

pub exported_otherwise : (token : ℕ) (begun : Begun) (at : ℕ) (word : words.Sort) (place : Span) →
    (word ≡ sort.Using → ⊥) → exported_step token begun at (sort_view word) place
    ≡ declaration_step token begun at true (sort_view word) place
exported_otherwise token begun at sort.Using place other = absurd (other refl)
exported_otherwise token begun at _ place other = refl

pub late_otherwise : (token : ℕ) (begun : Begun) (word : words.Sort) (place : Span) →
    (word ≡ sort.Export → ⊥) → late_item token begun (sort_view word) place
    ≡ declaration_step token begun place.at false (sort_view word) place
late_otherwise token begun sort.Export place other = absurd (other refl)
late_otherwise token begun _ place other = refl

pub early_otherwise : (token : ℕ) (begun : Begun) (word : words.Sort) (place : Span) →
    (word ≡ sort.Import → ⊥) → (word ≡ sort.Using → ⊥) → (word ≡ sort.Module → ⊥) →
    item_step token begun true (sort_view word) place ≡ late_item token begun (sort_view word) place
early_otherwise token begun sort.Import place one two three = absurd (one refl)
early_otherwise token begun sort.Using place one two three = absurd (two refl)
early_otherwise token begun sort.Module place one two three = absurd (three refl)
early_otherwise token begun _ place one two three = refl

pub parameters_otherwise : (token : ℕ) (begun : Begun) (owner : Owner) (word : words.Sort)
    (place : Span) → (word ≡ sort.Closing → ⊥) →
    ((op level : ℕ) → word ≡ sort.BinaryOperator op level → ⊥) →
    parameters_step token begun owner (sort_view word) place
    ≡ first_front_step token begun (of_parameter owner []) (sort_view word) place
parameters_otherwise token begun owner sort.Closing place one two = absurd (one refl)
parameters_otherwise token begun owner (sort.BinaryOperator op level) place one two =
    absurd (two op level refl)
parameters_otherwise token begun owner _ place one two = refl

pub fields_otherwise : (token : ℕ) (begun : Begun) (held : Struct) (word : words.Sort)
    (place : Span) → (word ≡ sort.ClosingBrace → ⊥) →
    fields_step token begun held (sort_view word) place
    ≡ first_front_step token begun (of_field held) (sort_view word) place
fields_otherwise token begun held sort.ClosingBrace place other = absurd (other refl)
fields_otherwise token begun held _ place other = refl

pub unmarked_otherwise : (begun : Begun) (fronted : Fronted) (parameters : List Parameter)
    (frequency : Option Freq) (word : words.Sort) (place : Span) →
    (word ≡ sort.OpeningBracket → ⊥) →
    unmarked begun fronted parameters frequency (sort_view word) place
    ≡ function_annotated begun fronted parameters frequency None (sort_view word) place
unmarked_otherwise begun fronted parameters frequency sort.OpeningBracket place other =
    absurd (other refl)
unmarked_otherwise begun fronted parameters frequency _ place other = refl

pub function_otherwise : (begun : Begun) (fronted : Fronted) (parameters : List Parameter)
    (word : words.Sort) (place : Span) → ((mark : Freq) → word ≡ sort.Frequency mark → ⊥) →
    function_step begun fronted parameters None (sort_view word) place
    ≡ unmarked begun fronted parameters None (sort_view word) place
function_otherwise begun fronted parameters (sort.Frequency mark) place other =
    absurd (other mark refl)
function_otherwise begun fronted parameters _ place other = refl

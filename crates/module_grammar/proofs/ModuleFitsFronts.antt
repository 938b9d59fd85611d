-- A step in a type and a name keeps the state of the machine of modules fit.
use Rattle.std.proofs.Common.{ℕ, Bool, true, false}
use Rattle.std.proofs.Common.{[], Option, Some, None, if◌then◌else◌, codes}
use Rattle.std.specs.Prelude.{◌==◌}
use Rattle.mdl_lexer.specs.declared.token.Kind.{Kind}
use Rattle.mdl_syntax.specs.declared.names.Span.{Span}
use Rattle.mdl_syntax.specs.declared.names.Ident.{Ident}
use Rattle.mdl_syntax.specs.declared.names.Name.{Name}
use Rattle.mdl_syntax.specs.declared.types.TypeTree.{TypeTree}
use Rattle.mdl_syntax.specs.Levels.{mark_number}
use Rattle.mdl_syntax.specs.Levelled.{IsName}
use Rattle.expression_grammar.specs.inside.Sorts.{IsOf}
use Rattle.expression_grammar.specs.inside.Machine.{Sort, Mode, Step, Head, goes, bad, deep, is_left_out}
use Rattle.expression_grammar.specs.inside.Machine.{identifier, integer, type_word, binary_operator, double_colon}
use Rattle.expression_grammar.specs.inside.Machine.{opening_bracket, closing_bracket, frequency_word, ident_at}
use Rattle.expression_grammar.specs.inside.Machine.{in_type, part_wanted, part_read, word_read, type_wanted}
use Rattle.expression_grammar.specs.inside.Machine.{type_bracketed, type_sized, deferred_wanted, deferred_read}
use Rattle.expression_grammar.specs.inside.Machine.{deferred_closed, name_wanted, equals_wanted, type_step, head_step}
use Rattle.expression_grammar.specs.inside.Machine.{mode_step, type_name_step}
use Rattle.module_grammar.specs.inside.ModuleStates.{Begun, Named, Owner, Fronting, Outcome, on}
use Rattle.module_grammar.specs.inside.ModuleStates.{of_declaration, of_parameter, of_field, of_function}
use Rattle.module_grammar.specs.inside.ModuleMachine.{deferred_owner, named_state, front_goes}
use Rattle.module_grammar.specs.inside.ModuleStates.{of_annotation}
use Rattle.module_grammar.specs.inside.ModuleMachine.{front_outcome, deferred_state}
use Rattle.module_grammar.specs.inside.ModuleFits.{IsTypeMode, ModuleFits, BegunFits, FrontingFits, OwnerFits}
use Rattle.module_grammar.proofs.ModuleFitsParts.{one_more}

-- a state that a step goes to is fit
abbrev pub OutcomeFits : ℕ → Outcome → Type 0
OutcomeFits limit (on state) = ModuleFits limit state
OutcomeFits limit _ = Unit {0}

abbrev pub IsTypeStep : Step → Type 0
IsTypeStep (goes mode frames) = IsTypeMode mode
IsTypeStep _ = Unit {0}

pub type_kept : (head : Head) (sort : Sort) (place : Span) (word : Kind) → IsOf sort word →
    IsTypeStep (type_step head [] sort place)
type_kept head double_colon place word of = tt
type_kept head (identifier text) place word of = λ e. cc
type_kept head (type_word number) place word of = of.1
type_kept head sort place word of = tt

pub head_kept : (sort : Sort) (place : Span) (word : Kind) → IsOf sort word →
    IsTypeStep (head_step [] sort place)
head_kept (frequency_word freq) place word of = tt
head_kept sort place word of = type_kept (record { at = place.at; frequency = None }) sort place word of

either_kept : (test : Bool) (mode : Mode) → IsTypeMode mode →
    IsTypeStep (if test then goes mode [] else bad)
either_kept true mode is = is
either_kept false mode is = tt

type_name_kept : (head : Head) (name : Name) (sort : Sort) (place : Span) → IsName name →
    IsTypeStep (type_name_step head name [] sort place)
type_name_kept head name opening_bracket place is = is
type_name_kept head name (identifier text) place is = is
type_name_kept head name sort place is = tt

pub mode_kept : (limit : ℕ) (mode : Mode) (sort : Sort) (place : Span) (word : Kind) → IsOf sort word →
    IsTypeMode mode → IsTypeStep (mode_step limit mode [] sort place)
mode_kept limit (part_wanted (in_type head) path) (identifier text) place word of is =
    one_more path.parts (ident_at text place)
mode_kept limit (part_wanted (in_type head) path) sort place word of is = tt
mode_kept limit (part_read (in_type head) path) double_colon place word of is = tt
mode_kept limit (part_read (in_type head) path) opening_bracket place word of is = is
mode_kept limit (part_read (in_type head) path) (identifier text) place word of is = is
mode_kept limit (part_read (in_type head) path) sort place word of is = tt
mode_kept limit (word_read (in_type head) name) sort place word of is =
    type_name_kept head name sort place is
mode_kept limit (type_wanted head) sort place word of is = type_kept head sort place word of
mode_kept limit (type_bracketed head name) (integer value) place word of is = is
mode_kept limit (type_bracketed head name) (binary_operator op level) place word of is =
    either_kept (op == mark_number (codes "<")) (deferred_wanted head name) is
mode_kept limit (type_bracketed head name) sort place word of is = tt
mode_kept limit (type_sized head name value) closing_bracket place word of is = is
mode_kept limit (type_sized head name value) sort place word of is = tt
mode_kept limit (deferred_wanted head name) (identifier text) place word of is = is
mode_kept limit (deferred_wanted head name) sort place word of is = tt
mode_kept limit (deferred_read head name ident) (binary_operator op level) place word of is =
    either_kept (op == mark_number (codes ">")) (deferred_closed head name ident) is
mode_kept limit (deferred_read head name ident) sort place word of is = tt
mode_kept limit (deferred_closed head name ident) closing_bracket place word of is = is
mode_kept limit (deferred_closed head name ident) sort place word of is = tt
mode_kept limit (name_wanted head ty) (identifier text) place word of is = is
mode_kept limit (name_wanted head ty) sort place word of is = tt
mode_kept limit (equals_wanted head ty name) sort place word of is = tt
mode_kept limit mode sort place word of is = absurd is

-- What becomes of them.

owner_fits : (owner : Owner) (at : ℕ) → OwnerFits owner → OwnerFits (deferred_owner owner at)
owner_fits (of_function fronted) at fits = by fronted.named fronted.ty fronted.deferred fits
  where
    by : (named : Named) (ty : TypeTree) (deferred : Option ℕ) → IsName ty.name →
        OwnerFits (deferred_owner (of_function (record { named = named; ty = ty; deferred = deferred })) at)
    by named ty None is = is
    by named ty (Some earlier) is = is
owner_fits (of_annotation named) at fits = tt

named_fits : (limit : ℕ) (begun : Begun) (of : Fronting) (head : Head) (ty : TypeTree) (name : Ident) →
    BegunFits limit begun → FrontingFits limit of → IsName ty.name →
    ModuleFits limit (named_state begun of head ty name)
named_fits limit begun (of_declaration at exported) head ty name begins fits is = (begins, is)
named_fits limit begun (of_parameter owner parameters) head ty name begins fits is =
    (begins, (fits.0, fits.1, is))
named_fits limit begun (of_field held) head ty name begins fits is = (begins, (fits, is))

deferred_fits : (limit at : ℕ) (begun : Begun) (of : Fronting) (mode : Mode) →
    BegunFits limit begun → FrontingFits limit of → IsTypeMode mode →
    OutcomeFits limit (deferred_state at begun of mode)
deferred_fits limit at begun (of_parameter owner parameters) mode begins fits is =
    (begins, ((owner_fits owner at fits.0, fits.1), is))
deferred_fits limit at begun (of_declaration from exported) mode begins fits is = (begins, (fits, is))
deferred_fits limit at begun (of_field held) mode begins fits is = (begins, (fits, is))

front_goes_fits : (limit at : ℕ) (begun : Begun) (of : Fronting) (mode : Mode) →
    BegunFits limit begun → FrontingFits limit of → IsTypeMode mode →
    OutcomeFits limit (front_goes at begun of mode)
front_goes_fits limit at begun of (equals_wanted head ty name) begins fits is =
    named_fits limit begun of head ty name begins fits is
front_goes_fits limit at begun of (deferred_wanted head name) begins fits is =
    deferred_fits limit at begun of (deferred_wanted head name) begins fits is
front_goes_fits limit at begun of mode begins fits is = (begins, (fits, is))

pub front_fits : (limit at : ℕ) (begun : Begun) (of : Fronting) (made : Step) →
    BegunFits limit begun → FrontingFits limit of → IsTypeStep made →
    OutcomeFits limit (front_outcome at begun of made)
front_fits limit at begun of (goes mode frames) begins fits is =
    front_goes_fits limit at begun of mode begins fits is
front_fits limit at begun of bad begins fits is = tt
front_fits limit at begun of deep begins fits is = tt
front_fits limit at begun of (is_left_out text) begins fits is = tt

-- A step in a type and a name keeps what is read plain: a size is deferred only in a parameter.
use Rattle.std.proofs.Common.{◌≡◌, sym, subst, refl, ℕ, Bool, true, false, List, [], Option, Some}
use Rattle.std.proofs.Common.{None, if◌then◌else◌, codes}
use Rattle.std.specs.Prelude.{◌==◌}
use Rattle.std.specs.List.{AllByRecursion}
use Rattle.mdl_syntax.specs.declared.names.Span.{Span}
use Rattle.mdl_syntax.specs.declared.names.Ident.{Ident}
use Rattle.mdl_syntax.specs.declared.names.Name.{Name}
use Rattle.mdl_syntax.specs.declared.types.TypeTree.{TypeTree}
use Rattle.mdl_syntax.specs.Levels.{mark_number}
use Rattle.mdl_syntax.specs.AcceptedModules.{LooseParameter}
use Rattle.expression_grammar.specs.inside.Machine.{Sort, Mode, Frame, Step, Head, goes, bad, deep}
use Rattle.expression_grammar.specs.inside.Machine.{is_left_out, identifier, integer, type_word}
use Rattle.expression_grammar.specs.inside.Machine.{binary_operator, double_colon, opening_bracket}
use Rattle.expression_grammar.specs.inside.Machine.{closing_bracket, frequency_word, in_type, part_wanted}
use Rattle.expression_grammar.specs.inside.Machine.{part_read, word_read, type_wanted, type_bracketed}
use Rattle.expression_grammar.specs.inside.Machine.{type_sized, deferred_wanted, name_wanted}
use Rattle.expression_grammar.specs.inside.Machine.{equals_wanted, type_step, head_step, mode_step}
use Rattle.expression_grammar.specs.inside.Machine.{type_name_step}
use Rattle.module_grammar.specs.inside.ModuleStates.{Begun, Named, Fronting, Outcome, on}
use Rattle.module_grammar.specs.inside.ModuleStates.{of_declaration, of_parameter, of_field}
use Rattle.module_grammar.specs.inside.ModuleMachine.{named_state}
use Rattle.module_grammar.specs.inside.ModuleStates.{of_function, of_annotation}
use Rattle.module_grammar.specs.inside.ModuleMachine.{front_goes, front_outcome, deferred_state}
use Rattle.module_grammar.specs.inside.ModuleMachine.{verdict_in, Verdict, if_deferred}
use Rattle.module_grammar.specs.inside.ModuleStates.{fronting}
use Rattle.module_grammar.specs.inside.ModuleMachine.{passes, refused_here}
use Rattle.module_grammar.specs.inside.ModuleStates.{within}
use Rattle.module_grammar.specs.inside.ModulePlain.{TypePlain, ModePlain, ModulePlain, BegunPlain}
use Rattle.module_grammar.specs.inside.ModulePlain.{SizePlain, FrontingPlain}

-- a state that a step goes to is plain
abbrev pub OutcomePlain : ℕ → Outcome → Type 0
OutcomePlain limit (on state) = ModulePlain limit state
OutcomePlain limit _ = Unit {0}

abbrev pub TypeStep : Step → Type 0
TypeStep (goes mode frames) = TypePlain mode
TypeStep _ = Unit {0}

pub type_plain : (head : Head) (sort : Sort) (place : Span) →
    TypeStep (type_step head [] sort place)
type_plain head double_colon place = tt
type_plain head (identifier text) place = tt
type_plain head (type_word number) place = tt
type_plain head sort place = tt

pub head_plain : (sort : Sort) (place : Span) → TypeStep (head_step [] sort place)
head_plain (frequency_word freq) place = tt
head_plain sort place = type_plain (record { at = place.at; frequency = None }) sort place

either_plain : (test : Bool) (mode : Mode) → TypePlain mode →
    TypeStep (if test then goes mode [] else bad)
either_plain true mode is = is
either_plain false mode is = tt

type_name_plain : (head : Head) (name : Name) (sort : Sort) (place : Span) →
    TypeStep (type_name_step head name [] sort place)
type_name_plain head name opening_bracket place = tt
type_name_plain head name (identifier text) place = refl
type_name_plain head name sort place = tt

-- which verdict it is, as a value
abbrev pub IsPassed : Verdict → Type 0
IsPassed passes = Unit {0}
IsPassed _ = ⊥

pub never_passes : refused_here ≡ passes → ⊥
never_passes is = subst IsPassed (sym is) tt

pub mode_plain : (limit : ℕ) (mode : Mode) (sort : Sort) (place : Span) →
    if_deferred mode refused_here ≡ passes →
    TypePlain mode → TypeStep (mode_step limit mode [] sort place)
mode_plain limit (part_wanted (in_type head) path) (identifier text) place passed is = tt
mode_plain limit (part_wanted (in_type head) path) sort place passed is = tt
mode_plain limit (part_read (in_type head) path) double_colon place passed is = tt
mode_plain limit (part_read (in_type head) path) opening_bracket place passed is = tt
mode_plain limit (part_read (in_type head) path) (identifier text) place passed is = refl
mode_plain limit (part_read (in_type head) path) sort place passed is = tt
mode_plain limit (word_read (in_type head) name) sort place passed is =
    type_name_plain head name sort place
mode_plain limit (type_wanted head) sort place passed is = type_plain head sort place
mode_plain limit (type_bracketed head name) (integer value) place passed is = tt
mode_plain limit (type_bracketed head name) (binary_operator op level) place passed is =
    either_plain (op == mark_number (codes "<")) (deferred_wanted head name) tt
mode_plain limit (type_bracketed head name) sort place passed is = tt
mode_plain limit (type_sized head name value) closing_bracket place passed is = refl
mode_plain limit (type_sized head name value) sort place passed is = tt
mode_plain limit (deferred_wanted head name) sort place passed is = absurd (never_passes passed)
mode_plain limit (name_wanted head ty) (identifier text) place passed is = is
mode_plain limit (name_wanted head ty) sort place passed is = tt
mode_plain limit (equals_wanted head ty name) sort place passed is = tt
mode_plain limit mode sort place passed is = absurd is

-- What becomes of them.

-- what a step in a type must be
abbrev pub FrontStep : Fronting → Step → Type 0
FrontStep (of_declaration at exported) made = TypeStep made
FrontStep (of_parameter (of_function fronted) parameters) made =
    fronted.deferred ≡ None → TypeStep made
FrontStep (of_parameter (of_annotation named) parameters) made = Unit {0}
FrontStep (of_field held) made = TypeStep made

pub front_step_plain : (of : Fronting) (made : Step) → TypeStep made → FrontStep of made
front_step_plain (of_declaration at exported) made is = is
front_step_plain (of_parameter (of_function fronted) parameters) made is = λ none. is
front_step_plain (of_parameter (of_annotation named) parameters) made is = tt
front_step_plain (of_field held) made is = is

pub front_mode_plain : (limit : ℕ) (of : Fronting) (mode : Mode) (sort : Sort) (place : Span) →
    verdict_in (fronting of mode) ≡ passes → ModePlain of mode →
    FrontStep of (mode_step limit mode [] sort place)
front_mode_plain limit (of_declaration at exported) mode sort place passed is =
    mode_plain limit mode sort place passed is
front_mode_plain limit (of_parameter (of_function fronted) parameters) mode sort place passed is =
    λ none. mode_plain limit mode sort place (is none).1 (is none).0
front_mode_plain limit (of_parameter (of_annotation named) parameters) mode sort place passed is =
    tt
front_mode_plain limit (of_field held) mode sort place passed is =
    mode_plain limit mode sort place passed is

abbrev IsSome : Option ℕ → Type 0
IsSome None = ⊥
IsSome (Some at) = Unit {0}

some_never : (at : ℕ) → Some at ≡ None → ⊥
some_never at is = subst IsSome is tt

-- behind `[<`
deferred_plain : (limit at : ℕ) (begun : Begun) (of : Fronting) (head : Head) (name : Name) →
    BegunPlain begun → FrontingPlain of → OutcomePlain limit
    (deferred_state at begun of (deferred_wanted head name))
deferred_plain limit at begun (of_declaration from exported) head name begins plain =
    (begins, (tt, tt))
deferred_plain limit at begun (of_field held) head name begins plain = (begins, (plain, tt))
deferred_plain limit at begun (of_parameter (of_annotation named) parameters) head name begins
    plain =
    (begins, (plain, tt))
deferred_plain limit at begun (of_parameter (of_function fronted) parameters) head name begins
    plain =
    by fronted.named fronted.ty fronted.deferred plain.0 plain.1.0
  where
    by : (named : Named) (ty : TypeTree) (deferred : Option ℕ) → SizePlain ty →
        AllByRecursion LooseParameter parameters →
        OutcomePlain limit (deferred_state at begun (of_parameter
        (of_function (record {
          named = named;
          ty = ty;
          deferred = deferred;
        })) parameters) (deferred_wanted head name))
    by named ty None own all = (
      begins,
      (
        (own, (all, λ none. absurd (some_never at none))),
        λ none. absurd
            (some_never at none),
      ),
    )
    by named ty (Some earlier) own all = (
      begins,
      (
        (own, (all, λ none. absurd (some_never earlier none))),
        λ none. absurd (some_never earlier none),
      ),
    )

named_plain : (limit : ℕ) (begun : Begun) (of : Fronting) (head : Head) (ty : TypeTree)
    (name : Ident) →
    BegunPlain begun → FrontingPlain of → FrontStep of (goes (equals_wanted head ty name) []) →
    ModulePlain limit (named_state begun of head ty name)
named_plain limit begun (of_declaration at exported) head ty name begins plain is = (begins, is)
named_plain limit begun (of_parameter (of_function fronted) parameters) head ty name begins plain
    is =
    (begins, (plain.0, plain.1, is))
named_plain limit begun (of_parameter (of_annotation named) parameters) head ty name begins plain
    is =
    (begins, (plain.0, plain.1, tt))
named_plain limit begun (of_field held) head ty name begins plain is = (begins, (plain, is))

-- a mode that no deferred size begins with
stays_plain : (limit : ℕ) (begun : Begun) (of : Fronting) (mode : Mode) →
    if_deferred mode refused_here ≡ passes →
    BegunPlain begun → FrontingPlain of → FrontStep of (goes mode []) →
    ModulePlain limit (within begun (fronting of mode))
stays_plain limit begun (of_declaration at exported) mode passed begins plain is =
    (begins, (plain, is))
stays_plain limit begun (of_parameter (of_function fronted) parameters) mode passed begins plain
    is =
    (begins, (plain, λ none. (is none, passed)))
stays_plain limit begun (of_parameter (of_annotation named) parameters) mode passed begins plain
    is =
    (begins, (plain, tt))
stays_plain limit begun (of_field held) mode passed begins plain is = (begins, (plain, is))

same_front : (of : Fronting) (mode : Mode) (frames : List Frame) → FrontStep of (goes mode frames) →
    FrontStep of (goes mode [])
same_front (of_declaration at exported) mode frames is = is
same_front (of_parameter (of_function fronted) parameters) mode frames is = is
same_front (of_parameter (of_annotation named) parameters) mode frames is = tt
same_front (of_field held) mode frames is = is

front_goes_plain : (limit at : ℕ) (begun : Begun) (of : Fronting) (mode : Mode) →
    BegunPlain begun → FrontingPlain of → FrontStep of (goes mode []) →
    OutcomePlain limit (front_goes at begun of mode)
front_goes_plain limit at begun of (equals_wanted head ty name) begins plain is =
    named_plain limit begun of head ty name begins plain is
front_goes_plain limit at begun of (deferred_wanted head name) begins plain is =
    deferred_plain limit at begun of head name begins plain
front_goes_plain limit at begun of mode begins plain is =
    stays_plain limit begun of mode refl begins plain is

pub front_plain : (limit at : ℕ) (begun : Begun) (of : Fronting) (made : Step) →
    BegunPlain begun → FrontingPlain of → FrontStep of made →
    OutcomePlain limit (front_outcome at begun of made)
front_plain limit at begun of (goes mode frames) begins plain is =
    front_goes_plain limit at begun of mode begins plain (same_front of mode frames is)
front_plain limit at begun of bad begins plain is = tt
front_plain limit at begun of deep begins plain is = tt
front_plain limit at begun of (is_left_out text) begins plain is = tt

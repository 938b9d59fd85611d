-- What a step within an expression changes in the machine of modules.
use Rattle.std.proofs.Common.{◌≡◌, sym, refl, ℕ, suc, Bool, true, false, List, [], ◌∷◌, ◌++◌}
use Rattle.std.proofs.Common.{Option, Some, None, if◌then◌else◌}
use Rattle.mdl_syntax.specs.declared.names.Span.{Span}
use Rattle.mdl_syntax.specs.declared.types.Freq.{Freq}
use Rattle.mdl_syntax.specs.declared.expressions.Lit.TheVariants as lit
use Rattle.mdl_syntax.specs.declared.modules.VersionLit.{VersionLit}
use Rattle.mdl_syntax.specs.Trees.{Tree, call}
use Rattle.mdl_syntax.specs.Modules.{Annotation, Parameter, material, function}
use Rattle.module_grammar.specs.ModuleFaults.{IsPrototype}
use Rattle.expression_grammar.specs.inside.Machine.{Sort, Mode, Frame, Step, Finish, mode_step, finish}
use Rattle.expression_grammar.specs.inside.Machine.{goes, bad, deep, is_left_out, finished, ends_badly}
use Rattle.expression_grammar.specs.inside.Machine.{ends_deep, complete, wanted, closing_bracket}
use Rattle.expression_grammar.specs.inside.Machine.{opening_bracket, other_literal, semicolon}
use Rattle.module_grammar.specs.inside.ModuleStates.{Begun, Fronted, Position, Holder, Site, State}
use Rattle.module_grammar.specs.inside.ModuleStates.{Outcome, on, wrong, within, in_function_body}
use Rattle.module_grammar.specs.inside.ModuleStates.{in_default, in_field_default, in_annotation}
use Rattle.module_grammar.specs.inside.ModuleStates.{in_base, expression, opened, first_annotation}
use Rattle.module_grammar.specs.inside.ModuleMachine.{call_read, whole_call, call_goes, call_outcome}
use Rattle.module_grammar.specs.inside.ModuleMachine.{call_step, expression_outcome, may_name, closes}
use Rattle.module_grammar.specs.inside.ModuleMachine.{closed_by, is_bracket, by_finish, value_step_of}
use Rattle.module_grammar.specs.inside.ModuleMachine.{expression_step, is_call_site}
use Rattle.module_grammar.specs.inside.ModuleMachine.{annotations_behind, unless_wrong, index_outcome}
use Rattle.module_grammar.specs.inside.ModuleMachine.{opened_step, first_annotation_step}
use Rattle.module_grammar.specs.inside.ModuleStates.{function_from, is_material, place_of_declaration}
use Rattle.module_grammar.specs.inside.ModuleMachine.{version_step, version_ends}
use Rattle.module_grammar.specs.inside.ModuleStates.{plain_parameter}
use Rattle.module_grammar.specs.inside.ModuleStates.{version_wanted, version_read}
use Rattle.module_grammar.specs.inside.ModuleHeads.{size_in, deferred_of, fronted_of_site}
use Rattle.module_grammar.specs.inside.ModuleHolds.{IsDefault}
use Rattle.module_grammar.proofs.ModuleHeadKinds.{InAnnotation, AnnotationSite, Change, Changes}
use Rattle.module_grammar.proofs.ModuleHeadKinds.{stays_so, ends_there, none_added, other_added}
use Rattle.module_grammar.proofs.ModuleHeadKinds.{if_changes}
use Rattle.module_grammar.proofs.ModuleHeadSteps.{parameter_ends_changes, field_ends_changes}

-- Calls.

call_read_changes : (number : ℕ) (begun : Begun) (position : Position) (site : Site)
    (one : Annotation) →
    size_in (within begun position) ≡ deferred_of (fronted_of_site site) →
    (InAnnotation (within begun position) → AnnotationSite site) →
    Change number (within begun position) (within begun (call_read begun site one))
call_read_changes number begun position (in_annotation holder annotations) one size note =
    stays_so (sym size) note (λ is. is)
call_read_changes number begun position (in_base fronted annotations) one size note =
    stays_so (sym size) (λ is. absurd (note is)) (λ is. is)
call_read_changes number begun position site one size note = ends_there tt (none_added refl)

whole_call_changes : (number : ℕ) (begun : Begun) (position : Position) (site : Site) (tree : Tree)
    →
    size_in (within begun position) ≡ deferred_of (fronted_of_site site) →
    (InAnnotation (within begun position) → AnnotationSite site) →
    Change number (within begun position) (within begun (whole_call begun site tree))
whole_call_changes number begun position site (call name arguments span) size note =
    call_read_changes number begun position site (record
    { name = name; arguments = arguments; span = span }) size
    note
whole_call_changes number begun position site tree size note = stays_so (sym size) note (λ is. is)

call_goes_changes : (number : ℕ) (begun : Begun) (position : Position) (site : Site) (mode : Mode)
    (frames : List Frame) → size_in (within begun position) ≡ deferred_of (fronted_of_site site) →
    (InAnnotation (within begun position) → AnnotationSite site) →
    Change number (within begun position) (call_goes begun site mode frames)
call_goes_changes number begun position site (complete tree) [] size note =
    whole_call_changes number begun position site tree size note
call_goes_changes number begun position site (complete tree) (frame ∷ frames) size note =
    stays_so (sym size) note (λ is. is)
call_goes_changes number begun position site mode [] size note = stays_so (sym size) note (λ is. is)
call_goes_changes number begun position site mode (frame ∷ frames) size note =
    stays_so (sym size) note (λ is. is)

call_outcome_changes : (number : ℕ) (begun : Begun) (position : Position) (site : Site)
    (sort : Sort)
    (made : Step) → size_in (within begun position) ≡ deferred_of (fronted_of_site site) →
    (InAnnotation (within begun position) → AnnotationSite site) →
    Changes number (within begun position) sort (call_outcome begun site made)
call_outcome_changes number begun position site sort (goes mode frames) size note =
    call_goes_changes number begun position site mode frames size note
call_outcome_changes number begun position site sort bad size note = tt
call_outcome_changes number begun position site sort deep size note = tt
call_outcome_changes number begun position site sort (is_left_out text) size note = tt

call_changes : (limit number : ℕ) (begun : Begun) (position : Position) (site : Site) (mode : Mode)
    (frames : List Frame) (sort : Sort) (place : Span) →
    size_in (within begun position) ≡ deferred_of (fronted_of_site site) →
    (InAnnotation (within begun position) → AnnotationSite site) →
    Changes number (within begun position) sort (call_step limit begun site mode frames sort place)
call_changes limit number begun position site mode [] sort place size note =
    if_changes number (within begun position) sort (may_name mode sort)
    (call_outcome begun site (mode_step (suc limit) mode [] sort place)) wrong
    (call_outcome_changes number begun position site sort (mode_step (suc limit) mode [] sort place)
    size note) tt
call_changes limit number begun position site mode (frame ∷ frames) sort place size note =
    call_outcome_changes number begun position site sort
    (mode_step (suc limit) mode (frame ∷ frames) sort place)
    size note

-- Other expressions.

expression_outcome_changes : (number : ℕ) (begun : Begun) (position : Position) (site : Site)
    (sort : Sort)
    (made : Step) → size_in (within begun position) ≡ deferred_of (fronted_of_site site) →
    (InAnnotation (within begun position) → AnnotationSite site) →
    Changes number (within begun position) sort (expression_outcome begun site made)
expression_outcome_changes number begun position site sort (goes mode frames) size note =
    stays_so (sym size) note (λ is. is)
expression_outcome_changes number begun position site sort bad size note = tt
expression_outcome_changes number begun position site sort deep size note = tt
expression_outcome_changes number begun position site sort (is_left_out text) size note = tt

not_prototype : (fronted : Fronted) (parameters : List Parameter) (frequency : Option Freq)
    (annotations : Option (List Annotation)) (body : Tree) (end : ℕ) →
    IsPrototype (function_from fronted parameters frequency annotations body end) → ⊥
not_prototype fronted parameters (Some frequency) annotations body end is = is
not_prototype fronted parameters None annotations body end is = by (is_material fronted.ty) is
  where
    by : (test : Bool) → IsPrototype (if test
        then material fronted.named.exported fronted.named.name parameters annotations body
        (place_of_declaration fronted.named end)
        else function fronted.named.exported fronted.ty fronted.named.name parameters None
        annotations (Some body)
        (place_of_declaration fronted.named end)) → ⊥
    by true is = is
    by false is = is

closed_by_changes : (number : ℕ) (begun : Begun) (site : Site) (mode : Mode) (frames : List Frame)
    (tree : Tree)
    (sort : Sort) (place : Span) → Changes number (within begun (expression site mode frames)) sort
    (closed_by begun site tree sort place)
closed_by_changes number begun (in_function_body fronted parameters frequency annotations) mode
    frames tree sort
    place =
    ends_there tt (other_added (function_from fronted parameters frequency annotations tree
    place.end) refl
    (not_prototype fronted parameters frequency annotations tree place.end))
closed_by_changes number begun (in_default owner parameters front) mode frames tree sort place =
    parameter_ends_changes number begun (expression (in_default owner parameters front) mode frames)
    owner
    (parameters ++ plain_parameter front (Some tree) ∷ []) sort refl (λ is. is)
closed_by_changes number begun (in_field_default held front) mode frames tree sort place =
    field_ends_changes number begun (expression (in_field_default held front) mode frames) held
    (plain_parameter front (Some tree)) sort refl (λ is. is)
closed_by_changes number begun (in_annotation holder annotations) mode frames tree sort place = tt
closed_by_changes number begun (in_base fronted annotations) mode frames tree sort place = tt

value_changes : (limit number : ℕ) (begun : Begun) (site : Site) (mode : Mode) (frames : List Frame)
    (sort : Sort)
    (place : Span) → Changes number (within begun (expression site mode frames)) sort
    (value_step_of limit begun site mode frames sort place)
value_changes limit number begun site mode frames sort place =
    if_changes number (within begun (expression site mode frames)) sort (closes site sort)
    (by_finish limit begun site mode frames sort place (finish limit mode frames))
    (expression_outcome begun site (mode_step limit mode frames sort place))
    (by (finish limit mode frames)) goes_on
  where
    goes_on : Changes number (within begun (expression site mode frames)) sort
        (expression_outcome begun site (mode_step limit mode frames sort place))
    goes_on =
        expression_outcome_changes number begun (expression site mode frames) site sort
        (mode_step limit mode frames sort place) refl (λ is. is)

    by : (end : Finish) → Changes number (within begun (expression site mode frames)) sort
        (by_finish limit begun site mode frames sort place end)
    by (finished tree) =
        if_changes number (within begun (expression site mode frames)) sort (is_bracket sort)
        (on (within begun (opened site mode frames place))) (closed_by begun site tree sort place)
        (stays_so refl (λ is. is) (λ is. is)) (closed_by_changes number begun site mode frames tree
        sort place)
    by ends_badly = goes_on
    by ends_deep = tt

pub expression_changes : (limit number : ℕ) (begun : Begun) (site : Site) (mode : Mode)
    (frames : List Frame)
    (sort : Sort) (place : Span) → Changes number (within begun (expression site mode frames)) sort
    (expression_step limit begun site mode frames sort place)
expression_changes limit number begun site mode frames sort place =
    if_changes number (within begun (expression site mode frames)) sort (is_call_site site)
    (call_step limit begun site mode frames sort place) (value_step_of limit begun site mode frames
    sort place)
    (call_changes limit number begun (expression site mode frames) site mode frames sort place refl
    (λ is. is))
    (value_changes limit number begun site mode frames sort place)

-- Behind `[`.

behind_changes : (number : ℕ) (begun : Begun) (site : Site) (mode : Mode) (frames : List Frame)
    (bracket : Span)
    (sort : Sort) (end : Finish) → IsDefault site →
    Changes number (within begun (opened site mode frames bracket)) sort
    (annotations_behind begun site end)
behind_changes number begun (in_default owner parameters front) mode frames bracket sort
    (finished tree) may =
    stays_so refl (λ is. is) (λ is. is)
behind_changes number begun (in_field_default held front) mode frames bracket sort (finished tree)
    may =
    stays_so refl (λ is. absurd is) (λ is. is)
behind_changes number begun site mode frames bracket sort (finished tree) may = absurd may
behind_changes number begun site mode frames bracket sort ends_badly may = tt
behind_changes number begun site mode frames bracket sort ends_deep may = tt

unless_wrong_changes : (number : ℕ) (state : State) (sort : Sort) (made : Outcome) →
    Changes number state sort (unless_wrong made)
unless_wrong_changes number state sort wrong = tt
unless_wrong_changes number state sort made = tt

index_changes : (limit number : ℕ) (begun : Begun) (site : Site) (mode : Mode) (frames : List Frame)
    (bracket : Span) (sort : Sort) (place : Span) (made : Step) →
    Changes number (within begun (opened site mode frames bracket)) sort
    (index_outcome limit begun site sort place made)
index_changes limit number begun site mode frames bracket sort place (goes later below) =
    expression_outcome_changes number begun (opened site mode frames bracket) site sort
    (mode_step limit later below sort place) refl (λ is. is)
index_changes limit number begun site mode frames bracket sort place bad = tt
index_changes limit number begun site mode frames bracket sort place deep =
    unless_wrong_changes number (within begun (opened site mode frames bracket)) sort
    (expression_outcome begun site (mode_step limit wanted [] sort place))
index_changes limit number begun site mode frames bracket sort place (is_left_out text) = tt

pub opened_changes : (limit number : ℕ) (begun : Begun) (site : Site) (mode : Mode)
    (frames : List Frame)
    (bracket : Span) (sort : Sort) (place : Span) → IsDefault site →
    Changes number (within begun (opened site mode frames bracket)) sort
    (opened_step limit begun site mode frames bracket sort place)
opened_changes limit number begun site mode frames bracket sort place may =
    if_changes number (within begun (opened site mode frames bracket)) sort (is_bracket sort)
    (annotations_behind begun site (finish limit mode frames))
    (index_outcome limit begun site sort place (mode_step limit mode frames opening_bracket
    bracket))
    (behind_changes number begun site mode frames bracket sort (finish limit mode frames) may)
    (index_changes limit number begun site mode frames bracket sort place
    (mode_step limit mode frames opening_bracket bracket))

pub first_annotation_changes : (limit number : ℕ) (begun : Begun) (holder : Holder) (sort : Sort)
    (place : Span) → Changes number (within begun (first_annotation holder)) sort
    (first_annotation_step limit begun holder sort place)
first_annotation_changes limit number begun holder closing_bracket place = stays_so refl (λ is. is)
    (λ is. is)
first_annotation_changes limit number begun holder sort place =
    call_changes limit number begun (first_annotation holder) (in_annotation holder []) wanted []
    sort place refl
    (λ is. is)

-- The version.

pub version_changes : (number at : ℕ) (sort : Sort) (place : Span) →
    Changes number (version_wanted at) sort (version_step at sort place)
version_changes number at (other_literal (lit.Real text double)) place =
    stays_so refl (λ is. absurd is) (λ is. is)
version_changes number at sort place = tt

pub version_ends_changes : (number at : ℕ) (version : VersionLit) (sort : Sort) (place : Span) →
    Changes number (version_read at version) sort (version_ends at version sort place)
version_ends_changes number at version semicolon place = ends_there tt (none_added refl)
version_ends_changes number at version sort place = tt

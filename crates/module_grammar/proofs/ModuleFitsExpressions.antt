-- A step in an expression keeps the state of the machine of modules fit.
use Rattle.std.proofs.Common.{◌≡◌, sym, subst, refl, arith, ℕ, suc, ◌≤◌, Bool, true, false}
use Rattle.std.proofs.Common.{List, [], ◌∷◌, Some, if◌then◌else◌, codes}
use Rattle.std.proofs.lemmas.Bool.{true≢false}
use Rattle.mdl_lexer.specs.declared.token.Kind.{Kind}
use Rattle.mdl_lexer.specs.Kinds.{mark_word}
use Rattle.mdl_syntax.specs.declared.names.Span.{Span}
use Rattle.mdl_syntax.specs.Trees.{Tree, call}
use Rattle.mdl_syntax.specs.Heights.{height}
use Rattle.mdl_syntax.specs.Levelled.{Levelled}
use Rattle.mdl_syntax.specs.Modules.{Annotation}
use Rattle.expression_grammar.specs.inside.Sorts.{IsOf}
use Rattle.expression_grammar.specs.inside.Fits.{Fits}
use Rattle.expression_grammar.specs.inside.Machine.{Sort, Mode, Frame, Step, Finish, goes, bad, deep, is_left_out}
use Rattle.expression_grammar.specs.inside.Machine.{wanted}
use Rattle.expression_grammar.specs.inside.Machine.{complete, finish, finished, ends_badly, ends_deep, mode_step}
use Rattle.expression_grammar.specs.inside.Machine.{opening_bracket, closing_bracket}
use Rattle.module_grammar.specs.inside.ModuleStates.{Begun, Holder, Site, Outcome, on, wrong}
use Rattle.module_grammar.specs.inside.ModuleMachine.{room_of}
use Rattle.module_grammar.specs.inside.ModuleStates.{within, expression, opened}
use Rattle.module_grammar.specs.inside.ModuleStates.{in_function_body, in_default, in_field_default, in_annotation}
use Rattle.module_grammar.specs.inside.ModuleMachine.{is_call_site, may_name, call_read, whole_call, call_goes}
use Rattle.module_grammar.specs.inside.ModuleStates.{in_base}
use Rattle.module_grammar.specs.inside.ModuleMachine.{call_outcome, expression_outcome, call_step, closes, closed_by}
use Rattle.module_grammar.specs.inside.ModuleMachine.{is_bracket, by_finish, value_step_of}
use Rattle.module_grammar.specs.inside.ModuleMachine.{expression_step, holder_of, annotations_behind, unless_wrong}
use Rattle.module_grammar.specs.inside.ModuleMachine.{index_outcome, opened_step, first_annotation_step}
use Rattle.module_grammar.specs.inside.ModuleStates.{function_from, plain_parameter}
use Rattle.module_grammar.specs.inside.ModuleFits.{AnnotationFits, BegunFits, HolderFits, SiteFits, PositionFits}
use Rattle.module_grammar.specs.inside.ModuleFits.{ModuleFits, StandsInCall, SiteSuits}
use Rattle.module_grammar.proofs.ModuleCallModes.{InCall, StepInCall, call_mode_step, stands_in_call}
use Rattle.expression_grammar.proofs.KeptLaws.{all_kept, StepFits}
use Rattle.expression_grammar.proofs.CompleteFits.{finish_fits}
use Rattle.expression_grammar.proofs.FitsLaws.{start_fits, mode_fits}
use Rattle.module_grammar.proofs.ModuleFitsParts.{all_and_one}
use Rattle.module_grammar.proofs.ModuleFitsFronts.{OutcomeFits}
use Rattle.module_grammar.proofs.ModuleFitsDeclarations.{declaration_fits, function_fits}
use Rattle.module_grammar.proofs.ModuleFitsImports.{if_fits}
use Rattle.module_grammar.proofs.ModuleFitsPositions.{parameter_ends_fits, field_ends_fits}

inner_fits : (limit : ℕ) (mode : Mode) (frames : List Frame) (sort : Sort) (place : Span) (word : Kind) →
    IsOf sort word → Fits limit mode frames → StepFits limit (mode_step limit mode frames sort place)
inner_fits limit mode frames sort place word is fits =
    mode_fits limit mode frames sort place word is (all_kept limit frames fits.all fits.below) fits.one

room_same : (limit : ℕ) (site : Site) → is_call_site site ≡ false → room_of limit site ≡ limit
room_same limit (in_function_body fronted parameters frequency annotations) is = refl
room_same limit (in_default owner parameters front) is = refl
room_same limit (in_field_default held front) is = refl
room_same limit (in_annotation holder annotations) is = absurd (true≢false is)
room_same limit (in_base fronted annotations) is = absurd (true≢false is)

-- Calls.

call_read_fits : (limit : ℕ) (begun : Begun) (site : Site) (one : Annotation) → SiteFits limit site →
    AnnotationFits limit one → PositionFits limit (call_read begun site one)
call_read_fits limit begun (in_annotation holder annotations) one fits is =
    (fits.0, all_and_one (AnnotationFits limit) annotations one fits.1 is)
call_read_fits limit begun (in_base fronted annotations) one fits is = (fits.0, fits.1, is)
call_read_fits limit begun site one fits is = tt

site_suits : (site : Site) (mode : Mode) (frames : List Frame) → StandsInCall mode frames →
    SiteSuits site mode frames
site_suits (in_annotation holder annotations) mode frames stands = stands
site_suits (in_base fronted annotations) mode frames stands = stands
site_suits site mode frames stands = tt

plain_suits : (site : Site) (mode : Mode) (frames : List Frame) → is_call_site site ≡ false →
    SiteSuits site mode frames
plain_suits (in_annotation holder annotations) mode frames is = absurd (true≢false is)
plain_suits (in_base fronted annotations) mode frames is = absurd (true≢false is)
plain_suits site mode frames is = tt

whole_call_fits : (limit : ℕ) (begun : Begun) (site : Site) (tree : Tree) → SiteFits limit site →
    Fits (suc limit) (complete tree) [] → InCall (complete tree) [] →
    PositionFits limit (whole_call begun site tree)
whole_call_fits limit begun site (call name arguments span) fits inner stands =
    let low = inner.one.2 in
    call_read_fits limit begun site (record { name = name; arguments = arguments; span = span }) fits
    (inner.one.0, omega (arith, low))
whole_call_fits limit begun site tree fits inner stands = absurd stands

stays_fits : (limit : ℕ) (site : Site) (mode : Mode) (frames : List Frame) → SiteFits limit site →
    room_of limit site ≡ suc limit → Fits (suc limit) mode frames → StandsInCall mode frames →
    PositionFits limit (expression site mode frames)
stays_fits limit site mode frames fits roomy inner stands =
    (fits, subst (λ room. Fits room mode frames) (sym roomy) inner, site_suits site mode frames stands)

call_goes_fits : (limit : ℕ) (begun : Begun) (site : Site) (mode : Mode) (frames : List Frame) →
    BegunFits limit begun → SiteFits limit site → room_of limit site ≡ suc limit →
    Fits (suc limit) mode frames → InCall mode frames → ModuleFits limit (call_goes begun site mode frames)
call_goes_fits limit begun site (complete tree) [] begins fits roomy inner stands =
    (begins, whole_call_fits limit begun site tree fits inner stands)
call_goes_fits limit begun site (complete tree) (frame ∷ frames) begins fits roomy inner stands =
    (begins, stays_fits limit site (complete tree) (frame ∷ frames) fits roomy inner stands)
call_goes_fits limit begun site mode [] begins fits roomy inner stands =
    (begins, stays_fits limit site mode [] fits roomy inner stands)
call_goes_fits limit begun site mode (frame ∷ frames) begins fits roomy inner stands =
    (begins, stays_fits limit site mode (frame ∷ frames) fits roomy inner stands)

call_outcome_fits : (limit : ℕ) (begun : Begun) (site : Site) (made : Step) → BegunFits limit begun →
    SiteFits limit site → room_of limit site ≡ suc limit → StepFits (suc limit) made → StepInCall made →
    OutcomeFits limit (call_outcome begun site made)
call_outcome_fits limit begun site (goes mode frames) begins fits roomy inner stands =
    call_goes_fits limit begun site mode frames begins fits roomy inner stands
call_outcome_fits limit begun site bad begins fits roomy inner stands = tt
call_outcome_fits limit begun site deep begins fits roomy inner stands = tt
call_outcome_fits limit begun site (is_left_out text) begins fits roomy inner stands = tt

some_frames : (frame : Frame) (frames : List Frame) → (frame ∷ frames ≡ []) → ⊥
some_frames frame frames is = cc

pub call_step_fits : (limit : ℕ) (begun : Begun) (site : Site) (mode : Mode) (frames : List Frame) (sort : Sort)
    (place : Span) (word : Kind) → IsOf sort word → BegunFits limit begun → SiteFits limit site →
    room_of limit site ≡ suc limit → Fits (suc limit) mode frames → StandsInCall mode frames →
    OutcomeFits limit (call_step limit begun site mode frames sort place)
call_step_fits limit begun site mode [] sort place word is begins fits roomy inner stands =
    by (may_name mode sort) refl
  where
    by : (test : Bool) → may_name mode sort ≡ test →
        OutcomeFits limit (if test then call_outcome begun site (mode_step (suc limit) mode [] sort place)
        else wrong)
    by true may =
        call_outcome_fits limit begun site (mode_step (suc limit) mode [] sort place) begins fits roomy
        (inner_fits (suc limit) mode [] sort place word is inner)
        (call_mode_step (suc limit) mode [] sort place (stands_in_call mode [] stands) (λ none. may))
    by false may = tt
call_step_fits limit begun site mode (frame ∷ frames) sort place word is begins fits roomy inner stands =
    call_outcome_fits limit begun site (mode_step (suc limit) mode (frame ∷ frames) sort place) begins fits roomy
    (inner_fits (suc limit) mode (frame ∷ frames) sort place word is inner)
    (call_mode_step (suc limit) mode (frame ∷ frames) sort place stands
    (λ none. absurd (some_frames frame frames none)))

-- Other expressions.

expression_outcome_fits : (limit : ℕ) (begun : Begun) (site : Site) (made : Step) → BegunFits limit begun →
    SiteFits limit site → is_call_site site ≡ false → StepFits limit made →
    OutcomeFits limit (expression_outcome begun site made)
expression_outcome_fits limit begun site (goes mode frames) begins fits plain inner = (
  begins,
  (
    fits,
    subst (λ room. Fits room mode frames) (sym (room_same limit site plain)) inner,
    plain_suits site mode frames plain,
  ),
)
expression_outcome_fits limit begun site bad begins fits plain inner = tt
expression_outcome_fits limit begun site deep begins fits plain inner = tt
expression_outcome_fits limit begun site (is_left_out text) begins fits plain inner = tt

closed_by_fits : (limit : ℕ) (begun : Begun) (site : Site) (tree : Tree) (sort : Sort) (place : Span) →
    BegunFits limit begun → SiteFits limit site → Levelled tree → height tree ≤ limit →
    OutcomeFits limit (closed_by begun site tree sort place)
closed_by_fits limit begun (in_function_body fronted parameters frequency annotations) tree sort place begins
    fits is low =
    declaration_fits limit begun (function_from fronted parameters frequency annotations tree place.end) place.end
    begins (function_fits limit fronted parameters frequency annotations tree place.end fits.0 fits.1 fits.2 is
    low)
closed_by_fits limit begun (in_default owner parameters front) tree sort place begins fits is low =
    parameter_ends_fits limit begun owner parameters (plain_parameter front (Some tree)) sort begins fits.0 fits.1
    (fits.2, (is, low), tt)
closed_by_fits limit begun (in_field_default held front) tree sort place begins fits is low =
    field_ends_fits limit begun held (plain_parameter front (Some tree)) sort begins fits.0
    (fits.1, (is, low), tt)
closed_by_fits limit begun (in_annotation holder annotations) tree sort place begins fits is low = tt
closed_by_fits limit begun (in_base fronted annotations) tree sort place begins fits is low = tt

value_step_fits : (limit : ℕ) (begun : Begun) (site : Site) (mode : Mode) (frames : List Frame) (sort : Sort)
    (place : Span) (word : Kind) → IsOf sort word → BegunFits limit begun → SiteFits limit site →
    is_call_site site ≡ false → Fits limit mode frames →
    OutcomeFits limit (value_step_of limit begun site mode frames sort place)
value_step_fits limit begun site mode frames sort place word is begins fits plain inner =
    if_fits limit (closes site sort)
    (by_finish limit begun site mode frames sort place (finish limit mode frames))
    (expression_outcome begun site (mode_step limit mode frames sort place))
    (by (finish limit mode frames) refl) goes_on
  where
    goes_on : OutcomeFits limit (expression_outcome begun site (mode_step limit mode frames sort place))
    goes_on =
        expression_outcome_fits limit begun site (mode_step limit mode frames sort place) begins fits plain
        (inner_fits limit mode frames sort place word is inner)

    by : (end : Finish) → finish limit mode frames ≡ end →
        OutcomeFits limit (by_finish limit begun site mode frames sort place end)
    by (finished tree) ends =
        let own = finish_fits limit mode frames tree inner ends in
        if_fits limit (is_bracket sort) (on (within begun (opened site mode frames place)))
        (closed_by begun site tree sort place)
        (begins, (fits, plain, inner, (tree, ends, own.0, own.1)))
        (closed_by_fits limit begun site tree sort place begins fits own.0 own.1)
    by ends_badly ends = goes_on
    by ends_deep ends = tt

pub expression_fits : (limit : ℕ) (begun : Begun) (site : Site) (mode : Mode) (frames : List Frame) (sort : Sort)
    (place : Span) (word : Kind) → IsOf sort word → BegunFits limit begun → SiteFits limit site →
    Fits (room_of limit site) mode frames → SiteSuits site mode frames →
    OutcomeFits limit (expression_step limit begun site mode frames sort place)
expression_fits limit begun (in_function_body fronted parameters frequency annotations) mode frames sort place word
    is begins fits inner stands =
    value_step_fits limit begun (in_function_body fronted parameters frequency annotations) mode frames sort place
    word is begins fits refl inner
expression_fits limit begun (in_default owner parameters front) mode frames sort place word is begins fits inner
    stands =
    value_step_fits limit begun (in_default owner parameters front) mode frames sort place word is begins fits
    refl inner
expression_fits limit begun (in_field_default held front) mode frames sort place word is begins fits inner stands =
    value_step_fits limit begun (in_field_default held front) mode frames sort place word is begins fits refl inner
expression_fits limit begun (in_annotation holder annotations) mode frames sort place word is begins fits inner stands =
    call_step_fits limit begun (in_annotation holder annotations) mode frames sort place word is begins fits refl
    inner stands
expression_fits limit begun (in_base fronted annotations) mode frames sort place word is begins fits inner stands =
    call_step_fits limit begun (in_base fronted annotations) mode frames sort place word is begins fits refl inner
    stands

-- Behind `[`.

holder_fits : (limit : ℕ) (site : Site) (tree : Tree) → SiteFits limit site → Levelled tree →
    height tree ≤ limit → HolderFits limit (holder_of site tree)
holder_fits limit (in_default owner parameters front) tree fits is low = (fits.0, fits.1, fits.2, (is, low))
holder_fits limit (in_field_default held front) tree fits is low = (fits.0, fits.1, (is, low))
holder_fits limit site tree fits is low = tt

unless_wrong_fits : (limit : ℕ) (made : Outcome) → OutcomeFits limit (unless_wrong made)
unless_wrong_fits limit wrong = tt
unless_wrong_fits limit made = tt

index_fits : (limit : ℕ) (begun : Begun) (site : Site) (sort : Sort) (place : Span) (word : Kind) (made : Step) →
    IsOf sort word → BegunFits limit begun → SiteFits limit site → is_call_site site ≡ false →
    StepFits limit made → OutcomeFits limit (index_outcome limit begun site sort place made)
index_fits limit begun site sort place word (goes mode below) is begins fits plain inner =
    expression_outcome_fits limit begun site (mode_step limit mode below sort place) begins fits plain
    (inner_fits limit mode below sort place word is inner)
index_fits limit begun site sort place word bad is begins fits plain inner = tt
index_fits limit begun site sort place word deep is begins fits plain inner =
    unless_wrong_fits limit (expression_outcome begun site (mode_step limit wanted [] sort place))
index_fits limit begun site sort place word (is_left_out text) is begins fits plain inner = tt

pub opened_fits : (limit : ℕ) (begun : Begun) (site : Site) (mode : Mode) (frames : List Frame) (bracket : Span)
    (sort : Sort) (place : Span) (word : Kind) → IsOf sort word → BegunFits limit begun → SiteFits limit site →
    is_call_site site ≡ false → Fits limit mode frames →
    OutcomeFits limit (opened_step limit begun site mode frames bracket sort place)
opened_fits limit begun site mode frames bracket sort place word is begins fits plain inner =
    if_fits limit (is_bracket sort) (annotations_behind begun site (finish limit mode frames))
    (index_outcome limit begun site sort place (mode_step limit mode frames opening_bracket bracket))
    (by (finish limit mode frames) refl)
    (index_fits limit begun site sort place word (mode_step limit mode frames opening_bracket bracket) is begins
    fits plain (inner_fits limit mode frames opening_bracket bracket (mark_word (codes "[")) refl inner))
  where
    by : (end : Finish) → finish limit mode frames ≡ end →
        OutcomeFits limit (annotations_behind begun site end)
    by (finished tree) ends =
        let own = finish_fits limit mode frames tree inner ends in
        (begins, holder_fits limit site tree fits own.0 own.1)
    by ends_badly ends = tt
    by ends_deep ends = tt

pub first_annotation_fits : (limit : ℕ) (begun : Begun) (holder : Holder) (sort : Sort) (place : Span)
    (word : Kind) → IsOf sort word → BegunFits limit begun → HolderFits limit holder →
    OutcomeFits limit (first_annotation_step limit begun holder sort place)
first_annotation_fits limit begun holder closing_bracket place word is begins fits = (begins, (fits, tt))
first_annotation_fits limit begun holder sort place word is begins fits =
    call_step_fits limit begun (in_annotation holder []) wanted [] sort place word is begins (fits, tt) refl
    (start_fits (suc limit) (omega arith)) tt

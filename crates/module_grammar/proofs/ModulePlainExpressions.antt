-- A step in an expression keeps what is read plain.
use Rattle.std.proofs.Common.{◌≡◌, sym, subst, refl, ℕ, suc, Bool, true, false, List, [], ◌∷◌, ◌++◌}
use Rattle.std.proofs.Common.{Some, None, if◌then◌else◌}
use Rattle.mdl_lexer.specs.declared.token.Token.{Token}
use Rattle.mdl_syntax.specs.declared.names.Span.{Span}
use Rattle.mdl_syntax.specs.Trees.{Tree, call}
use Rattle.mdl_syntax.specs.Levelled.{NoneDeferred}
use Rattle.mdl_syntax.specs.Modules.{Annotation}
use Rattle.expression_grammar.specs.inside.Machine.{Sort, Mode, Frame, Step, Finish, goes, bad, deep}
use Rattle.expression_grammar.specs.inside.Machine.{is_left_out, wanted, complete, finish, finished}
use Rattle.expression_grammar.specs.inside.Machine.{ends_badly, ends_deep, mode_step, opening_bracket}
use Rattle.expression_grammar.specs.inside.Machine.{closing_bracket, is_deferred}
use Rattle.expression_grammar.specs.inside.Leads.{here}
use Rattle.module_grammar.specs.inside.ModuleStates.{Begun, Holder, Site, Outcome, on, wrong, within}
use Rattle.module_grammar.specs.inside.ModuleStates.{expression, opened, in_function_body, in_default}
use Rattle.module_grammar.specs.inside.ModuleStates.{in_field_default, in_annotation, in_base}
use Rattle.module_grammar.specs.inside.ModuleMachine.{is_call_site, may_name, call_read, whole_call}
use Rattle.module_grammar.specs.inside.ModuleMachine.{call_goes, call_outcome, expression_outcome}
use Rattle.module_grammar.specs.inside.ModuleMachine.{call_step, closes, closed_by, is_bracket}
use Rattle.module_grammar.specs.inside.ModuleMachine.{by_finish, value_step_of, room_of}
use Rattle.module_grammar.specs.inside.ModuleMachine.{expression_step, holder_of, annotations_behind}
use Rattle.module_grammar.specs.inside.ModuleMachine.{unless_wrong, index_outcome, opened_step}
use Rattle.module_grammar.specs.inside.ModuleMachine.{first_annotation_step}
use Rattle.module_grammar.specs.inside.ModuleStates.{function_from}
use Rattle.module_grammar.specs.inside.ModuleStates.{plain_parameter, default_end}
use Rattle.module_grammar.specs.inside.ModulePlain.{AnnotationPlain, BegunPlain, HolderPlain}
use Rattle.module_grammar.specs.inside.ModulePlain.{SitePlain, SitePassed, PositionPlain, ModulePlain}
use Rattle.module_grammar.specs.inside.ModulePlain.{Led, Takes}
use Rattle.module_grammar.proofs.ModuleFitsParts.{all_and_one}
use Rattle.module_grammar.proofs.ModulePlainFronts.{OutcomePlain}
use Rattle.module_grammar.proofs.ModulePlainParts.{if_plain, declaration_plain, function_plain}
use Rattle.module_grammar.proofs.ModulePlainParts.{owned_more}
use Rattle.module_grammar.proofs.ModulePlainPositions.{parameter_ends_plain}
use Rattle.module_grammar.proofs.ModulePlainStructs.{field_ends_plain}
use Rattle.module_grammar.proofs.ModulePlainSites.{led_on, led_tree, passed_plain, same_room}
use Rattle.module_grammar.proofs.ModulePlainSites.{bracket_sort, bracket_plain, StepPlain}

-- Calls.

call_read_plain : (limit : ℕ) (begun : Begun) (site : Site) (one : Annotation) → SitePlain site →
    AnnotationPlain one → PositionPlain limit (call_read begun site one)
call_read_plain limit begun (in_annotation holder annotations) one plain is =
    (plain.0, all_and_one AnnotationPlain annotations one plain.1 is)
call_read_plain limit begun (in_base fronted annotations) one plain is = (plain.0, plain.1, is)
call_read_plain limit begun site one plain is = tt

stays_plain : (limit room : ℕ) (site : Site) (mode : Mode) (frames : List Frame) → SitePlain site →
    SitePassed site → room_of limit site ≡ room → (is_deferred mode ≡ false →
    Led room mode frames) →
    PositionPlain limit (expression site mode frames)
stays_plain limit room site mode frames plain passed roomy led = (
  plain,
  λ permits. (
    passed,
    subst (λ (n : ℕ). Led n mode frames) (sym roomy)
        (led (passed_plain site mode frames permits)),
  ),
)

whole_call_plain : (limit : ℕ) (begun : Begun) (site : Site) (tree : Tree) → SitePlain site →
    SitePassed site → room_of limit site ≡ suc limit → Led (suc limit) (complete tree) [] →
    PositionPlain limit (whole_call begun site tree)
whole_call_plain limit begun site (call name arguments span) plain passed roomy led =
    call_read_plain limit begun site (record { name = name; arguments = arguments; span = span })
    plain
    (led_tree (suc limit) (complete (call name arguments span)) [] (call name arguments span) led
    refl)
whole_call_plain limit begun site tree plain passed roomy led =
    stays_plain limit (suc limit) site (complete tree) [] plain passed roomy (λ none. led)

call_goes_plain : (limit : ℕ) (begun : Begun) (site : Site) (mode : Mode) (frames : List Frame) →
    BegunPlain begun → SitePlain site → SitePassed site → room_of limit site ≡ suc limit →
    (is_deferred mode ≡ false → Led (suc limit) mode frames) →
    ModulePlain limit (call_goes begun site mode frames)
call_goes_plain limit begun site (complete tree) [] begins plain passed roomy led =
    (begins, whole_call_plain limit begun site tree plain passed roomy (led refl))
call_goes_plain limit begun site (complete tree) (frame ∷ frames) begins plain passed roomy led = (
  begins,
  stays_plain limit (suc limit) site (complete tree) (frame ∷ frames) plain passed roomy
      led,
)
call_goes_plain limit begun site mode [] begins plain passed roomy led =
    (begins, stays_plain limit (suc limit) site mode [] plain passed roomy led)
call_goes_plain limit begun site mode (frame ∷ frames) begins plain passed roomy led =
    (begins, stays_plain limit (suc limit) site mode (frame ∷ frames) plain passed roomy led)

call_outcome_plain : (limit : ℕ) (begun : Begun) (site : Site) (mode : Mode) (frames : List Frame)
    (sort : Sort)
    (place : Span) (token : Token) → Takes token sort place → BegunPlain begun → SitePlain site →
    SitePassed site → room_of limit site ≡ suc limit → Led (suc limit) mode frames →
    OutcomePlain limit (call_outcome begun site (mode_step (suc limit) mode frames sort place))
call_outcome_plain limit begun site mode frames sort place token takes begins plain passed roomy
    led =
    by (mode_step (suc limit) mode frames sort place) refl
  where
    by : (made : Step) → mode_step (suc limit) mode frames sort place ≡ made →
        OutcomePlain limit (call_outcome begun site made)
    by (goes after below) is =
        call_goes_plain limit begun site after below begins plain passed roomy
        (led_on (suc limit) mode frames sort place token takes led after below is)
    by bad is = tt
    by deep is = tt
    by (is_left_out text) is = tt

pub call_step_plain : (limit : ℕ) (begun : Begun) (site : Site) (mode : Mode) (frames : List Frame)
    (sort : Sort)
    (place : Span) (token : Token) → Takes token sort place → BegunPlain begun → SitePlain site →
    SitePassed site → room_of limit site ≡ suc limit → Led (suc limit) mode frames →
    OutcomePlain limit (call_step limit begun site mode frames sort place)
call_step_plain limit begun site mode [] sort place token takes begins plain passed roomy led =
    if_plain limit (may_name mode sort) (call_outcome begun site
    (mode_step (suc limit) mode [] sort place)) wrong
    (call_outcome_plain limit begun site mode [] sort place token takes begins plain passed roomy
    led) tt
call_step_plain limit begun site mode (frame ∷ frames) sort place token takes begins plain passed
    roomy led =
    call_outcome_plain limit begun site mode (frame ∷ frames) sort place token takes begins plain
    passed roomy led

-- Other expressions.

expression_outcome_plain : (limit : ℕ) (begun : Begun) (site : Site) (mode : Mode)
    (frames : List Frame)
    (sort : Sort) (place : Span) (token : Token) → Takes token sort place → BegunPlain begun →
    SitePlain site →
    SitePassed site → is_call_site site ≡ false → Led limit mode frames →
    OutcomePlain limit (expression_outcome begun site (mode_step limit mode frames sort place))
expression_outcome_plain limit begun site mode frames sort place token takes begins plain passed own
    led =
    by (mode_step limit mode frames sort place) refl
  where
    by : (made : Step) → mode_step limit mode frames sort place ≡ made →
        OutcomePlain limit (expression_outcome begun site made)
    by (goes after below) is = (
      begins,
      stays_plain limit limit site after below plain passed
          (same_room limit site own) (led_on limit mode frames sort place token takes led after below
          is),
    )
    by bad is = tt
    by deep is = tt
    by (is_left_out text) is = tt

closed_by_plain : (limit : ℕ) (begun : Begun) (site : Site) (tree : Tree) (sort : Sort)
    (place : Span) →
    BegunPlain begun → SitePlain site → SitePassed site → NoneDeferred tree →
    OutcomePlain limit (closed_by begun site tree sort place)
closed_by_plain limit begun (in_function_body fronted parameters frequency annotations) tree sort
    place begins
    plain passed is =
    declaration_plain limit begun (function_from fronted parameters frequency annotations tree
    place.end) place.end
    begins (function_plain fronted parameters frequency annotations tree place.end plain.0
    (plain.1.1 passed)
    plain.2 is)
closed_by_plain limit begun (in_default owner parameters front) tree sort place begins plain passed
    is =
    parameter_ends_plain limit begun owner (parameters ++ plain_parameter front (Some tree) ∷ [])
    sort begins
    plain.0 (owned_more owner parameters front (Some tree) None (default_end front (Some tree))
    plain.1 plain.2 is
    tt)
closed_by_plain limit begun (in_field_default held front) tree sort place begins plain passed is =
    field_ends_plain limit begun held (plain_parameter front (Some tree)) sort begins plain.0
    (plain.1, (is, tt))
closed_by_plain limit begun (in_annotation holder annotations) tree sort place begins plain passed
    is = tt
closed_by_plain limit begun (in_base fronted annotations) tree sort place begins plain passed is =
    tt

value_step_plain : (limit : ℕ) (begun : Begun) (site : Site) (mode : Mode) (frames : List Frame)
    (sort : Sort)
    (place : Span) (token : Token) → Takes token sort place → BegunPlain begun → SitePlain site →
    SitePassed site → is_call_site site ≡ false → Led limit mode frames →
    OutcomePlain limit (value_step_of limit begun site mode frames sort place)
value_step_plain limit begun site mode frames sort place token takes begins plain passed own led =
    if_plain limit (closes site sort)
    (by_finish limit begun site mode frames sort place (finish limit mode frames))
    (expression_outcome begun site (mode_step limit mode frames sort place))
    (by (finish limit mode frames) refl) goes_on
  where
    goes_on : OutcomePlain limit (expression_outcome begun site
        (mode_step limit mode frames sort place))
    goes_on =
        expression_outcome_plain limit begun site mode frames sort place token takes begins plain
        passed own led

    closing : (tree : Tree) → finish limit mode frames ≡ finished tree → (test : Bool) →
        is_bracket sort ≡ test → OutcomePlain limit (if test then on
        (within begun (opened site mode frames place))
        else closed_by begun site tree sort place)
    closing tree ends true is = (
      begins,
      (
        plain,
        passed,
        own,
        led,
        (token, subst (λ (s : Sort). Takes token s place) (bracket_sort sort is) takes),
        (tree, ends),
      ),
    )
    closing tree ends false is =
        closed_by_plain limit begun site tree sort place begins plain passed
        (led_tree limit mode frames tree led ends)

    by : (end : Finish) → finish limit mode frames ≡ end →
        OutcomePlain limit (by_finish limit begun site mode frames sort place end)
    by (finished tree) ends = closing tree ends (is_bracket sort) refl
    by ends_badly ends = goes_on
    by ends_deep ends = tt

pub expression_plain : (limit : ℕ) (begun : Begun) (site : Site) (mode : Mode) (frames : List Frame)
    (sort : Sort)
    (place : Span) (token : Token) → Takes token sort place → BegunPlain begun → SitePlain site →
    SitePassed site → Led (room_of limit site) mode frames →
    OutcomePlain limit (expression_step limit begun site mode frames sort place)
expression_plain limit begun (in_function_body fronted parameters frequency annotations) mode frames
    sort place
    token takes begins plain passed led =
    value_step_plain limit begun (in_function_body fronted parameters frequency annotations) mode
    frames sort place
    token takes begins plain passed refl led
expression_plain limit begun (in_default owner parameters front) mode frames sort place token takes
    begins plain
    passed led =
    value_step_plain limit begun (in_default owner parameters front) mode frames sort place token
    takes begins
    plain passed refl led
expression_plain limit begun (in_field_default held front) mode frames sort place token takes begins
    plain passed
    led =
    value_step_plain limit begun (in_field_default held front) mode frames sort place token takes
    begins plain
    passed refl led
expression_plain limit begun (in_annotation holder annotations) mode frames sort place token takes
    begins plain
    passed led =
    call_step_plain limit begun (in_annotation holder annotations) mode frames sort place token
    takes begins plain
    passed refl led
expression_plain limit begun (in_base fronted annotations) mode frames sort place token takes begins
    plain passed
    led =
    call_step_plain limit begun (in_base fronted annotations) mode frames sort place token takes
    begins plain
    passed refl led

-- Behind `[`.

holder_plain : (limit : ℕ) (site : Site) (tree : Tree) → SitePlain site → NoneDeferred tree →
    HolderPlain (holder_of site tree)
holder_plain limit (in_default owner parameters front) tree plain is =
    (plain.0, plain.1, plain.2, is)
holder_plain limit (in_field_default held front) tree plain is = (plain.0, plain.1, is)
holder_plain limit site tree plain is = tt

unless_wrong_plain : (limit : ℕ) (made : Outcome) → OutcomePlain limit (unless_wrong made)
unless_wrong_plain limit wrong = tt
unless_wrong_plain limit made = tt

pub opened_plain : (limit : ℕ) (begun : Begun) (site : Site) (mode : Mode) (frames : List Frame)
    (bracket : Span)
    (sort : Sort) (place : Span) (token : Token) → Takes token sort place → BegunPlain begun →
    PositionPlain limit (opened site mode frames bracket) →
    OutcomePlain limit (opened_step limit begun site mode frames bracket sort place)
opened_plain limit begun site mode frames bracket sort place token takes begins
    (plain, passed, own, led, (mark, marks), (tree, ends)) =
    if_plain limit (is_bracket sort) (annotations_behind begun site (finish limit mode frames))
    (index_outcome limit begun site sort place (mode_step limit mode frames opening_bracket
    bracket))
    (by (finish limit mode frames) refl) (index (mode_step limit mode frames opening_bracket
    bracket) refl)
  where
    by : (end : Finish) → finish limit mode frames ≡ end →
        OutcomePlain limit (annotations_behind begun site end)
    by (finished whole) is =
        (begins, holder_plain limit site whole plain (led_tree limit mode frames whole led is))
    by ends_badly is = tt
    by ends_deep is = tt

    index : (made : Step) → mode_step limit mode frames opening_bracket bracket ≡ made →
        OutcomePlain limit (index_outcome limit begun site sort place made)
    index (goes after below) is =
        expression_outcome_plain limit begun site after below sort place token takes begins plain
        passed own
        (led_on limit mode frames opening_bracket bracket mark marks led after below is
        (subst StepPlain is (bracket_plain limit mode frames tree bracket ends)))
    index bad is = tt
    index deep is =
        unless_wrong_plain limit (expression_outcome begun site
        (mode_step limit wanted [] sort place))
    index (is_left_out text) is = tt

pub first_annotation_plain : (limit : ℕ) (begun : Begun) (holder : Holder) (sort : Sort)
    (place : Span)
    (token : Token) → Takes token sort place → BegunPlain begun → HolderPlain holder →
    OutcomePlain limit (first_annotation_step limit begun holder sort place)
first_annotation_plain limit begun holder closing_bracket place token takes begins plain =
    (begins, (plain, tt))
first_annotation_plain limit begun holder sort place token takes begins plain =
    call_step_plain limit begun (in_annotation holder []) wanted [] sort place token takes begins
    (plain, tt) tt
    refl ([], here wanted [])

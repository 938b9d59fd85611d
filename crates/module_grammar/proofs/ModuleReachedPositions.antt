-- From where the machine of modules has come, each step comes only to states that can be led on.
use Rattle.std.proofs.Common.{◌≡◌, refl, ℕ, suc, Bool, true, false, List, [], ◌∷◌, ◌++◌}
use Rattle.std.proofs.Common.{Some, if◌then◌else◌}
use Rattle.std.proofs.lemmas.Bool.{false≢true}
use Rattle.mdl_syntax.specs.declared.names.Span.{Span}
use Rattle.mdl_syntax.specs.declared.expressions.Lit.TheVariants as lit
use Rattle.mdl_syntax.specs.declared.modules.VersionLit.{VersionLit}
use Rattle.mdl_syntax.specs.Trees.{Tree, call}
use Rattle.mdl_syntax.specs.Modules.{Annotation}
use Rattle.module_grammar.specs.inside.ModuleMachine.{is_call_site, may_name}
use Rattle.module_grammar.specs.inside.ModuleStates.{plain_parameter}
use Rattle.module_grammar.specs.inside.ModuleMachine.{call_read, whole_call, call_goes, call_outcome}
use Rattle.module_grammar.specs.inside.ModuleMachine.{expression_outcome, call_step, closes}
use Rattle.module_grammar.specs.inside.ModuleMachine.{closed_by, is_bracket, by_finish}
use Rattle.module_grammar.specs.inside.ModuleMachine.{value_step_of, expression_step}
use Rattle.module_grammar.specs.inside.ModuleMachine.{annotations_behind, unless_wrong}
use Rattle.module_grammar.specs.inside.ModuleMachine.{index_outcome, opened_step}
use Rattle.module_grammar.specs.inside.ModuleMachine.{first_annotation_step, position_step}
use Rattle.module_grammar.specs.inside.ModuleMachine.{version_step, version_ends, state_step}
use Rattle.module_grammar.specs.inside.ModuleMachine.{module_sort_step}
use Rattle.module_grammar.specs.inside.ModuleStates.{Begun, Holder, Site}
use Rattle.module_grammar.specs.inside.ModuleStates.{Position, State, Outcome, in_function_body}
use Rattle.module_grammar.specs.inside.ModuleStates.{in_default, in_field_default, in_annotation}
use Rattle.module_grammar.specs.inside.ModuleStates.{in_base, of_parameter, item_wanted, importing}
use Rattle.module_grammar.specs.inside.ModuleStates.{imported, using, used_wanted, used_read}
use Rattle.module_grammar.specs.inside.ModuleStates.{used_next, used_all, own_wanted}
use Rattle.module_grammar.specs.inside.ModuleStates.{annotations_begun, first_annotation}
use Rattle.module_grammar.specs.inside.ModuleStates.{annotation_read, annotations_closing}
use Rattle.module_grammar.specs.inside.ModuleStates.{annotated, exported_read, kin_named}
use Rattle.module_grammar.specs.inside.ModuleStates.{annotation_named, fronting, declared}
use Rattle.module_grammar.specs.inside.ModuleStates.{parameters_begun, star_read, variant_read}
use Rattle.module_grammar.specs.inside.ModuleStates.{base_read, parameter_read, parameter_next}
use Rattle.module_grammar.specs.inside.ModuleStates.{function_read, annotation_declared}
use Rattle.module_grammar.specs.inside.ModuleStates.{struct_named, fields_read, field_read}
use Rattle.module_grammar.specs.inside.ModuleStates.{enum_named, value_wanted, value_read}
use Rattle.module_grammar.specs.inside.ModuleStates.{number_wanted, number_read, struct_closed}
use Rattle.module_grammar.specs.inside.ModuleStates.{enum_closed, expression, opened, mdl_wanted}
use Rattle.module_grammar.specs.inside.ModuleStates.{version_wanted, version_read, within, on}
use Rattle.module_grammar.specs.inside.ModuleStates.{wrong}
use Rattle.expression_grammar.specs.inside.Machine.{head_step, mode_step, finish, Sort, Frame, Mode}
use Rattle.expression_grammar.specs.inside.Machine.{Step, Finish, other_literal, opening_bracket}
use Rattle.expression_grammar.specs.inside.Machine.{closing_bracket, semicolon, mdl_word, left_out}
use Rattle.expression_grammar.specs.inside.Machine.{wanted, complete, goes, bad, deep, is_left_out}
use Rattle.expression_grammar.specs.inside.Machine.{finished, ends_badly, ends_deep}
use Rattle.module_grammar.proofs.ModuleViableFronts.{IsUnnamed}
use Rattle.module_grammar.proofs.ModuleViableSites.{IsBodyPlain}
use Rattle.module_grammar.proofs.ModuleReachedSteps.{PositionComes, StateComes, ComesTo}
use Rattle.module_grammar.proofs.ModuleReachedSteps.{either_comes, started, import_ends_comes}
use Rattle.module_grammar.proofs.ModuleReachedSteps.{import_step_comes, using_step_comes}
use Rattle.module_grammar.proofs.ModuleReachedSteps.{used_wanted_comes, used_read_comes}
use Rattle.module_grammar.proofs.ModuleReachedSteps.{used_next_comes, used_all_comes, front_comes}
use Rattle.module_grammar.proofs.ModuleReachedSteps.{item_comes, exported_comes, kin_comes}
use Rattle.module_grammar.proofs.ModuleReachedSteps.{annotation_named_comes, declared_comes}
use Rattle.module_grammar.proofs.ModuleReachedSteps.{parameters_comes, parameter_ends_comes}
use Rattle.module_grammar.proofs.ModuleReachedSteps.{parameter_comes, star_read_comes, variant_comes}
use Rattle.module_grammar.proofs.ModuleReachedSteps.{base_comes, function_comes}
use Rattle.module_grammar.proofs.ModuleReachedSteps.{annotation_declared_comes, struct_named_comes}
use Rattle.module_grammar.proofs.ModuleReachedSteps.{fields_comes, field_ends_comes, field_comes}
use Rattle.module_grammar.proofs.ModuleReachedSteps.{struct_closed_comes, enum_named_comes}
use Rattle.module_grammar.proofs.ModuleReachedSteps.{value_wanted_comes, value_comes, number_comes}
use Rattle.module_grammar.proofs.ModuleReachedSteps.{number_read_comes, enum_closed_comes}
use Rattle.module_grammar.proofs.ModuleReachedSteps.{second_bracket_comes, own_comes}
use Rattle.module_grammar.proofs.ModuleReachedSteps.{annotation_read_comes, closing_comes}
use Rattle.module_grammar.proofs.ModuleReachedSteps.{annotated_comes}

-- Expressions.

expression_outcome_comes : (strict : Bool) (begun : Begun) (site : Site) (made : Step) →
    (strict ≡ true → IsBodyPlain site) → ComesTo strict (expression_outcome begun site made)
expression_outcome_comes strict begun site (goes mode frames) body =
    started strict site mode frames body
expression_outcome_comes strict begun site bad body = tt
expression_outcome_comes strict begun site deep body = tt
expression_outcome_comes strict begun site (is_left_out text) body = tt

closed_by_comes : (strict : Bool) (begun : Begun) (site : Site) (tree : Tree) (sort : Sort)
    (own : Span) → ComesTo strict (closed_by begun site tree sort own)
closed_by_comes strict begun (in_function_body fronted parameters frequency annotations) tree sort
    own = tt
closed_by_comes strict begun (in_default owner parameters front) tree sort own =
    parameter_ends_comes strict begun owner (parameters ++ plain_parameter front (Some tree) ∷ [])
    sort
closed_by_comes strict begun (in_field_default held front) tree sort own =
    field_ends_comes strict begun held (plain_parameter front (Some tree)) sort
closed_by_comes strict begun (in_annotation holder annotations) tree sort own = tt
closed_by_comes strict begun (in_base fronted annotations) tree sort own = tt

bracket_closes : (site : Site) (sort : Sort) → closes site sort ≡ true → is_bracket sort ≡ true →
    closes site opening_bracket ≡ true
bracket_closes site opening_bracket closed is = closed
bracket_closes site sort closed is = absurd (false≢true is)

finish_comes : (strict : Bool) (limit : ℕ) (begun : Begun) (site : Site) (mode : Mode)
    (frames : List Frame) (sort : Sort) (own : Span) (end : Finish) → closes site sort ≡ true →
    (strict ≡ true → IsBodyPlain site) →
    ComesTo strict (by_finish limit begun site mode frames sort own end)
finish_comes strict limit begun site mode frames sort own (finished tree) closed body =
    by (is_bracket sort) refl
  where
    by : (test : Bool) → is_bracket sort ≡ test →
        ComesTo strict (if test then on (within begun (opened site mode frames own))
        else closed_by begun site tree sort own)
    by true is = bracket_closes site sort closed is
    by false is = closed_by_comes strict begun site tree sort own
finish_comes strict limit begun site mode frames sort own ends_badly closed body =
    expression_outcome_comes strict begun site (mode_step limit mode frames sort own) body
finish_comes strict limit begun site mode frames sort own ends_deep closed body = tt

value_site_comes : (strict : Bool) (limit : ℕ) (begun : Begun) (site : Site) (mode : Mode)
    (frames : List Frame) (sort : Sort) (own : Span) → (strict ≡ true → IsBodyPlain site) →
    ComesTo strict (value_step_of limit begun site mode frames sort own)
value_site_comes strict limit begun site mode frames sort own body = by (closes site sort) refl
  where
    by : (test : Bool) → closes site sort ≡ test →
        ComesTo strict (if test
        then by_finish limit begun site mode frames sort own (finish limit mode frames)
        else expression_outcome begun site (mode_step limit mode frames sort own))
    by true closed =
        finish_comes strict limit begun site mode frames sort own (finish limit mode frames) closed
        body
    by false closed =
        expression_outcome_comes strict begun site (mode_step limit mode frames sort own) body

call_read_comes : (strict : Bool) (begun : Begun) (site : Site) (one : Annotation) →
    PositionComes strict (call_read begun site one)
call_read_comes strict begun (in_function_body fronted parameters frequency annotations) one = tt
call_read_comes strict begun (in_default owner parameters front) one = tt
call_read_comes strict begun (in_field_default held front) one = tt
call_read_comes strict begun (in_annotation holder annotations) one = tt
call_read_comes strict begun (in_base fronted annotations) one = tt

whole_call_comes : (strict : Bool) (begun : Begun) (site : Site) (tree : Tree) →
    (strict ≡ true → IsBodyPlain site) → PositionComes strict (whole_call begun site tree)
whole_call_comes strict begun site (call name own span) body = call_read_comes strict begun site _
whole_call_comes strict begun site tree body = body

call_goes_comes : (strict : Bool) (begun : Begun) (site : Site) (mode : Mode)
    (frames : List Frame) → (strict ≡ true → IsBodyPlain site) →
    StateComes strict (call_goes begun site mode frames)
call_goes_comes strict begun site (complete tree) [] body =
    whole_call_comes strict begun site tree body
call_goes_comes strict begun site (complete tree) (frame ∷ frames) body = body
call_goes_comes strict begun site mode [] body = started strict site mode [] body
call_goes_comes strict begun site mode (frame ∷ frames) body =
    started strict site mode (frame ∷ frames) body

call_outcome_comes : (strict : Bool) (begun : Begun) (site : Site) (made : Step) →
    (strict ≡ true → IsBodyPlain site) → ComesTo strict (call_outcome begun site made)
call_outcome_comes strict begun site (goes mode frames) body =
    call_goes_comes strict begun site mode frames body
call_outcome_comes strict begun site bad body = tt
call_outcome_comes strict begun site deep body = tt
call_outcome_comes strict begun site (is_left_out text) body = tt

call_step_comes : (strict : Bool) (limit : ℕ) (begun : Begun) (site : Site) (mode : Mode)
    (frames : List Frame) (sort : Sort) (own : Span) → (strict ≡ true → IsBodyPlain site) →
    ComesTo strict (call_step limit begun site mode frames sort own)
call_step_comes strict limit begun site mode [] sort own body =
    either_comes strict (may_name mode sort)
    (call_outcome begun site (mode_step (suc limit) mode [] sort own)) wrong
    (call_outcome_comes strict begun site (mode_step (suc limit) mode [] sort own) body) tt
call_step_comes strict limit begun site mode (frame ∷ frames) sort own body =
    call_outcome_comes strict begun site (mode_step (suc limit) mode (frame ∷ frames) sort own) body

expression_comes : (strict : Bool) (limit : ℕ) (begun : Begun) (site : Site) (mode : Mode)
    (frames : List Frame) (sort : Sort) (own : Span) → (strict ≡ true → IsBodyPlain site) →
    ComesTo strict (expression_step limit begun site mode frames sort own)
expression_comes strict limit begun site mode frames sort own body =
    either_comes strict (is_call_site site) (call_step limit begun site mode frames sort own)
    (value_step_of limit begun site mode frames sort own)
    (call_step_comes strict limit begun site mode frames sort own body)
    (value_site_comes strict limit begun site mode frames sort own body)

behind_comes : (strict : Bool) (begun : Begun) (site : Site) (end : Finish) →
    ComesTo strict (annotations_behind begun site end)
behind_comes strict begun site (finished tree) = tt
behind_comes strict begun site ends_badly = tt
behind_comes strict begun site ends_deep = tt

unless_comes : (strict : Bool) (made : Outcome) → ComesTo strict (unless_wrong made)
unless_comes strict wrong = tt
unless_comes strict made = tt

index_comes : (strict : Bool) (limit : ℕ) (begun : Begun) (site : Site) (sort : Sort) (own : Span)
    (made : Step) → (strict ≡ true → IsBodyPlain site) →
    ComesTo strict (index_outcome limit begun site sort own made)
index_comes strict limit begun site sort own (goes mode below) body =
    expression_outcome_comes strict begun site (mode_step limit mode below sort own) body
index_comes strict limit begun site sort own bad body = tt
index_comes strict limit begun site sort own deep body =
    unless_comes strict (expression_outcome begun site (mode_step limit wanted [] sort own))
index_comes strict limit begun site sort own (is_left_out text) body = tt

opened_comes : (strict : Bool) (limit : ℕ) (begun : Begun) (site : Site) (mode : Mode)
    (frames : List Frame) (bracket : Span) (sort : Sort) (own : Span) →
    (strict ≡ true → IsBodyPlain site) →
    ComesTo strict (opened_step limit begun site mode frames bracket sort own)
opened_comes strict limit begun site mode frames bracket sort own body =
    either_comes strict (is_bracket sort) (annotations_behind begun site (finish limit mode frames))
    (index_outcome limit begun site sort own (mode_step limit mode frames opening_bracket bracket))
    (behind_comes strict begun site (finish limit mode frames))
    (index_comes strict limit begun site sort own
    (mode_step limit mode frames opening_bracket bracket) body)

first_comes : (strict : Bool) (limit : ℕ) (begun : Begun) (holder : Holder) (sort : Sort)
    (own : Span) → ComesTo strict (first_annotation_step limit begun holder sort own)
first_comes strict limit begun holder closing_bracket own = tt
first_comes strict limit begun holder sort own =
    call_step_comes strict limit begun (in_annotation holder []) wanted [] sort own
    (λ strictly. tt)

bracket_plain : (site : Site) → closes site opening_bracket ≡ true → IsBodyPlain site
bracket_plain (in_function_body fronted parameters frequency annotations) is =
    absurd (false≢true is)
bracket_plain (in_default owner parameters front) is = tt
bracket_plain (in_field_default held front) is = tt
bracket_plain (in_annotation holder annotations) is = tt
bracket_plain (in_base fronted annotations) is = tt

-- All positions.

-- where the machine has come to
abbrev pub PositionReached : Bool → Position → Type 0
PositionReached strict (fronting of mode) = IsUnnamed mode
PositionReached strict (opened site mode frames bracket) = closes site opening_bracket ≡ true
PositionReached strict (expression site mode frames) = strict ≡ true → IsBodyPlain site
PositionReached strict position = Unit {0}

abbrev pub StateReached : Bool → State → Type 0
StateReached strict (within begun position) = PositionReached strict position
StateReached strict state = Unit {0}

position_comes : (strict : Bool) (limit token : ℕ) (begun : Begun) (position : Position)
    (sort : Sort) (own : Span) → PositionReached strict position →
    ComesTo strict (position_step limit token begun position sort own)
position_comes strict limit token begun (item_wanted early) sort own reached =
    item_comes strict token begun early sort own
position_comes strict limit token begun (importing at items naming) sort own reached =
    import_step_comes strict begun at items naming sort own
position_comes strict limit token begun (imported at items) sort own reached =
    import_ends_comes strict begun at items sort own
position_comes strict limit token begun (using at naming) sort own reached =
    using_step_comes strict begun at naming sort own
position_comes strict limit token begun (used_wanted at name) sort own reached =
    used_wanted_comes strict begun at name sort own
position_comes strict limit token begun (used_read at name names) sort own reached =
    used_read_comes strict begun at name names sort own
position_comes strict limit token begun (used_next at name names) sort own reached =
    used_next_comes strict begun at name names sort own
position_comes strict limit token begun (used_all at name) sort own reached =
    used_all_comes strict begun at name sort own
position_comes strict limit token begun own_wanted sort own reached = own_comes strict begun sort
position_comes strict limit token begun (annotations_begun holder) sort own reached =
    second_bracket_comes strict begun holder sort
position_comes strict limit token begun (first_annotation holder) sort own reached =
    first_comes strict limit begun holder sort own
position_comes strict limit token begun (annotation_read holder annotations) sort own reached =
    annotation_read_comes strict begun holder annotations sort
position_comes strict limit token begun (annotations_closing holder annotations) sort own
    reached =
    closing_comes strict begun holder annotations sort own
position_comes strict limit token begun (annotated holder annotations end) sort own reached =
    annotated_comes strict begun holder annotations end sort own
position_comes strict limit token begun (exported_read at) sort own reached =
    exported_comes strict token begun at sort own
position_comes strict limit token begun (kin_named at exported kin) sort own reached =
    kin_comes strict begun at exported kin sort own
position_comes strict limit token begun (annotation_named named) sort own reached =
    annotation_named_comes strict begun named sort
position_comes strict limit token begun (fronting of mode) sort own reached =
    front_comes strict token begun of (mode_step limit mode [] sort own)
position_comes strict limit token begun (declared fronted) sort own reached =
    declared_comes strict begun fronted sort
position_comes strict limit token begun (parameters_begun owner) sort own reached =
    parameters_comes strict token begun owner sort own
position_comes strict limit token begun (star_read fronted) sort own reached =
    star_read_comes strict begun fronted sort
position_comes strict limit token begun (variant_read fronted) sort own reached =
    variant_comes strict begun fronted sort
position_comes strict limit token begun (base_read fronted annotations tree) sort own reached =
    base_comes strict begun fronted annotations tree sort own
position_comes strict limit token begun (parameter_read owner parameters front) sort own reached =
    parameter_comes strict begun owner parameters front sort
position_comes strict limit token begun (parameter_next owner parameters) sort own reached =
    front_comes strict token begun (of_parameter owner parameters) (head_step [] sort own)
position_comes strict limit token begun (function_read fronted parameters frequency) sort own
    reached =
    function_comes strict begun fronted parameters frequency sort own
position_comes strict limit token begun (annotation_declared named parameters) sort own reached =
    annotation_declared_comes strict begun named parameters sort own
position_comes strict limit token begun (struct_named named) sort own reached =
    struct_named_comes strict begun named sort
position_comes strict limit token begun (fields_read held) sort own reached =
    fields_comes strict token begun held sort own
position_comes strict limit token begun (field_read held front) sort own reached =
    field_comes strict begun held front sort
position_comes strict limit token begun (enum_named named) sort own reached =
    enum_named_comes strict begun named sort
position_comes strict limit token begun (value_wanted held) sort own reached =
    value_wanted_comes strict begun held sort own
position_comes strict limit token begun (value_read held name) sort own reached =
    value_comes strict begun held name sort
position_comes strict limit token begun (number_wanted held name) sort own reached =
    number_comes strict begun held name sort own
position_comes strict limit token begun (number_read held name value end) sort own reached =
    number_read_comes strict begun held name value end sort
position_comes strict limit token begun (struct_closed held) sort own reached =
    struct_closed_comes strict begun held sort own
position_comes strict limit token begun (enum_closed held) sort own reached =
    enum_closed_comes strict begun held sort own
position_comes strict limit token begun (expression site mode frames) sort own reached =
    expression_comes strict limit begun site mode frames sort own reached
position_comes strict limit token begun (opened site mode frames bracket) sort own reached =
    opened_comes strict limit begun site mode frames bracket sort own
    (λ strictly. bracket_plain site reached)

version_comes : (strict : Bool) (at : ℕ) (sort : Sort) (own : Span) →
    ComesTo strict (version_step at sort own)
version_comes strict at (other_literal (lit.Real text double)) own = tt
version_comes strict at sort own = tt

version_ends_comes : (strict : Bool) (at : ℕ) (version : VersionLit) (sort : Sort) (own : Span) →
    ComesTo strict (version_ends at version sort own)
version_ends_comes strict at version semicolon own = tt
version_ends_comes strict at version sort own = tt

state_comes : (strict : Bool) (limit token : ℕ) (state : State) (sort : Sort) (own : Span) →
    StateReached strict state → ComesTo strict (state_step limit token state sort own)
state_comes strict limit token mdl_wanted mdl_word own reached = tt
state_comes strict limit token mdl_wanted sort own reached = tt
state_comes strict limit token (version_wanted at) sort own reached =
    version_comes strict at sort own
state_comes strict limit token (version_read at version) sort own reached =
    version_ends_comes strict at version sort own
state_comes strict limit token (within begun position) sort own reached =
    position_comes strict limit token begun position sort own reached

pub sort_comes : (strict : Bool) (limit token : ℕ) (state : State) (sort : Sort) (own : Span) →
    StateReached strict state → ComesTo strict (module_sort_step limit token state sort own)
sort_comes strict limit token state (left_out text) own reached = tt
sort_comes strict limit token state sort own reached =
    state_comes strict limit token state sort own reached

-- What the machine of modules leaves out, and why, from each of its states.
use Rattle.std.proofs.Common.{◌≡◌, sym, ℕ, suc, false, List, [], ◌∷◌, ◌++◌, Some}
use Rattle.std.proofs.lemmas.Bool.{false≢true}
use Rattle.mdl_syntax.specs.declared.names.Span.{Span}
use Rattle.mdl_syntax.specs.declared.expressions.Lit.TheVariants as lit
use Rattle.mdl_syntax.specs.declared.modules.VersionLit.{VersionLit}
use Rattle.mdl_syntax.specs.Trees.{Tree}
use Rattle.module_grammar.specs.inside.ModuleMachine.{is_call_site, may_name}
use Rattle.module_grammar.specs.inside.ModuleStates.{plain_parameter}
use Rattle.module_grammar.specs.inside.ModuleMachine.{call_outcome, expression_outcome, call_step}
use Rattle.module_grammar.specs.inside.ModuleMachine.{closes, closed_by, is_bracket, by_finish}
use Rattle.module_grammar.specs.inside.ModuleMachine.{value_step_of, expression_step}
use Rattle.module_grammar.specs.inside.ModuleMachine.{annotations_behind, unless_wrong, index_outcome}
use Rattle.module_grammar.specs.inside.ModuleMachine.{opened_step, first_annotation_step}
use Rattle.module_grammar.specs.inside.ModuleMachine.{position_step, version_step, version_ends}
use Rattle.module_grammar.specs.inside.ModuleMachine.{state_step, module_sort_step}
use Rattle.module_grammar.specs.inside.ModuleStates.{Begun, Holder}
use Rattle.module_grammar.specs.inside.ModuleStates.{Site, Position, State, Outcome, in_function_body}
use Rattle.module_grammar.specs.inside.ModuleStates.{in_default, in_field_default, in_annotation}
use Rattle.module_grammar.specs.inside.ModuleStates.{in_base, of_parameter, item_wanted, importing}
use Rattle.module_grammar.specs.inside.ModuleStates.{imported, using, used_wanted, used_read}
use Rattle.module_grammar.specs.inside.ModuleStates.{used_next, used_all, own_wanted}
use Rattle.module_grammar.specs.inside.ModuleStates.{annotations_begun, first_annotation}
use Rattle.module_grammar.specs.inside.ModuleStates.{annotation_read, annotations_closing, annotated}
use Rattle.module_grammar.specs.inside.ModuleStates.{exported_read, kin_named, annotation_named}
use Rattle.module_grammar.specs.inside.ModuleStates.{fronting, declared, parameters_begun, star_read}
use Rattle.module_grammar.specs.inside.ModuleStates.{variant_read, base_read, parameter_read}
use Rattle.module_grammar.specs.inside.ModuleStates.{parameter_next, function_read}
use Rattle.module_grammar.specs.inside.ModuleStates.{annotation_declared, struct_named, fields_read}
use Rattle.module_grammar.specs.inside.ModuleStates.{field_read, enum_named, value_wanted, value_read}
use Rattle.module_grammar.specs.inside.ModuleStates.{number_wanted, number_read, struct_closed}
use Rattle.module_grammar.specs.inside.ModuleStates.{enum_closed, expression, opened, mdl_wanted}
use Rattle.module_grammar.specs.inside.ModuleStates.{version_wanted, version_read, within, on, wrong}
use Rattle.expression_grammar.specs.inside.Machine.{head_step, mode_step, finish, Sort, Frame, Mode, Step}
use Rattle.expression_grammar.specs.inside.Machine.{Finish, other_literal, opening_bracket}
use Rattle.expression_grammar.specs.inside.Machine.{closing_bracket, semicolon, mdl_word, left_out, wanted}
use Rattle.expression_grammar.specs.inside.Machine.{goes, bad, deep, is_left_out, finished, ends_badly}
use Rattle.expression_grammar.specs.inside.Machine.{ends_deep}
use Rattle.module_grammar.proofs.ModuleLeftOutSteps.{kept_told, either_keeps, import_ends_keeps}
use Rattle.module_grammar.proofs.ModuleLeftOutSteps.{import_step_told, using_step_told}
use Rattle.module_grammar.proofs.ModuleLeftOutSteps.{used_wanted_told, used_read_keeps}
use Rattle.module_grammar.proofs.ModuleLeftOutSteps.{used_next_keeps, used_all_keeps, mode_kept}
use Rattle.module_grammar.proofs.ModuleLeftOutSteps.{head_kept, front_keeps, item_keeps, exported_told}
use Rattle.module_grammar.proofs.ModuleLeftOutSteps.{kin_keeps, annotation_named_keeps, declared_keeps}
use Rattle.module_grammar.proofs.ModuleLeftOutSteps.{parameters_keeps, parameter_ends_keeps}
use Rattle.module_grammar.proofs.ModuleLeftOutSteps.{parameter_keeps, star_read_keeps, variant_keeps}
use Rattle.module_grammar.proofs.ModuleLeftOutSteps.{base_keeps, function_keeps}
use Rattle.module_grammar.proofs.ModuleLeftOutSteps.{annotation_declared_keeps, struct_named_keeps}
use Rattle.module_grammar.proofs.ModuleLeftOutSteps.{fields_keeps, field_ends_keeps, field_keeps}
use Rattle.module_grammar.proofs.ModuleLeftOutSteps.{struct_closed_keeps, enum_named_keeps}
use Rattle.module_grammar.proofs.ModuleLeftOutSteps.{value_wanted_keeps, value_keeps, number_keeps}
use Rattle.module_grammar.proofs.ModuleLeftOutSteps.{number_read_keeps, enum_closed_keeps}
use Rattle.module_grammar.proofs.ModuleLeftOutSteps.{second_bracket_keeps, own_keeps}
use Rattle.module_grammar.proofs.ModuleLeftOutSteps.{annotation_read_keeps, closing_keeps}
use Rattle.module_grammar.proofs.ModuleLeftOutSteps.{annotated_keeps, LeavesBy, leaves_word, IsTold}
use Rattle.module_grammar.proofs.ModuleLeftOutSteps.{IsKept}
use Rattle.expression_grammar.proofs.TakenLaws.{leaves}

-- Expressions.

expression_outcome_keeps : (begun : Begun) (site : Site) (made : Step) → leaves made ≡ false →
    IsKept (expression_outcome begun site made)
expression_outcome_keeps begun site (goes mode frames) kept = tt
expression_outcome_keeps begun site bad kept = tt
expression_outcome_keeps begun site deep kept = tt
expression_outcome_keeps begun site (is_left_out text) kept = absurd (false≢true (sym kept))

made_keeps : (limit : ℕ) (begun : Begun) (site : Site) (mode : Mode) (frames : List Frame)
    (sort : Sort) (own : Span) →
    IsKept (expression_outcome begun site (mode_step limit mode frames sort own))
made_keeps limit begun site mode frames sort own =
    expression_outcome_keeps begun site (mode_step limit mode frames sort own)
    (mode_kept limit mode frames sort own)

closed_by_keeps : (begun : Begun) (site : Site) (tree : Tree) (sort : Sort)
    (own : Span) → IsKept (closed_by begun site tree sort own)
closed_by_keeps begun (in_function_body fronted parameters frequency annotations) tree sort
    own = tt
closed_by_keeps begun (in_default owner parameters front) tree sort own =
    parameter_ends_keeps begun owner (parameters ++ plain_parameter front (Some tree) ∷ [])
    sort
closed_by_keeps begun (in_field_default held front) tree sort own =
    field_ends_keeps begun held (plain_parameter front (Some tree)) sort
closed_by_keeps begun (in_annotation holder annotations) tree sort own = tt
closed_by_keeps begun (in_base fronted annotations) tree sort own = tt

finish_keeps : (limit : ℕ) (begun : Begun) (site : Site) (mode : Mode) (frames : List Frame)
    (sort : Sort) (own : Span) (end : Finish) →
    IsKept (by_finish limit begun site mode frames sort own end)
finish_keeps limit begun site mode frames sort own (finished tree) =
    either_keeps (is_bracket sort) (on (within begun (opened site mode frames own)))
    (closed_by begun site tree sort own) tt (closed_by_keeps begun site tree sort own)
finish_keeps limit begun site mode frames sort own ends_badly =
    made_keeps limit begun site mode frames sort own
finish_keeps limit begun site mode frames sort own ends_deep = tt

value_site_keeps : (limit : ℕ) (begun : Begun) (site : Site) (mode : Mode) (frames : List Frame)
    (sort : Sort) (own : Span) →
    IsKept (value_step_of limit begun site mode frames sort own)
value_site_keeps limit begun site mode frames sort own =
    either_keeps (closes site sort)
    (by_finish limit begun site mode frames sort own (finish limit mode frames))
    (expression_outcome begun site (mode_step limit mode frames sort own))
    (finish_keeps limit begun site mode frames sort own (finish limit mode frames))
    (made_keeps limit begun site mode frames sort own)

call_outcome_keeps : (begun : Begun) (site : Site) (made : Step) → leaves made ≡ false →
    IsKept (call_outcome begun site made)
call_outcome_keeps begun site (goes mode frames) kept = tt
call_outcome_keeps begun site bad kept = tt
call_outcome_keeps begun site deep kept = tt
call_outcome_keeps begun site (is_left_out text) kept = absurd (false≢true (sym kept))

call_step_keeps : (limit : ℕ) (begun : Begun) (site : Site) (mode : Mode) (frames : List Frame)
    (sort : Sort) (own : Span) → IsKept (call_step limit begun site mode frames sort own)
call_step_keeps limit begun site mode [] sort own =
    either_keeps (may_name mode sort)
    (call_outcome begun site (mode_step (suc limit) mode [] sort own)) wrong
    (call_outcome_keeps begun site (mode_step (suc limit) mode [] sort own)
    (mode_kept (suc limit) mode [] sort own)) tt
call_step_keeps limit begun site mode (frame ∷ frames) sort own =
    call_outcome_keeps begun site (mode_step (suc limit) mode (frame ∷ frames) sort own)
    (mode_kept (suc limit) mode (frame ∷ frames) sort own)

expression_keeps : (limit : ℕ) (begun : Begun) (site : Site) (mode : Mode) (frames : List Frame)
    (sort : Sort) (own : Span) → IsKept (expression_step limit begun site mode frames sort own)
expression_keeps limit begun site mode frames sort own =
    either_keeps (is_call_site site) (call_step limit begun site mode frames sort own)
    (value_step_of limit begun site mode frames sort own)
    (call_step_keeps limit begun site mode frames sort own)
    (value_site_keeps limit begun site mode frames sort own)

behind_keeps : (begun : Begun) (site : Site) (end : Finish) →
    IsKept (annotations_behind begun site end)
behind_keeps begun site (finished tree) = tt
behind_keeps begun site ends_badly = tt
behind_keeps begun site ends_deep = tt

unless_keeps : (made : Outcome) → IsKept (unless_wrong made)
unless_keeps wrong = tt
unless_keeps made = tt

index_keeps : (limit : ℕ) (begun : Begun) (site : Site) (sort : Sort) (own : Span) (made : Step) →
    leaves made ≡ false → IsKept (index_outcome limit begun site sort own made)
index_keeps limit begun site sort own (goes mode below) kept =
    made_keeps limit begun site mode below sort own
index_keeps limit begun site sort own bad kept = tt
index_keeps limit begun site sort own deep kept =
    unless_keeps (expression_outcome begun site (mode_step limit wanted [] sort own))
index_keeps limit begun site sort own (is_left_out text) kept = absurd (false≢true (sym kept))

opened_keeps : (limit : ℕ) (begun : Begun) (site : Site) (mode : Mode) (frames : List Frame)
    (bracket : Span) (sort : Sort) (own : Span) →
    IsKept (opened_step limit begun site mode frames bracket sort own)
opened_keeps limit begun site mode frames bracket sort own =
    either_keeps (is_bracket sort) (annotations_behind begun site (finish limit mode frames))
    (index_outcome limit begun site sort own (mode_step limit mode frames opening_bracket bracket))
    (behind_keeps begun site (finish limit mode frames))
    (index_keeps limit begun site sort own (mode_step limit mode frames opening_bracket bracket)
    (mode_kept limit mode frames opening_bracket bracket))

first_keeps : (limit : ℕ) (begun : Begun) (holder : Holder) (sort : Sort) (own : Span) →
    IsKept (first_annotation_step limit begun holder sort own)
first_keeps limit begun holder closing_bracket own = tt
first_keeps limit begun holder sort own =
    call_step_keeps limit begun (in_annotation holder []) wanted [] sort own

-- All positions.

-- where only words of no other sort are left out
abbrev IsPlain : Position → Type 0
IsPlain (importing at items naming) = ⊥
IsPlain (using at naming) = ⊥
IsPlain (used_wanted at name) = ⊥
IsPlain (exported_read at) = ⊥
IsPlain _ = Unit {0}

position_keeps : (limit token : ℕ) (begun : Begun) (position : Position) (sort : Sort)
    (own : Span) → IsPlain position → IsKept (position_step limit token begun position sort own)
position_keeps limit token begun (item_wanted early) sort own plain =
    item_keeps token begun early sort own
position_keeps limit token begun (importing at items naming) sort own plain = absurd plain
position_keeps limit token begun (imported at items) sort own plain =
    import_ends_keeps begun at items sort own
position_keeps limit token begun (using at naming) sort own plain = absurd plain
position_keeps limit token begun (used_wanted at name) sort own plain = absurd plain
position_keeps limit token begun (used_read at name names) sort own plain =
    used_read_keeps begun at name names sort own
position_keeps limit token begun (used_next at name names) sort own plain =
    used_next_keeps begun at name names sort own
position_keeps limit token begun (used_all at name) sort own plain =
    used_all_keeps begun at name sort own
position_keeps limit token begun own_wanted sort own plain =
    own_keeps begun sort
position_keeps limit token begun (annotations_begun holder) sort own plain =
    second_bracket_keeps begun holder sort
position_keeps limit token begun (first_annotation holder) sort own plain =
    first_keeps limit begun holder sort own
position_keeps limit token begun (annotation_read holder annotations) sort own plain =
    annotation_read_keeps begun holder annotations sort
position_keeps limit token begun (annotations_closing holder annotations) sort own plain =
    closing_keeps begun holder annotations sort own
position_keeps limit token begun (annotated holder annotations end) sort own plain =
    annotated_keeps begun holder annotations end sort own
position_keeps limit token begun (exported_read at) sort own plain = absurd plain
position_keeps limit token begun (kin_named at exported kin) sort own plain =
    kin_keeps begun at exported kin sort own
position_keeps limit token begun (annotation_named named) sort own plain =
    annotation_named_keeps begun named sort
position_keeps limit token begun (fronting of mode) sort own plain =
    front_keeps token begun of (mode_step limit mode [] sort own)
    (mode_kept limit mode [] sort own)
position_keeps limit token begun (declared fronted) sort own plain =
    declared_keeps begun fronted sort
position_keeps limit token begun (parameters_begun owner) sort own plain =
    parameters_keeps token begun owner sort own
position_keeps limit token begun (star_read fronted) sort own plain =
    star_read_keeps begun fronted sort
position_keeps limit token begun (variant_read fronted) sort own plain =
    variant_keeps begun fronted sort
position_keeps limit token begun (base_read fronted annotations tree) sort own plain =
    base_keeps begun fronted annotations tree sort own
position_keeps limit token begun (parameter_read owner parameters front) sort own plain =
    parameter_keeps begun owner parameters front sort
position_keeps limit token begun (parameter_next owner parameters) sort own plain =
    front_keeps token begun (of_parameter owner parameters) (head_step [] sort own)
    (head_kept sort own)
position_keeps limit token begun (function_read fronted parameters frequency) sort own plain =
    function_keeps begun fronted parameters frequency sort own
position_keeps limit token begun (annotation_declared named parameters) sort own plain =
    annotation_declared_keeps begun named parameters sort own
position_keeps limit token begun (struct_named named) sort own plain =
    struct_named_keeps begun named sort
position_keeps limit token begun (fields_read held) sort own plain =
    fields_keeps token begun held sort own
position_keeps limit token begun (field_read held front) sort own plain =
    field_keeps begun held front sort
position_keeps limit token begun (enum_named named) sort own plain =
    enum_named_keeps begun named sort
position_keeps limit token begun (value_wanted held) sort own plain =
    value_wanted_keeps begun held sort own
position_keeps limit token begun (value_read held name) sort own plain =
    value_keeps begun held name sort
position_keeps limit token begun (number_wanted held name) sort own plain =
    number_keeps begun held name sort own
position_keeps limit token begun (number_read held name value end) sort own plain =
    number_read_keeps begun held name value end sort
position_keeps limit token begun (struct_closed held) sort own plain =
    struct_closed_keeps begun held sort own
position_keeps limit token begun (enum_closed held) sort own plain =
    enum_closed_keeps begun held sort own
position_keeps limit token begun (expression site mode frames) sort own plain =
    expression_keeps limit begun site mode frames sort own
position_keeps limit token begun (opened site mode frames bracket) sort own plain =
    opened_keeps limit begun site mode frames bracket sort own

position_told : (limit token : ℕ) (begun : Begun) (position : Position) (sort : Sort)
    (own : Span) → IsTold (LeavesBy (within begun position) sort)
    (position_step limit token begun position sort own)
position_told limit token begun (importing at items naming) sort own =
    import_step_told begun at items naming sort own
position_told limit token begun (using at naming) sort own =
    using_step_told begun at naming sort own
position_told limit token begun (used_wanted at name) sort own =
    used_wanted_told begun at name sort own
position_told limit token begun (exported_read at) sort own =
    exported_told token begun at sort own
position_told limit token begun position sort own =
    kept_told (LeavesBy (within begun position) sort)
    (position_step limit token begun position sort own)
    (position_keeps limit token begun position sort own tt)

version_keeps : (at : ℕ) (sort : Sort) (own : Span) → IsKept (version_step at sort own)
version_keeps at (other_literal (lit.Real text double)) own = tt
version_keeps at sort own = tt

version_ends_keeps : (at : ℕ) (version : VersionLit) (sort : Sort) (own : Span) →
    IsKept (version_ends at version sort own)
version_ends_keeps at version semicolon own = tt
version_ends_keeps at version sort own = tt

state_told : (limit token : ℕ) (state : State) (sort : Sort) (own : Span) →
    IsTold (LeavesBy state sort) (state_step limit token state sort own)
state_told limit token mdl_wanted mdl_word own = tt
state_told limit token mdl_wanted sort own = tt
state_told limit token (version_wanted at) sort own =
    kept_told (LeavesBy (version_wanted at) sort) (version_step at sort own)
    (version_keeps at sort own)
state_told limit token (version_read at version) sort own =
    kept_told (LeavesBy (version_read at version) sort) (version_ends at version sort own)
    (version_ends_keeps at version sort own)
state_told limit token (within begun position) sort own =
    position_told limit token begun position sort own

-- what is left out is so for a reason
pub sort_told : (limit token : ℕ) (state : State) (sort : Sort) (own : Span) →
    IsTold (LeavesBy state sort) (module_sort_step limit token state sort own)
sort_told limit token state (left_out text) own = leaves_word state text
sort_told limit token state sort own = state_told limit token state sort own

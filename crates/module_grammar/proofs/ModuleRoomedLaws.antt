-- What the limit does to a step at each position of a module: nothing, or too deep below a need.
use Rattle.std.proofs.Common.{◌≡◌, refl, ℕ, suc, Bool, true, false, List, [], ◌∷◌, None}
use Rattle.std.proofs.Common.{if◌then◌else◌}
use Rattle.std.proofs.lemmas.Bool.{false≢true}
use Rattle.mdl_lexer.specs.declared.token.Token.{Token}
use Rattle.mdl_syntax.specs.declared.names.Span.{Span}
use Rattle.mdl_syntax.specs.declared.expressions.Lit.TheVariants as lit
use Rattle.expression_grammar.specs.inside.Machine.{Sort, sort_of, from_to, Mode, Frame, mode_step, finish}
use Rattle.expression_grammar.specs.inside.Machine.{left_out, opening_bracket, closing_bracket, wanted}
use Rattle.expression_grammar.specs.inside.Machine.{complete, mdl_word, other_literal}
use Rattle.module_grammar.specs.inside.ModuleStates.{Begun, Fronting, Holder, Site, Position, State}
use Rattle.module_grammar.specs.inside.ModuleStates.{Outcome, on, wrong, leaves_out, statement_body}
use Rattle.module_grammar.specs.inside.ModuleStates.{mdl_wanted, version_wanted, version_read, within}
use Rattle.module_grammar.specs.inside.ModuleStates.{item_wanted, importing, imported, using}
use Rattle.module_grammar.specs.inside.ModuleStates.{used_wanted, used_read, used_next, used_all}
use Rattle.module_grammar.specs.inside.ModuleStates.{own_wanted, annotations_begun, first_annotation}
use Rattle.module_grammar.specs.inside.ModuleStates.{annotation_read, annotations_closing, annotated}
use Rattle.module_grammar.specs.inside.ModuleStates.{exported_read, kin_named, annotation_named}
use Rattle.module_grammar.specs.inside.ModuleStates.{fronting, declared, parameters_begun, star_read}
use Rattle.module_grammar.specs.inside.ModuleStates.{variant_read, base_read, parameter_read}
use Rattle.module_grammar.specs.inside.ModuleStates.{parameter_next, function_read}
use Rattle.module_grammar.specs.inside.ModuleStates.{annotation_declared, struct_named, fields_read}
use Rattle.module_grammar.specs.inside.ModuleStates.{field_read, enum_named, value_wanted, value_read}
use Rattle.module_grammar.specs.inside.ModuleStates.{number_wanted, number_read, struct_closed}
use Rattle.module_grammar.specs.inside.ModuleStates.{enum_closed, expression, opened, of_parameter}
use Rattle.module_grammar.specs.inside.ModuleMachine.{is_call_site, may_name, call_goes}
use Rattle.module_grammar.specs.inside.ModuleStates.{in_annotation}
use Rattle.module_grammar.specs.inside.ModuleMachine.{call_outcome, call_step, closes, by_finish}
use Rattle.module_grammar.specs.inside.ModuleMachine.{expression_outcome, value_step_of}
use Rattle.module_grammar.specs.inside.ModuleMachine.{expression_step, is_bracket, annotations_behind}
use Rattle.module_grammar.specs.inside.ModuleMachine.{index_outcome, opened_step}
use Rattle.module_grammar.specs.inside.ModuleMachine.{first_annotation_step, front_outcome}
use Rattle.module_grammar.specs.inside.ModuleMachine.{first_front_step, position_step, state_step}
use Rattle.module_grammar.specs.inside.ModuleMachine.{module_sort_step, module_step, item_step}
use Rattle.module_grammar.specs.inside.ModuleMachine.{import_step, import_ends, using_step}
use Rattle.module_grammar.specs.inside.ModuleMachine.{used_wanted_step, used_read_step, used_next_step}
use Rattle.module_grammar.specs.inside.ModuleMachine.{used_all_step, own_step, second_bracket}
use Rattle.module_grammar.specs.inside.ModuleMachine.{annotation_read_step, closing_annotations}
use Rattle.module_grammar.specs.inside.ModuleMachine.{annotated_step, exported_step, kin_step}
use Rattle.module_grammar.specs.inside.ModuleMachine.{annotation_named_step, declared_step}
use Rattle.module_grammar.specs.inside.ModuleMachine.{parameters_step, star_read_step, variant_step}
use Rattle.module_grammar.specs.inside.ModuleMachine.{base_step, parameter_step, function_step}
use Rattle.module_grammar.specs.inside.ModuleMachine.{annotation_declared_step, struct_named_step}
use Rattle.module_grammar.specs.inside.ModuleMachine.{fields_step, field_step, enum_named_step}
use Rattle.module_grammar.specs.inside.ModuleMachine.{value_wanted_step, value_step, number_step}
use Rattle.module_grammar.specs.inside.ModuleMachine.{number_read_step, struct_closed_step}
use Rattle.module_grammar.specs.inside.ModuleMachine.{enum_closed_step, version_step, version_ends}
use Rattle.expression_grammar.proofs.RoomLaws.{mode_limited, finish_ending}
use Rattle.module_grammar.proofs.ModuleSettledLaws.{is_settled, Settled, IsOn, item_settled}
use Rattle.module_grammar.proofs.ModuleSettledLaws.{import_settled, import_ends_settled, using_settled}
use Rattle.module_grammar.proofs.ModuleSettledLaws.{used_wanted_settled, used_read_settled}
use Rattle.module_grammar.proofs.ModuleSettledLaws.{used_next_settled, used_all_settled}
use Rattle.module_grammar.proofs.ModuleSettledLaws.{exported_settled, kin_settled}
use Rattle.module_grammar.proofs.ModuleSettledLaws.{annotation_named_settled, declared_settled}
use Rattle.module_grammar.proofs.ModuleSettledLaws.{parameters_settled, parameter_settled}
use Rattle.module_grammar.proofs.ModuleSettledLaws.{first_front_settled, version_ends_settled}
use Rattle.module_grammar.proofs.ModuleSettledLaws.{front_on}
use Rattle.module_grammar.proofs.ModuleSettledParts.{own_settled, second_bracket_settled}
use Rattle.module_grammar.proofs.ModuleSettledParts.{annotation_read_settled}
use Rattle.module_grammar.proofs.ModuleSettledParts.{closing_annotations_settled, annotated_settled}
use Rattle.module_grammar.proofs.ModuleSettledParts.{star_read_settled, variant_settled, base_settled}
use Rattle.module_grammar.proofs.ModuleSettledParts.{function_settled, annotation_declared_settled}
use Rattle.module_grammar.proofs.ModuleSettledParts.{struct_named_settled, fields_settled}
use Rattle.module_grammar.proofs.ModuleSettledParts.{field_settled, enum_named_settled}
use Rattle.module_grammar.proofs.ModuleSettledParts.{value_wanted_settled, value_read_settled}
use Rattle.module_grammar.proofs.ModuleSettledParts.{number_wanted_settled, number_read_settled}
use Rattle.module_grammar.proofs.ModuleSettledParts.{struct_closed_settled, enum_closed_settled}
use Rattle.module_grammar.proofs.ModuleLimitedLaws.{Roomed, settled, if_roomed, step_roomed}
use Rattle.module_grammar.proofs.ModuleLimitedLaws.{limited_above, expression_roomed, end_roomed}
use Rattle.module_grammar.proofs.ModuleLimitedLaws.{by_finish_roomed}
use Rattle.module_grammar.proofs.ModuleBracketLaws.{bracket_limited, index_roomed}

-- a step that doesn't look at the limit
plainly : (made : Outcome) → Settled made → Roomed true (λ limit. made)
plainly made ok = settled made ok (λ limit. refl)

-- Calls.

call_on : (begun : Begun) (site : Site) (mode : Mode) (frames : List Frame) →
    IsOn (on (call_goes begun site mode frames))
call_on begun site (complete tree) [] = tt
call_on begun site (complete tree) (frame ∷ frames) = tt
call_on begun site mode frames = tt

call_roomed : (begun : Begun) (site : Site) (mode : Mode) (frames : List Frame) (sort : Sort)
    (place : Span) → Roomed true (λ limit. call_outcome begun site
    (mode_step (suc limit) mode frames sort place))
call_roomed begun site mode frames sort place =
    step_roomed (call_outcome begun site) (λ next below. call_on begun site next below) refl refl
    (λ limit. mode_step (suc limit) mode frames sort place)
    (limited_above (λ limit. mode_step limit mode frames sort place)
    (mode_limited mode frames sort place))

call_step_roomed : (begun : Begun) (site : Site) (mode : Mode) (frames : List Frame) (sort : Sort)
    (place : Span) → Roomed true (λ limit. call_step limit begun site mode frames sort place)
call_step_roomed begun site mode [] sort place =
    if_roomed (may_name mode sort) (λ limit. call_outcome begun site
    (mode_step (suc limit) mode [] sort place)) (λ limit. wrong)
    (call_roomed begun site mode [] sort place) (plainly wrong refl)
call_step_roomed begun site mode (frame ∷ frames) sort place =
    call_roomed begun site mode (frame ∷ frames) sort place

first_annotation_roomed : (begun : Begun) (holder : Holder) (sort : Sort) (place : Span) →
    Roomed true (λ limit. first_annotation_step limit begun holder sort place)
first_annotation_roomed begun holder closing_bracket place =
    plainly (on (within begun (annotations_closing holder []))) refl
first_annotation_roomed begun holder sort place =
    call_step_roomed begun (in_annotation holder []) wanted [] sort place

-- Other expressions.

value_step_roomed : (begun : Begun) (site : Site) (mode : Mode) (frames : List Frame) (sort : Sort)
    (place : Span) → Roomed true (λ limit. value_step_of limit begun site mode frames sort place)
value_step_roomed begun site mode frames sort place = by (closes site sort) refl
  where
    by : (test : Bool) → closes site sort ≡ test → Roomed true
        (λ limit. if test then by_finish limit begun site mode frames sort place
        (finish limit mode frames) else expression_outcome begun site
        (mode_step limit mode frames sort place))
    by true may = by_finish_roomed begun site mode frames sort place may
    by false may =
        expression_roomed begun site (λ limit. mode_step limit mode frames sort place)
        (mode_limited mode frames sort place)

expression_step_roomed : (begun : Begun) (site : Site) (mode : Mode) (frames : List Frame)
    (sort : Sort) (place : Span) → Roomed true (λ limit. expression_step limit begun site mode
    frames sort place)
expression_step_roomed begun site mode frames sort place =
    if_roomed (is_call_site site) (λ limit. call_step limit begun site mode frames sort place)
    (λ limit. value_step_of limit begun site mode frames sort place)
    (call_step_roomed begun site mode frames sort place)
    (value_step_roomed begun site mode frames sort place)

opened_roomed : (begun : Begun) (site : Site) (mode : Mode) (frames : List Frame) (bracket : Span)
    (sort : Sort) (place : Span) → Roomed true (λ limit. opened_step limit begun site mode frames
    bracket sort place)
opened_roomed begun site mode frames bracket sort place =
    if_roomed (is_bracket sort) (λ limit. annotations_behind begun site (finish limit mode frames))
    (λ limit. index_outcome limit begun site sort place
    (mode_step limit mode frames opening_bracket bracket))
    (end_roomed (λ limit end. annotations_behind begun site end) (λ limit. refl) (λ tree. tt)
    (λ limit tree. refl) (plainly wrong refl) (λ limit. finish limit mode frames)
    (finish_ending mode frames)) (index_roomed begun site sort place
    (λ limit. mode_step limit mode frames opening_bracket bracket)
    (bracket_limited mode frames bracket))

-- All positions.

front_roomed : (token : ℕ) (begun : Begun) (of : Fronting) (mode : Mode) (sort : Sort)
    (place : Span) → Roomed true (λ limit. front_outcome token begun of
    (mode_step limit mode [] sort place))
front_roomed token begun of mode sort place =
    step_roomed (front_outcome token begun of) (λ next below. front_on token begun of next) refl
    refl (λ limit. mode_step limit mode [] sort place) (mode_limited mode [] sort place)

position_roomed : (token : ℕ) (begun : Begun) (position : Position) (sort : Sort) (place : Span) →
    Roomed true (λ limit. position_step limit token begun position sort place)
position_roomed token begun (item_wanted early) sort place =
    plainly (item_step token begun early sort place) (item_settled token begun early sort place)
position_roomed token begun (importing at items naming) sort place =
    plainly (import_step begun at items naming sort place)
    (import_settled begun at items naming sort place)
position_roomed token begun (imported at items) sort place =
    plainly (import_ends begun at items sort place) (import_ends_settled begun at items sort place)
position_roomed token begun (using at naming) sort place =
    plainly (using_step begun at naming sort place) (using_settled begun at naming sort place)
position_roomed token begun (used_wanted at name) sort place =
    plainly (used_wanted_step begun at name sort place) (used_wanted_settled begun at name sort
    place)
position_roomed token begun (used_read at name names) sort place =
    plainly (used_read_step begun at name names sort place)
    (used_read_settled begun at name names sort place)
position_roomed token begun (used_next at name names) sort place =
    plainly (used_next_step begun at name names sort place)
    (used_next_settled begun at name names sort place)
position_roomed token begun (used_all at name) sort place =
    plainly (used_all_step begun at name sort place) (used_all_settled begun at name sort place)
position_roomed token begun own_wanted sort place =
    plainly (own_step begun sort) (own_settled begun sort)
position_roomed token begun (annotations_begun holder) sort place =
    plainly (second_bracket begun holder sort) (second_bracket_settled begun holder sort)
position_roomed token begun (first_annotation holder) sort place =
    first_annotation_roomed begun holder sort place
position_roomed token begun (annotation_read holder annotations) sort place =
    plainly (annotation_read_step begun holder annotations sort)
    (annotation_read_settled begun holder annotations sort)
position_roomed token begun (annotations_closing holder annotations) sort place =
    plainly (closing_annotations begun holder annotations sort place)
    (closing_annotations_settled begun holder annotations sort place)
position_roomed token begun (annotated holder annotations end) sort place =
    plainly (annotated_step begun holder annotations end sort place)
    (annotated_settled begun holder annotations end sort place)
position_roomed token begun (exported_read at) sort place =
    plainly (exported_step token begun at sort place) (exported_settled token begun at sort place)
position_roomed token begun (kin_named at exported kin) sort place =
    plainly (kin_step begun at exported kin sort place) (kin_settled begun at exported kin sort
    place)
position_roomed token begun (annotation_named named) sort place =
    plainly (annotation_named_step begun named sort) (annotation_named_settled begun named sort)
position_roomed token begun (fronting of mode) sort place =
    front_roomed token begun of mode sort place
position_roomed token begun (declared fronted) sort place =
    plainly (declared_step begun fronted sort) (declared_settled begun fronted sort)
position_roomed token begun (parameters_begun owner) sort place =
    plainly (parameters_step token begun owner sort place)
    (parameters_settled token begun owner sort place)
position_roomed token begun (star_read fronted) sort place =
    plainly (star_read_step begun fronted sort) (star_read_settled begun fronted sort)
position_roomed token begun (variant_read fronted) sort place =
    plainly (variant_step begun fronted sort) (variant_settled begun fronted sort)
position_roomed token begun (base_read fronted annotations one) sort place =
    plainly (base_step begun fronted annotations one sort place)
    (base_settled begun fronted annotations one sort place)
position_roomed token begun (parameter_read owner parameters front) sort place =
    plainly (parameter_step begun owner parameters front sort)
    (parameter_settled begun owner parameters front sort)
position_roomed token begun (parameter_next owner parameters) sort place =
    plainly (first_front_step token begun (of_parameter owner parameters) sort place)
    (first_front_settled token begun (of_parameter owner parameters) sort place)
position_roomed token begun (function_read fronted parameters frequency) sort place =
    plainly (function_step begun fronted parameters frequency sort place)
    (function_settled begun fronted parameters frequency sort place)
position_roomed token begun (annotation_declared named parameters) sort place =
    plainly (annotation_declared_step begun named parameters sort place)
    (annotation_declared_settled begun named parameters sort place)
position_roomed token begun (struct_named named) sort place =
    plainly (struct_named_step begun named sort) (struct_named_settled begun named sort)
position_roomed token begun (fields_read held) sort place =
    plainly (fields_step token begun held sort place) (fields_settled token begun held sort place)
position_roomed token begun (field_read held front) sort place =
    plainly (field_step begun held front sort) (field_settled begun held front sort)
position_roomed token begun (enum_named named) sort place =
    plainly (enum_named_step begun named sort) (enum_named_settled begun named sort)
position_roomed token begun (value_wanted held) sort place =
    plainly (value_wanted_step begun held sort place) (value_wanted_settled begun held sort place)
position_roomed token begun (value_read held name) sort place =
    plainly (value_step begun held name sort) (value_read_settled begun held name sort)
position_roomed token begun (number_wanted held name) sort place =
    plainly (number_step begun held name sort place) (number_wanted_settled begun held name sort
    place)
position_roomed token begun (number_read held name value end) sort place =
    plainly (number_read_step begun held name value end sort)
    (number_read_settled begun held name value end sort)
position_roomed token begun (struct_closed held) sort place =
    plainly (struct_closed_step begun held sort place) (struct_closed_settled begun held sort place)
position_roomed token begun (enum_closed held) sort place =
    plainly (enum_closed_step begun held sort place) (enum_closed_settled begun held sort place)
position_roomed token begun (expression site mode frames) sort place =
    expression_step_roomed begun site mode frames sort place
position_roomed token begun (opened site mode frames bracket) sort place =
    opened_roomed begun site mode frames bracket sort place

abbrev pub is_begun : State → Bool
is_begun (within begun position) = true
is_begun _ = false

outside : (made : Outcome) → is_settled false made ≡ true → Roomed false (λ limit. made)
outside made ok = settled made ok (λ limit. refl)

weaker : (made : Outcome) → Settled made → is_settled false made ≡ true
weaker (on (within begun position)) is = refl
weaker wrong is = refl
weaker (leaves_out None text) is = refl
weaker statement_body is = refl
weaker _ is = absurd (false≢true is)

version_roomed : (at : ℕ) (sort : Sort) (place : Span) →
    is_settled false (version_step at sort place) ≡ true
version_roomed at (other_literal (lit.Real text double)) place = refl
version_roomed at sort place = refl

state_roomed : (token : ℕ) (state : State) (sort : Sort) (place : Span) →
    Roomed (is_begun state) (λ limit. state_step limit token state sort place)
state_roomed token mdl_wanted mdl_word place = outside (on (version_wanted place.at)) refl
state_roomed token mdl_wanted _ place = outside wrong refl
state_roomed token (version_wanted at) sort place =
    outside (version_step at sort place) (version_roomed at sort place)
state_roomed token (version_read at version) sort place =
    outside (version_ends at version sort place)
    (weaker (version_ends at version sort place) (version_ends_settled at version sort place))
state_roomed token (within begun position) sort place =
    position_roomed token begun position sort place

sort_roomed : (token : ℕ) (state : State) (sort : Sort) (place : Span) →
    Roomed (is_begun state) (λ limit. module_sort_step limit token state sort place)
sort_roomed token state (left_out text) place = settled (leaves_out None text) refl (λ limit. refl)
sort_roomed token state sort place = state_roomed token state sort place

-- each step is always the same, or too deep below a need
pub module_roomed : (number : ℕ) (state : State) (token : Token) →
    Roomed (is_begun state) (λ limit. module_step limit number state token)
module_roomed number state token =
    sort_roomed number state (sort_of token.kind) (from_to token.at token.end)

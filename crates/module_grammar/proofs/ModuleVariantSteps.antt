-- Behind `(*)` of a variant the machine of modules comes to no head of a function before its end.
use Rattle.std.proofs.Common.{◌≡◌, ◌⊎◌, inl, inr, subst, ℕ, suc, Bool, true, false, List, []}
use Rattle.std.proofs.Common.{◌∷◌, if◌then◌else◌, Option, Some}
use Rattle.mdl_lexer.specs.declared.token.Token.{Token}
use Rattle.mdl_syntax.specs.declared.names.Span.{Span}
use Rattle.mdl_syntax.specs.Trees.{call}
use Rattle.mdl_syntax.specs.Modules.{Annotation}
use Rattle.expression_grammar.specs.inside.Machine.{Mode, Frame, Step, Sort, mode_step, sort_of, from_to}
use Rattle.expression_grammar.specs.inside.Machine.{goes, bad, deep, is_left_out, complete, semicolon}
use Rattle.expression_grammar.specs.inside.Machine.{comma, closing_bracket, equals, left_out}
use Rattle.module_grammar.specs.inside.ModuleStates.{Begun, State, Outcome, Site, Fronted}
use Rattle.module_grammar.specs.inside.ModuleStates.{on, wrong, within, expression, in_annotation}
use Rattle.module_grammar.specs.inside.ModuleStates.{function_read, a_function}
use Rattle.module_grammar.specs.inside.ModuleStates.{in_base, base_read, annotation_read, a_variant}
use Rattle.module_grammar.specs.inside.ModuleMachine.{call_goes}
use Rattle.module_grammar.specs.inside.ModuleStates.{annotations_closing, annotated}
use Rattle.module_grammar.specs.inside.ModuleMachine.{call_outcome, call_step, may_name, base_step}
use Rattle.module_grammar.specs.inside.ModuleMachine.{annotation_read_step, closing_annotations}
use Rattle.module_grammar.specs.inside.ModuleMachine.{variant_annotated, module_sort_step, module_step}
use Rattle.module_grammar.specs.inside.ModuleHeads.{IsHead, IsItem}
use Rattle.module_grammar.proofs.ModuleHeadKinds.{MayStand}

abbrev pub PastVariant : State → Type 0
PastVariant (within begun (expression (in_base fronted annotations) mode frames)) = Unit {0}
PastVariant (within begun (expression (in_annotation (a_variant fronted) annotations) mode frames))
    =
    Unit {0}
PastVariant (within begun (base_read fronted annotations one)) = Unit {0}
PastVariant (within begun (annotation_read (a_variant fronted) annotations)) = Unit {0}
PastVariant (within begun (annotations_closing (a_variant fronted) annotations)) = Unit {0}
PastVariant (within begun (annotated (a_variant fronted) annotations end)) = Unit {0}
PastVariant state = ⊥

abbrev PastMade : Outcome → Type 0
PastMade (on state) = PastVariant state ⊎ IsItem state
PastMade made = Unit {0}

if_past : (test : Bool) (one other : Outcome) → PastMade one → PastMade other →
    PastMade (if test then one else other)
if_past true one other is others = is
if_past false one other is others = others

abbrev IsVariantSite : Site → Type 0
IsVariantSite (in_base fronted annotations) = Unit {0}
IsVariantSite (in_annotation (a_variant fronted) annotations) = Unit {0}
IsVariantSite site = ⊥

call_goes_past : (begun : Begun) (site : Site) (mode : Mode) (frames : List Frame) →
    IsVariantSite site → PastMade (on (call_goes begun site mode frames))
call_goes_past begun (in_base fronted annotations) (complete (call name _ span)) [] is = inl tt
call_goes_past begun (in_base fronted annotations) (complete tree) [] is = inl tt
call_goes_past begun (in_base fronted annotations) mode frames is = inl tt
call_goes_past begun (in_annotation (a_variant fronted) annotations) (complete (call name _ span))
    []
    is = inl tt
call_goes_past begun (in_annotation (a_variant fronted) annotations) (complete tree) [] is = inl tt
call_goes_past begun (in_annotation (a_variant fronted) annotations) mode frames is = inl tt
call_goes_past begun site mode frames is = absurd is

call_past : (begun : Begun) (site : Site) (made : Step) → IsVariantSite site →
    PastMade (call_outcome begun site made)
call_past begun site (goes mode frames) is = call_goes_past begun site mode frames is
call_past begun site bad is = tt
call_past begun site deep is = tt
call_past begun site (is_left_out text) is = tt

call_step_past : (limit : ℕ) (begun : Begun) (site : Site) (mode : Mode) (frames : List Frame)
    (sort : Sort) (place : Span) → IsVariantSite site →
    PastMade (call_step limit begun site mode frames sort place)
call_step_past limit begun site mode [] sort place is =
    if_past (may_name mode sort) (call_outcome begun site (mode_step (suc limit) mode [] sort
    place))
    wrong (call_past begun site (mode_step (suc limit) mode [] sort place) is) tt
call_step_past limit begun site mode (frame ∷ frames) sort place is =
    call_past begun site (mode_step (suc limit) mode (frame ∷ frames) sort place) is

base_past : (begun : Begun) (fronted : Fronted) (annotations : Option (List Annotation))
    (base : Annotation) (sort : Sort) (place : Span) →
    PastMade (base_step begun fronted annotations base sort place)
base_past begun fronted annotations base semicolon place = inr tt
base_past begun fronted annotations base sort place = tt

read_past : (begun : Begun) (fronted : Fronted) (annotations : List Annotation) (sort : Sort) →
    PastMade (annotation_read_step begun (a_variant fronted) annotations sort)
read_past begun fronted annotations comma = inl tt
read_past begun fronted annotations closing_bracket = inl tt
read_past begun fronted annotations sort = tt

closing_past : (begun : Begun) (fronted : Fronted) (annotations : List Annotation) (sort : Sort)
    (place : Span) →
    PastMade (closing_annotations begun (a_variant fronted) annotations sort place)
closing_past begun fronted annotations closing_bracket place = inl tt
closing_past begun fronted annotations sort place = tt

annotated_past : (begun : Begun) (fronted : Fronted) (annotations : Option (List Annotation))
    (sort : Sort) → PastMade (variant_annotated begun fronted annotations sort)
annotated_past begun fronted annotations equals = inl tt
annotated_past begun fronted annotations sort = tt

state_past : (limit number : ℕ) (state : State) (sort : Sort) (place : Span) → PastVariant state →
    PastMade (module_sort_step limit number state sort place)
state_past limit number state (left_out text) place past = tt
state_past limit number (within begun (expression (in_base fronted annotations) mode frames)) sort
    place past =
    call_step_past limit begun (in_base fronted annotations) mode frames sort place tt
state_past limit number (within begun (expression (in_annotation (a_variant fronted) annotations)
    mode frames)) sort place past =
    call_step_past limit begun (in_annotation (a_variant fronted) annotations) mode frames sort
    place
    tt
state_past limit number (within begun (base_read fronted annotations one)) sort place past =
    base_past begun fronted annotations one sort place
state_past limit number (within begun (annotation_read (a_variant fronted) annotations)) sort place
    past =
    read_past begun fronted annotations sort
state_past limit number (within begun (annotations_closing (a_variant fronted) annotations)) sort
    place past =
    closing_past begun fronted annotations sort place
state_past limit number (within begun (annotated (a_variant fronted) annotations end)) sort place
    past =
    annotated_past begun fronted (Some annotations) sort
state_past limit number state sort place past = absurd past

pub variant_kept : (limit number : ℕ) (state after : State) (token : Token) → MayStand state →
    PastVariant state → module_step limit number state token ≡ on after →
    PastVariant after ⊎ IsItem after
variant_kept limit number state after token may past is =
    subst PastMade is (state_past limit number state (sort_of token.kind)
    (from_to token.at token.end) past)

pub variant_apart : (state : State) → PastVariant state → IsHead state → ⊥
variant_apart (within begun (function_read fronted parameters frequency)) past head = past
variant_apart (within begun (annotated (a_function fronted parameters frequency) annotations end))
    past head =
    past
variant_apart state past head = head

-- The first deferred size in a head and the kind of declaration stay until the declaration ends.
use Rattle.std.proofs.Common.{◌≡◌, ◌⊎◌, inl, inr, ◌∙◌, sym, subst, refl, ℕ, [], Some, None}
use Rattle.mdl_lexer.specs.declared.token.Token.{Token}
use Rattle.mdl_syntax.specs.declared.names.Span.{Span}
use Rattle.expression_grammar.specs.inside.Machine.{Sort, sort_of, from_to, mode_step, left_out, mdl_word}
use Rattle.module_grammar.specs.inside.ModuleStates.{Begun, Position, State, on, mdl_wanted}
use Rattle.module_grammar.specs.inside.ModuleStates.{version_wanted, version_read, within}
use Rattle.module_grammar.specs.inside.ModuleStates.{item_wanted, importing, imported, using}
use Rattle.module_grammar.specs.inside.ModuleStates.{used_wanted, used_read, used_next, used_all}
use Rattle.module_grammar.specs.inside.ModuleStates.{own_wanted, annotations_begun, first_annotation}
use Rattle.module_grammar.specs.inside.ModuleStates.{annotation_read, annotations_closing, annotated}
use Rattle.module_grammar.specs.inside.ModuleStates.{exported_read, kin_named, annotation_named}
use Rattle.module_grammar.specs.inside.ModuleStates.{fronting, declared, parameters_begun, star_read}
use Rattle.module_grammar.specs.inside.ModuleStates.{variant_read, base_read, parameter_read}
use Rattle.module_grammar.specs.inside.ModuleStates.{parameter_next, function_read}
use Rattle.module_grammar.specs.inside.ModuleStates.{annotation_declared, struct_named, fields_read}
use Rattle.module_grammar.specs.inside.ModuleStates.{field_read, enum_named, value_wanted, value_read}
use Rattle.module_grammar.specs.inside.ModuleStates.{number_wanted, number_read, struct_closed}
use Rattle.module_grammar.specs.inside.ModuleMachine.{position_step}
use Rattle.module_grammar.specs.inside.ModuleStates.{enum_closed, expression, opened}
use Rattle.module_grammar.specs.inside.ModuleMachine.{state_step, module_sort_step, module_step}
use Rattle.module_grammar.specs.inside.ModuleStates.{a_function}
use Rattle.module_grammar.specs.inside.ModuleHeads.{size_in, IsHead, IsItem}
use Rattle.module_grammar.proofs.ModuleHeadKinds.{InAnnotation, MayStand, Change, Changes, stays_so}
use Rattle.module_grammar.proofs.ModuleHeadKinds.{ends_there, defers_first, IsDeferredFront}
use Rattle.std.proofs.lemmas.Option.{none-some, same_Some}
use Rattle.module_grammar.proofs.ModuleHeadSteps.{item_changes, exported_changes, kin_changes}
use Rattle.module_grammar.proofs.ModuleHeadSteps.{annotation_named_changes, declared_changes}
use Rattle.module_grammar.proofs.ModuleHeadSteps.{fronting_changes, parameters_changes}
use Rattle.module_grammar.proofs.ModuleHeadSteps.{parameter_next_changes, parameter_changes}
use Rattle.module_grammar.proofs.ModuleHeadSteps.{star_read_changes, variant_changes, base_changes}
use Rattle.module_grammar.proofs.ModuleHeadSteps.{function_changes, annotation_declared_changes}
use Rattle.module_grammar.proofs.ModuleHeadSteps.{struct_named_changes, fields_changes, field_changes}
use Rattle.module_grammar.proofs.ModuleHeadSteps.{struct_closed_changes, enum_named_changes}
use Rattle.module_grammar.proofs.ModuleHeadSteps.{value_wanted_changes, value_changes, number_changes}
use Rattle.module_grammar.proofs.ModuleHeadSteps.{number_read_changes, enum_closed_changes}
use Rattle.module_grammar.proofs.ModuleHeadSteps.{second_bracket_changes, own_changes}
use Rattle.module_grammar.proofs.ModuleHeadSteps.{annotation_read_changes, closing_changes}
use Rattle.module_grammar.proofs.ModuleHeadSteps.{annotated_changes, import_ends_changes}
use Rattle.module_grammar.proofs.ModuleHeadSteps.{import_changes, using_changes, used_wanted_changes}
use Rattle.module_grammar.proofs.ModuleHeadSteps.{used_read_changes, used_next_changes}
use Rattle.module_grammar.proofs.ModuleHeadSteps.{used_all_changes}
use Rattle.module_grammar.proofs.ModuleHeadInner.{expression_changes, opened_changes}
use Rattle.module_grammar.proofs.ModuleHeadInner.{first_annotation_changes, version_changes}
use Rattle.module_grammar.proofs.ModuleHeadInner.{version_ends_changes}

position_changes : (limit token : ℕ) (begun : Begun) (position : Position) (sort : Sort)
    (place : Span) →
    MayStand (within begun position) →
    Changes token (within begun position) sort (position_step limit token begun position sort place)
position_changes limit token begun (item_wanted early) sort place may = item_changes token begun
    early sort place
position_changes limit token begun (importing at items naming) sort place may =
    import_changes token begun at items naming sort place
position_changes limit token begun (imported at items) sort place may =
    import_ends_changes token begun (imported at items) at items sort place refl (λ is. is)
position_changes limit token begun (using at naming) sort place may = using_changes token begun at
    naming sort place
position_changes limit token begun (used_wanted at name) sort place may =
    used_wanted_changes token begun at name sort place
position_changes limit token begun (used_read at name names) sort place may =
    used_read_changes token begun at name names sort place
position_changes limit token begun (used_next at name names) sort place may =
    used_next_changes token begun at name names sort place
position_changes limit token begun (used_all at name) sort place may =
    used_all_changes token begun at name sort place
position_changes limit token begun own_wanted sort place may = own_changes token begun sort
position_changes limit token begun (annotations_begun holder) sort place may =
    second_bracket_changes token begun holder sort
position_changes limit token begun (first_annotation holder) sort place may =
    first_annotation_changes limit token begun holder sort place
position_changes limit token begun (annotation_read holder annotations) sort place may =
    annotation_read_changes token begun holder annotations sort
position_changes limit token begun (annotations_closing holder annotations) sort place may =
    closing_changes token begun holder annotations sort place
position_changes limit token begun (annotated holder annotations end) sort place may =
    annotated_changes token begun holder annotations end sort place
position_changes limit token begun (exported_read at) sort place may = exported_changes token begun
    at sort place
position_changes limit token begun (kin_named at exported kin) sort place may =
    kin_changes token begun at exported kin sort place
position_changes limit token begun (annotation_named named) sort place may =
    annotation_named_changes token begun named sort
position_changes limit token begun (fronting of mode) sort place may =
    fronting_changes token begun of mode sort (mode_step limit mode [] sort place)
position_changes limit token begun (declared fronted) sort place may = declared_changes token begun
    fronted sort
position_changes limit token begun (parameters_begun owner) sort place may =
    parameters_changes token begun owner sort place
position_changes limit token begun (star_read fronted) sort place may = star_read_changes token
    begun fronted sort
position_changes limit token begun (variant_read fronted) sort place may = variant_changes token
    begun fronted sort
position_changes limit token begun (base_read fronted annotations one) sort place may =
    base_changes token begun fronted annotations one sort place
position_changes limit token begun (parameter_read owner parameters front) sort place may =
    parameter_changes token begun owner parameters front sort
position_changes limit token begun (parameter_next owner parameters) sort place may =
    parameter_next_changes token begun owner parameters sort place
position_changes limit token begun (function_read fronted parameters frequency) sort place may =
    function_changes token begun fronted parameters frequency sort place
position_changes limit token begun (annotation_declared named parameters) sort place may =
    annotation_declared_changes token begun named parameters sort place
position_changes limit token begun (struct_named named) sort place may = struct_named_changes token
    begun named sort
position_changes limit token begun (fields_read held) sort place may = fields_changes token begun
    held sort place
position_changes limit token begun (field_read held front) sort place may = field_changes token
    begun held front sort
position_changes limit token begun (enum_named named) sort place may = enum_named_changes token
    begun named sort
position_changes limit token begun (value_wanted held) sort place may =
    value_wanted_changes token begun held sort place
position_changes limit token begun (value_read held name) sort place may = value_changes token begun
    held name sort
position_changes limit token begun (number_wanted held name) sort place may =
    number_changes token begun held name sort place
position_changes limit token begun (number_read held name value end) sort place may =
    number_read_changes token begun held name value end sort
position_changes limit token begun (struct_closed held) sort place may =
    struct_closed_changes token begun held sort place
position_changes limit token begun (enum_closed held) sort place may = enum_closed_changes token
    begun held sort place
position_changes limit token begun (expression site mode frames) sort place may =
    expression_changes limit token begun site mode frames sort place
position_changes limit token begun (opened site mode frames bracket) sort place may =
    opened_changes limit token begun site mode frames bracket sort place may

state_changes : (limit token : ℕ) (state : State) (sort : Sort) (place : Span) → MayStand state →
    Changes token state sort (state_step limit token state sort place)
state_changes limit token mdl_wanted mdl_word place may = stays_so refl (λ is. absurd is) (λ is. is)
state_changes limit token mdl_wanted sort place may = tt
state_changes limit token (version_wanted at) sort place may = version_changes token at sort place
state_changes limit token (version_read at version) sort place may =
    version_ends_changes token at version sort place
state_changes limit token (within begun position) sort place may =
    position_changes limit token begun position sort place may

sort_changes : (limit token : ℕ) (state : State) (sort : Sort) (place : Span) → MayStand state →
    Changes token state sort (module_sort_step limit token state sort place)
sort_changes limit token state (left_out text) place may = tt
sort_changes limit token state sort place may = state_changes limit token state sort place may

-- what a step changes
pub module_changes : (limit number : ℕ) (state : State) (token : Token) → MayStand state →
    Changes number state (sort_of token.kind) (module_step limit number state token)
module_changes limit number state token may =
    sort_changes limit number state (sort_of token.kind) (from_to token.at token.end) may

pub step_change : (limit number : ℕ) (state after : State) (token : Token) → MayStand state →
    module_step limit number state token ≡ on after → Change number state after
step_change limit number state after token may is =
    subst (Changes number state (sort_of token.kind)) is
    (module_changes limit number state token may)

pub item_size : (state : State) → IsItem state → size_in state ≡ None
item_size (within begun (item_wanted early)) is = refl
item_size state is = absurd is

-- the first size that is deferred in a head stays until the declaration ends
pub size_kept : (limit number : ℕ) (state after : State) (token : Token) (at : ℕ) → MayStand state →
    size_in state ≡ Some at → module_step limit number state token ≡ on after →
    (size_in after ≡ Some at) ⊎ IsItem after
size_kept limit number state after token at may size is = by
    (step_change limit number state after token may is)
  where
    by : Change number state after → (size_in after ≡ Some at) ⊎ IsItem after
    by (stays_so same note inner) = inl (same ∙ size)
    by (ends_there item end) = inr item
    by (defers_first none found note front) = absurd (none-some at (sym none ∙ size))

-- a first size was there before, or begins with the token
pub size_back : (limit number : ℕ) (state after : State) (token : Token) (at : ℕ) → MayStand state →
    module_step limit number state token ≡ on after → size_in after ≡ Some at →
    (size_in state ≡ Some at) ⊎ ((at ≡ number) × IsDeferredFront after)
size_back limit number state after token at may is size = by
    (step_change limit number state after token may is)
  where
    by : Change number state after → (size_in state ≡ Some at) ⊎
        ((at ≡ number) × IsDeferredFront after)
    by (stays_so same note inner) = inl (sym same ∙ size)
    by (ends_there item end) = absurd (none-some at (sym (item_size after item) ∙ size))
    by (defers_first none found note front) = inr (same_Some at number (sym size ∙ found), front)

-- a declaration that began with `annotation` goes on until it ends
pub head_kept : (limit number : ℕ) (state after : State) (token : Token) → MayStand state →
    InAnnotation state → module_step limit number state token ≡ on after → InAnnotation after ⊎
    IsItem after
head_kept limit number state after token may inside is = by
    (step_change limit number state after token may is)
  where
    by : Change number state after → InAnnotation after ⊎ IsItem after
    by (stays_so same note inner) = inl (note inside)
    by (ends_there item end) = inr item
    by (defers_first none found note front) = inl (note inside)

pub head_apart : (state : State) → InAnnotation state → IsHead state → ⊥
head_apart (within begun (function_read fronted parameters frequency)) inside head = inside
head_apart (within begun (annotated (a_function fronted parameters frequency) annotations end))
    inside head =
    inside
head_apart state inside head = head

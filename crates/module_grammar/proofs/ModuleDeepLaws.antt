-- Behind `[` no step of the machine of modules with `<` is too high.
use Rattle.std.proofs.Common.{◌≡◌, sym, ap, subst, refl, ℕ, Bool, true}
use Rattle.std.proofs.Common.{false, List, [], ◌∷◌, ◌++◌, Option, Some, None, length, codes}
use Rattle.mdl_lexer.specs.declared.token.Token.{Token}
use Rattle.mdl_syntax.specs.declared.names.Span.{Span}
use Rattle.mdl_syntax.specs.declared.types.Freq.{Freq}
use Rattle.mdl_syntax.specs.declared.imports.Lead.TheVariants as lead_form
use Rattle.mdl_syntax.specs.declared.imports.Qualified.{Qualified}
use Rattle.mdl_syntax.specs.Modules.{Annotation, Parameter}
use Rattle.expression_grammar.specs.inside.Machine.{sort_of, opening_bracket, from_to}
use Rattle.expression_grammar.specs.inside.Machine.{finish, wanted}
use Rattle.module_grammar.specs.inside.ModuleStates.{Begun, Fronted, Position, Holder, Naming, State}
use Rattle.module_grammar.specs.inside.ModuleStates.{on, within, mdl_wanted}
use Rattle.module_grammar.specs.inside.ModuleStates.{in_annotation, unnamed, one_dot}
use Rattle.module_grammar.specs.inside.ModuleStates.{two_dots, up_steps, one_dot_behind, led, parted}
use Rattle.module_grammar.specs.inside.ModuleStates.{open_ended, item_wanted, importing, using}
use Rattle.module_grammar.specs.inside.ModuleStates.{own_wanted, annotations_begun, first_annotation}
use Rattle.module_grammar.specs.inside.ModuleStates.{annotated, fronting, variant_read}
use Rattle.module_grammar.specs.inside.ModuleStates.{parameter_read, function_read}
use Rattle.module_grammar.specs.inside.ModuleStates.{annotation_declared, struct_named, field_read}
use Rattle.module_grammar.specs.inside.ModuleStates.{enum_named, value_read, number_read, expression}
use Rattle.module_grammar.specs.inside.ModuleStates.{opened, the_module, a_parameter, a_function}
use Rattle.module_grammar.specs.inside.ModuleStates.{an_annotation, a_variant, a_struct, a_field}
use Rattle.module_grammar.specs.inside.ModuleMachine.{position_step}
use Rattle.module_grammar.specs.inside.ModuleStates.{an_enum, an_enum_value}
use Rattle.module_grammar.specs.inside.ModuleMachine.{import_step, using_step, annotated_step}
use Rattle.module_grammar.specs.inside.ModuleMachine.{function_step, item_step, module_sort_step}
use Rattle.module_grammar.specs.inside.ModuleMachine.{module_step, module_taken}
use Rattle.module_grammar.specs.inside.ModuleStates.{too_deep}
use Rattle.module_grammar.specs.inside.ModuleLeads.{ModuleLeads}
use Rattle.module_grammar.specs.inside.ModuleHolds.{ModuleHolds, HeadOf}
use Rattle.expression_grammar.specs.inside.Sound.{IsMark}
use Rattle.module_grammar.proofs.ModuleHeadWays.{taken_step, reached_holds, reached_last}
use Rattle.module_grammar.proofs.ModuleDeepBrackets.{LessOutcome, BracketOutcome}
use Rattle.module_grammar.proofs.ModuleDeepBrackets.{call_step_bracket, expression_bracket}
use Rattle.module_grammar.proofs.ModuleDeepBrackets.{behind_less, fronting_bracket}

import_bracket : (limit : ℕ) (begun : Begun) (at : ℕ) (items : List Qualified) (naming : Naming)
    (place : Span) →
    BracketOutcome limit (import_step begun at items naming opening_bracket place)
import_bracket limit begun at [] unnamed place = tt
import_bracket limit begun at (item ∷ items) unnamed place = tt
import_bracket limit begun at [] (one_dot from) place = tt
import_bracket limit begun at (item ∷ items) (one_dot from) place = tt
import_bracket limit begun at [] (two_dots steps from) place = tt
import_bracket limit begun at (item ∷ items) (two_dots steps from) place = tt
import_bracket limit begun at [] (up_steps steps from) place = tt
import_bracket limit begun at (item ∷ items) (up_steps steps from) place = tt
import_bracket limit begun at [] (one_dot_behind steps from) place = tt
import_bracket limit begun at (item ∷ items) (one_dot_behind steps from) place = tt
import_bracket limit begun at [] (led lead from) place = tt
import_bracket limit begun at (item ∷ items) (led lead from) place = tt
import_bracket limit begun at [] (parted lead from parts end) place = tt
import_bracket limit begun at (item ∷ items) (parted lead from parts end) place = tt
import_bracket limit begun at [] (open_ended lead from parts end) place = tt
import_bracket limit begun at (item ∷ items) (open_ended lead from parts end) place = tt

using_bracket : (limit : ℕ) (begun : Begun) (at : ℕ) (naming : Naming) (place : Span) →
    BracketOutcome limit (using_step begun at naming opening_bracket place)
using_bracket limit begun at unnamed place = tt
using_bracket limit begun at (one_dot from) place = tt
using_bracket limit begun at (two_dots steps from) place = tt
using_bracket limit begun at (up_steps steps from) place = tt
using_bracket limit begun at (one_dot_behind steps from) place = tt
using_bracket limit begun at (led lead from) place = tt
using_bracket limit begun at (parted lead_form.Bare from (part ∷ []) end) place = tt
using_bracket limit begun at (parted lead_form.Bare from [] end) place = tt
using_bracket limit begun at (parted lead_form.Bare from (part ∷ second ∷ parts) end) place = tt
using_bracket limit begun at (parted lead from parts end) place = tt
using_bracket limit begun at (open_ended lead from parts end) place = tt

annotated_bracket : (limit : ℕ) (begun : Begun) (holder : Holder) (annotations : List Annotation)
    (end : ℕ)
    (place : Span) → BracketOutcome limit (annotated_step begun holder annotations end
    opening_bracket place)
annotated_bracket limit begun the_module annotations end place = tt
annotated_bracket limit begun (a_parameter owner parameters front default) annotations end place =
    tt
annotated_bracket limit begun (a_function fronted parameters frequency) annotations end place = tt
annotated_bracket limit begun (an_annotation named parameters) annotations end place = tt
annotated_bracket limit begun (a_variant fronted) annotations end place = tt
annotated_bracket limit begun (a_struct named) annotations end place = tt
annotated_bracket limit begun (a_field held front default) annotations end place = tt
annotated_bracket limit begun (an_enum named) annotations end place = tt
annotated_bracket limit begun (an_enum_value held name value) annotations end place = tt

function_bracket : (limit : ℕ) (begun : Begun) (fronted : Fronted) (parameters : List Parameter)
    (frequency : Option Freq) (place : Span) →
    BracketOutcome limit (function_step begun fronted parameters frequency opening_bracket place)
function_bracket limit begun fronted parameters None place = λ number from to. tt
function_bracket limit begun fronted parameters (Some frequency) place = λ number from to. tt

item_bracket : (limit number : ℕ) (begun : Begun) (early : Bool) (place : Span) →
    BracketOutcome limit (item_step number begun early opening_bracket place)
item_bracket limit number begun true place = tt
item_bracket limit number begun false place = tt

position_bracket : (limit number : ℕ) (begun : Begun) (position : Position) (from to : ℕ)
    (tokens : List Token) →
    ModuleHolds (within begun position) tokens →
    BracketOutcome limit (position_step limit number begun position opening_bracket
    (from_to from to))
position_bracket limit number begun (item_wanted early) from to tokens holds =
    item_bracket limit number begun early (from_to from to)
position_bracket limit number begun (importing at items naming) from to tokens holds =
    import_bracket limit begun at items naming (from_to from to)
position_bracket limit number begun (using at naming) from to tokens holds =
    using_bracket limit begun at naming (from_to from to)
position_bracket limit number begun own_wanted from to tokens holds = λ token start end. tt
position_bracket limit number begun (annotations_begun holder) from to tokens holds = λ token start
    end. tt
position_bracket limit number begun (first_annotation holder) from to tokens holds =
    call_step_bracket limit begun (in_annotation holder []) wanted [] from to refl
position_bracket limit number begun (annotated holder annotations end) from to tokens holds =
    annotated_bracket limit begun holder annotations end (from_to from to)
position_bracket limit number begun (fronting of mode) from to tokens holds =
    fronting_bracket (HeadOf of) limit number begun of mode (from_to from to) holds.holds.form
position_bracket limit number begun (variant_read fronted) from to tokens holds = λ token start end.
    tt
position_bracket limit number begun (parameter_read owner parameters front) from to tokens holds =
    λ token start end. tt
position_bracket limit number begun (function_read fronted parameters frequency) from to tokens
    holds =
    function_bracket limit begun fronted parameters frequency (from_to from to)
position_bracket limit number begun (annotation_declared named parameters) from to tokens holds =
    λ token start end. tt
position_bracket limit number begun (struct_named named) from to tokens holds = λ token start end.
    tt
position_bracket limit number begun (field_read held front) from to tokens holds = λ token start
    end. tt
position_bracket limit number begun (enum_named named) from to tokens holds = λ token start end. tt
position_bracket limit number begun (value_read held name) from to tokens holds = λ token start end.
    tt
position_bracket limit number begun (number_read held name value end) from to tokens holds =
    λ token start stop. tt
position_bracket limit number begun (expression site mode frames) from to tokens holds =
    expression_bracket limit begun site mode frames from to
position_bracket limit number begun (opened site mode frames bracket) from to tokens holds =
    behind_less limit begun site (finish limit mode frames)
position_bracket limit number begun position from to tokens holds = tt

state_bracket : (limit number : ℕ) (state : State) (from to : ℕ) (tokens : List Token) → ModuleHolds
    state tokens →
    BracketOutcome limit (module_sort_step limit number state opening_bracket (from_to from to))
state_bracket limit number (within begun position) from to tokens holds =
    position_bracket limit number begun position from to tokens holds
state_bracket limit number state from to tokens holds = tt

pub size_never_deep : (strict : Bool) (limit : ℕ) (before : List Token) (bracket less : Token)
    (state : State) → ModuleLeads strict limit 0 mdl_wanted (before ++ bracket ∷ []) state →
    IsMark bracket (codes "[") → IsMark less (codes "<") →
    module_step limit (length (before ++ bracket ∷ [])) state less ≡ too_deep → ⊥
size_never_deep strict limit before bracket less state leads opens lesser is =
    by (reached_last strict limit state before bracket leads)
  where
    by : (mid : State) × ModuleLeads strict limit 0 mdl_wanted before mid
        × (module_taken strict limit (length before) mid bracket ≡ on state) → ⊥
    by (mid, first, took) =
        let step : module_sort_step limit (length before) mid opening_bracket
        (from_to bracket.at bracket.end)
        ≡ on state = subst (λ s. module_sort_step limit (length before) mid s
        (from_to bracket.at bracket.end)
        ≡ on state) (ap sort_of opens.is) (taken_step strict limit (length before) mid state bracket
        took) in
        let behind : BracketOutcome limit (on state) = subst (BracketOutcome limit) step
        (state_bracket limit (length before) mid bracket.at bracket.end before
        (reached_holds strict limit before mid first)) in
        let made : LessOutcome (module_step limit (length (before ++ bracket ∷ [])) state less) =
        subst (λ s. LessOutcome (module_sort_step limit (length (before ++ bracket ∷ [])) state s
        (from_to less.at less.end))) (sym (ap sort_of lesser.is))
        (behind (length (before ++ bracket ∷ [])) less.at less.end) in
        subst LessOutcome is made

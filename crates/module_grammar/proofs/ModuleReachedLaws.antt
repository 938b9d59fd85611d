-- All tokens that the machine of modules takes can be led on to the end of a module.
use Rattle.std.proofs.Common.{◌≡◌, subst, refl, ℕ, suc, ◌≤◌, Bool, true, false, List, [], ◌∷◌}
use Rattle.std.proofs.Common.{Option, Some, None, if◌then◌else◌}
use Rattle.std.proofs.lemmas.Bool.{false≢true}
use Rattle.mdl_lexer.specs.declared.token.Token.{Token}
use Rattle.mdl_syntax.specs.declared.types.Freq.{Freq}
use Rattle.mdl_syntax.specs.declared.modules.VersionLit.{VersionLit}
use Rattle.mdl_syntax.specs.Modules.{Annotation, Parameter, ModuleTree}
use Rattle.mdl_syntax.specs.AcceptedModules.{is_version}
use Rattle.module_grammar.specs.inside.ModuleMachine.{module_step, before_body, behind_parameter}
use Rattle.module_grammar.specs.inside.ModuleMachine.{deferred_of_site, judged, permitted_state}
use Rattle.module_grammar.specs.inside.ModuleMachine.{permitted, module_taken}
use Rattle.module_grammar.specs.inside.ModuleStates.{Begun, Fronted, Site}
use Rattle.module_grammar.specs.inside.ModuleMachine.{Verdict}
use Rattle.module_grammar.specs.inside.ModuleStates.{Position, State, Outcome}
use Rattle.module_grammar.specs.inside.ModuleStates.{in_function_body, in_default, in_field_default}
use Rattle.module_grammar.specs.inside.ModuleStates.{in_annotation, in_base, of_declaration}
use Rattle.module_grammar.specs.inside.ModuleStates.{of_parameter, of_field, fronting, expression}
use Rattle.module_grammar.specs.inside.ModuleStates.{opened, mdl_wanted, version_wanted}
use Rattle.module_grammar.specs.inside.ModuleStates.{version_read, within, on, waits, wrong}
use Rattle.module_grammar.specs.inside.ModuleStates.{too_deep, leaves_out, statement_body}
use Rattle.module_grammar.specs.inside.ModuleMachine.{passes, refused_here}
use Rattle.module_grammar.specs.inside.ModuleStates.{other_version}
use Rattle.module_grammar.specs.inside.ModuleMachine.{refused_before, undecided}
use Rattle.expression_grammar.specs.inside.Machine.{sort_of, from_to, is_deferred, Frame, Mode, wanted}
use Rattle.module_grammar.specs.inside.ModuleLeads.{MayGoOn, ModuleLeads, ModuleEnds, here, next}
use Rattle.module_grammar.proofs.ModuleViableSites.{IsBodyPlain}
use Rattle.module_grammar.proofs.ModuleReachedSteps.{Started, PositionComes, StateComes, ComesTo}
use Rattle.module_grammar.proofs.ModuleReachedSteps.{started}
use Rattle.module_grammar.proofs.ModuleReachedPositions.{StateReached, sort_comes}
use Rattle.module_grammar.proofs.ModuleFitsLaws.{module_leads_fits}
use Rattle.module_grammar.proofs.ModuleViableLaws.{IsReached, module_viable}

-- What is permitted.

-- a state that is permitted was come to, and may be gone on from
abbrev Permits : Bool → Outcome → Type 0
Permits strict (on state) = StateReached strict state × MayGoOn strict state
Permits strict _ = Unit {0}

abbrev IsRefusing : Verdict → Type 0
IsRefusing passes = ⊥
IsRefusing _ = Unit {0}

if_plain : (state : State) (verdict : Verdict) (test : Bool) → IsRefusing verdict →
    (test ≡ false → StateReached true state × MayGoOn true state) →
    Permits true (judged state (if test then verdict else passes))
if_plain state passes true refuses settled = absurd refuses
if_plain state refused_here true refuses settled = tt
if_plain state (refused_before at) true refuses settled = tt
if_plain state undecided true refuses settled = tt
if_plain state verdict false refuses settled = settled refl

behind_refuses : (earlier : Option ℕ) → IsRefusing (behind_parameter earlier)
behind_refuses None = tt
behind_refuses (Some at) = tt

plain_settled : (begun : Begun) (site : Site) (mode : Mode) (frames : List Frame) →
    IsBodyPlain site → is_deferred mode ≡ false →
    StateReached true (within begun (expression site mode frames))
    × MayGoOn true (within begun (expression site mode frames))
plain_settled begun (in_function_body fronted parameters frequency annotations) mode frames body
    plain = (λ strictly. body, (plain, body))
plain_settled begun (in_default owner parameters front) mode frames body plain =
    (λ strictly. body, plain)
plain_settled begun (in_field_default held front) mode frames body plain =
    (λ strictly. body, plain)
plain_settled begun (in_annotation holder annotations) mode frames body plain =
    (λ strictly. body, plain)
plain_settled begun (in_base fronted annotations) mode frames body plain =
    (λ strictly. body, plain)

goes_permits : (begun : Begun) (site : Site) (mode : Mode) (frames : List Frame) →
    IsBodyPlain site →
    Permits true (judged (within begun (expression site mode frames))
    (if is_deferred mode then behind_parameter (deferred_of_site site) else passes))
goes_permits begun site mode frames body =
    if_plain (within begun (expression site mode frames)) (behind_parameter (deferred_of_site site))
    (is_deferred mode) (behind_refuses (deferred_of_site site))
    (λ plain. plain_settled begun site mode frames body plain)

-- a body begins
body_permits : (begun : Begun) (fronted : Fronted) (parameters : List Parameter)
    (frequency : Option Freq) (annotations : Option (List Annotation)) (earlier : Option ℕ) →
    fronted.deferred ≡ earlier →
    Permits true (judged (within begun (expression
    (in_function_body fronted parameters frequency annotations) wanted [])) (before_body earlier))
body_permits begun fronted parameters frequency annotations None is =
    plain_settled begun (in_function_body fronted parameters frequency annotations) wanted [] is
    refl
body_permits begun fronted parameters frequency annotations (Some at) is = tt

expression_permits : (begun : Begun) (site : Site) (mode : Mode) (frames : List Frame) →
    Started true site mode frames →
    Permits true (permitted_state (within begun (expression site mode frames)))
expression_permits begun (in_function_body fronted parameters frequency annotations) wanted []
    started =
    body_permits begun fronted parameters frequency annotations fronted.deferred refl
expression_permits begun (in_function_body fronted parameters frequency annotations) wanted
    (frame ∷ frames) started =
    goes_permits begun (in_function_body fronted parameters frequency annotations) wanted
    (frame ∷ frames) (started refl)
expression_permits begun (in_function_body fronted parameters frequency annotations) mode frames
    started =
    goes_permits begun (in_function_body fronted parameters frequency annotations) mode frames
    (started refl)
expression_permits begun (in_default owner parameters front) mode frames started =
    goes_permits begun (in_default owner parameters front) mode frames tt
expression_permits begun (in_field_default held front) mode frames started =
    goes_permits begun (in_field_default held front) mode frames tt
expression_permits begun (in_annotation holder annotations) mode frames started =
    goes_permits begun (in_annotation holder annotations) mode frames tt
expression_permits begun (in_base fronted annotations) mode frames started =
    goes_permits begun (in_base fronted annotations) mode frames tt

position_permits : (begun : Begun) (position : Position) → PositionComes true position →
    Permits true (permitted_state (within begun position))
position_permits begun (fronting (of_parameter owner parameters) mode) comes = (comes, tt)
position_permits begun (fronting (of_declaration at exported) mode) comes =
    if_plain (within begun (fronting (of_declaration at exported) mode)) refused_here
    (is_deferred mode) tt (λ plain. (comes, plain))
position_permits begun (fronting (of_field held) mode) comes =
    if_plain (within begun (fronting (of_field held) mode)) refused_here (is_deferred mode) tt
    (λ plain. (comes, plain))
position_permits begun (expression site mode frames) comes =
    expression_permits begun site mode frames comes
position_permits begun (opened site mode frames bracket) comes = (comes, tt)
position_permits begun position comes = (tt, tt)

version_permits : (at : ℕ) (version : VersionLit) (test : Bool) →
    Permits true (if test then on (version_read at version) else other_version)
version_permits at version true = (tt, tt)
version_permits at version false = tt

state_permits : (state : State) → StateComes true state → Permits true (permitted_state state)
state_permits mdl_wanted comes = (tt, tt)
state_permits (version_wanted at) comes = (tt, tt)
state_permits (version_read at version) comes =
    version_permits at version (is_version version.text version.double)
state_permits (within begun position) comes = position_permits begun position comes

loose_reached : (state : State) → StateComes false state → StateReached false state
loose_reached (within begun (fronting of mode)) comes = comes
loose_reached (within begun (opened site mode frames bracket)) comes = comes
loose_reached (within begun (expression site mode frames)) comes =
    λ strictly. absurd (false≢true strictly)
loose_reached (within begun position) comes = tt
loose_reached state comes = tt

outcome_permits : (strict : Bool) (made : Outcome) → ComesTo strict made →
    Permits strict (permitted strict made)
outcome_permits true (on state) comes = state_permits state comes
outcome_permits true (waits state) comes = tt
outcome_permits true wrong comes = tt
outcome_permits true too_deep comes = tt
outcome_permits true (leaves_out earlier text) comes = tt
outcome_permits true statement_body comes = tt
outcome_permits true other_version comes = tt
outcome_permits false (on state) comes = (loose_reached state comes, tt)
outcome_permits false _ comes = tt

-- a token that is taken leads to a state that may be gone on from
pub module_reached_step : (strict : Bool) (limit number : ℕ) (state : State) (token : Token)
    (after : State) → StateReached strict state →
    module_taken strict limit number state token ≡ on after →
    StateReached strict after × MayGoOn strict after
module_reached_step strict limit number state token after reached is =
    subst (Permits strict) is (outcome_permits strict (module_step limit number state token)
    (sort_comes strict limit number state (sort_of token.kind) (from_to token.at token.end)
    reached))

pub module_reached : (strict : Bool) (limit number : ℕ) (state last : State)
    (tokens : List Token) → StateReached strict state → MayGoOn strict state →
    ModuleLeads strict limit number state tokens last →
    StateReached strict last × MayGoOn strict last
module_reached strict limit number state last tokens reached may (here _ _) = (reached, may)
module_reached strict limit number state last tokens reached may
    (next _ _ after _ token more is leads) =
    let both = module_reached_step strict limit number state token after reached is in
    module_reached strict limit (suc number) after last more both.0 both.1 leads

reached_is : (strict : Bool) (state : State) → StateReached strict state → IsReached state
reached_is strict (within begun (fronting of mode)) reached = reached
reached_is strict (within begun position) reached = tt
reached_is strict state reached = tt

-- where no expression or front is begun, the machine may go on
start_may : (strict : Bool) → MayGoOn strict mdl_wanted
start_may true = tt
start_may false = tt

-- all tokens that are taken, others lead on from to the end of a module
pub module_leads_viable : (strict : Bool) (limit number : ℕ) (tokens : List Token) (state : State)
    (from : ℕ) → 1 ≤ limit → ModuleLeads strict limit number mdl_wanted tokens state →
    (more : List Token) × (tree : ModuleTree) × ModuleEnds strict limit from state more tree
module_leads_viable strict limit number tokens state from room leads =
    let both = module_reached strict limit number mdl_wanted state tokens tt (start_may strict)
    leads in
    module_viable strict limit from state room
    (module_leads_fits strict limit number mdl_wanted tokens state room tt leads)
    (reached_is strict state both.0) both.1

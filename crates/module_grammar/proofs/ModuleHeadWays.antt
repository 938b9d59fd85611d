-- How ways of the machine of modules are put together, with tokens numbered from the first.
use Rattle.std.proofs.Common.{◌≡◌, ◌∙◌, sym, ap, subst, refl, arith, ℕ, suc, ◌+◌, Bool, true, false}
use Rattle.std.proofs.Common.{List, [], ◌∷◌, ◌++◌, length, if◌then◌else◌}
use Rattle.std.proofs.lemmas.List.{append_assoc, append-nil}
use Rattle.mdl_lexer.specs.declared.token.Token.{Token}
use Rattle.mdl_syntax.specs.declared.modules.VersionLit.{VersionLit}
use Rattle.mdl_syntax.specs.AcceptedModules.{is_version}
use Rattle.module_grammar.specs.inside.ModuleMachine.{Verdict}
use Rattle.module_grammar.specs.inside.ModuleStates.{State, Outcome, on, waits, wrong}
use Rattle.module_grammar.specs.inside.ModuleStates.{too_deep, leaves_out, statement_body}
use Rattle.module_grammar.specs.inside.ModuleStates.{other_version, mdl_wanted, version_wanted}
use Rattle.module_grammar.specs.inside.ModuleMachine.{passes, refused_here}
use Rattle.module_grammar.specs.inside.ModuleStates.{version_read, within}
use Rattle.module_grammar.specs.inside.ModuleMachine.{refused_before, undecided, verdict_in, judged}
use Rattle.module_grammar.specs.inside.ModuleMachine.{permitted_state, permitted, module_step}
use Rattle.module_grammar.specs.inside.ModuleMachine.{module_taken}
use Rattle.module_grammar.specs.inside.ModuleLeads.{ModuleLeads, here, next}
use Rattle.module_grammar.specs.inside.ModuleHolds.{ModuleHolds}
use Rattle.module_grammar.proofs.ModuleSoundStep.{module_sound_step}
use Rattle.module_grammar.proofs.ModuleHeadKinds.{MayStand, holds_may}

abbrev IsOn : Outcome → Type 0
IsOn (on state) = Unit {0}
IsOn made = ⊥

judged_on : (state after : State) (verdict : Verdict) → judged state verdict ≡ on after → on state ≡
    on after
judged_on state after passes is = is
judged_on state after refused_here is = absurd (subst IsOn (sym is) tt)
judged_on state after (refused_before at) is = absurd (subst IsOn (sym is) tt)
judged_on state after undecided is = absurd (subst IsOn (sym is) tt)

version_on : (at : ℕ) (version : VersionLit) (after : State) (test : Bool) →
    (if test then on (version_read at version) else other_version) ≡ on after → on
    (version_read at version) ≡ on after
version_on at version after true is = is
version_on at version after false is = absurd (subst IsOn (sym is) tt)

state_on : (state after : State) → permitted_state state ≡ on after → on state ≡ on after
state_on mdl_wanted after is = is
state_on (version_wanted at) after is = is
state_on (version_read at version) after is =
    version_on at version after (is_version version.text version.double) is
state_on (within begun position) after is = judged_on (within begun position) after
    (verdict_in position) is

permitted_on : (strict : Bool) (made : Outcome) (after : State) → permitted strict made ≡ on after →
    made ≡ on after
permitted_on true (on state) after is = state_on state after is
permitted_on true (waits state) after is = is
permitted_on true wrong after is = is
permitted_on true too_deep after is = is
permitted_on true (leaves_out earlier text) after is = is
permitted_on true statement_body after is = is
permitted_on true other_version after is = is
permitted_on false made after is = is

-- what is taken is a step
pub taken_step : (strict : Bool) (limit number : ℕ) (state after : State) (token : Token) →
    module_taken strict limit number state token ≡ on after → module_step limit number state token ≡
    on after
taken_step strict limit number state after token is =
    permitted_on strict (module_step limit number state token) after is

pub leads_hold : (strict : Bool) (limit number : ℕ) (state last : State)
    (before tokens : List Token) →
    ModuleHolds state before → ModuleLeads strict limit number state tokens last →
    ModuleHolds last (before ++ tokens)
leads_hold strict limit number state last before tokens holds (here _ _) =
    subst (ModuleHolds state) (sym (append-nil before)) holds
leads_hold strict limit number state last before tokens holds
    (next _ _ later _ token rest is leads) =
    subst (ModuleHolds last) (append_assoc before (token ∷ []) rest)
    (leads_hold strict limit (suc number) later last (before ++ token ∷ []) rest
    (module_sound_step limit number state before token later holds
    (taken_step strict limit number state later token is)) leads)

-- a state that is reached holds, and may stand
pub reached_holds : (strict : Bool) (limit : ℕ) (tokens : List Token) (state : State) →
    ModuleLeads strict limit 0 mdl_wanted tokens state → ModuleHolds state tokens
reached_holds strict limit tokens state leads = leads_hold strict limit 0 mdl_wanted state [] tokens
    refl leads

pub reached_may : (strict : Bool) (limit : ℕ) (tokens : List Token) (state : State) →
    ModuleLeads strict limit 0 mdl_wanted tokens state → MayStand state
reached_may strict limit tokens state leads = holds_may state tokens
    (reached_holds strict limit tokens state leads)

-- one token more
leads_more : (strict : Bool) (limit number all : ℕ) (state later after : State)
    (tokens : List Token)
    (token : Token) → all ≡ number + length tokens → ModuleLeads strict limit number state tokens
    later →
    module_taken strict limit all later token ≡ on after →
    ModuleLeads strict limit number state (tokens ++ token ∷ []) after
leads_more strict limit number all state later after tokens token same (here _ _) is =
    next number state after after token []
    (subst (λ n. module_taken strict limit n state token ≡ on after) (omega (arith, same)) is)
    (here (suc number) after)
leads_more strict limit number all state later after tokens token same
    (next _ _ mid _ first rest goes_on leads) is =
    next number state mid after first (rest ++ token ∷ []) goes_on
    (leads_more strict limit (suc number) all mid later after rest token (omega (arith, same)) leads
    is)

pub reached_more : (strict : Bool) (limit : ℕ) (state after : State) (tokens : List Token)
    (token : Token) →
    ModuleLeads strict limit 0 mdl_wanted tokens state →
    module_taken strict limit (length tokens) state token ≡ on after →
    ModuleLeads strict limit 0 mdl_wanted (tokens ++ token ∷ []) after
reached_more strict limit state after tokens token leads is =
    leads_more strict limit 0 (length tokens) mdl_wanted state after tokens token (omega arith)
    leads is

-- a way to the last token, and the last token
last_step : (strict : Bool) (limit number all : ℕ) (state last : State) (tokens : List Token)
    (token : Token) → all ≡ number + length tokens →
    ModuleLeads strict limit number state (tokens ++ token ∷ []) last →
    (mid : State) × ModuleLeads strict limit number state tokens mid
    × (module_taken strict limit all mid token ≡ on last)
last_step strict limit number all state last [] token same (next _ _ later _ _ _ is (here _ _)) = (
  state,
  here number state,
  subst (λ n. module_taken strict limit n state token ≡ on last) (omega (arith, same)) is,
)
last_step strict limit number all state last (first ∷ tokens) token same
    (next _ _ later _ _ _ goes_on leads) =
    let (mid, before, is) = last_step strict limit (suc number) all later last tokens token
    (omega (arith, same)) leads in
    (mid, next number state later mid first tokens goes_on before, is)

pub reached_last : (strict : Bool) (limit : ℕ) (last : State) (tokens : List Token) (token : Token)
    →
    ModuleLeads strict limit 0 mdl_wanted (tokens ++ token ∷ []) last →
    (mid : State) × ModuleLeads strict limit 0 mdl_wanted tokens mid
    × (module_taken strict limit (length tokens) mid token ≡ on last)
reached_last strict limit last tokens token leads =
    last_step strict limit 0 (length tokens) mdl_wanted last tokens token (omega arith) leads

abbrev state_of : State → Outcome → State
state_of other (on state) = state
state_of other made = other

-- from one state the same tokens lead to one state
pub leads_to_one : (strict : Bool) (limit number : ℕ) (state a b : State) (tokens : List Token) →
    ModuleLeads strict limit number state tokens a → ModuleLeads strict limit number state tokens b
    → a ≡ b
leads_to_one strict limit number state a b tokens (here _ _) (here _ _) = refl
leads_to_one strict limit number state a b tokens (next _ _ one _ token rest is first)
    (next _ _ other _ _ _ also second) =
    leads_to_one strict limit (suc number) other a b rest
    (subst (λ (s : State). ModuleLeads strict limit (suc number) s rest a)
    (ap (state_of one) (sym is ∙ also)) first)
    second

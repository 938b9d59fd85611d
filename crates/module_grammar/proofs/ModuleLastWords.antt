-- What tokens lead to, by their last one, and what holds of all tokens that are taken.
use Rattle.std.proofs.Common.{◌≡◌, ◌∙◌, sym, ap, subst, refl, ℕ, suc, Bool, true, false, List, []}
use Rattle.std.proofs.Common.{◌∷◌, ◌++◌, if◌then◌else◌}
use Rattle.std.proofs.lemmas.List.{append_assoc, append-nil}
use Rattle.mdl_lexer.specs.declared.token.Token.{Token}
use Rattle.mdl_syntax.specs.declared.modules.VersionLit.{VersionLit}
use Rattle.mdl_syntax.specs.AcceptedModules.{is_version}
use Rattle.module_grammar.specs.inside.ModuleMachine.{Verdict}
use Rattle.module_grammar.specs.inside.ModuleStates.{State, Outcome, on, mdl_wanted}
use Rattle.module_grammar.specs.inside.ModuleMachine.{passes}
use Rattle.module_grammar.specs.inside.ModuleStates.{version_wanted, version_read, within}
use Rattle.module_grammar.specs.inside.ModuleMachine.{refused_here, refused_before, undecided}
use Rattle.module_grammar.specs.inside.ModuleMachine.{verdict_in, judged, permitted_state, permitted}
use Rattle.module_grammar.specs.inside.ModuleMachine.{module_step, module_taken}
use Rattle.module_grammar.specs.inside.ModuleStates.{other_version}
use Rattle.module_grammar.specs.inside.ModuleLeads.{ModuleLeads, here, next}
use Rattle.module_grammar.specs.inside.ModuleHolds.{ModuleHolds}
use Rattle.module_grammar.proofs.ModuleSoundStep.{module_sound_step}

-- What is taken is stepped to.

-- the outcome goes on to this state, if to any
abbrev GoesTo : State → Outcome → Type 0
GoesTo state (on after) = state ≡ after
GoesTo state _ = Unit {0}

judged_same : (state : State) (verdict : Verdict) → GoesTo state (judged state verdict)
judged_same state passes = refl
judged_same state refused_here = tt
judged_same state (refused_before at) = tt
judged_same state undecided = tt

version_same : (at : ℕ) (version : VersionLit) (test : Bool) →
    GoesTo (version_read at version) (if test then on (version_read at version) else other_version)
version_same at version true = refl
version_same at version false = tt

permitted_same : (state : State) → GoesTo state (permitted_state state)
permitted_same mdl_wanted = refl
permitted_same (version_wanted at) = refl
permitted_same (version_read at version) =
    version_same at version (is_version version.text version.double)
permitted_same (within begun position) = judged_same (within begun position) (verdict_in position)

abbrev pub IsOn : Outcome → Type 0
IsOn (on state) = Unit {0}
IsOn _ = ⊥

-- what is permitted to go on goes on so
pub permitted_on : (strict : Bool) (made : Outcome) (after : State) →
    permitted strict made ≡ on after → made ≡ on after
permitted_on true (on state) after is = ap on (subst (GoesTo state) is (permitted_same state))
permitted_on true made after is = is
permitted_on false made after is = is

pub taken_on : (strict : Bool) (limit number : ℕ) (state : State) (token : Token) (after : State) →
    module_taken strict limit number state token ≡ on after →
    module_step limit number state token ≡ on after
taken_on strict limit number state token after is =
    permitted_on strict (module_step limit number state token) after is

-- The last token.

pub leads_head : (strict : Bool) (limit number : ℕ) (state last : State) (token : Token)
    (tokens : List Token) → ModuleLeads strict limit number state (token ∷ tokens) last →
    (after : State) × (module_taken strict limit number state token ≡ on after)
    × ModuleLeads strict limit (suc number) after tokens last
leads_head strict limit number state last token tokens (next _ _ after _ _ _ is leads) =
    (after, is, leads)

leads_nothing : (strict : Bool) (limit number : ℕ) (state last : State) →
    ModuleLeads strict limit number state [] last → state ≡ last
leads_nothing strict limit number state last (here _ _) = refl

-- tokens that are taken, parted anywhere
pub leads_split : (strict : Bool) (limit number : ℕ) (state last : State)
    (front rest : List Token) → ModuleLeads strict limit number state (front ++ rest) last →
    (mid : State) × (at : ℕ) × ModuleLeads strict limit number state front mid
    × ModuleLeads strict limit at mid rest last
leads_split strict limit number state last [] rest leads =
    (state, number, here number state, leads)
leads_split strict limit number state last (first ∷ front) rest leads =
    let (after, is, behind) = leads_head strict limit number state last first (front ++ rest)
    leads in
    let (mid, at, one, other) = leads_split strict limit (suc number) after last front rest
    behind in (mid, at, next number state after mid first front is one, other)

-- the tokens before the last one lead to a state that steps to the last
pub record LastStep (strict : Bool) (limit number : ℕ) (state : State) (front : List Token)
    (token : Token) (last : State) : Type 0 where
  pub before : State
  pub at : ℕ
  pub leads : ModuleLeads strict limit number state front before
  pub steps : module_step limit at before token ≡ on last

pub leads_last : (strict : Bool) (limit number : ℕ) (state last : State) (front : List Token)
    (token : Token) → ModuleLeads strict limit number state (front ++ token ∷ []) last →
    LastStep strict limit number state front token last
leads_last strict limit number state last [] token leads =
    let (after, is, rest) = leads_head strict limit number state last token [] leads in record {
      before = state;
      at = number;
      leads = here number state;
      steps = taken_on strict limit number state token after is
          ∙ ap on (leads_nothing strict limit (suc number) after last rest);
    }
leads_last strict limit number state last (first ∷ front) token leads =
    let (after, is, rest) = leads_head strict limit number state last first (front ++ token ∷ [])
    leads in
    let step = leads_last strict limit (suc number) after last front token rest in record {
      before = step.before;
      at = step.at;
      leads = next number state after step.before first front is step.leads;
      steps = step.steps;
    }

-- What all tokens stand for.

-- the state stands for all tokens that led to it
pub module_leads_hold : (strict : Bool) (limit number : ℕ) (state last : State)
    (before tokens : List Token) → ModuleHolds state before →
    ModuleLeads strict limit number state tokens last → ModuleHolds last (before ++ tokens)
module_leads_hold strict limit number state last before tokens holds (here _ _) =
    subst (ModuleHolds state) (sym (append-nil before)) holds
module_leads_hold strict limit number state last before tokens holds
    (next _ _ after _ token others is leads) =
    subst (ModuleHolds last) (append_assoc before (token ∷ []) others)
    (module_leads_hold strict limit (suc number) after last (before ++ token ∷ []) others
    (module_sound_step limit number state before token after holds
    (taken_on strict limit number state token after is)) leads)

pub module_start_holds : (strict : Bool) (limit : ℕ) (tokens : List Token) (state : State) →
    ModuleLeads strict limit 0 mdl_wanted tokens state → ModuleHolds state tokens
module_start_holds strict limit tokens state leads =
    module_leads_hold strict limit 0 mdl_wanted state [] tokens refl leads

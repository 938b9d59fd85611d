-- How ways of the machine of modules are put together and taken apart, with more room as well.
use Rattle.std.proofs.Common.{◌≡◌, ◌∙◌, sym, ap, subst, refl, arith, ℕ, suc, ◌+◌, ◌≤◌, Bool, false}
use Rattle.std.proofs.Common.{List, [], ◌∷◌, ◌++◌, length}
use Rattle.mdl_lexer.specs.declared.token.Token.{Token}
use Rattle.module_grammar.specs.inside.ModuleMachine.{module_taken}
use Rattle.module_grammar.specs.inside.ModuleStates.{State, Outcome, on}
use Rattle.module_grammar.specs.inside.ModuleLeads.{ModuleLeads, here, next}
use Rattle.module_grammar.proofs.ModuleTakenLaws.{taken_on, taken_more}

-- a way, counted from an equal number
pub renumbered : (strict : Bool) (limit number other : ℕ) (state last : State)
    (tokens : List Token) → number ≡ other → ModuleLeads strict limit number state tokens last →
    ModuleLeads strict limit other state tokens last
renumbered strict limit number other state last tokens same leads =
    subst (λ (n : ℕ). ModuleLeads strict limit n state tokens last) same leads

pub module_leads_on : (strict : Bool) (limit number : ℕ) (state then last : State)
    (one other : List Token) → ModuleLeads strict limit number state one then →
    ModuleLeads strict limit (number + length one) then other last →
    ModuleLeads strict limit number state (one ++ other) last
module_leads_on strict limit number state then last one other (here _ _) second =
    renumbered strict limit (number + 0) number state last other (omega arith) second
module_leads_on strict limit number state then last one other (next _ _ mid _ token tokens is rest)
    second =
    next number state mid last token (tokens ++ other) is
    (module_leads_on strict limit (suc number) mid then last tokens other rest
    (renumbered strict limit (number + length (token ∷ tokens)) (suc number + length tokens) then
    last other (omega arith) second))

-- one token
pub module_one_step : (strict : Bool) (limit number : ℕ) (state then : State) (token : Token) →
    module_taken strict limit number state token ≡ on then →
    ModuleLeads strict limit number state (token ∷ []) then
module_one_step strict limit number state then token is =
    next number state then then token [] is (here (suc number) then)

pub module_leads_split : (strict : Bool) (limit number : ℕ) (state last : State)
    (one other : List Token) → ModuleLeads strict limit number state (one ++ other) last →
    (then : State) × ModuleLeads strict limit number state one then
    × ModuleLeads strict limit (number + length one) then other last
module_leads_split strict limit number state last [] other leads = (
  state,
  here number state,
  renumbered strict limit number (number + 0) state last other
      (omega arith) leads,
)
module_leads_split strict limit number state last (token ∷ tokens) other
    (next _ _ mid _ _ _ is rest) =
    let (then, first, second) = module_leads_split strict limit (suc number) mid last tokens other
    rest in (
      then,
      next number state mid then token tokens is first,
      renumbered strict limit (suc number + length tokens) (number + length (token ∷ tokens)) then
          last other
          (omega arith) second,
    )

abbrev pub state_in : State → Outcome → State
state_in state (on after) = after
state_in state _ = state

-- from one state the same tokens lead to one state
pub module_leads_same : (strict : Bool) (limit number : ℕ) (state a b : State)
    (tokens : List Token) → ModuleLeads strict limit number state tokens a →
    ModuleLeads strict limit number state tokens b → a ≡ b
module_leads_same strict limit number state a b tokens (here _ _) (here _ _) = refl
module_leads_same strict limit number state a b tokens (next _ _ one _ token more is first)
    (next _ _ other _ _ _ also second) =
    module_leads_same strict limit (suc number) other a b more
    (subst (λ (s : State). ModuleLeads strict limit (suc number) s more a)
    (ap (state_in one) (sym is ∙ also)) first) second

-- what is read strictly is read as well where deferred sizes are
pub module_generous : (strict : Bool) (limit number : ℕ) (state last : State)
    (tokens : List Token) → ModuleLeads strict limit number state tokens last →
    ModuleLeads false limit number state tokens last
module_generous strict limit number state last tokens (here _ _) = here number state
module_generous strict limit number state last tokens (next _ _ mid _ token more is rest) =
    next number state mid last token more (taken_on strict limit number state token mid is)
    (module_generous strict limit (suc number) mid last more rest)

-- with more room a way stays one
pub module_leads_more : (strict : Bool) (less more number : ℕ) (state last : State)
    (tokens : List Token) → less ≤ more → ModuleLeads strict less number state tokens last →
    ModuleLeads strict more number state tokens last
module_leads_more strict less more number state last tokens fits (here _ _) = here number state
module_leads_more strict less more number state last tokens fits
    (next _ _ mid _ token others is rest) =
    next number state mid last token others (taken_more strict less more number state token mid fits
    is) (module_leads_more strict less more (suc number) mid last others fits rest)

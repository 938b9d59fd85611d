-- How ways of the machine of modules are put together, and how a token of a sort is taken.
use Rattle.std.proofs.Common.{◌≡◌, ◌∙◌, sym, ap, subst, refl, ℕ, suc, Bool, true, false, List, []}
use Rattle.std.proofs.Common.{◌∷◌, ◌++◌}
use Rattle.mdl_lexer.specs.declared.token.Token.{Token}
use Rattle.mdl_syntax.specs.declared.names.Span.{Span}
use Rattle.expression_grammar.specs.inside.Machine.{Sort, sort_of, left_out}
use Rattle.module_grammar.specs.inside.ModuleMachine.{module_taken, state_step, permitted}
use Rattle.module_grammar.specs.inside.ModuleStates.{State, on}
use Rattle.module_grammar.specs.inside.ModuleMachine.{permitted_state, module_sort_step}
use Rattle.module_grammar.specs.inside.ModuleLeads.{ModuleLeads, here, next}
use Rattle.expression_grammar.specs.inside.Sound.{place}

-- from any number of a token, the tokens lead from the state to the other
abbrev pub Way : Bool → ℕ → State → List Token → State → Type 0
Way strict limit state tokens last = (number : ℕ) → ModuleLeads strict limit number state tokens last

leads_on : (strict : Bool) (limit number : ℕ) (state then last : State) (one other : List Token) →
    ModuleLeads strict limit number state one then → Way strict limit then other last →
    ModuleLeads strict limit number state (one ++ other) last
leads_on strict limit number state then last one other (here _ _) second = second number
leads_on strict limit number state then last one other (next _ _ mid _ token tokens is rest)
    second =
    next number state mid last token (tokens ++ other) is
    (leads_on strict limit (suc number) mid then last tokens other rest second)

pub way_on : {strict : Bool} {limit : ℕ} {state last : State} {one other : List Token}
    (then : State) → Way strict limit state one then → Way strict limit then other last →
    Way strict limit state (one ++ other) last
way_on {strict} {limit} {state} {last} {one} {other} then first second number =
    leads_on strict limit number state then last one other (first number) second

pub stay : {strict : Bool} {limit : ℕ} {state : State} → Way strict limit state [] state
stay {strict} {limit} {state} number = here number state

-- no sort of something left out
abbrev pub IsKept : Sort → Type 0
IsKept (left_out text) = ⊥
IsKept sort = Unit {0}

kept_step : (limit number : ℕ) (state : State) (sort : Sort) (at : Span) → IsKept sort →
    module_sort_step limit number state sort at ≡ state_step limit number state sort at
kept_step limit number state (left_out text) at kept = absurd kept
kept_step limit number state sort at kept = refl

permitted_same : (strict : Bool) (state : State) → permitted_state state ≡ on state →
    permitted strict (on state) ≡ on state
permitted_same true state is = is
permitted_same false state is = refl

-- a token of a sort is taken as the state says
pub sort_taken : (strict : Bool) (limit number : ℕ) (state then : State) (token : Token)
    (sort : Sort) → sort_of token.kind ≡ sort → IsKept sort →
    state_step limit number state sort (place token) ≡ on then → permitted_state then ≡ on then →
    module_taken strict limit number state token ≡ on then
sort_taken strict limit number state then token sort is kept same allowed =
    ap (λ s. permitted strict (module_sort_step limit number state s (place token))) is
    ∙ (ap (permitted strict) (kept_step limit number state sort (place token) kept ∙ same)
    ∙ permitted_same strict then allowed)

-- and others go on behind it
pub by_sort : {strict : Bool} {limit : ℕ} {state last : State} {token : Token} {tokens : List Token}
    (then : State) (sort : Sort) → sort_of token.kind ≡ sort → IsKept sort →
    ((number : ℕ) → state_step limit number state sort (place token) ≡ on then) →
    permitted_state then ≡ on then → Way strict limit then tokens last →
    Way strict limit state (token ∷ tokens) last
by_sort {strict} {limit} {state} {last} {token} {tokens} then sort is kept same allowed rest number =
    next number state then last token tokens
    (sort_taken strict limit number state then token sort is kept (same number) allowed)
    (rest (suc number))

-- what a machine that isn't strict takes, it goes on with
pub by_loose : {strict : Bool} {limit : ℕ} {state last : State} {token : Token}
    {tokens : List Token} (then : State) (sort : Sort) → sort_of token.kind ≡ sort → IsKept sort →
    ((number : ℕ) → state_step limit number state sort (place token) ≡ on then) →
    strict ≡ false → Way strict limit then tokens last →
    Way strict limit state (token ∷ tokens) last
by_loose {strict} {limit} {state} {last} {token} {tokens} then sort is kept same loose rest number =
    next number state then last token tokens
    (subst (λ b. module_taken b limit number state token ≡ on then) (sym loose)
    (ap (λ s. permitted false (module_sort_step limit number state s (place token))) is
    ∙ ap (permitted false) (kept_step limit number state sort (place token) kept ∙ same number)))
    (rest (suc number))

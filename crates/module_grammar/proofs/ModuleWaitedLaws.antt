-- Where a size that waits is left out: there, or at an earlier size once a body is reached.
use Rattle.std.proofs.Common.{◌≡◌, ◌∙◌, sym, ap, subst, refl, ℕ, suc, Bool, false, List, [], ◌∷◌}
use Rattle.std.proofs.Common.{Option, Some, None}
use Rattle.mdl_lexer.specs.declared.token.Token.{Token}
use Rattle.mdl_syntax.specs.declared.types.Freq.{Freq}
use Rattle.mdl_syntax.specs.Modules.{Annotation, Parameter}
use Rattle.expression_grammar.specs.inside.Machine.{Mode, Frame}
use Rattle.module_grammar.specs.inside.ModuleStates.{Begun, Fronted, State, Outcome, on, within}
use Rattle.module_grammar.specs.inside.ModuleStates.{item_wanted, expression, in_function_body}
use Rattle.module_grammar.specs.inside.ModuleMachine.{module_step, module_taken, place_or, over_at}
use Rattle.module_grammar.specs.inside.ModuleMachine.{ends_waiting, step_from, waiting_place}
use Rattle.module_grammar.proofs.ModuleLeadsLaws.{state_in}

-- a state in which no body has begun, and the declaration isn't whole
abbrev pub IsGoing : State → Type 0
IsGoing (within begun (expression (in_function_body fronted parameters frequency annotations) mode
    frames)) = ⊥
IsGoing (within begun (item_wanted early)) = ⊥
IsGoing state = Unit {0}

-- the tokens lead through such states alone to a body, with this first size that is deferred
pub data ReachesBody (limit : ℕ) : ℕ → State → List Token → Option ℕ → Type 0 where
  at_body : (number : ℕ) (begun : Begun) (fronted : Fronted) (parameters : List Parameter)
      (frequency : Option Freq) (annotations : Option (List Annotation)) (mode : Mode)
      (frames : List Frame) (tokens : List Token) (deferred : Option ℕ) →
      fronted.deferred ≡ deferred → ReachesBody limit number
      (within begun (expression (in_function_body fronted parameters frequency annotations) mode
      frames)) tokens deferred
  goes_to : (number : ℕ) (state then : State) (token : Token) (tokens : List Token)
      (deferred : Option ℕ) → IsGoing state →
      module_taken false limit number state token ≡ on then →
      ReachesBody limit (suc number) then tokens deferred →
      ReachesBody limit number state (token ∷ tokens) deferred

-- a body is reached, and the first size of a parameter is left out; or none is, and the one
-- that waits is
pub data Waited (limit waiting number : ℕ) (state : State) (tokens : List Token) (place : ℕ)
    : Type 0 where
  reached : (deferred : Option ℕ) → ReachesBody limit number state tokens deferred →
      place ≡ place_or waiting deferred → Waited limit waiting number state tokens place
  unreached : ((deferred : Option ℕ) → ReachesBody limit number state tokens deferred → ⊥) →
      place ≡ waiting → Waited limit waiting number state tokens place

data Standing : State → Type 0 where
  in_body : (begun : Begun) (fronted : Fronted) (parameters : List Parameter)
      (frequency : Option Freq) (annotations : Option (List Annotation)) (mode : Mode)
      (frames : List Frame) → Standing
      (within begun (expression (in_function_body fronted parameters frequency annotations) mode
      frames))
  in_item : (begun : Begun) (early : Bool) → Standing (within begun (item_wanted early))
  going : (state : State) → IsGoing state → ((waiting : ℕ) → over_at waiting state ≡ None) →
      Standing state

standing : (state : State) → Standing state
standing (within begun (expression (in_function_body fronted parameters frequency annotations) mode
    frames)) =
    in_body begun fronted parameters frequency annotations mode frames
standing (within begun (item_wanted early)) = in_item begun early
standing state = going state tt (λ waiting. refl)

-- Where no body is reached.

item_unreached : (limit number : ℕ) (begun : Begun) (early : Bool) (tokens : List Token)
    (deferred : Option ℕ) → ReachesBody limit number (within begun (item_wanted early)) tokens
    deferred → ⊥
item_unreached limit number begun early tokens deferred (goes_to _ _ then token more _ goes is rest)
    = goes

end_unreached : (limit number : ℕ) (state : State) (deferred : Option ℕ) → IsGoing state →
    ReachesBody limit number state [] deferred → ⊥
end_unreached limit number state deferred goes
    (at_body _ begun fronted parameters frequency annotations mode frames _ _ is) = goes

abbrev IsAnyOn : Outcome → Type 0
IsAnyOn (on state) = Unit {0}
IsAnyOn _ = ⊥

step_unreached : (limit number : ℕ) (state : State) (token : Token) (tokens : List Token)
    (deferred : Option ℕ) (what : Outcome) → IsGoing state →
    module_step limit number state token ≡ what → (IsAnyOn what → ⊥) →
    ReachesBody limit number state (token ∷ tokens) deferred → ⊥
step_unreached limit number state token tokens deferred what goes is none
    (at_body _ begun fronted parameters frequency annotations mode frames _ _ same) = goes
step_unreached limit number state token tokens deferred what goes is none
    (goes_to _ _ then _ _ _ also steps rest) =
    none (subst IsAnyOn (sym steps ∙ is) tt)

shorter : (limit number : ℕ) (state then : State) (token : Token) (tokens : List Token)
    (deferred : Option ℕ) → IsGoing state → module_step limit number state token ≡ on then →
    ReachesBody limit number state (token ∷ tokens) deferred →
    ReachesBody limit (suc number) then tokens deferred
shorter limit number state then token tokens deferred goes is
    (at_body _ begun fronted parameters frequency annotations mode frames _ _ same) = absurd goes
shorter limit number state then token tokens deferred goes is
    (goes_to _ _ other _ _ _ also steps rest) =
    subst (λ (s : State). ReachesBody limit (suc number) s tokens deferred)
    (ap (state_in then) (sym steps ∙ is)) rest

-- What the place comes to.

stopped : (limit waiting number : ℕ) (what : Outcome) (tokens : List Token) →
    ends_waiting waiting what ≡ Some waiting → waiting_place limit waiting number what tokens
    ≡ waiting
stopped limit waiting number what [] is = ap (place_or waiting) is
stopped limit waiting number what (token ∷ tokens) is =
    ap (place_or (waiting_place limit waiting (suc number) (step_from limit number what token)
    tokens)) is

body_waits : (limit waiting number : ℕ) (begun : Begun) (fronted : Fronted)
    (parameters : List Parameter)
    (frequency : Option Freq) (annotations : Option (List Annotation)) (mode : Mode)
    (frames : List Frame)
    (tokens : List Token) → let state = within begun
    (expression (in_function_body fronted parameters frequency annotations) mode frames) in
    waiting_place limit waiting number (on state) tokens ≡ place_or waiting fronted.deferred
body_waits limit waiting number begun fronted parameters frequency annotations mode frames [] = refl
body_waits limit waiting number begun fronted parameters frequency annotations mode frames
    (token ∷ tokens) =
    refl

step_stops : (limit waiting number : ℕ) (state : State) (token : Token) (tokens : List Token)
    (place : ℕ) (what : Outcome) → IsGoing state → module_step limit number state token ≡ what →
    (IsAnyOn what → ⊥) → place ≡ waiting_place limit waiting (suc number)
    (module_step limit number state token) tokens → ends_waiting waiting what ≡ Some waiting →
    Waited limit waiting number state (token ∷ tokens) place
step_stops limit waiting number state token tokens place what goes is none same ends =
    unreached (λ deferred body. step_unreached limit number state token tokens deferred what goes is
    none body) (same ∙ (ap (λ made. waiting_place limit waiting (suc number) made tokens) is
    ∙ stopped limit waiting (suc number) what tokens ends))

step_goes : (limit waiting number : ℕ) (state then : State) (token : Token) (tokens : List Token)
    (place later : ℕ) → IsGoing state → module_step limit number state token ≡ on then →
    place ≡ later → Waited limit waiting (suc number) then tokens later →
    Waited limit waiting number state (token ∷ tokens) place
step_goes limit waiting number state then token tokens place later goes is same
    (reached deferred body found) =
    reached deferred (goes_to number state then token tokens deferred goes is body) (same ∙ found)
step_goes limit waiting number state then token tokens place later goes is same
    (unreached none found) =
    unreached (λ deferred body. none deferred (shorter limit number state then token tokens deferred
    goes is body)) (same ∙ found)

step_waits : (limit waiting number : ℕ) (state : State) (token : Token) (tokens : List Token)
    (place : ℕ) → IsGoing state → place ≡ waiting_place limit waiting (suc number)
    (module_step limit number state token) tokens →
    ((then : State) → Waited limit waiting (suc number) then tokens
    (waiting_place limit waiting (suc number) (on then) tokens)) → (what : Outcome) →
    module_step limit number state token ≡ what → Waited limit waiting number state (token ∷ tokens)
    place
step_waits limit waiting number state token tokens place goes same rest (on then) is =
    step_goes limit waiting number state then token tokens place
    (waiting_place limit waiting (suc number) (on then) tokens) goes is
    (same ∙ ap (λ made. waiting_place limit waiting (suc number) made tokens) is) (rest then)
step_waits limit waiting number state token tokens place goes same rest what is =
    step_stops limit waiting number state token tokens place what goes is (λ any. any) same refl

-- where a size that waits is left out
pub waited : (limit waiting number : ℕ) (tokens : List Token) (state : State) →
    Waited limit waiting number state tokens (waiting_place limit waiting number (on state) tokens)
waited limit waiting number tokens state = by tokens number state (standing state)
  where
    by : (tokens : List Token) (number : ℕ) (state : State) → Standing state →
        Waited limit waiting number state tokens (waiting_place limit waiting number (on state)
        tokens)
    by tokens number state (in_body begun fronted parameters frequency annotations mode frames) =
        reached fronted.deferred (at_body number begun fronted parameters frequency annotations mode
        frames tokens fronted.deferred refl) (body_waits limit waiting number begun fronted
        parameters frequency annotations mode frames tokens)
    by tokens number state (in_item begun early) =
        unreached (λ deferred body. item_unreached limit number begun early tokens deferred body)
        (stopped limit waiting number (on (within begun (item_wanted early))) tokens refl)
    by [] number state (going _ goes none) =
        unreached (λ deferred body. end_unreached limit number state deferred goes body)
        (ap (place_or waiting) (none waiting))
    by (token ∷ tokens) number state (going _ goes none) =
        step_waits limit waiting number state token tokens
        (waiting_place limit waiting number (on state) (token ∷ tokens)) goes
        (ap (place_or (waiting_place limit waiting (suc number)
        (module_step limit number state token) tokens)) (none waiting))
        (λ then. by tokens (suc number) then (standing then)) (module_step limit number state token)
        refl

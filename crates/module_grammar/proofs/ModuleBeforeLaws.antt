-- The tokens before a fault of a module open.
use Rattle.std.proofs.Common.{◌≡◌, ◌⊎◌, inl, inr, ◌∙◌, sym, ap, subst, refl, arith, ℕ, suc, ◌≤◌}
use Rattle.std.proofs.Common.{true, List, [], ◌∷◌, ◌++◌, length, take, Some}
use Rattle.std.proofs.Common.{length-append}
use Rattle.std.proofs.lemmas.List.{append-nil}
use Rattle.std.proofs.lemmas.Option.{same_Some, none-some}
use Rattle.mdl_lexer.specs.declared.token.Token.{Token}
use Rattle.module_grammar.specs.ModuleFaults.{WritesModule, ModuleOpens}
use Rattle.module_grammar.specs.ModuleReadings.{ModuleReading, HasModuleReading, module_fault_place}
use Rattle.expression_grammar.specs.Readings.{kinds}
use Rattle.module_grammar.specs.inside.ModuleStates.{Begun, Position, State, on, waits, leaves_out}
use Rattle.module_grammar.specs.inside.ModuleMachine.{module_step, module_taken}
use Rattle.module_grammar.specs.inside.ModuleStates.{mdl_wanted, within}
use Rattle.module_grammar.specs.inside.ModuleMachine.{ModuleRun, run_module, waiting_place, place_or}
use Rattle.module_grammar.specs.inside.ModuleMachine.{verdict_in, undecided}
use Rattle.module_grammar.specs.inside.ModuleLeads.{ModuleLeads, ModuleOutcome, reads, is_wrong}
use Rattle.module_grammar.specs.inside.ModuleLeads.{is_cut_off, is_too_deep, is_left_out}
use Rattle.module_grammar.specs.inside.ModuleLeads.{was_left_out, has_waited, has_statements}
use Rattle.module_grammar.specs.inside.ModuleLeads.{has_other_version}
use Rattle.module_grammar.specs.inside.ModuleHeads.{size_in}
use Rattle.module_grammar.specs.inside.ModuleRuns.{module_reading_of}
use Rattle.expression_grammar.proofs.PlaceLaws.{take_more}
use Rattle.expression_grammar.proofs.LanguageLaws.{opens_shorter}
use Rattle.module_grammar.proofs.ModuleTakenLaws.{taken_left, taken_waits}
use Rattle.module_grammar.proofs.ModuleOutcomeLaws.{module_outcome}
use Rattle.module_grammar.proofs.ModuleHeadKinds.{IsDeferredFront}
use Rattle.module_grammar.proofs.ModuleHeadLaws.{size_back}
use Rattle.module_grammar.proofs.ModuleHeadSizes.{size_stands}
use Rattle.module_grammar.proofs.ModuleHeadWays.{reached_may}
use Rattle.module_grammar.proofs.ModuleWaitedLaws.{Waited, reached, unreached, waited}
use Rattle.module_grammar.proofs.ModuleFaultLaws.{front_opens, module_step_leads}
use Rattle.module_grammar.proofs.ModuleVerdictLaws.{before_cases, undecided_size}
use Rattle.module_grammar.proofs.ModuleBeginsLaws.{head_found}
use Rattle.module_grammar.proofs.ModuleReadingsLaws.{module_run_only}

-- a strict way comes to the place, or past it
record Comes (most : ℕ) (tokens : List Token) (at : ℕ) : Type 0 where
  pub before : List Token
  pub rest : List Token
  pub state : State
  pub are : before ++ rest ≡ tokens
  pub leads : ModuleLeads true most 0 mdl_wanted before state
  pub fits : at ≤ length before

comes_open : (most : ℕ) → 1 ≤ most → (tokens : List Token) (at : ℕ) → Comes most tokens at →
    ModuleOpens (take at (kinds tokens)) most
comes_open most some tokens at way =
    subst (λ (l : List Token). ModuleOpens (take at (kinds l)) most) way.are
    (let (others, is) = take_more (kinds (way.before ++ way.rest)) at (length way.before) way.fits
    in
    opens_shorter WritesModule (take (length way.before) (kinds (way.before ++ way.rest)))
    (take at (kinds (way.before ++ way.rest))) others most is
    (front_opens true most some way.before way.rest way.state way.leads))

here_comes : (most : ℕ) (before rest : List Token) (state : State) (place at : ℕ) →
    ModuleLeads true most 0 mdl_wanted before state → place ≤ length before → Some place ≡ Some at →
    Comes most (before ++ rest) at
here_comes most before rest state place at leads fits same = record {
  before = before;
  rest = rest;
  state = state;
  are = refl;
  leads = leads;
  fits = omega (arith, fits, same_Some place at same);
}

-- the first size of a head stands no later than at the last token
size_early : (most : ℕ) (before : List Token) (token : Token) (state after : State) (d : ℕ) →
    ModuleLeads true most 0 mdl_wanted before state →
    module_step most (length before) state token ≡ on after → size_in after ≡ Some d →
    d ≤ length before
size_early most before token state after d leads is size =
    by (size_back most (length before) state after token d (reached_may true most before state
    leads)
    is size)
  where
    by : (size_in state ≡ Some d) ⊎ ((d ≡ length before) × IsDeferredFront after) →
        d ≤ length before
    by (inl first) = omega (arith, (size_stands true most before state d leads first).within_them)
    by (inr (at, front)) = omega (arith, at)

left_early : (most : ℕ) (before : List Token) (token : Token) (state : State) (earlier : ℕ)
    (text : List ℕ) → ModuleLeads true most 0 mdl_wanted before state →
    module_taken true most (length before) state token ≡ leaves_out (Some earlier) text →
    earlier ≤ length before
left_early most before token state earlier text leads takes =
    let (strict, judged, same) = taken_left true most (length before) state token earlier text takes
    in
    let body = before_cases judged.position earlier judged.verdict_is in
    size_early most before token state (within judged.begun judged.position) earlier leads
    judged.steps (subst (λ (p : Position). size_in (within judged.begun p) ≡ Some earlier)
    (sym body.is) body.first)

waits_early : (most : ℕ) (before rest : List Token) (token : Token) (state : State) (begun : Begun)
    (position : Position) → ModuleLeads true most 0 mdl_wanted before state →
    module_step most (length before) state token ≡ on (within begun position) →
    verdict_in position ≡ undecided → (place : ℕ) →
    Waited most (length before) (suc (length before)) (within begun position) rest place →
    place ≤ length before
waits_early most before rest token state begun position leads is verdict place
    (unreached never same) =
    omega (arith, same)
waits_early most before rest token state begun position leads is verdict place
    (reached deferred body same) =
    by (undecided_size begun position verdict)
  where
    by : (d : ℕ) × (size_in (within begun position) ≡ Some d) → place ≤ length before
    by (d, size) =
        let (is_d, found) = head_found most (suc (length before)) (before ++ token ∷ []) rest
        (within begun position) deferred d (omega (arith, length-append before (token ∷ [])))
        (module_step_leads true most before token state (within begun position) leads is) size body
        in
        omega (
          arith,
          same ∙ ap (place_or (length before)) is_d,
          size_early most before token state (within begun position) d leads is size,
        )

waiting_early : (most : ℕ) (before rest : List Token) (token : Token) (state after : State) →
    ModuleLeads true most 0 mdl_wanted before state →
    module_taken true most (length before) state token ≡ waits after →
    waiting_place most (length before) (suc (length before)) (on after) rest ≤ length before
waiting_early most before rest token state after leads takes =
    let (strict, both) = taken_waits true most (length before) state token after takes in
    let (judged, same) = both in
    waits_early most before rest token state judged.begun judged.position leads judged.steps
    judged.verdict_is (waiting_place most (length before) (suc (length before)) (on after) rest)
    (subst (λ (s : State). Waited most (length before) (suc (length before)) s rest
    (waiting_place most (length before) (suc (length before)) (on after) rest)) same
    (waited most (length before) (suc (length before)) rest after))

outcome_comes : (most : ℕ) (tokens : List Token) (made : ModuleRun) (at : ℕ) →
    ModuleOutcome true most tokens made → module_fault_place (module_reading_of made) ≡ Some at →
    Comes most tokens at
outcome_comes most tokens made at (reads _ tree led) same = absurd (none-some at same)
outcome_comes most tokens made at (is_wrong before rest token state whole leads found is) same =
    here_comes most before (token ∷ rest) state (length before) at leads (omega arith) same
outcome_comes most tokens made at (is_cut_off _ state whole leads found is) same =
    subst (λ (l : List Token). Comes most l at) (append-nil tokens)
    (here_comes most tokens [] state (length tokens) at leads (omega arith)
    same)
outcome_comes most tokens made at (is_too_deep before rest token state leads is) same =
    here_comes most before (token ∷ rest) state (length before) at leads (omega arith) same
outcome_comes most tokens made at (is_left_out before rest token state text leads is) same =
    here_comes most before (token ∷ rest) state (length before) at leads (omega arith) same
outcome_comes most tokens made at (was_left_out before rest token state earlier text leads is) same
    =
    here_comes most before (token ∷ rest) state earlier at leads
    (left_early most before token state earlier text leads is) same
outcome_comes most tokens made at (has_waited before rest token state after leads is) same =
    here_comes most before (token ∷ rest) state
    (waiting_place most (length before) (suc (length before)) (on after) rest) at leads
    (waiting_early most before rest token state after leads is) same
outcome_comes most tokens made at (has_statements before rest token state leads is) same =
    here_comes most before (token ∷ rest) state (length before) at leads (omega arith) same
outcome_comes most tokens made at (has_other_version before rest token state leads is) same =
    here_comes most before (token ∷ rest) state (length before) at leads (omega arith) same

pub module_before_a_fault : (most : ℕ) → 1 ≤ most → (tokens : List Token)
    (reading : ModuleReading) (at : ℕ) → HasModuleReading most tokens reading →
    module_fault_place reading ≡ Some at → ModuleOpens (take at (kinds tokens)) most
module_before_a_fault most some tokens reading at has same =
    comes_open most some tokens at (outcome_comes most tokens (run_module most tokens) at
    (module_outcome true most tokens)
    (ap module_fault_place (sym (module_run_only most some tokens reading has)) ∙ same))

-- What the run over the tokens of a module says of them is so.
use Rattle.std.proofs.Common.{◌≡◌, ◌⊎◌, inl, inr, ◌∙◌, sym, ap, subst, refl, arith, ℕ, suc}
use Rattle.std.proofs.Common.{◌≤◌}
use Rattle.std.proofs.Common.{◌<◌, true, false, List, [], ◌∷◌, ◌++◌, length}
use Rattle.std.proofs.Common.{Some, None, codes, length-append}
use Rattle.std.proofs.lemmas.List.{append_assoc, append-nil}
use Rattle.std.proofs.lemmas.Option.{none-some}
use Rattle.mdl_lexer.specs.declared.token.Token.{Token}
use Rattle.mdl_syntax.specs.Modules.{ModuleTree}
use Rattle.mdl_syntax.specs.WrittenModules.{write_module}
use Rattle.mdl_syntax.specs.PlacedModules.{placed_module}
use Rattle.mdl_syntax.specs.AcceptedModules.{IsAccepted}
use Rattle.module_grammar.specs.ModuleFaults.{IsBadModule, IsMost, IsStraySize, IsSizeOfHead}
use Rattle.module_grammar.specs.ModuleFaults.{IsLeftOutForm, a_stray_size, a_size_of_head}
use Rattle.module_grammar.specs.ModuleFaults.{ModuleOpensTo, IsStatementBody}
use Rattle.module_grammar.specs.ModuleFaults.{IsOtherVersion}
use Rattle.module_grammar.specs.ModuleReadings.{HasModuleReading, a_module, IsFirst}
use Rattle.expression_grammar.specs.Readings.{kinds}
use Rattle.module_grammar.specs.inside.ModuleStates.{Begun, Position, State, Outcome, on, waits}
use Rattle.module_grammar.specs.inside.ModuleStates.{wrong}
use Rattle.module_grammar.specs.inside.ModuleStates.{leaves_out, statement_body}
use Rattle.module_grammar.specs.inside.ModuleStates.{mdl_wanted, within, expression}
use Rattle.module_grammar.specs.inside.ModuleMachine.{module_step}
use Rattle.module_grammar.specs.inside.ModuleStates.{in_function_body, item_wanted}
use Rattle.module_grammar.specs.inside.ModuleMachine.{module_taken, module_end, ModuleRun}
use Rattle.module_grammar.specs.inside.ModuleMachine.{module_bad, run_module, waiting_place, place_or}
use Rattle.module_grammar.specs.inside.ModuleMachine.{verdict_in, refused_here}
use Rattle.expression_grammar.specs.inside.Machine.{wanted}
use Rattle.module_grammar.specs.inside.ModuleMachine.{undecided}
use Rattle.module_grammar.specs.inside.ModuleLeads.{ModuleLeads, ModuleEnds, IsMostWhole, MayGoOn}
use Rattle.module_grammar.specs.inside.ModuleLeads.{ModuleOutcome, reads, is_wrong, is_cut_off}
use Rattle.module_grammar.specs.inside.ModuleLeads.{is_too_deep, is_left_out, was_left_out, has_waited}
use Rattle.module_grammar.specs.inside.ModuleLeads.{has_statements, has_other_version}
use Rattle.module_grammar.specs.inside.ModuleHeads.{size_in}
use Rattle.module_grammar.specs.inside.ModuleRuns.{module_reading_of}
use Rattle.expression_grammar.proofs.PlaceLaws.{get_kind, kinds_length}
use Rattle.module_grammar.proofs.ModuleTakenLaws.{taken_wrong, taken_deep, taken_statement, Judged}
use Rattle.module_grammar.proofs.ModuleTakenLaws.{taken_leaves, taken_left, taken_waits, taken_version}
use Rattle.module_grammar.proofs.ModuleTakenLaws.{OtherVersion}
use Rattle.module_grammar.proofs.ModuleLeadsLaws.{module_generous}
use Rattle.module_grammar.proofs.ModuleOutcomeLaws.{module_outcome, IsItem}
use Rattle.module_grammar.proofs.ModuleHeadKinds.{IsDeferredFront}
use Rattle.module_grammar.proofs.ModuleHeadLaws.{size_back}
use Rattle.module_grammar.proofs.ModuleHeadEnds.{statement_head}
use Rattle.module_grammar.proofs.ModuleHeadSizes.{size_stands}
use Rattle.module_grammar.proofs.ModuleHeadWays.{reached_may}
use Rattle.module_grammar.proofs.ModuleFormPlaces.{form_of}
use Rattle.module_grammar.proofs.ModuleLeftOutLaws.{left_out_so}
use Rattle.module_grammar.proofs.ModulePlainLaws.{module_plain, module_goes_on}
use Rattle.module_grammar.proofs.ModuleWaitedLaws.{IsGoing, Waited, reached, unreached}
use Rattle.module_grammar.proofs.ModuleWaitedLaws.{waited}
use Rattle.module_grammar.proofs.ModuleOpeningLaws.{module_leads_open, accepted_ends, accepted_reads}
use Rattle.module_grammar.proofs.ModuleFaultLaws.{stopped_none, cut_off_none, front_fits, before_opens}
use Rattle.module_grammar.proofs.ModuleFaultLaws.{deep_stands, most_whole, version_stands}
use Rattle.module_grammar.proofs.ModuleFaultLaws.{module_step_leads}
use Rattle.module_grammar.proofs.ModuleHeadWords.{head_stands}
use Rattle.module_grammar.proofs.ModulePassedLaws.{LaterSize, faults_passed}
use Rattle.module_grammar.proofs.ModuleVerdictLaws.{RefusesHere, IsDeferredAt, position_deferred}
use Rattle.module_grammar.proofs.ModuleVerdictLaws.{undecided_size, undecided_front, before_cases}
use Rattle.module_grammar.proofs.ModuleVerdictLaws.{BodyBegins, undecided_body, IsBodyAt}
use Rattle.module_grammar.proofs.ModuleSizeLaws.{stray_stands, size_of_head, none_before_size}
use Rattle.module_grammar.proofs.ModuleFirstLaws.{none_first, unnamed_from, none_before_deep}
use Rattle.module_grammar.proofs.ModuleFirstLaws.{refused_none, deferred_no_item}
use Rattle.module_grammar.proofs.ModuleBeginsLaws.{body_begins, BodyState, HeadFound, head_found}
use Rattle.module_grammar.proofs.ModuleWaitsLaws.{waited_none}

abbrev HasRead : ℕ → List Token → ModuleRun → Type 0
HasRead most tokens made = HasModuleReading most tokens (module_reading_of made)

-- Bad syntax.

wrong_has : (most : ℕ) → 1 ≤ most → (before rest : List Token) (token : Token) (state : State)
    (whole : ℕ) → ModuleLeads true most 0 mdl_wanted before state →
    IsMostWhole true most before whole → module_step most (length before) state token ≡ wrong →
    IsBadModule most (kinds (before ++ token ∷ rest)) (length before)
    × IsMost (kinds (before ++ token ∷ rest)) whole
wrong_has most some before rest token state whole leads found is = (
  record {
    within = front_fits before (token ∷ rest);
    before = λ earlier less. (
      most,
      before_opens true most some before (token ∷ rest) state leads
          earlier less,
    );
    none = none;
    unnamed = unnamed_from most some before (token ∷ rest) state leads none
        (λ stops. stops.stops true most before rest token state refl refl leads is);
  },
  most_whole most some true before (token ∷ rest) whole found none state leads,
)
  where
    none : (higher : ℕ) →
        ModuleOpensTo (kinds (before ++ token ∷ rest)) (length before) higher → ⊥
    none higher to =
        stopped_none true most before rest token state wrong leads is tt higher to

abbrev IsBadRun : ModuleRun → Type 0
IsBadRun (module_bad whole at) = Unit {0}
IsBadRun made = ⊥

bad_no_item : (whole at : ℕ) (state : State) → module_end whole at state ≡ module_bad whole at →
    IsItem state → ⊥
bad_no_item whole at (within begun (item_wanted early)) is item = subst IsBadRun (sym is) tt
bad_no_item whole at state is item = item

cut_off_has : (most : ℕ) → 1 ≤ most → (tokens : List Token) (state : State) (whole : ℕ) →
    ModuleLeads true most 0 mdl_wanted tokens state → IsMostWhole true most tokens whole →
    (IsItem state → ⊥) → IsBadModule most (kinds tokens) (length tokens)
    × IsMost (kinds tokens) whole
cut_off_has most some tokens state whole leads found no_item =
    subst (λ (l : List Token). IsBadModule most (kinds l) (length tokens)
    × IsMost (kinds l) whole) (append-nil tokens) (
      record {
        within = front_fits tokens [];
        before = λ earlier less. (
          most,
          before_opens true most some tokens [] state leads earlier
              less,
        );
        none = none;
        unnamed = unnamed_from most some tokens [] state leads none (λ stops. omega (
          arith,
          stops.inside,
          kinds_length (tokens ++ []),
          length-append tokens [],
        ));
      },
      most_whole most some true tokens [] whole found none state leads,
    )
  where
    none : (higher : ℕ) → ModuleOpensTo (kinds (tokens ++ [])) (length tokens) higher → ⊥
    none higher to =
        cut_off_none true most tokens state leads no_item higher
        (subst (λ (l : List Token). ModuleOpensTo (kinds l) (length tokens) higher)
        (append-nil tokens) to)

-- Forms that are left out.

abbrev IsLeaving : Outcome → Type 0
IsLeaving (leaves_out earlier text) = Unit {0}
IsLeaving (waits state) = Unit {0}
IsLeaving made = ⊥

left_has : (most : ℕ) → 1 ≤ most → (before rest : List Token) (token : Token) (state : State)
    (text : List ℕ) → ModuleLeads true most 0 mdl_wanted before state →
    module_taken true most (length before) state token ≡ leaves_out None text →
    IsFirst most (before ++ token ∷ rest) (length before)
    (IsLeftOutForm most (kinds (before ++ token ∷ rest)) (length before) text)
left_has most some before rest token state text leads takes =
    by (taken_leaves true most (length before) state token text takes)
  where
    judged_so : (judged : Judged (module_step most (length before) state token) refused_here) →
        IsFirst most (before ++ token ∷ rest) (length before)
        (IsLeftOutForm most (kinds (before ++ token ∷ rest)) (length before)
        (codes "deferred-size"))
    judged_so judged = with_stray (stray_stands most some before rest token state
        (leaves_out None text) judged.begun judged.position leads takes
        (λ no. subst IsLeaving no tt) (λ no. no) judged.steps deferred)
      where
        deferred : IsDeferredAt judged.position
        deferred =
            position_deferred judged.position (subst RefusesHere (sym judged.verdict_is) tt)

        with_stray : IsStraySize (kinds (before ++ token ∷ rest)) (length before) →
            IsFirst most (before ++ token ∷ rest) (length before)
            (IsLeftOutForm most (kinds (before ++ token ∷ rest)) (length before)
            (codes "deferred-size"))
        with_stray stray = (
          a_stray_size stray,
          refused_none most some before rest token state judged.begun judged.position leads
              judged.steps judged.verdict_is deferred stray.size.there,
        )

    by : (module_step most (length before) state token ≡ leaves_out None text)
        ⊎ ((true ≡ true) × Judged (module_step most (length before) state token) refused_here
        × (text ≡ codes "deferred-size")) →
        IsFirst most (before ++ token ∷ rest) (length before)
        (IsLeftOutForm most (kinds (before ++ token ∷ rest)) (length before) text)
    by (inl is) = (
      form_of most before rest token text
          (left_out_so true most before token state text leads is)
          (most, module_leads_open true most some before state leads),
      none_first most some before (token ∷ rest) state leads (λ higher to. stopped_none true most
          before rest token state (leaves_out None text) leads is tt higher to),
    )
    by (inr (strict, judged, same)) =
        subst (λ (own : List ℕ). IsFirst most (before ++ token ∷ rest) (length before)
        (IsLeftOutForm most (kinds (before ++ token ∷ rest)) (length before) own)) (sym same)
        (judged_so judged)

-- a state in which a size is first in its head, and that may be gone on from, is in no body
going_from : (state : State) (d : ℕ) → MayGoOn true state → size_in state ≡ Some d → IsGoing state
going_from (within begun (expression (in_function_body fronted parameters frequency annotations)
    mode
    frames)) d may size =
    absurd (none-some d (sym may.1 ∙ size))
going_from (within begun (item_wanted early)) d may size = absurd (none-some d size)
going_from state d may size = tt

head_has : (most : ℕ) → 1 ≤ most → (before rest : List Token) (token : Token) (state : State)
    (earlier : ℕ) (begun : Begun) (position : Position) →
    ModuleLeads true most 0 mdl_wanted before state →
    module_step most (length before) state token ≡ on (within begun position) →
    BodyBegins position earlier →
    IsFirst most (before ++ token ∷ rest) earlier
    (IsLeftOutForm most (kinds (before ++ token ∷ rest)) earlier (codes "deferred-size"))
head_has most some before rest token state earlier begun position leads is body =
    sized (size_back most (length before) state (within begun (expression (in_function_body
    body.fronted body.parameters body.frequency body.annotations) wanted [])) token earlier
    (reached_may true most before state leads) steps body.first)
  where
    steps : module_step most (length before) state token ≡ on (within begun (expression
        (in_function_body body.fronted body.parameters body.frequency body.annotations) wanted []))
    steps = is ∙ ap (λ (p : Position). on (within begun p)) body.is

    known : size_in state ≡ Some earlier →
        IsFirst most (before ++ token ∷ rest) earlier
        (IsLeftOutForm most (kinds (before ++ token ∷ rest)) earlier (codes "deferred-size"))
    known size =
        let (head, mark) = body_begins most before token state begun body.fronted body.parameters
        body.frequency body.annotations wanted [] earlier
        (module_generous true most 0 mdl_wanted state before leads)
        (going_from state earlier (module_goes_on most before state leads) size) steps body.first in (
          a_size_of_head (size_of_head true most some before rest token state earlier leads head
              mark
              size),
          none_before_size most some before (token ∷ rest) state leads earlier size
              (size_stands true most before state earlier leads size).within_them,
        )

    sized : (size_in state ≡ Some earlier) ⊎ ((earlier ≡ length before) × IsDeferredFront
        (within begun (expression (in_function_body body.fronted body.parameters body.frequency
        body.annotations) wanted []))) →
        IsFirst most (before ++ token ∷ rest) earlier
        (IsLeftOutForm most (kinds (before ++ token ∷ rest)) earlier (codes "deferred-size"))
    sized (inl size) = known size
    sized (inr (at, front)) = absurd front

was_left_has : (most : ℕ) → 1 ≤ most → (before rest : List Token) (token : Token) (state : State)
    (earlier : ℕ) (text : List ℕ) → ModuleLeads true most 0 mdl_wanted before state →
    module_taken true most (length before) state token ≡ leaves_out (Some earlier) text →
    IsFirst most (before ++ token ∷ rest) earlier
    (IsLeftOutForm most (kinds (before ++ token ∷ rest)) earlier text)
was_left_has most some before rest token state earlier text leads takes =
    let (strict, judged, same) = taken_left true most (length before) state token earlier text takes
    in
    subst (λ (own : List ℕ). IsFirst most (before ++ token ∷ rest) earlier
    (IsLeftOutForm most (kinds (before ++ token ∷ rest)) earlier own)) (sym same)
    (head_has most some before rest token state earlier judged.begun judged.position leads
    judged.steps (before_cases judged.position earlier judged.verdict_is))

-- Sizes that wait.

abbrev WaitsAt : ℕ → List Token → ℕ → Type 0
WaitsAt most tokens place =
    IsFirst most tokens place (IsLeftOutForm most (kinds tokens) place (codes "deferred-size"))

waits_has : (most : ℕ) → 1 ≤ most → (before rest : List Token) (token : Token) (state : State)
    (begun : Begun) (position : Position) → ModuleLeads true most 0 mdl_wanted before state →
    module_taken true most (length before) state token ≡ waits (within begun position) →
    module_step most (length before) state token ≡ on (within begun position) →
    verdict_in position ≡ undecided → (place : ℕ) →
    Waited most (length before) (suc (length before)) (within begun position) rest place →
    WaitsAt most (before ++ token ∷ rest) place
waits_has most some before rest token state begun position leads takes is verdict place
    (unreached never same) =
    subst (WaitsAt most (before ++ token ∷ rest)) (sym same) (with_stray (stray_stands most some
    before rest token state (waits (within begun position)) begun position leads takes
    (λ no. subst IsLeaving no tt) (λ no. no) is deferred))
  where
    deferred : IsDeferredAt position
    deferred = position_deferred position (subst RefusesHere (sym verdict) tt)

    with_stray : IsStraySize (kinds (before ++ token ∷ rest)) (length before) →
        WaitsAt most (before ++ token ∷ rest) (length before)
    with_stray stray = (
      a_stray_size stray,
      waited_none most some before rest token state (within begun position) leads is
          stray.size.there never (deferred_no_item begun position deferred),
    )
waits_has most some before rest token state begun position leads takes is verdict place
    (reached deferred body same) =
    by (undecided_size begun position verdict)
  where
    by : (d : ℕ) × (size_in (within begun position) ≡ Some d) →
        WaitsAt most (before ++ token ∷ rest) place
    by (d, size) = sized (size_back most (length before) state (within begun position) token d
        (reached_may true most before state leads) is size)
      where
        found : size_in state ≡ Some d → (deferred ≡ Some d)
            × (BodyState (within begun position) deferred
            ⊎ HeadFound most (before ++ token ∷ []) rest d) →
            WaitsAt most (before ++ token ∷ rest) place
        found first (is_d, inl at) =
            absurd (undecided_body position verdict (in_body at))
          where
            position_of : State → Position
            position_of (within own there) = there
            position_of own = position

            in_body : BodyState (within begun position) deferred → IsBodyAt position
            in_body at = subst IsBodyAt (sym (ap position_of at.is)) tt
        found first (is_d, inr head) =
            subst (WaitsAt most (before ++ token ∷ rest)) (sym (same ∙ ap (place_or (length before))
            is_d)) (
              a_size_of_head (subst (λ (l : List Token). IsSizeOfHead most (kinds l) d)
                  (sym head.are ∙ append_assoc before (token ∷ []) rest)
                  (size_of_head false most some head.front head.more head.mark head.mid d head.leads
                  head.head head.is head.size)),
              none_before_size most some before (token ∷ rest) state leads d first
                  (size_stands true most before state d leads first).within_them,
            )

        sized : (size_in state ≡ Some d) ⊎ ((d ≡ length before)
            × IsDeferredFront (within begun position)) →
            WaitsAt most (before ++ token ∷ rest) place
        sized (inl first) =
            found first (head_found most (suc (length before)) (before ++ token ∷ []) rest
            (within begun position) deferred d (omega (arith, length-append before (token ∷ [])))
            (module_step_leads true most before token state (within begun position) leads is) size
            body)
        sized (inr (at, front)) = absurd (undecided_front begun position verdict front)

waiting_has : (most : ℕ) → 1 ≤ most → (before rest : List Token) (token : Token)
    (state after : State) → ModuleLeads true most 0 mdl_wanted before state →
    module_taken true most (length before) state token ≡ waits after →
    WaitsAt most (before ++ token ∷ rest)
    (waiting_place most (length before) (suc (length before)) (on after) rest)
waiting_has most some before rest token state after leads takes =
    let (strict, both) = taken_waits true most (length before) state token after takes in
    let (judged, same) = both in
    waits_has most some before rest token state judged.begun judged.position leads
    (takes ∙ ap waits same) judged.steps judged.verdict_is
    (waiting_place most (length before) (suc (length before)) (on after) rest)
    (subst (λ (s : State). Waited most (length before) (suc (length before)) s rest
    (waiting_place most (length before) (suc (length before)) (on after) rest)) same
    (waited most (length before) (suc (length before)) rest after))

-- Bodies of statements, and versions.

statement_has : (most : ℕ) → 1 ≤ most → (before rest : List Token) (token : Token)
    (state : State) → ModuleLeads true most 0 mdl_wanted before state →
    module_step most (length before) state token ≡ statement_body →
    IsFirst most (before ++ token ∷ rest) (length before)
    (IsStatementBody (kinds (before ++ token ∷ rest)) (length before))
statement_has most some before rest token state leads is =
    let (head, mark) = statement_head most (length before) state token is in (
      record {
        there = get_kind before rest token ∙ ap Some mark.is;
        head = head_stands true most some before (token ∷ rest) state leads head;
      },
      none_first most some before (token ∷ rest) state leads (λ higher to. stopped_none true most
          before rest token state statement_body leads is tt higher to),
    )

version_has : (most : ℕ) → 1 ≤ most → (before rest : List Token) (token : Token) (state : State) →
    ModuleLeads true most 0 mdl_wanted before state → OtherVersion state token →
    IsFirst most (before ++ token ∷ rest) (length before)
    (IsOtherVersion (kinds (before ++ token ∷ rest)) (length before))
version_has most some before rest token state leads other =
    by (version_stands true most before rest token state leads other)
  where
    by : IsOtherVersion (kinds (before ++ token ∷ rest)) (length before) →
        IsFirst most (before ++ token ∷ rest) (length before)
        (IsOtherVersion (kinds (before ++ token ∷ rest)) (length before))
    by stands = (
      stands,
      λ place less fault. sized place less
          (faults_passed most some before (token ∷ rest) state leads place less fault),
    )
      where
        sized : (place : ℕ) → place < length before →
            LaterSize most (kinds (before ++ token ∷ rest)) place (length before) → ⊥
        sized place less later = omega (arith, less, stands.behind, later.size.size.behind)

-- All outcomes.

read_has : (most : ℕ) → 1 ≤ most → (tokens : List Token) (tree : ModuleTree) →
    ModuleEnds true most 0 mdl_wanted tokens tree → HasModuleReading most tokens (a_module tree)
read_has most some tokens tree led = accepted_ends module_plain most some tokens tree led

outcome_has : (most : ℕ) → 1 ≤ most → (tokens : List Token) (made : ModuleRun) →
    ModuleOutcome true most tokens made → HasRead most tokens made
outcome_has most some tokens made (reads _ tree led) = read_has most some tokens tree led
outcome_has most some tokens made (is_wrong before rest token state whole leads found is) =
    wrong_has most some before rest token state whole leads found
    (taken_wrong true most (length before) state token is)
outcome_has most some tokens made (is_cut_off _ state whole leads found is) =
    cut_off_has most some tokens state whole leads found
    (bad_no_item whole (length tokens) state is)
outcome_has most some tokens made (is_too_deep before rest token state leads is) =
    let deeper = deep_stands true most some before rest token state leads
    (taken_deep true most (length before) state token is) in
    (deeper, none_before_deep most some before (token ∷ rest) state leads deeper)
outcome_has most some tokens made (is_left_out before rest token state text leads is) =
    left_has most some before rest token state text leads is
outcome_has most some tokens made (was_left_out before rest token state earlier text leads is) =
    was_left_has most some before rest token state earlier text leads is
outcome_has most some tokens made (has_waited before rest token state after leads is) =
    waiting_has most some before rest token state after leads is
outcome_has most some tokens made (has_statements before rest token state leads is) =
    statement_has most some before rest token state leads
    (taken_statement true most (length before) state token is)
outcome_has most some tokens made (has_other_version before rest token state leads is) =
    version_has most some before rest token state leads
    (taken_version true most (length before) state token is)

pub run_has : (most : ℕ) → 1 ≤ most → (tokens : List Token) →
    HasModuleReading most tokens (module_reading_of (run_module most tokens))
run_has most some tokens = outcome_has most some tokens (run_module most tokens)
    (module_outcome true most tokens)

-- what an accepted module writes is read as it
pub module_written_is_read : (most : ℕ) → 1 ≤ most → (tree : ModuleTree) (tokens : List Token) →
    IsAccepted most tree → write_module tree ≡ kinds tokens →
    HasModuleReading most tokens (a_module (placed_module tree tokens))
module_written_is_read most some tree tokens accepted writes =
    read_has most some tokens (placed_module tree tokens)
    (accepted_reads most tree tokens accepted writes)

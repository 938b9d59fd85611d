-- Where a strict way waits, the size is of the head or a stray one, and no fault is named before.
use Rattle.std.proofs.Common.{◌≡◌, ◌⊎◌, inl, inr, ◌∙◌, sym, ap, subst, refl, arith, ℕ, suc, ◌+◌}
use Rattle.std.proofs.Common.{◌≤◌}
use Rattle.std.proofs.Common.{true, false, List, [], ◌∷◌, ◌++◌, length, take, slice_get}
use Rattle.std.proofs.Common.{Option, Some, codes, length-append}
use Rattle.std.proofs.Math.Seq.{take-append_seam}
use Rattle.std.proofs.lemmas.List.{append_assoc}
use Rattle.std.proofs.lemmas.Option.{slice_get_within}
use Rattle.mdl_lexer.specs.declared.token.Kind.{Kind}
use Rattle.mdl_lexer.specs.declared.token.Token.{Token}
use Rattle.mdl_lexer.specs.Kinds.{mark_word}
use Rattle.expression_grammar.specs.Languages.{NoneBefore}
use Rattle.module_grammar.specs.ModuleFaults.{WritesModule, ModuleOpens, ModuleOpensTo, IsWhole}
use Rattle.module_grammar.specs.ModuleFaults.{IsNamedFault}
use Rattle.expression_grammar.specs.Readings.{kinds}
use Rattle.expression_grammar.specs.inside.Machine.{wanted}
use Rattle.module_grammar.specs.inside.ModuleStates.{State, on, mdl_wanted, within}
use Rattle.module_grammar.specs.inside.ModuleStates.{item_wanted, expression, in_function_body}
use Rattle.module_grammar.specs.inside.ModuleMachine.{module_step, module_taken}
use Rattle.module_grammar.specs.inside.ModuleLeads.{ModuleLeads, here, next}
use Rattle.module_grammar.specs.inside.ModuleHeads.{IsItem}
use Rattle.expression_grammar.proofs.FaultLaws.{words_with}
use Rattle.expression_grammar.proofs.LanguageLaws.{opens_at}
use Rattle.module_grammar.proofs.ModuleLeadsLaws.{module_leads_split, module_leads_on, renumbered}
use Rattle.module_grammar.proofs.ModuleLeadsLaws.{module_leads_same}
use Rattle.module_grammar.proofs.ModuleHeadEnds.{head_body}
use Rattle.module_grammar.proofs.ModuleHeadWays.{reached_last}
use Rattle.module_grammar.proofs.ModuleWaitedLaws.{IsGoing, ReachesBody, at_body, goes_to}
use Rattle.module_grammar.proofs.ModuleOpeningLaws.{module_opens_lead}
use Rattle.module_grammar.proofs.ModuleFaultLaws.{module_step_leads, whole_stands}
use Rattle.module_grammar.proofs.ModuleHeadWords.{head_reached}
use Rattle.module_grammar.proofs.ModulePassedLaws.{LaterSize, faults_passed}
use Rattle.module_grammar.proofs.ModuleAheadLaws.{HeadAhead, ahead_opens}
use Rattle.module_grammar.proofs.ModuleFirstLaws.{ahead_more, whole_apart}
use Rattle.module_grammar.proofs.ModuleBeginsLaws.{BodyState}

-- A way to a body reaches one, where no item ends on it.

some_body : (state : State) → ((deferred : Option ℕ) × BodyState state deferred)
    ⊎ (IsItem state ⊎ IsGoing state)
some_body (within begun (expression (in_function_body fronted parameters frequency annotations) mode
    frames)) =
    inl (
      fronted.deferred,
      record {
        begun = begun;
        fronted = fronted;
        parameters = parameters;
        frequency = frequency;
        annotations = annotations;
        mode = mode;
        frames = frames;
        is = refl;
        same = refl;
      },
    )
some_body (within begun (item_wanted early)) = inr (inl tt)
some_body state = inr (inr tt)

body_there : (limit number : ℕ) (state : State) (tokens : List Token) (deferred : Option ℕ) →
    BodyState state deferred → ReachesBody limit number state tokens deferred
body_there limit number state tokens deferred body =
    subst (λ (s : State). ReachesBody limit number s tokens deferred) (sym body.is)
    (at_body number body.begun body.fronted body.parameters body.frequency body.annotations
    body.mode
    body.frames tokens deferred body.same)

abbrev SomeBody : ℕ → ℕ → State → List Token → Type 0
SomeBody limit number state tokens =
    (deferred : Option ℕ) × ReachesBody limit number state tokens deferred

goes_on : (limit number : ℕ) (state after : State) (token : Token) (tokens : List Token) →
    (IsItem state → ⊥) → module_taken false limit number state token ≡ on after →
    SomeBody limit (suc number) after tokens → SomeBody limit number state (token ∷ tokens)
goes_on limit number state after token tokens none is (deferred, body) = by (some_body state)
  where
    by : ((own : Option ℕ) × BodyState state own) ⊎ (IsItem state ⊎ IsGoing state) →
        SomeBody limit number state (token ∷ tokens)
    by (inl (own, found)) = (own, body_there limit number state (token ∷ tokens) own found)
    by (inr (inl item)) = absurd (none item)
    by (inr (inr going)) =
        (deferred, goes_to number state after token tokens deferred going is body)

ways_reach : (limit number : ℕ) (state last after : State) (one : List Token) (token : Token)
    (more : List Token) → ModuleLeads false limit number state one last →
    ((all : ℕ) → all ≡ number + length one → module_taken false limit all last token ≡ on after) →
    ((deferred : Option ℕ) × BodyState after deferred) →
    ((a b : List Token) (between : State) → a ++ b ≡ one →
    ModuleLeads false limit number state a between → IsItem between → ⊥) →
    SomeBody limit number state (one ++ token ∷ more)
ways_reach limit number state last after one token more (here _ _) step (deferred, body) none =
    goes_on limit number state after token more (λ item. none [] [] state refl (here number state)
    item) (step number (omega arith))
    (deferred, body_there limit (suc number) after more deferred body)
ways_reach limit number state last after one token more (next _ _ mid _ first rest is leads) step
    body none =
    goes_on limit number state mid first (rest ++ token ∷ more)
    (λ item. none [] (first ∷ rest) state refl (here number state) item) is
    (ways_reach limit (suc number) mid last after rest token more leads
    (λ all same. step all (omega (arith, same))) body
    (λ a b between same way item. none (first ∷ a) b between (ap (λ l. first ∷ l) same)
    (next number state mid between first a is way) item))

-- So behind a size that waits, and reaches no body, no head follows with a size before.

pub waited_none : (most : ℕ) → 1 ≤ most → (before rest : List Token) (token : Token)
    (state after : State) → ModuleLeads true most 0 mdl_wanted before state →
    module_step most (length before) state token ≡ on after →
    slice_get (kinds (before ++ token ∷ rest)) (length before) ≡ Some (mark_word (codes "<")) →
    ((deferred : Option ℕ) → ReachesBody most (suc (length before)) after rest deferred → ⊥) →
    (IsItem after → ⊥) →
    NoneBefore (IsNamedFault most (kinds (before ++ token ∷ rest))) (length before)
waited_none most some before rest token state after leads is there never not_item place
    less fault =
    by (faults_passed most some before (token ∷ rest) state leads place less fault)
  where
    led : ModuleLeads false most 0 mdl_wanted (before ++ token ∷ []) after
    led = module_step_leads true most before token state after leads is

    by : LaterSize most (kinds (before ++ token ∷ rest)) place (length before) → ⊥
    by later = low (ahead_more most before rest token place there later)
      where
        reached : (ahead : HeadAhead (before ++ token ∷ []) rest later.size.equals) →
            ModuleOpens (kinds (((before ++ token ∷ []) ++ ahead.middle) ++ ahead.mark ∷ [])) most →
            ⊥
        reached ahead opens =
            let (last, way) = module_opens_lead most
            (((before ++ token ∷ []) ++ ahead.middle) ++ ahead.mark ∷ []) opens in
            let (mid, first, also) = reached_last false most last
            ((before ++ token ∷ []) ++ ahead.middle) ahead.mark way in
            let (own, one, two) = module_leads_split false most 0 mdl_wanted mid
            (before ++ token ∷ []) ahead.middle first in
            from_own mid last first also own one two
          where
            from_own : (mid last : State) →
                ModuleLeads false most 0 mdl_wanted ((before ++ token ∷ []) ++ ahead.middle) mid →
                module_taken false most (length ((before ++ token ∷ []) ++ ahead.middle)) mid
                ahead.mark ≡ on last → (own : State) →
                ModuleLeads false most 0 mdl_wanted (before ++ token ∷ []) own →
                ModuleLeads false most (0 + length (before ++ token ∷ [])) own ahead.middle mid → ⊥
            from_own mid last first also own one two =
                let (begun, fronted, parameters, frequency, annotations, same, steps) =
                head_body most (length ((before ++ token ∷ []) ++ ahead.middle)) mid ahead.mark
                (head_reached false most ((before ++ token ∷ []) ++ ahead.middle) mid first
                ahead.head) (record { is = ahead.is }) in
                found (ways_reach most (suc (length before)) after mid
                (within begun (expression (in_function_body fronted parameters frequency
                annotations) wanted [])) ahead.middle ahead.mark ahead.more way
                (λ all count. subst (λ (n : ℕ). module_taken false most n mid ahead.mark
                ≡ on (within begun (expression (in_function_body fronted parameters frequency
                annotations) wanted [])))
                (omega (
                  arith,
                  count,
                  length-append (before ++ token ∷ []) ahead.middle,
                  length-append before (token ∷ []),
                )) steps) (
                  fronted.deferred,
                  record {
                    begun = begun;
                    fronted = fronted;
                    parameters = parameters;
                    frequency = frequency;
                    annotations = annotations;
                    mode = wanted;
                    frames = [];
                    is = refl;
                    same = refl;
                  },
                ) no_item)
              where
                way : ModuleLeads false most (suc (length before)) after ahead.middle mid
                way =
                    subst (λ (s : State). ModuleLeads false most (suc (length before)) s
                    ahead.middle
                    mid)
                    (module_leads_same false most 0 mdl_wanted own after (before ++ token ∷ []) one
                    led)
                    (renumbered false most (0 + length (before ++ token ∷ [])) (suc (length before))
                    own mid ahead.middle (omega (arith, length-append before (token ∷ []))) two)

                no_item : (a b : List Token) (between : State) → a ++ b ≡ ahead.middle →
                    ModuleLeads false most (suc (length before)) after a between →
                    IsItem between → ⊥
                no_item [] b between same (here _ _) item = not_item item
                no_item (x ∷ a) b (within begun (item_wanted early)) same leads item =
                    whole_apart most before rest token place less later
                    (length ((before ++ token ∷ []) ++ x ∷ a))
                    (omega (arith, length-append (before ++ token ∷ []) (x ∷ a)))
                    (omega (
                      arith,
                      ap length same,
                      length-append (x ∷ a) b,
                      length-append (before ++ token ∷ []) (x ∷ a),
                      length-append (before ++ token ∷ []) ahead.middle,
                      ahead.long,
                    ))
                    (subst (λ (l : List Token). IsWhole (kinds l)
                    (length ((before ++ token ∷ []) ++ x ∷ a))) (sym ahead.are)
                    (whole_stands false most some ((before ++ token ∷ []) ++ ahead.middle)
                    (ahead.mark ∷ ahead.more) (length ((before ++ token ∷ []) ++ x ∷ a)) (record {
                      within_them = omega (
                        arith,
                        ap length same,
                        length-append (x ∷ a) b,
                        length-append (before ++ token ∷ []) (x ∷ a),
                        length-append (before ++ token ∷ []) ahead.middle,
                      );
                      begun = begun;
                      early = early;
                      leads = subst (λ (l : List Token). ModuleLeads false most 0 mdl_wanted l
                          (within begun (item_wanted early)))
                          (sym (ap (take (length ((before ++ token ∷ []) ++ x ∷ a)))
                          (ap (λ (l : List Token). (before ++ token ∷ []) ++ l) (sym same)
                          ∙ sym (append_assoc (before ++ token ∷ []) (x ∷ a) b))
                          ∙ take-append_seam ((before ++ token ∷ []) ++ x ∷ a) b))
                          (module_leads_on false most 0 mdl_wanted after
                          (within begun (item_wanted early)) (before ++ token ∷ []) (x ∷ a) led
                          (renumbered false most (suc (length before))
                          (0 + length (before ++ token ∷ [])) after (within begun (item_wanted
                          early))
                          (x ∷ a) (omega (arith, length-append before (token ∷ []))) leads));
                    })))
                no_item (x ∷ a) b between same leads item = absurd item

                found : SomeBody most (suc (length before)) after
                    (ahead.middle ++ ahead.mark ∷ ahead.more) → ⊥
                found (deferred, body) =
                    never deferred (subst (λ (l : List Token). ReachesBody most (suc (length
                    before))
                    after l deferred) (sym ahead.rests) body)

        low : HeadAhead (before ++ token ∷ []) rest later.size.equals → ⊥
        low ahead =
            later.size.low later.size.equals (omega arith) (record {
              opens = to;
              high = λ opens. reached ahead (with_mark opens);
            })
          where
            to : (higher : ℕ) × ModuleOpensTo (kinds (before ++ token ∷ rest)) later.size.equals
                higher
            to =
                subst (λ (l : List Token). (higher : ℕ) × ModuleOpensTo (kinds l) later.size.equals
                higher) (append_assoc before (token ∷ []) rest)
                (ahead_opens (before ++ token ∷ []) rest later.size.equals ahead)

            with_mark : ModuleOpensTo (kinds (before ++ token ∷ rest)) later.size.equals most →
                ModuleOpens (kinds (((before ++ token ∷ []) ++ ahead.middle) ++ ahead.mark ∷ []))
                most
            with_mark opens =
                subst (λ (w : List Kind). ModuleOpens w most)
                (ap (λ (l : List Token). take (suc later.size.equals) (kinds l))
                (sym (append_assoc before (token ∷ []) rest) ∙ ahead.are)
                ∙ (ap (λ (n : ℕ). take (suc n) (kinds (((before ++ token ∷ []) ++ ahead.middle)
                ++ ahead.mark ∷ ahead.more))) (sym ahead.long)
                ∙ words_with ((before ++ token ∷ []) ++ ahead.middle) ahead.more ahead.mark))
                (opens_at WritesModule (kinds (before ++ token ∷ rest)) later.size.equals most
                (slice_get_within (kinds (before ++ token ∷ rest)) later.size.equals
                (mark_word (codes "=")) later.size.there) opens)

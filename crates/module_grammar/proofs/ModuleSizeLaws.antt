-- Where a strict way stops at a size that is deferred, it is a stray one or that of a head.
use Rattle.std.proofs.Common.{◌≡◌, ◌⊎◌, inl, inr, ◌∙◌, sym, ap, subst, arith, ℕ, suc, ◌+◌, ◌≤◌}
use Rattle.std.proofs.Common.{◌<◌, Bool, true, false, List, [], ◌∷◌, ◌++◌, length, take, slice_get}
use Rattle.std.proofs.Common.{Some, codes, length-append}
use Rattle.std.proofs.lemmas.Bool.{false≢true}
use Rattle.std.proofs.lemmas.List.{append_assoc}
use Rattle.std.proofs.lemmas.Option.{same_Some, none-some}
use Rattle.mdl_lexer.specs.declared.token.Kind.{Kind}
use Rattle.mdl_lexer.specs.declared.token.Token.{Token}
use Rattle.mdl_lexer.specs.Kinds.{mark_word}
use Rattle.expression_grammar.specs.Languages.{OpensIn, IsDeferredSizeIn}
use Rattle.module_grammar.specs.ModuleFaults.{WritesModule, WritesAccepted, IsStraySize, IsSizeOfHead}
use Rattle.module_grammar.specs.ModuleFaults.{IsNamedFault, IsTooDeep, ModuleOpensTo}
use Rattle.expression_grammar.specs.Readings.{kinds}
use Rattle.expression_grammar.specs.inside.Sound.{IsMark}
use Rattle.module_grammar.specs.inside.ModuleStates.{Begun, Position, State, Outcome, on, mdl_wanted}
use Rattle.module_grammar.specs.inside.ModuleStates.{too_deep, within, fronting, expression}
use Rattle.module_grammar.specs.inside.ModuleStates.{of_parameter, of_function, of_annotation}
use Rattle.module_grammar.specs.inside.ModuleMachine.{module_step, module_taken}
use Rattle.module_grammar.specs.inside.ModuleStates.{in_function_body}
use Rattle.module_grammar.specs.inside.ModuleLeads.{ModuleLeads, IsWholeAt, MayGoOn}
use Rattle.module_grammar.specs.inside.ModuleHeads.{IsHead, size_in, SizeStands}
use Rattle.expression_grammar.proofs.KindLaws.{kinds_append}
use Rattle.expression_grammar.proofs.FaultLaws.{inside_length, words_with}
use Rattle.expression_grammar.proofs.PlaceLaws.{get_front, get_kind, get_next_kind, kinds_length}
use Rattle.expression_grammar.proofs.PlaceLaws.{less_or_same}
use Rattle.expression_grammar.proofs.LanguageLaws.{opens_at}
use Rattle.module_grammar.proofs.ModuleTakenLaws.{taken_on, taken_more, taken_same}
use Rattle.module_grammar.proofs.ModuleLeadsLaws.{module_leads_more, module_leads_same}
use Rattle.module_grammar.proofs.ModuleHeadEnds.{head_body}
use Rattle.module_grammar.proofs.ModuleHeadBrackets.{IsSizeBegun}
use Rattle.module_grammar.proofs.ModuleHeadBegins.{size_begun, size_begun_head}
use Rattle.module_grammar.proofs.ModuleHeadKinds.{InAnnotation}
use Rattle.module_grammar.proofs.ModuleHeadSizes.{size_stands}
use Rattle.module_grammar.proofs.ModuleHeadKept.{size_kept_way, head_kept_way, WholeBehind}
use Rattle.module_grammar.proofs.ModuleHeadWays.{reached_last}
use Rattle.module_grammar.proofs.ModulePlainLaws.{module_goes_on}
use Rattle.module_grammar.proofs.ModuleOpeningLaws.{accepted_opens_lead}
use Rattle.module_grammar.proofs.ModuleFaultLaws.{module_step_leads, module_leads_hold, step_opens}
use Rattle.module_grammar.proofs.ModuleFaultLaws.{before_opens, none_deep_before, whole_reached}
use Rattle.module_grammar.proofs.ModuleFaultLaws.{whole_stands}
use Rattle.module_grammar.proofs.ModuleHeadWords.{head_stands}
use Rattle.module_grammar.proofs.ModulePassedLaws.{IsOnMade, Passes, passes_token, token_within}
use Rattle.module_grammar.proofs.ModulePassedLaws.{last_at, LaterSize, faults_passed}
use Rattle.module_grammar.proofs.ModuleVerdictLaws.{IsDeferredAt, deferred_at, annotation_size}

-- Stray sizes.

pub deferred_stands : (most : ℕ) → 1 ≤ most → (before rest : List Token) (token : Token)
    (state : State) (begun : Begun) (position : Position) →
    ModuleLeads true most 0 mdl_wanted before state →
    module_step most (length before) state token ≡ on (within begun position) →
    IsDeferredAt position →
    IsDeferredSizeIn WritesModule (kinds (before ++ token ∷ rest)) (length before)
deferred_stands most some before rest token state begun position leads is deferred =
    by (deferred_at begun position (before ++ token ∷ []) deferred
    (module_leads_hold false most (before ++ token ∷ []) (within begun position)
    (module_step_leads true most before token state (within begun position) leads is)))
  where
    by : (front : List Token) × (bracket : Token) × (less : Token)
        × (before ++ token ∷ [] ≡ front ++ bracket ∷ less ∷ []) × IsMark bracket (codes "[")
        × IsMark less (codes "<") →
        IsDeferredSizeIn WritesModule (kinds (before ++ token ∷ rest)) (length before)
    by (front, bracket, less, same, opens, lesser) = record {
      before = length front;
      behind = long;
      bracket = ap (λ (l : List Token). slice_get (kinds l) (length front)) all
          ∙ (get_kind front (less ∷ rest) bracket ∙ ap Some opens.is);
      there = ap (slice_get (kinds (before ++ token ∷ rest))) long
          ∙ (ap (λ (l : List Token). slice_get (kinds l) (suc (length front))) all
          ∙ (get_next_kind front rest bracket less ∙ ap Some lesser.is));
      opens = (
        most,
        step_opens true most some before rest token state (within begun position) leads
            is,
      );
    }
      where
        long : length before ≡ suc (length front)
        long = omega (
          arith,
          ap length same,
          length-append before (token ∷ []),
          length-append front (bracket ∷ less ∷ []),
        )

        all : before ++ token ∷ rest ≡ front ++ bracket ∷ less ∷ rest
        all = sym (append_assoc before (token ∷ []) rest)
            ∙ (ap (λ l. l ++ rest) same ∙ append_assoc front (bracket ∷ less ∷ []) rest)

-- where the strict way stops, and not for height, no accepted module begins so
none_accepted : (most : ℕ) (before rest : List Token) (token : Token) (state : State)
    (made : Outcome) → ModuleLeads true most 0 mdl_wanted before state →
    module_taken true most (length before) state token ≡ made → (made ≡ too_deep → ⊥) →
    (IsOnMade made → ⊥) → (higher : ℕ) →
    OpensIn WritesAccepted (take (suc (length before)) (kinds (before ++ token ∷ rest))) higher → ⊥
none_accepted most before rest token state made leads is low none higher opens =
    let (last, led) = accepted_opens_lead higher (before ++ token ∷ [])
    (subst (λ (w : List Kind). OpensIn WritesAccepted w higher) (words_with before rest token)
    opens) in
    let (mid, first, also) = reached_last true higher last before token led in
    none (subst IsOnMade (sym (subst (λ (s : State).
    module_taken true (most + higher) (length before) s token ≡ on last)
    (module_leads_same true (most + higher) 0 mdl_wanted mid state before
    (module_leads_more true higher (most + higher) 0 mdl_wanted mid before (omega arith) first)
    (module_leads_more true most (most + higher) 0 mdl_wanted state before (omega arith) leads))
    (taken_more true higher (most + higher) (length before) mid token last (omega arith) also))
    ∙ taken_same true most (most + higher) (length before) state token made (omega arith) low is)
    tt)

pub stray_stands : (most : ℕ) → 1 ≤ most → (before rest : List Token) (token : Token)
    (state : State) (made : Outcome) (begun : Begun) (position : Position) →
    ModuleLeads true most 0 mdl_wanted before state →
    module_taken true most (length before) state token ≡ made → (made ≡ too_deep → ⊥) →
    (IsOnMade made → ⊥) →
    module_step most (length before) state token ≡ on (within begun position) →
    IsDeferredAt position → IsStraySize (kinds (before ++ token ∷ rest)) (length before)
stray_stands most some before rest token state made begun position leads takes low none is deferred
    =
    record {
      size = deferred_stands most some before rest token state begun position leads is deferred;
      none = none_accepted most before rest token state made leads takes low none;
    }

-- Sizes of heads.

front_word : (before rest : List Token) (place : ℕ) (word : Kind) → place < length before →
    slice_get (kinds before) place ≡ Some word →
    slice_get (kinds (before ++ rest)) place ≡ Some word
front_word before rest place word less is =
    ap (λ w. slice_get w place) (kinds_append before rest)
    ∙ (get_front (kinds before) (kinds rest) place (omega (arith, less, kinds_length before)) ∙ is)

-- the first size of a head, behind which `=` begins the body
pub size_of_head : (strict : Bool) (most : ℕ) → 1 ≤ most → (before rest : List Token) (mark : Token)
    (state : State) (d : ℕ) → ModuleLeads strict most 0 mdl_wanted before state → IsHead state →
    IsMark mark (codes "=") → size_in state ≡ Some d →
    IsSizeOfHead most (kinds (before ++ mark ∷ rest)) d
size_of_head strict most some before rest mark state d leads head begins size =
    by (size_stands strict most before state d leads size)
  where
    low : (place : ℕ) → place ≤ length before →
        IsTooDeep most (kinds (before ++ mark ∷ rest)) place → ⊥
    low place fits deeper = at (less_or_same place (length before) fits)
      where
        at : (place < length before) ⊎ (place ≡ length before) → ⊥
        at (inl less) =
            none_deep_before strict most some before (mark ∷ rest) state leads place less deeper
        at (inr same) =
            let (begun, fronted, parameters, frequency, annotations, equal, is) =
            head_body most (length before) state mark head begins in
            deeper.high (subst (λ (n : ℕ). ModuleOpensTo (kinds (before ++ mark ∷ rest)) n most)
            (sym same) (inl (
              inside_length before rest mark,
              step_opens strict most some before rest mark state _ leads is,
            )))

    by : SizeStands strict most before d → IsSizeOfHead most (kinds (before ++ mark ∷ rest)) d
    by stands = record {
      size = record {
        before = stands.before;
        behind = stands.behind;
        bracket = front_word before (mark ∷ rest) stands.before (mark_word (codes "["))
            (omega (arith, stands.behind, stands.within_them)) stands.bracket;
        there = front_word before (mark ∷ rest) d (mark_word (codes "<")) stands.within_them
            stands.there;
        opens = (
          most,
          opens_at WritesModule (kinds (before ++ mark ∷ rest)) d most
              (omega (arith, stands.within_them, inside_length before rest mark))
              (before_opens strict most some before (mark ∷ rest) state leads d stands.within_them),
        );
      };
      equals = length before;
      behind = stands.within_them;
      there = get_kind before rest mark ∙ ap Some begins.is;
      head = head_stands strict most some before (mark ∷ rest) state leads head;
      same_head = λ whole above below is. stands.last whole above
          (whole_reached strict most before (mark ∷ rest) whole state leads below is);
      low = low;
    }

-- The first size of the head around, where one is passed.

size_bound : (most : ℕ) (own : List Token) (bracket less : Token) (mid after : State) →
    ModuleLeads true most 0 mdl_wanted (own ++ bracket ∷ []) mid → IsMark bracket (codes "[") →
    IsMark less (codes "<") →
    module_step most (length (own ++ bracket ∷ [])) mid less ≡ on after → IsSizeBegun after →
    MayGoOn true after → ((p : ℕ) × (size_in after ≡ Some p)
    × (p ≤ length (own ++ bracket ∷ []))) ⊎ InAnnotation after
size_bound most own bracket less mid
    (within begun (fronting (of_parameter (of_function fronted) parameters) mode)) leads opens
    lesser
    is begins may =
    inl (size_begun_head true most own bracket less mid begun fronted parameters mode leads opens
    lesser is).1
size_bound most own bracket less mid
    (within begun (fronting (of_parameter (of_annotation named) parameters) mode)) leads opens
    lesser
    is begins may =
    inr tt
size_bound most own bracket less mid (within begun (fronting of mode)) leads opens lesser is begins
    may =
    absurd (false≢true (sym may ∙ begins))
size_bound most own bracket less mid (within begun (expression
    (in_function_body fronted parameters frequency annotations) mode frames)) leads opens lesser is
    begins may =
    absurd (false≢true (sym may.0 ∙ begins))
size_bound most own bracket less mid (within begun (expression site mode frames)) leads opens lesser
    is begins may =
    absurd (false≢true (sym may ∙ begins))
size_bound most own bracket less mid after leads opens lesser is begins may = absurd begins

-- of a size of a head that a strict way has passed, in the same head
pub size_known : (most : ℕ) → 1 ≤ most → (before rest : List Token) (state : State) →
    ModuleLeads true most 0 mdl_wanted before state → (place : ℕ) → place < length before →
    LaterSize most (kinds (before ++ rest)) place (length before) →
    ((p : ℕ) × (size_in state ≡ Some p) × (p ≤ place)) ⊎ InAnnotation state
size_known most some before rest state leads place less later =
    let (front, lesser, more, are, long, less_is) = token_within before rest place
    (mark_word (codes "<")) less later.size.size.there in
    at_less front lesser more are long less_is
    (passes_token true most before front lesser more state are leads)
  where
    at_less : (front : List Token) (lesser : Token) (more : List Token) →
        before ≡ front ++ lesser ∷ more → length front ≡ place →
        lesser.kind ≡ mark_word (codes "<") → Passes true most front lesser more state →
        ((p : ℕ) × (size_in state ≡ Some p) × (p ≤ place)) ⊎ InAnnotation state
    at_less front lesser more are long less_is passed =
        let (own, bracket, own_is, bracket_is) = last_at front later.size.size.before
        (mark_word (codes "[")) (omega (arith, long, later.size.size.behind))
        (lesser ∷ (more ++ rest))
        (ap (λ (l : List Token). slice_get (kinds l) later.size.size.before) (sym all)
        ∙ later.size.size.bracket) in
        on_from (at_bracket own bracket own_is bracket_is)
      where
        all : before ++ rest ≡ front ++ lesser ∷ (more ++ rest)
        all = ap (λ (l : List Token). l ++ rest) are ∙ append_assoc front (lesser ∷ more) rest

        at_bracket : (own : List Token) (bracket : Token) → front ≡ own ++ bracket ∷ [] →
            bracket.kind ≡ mark_word (codes "[") →
            ((p : ℕ) × (size_in passed.then_state ≡ Some p) × (p ≤ length front))
            ⊎ InAnnotation passed.then_state
        at_bracket own bracket own_is bracket_is =
            subst (λ (l : List Token). ((p : ℕ) × (size_in passed.then_state ≡ Some p)
            × (p ≤ length l)) ⊎ InAnnotation passed.then_state) (sym own_is)
            (size_bound most own bracket lesser passed.mid passed.then_state led
            (record { is = bracket_is }) (record { is = less_is }) steps
            (size_begun true most own bracket lesser passed.mid passed.then_state led
            (record { is = bracket_is }) (record { is = less_is }) steps)
            (module_goes_on most (front ++ lesser ∷ []) passed.then_state passed.with_token))
          where
            led : ModuleLeads true most 0 mdl_wanted (own ++ bracket ∷ []) passed.mid
            led = subst (λ (l : List Token). ModuleLeads true most 0 mdl_wanted l passed.mid)
                own_is passed.leads

            steps : module_step most (length (own ++ bracket ∷ [])) passed.mid lesser
                ≡ on passed.then_state
            steps = subst (λ (l : List Token). module_step most (length l) passed.mid lesser
                ≡ on passed.then_state) own_is
                (taken_on true most (length front) passed.mid lesser passed.then_state passed.is)

        whole_none : WholeBehind true most (length (front ++ lesser ∷ []))
            ((front ++ lesser ∷ []) ++ more) → ⊥
        whole_none (whole, above, is_whole) =
            let one : IsWholeAt true most before whole =
            subst (λ (l : List Token). IsWholeAt true most l whole)
            (append_assoc front (lesser ∷ []) more ∙ sym are) is_whole in
            later.size.same_head whole
            (omega (arith, above, length-append front (lesser ∷ []), long))
            (omega (arith, one.within_them, later.later))
            (whole_stands true most some before rest whole one)

        kept : (p : ℕ) → p ≤ length front → (size_in state ≡ Some p)
            ⊎ WholeBehind true most (length (front ++ lesser ∷ []))
            ((front ++ lesser ∷ []) ++ more) →
            ((p : ℕ) × (size_in state ≡ Some p) × (p ≤ place)) ⊎ InAnnotation state
        kept p fits (inl size) = inl (p, size, omega (arith, fits, long))
        kept p fits (inr whole) = absurd (whole_none whole)

        noted : InAnnotation state ⊎ WholeBehind true most (length (front ++ lesser ∷ []))
            ((front ++ lesser ∷ []) ++ more) →
            ((p : ℕ) × (size_in state ≡ Some p) × (p ≤ place)) ⊎ InAnnotation state
        noted (inl inside) = inr inside
        noted (inr whole) = absurd (whole_none whole)

        on_from : ((p : ℕ) × (size_in passed.then_state ≡ Some p) × (p ≤ length front))
            ⊎ InAnnotation passed.then_state →
            ((p : ℕ) × (size_in state ≡ Some p) × (p ≤ place)) ⊎ InAnnotation state
        on_from (inl (p, size, fits)) =
            kept p fits (size_kept_way true most (front ++ lesser ∷ []) more passed.then_state state
            p passed.with_token size passed.behind)
        on_from (inr inside) =
            noted (head_kept_way true most (front ++ lesser ∷ []) more passed.then_state state
            passed.with_token inside passed.behind)

-- so before the first size of a head no fault has a name
pub none_before_size : (most : ℕ) → 1 ≤ most → (before rest : List Token) (state : State) →
    ModuleLeads true most 0 mdl_wanted before state → (d : ℕ) → size_in state ≡ Some d →
    d < length before → (place : ℕ) → place < d →
    IsNamedFault most (kinds (before ++ rest)) place → ⊥
none_before_size most some before rest state leads d size within_them place less fault =
    by (size_known most some before rest state leads place (omega (arith, less, within_them))
    (faults_passed most some before rest state leads place (omega (arith, less, within_them))
    fault))
  where
    by : ((p : ℕ) × (size_in state ≡ Some p) × (p ≤ place)) ⊎ InAnnotation state → ⊥
    by (inl (p, same, fits)) =
        omega (arith, same_Some p d (sym same ∙ size), fits, less)
    by (inr inside) = none-some d (sym (annotation_size state inside) ∙ size)

-- The first size that a head defers stands behind `[`, and no module is whole behind it.
use Rattle.std.proofs.Common.{◌≡◌, ◌⊎◌, inl, inr, ◌∙◌, sym, ap, subst, refl, arith, ℕ, suc, ◌≤◌}
use Rattle.std.proofs.Common.{◌<◌, Bool, List, [], ◌∷◌, ◌++◌, Some, length, take, slice_get, codes}
use Rattle.std.proofs.Common.{length-append}
use Rattle.std.proofs.lemmas.List.{append_assoc, append-nil, take-append-le}
use Rattle.std.proofs.lemmas.Option.{none-some}
use Rattle.mdl_lexer.specs.declared.token.Token.{Token}
use Rattle.expression_grammar.specs.Readings.{kinds}
use Rattle.expression_grammar.specs.inside.Machine.{deferred_wanted}
use Rattle.module_grammar.specs.inside.ModuleStates.{State, on, mdl_wanted, within, fronting}
use Rattle.module_grammar.specs.inside.ModuleMachine.{module_taken}
use Rattle.module_grammar.specs.inside.ModuleStates.{item_wanted}
use Rattle.module_grammar.specs.inside.ModuleLeads.{ModuleLeads, here, next, IsWholeAt}
use Rattle.module_grammar.specs.inside.ModuleHeads.{size_in, IsItem, SizeStands}
use Rattle.module_grammar.specs.inside.ModuleHolds.{ModuleHolds}
use Rattle.expression_grammar.specs.inside.Sound.{IsMark}
use Rattle.expression_grammar.proofs.LeftOutLaws.{deferred_front}
use Rattle.expression_grammar.proofs.KindLaws.{kinds_append}
use Rattle.expression_grammar.proofs.PlaceLaws.{get_front, kinds_length, get_kind, get_next_kind}
use Rattle.expression_grammar.proofs.PlaceLaws.{take_with, order}
use Rattle.module_grammar.proofs.ModuleHeadKinds.{IsDeferredFront}
use Rattle.module_grammar.proofs.ModuleHeadLaws.{size_back, item_size}
use Rattle.module_grammar.proofs.ModuleHeadWays.{taken_step, reached_holds, reached_may, reached_more}
use Rattle.module_grammar.proofs.ModuleHeadWays.{leads_to_one}

-- where a size of a front is deferred at the last token, that is `<` behind `[`
pub deferred_tokens : (state : State) (tokens : List Token) → IsDeferredFront state → ModuleHolds
    state tokens →
    (front : List Token) × (bracket : Token) × (less : Token) ×
    (tokens ≡ front ++ bracket ∷ less ∷ [])
    × IsMark bracket (codes "[") × IsMark less (codes "<")
deferred_tokens (within begun (fronting of (deferred_wanted head name))) tokens is holds =
    let own = holds.holds in
    let (front, bracket, less, same, opens, lesser) = deferred_front head name [] own.back own.holds
    in (
      holds.before ++ (own.front ++ front),
      bracket,
      less,
      sym holds.are ∙ ap (λ l. holds.before ++ l) (sym own.are ∙ ap (λ l. own.front ++ l) same
          ∙ sym (append_assoc own.front front (bracket ∷ less ∷ [])))
          ∙ sym (append_assoc holds.before (own.front ++ front) (bracket ∷ less ∷ [])),
      opens,
      lesser,
    )
deferred_tokens state tokens is holds = absurd is

-- where no shorter front is a whole module, and the state isn't between items, no front is
none_whole : (strict : Bool) (limit : ℕ) (before : List Token) (token : Token) (state : State)
    (whole : ℕ) →
    ModuleLeads strict limit 0 mdl_wanted (before ++ token ∷ []) state → (IsItem state → ⊥) →
    (whole ≤ length before → IsWholeAt strict limit before whole → ⊥) →
    IsWholeAt strict limit (before ++ token ∷ []) whole → ⊥
none_whole strict limit before token state whole leads inner shorter is = by
    (order whole (suc (length before)))
  where
    long : length (before ++ token ∷ []) ≡ suc (length before)
    long = omega (arith, length-append before (token ∷ []))

    by : (whole < suc (length before)) ⊎ (suc (length before) ≤ whole) → ⊥
    by (inl less) =
        let low : whole ≤ length before = omega (arith, less) in
        shorter low (record {
          within_them = low;
          begun = is.begun;
          early = is.early;
          leads = subst (λ l. ModuleLeads strict limit 0 mdl_wanted l
              (within is.begun (item_wanted is.early)))
              (take-append-le whole before (token ∷ []) low) is.leads;
        })
    by (inr more) =
        let all : whole ≡ suc (length before) = omega (arith, more, is.within_them, long) in
        let led = subst (λ l. ModuleLeads strict limit 0 mdl_wanted l
        (within is.begun (item_wanted is.early)))
        (ap (λ n. take n (before ++ token ∷ [])) all ∙ take_with before [] token) is.leads in
        inner (subst IsItem (leads_to_one strict limit 0 mdl_wanted
        (within is.begun (item_wanted is.early)) state
        (before ++ token ∷ []) led leads) tt)

size_not_item : (state : State) (at : ℕ) → size_in state ≡ Some at → IsItem state → ⊥
size_not_item state at size item = none-some at (sym (item_size state item) ∙ size)

abbrev SizesStand : Bool → ℕ → List Token → State → Type 0
SizesStand strict limit tokens state =
    (at : ℕ) → size_in state ≡ Some at → SizeStands strict limit tokens at

-- a size that stands goes on to stand
size_longer : (strict : Bool) (limit : ℕ) (before : List Token) (token : Token) (state : State)
    (at : ℕ) →
    ModuleLeads strict limit 0 mdl_wanted (before ++ token ∷ []) state → size_in state ≡ Some at →
    SizeStands strict limit before at → SizeStands strict limit (before ++ token ∷ []) at
size_longer strict limit before token state at leads size stands = record {
  before = stands.before;
  behind = stands.behind;
  within_them = omega (arith, stands.within_them, length-append before (token ∷ []));
  bracket = same stands.before (omega (arith, stands.behind, stands.within_them)) ∙ stands.bracket;
  there = same at stands.within_them ∙ stands.there;
  last = λ whole less is. none_whole strict limit before token state whole leads
      (size_not_item state at size)
      (λ low own. stands.last whole less own) is;
}
  where
    same : (place : ℕ) → place < length before →
        slice_get (kinds (before ++ token ∷ [])) place ≡ slice_get (kinds before) place
    same place inside = ap (λ l. slice_get l place) (kinds_append before (token ∷ []))
        ∙ get_front (kinds before) (kinds (token ∷ [])) place
        (omega (arith, inside, kinds_length before))

-- one that begins with the last token stands
size_begins : (strict : Bool) (limit : ℕ) (before : List Token) (token : Token) (state : State)
    (at : ℕ) →
    ModuleLeads strict limit 0 mdl_wanted (before ++ token ∷ []) state → size_in state ≡ Some at →
    at ≡ length before → IsDeferredFront state → SizeStands strict limit (before ++ token ∷ []) at
size_begins strict limit before token state at leads size place front =
    by (deferred_tokens state (before ++ token ∷ []) front
    (reached_holds strict limit (before ++ token ∷ []) state leads))
  where
    long : length (before ++ token ∷ []) ≡ suc (length before)
    long = omega (arith, length-append before (token ∷ []))

    by : (front : List Token) × (bracket : Token) × (less : Token)
        × (before ++ token ∷ [] ≡ front ++ bracket ∷ less ∷ []) × IsMark bracket (codes "[")
        × IsMark less (codes "<") → SizeStands strict limit (before ++ token ∷ []) at
    by (front, bracket, less, same, opens, lesser) = record {
      before = length front;
      behind = behind;
      within_them = omega (arith, place, long);
      bracket = ap (λ l. slice_get (kinds l) (length front)) same
          ∙ (get_kind front (less ∷ []) bracket ∙ ap Some opens.is);
      there = ap (slice_get (kinds (before ++ token ∷ []))) behind
          ∙ (ap (λ l. slice_get (kinds l) (suc (length front))) same
          ∙ (get_next_kind front [] bracket less ∙ ap Some lesser.is));
      last = λ whole over is. none_whole strict limit before token state whole leads
          (size_not_item state at size) (λ low own. absurd (omega (arith, low, over, place))) is;
    }
      where
        behind : at ≡ suc (length front)
        behind = omega (
          arith,
          place,
          long,
          ap length same,
          length-append front
              (bracket ∷ less ∷ []),
        )

sizes_step : (strict : Bool) (limit : ℕ) (before : List Token) (token : Token) (state after : State)
    →
    ModuleLeads strict limit 0 mdl_wanted before state →
    module_taken strict limit (length before) state token ≡ on after → SizesStand strict limit
    before state →
    SizesStand strict limit (before ++ token ∷ []) after
sizes_step strict limit before token state after leads is stand at size =
    by (size_back limit (length before) state after token at
    (reached_may strict limit before state leads)
    (taken_step strict limit (length before) state after token is) size)
  where
    led : ModuleLeads strict limit 0 mdl_wanted (before ++ token ∷ []) after
    led = reached_more strict limit state after before token leads is

    by : (size_in state ≡ Some at) ⊎ ((at ≡ length before) × IsDeferredFront after) →
        SizeStands strict limit (before ++ token ∷ []) at
    by (inl own) = size_longer strict limit before token after at led size (stand at own)
    by (inr (place, front)) = size_begins strict limit before token after at led size place front

sizes_from : (strict : Bool) (limit number : ℕ) (before tokens : List Token) (state last : State) →
    number ≡ length before → ModuleLeads strict limit 0 mdl_wanted before state →
    SizesStand strict limit before state → ModuleLeads strict limit number state tokens last →
    SizesStand strict limit (before ++ tokens) last
sizes_from strict limit number before tokens state last place leads stand (here _ _) =
    subst (λ l. SizesStand strict limit l state) (sym (append-nil before)) stand
sizes_from strict limit number before tokens state last place leads stand
    (next _ _ after _ token rest is more) =
    let took = subst (λ n. module_taken strict limit n state token ≡ on after) place is in
    subst (λ l. SizesStand strict limit l last) (append_assoc before (token ∷ []) rest)
    (sizes_from strict limit (suc number) (before ++ token ∷ []) rest after last
    (omega (arith, place, length-append before (token ∷ [])))
    (reached_more strict limit state after before token leads took)
    (sizes_step strict limit before token state after leads took stand) more)

-- the first size that a head defers stands where the state says
pub size_stands : (strict : Bool) (limit : ℕ) (tokens : List Token) (state : State) (at : ℕ) →
    ModuleLeads strict limit 0 mdl_wanted tokens state → size_in state ≡ Some at →
    SizeStands strict limit tokens at
size_stands strict limit tokens state at leads size =
    sizes_from strict limit 0 [] tokens mdl_wanted state refl (here 0 mdl_wanted)
    (λ place none. absurd (none-some place none)) leads at size

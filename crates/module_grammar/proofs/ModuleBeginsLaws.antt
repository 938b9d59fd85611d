-- A body before which a size was deferred begins with `=` behind a head.
use Rattle.std.proofs.Common.{◌≡◌, ◌⊎◌, inl, inr, ◌∙◌, sym, ap, subst, refl, arith, ℕ, suc}
use Rattle.std.proofs.Common.{true, false, List, [], ◌∷◌, ◌++◌, length, Option, Some}
use Rattle.std.proofs.Common.{codes, length-append}
use Rattle.std.proofs.lemmas.List.{append_assoc}
use Rattle.std.proofs.lemmas.Option.{none-some}
use Rattle.mdl_lexer.specs.declared.token.Token.{Token}
use Rattle.mdl_syntax.specs.declared.types.Freq.{Freq}
use Rattle.mdl_syntax.specs.Modules.{Annotation, Parameter}
use Rattle.expression_grammar.specs.inside.Sound.{IsMark, Holds, is_wanted, Around, nothing}
use Rattle.expression_grammar.specs.inside.Machine.{Mode, Frame, sort_of, from_to, wanted}
use Rattle.module_grammar.specs.inside.ModuleStates.{Begun, Position, State, Fronted, on}
use Rattle.module_grammar.specs.inside.ModuleStates.{mdl_wanted, within, expression, opened, fronting}
use Rattle.module_grammar.specs.inside.ModuleMachine.{module_step}
use Rattle.module_grammar.specs.inside.ModuleStates.{in_function_body}
use Rattle.module_grammar.specs.inside.ModuleStates.{function_read, annotated, a_function}
use Rattle.module_grammar.specs.inside.ModuleMachine.{module_sort_step}
use Rattle.module_grammar.specs.inside.ModuleStates.{version_wanted}
use Rattle.module_grammar.specs.inside.ModuleStates.{version_read, item_wanted}
use Rattle.module_grammar.specs.inside.ModuleLeads.{ModuleLeads}
use Rattle.module_grammar.specs.inside.ModuleHeads.{IsHead, IsItem, size_in}
use Rattle.module_grammar.specs.inside.ModuleHolds.{ModuleHolds}
use Rattle.module_grammar.proofs.ModuleHeadKinds.{MayStand}
use Rattle.module_grammar.proofs.ModuleHeadLaws.{size_kept}
use Rattle.module_grammar.proofs.ModuleHeadWays.{reached_may, reached_holds}
use Rattle.module_grammar.proofs.ModuleReachedSteps.{ComesTo, PositionComes}
use Rattle.module_grammar.proofs.ModuleReachedPositions.{StateReached, sort_comes}
use Rattle.module_grammar.proofs.ModuleReachedLaws.{module_reached}
use Rattle.module_grammar.proofs.ModuleWaitedLaws.{IsGoing, ReachesBody, at_body, goes_to}
use Rattle.module_grammar.proofs.ModuleFaultLaws.{module_step_leads}
use Rattle.module_grammar.proofs.ModuleToldSteps.{Told, IsBody, equals_told}
use Rattle.module_grammar.proofs.ModulePassedLaws.{IsOnMade}
use Rattle.module_grammar.proofs.ModuleFirstLaws.{same_division}

head_or : (state : State) → IsHead state ⊎ (IsHead state → ⊥)
head_or (within begun (function_read fronted parameters frequency)) = inl tt
head_or (within begun (annotated (a_function fronted parameters frequency) annotations end)) = inl
    tt
head_or state = inr (λ head. head)

going_body : (begun : Begun) (position : Position) → IsGoing (within begun position) →
    IsBody position → ⊥
going_body begun (expression (in_function_body fronted parameters frequency annotations) mode
    frames)
    going body =
    going
going_body begun position going body = body

strict_reached : (state : State) → IsGoing state → StateReached false state →
    StateReached true state
strict_reached (within begun (fronting of mode)) going reached = reached
strict_reached (within begun (opened site mode frames bracket)) going reached = reached
strict_reached (within begun (expression (in_function_body fronted parameters frequency annotations)
    mode frames)) going reached =
    absurd going
strict_reached (within begun (expression site mode frames)) going reached = λ strictly. tt
strict_reached (within begun position) going reached = tt
strict_reached state going reached = tt

-- the body has just begun
begins_wanted : (fronted : Fronted) (parameters : List Parameter) (frequency : Option Freq)
    (annotations : Option (List Annotation)) (mode : Mode) (frames : List Frame) (d : ℕ) →
    PositionComes true (expression (in_function_body fronted parameters frequency annotations) mode
    frames) → fronted.deferred ≡ Some d → (mode ≡ wanted) × (frames ≡ [])
begins_wanted fronted parameters frequency annotations wanted [] d comes size = (refl, refl)
begins_wanted fronted parameters frequency annotations wanted (frame ∷ frames) d comes size =
    absurd (none-some d (sym (comes refl) ∙ size))
begins_wanted fronted parameters frequency annotations mode frames d comes size =
    absurd (none-some d (sym (comes refl) ∙ size))

around_nothing : (frames : List Frame) (tokens : List Token) → frames ≡ [] → Around frames tokens →
    tokens ≡ []
around_nothing frames tokens same nothing = refl
around_nothing frames tokens same around = absurd (omega (arith, ap length same))

wanted_nothing : (tokens : List Token) → Holds wanted [] tokens → tokens ≡ []
wanted_nothing tokens (is_wanted _ _ around) = around_nothing [] tokens refl around

-- so the last token is `=`
last_equals : (begun : Begun) (fronted : Fronted) (parameters : List Parameter)
    (frequency : Option Freq) (annotations : Option (List Annotation)) (before : List Token)
    (token : Token) → ModuleHolds (within begun (expression
    (in_function_body fronted parameters frequency annotations) wanted [])) (before ++ token ∷ []) →
    IsMark token (codes "=")
last_equals begun fronted parameters frequency annotations before token holds =
    by (wanted_nothing holds.holds.other.own holds.holds.other.holds)
  where
    by : holds.holds.other.own ≡ [] → IsMark token (codes "=")
    by none =
        let (same, is) = same_division before (holds.before ++ holds.holds.front) token
        holds.holds.other.equals [] [] (omega (
          arith,
          ap length all,
          length-append before (token ∷ []),
          length-append (holds.before ++ holds.holds.front) (holds.holds.other.equals ∷ []),
        )) all in
        record { is = ap (λ (t : Token). t.kind) is ∙ holds.holds.other.is }
      where
        all : before ++ token ∷ [] ≡ (holds.before ++ holds.holds.front)
            ++ holds.holds.other.equals ∷ []
        all =
            sym holds.are ∙ (ap (λ (l : List Token). holds.before ++ l) (sym holds.holds.are
            ∙ ap (λ (l : List Token). holds.holds.front ++ l) (sym holds.holds.other.are
            ∙ ap (λ (l : List Token). holds.holds.other.equals ∷ l) none))
            ∙ sym (append_assoc holds.before holds.holds.front (holds.holds.other.equals ∷ [])))

with_equals : (limit number : ℕ) (state : State) (token : Token) (begun : Begun) (fronted : Fronted)
    (parameters : List Parameter) (frequency : Option Freq)
    (annotations : Option (List Annotation)) (mode : Mode) (frames : List Frame) → MayStand state →
    IsGoing state → IsMark token (codes "=") →
    module_step limit number state token ≡ on (within begun (expression
    (in_function_body fronted parameters frequency annotations) mode frames)) →
    (IsHead state → ⊥) → ⊥
with_equals limit number (within own position) token begun fronted parameters frequency annotations
    mode frames may going mark is none =
    subst (Told ⊥ own) (sym (ap (λ s. module_sort_step limit number (within own position) s
    (from_to token.at token.end)) (ap sort_of mark.is)) ∙ is)
    (equals_told limit number own position (from_to token.at token.end) may none
    (going_body own position going))
with_equals limit number mdl_wanted token begun fronted parameters frequency annotations mode frames
    may going mark is none =
    subst IsOnMade (sym (sym (ap (λ s. module_sort_step limit number mdl_wanted s
    (from_to token.at token.end)) (ap sort_of mark.is)) ∙ is)) tt
with_equals limit number (version_wanted at) token begun fronted parameters frequency annotations
    mode
    frames may going mark is none =
    subst IsOnMade (sym (sym (ap (λ s. module_sort_step limit number (version_wanted at) s
    (from_to token.at token.end)) (ap sort_of mark.is)) ∙ is)) tt
with_equals limit number (version_read at version) token begun fronted parameters frequency
    annotations mode frames may going mark is none =
    subst IsOnMade (sym (sym (ap (λ s. module_sort_step limit number (version_read at version) s
    (from_to token.at token.end)) (ap sort_of mark.is)) ∙ is)) tt

pub body_begins : (most : ℕ) (before : List Token) (token : Token) (state : State) (begun : Begun)
    (fronted : Fronted) (parameters : List Parameter) (frequency : Option Freq)
    (annotations : Option (List Annotation)) (mode : Mode) (frames : List Frame) (d : ℕ) →
    ModuleLeads false most 0 mdl_wanted before state → IsGoing state →
    module_step most (length before) state token ≡ on (within begun (expression
    (in_function_body fronted parameters frequency annotations) mode frames)) →
    fronted.deferred ≡ Some d → IsHead state × IsMark token (codes "=")
body_begins most before token state begun fronted parameters frequency annotations mode frames d
    leads
    going is size =
    by (head_or state)
  where
    comes : PositionComes true (expression (in_function_body fronted parameters frequency
        annotations) mode frames)
    comes =
        subst (ComesTo true) is (sort_comes true most (length before) state (sort_of token.kind)
        (from_to token.at token.end) (strict_reached state going
        (module_reached false most 0 mdl_wanted state before tt tt leads).0))

    mark : IsMark token (codes "=")
    mark =
        let (mode_is, frames_is) = begins_wanted fronted parameters frequency annotations mode
        frames
        d comes size in
        last_equals begun fronted parameters frequency annotations before token
        (subst (λ (f : List Frame). ModuleHolds (within begun (expression
        (in_function_body fronted parameters frequency annotations) wanted f)) (before ++ token ∷
        []))
        frames_is (subst (λ (m : Mode). ModuleHolds (within begun (expression
        (in_function_body fronted parameters frequency annotations) m frames))
        (before ++ token ∷ [])) mode_is
        (reached_holds false most (before ++ token ∷ []) _ (module_step_leads false most before
        token state _ leads is))))

    by : IsHead state ⊎ (IsHead state → ⊥) → IsHead state × IsMark token (codes "=")
    by (inl head) = (head, mark)
    by (inr none) =
        absurd (with_equals most (length before) state token begun fronted parameters frequency
        annotations mode frames (reached_may false most before state leads) going mark is none)

-- Where a first size is known, a body that is reached begins so.

pub record BodyState (state : State) (deferred : Option ℕ) : Type 0 where
  pub begun : Begun
  pub fronted : Fronted
  pub parameters : List Parameter
  pub frequency : Option Freq
  pub annotations : Option (List Annotation)
  pub mode : Mode
  pub frames : List Frame
  pub is : state ≡ within begun (expression
      (in_function_body fronted parameters frequency annotations) mode frames)
  pub same : fronted.deferred ≡ deferred

pub record HeadFound (most : ℕ) (before tokens : List Token) (d : ℕ) : Type 0 where
  pub front : List Token
  pub mark : Token
  pub more : List Token
  pub mid : State
  pub are : before ++ tokens ≡ front ++ mark ∷ more
  pub leads : ModuleLeads false most 0 mdl_wanted front mid
  pub size : size_in mid ≡ Some d
  pub head : IsHead mid
  pub is : IsMark mark (codes "=")

going_item : (state : State) → IsGoing state → IsItem state → ⊥
going_item (within begun (item_wanted early)) going item = going
going_item state going item = item

reach_item : (limit number : ℕ) (state : State) (tokens : List Token) (deferred : Option ℕ) →
    ReachesBody limit number state tokens deferred → IsItem state → ⊥
reach_item limit number state tokens deferred
    (at_body _ begun fronted parameters frequency annotations mode frames _ _ is) item =
    item
reach_item limit number state tokens deferred (goes_to _ _ after token more _ going is body) item =
    going_item state going item

pub head_found : (most number : ℕ) (before tokens : List Token) (state : State)
    (deferred : Option ℕ) (d : ℕ) → number ≡ length before →
    ModuleLeads false most 0 mdl_wanted before state → size_in state ≡ Some d →
    ReachesBody most number state tokens deferred →
    (deferred ≡ Some d) × (BodyState state deferred ⊎ HeadFound most before tokens d)
head_found most number before tokens state deferred d place leads size
    (at_body _ begun fronted parameters frequency annotations mode frames _ _ is) = (
      sym is ∙ size,
      inl (record {
        begun = begun;
        fronted = fronted;
        parameters = parameters;
        frequency = frequency;
        annotations = annotations;
        mode = mode;
        frames = frames;
        is = refl;
        same = is;
      }),
    )
head_found most number before tokens state deferred d place leads size
    (goes_to _ _ after token more _ going is body) =
    sized (size_kept most (length before) state after token d (reached_may false most before state
    leads) size steps)
    (λ kept. head_found most (suc number) (before ++ token ∷ []) more after deferred d
    (omega (arith, place, length-append before (token ∷ []))) led kept body)
  where
    steps : module_step most (length before) state token ≡ on after
    steps = subst (λ (n : ℕ). module_step most n state token ≡ on after) place is

    led : ModuleLeads false most 0 mdl_wanted (before ++ token ∷ []) after
    led = module_step_leads false most before token state after leads steps

    found : (deferred ≡ Some d) × (BodyState after deferred
        ⊎ HeadFound most (before ++ token ∷ []) more d) →
        (deferred ≡ Some d) × (BodyState state deferred ⊎ HeadFound most before (token ∷ more) d)
    found (same, inl at) =
        let (head, mark) = body_begins most before token state at.begun at.fronted at.parameters
        at.frequency at.annotations at.mode at.frames d leads going (steps ∙ ap on at.is)
        (at.same ∙ same) in (
          same,
          inr (record {
            front = before;
            mark = token;
            more = more;
            mid = state;
            are = refl;
            leads = leads;
            size = size;
            head = head;
            is = mark;
          }),
        )
    found (same, inr further) = (
      same,
      inr (record {
        front = further.front;
        mark = further.mark;
        more = further.more;
        mid = further.mid;
        are = sym (append_assoc before (token ∷ []) more) ∙ further.are;
        leads = further.leads;
        size = further.size;
        head = further.head;
        is = further.is;
      }),
    )

    sized : (size_in after ≡ Some d) ⊎ IsItem after →
        ((size_in after ≡ Some d) → (deferred ≡ Some d) × (BodyState after deferred
        ⊎ HeadFound most (before ++ token ∷ []) more d)) →
        (deferred ≡ Some d) × (BodyState state deferred ⊎ HeadFound most before (token ∷ more) d)
    sized (inl kept) further = found (further kept)
    sized (inr item) further = absurd (reach_item most (suc number) after more deferred body item)

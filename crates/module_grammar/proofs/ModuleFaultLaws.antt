-- Where the machine of modules stops, the words open no further, and where it has come to, they do.
use Rattle.std.proofs.Common.{◌≡◌, ◌⊎◌, inl, inr, ◌∙◌, sym, ap, subst, refl, ℕ, suc, ◌+◌, ◌≤◌, ◌<◌}
use Rattle.std.proofs.Common.{Bool, false, List, [], ◌∷◌, ◌++◌, length, take, slice_get}
use Rattle.std.proofs.Common.{arith, Some, length-append}
use Rattle.std.proofs.lemmas.List.{append_assoc, append-nil, take-append-le}
use Rattle.mdl_lexer.specs.declared.token.Kind.{Kind}
use Rattle.mdl_lexer.specs.declared.token.Token.{Token}
use Rattle.mdl_syntax.specs.Modules.{ModuleTree}
use Rattle.module_grammar.specs.ModuleFaults.{WritesModule, ModuleOpens, ModuleOpensTo, IsWhole}
use Rattle.module_grammar.specs.ModuleFaults.{IsMost, IsTooDeep, IsOtherVersion}
use Rattle.expression_grammar.specs.Readings.{kinds}
use Rattle.module_grammar.specs.inside.ModuleStates.{State, Outcome, on, too_deep, mdl_wanted}
use Rattle.module_grammar.specs.inside.ModuleStates.{within, item_wanted}
use Rattle.module_grammar.specs.inside.ModuleMachine.{module_step, module_taken, module_end}
use Rattle.module_grammar.specs.inside.ModuleMachine.{ModuleRun, module_read}
use Rattle.module_grammar.specs.inside.ModuleLeads.{ModuleLeads, here, next, IsWholeAt}
use Rattle.module_grammar.specs.inside.ModuleLeads.{IsMostWhole}
use Rattle.module_grammar.specs.inside.ModuleHolds.{ModuleHolds}
use Rattle.expression_grammar.proofs.PlaceLaws.{kinds_length, kinds_take, get_kind, order, take_rest}
use Rattle.expression_grammar.proofs.FaultLaws.{inside_length, words_front, words_with}
use Rattle.expression_grammar.proofs.LanguageLaws.{opens_to_higher, opens_before, opens_at, whole_at_end}
use Rattle.module_grammar.proofs.ModuleRoomLaws.{IsFixed, module_same, module_deep_goes}
use Rattle.module_grammar.proofs.ModuleTakenLaws.{taken_on, OtherVersion}
use Rattle.module_grammar.proofs.ModuleLeadsLaws.{renumbered, module_leads_on, module_one_step}
use Rattle.module_grammar.proofs.ModuleLeadsLaws.{module_leads_split, module_leads_same}
use Rattle.module_grammar.proofs.ModuleLeadsLaws.{module_generous, module_leads_more}
use Rattle.module_grammar.proofs.ModuleOutcomeLaws.{IsItem}
use Rattle.module_grammar.proofs.ModuleSoundStep.{module_sound_step}
use Rattle.module_grammar.proofs.ModuleOpeningLaws.{modules_grow, module_ends_write}
use Rattle.module_grammar.proofs.ModuleOpeningLaws.{module_leads_open, module_writes_end}
use Rattle.module_grammar.proofs.ModuleOpeningLaws.{module_opens_lead}

-- Steps.

-- the first of the tokens that lead on
pub module_leads_head : (strict : Bool) (limit number : ℕ) (state last : State) (token : Token)
    (tokens : List Token) → ModuleLeads strict limit number state (token ∷ tokens) last →
    (then : State) × (module_taken strict limit number state token ≡ on then)
    × ModuleLeads strict limit (suc number) then tokens last
module_leads_head strict limit number state last token tokens (next _ _ then _ _ _ is rest) =
    (then, is, rest)

-- the generous way with more room is the one that was come
pub same_way : (strict : Bool) (less more number : ℕ) (from state other : State)
    (tokens : List Token) → less ≤ more → ModuleLeads strict less number from tokens state →
    ModuleLeads false more number from tokens other → other ≡ state
same_way strict less more number from state other tokens fits leads found =
    module_leads_same false more number from other state tokens found
    (module_leads_more false less more number from state tokens fits
    (module_generous strict less number from state tokens leads))

-- where the words open the machine goes on, with room enough
pub module_opens_goes : (strict : Bool) (less more : ℕ) → less ≤ more → (before rest : List Token)
    (token : Token) (state : State) → ModuleLeads strict less 0 mdl_wanted before state →
    ModuleOpensTo (kinds (before ++ token ∷ rest)) (length before) more →
    (then : State) × (module_step more (length before) state token ≡ on then)
module_opens_goes strict less more fits before rest token state leads to =
    let opens = opens_at WritesModule (kinds (before ++ token ∷ rest)) (length before) more
    (inside_length before rest token) to in
    let (last, led) = module_opens_lead more (before ++ token ∷ [])
    (subst (λ (w : List Kind). ModuleOpens w more) (words_with before rest token) opens) in
    let (own, first, second) =
    module_leads_split false more 0 mdl_wanted last before (token ∷ []) led in
    let (then, is, rested) = module_leads_head false more (length before) own last token []
    (renumbered false more (0 + length before) (length before) own last (token ∷ [])
    (omega arith) second) in (
      then,
      subst (λ (s : State). module_step more (length before) s token ≡ on then)
          (same_way strict less more 0 mdl_wanted state own before fits leads first) is,
    )

-- one token more
pub module_step_leads : (strict : Bool) (limit : ℕ) (before : List Token) (token : Token)
    (state then : State) → ModuleLeads strict limit 0 mdl_wanted before state →
    module_step limit (length before) state token ≡ on then →
    ModuleLeads false limit 0 mdl_wanted (before ++ token ∷ []) then
module_step_leads strict limit before token state then leads is =
    module_leads_on false limit 0 mdl_wanted state then before (token ∷ [])
    (module_generous strict limit 0 mdl_wanted state before leads)
    (renumbered false limit (length before) (0 + length before) state then (token ∷ [])
    (omega arith) (module_one_step false limit (length before) state then token is))

-- What stops the machine.

-- a step that no limit changes, and that doesn't go on, opens nothing
pub stopped_none : (strict : Bool) (most : ℕ) (before rest : List Token) (token : Token)
    (state : State) (made : Outcome) → ModuleLeads strict most 0 mdl_wanted before state →
    module_step most (length before) state token ≡ made → IsFixed made → (higher : ℕ) →
    ModuleOpensTo (kinds (before ++ token ∷ rest)) (length before) higher → ⊥
stopped_none strict most before rest token state made leads is fixed higher to =
    let (then, went) = module_opens_goes strict most (most + higher) (omega arith) before rest token
    state leads (opens_to_higher WritesModule modules_grow (kinds (before ++ token ∷ rest))
    (length before) higher (most + higher) (omega arith) to) in
    subst IsFixed (sym (module_same most (most + higher) (length before) state token made fixed is)
    ∙ went) fixed

abbrev IsReading : ModuleRun → Type 0
IsReading (module_read tree) = Unit {0}
IsReading _ = ⊥

-- where a module ends, an item may follow
pub ends_item : (state : State) (tree : ModuleTree) →
    ((whole at : ℕ) → module_end whole at state ≡ module_read tree) → IsItem state
ends_item state tree ends = by state (subst IsReading (sym (ends 0 0)) tt)
  where
    by : (own : State) → IsReading (module_end 0 0 own) → IsItem own
    by (within begun (item_wanted early)) reading = tt
    by own reading = absurd reading

-- tokens that are a module lead to an item
pub whole_item : (strict : Bool) (most higher : ℕ) (tokens : List Token) (state : State) →
    ModuleLeads strict most 0 mdl_wanted tokens state → WritesModule (kinds tokens) higher →
    IsItem state
whole_item strict most higher tokens state leads whole =
    let (tree, led) = module_writes_end (most + higher) tokens
    (modules_grow (kinds tokens) higher (most + higher) (omega arith) whole) in
    subst IsItem (same_way strict most (most + higher) 0 mdl_wanted state led.last tokens
    (omega arith) leads led.leads) (ends_item led.last tree led.ends)

-- tokens that lead to no item are no module
pub cut_off_none : (strict : Bool) (most : ℕ) (tokens : List Token) (state : State) →
    ModuleLeads strict most 0 mdl_wanted tokens state → (IsItem state → ⊥) → (higher : ℕ) →
    ModuleOpensTo (kinds tokens) (length tokens) higher → ⊥
cut_off_none strict most tokens state leads none higher to =
    none (whole_item strict most higher tokens state leads
    (whole_at_end WritesModule (kinds tokens) higher
    (subst (λ (n : ℕ). ModuleOpensTo (kinds tokens) n higher) (sym (kinds_length tokens)) to)))

pub front_fits : (front rest : List Token) → length front ≤ length (kinds (front ++ rest))
front_fits front rest = omega (arith, kinds_length (front ++ rest), length-append front rest)

-- the tokens that the machine has taken open
pub front_opens : (strict : Bool) (most : ℕ) → 1 ≤ most → (front rest : List Token)
    (state : State) → ModuleLeads strict most 0 mdl_wanted front state →
    ModuleOpens (take (length front) (kinds (front ++ rest))) most
front_opens strict most some front rest state leads =
    subst (λ (w : List Kind). ModuleOpens w most) (sym (words_front front rest))
    (module_leads_open strict most some front state leads)

-- before the place that a way has come to all opens
pub before_opens : (strict : Bool) (most : ℕ) → 1 ≤ most → (front rest : List Token)
    (state : State) → ModuleLeads strict most 0 mdl_wanted front state → (place : ℕ) →
    place < length front → ModuleOpensTo (kinds (front ++ rest)) place most
before_opens strict most some front rest state leads place less =
    opens_before WritesModule (kinds (front ++ rest)) place (length front) most less
    (front_fits front rest) (front_opens strict most some front rest state leads)

-- .. and with a token that it steps on with
pub step_opens : (strict : Bool) (most : ℕ) → 1 ≤ most → (before rest : List Token)
    (token : Token) (state then : State) → ModuleLeads strict most 0 mdl_wanted before state →
    module_step most (length before) state token ≡ on then →
    ModuleOpens (take (suc (length before)) (kinds (before ++ token ∷ rest))) most
step_opens strict most some before rest token state then leads is =
    subst (λ (w : List Kind). ModuleOpens w most) (sym (words_with before rest token))
    (module_leads_open false most some (before ++ token ∷ []) then
    (module_step_leads strict most before token state then leads is))

abbrev IsDeepMade : Outcome → Type 0
IsDeepMade too_deep = Unit {0}
IsDeepMade _ = ⊥

-- a token that only higher modules have there
pub deep_stands : (strict : Bool) (most : ℕ) → 1 ≤ most → (before rest : List Token)
    (token : Token) (state : State) → ModuleLeads strict most 0 mdl_wanted before state →
    module_step most (length before) state token ≡ too_deep →
    IsTooDeep most (kinds (before ++ token ∷ rest)) (length before)
deep_stands strict most some before rest token state leads is =
    record { opens = opens; high = high }
  where
    opens : (higher : ℕ) × ModuleOpensTo (kinds (before ++ token ∷ rest)) (length before) higher
    opens =
        let (more, fits, then, went) = module_deep_goes most (length before) state token is in (
          more,
          inl (
            inside_length before rest token,
            step_opens strict more (omega (arith, some, fits)) before rest token state then
                (module_leads_more strict most more 0 mdl_wanted state before fits leads) went,
          ),
        )

    high : ModuleOpensTo (kinds (before ++ token ∷ rest)) (length before) most → ⊥
    high to =
        let (then, went) = module_opens_goes strict most most (omega arith) before rest token state
        leads to in
        subst IsDeepMade (sym is ∙ went) tt

pub none_deep_before : (strict : Bool) (most : ℕ) → 1 ≤ most → (front rest : List Token)
    (state : State) → ModuleLeads strict most 0 mdl_wanted front state → (place : ℕ) →
    place < length front → IsTooDeep most (kinds (front ++ rest)) place → ⊥
none_deep_before strict most some front rest state leads place less deeper =
    deeper.high (before_opens strict most some front rest state leads place less)

-- The most that are whole.

whole_words : (before rest : List Token) (whole : ℕ) → whole ≤ length before →
    take whole (kinds (before ++ rest)) ≡ kinds (take whole before)
whole_words before rest whole fits =
    kinds_take (before ++ rest) whole ∙ ap kinds (take-append-le whole before rest fits)

-- so many tokens that lead to an item are a module
pub whole_stands : (strict : Bool) (most : ℕ) → 1 ≤ most → (before rest : List Token) (whole : ℕ) →
    IsWholeAt strict most before whole → IsWhole (kinds (before ++ rest)) whole
whole_stands strict most some before rest whole is = (
  omega (arith, is.within_them, front_fits before rest),
  (
    most,
    subst (λ (w : List Kind). WritesModule w most)
        (sym (whole_words before rest whole is.within_them))
        (module_ends_write strict most some (take whole before) (record {
          version = is.begun.version;
          imports = is.begun.imports;
          annotations = is.begun.annotations;
          declarations = is.begun.declarations;
          span = record { at = is.begun.at; end = is.begun.end };
        })
        (record {
          last = within is.begun (item_wanted is.early);
          leads = is.leads;
          ends = λ whole at. refl;
        })),
  ),
)

item_whole : (strict : Bool) (most : ℕ) (tokens : List Token) (whole : ℕ) (state : State) →
    whole ≤ length tokens → IsItem state →
    ModuleLeads strict most 0 mdl_wanted (take whole tokens) state →
    IsWholeAt strict most tokens whole
item_whole strict most tokens whole (within begun (item_wanted early)) fits item leads =
    record { within_them = fits; begun = begun; early = early; leads = leads }
item_whole strict most tokens whole state fits item leads = absurd item

-- .. and of the tokens that a way has taken a module leads to an item
pub whole_reached : (strict : Bool) (most : ℕ) (before rest : List Token) (whole : ℕ)
    (state : State) → ModuleLeads strict most 0 mdl_wanted before state → whole ≤ length before →
    IsWhole (kinds (before ++ rest)) whole → IsWholeAt strict most before whole
whole_reached strict most before rest whole state leads fits (inside, (higher, writes)) =
    let (others, is) = take_rest before whole in
    let (then, first, second) = module_leads_split strict most 0 mdl_wanted state
    (take whole before) others
    (subst (λ (l : List Token). ModuleLeads strict most 0 mdl_wanted l state) is leads) in
    item_whole strict most before whole then fits
    (whole_item strict most higher (take whole before) then first
    (subst (λ (w : List Kind). WritesModule w higher) (whole_words before rest whole fits) writes))
    first

-- words that are a module open up to each place before their end
whole_opens_to : (words : List Kind) (whole at : ℕ) → at < whole → IsWhole words whole →
    (higher : ℕ) × ModuleOpensTo words at higher
whole_opens_to words whole at less (inside, (higher, writes)) = (
  higher,
  opens_before WritesModule words at whole higher less inside (record {
    rest = [];
    whole = subst (λ (w : List Kind). WritesModule w higher) (sym (append-nil (take whole words)))
        writes;
  }),
)

-- where nothing longer opens, the most tokens that are a module are those that lead to an item
pub most_whole : (most : ℕ) → 1 ≤ most → (strict : Bool) (before rest : List Token) (whole : ℕ) →
    IsMostWhole strict most before whole →
    ((higher : ℕ) → ModuleOpensTo (kinds (before ++ rest)) (length before) higher → ⊥) →
    (state : State) → ModuleLeads strict most 0 mdl_wanted before state →
    IsMost (kinds (before ++ rest)) whole
most_whole most some strict before rest whole found none state leads = (first found.is, all)
  where
    first : (whole ≡ 0) ⊎ IsWholeAt strict most before whole →
        (whole ≡ 0) ⊎ IsWhole (kinds (before ++ rest)) whole
    first (inl zero_is) = inl zero_is
    first (inr is) = inr (whole_stands strict most some before rest whole is)

    by : (other : ℕ) → IsWhole (kinds (before ++ rest)) other →
        (length before < other) ⊎ (other ≤ length before) → other ≤ whole
    by other is (inl more) =
        let (higher, to) = whole_opens_to (kinds (before ++ rest)) other (length before) more is in
        absurd (none higher to)
    by other is (inr fits) =
        found.most other (whole_reached strict most before rest other state leads fits is)

    all : (other : ℕ) → IsWhole (kinds (before ++ rest)) other → other ≤ whole
    all other is = by other is (order (length before) other)

-- Other versions.

leads_hold : (strict : Bool) (limit number : ℕ) (state last : State) (before tokens : List Token) →
    ModuleHolds state before → ModuleLeads strict limit number state tokens last →
    ModuleHolds last (before ++ tokens)
leads_hold strict limit number state last before tokens holds (here _ _) =
    subst (ModuleHolds state) (sym (append-nil before)) holds
leads_hold strict limit number state last before tokens holds
    (next _ _ then _ token more is rest) =
    subst (ModuleHolds last) (append_assoc before (token ∷ []) more)
    (leads_hold strict limit (suc number) then last (before ++ token ∷ []) more
    (module_sound_step limit number state before token then holds
    (taken_on strict limit number state token then is)) rest)

-- what the machine has taken holds where it has come to
pub module_leads_hold : (strict : Bool) (limit : ℕ) (tokens : List Token) (state : State) →
    ModuleLeads strict limit 0 mdl_wanted tokens state → ModuleHolds state tokens
module_leads_hold strict limit tokens state leads =
    leads_hold strict limit 0 mdl_wanted state [] tokens refl leads

pub version_stands : (strict : Bool) (most : ℕ) (before rest : List Token) (token : Token)
    (state : State) → ModuleLeads strict most 0 mdl_wanted before state →
    OtherVersion state token → IsOtherVersion (kinds (before ++ token ∷ rest)) (length before)
version_stands strict most before rest token state leads other =
    let front = subst (λ (s : State). ModuleHolds s before) other.state_is
    (module_leads_hold strict most before state leads) in
    record {
      text = other.text;
      double = other.double;
      behind = sym (ap length front.are);
      word = ap (λ (l : List Token). slice_get (kinds (l ++ token ∷ rest)) 0) (sym front.are)
          ∙ ap Some front.is;
      there = get_kind before rest token ∙ ap Some other.kind_is;
      other = other.is_other;
    }

-- What a run over the tokens of a module comes to.
use Rattle.std.proofs.Common.{◌≡◌, ◌⊎◌, ◌∙◌, inl, inr, sym, ap, subst, refl, arith, ℕ, suc, ◌+◌}
use Rattle.std.proofs.Common.{◌≤◌, Bool, true, false, List, [], ◌∷◌, ◌++◌, length, Some, None}
use Rattle.std.specs.Prelude.{nat_le}
use Rattle.std.proofs.lemmas.Bool.{leb-true, leb-false}
use Rattle.std.proofs.lemmas.List.{append_assoc, append-nil, length_push, take_all, take-append-le}
use Rattle.mdl_lexer.specs.declared.token.Token.{Token}
use Rattle.mdl_syntax.specs.Modules.{ModuleTree}
use Rattle.module_grammar.specs.inside.ModuleStates.{Begun, State, Outcome, on, waits, wrong}
use Rattle.module_grammar.specs.inside.ModuleStates.{too_deep, leaves_out, statement_body}
use Rattle.module_grammar.specs.inside.ModuleStates.{other_version, mdl_wanted, within, item_wanted}
use Rattle.module_grammar.specs.inside.ModuleMachine.{module_taken, module_end, module_read}
use Rattle.module_grammar.specs.inside.ModuleMachine.{whole_after, outcome_after, place_behind}
use Rattle.module_grammar.specs.inside.ModuleMachine.{run_module_from}
use Rattle.module_grammar.specs.inside.ModuleLeads.{ModuleLeads, here, next, ModuleEnds, IsWholeAt}
use Rattle.module_grammar.specs.inside.ModuleLeads.{IsMostWhole, ModuleOutcome, reads, is_wrong}
use Rattle.module_grammar.specs.inside.ModuleLeads.{is_cut_off, is_too_deep, is_left_out, was_left_out}
use Rattle.module_grammar.specs.inside.ModuleLeads.{has_waited, has_statements, has_other_version}
use Rattle.module_grammar.proofs.ModuleLeadsLaws.{renumbered, module_leads_on, module_one_step}
use Rattle.module_grammar.proofs.ModuleLeadsLaws.{module_leads_same}

-- States where a module may end.

abbrev pub IsItem : State → Type 0
IsItem (within begun (item_wanted early)) = Unit {0}
IsItem _ = ⊥

-- a state is an item, and its tokens are counted, or it is none and they aren't
pub data Counted : State → Type 0 where
  is_item : (begun : Begun) (early : Bool) → Counted (within begun (item_wanted early))
  no_item : (state : State) → (IsItem state → ⊥) →
      ((whole at : ℕ) → whole_after whole at state ≡ whole) → Counted state

pub counted : (state : State) → Counted state
counted (within begun (item_wanted early)) = is_item begun early
counted state = no_item state (λ item. item) (λ whole at. refl)

-- The most tokens that are a whole module.

none_whole : (strict : Bool) (limit : ℕ) → IsMostWhole strict limit [] 0
none_whole strict limit = record { is = inl refl; most = λ other is. is.within_them }

-- one token more
push_leads : (strict : Bool) (limit : ℕ) (before : List Token) (token : Token)
    (state then : State) → ModuleLeads strict limit 0 mdl_wanted before state →
    module_taken strict limit (length before) state token ≡ on then →
    ModuleLeads strict limit 0 mdl_wanted (before ++ token ∷ []) then
push_leads strict limit before token state then leads is =
    module_leads_on strict limit 0 mdl_wanted state then before (token ∷ []) leads
    (renumbered strict limit (length before) (0 + length before) state then (token ∷ [])
    (omega arith) (module_one_step strict limit (length before) state then token is))

longer_whole : (strict : Bool) (limit : ℕ) (before : List Token) (token : Token) (whole : ℕ) →
    IsWholeAt strict limit before whole → IsWholeAt strict limit (before ++ token ∷ []) whole
longer_whole strict limit before token whole is = record {
  within_them = omega (arith, is.within_them, length_push before token);
  begun = is.begun;
  early = is.early;
  leads = subst (λ (l : List Token). ModuleLeads strict limit 0 mdl_wanted l
      (within is.begun (item_wanted is.early)))
      (sym (take-append-le whole before (token ∷ []) is.within_them)) is.leads;
}

shorter_whole : (strict : Bool) (limit : ℕ) (before : List Token) (token : Token) (whole : ℕ) →
    whole ≤ length before → IsWholeAt strict limit (before ++ token ∷ []) whole →
    IsWholeAt strict limit before whole
shorter_whole strict limit before token whole fits is = record {
  within_them = fits;
  begun = is.begun;
  early = is.early;
  leads = subst (λ (l : List Token). ModuleLeads strict limit 0 mdl_wanted l
      (within is.begun (item_wanted is.early)))
      (take-append-le whole before (token ∷ []) fits) is.leads;
}

all_whole : (strict : Bool) (limit : ℕ) (tokens : List Token) (whole : ℕ) (begun : Begun)
    (early : Bool) → whole ≡ length tokens → ModuleLeads strict limit 0 mdl_wanted tokens
    (within begun (item_wanted early)) → IsWholeAt strict limit tokens whole
all_whole strict limit tokens whole begun early same leads = record {
  within_them = omega (arith, same);
  begun = begun;
  early = early;
  leads = subst (λ (l : List Token). ModuleLeads strict limit 0 mdl_wanted l
      (within begun (item_wanted early)))
      (sym (take_all whole tokens (omega (arith, same)))) leads;
}

-- all the tokens are no module where they don't lead to an item
not_all : (strict : Bool) (limit : ℕ) (tokens : List Token) (whole : ℕ) (state : State) →
    length tokens ≤ whole → ModuleLeads strict limit 0 mdl_wanted tokens state →
    (IsItem state → ⊥) → IsWholeAt strict limit tokens whole → ⊥
not_all strict limit tokens whole state fits leads none is =
    none (subst IsItem (module_leads_same strict limit 0 mdl_wanted
    (within is.begun (item_wanted is.early)) state tokens
    (subst (λ (l : List Token). ModuleLeads strict limit 0 mdl_wanted l
    (within is.begun (item_wanted is.early))) (take_all whole tokens fits) is.leads) leads) tt)

most_more : (strict : Bool) (limit : ℕ) (before : List Token) (token : Token) (whole : ℕ)
    (then : State) → IsMostWhole strict limit before whole →
    ModuleLeads strict limit 0 mdl_wanted (before ++ token ∷ []) then → Counted then →
    IsMostWhole strict limit (before ++ token ∷ []) (whole_after whole (suc (length before)) then)
most_more strict limit before token whole then most leads (is_item begun early) = record {
  is = inr (all_whole strict limit (before ++ token ∷ []) (suc (length before)) begun early
      (omega (arith, length_push before token)) leads);
  most = λ other is. omega (arith, is.within_them, length_push before token);
}
most_more strict limit before token whole then most leads (no_item _ none same) =
    subst (λ (n : ℕ). IsMostWhole strict limit (before ++ token ∷ []) n)
    (sym (same whole (suc (length before)))) (record { is = longer most.is; most = all })
  where
    longer : (whole ≡ 0) ⊎ IsWholeAt strict limit before whole →
        (whole ≡ 0) ⊎ IsWholeAt strict limit (before ++ token ∷ []) whole
    longer (inl zero_is) = inl zero_is
    longer (inr is) = inr (longer_whole strict limit before token whole is)

    by : (other : ℕ) → IsWholeAt strict limit (before ++ token ∷ []) other → (test : Bool) →
        nat_le other (length before) ≡ test → other ≤ whole
    by other is true low =
        most.most other (shorter_whole strict limit before token other
        (leb-true other (length before) low) is)
    by other is false high =
        absurd (not_all strict limit (before ++ token ∷ []) other then
        (omega (arith, leb-false other (length before) high, length_push before token)) leads none
        is)

    all : (other : ℕ) → IsWholeAt strict limit (before ++ token ∷ []) other → other ≤ whole
    all other is = by other is (nat_le other (length before)) refl

-- What a run comes to.

end_outcome : (strict : Bool) (limit : ℕ) (before : List Token) (state : State) (whole : ℕ) →
    ModuleLeads strict limit 0 mdl_wanted before state → IsMostWhole strict limit before whole →
    ModuleOutcome strict limit before (module_end whole (length before) state)
end_outcome strict limit before (within begun (item_wanted early)) whole leads most =
    reads before (record {
      version = begun.version;
      imports = begun.imports;
      annotations = begun.annotations;
      declarations = begun.declarations;
      span = record { at = begun.at; end = begun.end };
    })
    (record { last = within begun (item_wanted early); leads = leads; ends = λ whole at. refl })
end_outcome strict limit before state whole leads most =
    is_cut_off before state whole leads most refl

-- what comes of the tokens behind these
abbrev GoesOut : Bool → ℕ → List Token → Type 0
GoesOut strict limit tokens =
    (before : List Token) (state : State) (whole : ℕ) →
    ModuleLeads strict limit 0 mdl_wanted before state → IsMostWhole strict limit before whole →
    ModuleOutcome strict limit (before ++ tokens) (run_module_from strict limit whole
    (length before) (on state) tokens)

step_outcome : (strict : Bool) (limit : ℕ) (token : Token) (tokens : List Token) →
    GoesOut strict limit tokens → (before : List Token) (state : State) (whole : ℕ) →
    ModuleLeads strict limit 0 mdl_wanted before state → IsMostWhole strict limit before whole →
    (what : Outcome) → module_taken strict limit (length before) state token ≡ what →
    ModuleOutcome strict limit (before ++ token ∷ tokens)
    (run_module_from strict limit (outcome_after whole (length before) what)
    (place_behind (length before) what) what tokens)
step_outcome strict limit token tokens rest before state whole leads most (on then) is =
    subst (λ (n : ℕ). ModuleOutcome strict limit (before ++ token ∷ tokens)
    (run_module_from strict limit more n (on then) tokens)) same_place
    (subst (λ (all : List Token). ModuleOutcome strict limit all (run_module_from strict limit more
    (length (before ++ token ∷ [])) (on then) tokens)) (append_assoc before (token ∷ []) tokens)
    (rest (before ++ token ∷ []) then more pushed
    (most_more strict limit before token whole then most pushed (counted then))))
  where
    more : ℕ
    more = whole_after whole (suc (length before)) then

    pushed : ModuleLeads strict limit 0 mdl_wanted (before ++ token ∷ []) then
    pushed = push_leads strict limit before token state then leads is

    same_place : length (before ++ token ∷ []) ≡ suc (length before)
    same_place = omega (arith, length_push before token)
step_outcome strict limit token tokens rest before state whole leads most (waits then) is =
    has_waited before tokens token state then leads is
step_outcome strict limit token tokens rest before state whole leads most wrong is =
    is_wrong before tokens token state whole leads most is
step_outcome strict limit token tokens rest before state whole leads most too_deep is =
    is_too_deep before tokens token state leads is
step_outcome strict limit token tokens rest before state whole leads most (leaves_out None text) is
    =
    is_left_out before tokens token state text leads is
step_outcome strict limit token tokens rest before state whole leads most
    (leaves_out (Some earlier) text) is =
    was_left_out before tokens token state earlier text leads is
step_outcome strict limit token tokens rest before state whole leads most statement_body is =
    has_statements before tokens token state leads is
step_outcome strict limit token tokens rest before state whole leads most other_version is =
    has_other_version before tokens token state leads is

goes_out : (strict : Bool) (limit : ℕ) (tokens : List Token) → GoesOut strict limit tokens
goes_out strict limit [] before state whole leads most =
    subst (λ (all : List Token). ModuleOutcome strict limit all
    (module_end whole (length before) state))
    (sym (append-nil before)) (end_outcome strict limit before state whole leads most)
goes_out strict limit (token ∷ tokens) before state whole leads most =
    step_outcome strict limit token tokens (goes_out strict limit tokens) before state whole leads
    most (module_taken strict limit (length before) state token) refl

-- what a run comes to, and why
pub module_outcome : (strict : Bool) (limit : ℕ) (tokens : List Token) →
    ModuleOutcome strict limit tokens (run_module_from strict limit 0 0 (on mdl_wanted) tokens)
module_outcome strict limit tokens =
    goes_out strict limit tokens [] mdl_wanted 0 (here 0 mdl_wanted) (none_whole strict limit)

leads_read : (strict : Bool) (limit whole number : ℕ) (state last : State) (tokens : List Token)
    (tree : ModuleTree) → ModuleLeads strict limit number state tokens last →
    ((whole at : ℕ) → module_end whole at last ≡ module_read tree) →
    run_module_from strict limit whole number (on state) tokens ≡ module_read tree
leads_read strict limit whole number state last tokens tree (here _ _) ends = ends whole number
leads_read strict limit whole number state last tokens tree (next _ _ then _ token more is rest)
    ends =
    ap (λ made. run_module_from strict limit (outcome_after whole number made)
    (place_behind number made) made more) is ∙ leads_read strict limit
    (whole_after whole (suc number) then) (suc number) then last more tree rest ends

-- tokens that lead to the end of a module are read as it
pub module_run_reads : (strict : Bool) (limit : ℕ) (tokens : List Token) (tree : ModuleTree) →
    ModuleEnds strict limit 0 mdl_wanted tokens tree →
    run_module_from strict limit 0 0 (on mdl_wanted) tokens ≡ module_read tree
module_run_reads strict limit tokens tree led =
    leads_read strict limit 0 0 mdl_wanted led.last tokens tree led.leads led.ends

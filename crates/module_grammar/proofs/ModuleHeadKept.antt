-- What a declaration keeps it keeps along a way, unless a whole module ends on it.
use Rattle.std.proofs.Common.{◌≡◌, ◌⊎◌, inl, inr, sym, subst, refl, arith, ℕ, suc, ◌<◌, Bool, List}
use Rattle.std.proofs.Common.{[], ◌∷◌, ◌++◌, Some, length, length-append}
use Rattle.std.proofs.lemmas.List.{append_assoc}
use Rattle.mdl_lexer.specs.declared.token.Token.{Token}
use Rattle.module_grammar.specs.inside.ModuleStates.{Begun, State, on, mdl_wanted, within}
use Rattle.module_grammar.specs.inside.ModuleMachine.{module_step, module_taken}
use Rattle.module_grammar.specs.inside.ModuleStates.{item_wanted}
use Rattle.module_grammar.specs.inside.ModuleLeads.{ModuleLeads, here, next, IsWholeAt}
use Rattle.module_grammar.specs.inside.ModuleHeads.{size_in, IsItem}
use Rattle.expression_grammar.proofs.PlaceLaws.{take_with}
use Rattle.module_grammar.proofs.ModuleHeadKinds.{MayStand, InAnnotation}
use Rattle.module_grammar.proofs.ModuleHeadLaws.{size_kept, head_kept}
use Rattle.module_grammar.proofs.ModuleHeadWays.{taken_step, reached_may, reached_more}

-- a module is whole within the tokens, behind so many of them
abbrev pub WholeBehind : Bool → ℕ → ℕ → List Token → Type 0
WholeBehind strict limit number tokens =
    (whole : ℕ) × (number < whole) × IsWholeAt strict limit tokens whole

item_is : (state : State) → IsItem state → (begun : Begun) × (early : Bool)
    × (state ≡ within begun (item_wanted early))
item_is (within begun (item_wanted early)) is = (begun, early, refl)
item_is state is = absurd is

whole_here : (strict : Bool) (limit : ℕ) (before rest : List Token) (token : Token) (state : State)
    →
    ModuleLeads strict limit 0 mdl_wanted (before ++ token ∷ []) state → IsItem state →
    WholeBehind strict limit (length before) (before ++ token ∷ rest)
whole_here strict limit before rest token state leads item =
    let (begun, early, same) = item_is state item in (
      suc (length before),
      omega arith,
      record {
        within_them = omega (arith, length-append before (token ∷ rest));
        begun = begun;
        early = early;
        leads = subst (λ l. ModuleLeads strict limit 0 mdl_wanted l
            (within begun (item_wanted early)))
            (sym (take_with before rest token))
            (subst (λ (s : State). ModuleLeads strict limit 0 mdl_wanted (before ++ token ∷ []) s)
            same leads);
      },
    )

-- what each step keeps until an item ends
pub kept_way : (Keep : State → Type 0) → ((limit number : ℕ) (state after : State) (token : Token) →
    MayStand state → Keep state → module_step limit number state token ≡ on after → Keep after ⊎
    IsItem after) →
    (strict : Bool) (limit number : ℕ) (before tokens : List Token) (state last : State) → number ≡
    length before →
    ModuleLeads strict limit 0 mdl_wanted before state → Keep state →
    ModuleLeads strict limit number state tokens last →
    Keep last ⊎ WholeBehind strict limit (length before) (before ++ tokens)
kept_way Keep step strict limit number before tokens state last place leads keeps (here _ _) = inl
    keeps
kept_way Keep step strict limit number before tokens state last place leads keeps
    (next _ _ after _ token rest is more) =
    by (step limit (length before) state after token (reached_may strict limit before state leads)
    keeps
    (taken_step strict limit (length before) state after token took))
    (λ keep. kept_way Keep step strict limit (suc number) (before ++ token ∷ []) rest after last
    (omega (arith, place, long)) led keep more)
  where
    took : module_taken strict limit (length before) state token ≡ on after
    took = subst (λ n. module_taken strict limit n state token ≡ on after) place is

    led : ModuleLeads strict limit 0 mdl_wanted (before ++ token ∷ []) after
    led = reached_more strict limit state after before token leads took

    long : length (before ++ token ∷ []) ≡ suc (length before)
    long = omega (arith, length-append before (token ∷ []))

    on_again : Keep last ⊎ WholeBehind strict limit (length (before ++ token ∷ []))
        ((before ++ token ∷ []) ++ rest) →
        Keep last ⊎ WholeBehind strict limit (length before) (before ++ token ∷ rest)
    on_again (inl keep) = inl keep
    on_again (inr (whole, less, is_whole)) =
        inr (
          whole,
          omega (arith, less, long),
          subst (λ l. IsWholeAt strict limit l whole) (append_assoc before (token ∷ []) rest)
              is_whole,
        )

    by : Keep after ⊎ IsItem after →
        (Keep after → Keep last ⊎ WholeBehind strict limit (length (before ++ token ∷ []))
        ((before ++ token ∷ []) ++ rest)) →
        Keep last ⊎ WholeBehind strict limit (length before) (before ++ token ∷ rest)
    by (inl keep) again = on_again (again keep)
    by (inr item) again = inr (whole_here strict limit before rest token after led item)

-- the first size of a head is kept, or a module is whole behind it
pub size_kept_way : (strict : Bool) (limit : ℕ) (before tokens : List Token) (state last : State)
    (at : ℕ) →
    ModuleLeads strict limit 0 mdl_wanted before state → size_in state ≡ Some at →
    ModuleLeads strict limit (length before) state tokens last →
    (size_in last ≡ Some at) ⊎ WholeBehind strict limit (length before) (before ++ tokens)
size_kept_way strict limit before tokens state last at leads size more =
    kept_way (λ s. size_in s ≡ Some at) (λ limit number state after token may own is.
    size_kept limit number state after token at may own is) strict limit (length before) before
    tokens state last
    refl leads size more

-- and so is the annotation that is declared
pub head_kept_way : (strict : Bool) (limit : ℕ) (before tokens : List Token) (state last : State) →
    ModuleLeads strict limit 0 mdl_wanted before state → InAnnotation state →
    ModuleLeads strict limit (length before) state tokens last →
    InAnnotation last ⊎ WholeBehind strict limit (length before) (before ++ tokens)
head_kept_way strict limit before tokens state last leads inside more =
    kept_way InAnnotation head_kept strict limit (length before) before tokens state last refl leads
    inside more

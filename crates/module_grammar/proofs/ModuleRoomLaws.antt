-- What more room changes for a step of the machine of modules: only what is too deep goes on.
use Rattle.std.proofs.Common.{◌≡◌, ◌∙◌, sym, ap, subst, refl, arith, ℕ, ◌+◌, ◌≤◌, Bool, true, false}
use Rattle.std.proofs.Common.{Some, if◌then◌else◌}
use Rattle.std.specs.Prelude.{nat_le}
use Rattle.std.proofs.lemmas.Bool.{cond-true, cond-false, false≢true, le-leb, leb-true}
use Rattle.mdl_lexer.specs.declared.token.Token.{Token}
use Rattle.module_grammar.specs.inside.ModuleStates.{Begun, Position, State, Outcome, on, waits}
use Rattle.module_grammar.specs.inside.ModuleStates.{too_deep, leaves_out, other_version, mdl_wanted}
use Rattle.module_grammar.specs.inside.ModuleStates.{version_wanted, version_read, within}
use Rattle.module_grammar.specs.inside.ModuleMachine.{module_step}
use Rattle.module_grammar.proofs.ModuleSettledLaws.{is_settled, Settled}
use Rattle.module_grammar.proofs.ModuleLimitedLaws.{Roomed, settled, above}
use Rattle.module_grammar.proofs.ModuleRoomedLaws.{is_begun, module_roomed}

-- outcomes that no limit changes
abbrev pub IsFixed : Outcome → Type 0
IsFixed (on state) = ⊥
IsFixed too_deep = ⊥
IsFixed made = Unit {0}

abbrev IsDeep : Outcome → Type 0
IsDeep too_deep = Unit {0}
IsDeep _ = ⊥

deep_not_on : (after : State) → too_deep ≡ on after → ⊥
deep_not_on after is = subst IsDeep is tt

roomed_more : (inside : Bool) (of : ℕ → Outcome) → Roomed inside of → (less more : ℕ) →
    less ≤ more → (after : State) → of less ≡ on after → of more ≡ on after
roomed_more inside of (settled what ok same) less more fits after is =
    same more ∙ (sym (same less) ∙ is)
roomed_more inside of (above need begun position same) less more fits after is =
    by (nat_le need less) refl
  where
    own : Outcome
    own = on (within begun position)

    by : (test : Bool) → nat_le need less ≡ test → of more ≡ on after
    by true low =
        same more ∙ (cond-true (nat_le need more) own too_deep
        (le-leb need more (omega (arith, fits, leb-true need less low)))
        ∙ (sym (same less ∙ cond-true (nat_le need less) own too_deep low) ∙ is))
    by false high =
        absurd (deep_not_on after (sym (same less ∙ cond-false (nat_le need less) own too_deep high)
        ∙ is))

none_fixed : (begun : Begun) (position : Position) (test : Bool) →
    IsFixed (if test then on (within begun position) else too_deep) → ⊥
none_fixed begun position true is = is
none_fixed begun position false is = is

roomed_fixed : (inside : Bool) (of : ℕ → Outcome) → Roomed inside of →
    (less more : ℕ) (made : Outcome) → IsFixed made → of less ≡ made → of more ≡ made
roomed_fixed inside of (settled what ok same) less more made fixed is =
    same more ∙ (sym (same less) ∙ is)
roomed_fixed inside of (above need begun position same) less more made fixed is =
    absurd (none_fixed begun position (nat_le need less) (subst IsFixed (sym is ∙ same less) fixed))

roomed_deep : (inside : Bool) (of : ℕ → Outcome) → Roomed inside of → (limit : ℕ) →
    of limit ≡ too_deep → (more : ℕ) × (limit ≤ more) × (after : State) × (of more ≡ on after)
roomed_deep inside of (settled what ok same) limit is =
    absurd (false≢true (ap (is_settled inside) (sym is ∙ same limit) ∙ ok))
roomed_deep inside of (above need begun position same) limit is = (
  limit + need,
  omega (arith),
  within begun position,
  same (limit + need)
      ∙ cond-true (nat_le need (limit + need)) (on (within begun position)) too_deep
      (le-leb need (limit + need) (omega (arith))),
)

-- with more room the machine goes on as with less
pub module_more : (less more number : ℕ) (state : State) (token : Token) (after : State) →
    less ≤ more → module_step less number state token ≡ on after →
    module_step more number state token ≡ on after
module_more less more number state token after fits is =
    roomed_more (is_begun state) (λ limit. module_step limit number state token)
    (module_roomed number state token) less more fits after is

-- and what neither goes on nor is too deep is the same with any room
pub module_same : (less more number : ℕ) (state : State) (token : Token) (made : Outcome) →
    IsFixed made → module_step less number state token ≡ made →
    module_step more number state token ≡ made
module_same less more number state token made fixed is =
    roomed_fixed (is_begun state) (λ limit. module_step limit number state token)
    (module_roomed number state token) less more made fixed is

-- with room enough the machine goes on from where it is too deep
pub module_deep_goes : (limit number : ℕ) (state : State) (token : Token) →
    module_step limit number state token ≡ too_deep →
    (more : ℕ) × (limit ≤ more) × (after : State) × (module_step more number state token ≡ on after)
module_deep_goes limit number state token is =
    roomed_deep (is_begun state) (λ room. module_step room number state token)
    (module_roomed number state token) limit is

-- a step neither waits nor is of another version, nor is an earlier token left out
abbrev pub IsMade : Outcome → Type 0
IsMade (waits state) = ⊥
IsMade (leaves_out (Some earlier) text) = ⊥
IsMade other_version = ⊥
IsMade made = Unit {0}

settled_made : (inside : Bool) (made : Outcome) → is_settled inside made ≡ true → IsMade made
settled_made inside (waits state) ok = absurd (false≢true ok)
settled_made inside (leaves_out (Some earlier) text) ok = absurd (false≢true ok)
settled_made inside other_version ok = absurd (false≢true ok)
settled_made inside made ok = tt

either_made : (begun : Begun) (position : Position) (test : Bool) →
    IsMade (if test then on (within begun position) else too_deep)
either_made begun position true = tt
either_made begun position false = tt

roomed_made : (inside : Bool) (of : ℕ → Outcome) → Roomed inside of → (limit : ℕ) →
    IsMade (of limit)
roomed_made inside of (settled what ok same) limit =
    subst IsMade (sym (same limit)) (settled_made inside what ok)
roomed_made inside of (above need begun position same) limit =
    subst IsMade (sym (same limit)) (either_made begun position (nat_le need limit))

pub module_never : (limit number : ℕ) (state : State) (token : Token) →
    IsMade (module_step limit number state token)
module_never limit number state token =
    roomed_made (is_begun state) (λ room. module_step room number state token)
    (module_roomed number state token) limit

-- inside a module a step stays inside
abbrev pub IsInside : Outcome → Type 0
IsInside (on (within begun position)) = Unit {0}
IsInside (on state) = ⊥
IsInside made = Unit {0}

settled_inside : (made : Outcome) → Settled made → IsInside made
settled_inside (on (within begun position)) ok = tt
settled_inside (on mdl_wanted) ok = absurd (false≢true ok)
settled_inside (on (version_wanted at)) ok = absurd (false≢true ok)
settled_inside (on (version_read at version)) ok = absurd (false≢true ok)
settled_inside made ok = tt

either_inside : (begun : Begun) (position : Position) (test : Bool) →
    IsInside (if test then on (within begun position) else too_deep)
either_inside begun position true = tt
either_inside begun position false = tt

roomed_inside : (of : ℕ → Outcome) → Roomed true of → (limit : ℕ) → IsInside (of limit)
roomed_inside of (settled what ok same) limit =
    subst IsInside (sym (same limit)) (settled_inside what ok)
roomed_inside of (above need begun position same) limit =
    subst IsInside (sym (same limit)) (either_inside begun position (nat_le need limit))

pub module_inside : (limit number : ℕ) (begun : Begun) (position : Position) (token : Token) →
    IsInside (module_step limit number (within begun position) token)
module_inside limit number begun position token =
    roomed_inside (λ room. module_step room number (within begun position) token)
    (module_roomed number (within begun position) token) limit

-- The machine of modules reads what stands one behind the other.
use Rattle.std.proofs.Common.{sym, subst, arith, ℕ, ◌≤◌, Bool, List, []}
use Rattle.std.proofs.Common.{◌∷◌, ◌++◌}
use Rattle.std.proofs.lemmas.List.{append_assoc, append-nil}
use Rattle.mdl_lexer.specs.declared.token.Token.{Token}
use Rattle.mdl_syntax.specs.Placed.{last_end}
use Rattle.mdl_syntax.specs.AcceptedModules.{highest}
use Rattle.module_grammar.specs.inside.ModuleStates.{State}
use Rattle.module_grammar.specs.inside.WroteModules.{EachWrote, no_other, another}
use Rattle.expression_grammar.proofs.KindLaws.{last_end_append}
use Rattle.module_grammar.proofs.ModuleReadsParts.{Way, way_on, stay}

-- each that is low enough is read behind those that were, up to where its tokens end
abbrev pub EachLaw : {A : Type 0} → Bool → ℕ → (A → List Token → Type 0) → (A → ℕ) →
    (List A → ℕ → State) → Type 0
EachLaw {A} strict limit One height_of state =
    (done : List A) (end : ℕ) (one : A) (tokens : List Token) → One one tokens →
    height_of one ≤ limit →
    Way strict limit (state done end) tokens (state (done ++ one ∷ []) (last_end end tokens))

each_on : {A : Type 0} (strict : Bool) (limit : ℕ) (state : List A → ℕ → State) (done : List A)
    (end : ℕ) (first : A) (more : List A) (tokens others : List Token) →
    Way strict limit (state done end) tokens (state (done ++ first ∷ []) (last_end end tokens)) →
    Way strict limit (state (done ++ first ∷ []) (last_end end tokens)) others
    (state ((done ++ first ∷ []) ++ more) (last_end (last_end end tokens) others)) →
    Way strict limit (state done end) (tokens ++ others)
    (state (done ++ first ∷ more) (last_end end (tokens ++ others)))
each_on strict limit state done end first more tokens others one rest =
    subst (λ list. Way strict limit (state done end) (tokens ++ others)
    (state list (last_end end (tokens ++ others)))) (append_assoc done (first ∷ []) more)
    (subst (λ n. Way strict limit (state done end) (tokens ++ others)
    (state ((done ++ first ∷ []) ++ more) n)) (sym (last_end_append end tokens others))
    (way_on (state (done ++ first ∷ []) (last_end end tokens)) one rest))

pub each_reads : {A : Type 0} (strict : Bool) (limit : ℕ) (One : A → List Token → Type 0)
    (height_of : A → ℕ) (state : List A → ℕ → State) →
    EachLaw strict limit One height_of state → (done : List A) (end : ℕ) (more : List A)
    (tokens : List Token) → EachWrote One more tokens → highest height_of more ≤ limit →
    Way strict limit (state done end) tokens (state (done ++ more) (last_end end tokens))
each_reads strict limit One height_of state law done end more tokens no_other low =
    subst (λ list. Way strict limit (state done end) [] (state list end)) (sym (append-nil done))
    stay
each_reads strict limit One height_of state law done end more tokens
    (another first rest own others one_wrote more_wrote) low =
    each_on strict limit state done end first rest own others
    (law done end first own one_wrote (omega (arith, low)))
    (each_reads strict limit One height_of state law (done ++ first ∷ []) (last_end end own) rest
    others more_wrote (omega (arith, low)))

-- What the machine of modules takes it steps to, and what it leaves out and why.
use Rattle.std.proofs.Common.{◌≡◌, ◌⊎◌, ◌∙◌, inl, inr, sym, ap, subst, refl, ℕ, ◌≤◌, Bool, true}
use Rattle.std.proofs.Common.{false, List, Some, None, if◌then◌else◌, codes}
use Rattle.std.proofs.lemmas.Bool.{false≢true}
use Rattle.mdl_lexer.specs.declared.token.Kind.TheVariants as kind
use Rattle.mdl_lexer.specs.declared.token.Token.{Token}
use Rattle.mdl_syntax.specs.declared.names.Span.{Span}
use Rattle.mdl_syntax.specs.declared.expressions.Lit.TheVariants as lit
use Rattle.mdl_syntax.specs.declared.modules.VersionLit.{VersionLit}
use Rattle.mdl_syntax.specs.AcceptedModules.{is_version}
use Rattle.expression_grammar.specs.inside.Sorts.{IsOf}
use Rattle.expression_grammar.specs.inside.Machine.{Sort, sort_of, from_to, left_out, other_literal}
use Rattle.expression_grammar.specs.inside.Machine.{mdl_word, semicolon}
use Rattle.module_grammar.specs.inside.ModuleStates.{Begun, Position, State, Outcome, on, waits}
use Rattle.module_grammar.specs.inside.ModuleStates.{wrong, too_deep, leaves_out, statement_body}
use Rattle.module_grammar.specs.inside.ModuleStates.{other_version, mdl_wanted, version_wanted}
use Rattle.module_grammar.specs.inside.ModuleMachine.{Verdict, passes}
use Rattle.module_grammar.specs.inside.ModuleStates.{version_read, within}
use Rattle.module_grammar.specs.inside.ModuleMachine.{refused_here, refused_before, undecided}
use Rattle.module_grammar.specs.inside.ModuleMachine.{verdict_in, judged, permitted_state, permitted}
use Rattle.module_grammar.specs.inside.ModuleMachine.{module_taken, module_step, module_sort_step}
use Rattle.module_grammar.specs.inside.ModuleMachine.{state_step, version_step, version_ends}
use Rattle.expression_grammar.proofs.SortLaws.{is_of_sort}
use Rattle.module_grammar.proofs.ModuleRoomLaws.{module_same, IsMade, module_never, IsInside}
use Rattle.module_grammar.proofs.ModuleRoomLaws.{module_inside, module_more}
use Rattle.module_grammar.proofs.ModuleRoomedLaws.{is_begun}

-- what is permitted of a state, and why
data Permitting : State → Outcome → Type 0 where
  lets_on : (state : State) → Permitting state (on state)
  left_here : (begun : Begun) (position : Position) → verdict_in position ≡ refused_here →
      Permitting (within begun position) (leaves_out None (codes "deferred-size"))
  left_before : (begun : Begun) (position : Position) (earlier : ℕ) →
      verdict_in position ≡ refused_before earlier →
      Permitting (within begun position) (leaves_out (Some earlier) (codes "deferred-size"))
  lets_wait : (begun : Begun) (position : Position) → verdict_in position ≡ undecided →
      Permitting (within begun position) (waits (within begun position))
  of_other : (at : ℕ) (version : VersionLit) → is_version version.text version.double ≡ false →
      Permitting (version_read at version) other_version

judged_permitting : (begun : Begun) (position : Position) (verdict : Verdict) →
    verdict_in position ≡ verdict → Permitting (within begun position)
    (judged (within begun position) verdict)
judged_permitting begun position passes is = lets_on (within begun position)
judged_permitting begun position refused_here is = left_here begun position is
judged_permitting begun position (refused_before at) is = left_before begun position at is
judged_permitting begun position undecided is = lets_wait begun position is

version_permitting : (at : ℕ) (version : VersionLit) (test : Bool) →
    is_version version.text version.double ≡ test →
    Permitting (version_read at version) (if test then on (version_read at version) else
    other_version)
version_permitting at version true is = lets_on (version_read at version)
version_permitting at version false is = of_other at version is

permitting : (state : State) → Permitting state (permitted_state state)
permitting (version_read at version) =
    version_permitting at version (is_version version.text version.double) refl
permitting (within begun position) = judged_permitting begun position (verdict_in position) refl
permitting mdl_wanted = lets_on mdl_wanted
permitting (version_wanted at) = lets_on (version_wanted at)

-- What is changed by no permission.

abbrev pub is_plain : Outcome → Bool
is_plain (on state) = true
is_plain wrong = true
is_plain too_deep = true
is_plain statement_body = true
is_plain _ = false

permitting_plain : (state : State) (made what : Outcome) → Permitting state made →
    is_plain what ≡ true → made ≡ what → on state ≡ what
permitting_plain state made what (lets_on _) ok is = is
permitting_plain state made what (left_here begun position why) ok is =
    absurd (false≢true (ap is_plain is ∙ ok))
permitting_plain state made what (left_before begun position earlier why) ok is =
    absurd (false≢true (ap is_plain is ∙ ok))
permitting_plain state made what (lets_wait begun position why) ok is =
    absurd (false≢true (ap is_plain is ∙ ok))
permitting_plain state made what (of_other at version why) ok is =
    absurd (false≢true (ap is_plain is ∙ ok))

permitted_plain : (strict : Bool) (made what : Outcome) → is_plain what ≡ true →
    permitted strict made ≡ what → made ≡ what
permitted_plain false made what ok is = is
permitted_plain true (on state) what ok is =
    permitting_plain state (permitted_state state) what (permitting state) ok is
permitted_plain true made what ok is = is

-- what the machine takes, it steps to
pub taken_on : (strict : Bool) (limit number : ℕ) (state : State) (token : Token) (after : State) →
    module_taken strict limit number state token ≡ on after →
    module_step limit number state token ≡ on after
taken_on strict limit number state token after is =
    permitted_plain strict (module_step limit number state token) (on after) refl is

pub taken_wrong : (strict : Bool) (limit number : ℕ) (state : State) (token : Token) →
    module_taken strict limit number state token ≡ wrong →
    module_step limit number state token ≡ wrong
taken_wrong strict limit number state token is =
    permitted_plain strict (module_step limit number state token) wrong refl is

pub taken_deep : (strict : Bool) (limit number : ℕ) (state : State) (token : Token) →
    module_taken strict limit number state token ≡ too_deep →
    module_step limit number state token ≡ too_deep
taken_deep strict limit number state token is =
    permitted_plain strict (module_step limit number state token) too_deep refl is

pub taken_statement : (strict : Bool) (limit number : ℕ) (state : State) (token : Token) →
    module_taken strict limit number state token ≡ statement_body →
    module_step limit number state token ≡ statement_body
taken_statement strict limit number state token is =
    permitted_plain strict (module_step limit number state token) statement_body refl is

-- with more room the machine takes what it does with less
pub taken_more : (strict : Bool) (less more number : ℕ) (state : State) (token : Token)
    (after : State) → less ≤ more → module_taken strict less number state token ≡ on after →
    module_taken strict more number state token ≡ on after
taken_more strict less more number state token after fits is =
    let went = taken_on strict less number state token after is in
    ap (permitted strict) (module_more less more number state token after fits went)
    ∙ (ap (permitted strict) (sym went) ∙ is)

permitted_deep : (strict : Bool) → permitted strict too_deep ≡ too_deep
permitted_deep true = refl
permitted_deep false = refl

-- and what comes of a token is the same, if it wasn't too deep
pub taken_same : (strict : Bool) (less more number : ℕ) (state : State) (token : Token)
    (made : Outcome) → less ≤ more → (made ≡ too_deep → ⊥) →
    module_taken strict less number state token ≡ made →
    module_taken strict more number state token ≡ made
taken_same strict less more number state token made fits low is =
    ap (permitted strict) (by (module_step less number state token) refl) ∙ is
  where
    by : (what : Outcome) → module_step less number state token ≡ what →
        module_step more number state token ≡ module_step less number state token
    by (on after) steps = module_more less more number state token after fits steps ∙ sym steps
    by too_deep steps =
        absurd (low (sym is ∙ (ap (permitted strict) steps ∙ permitted_deep strict)))
    by what steps = module_same less more number state token what tt steps ∙ sym steps

-- What is left out.

-- a step goes on to a position with this verdict
pub record Judged (made : Outcome) (verdict : Verdict) : Type 0 where
  pub begun : Begun
  pub position : Position
  pub steps : made ≡ on (within begun position)
  pub verdict_is : verdict_in position ≡ verdict

abbrev IsLeft : List ℕ → Outcome → Type 0
IsLeft text (leaves_out None own) = own ≡ text
IsLeft text _ = ⊥

abbrev IsLeftBefore : ℕ → List ℕ → Outcome → Type 0
IsLeftBefore at text (leaves_out (Some earlier) own) = (earlier ≡ at) × (own ≡ text)
IsLeftBefore at text _ = ⊥

abbrev IsWaiting : State → Outcome → Type 0
IsWaiting after (waits state) = state ≡ after
IsWaiting after _ = ⊥

abbrev IsOther : Outcome → Type 0
IsOther other_version = Unit {0}
IsOther _ = ⊥

-- a token is left out at once, or since a size that is deferred begins
permitting_leaves : (state : State) (made : Outcome) (text : List ℕ) → Permitting state made →
    IsLeft text made → Judged (on state) refused_here × (text ≡ codes "deferred-size")
permitting_leaves state made text (lets_on _) left = absurd left
permitting_leaves state made text (left_here begun position why) left =
    (record { begun = begun; position = position; steps = refl; verdict_is = why }, sym left)
permitting_leaves state made text (left_before begun position earlier why) left = absurd left
permitting_leaves state made text (lets_wait begun position why) left = absurd left
permitting_leaves state made text (of_other at version why) left = absurd left

permitted_leaves : (strict : Bool) (made : Outcome) (text : List ℕ) →
    permitted strict made ≡ leaves_out None text → (made ≡ leaves_out None text) ⊎
    ((strict ≡ true) × Judged made refused_here × (text ≡ codes "deferred-size"))
permitted_leaves false made text is = inl is
permitted_leaves true (on state) text is =
    let found = permitting_leaves state (permitted_state state) text (permitting state)
    (subst (IsLeft text) (sym is) refl) in
    inr (refl, found.0, found.1)
permitted_leaves true made text is = inl is

pub taken_leaves : (strict : Bool) (limit number : ℕ) (state : State) (token : Token)
    (text : List ℕ) → module_taken strict limit number state token ≡ leaves_out None text →
    (module_step limit number state token ≡ leaves_out None text) ⊎
    ((strict ≡ true) × Judged (module_step limit number state token) refused_here
    × (text ≡ codes "deferred-size"))
taken_leaves strict limit number state token text is =
    permitted_leaves strict (module_step limit number state token) text is

-- an earlier token is left out where the body of a function begins
permitting_left : (state : State) (made : Outcome) (earlier : ℕ) (text : List ℕ) →
    Permitting state made → IsLeftBefore earlier text made →
    Judged (on state) (refused_before earlier) × (text ≡ codes "deferred-size")
permitting_left state made earlier text (lets_on _) left = absurd left
permitting_left state made earlier text (left_here begun position why) left = absurd left
permitting_left state made earlier text (left_before begun position at why) left = (
  record {
    begun = begun;
    position = position;
    steps = refl;
    verdict_is = why ∙ ap refused_before
        left.0;
  },
  sym left.1,
)
permitting_left state made earlier text (lets_wait begun position why) left = absurd left
permitting_left state made earlier text (of_other at version why) left = absurd left

permitted_left : (strict : Bool) (made : Outcome) (earlier : ℕ) (text : List ℕ) → IsMade made →
    permitted strict made ≡ leaves_out (Some earlier) text →
    (strict ≡ true) × Judged made (refused_before earlier) × (text ≡ codes "deferred-size")
permitted_left false made earlier text may is = absurd (subst IsMade is may)
permitted_left true (on state) earlier text may is =
    let found = permitting_left state (permitted_state state) earlier text (permitting state)
    (subst (IsLeftBefore earlier text) (sym is) (refl, refl)) in
    (refl, found.0, found.1)
permitted_left true made earlier text may is = absurd (subst IsMade is may)

pub taken_left : (strict : Bool) (limit number : ℕ) (state : State) (token : Token) (earlier : ℕ)
    (text : List ℕ) → module_taken strict limit number state token
    ≡ leaves_out (Some earlier) text → (strict ≡ true)
    × Judged (module_step limit number state token) (refused_before earlier)
    × (text ≡ codes "deferred-size")
taken_left strict limit number state token earlier text is =
    permitted_left strict (module_step limit number state token) earlier text
    (module_never limit number state token) is

-- a size waits where it is undecided
permitting_waits : (state : State) (made : Outcome) (after : State) → Permitting state made →
    IsWaiting after made → (judging : Judged (on state) undecided)
    × (after ≡ within judging.begun judging.position)
permitting_waits state made after (lets_on _) waiting = absurd waiting
permitting_waits state made after (left_here begun position why) waiting = absurd waiting
permitting_waits state made after (left_before begun position earlier why) waiting = absurd waiting
permitting_waits state made after (lets_wait begun position why) waiting =
    (record { begun = begun; position = position; steps = refl; verdict_is = why }, sym waiting)
permitting_waits state made after (of_other at version why) waiting = absurd waiting

permitted_waits : (strict : Bool) (made : Outcome) (after : State) → IsMade made →
    permitted strict made ≡ waits after → (strict ≡ true)
    × ((judging : Judged made undecided) × (after ≡ within judging.begun judging.position))
permitted_waits false made after may is = absurd (subst IsMade is may)
permitted_waits true (on state) after may is = (
  refl,
  permitting_waits state (permitted_state state) after (permitting state)
      (subst (IsWaiting after) (sym is) refl),
)
permitted_waits true made after may is = absurd (subst IsMade is may)

pub taken_waits : (strict : Bool) (limit number : ℕ) (state : State) (token : Token)
    (after : State) → module_taken strict limit number state token ≡ waits after →
    (strict ≡ true) × ((judging : Judged (module_step limit number state token) undecided)
    × (after ≡ within judging.begun judging.position))
taken_waits strict limit number state token after is =
    permitted_waits strict (module_step limit number state token) after
    (module_never limit number state token) is

-- Other versions.

-- the token is a version that is none of those that are read
pub record OtherVersion (state : State) (token : Token) : Type 0 where
  pub at : ℕ
  pub text : List ℕ
  pub double : Bool
  pub state_is : state ≡ version_wanted at
  pub kind_is : token.kind ≡ kind.Real text double
  pub is_other : is_version text double ≡ false

permitting_version : (state : State) (made : Outcome) → Permitting state made → IsOther made →
    (at : ℕ) × (version : VersionLit) × (state ≡ version_read at version)
    × (is_version version.text version.double ≡ false)
permitting_version state made (lets_on _) other = absurd other
permitting_version state made (left_here begun position why) other = absurd other
permitting_version state made (left_before begun position earlier why) other = absurd other
permitting_version state made (lets_wait begun position why) other = absurd other
permitting_version state made (of_other at version why) other = (at, version, refl, why)

abbrev IsVersion : VersionLit → Outcome → Type 0
IsVersion version (on (version_read at own)) = own ≡ version
IsVersion version _ = ⊥

permitted_version : (strict : Bool) (made : Outcome) → IsMade made →
    permitted strict made ≡ other_version → (version : VersionLit) × IsVersion version made
    × (is_version version.text version.double ≡ false)
permitted_version false made may is = absurd (subst IsMade is may)
permitted_version true (on state) may is =
    let (at, version, same, why) = permitting_version state (permitted_state state)
    (permitting state)
    (subst IsOther (sym is) tt) in
    (version, subst (λ s. IsVersion version (on s)) (sym same) refl, why)
permitted_version true made may is = absurd (subst IsMade is may)

version_of : (at : ℕ) (sort : Sort) (place : Span) (version : VersionLit) →
    IsVersion version (version_step at sort place) →
    sort ≡ other_literal (lit.Real version.text version.double)
version_of at (other_literal (lit.Real text double)) place version is =
    ap (λ (v : VersionLit). other_literal (lit.Real v.text v.double)) is
version_of at sort place version is = absurd is

ends_not : (at : ℕ) (own version : VersionLit) (sort : Sort) (place : Span) →
    IsVersion version (version_ends at own sort place) → ⊥
ends_not at own version semicolon place is = is
ends_not at own version sort place is = is

-- only behind `mdl` a version is read
abbrev AtVersion : State → Sort → VersionLit → Type 0
AtVersion state sort version =
    (at : ℕ) × (state ≡ version_wanted at) × (sort ≡ other_literal
    (lit.Real version.text version.double))

state_version : (limit number : ℕ) (state : State) (sort : Sort) (place : Span)
    (version : VersionLit) → is_begun state ≡ false →
    IsVersion version (state_step limit number state sort place) → AtVersion state sort version
state_version limit number mdl_wanted mdl_word place version outside is = absurd is
state_version limit number mdl_wanted _ place version outside is = absurd is
state_version limit number (version_wanted at) sort place version outside is =
    (at, refl, version_of at sort place version is)
state_version limit number (version_read at own) sort place version outside is =
    absurd (ends_not at own version sort place is)
state_version limit number (within begun position) sort place version outside is =
    absurd (false≢true (sym outside))

sort_version : (limit number : ℕ) (state : State) (sort : Sort) (place : Span)
    (version : VersionLit) → is_begun state ≡ false →
    IsVersion version (module_sort_step limit number state sort place) →
    AtVersion state sort version
sort_version limit number state (left_out text) place version outside is = absurd is
sort_version limit number state sort place version outside is =
    state_version limit number state sort place version outside is

not_inside : (made : Outcome) (version : VersionLit) → IsInside made → IsVersion version made → ⊥
not_inside (on (version_read at own)) version inside is = inside
not_inside made version inside is = is

step_version : (limit number : ℕ) (state : State) (token : Token) (version : VersionLit) →
    IsVersion version (module_step limit number state token) →
    AtVersion state (sort_of token.kind) version
step_version limit number (within begun position) token version is =
    absurd (not_inside (module_step limit number (within begun position) token) version
    (module_inside limit number begun position token) is)
step_version limit number state token version is =
    sort_version limit number state (sort_of token.kind) (from_to token.at token.end) version refl
    is

-- a version is another where it is read, and none of those
pub taken_version : (strict : Bool) (limit number : ℕ) (state : State) (token : Token) →
    module_taken strict limit number state token ≡ other_version → OtherVersion state token
taken_version strict limit number state token is =
    let (version, reads, why) = permitted_version strict (module_step limit number state token)
    (module_never limit number state token) is in
    let (at, state_is, sort_is) = step_version limit number state token version reads in
    record {
      at = at;
      text = version.text;
      double = version.double;
      state_is = state_is;
      kind_is = subst (λ s. IsOf s token.kind) sort_is (is_of_sort token.kind);
      is_other = why;
    }

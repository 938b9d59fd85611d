-- A fault with a name that a strict way has passed is a size of a head whose body begins later.
use Rattle.std.proofs.Common.{◌≡◌, ◌⊎◌, inl, inr, ◌∙◌, sym, ap, subst, refl, arith, ℕ, zero, suc}
use Rattle.std.proofs.Common.{◌+◌, ◌≤◌}
use Rattle.std.proofs.Common.{◌<◌, Bool, true, false, List, [], ◌∷◌, ◌++◌, length, take, slice_get}
use Rattle.std.proofs.Common.{Option, Some, None, codes, length-append, if◌then◌else◌}
use Rattle.std.proofs.lemmas.Bool.{false≢true}
use Rattle.std.proofs.lemmas.List.{append_assoc}
use Rattle.std.proofs.lemmas.Option.{same_Some}
use Rattle.mdl_lexer.specs.declared.token.Kind.{Kind}
use Rattle.mdl_lexer.specs.declared.token.Kind.TheVariants as kind
use Rattle.mdl_lexer.specs.declared.token.Token.{Token}
use Rattle.mdl_lexer.specs.Kinds.{mark_word, name_word}
use Rattle.mdl_syntax.specs.AcceptedModules.{is_version}
use Rattle.expression_grammar.specs.Languages.{OpensIn}
use Rattle.module_grammar.specs.ModuleFaults.{IsNamedFault, IsSizeOfHead, IsStraySize, IsStatementBody}
use Rattle.module_grammar.specs.ModuleFaults.{IsOtherVersion, EndsHead, IsWhole, WritesAccepted}
use Rattle.module_grammar.specs.ModuleFaults.{too_deep, left_out, statement_body}
use Rattle.module_grammar.specs.ModuleFaults.{other_version}
use Rattle.expression_grammar.specs.Readings.{kinds}
use Rattle.expression_grammar.specs.inside.Sound.{IsMark}
use Rattle.expression_grammar.specs.inside.Machine.{sort_of, from_to, wanted}
use Rattle.mdl_syntax.specs.declared.types.Freq.{Freq}
use Rattle.mdl_syntax.specs.Modules.{Annotation, Parameter}
use Rattle.module_grammar.specs.inside.ModuleStates as states
use Rattle.module_grammar.specs.inside.ModuleStates.{State, Outcome, on, mdl_wanted, within}
use Rattle.module_grammar.specs.inside.ModuleMachine.{judged}
use Rattle.module_grammar.specs.inside.ModuleStates.{Begun, Fronted, version_read}
use Rattle.module_grammar.specs.inside.ModuleMachine.{before_body, module_sort_step}
use Rattle.module_grammar.specs.inside.ModuleMachine.{module_step, module_taken}
use Rattle.module_grammar.specs.inside.ModuleStates.{version_wanted}
use Rattle.module_grammar.specs.inside.ModuleStates.{fronting, expression, of_parameter, of_function}
use Rattle.module_grammar.specs.inside.ModuleMachine.{permitted}
use Rattle.module_grammar.specs.inside.ModuleStates.{of_annotation, in_function_body}
use Rattle.module_grammar.specs.inside.ModuleLeads.{ModuleLeads, next, IsWholeAt, MayGoOn}
use Rattle.module_grammar.specs.inside.ModuleHeads.{IsHead, size_in}
use Rattle.module_grammar.specs.inside.ModuleForms.{FormStands}
use Rattle.expression_grammar.proofs.KindLaws.{same_head, same_tail}
use Rattle.expression_grammar.proofs.FaultLaws.{words_front, words_with}
use Rattle.expression_grammar.proofs.PlaceLaws.{order}
use Rattle.module_grammar.proofs.ModuleTakenLaws.{taken_on}
use Rattle.module_grammar.proofs.ModuleLeadsLaws.{module_leads_split, renumbered, state_in}
use Rattle.module_grammar.proofs.ModuleHeadEnds.{head_body, head_statement}
use Rattle.module_grammar.proofs.ModuleHeadBrackets.{IsSizeBegun, IsThere}
use Rattle.module_grammar.proofs.ModuleHeadBegins.{size_begun}
use Rattle.module_grammar.proofs.ModuleHeadKinds.{InAnnotation}
use Rattle.module_grammar.proofs.ModuleHeadLaws.{head_apart}
use Rattle.module_grammar.proofs.ModuleHeadKept.{size_kept_way, head_kept_way, WholeBehind}
use Rattle.module_grammar.proofs.ModuleHeadWays.{reached_more}
use Rattle.module_grammar.proofs.ModuleFormPlaces.{form_by}
use Rattle.module_grammar.proofs.ModuleLeftOutLaws.{left_out_takes}
use Rattle.module_grammar.proofs.ModulePlainLaws.{module_plain, module_goes_on}
use Rattle.module_grammar.proofs.ModuleOpeningLaws.{accepted_leads_open}
use Rattle.module_grammar.proofs.ModuleFaultLaws.{none_deep_before, whole_stands, module_leads_head}
use Rattle.module_grammar.proofs.ModuleHeadWords.{head_reached}

abbrev pub IsOnMade : Outcome → Type 0
IsOnMade (on state) = Unit {0}
IsOnMade made = ⊥

-- Tokens at their places.

-- the token at a place within the first of them
pub token_within : (before rest : List Token) (place : ℕ) (word : Kind) → place < length before →
    slice_get (kinds (before ++ rest)) place ≡ Some word →
    (front : List Token) × (token : Token) × (more : List Token)
    × (before ≡ front ++ token ∷ more) × (length front ≡ place) × (token.kind ≡ word)
token_within [] rest place word less is = absurd (omega (arith, less))
token_within (token ∷ before) rest zero word less is =
    ([], token, before, refl, refl, same_Some token.kind word is)
token_within (first ∷ before) rest (suc place) word less is =
    let (front, token, more, are, long, kind_is) = token_within before rest place word
    (omega (arith, less)) is in
    (first ∷ front, token, more, ap (λ l. first ∷ l) are, ap suc long, kind_is)

-- the first of them, where another division is known
pub front_within : (before rest front : List Token) (token : Token) (behind : List Token) →
    length front < length before → before ++ rest ≡ front ++ token ∷ behind →
    (more : List Token) × (before ≡ front ++ token ∷ more)
front_within [] rest front token behind less same = absurd (omega (arith, less))
front_within (one ∷ before) rest [] token behind less same =
    (before, ap (λ (t : Token). t ∷ before) (same_head one token (before ++ rest) behind same))
front_within (one ∷ before) rest (other ∷ front) token behind less same =
    let (more, are) = front_within before rest front token behind (omega (arith, less))
    (same_tail one other (before ++ rest) (front ++ token ∷ behind) same) in (
      more,
      ap (λ (t : Token). t ∷ before) (same_head one other (before ++ rest)
          (front ++ token ∷ behind) same) ∙ ap (λ l. other ∷ l) are,
    )

-- a way that passes a token
pub record Passes (strict : Bool) (most : ℕ) (front : List Token) (token : Token)
    (more : List Token) (last : State) : Type 0 where
  pub mid : State
  pub then_state : State
  pub leads : ModuleLeads strict most 0 mdl_wanted front mid
  pub is : module_taken strict most (length front) mid token ≡ on then_state
  pub with_token : ModuleLeads strict most 0 mdl_wanted (front ++ token ∷ []) then_state
  pub behind : ModuleLeads strict most (length (front ++ token ∷ [])) then_state more last

pub passes_token : (strict : Bool) (most : ℕ) (before front : List Token) (token : Token)
    (more : List Token) (last : State) → before ≡ front ++ token ∷ more →
    ModuleLeads strict most 0 mdl_wanted before last → Passes strict most front token more last
passes_token strict most before front token more last are leads =
    let (mid, first, second) = module_leads_split strict most 0 mdl_wanted last front
    (token ∷ more) (subst (λ (l : List Token). ModuleLeads strict most 0 mdl_wanted l last) are
    leads) in
    let (then_state, is, rested) = module_leads_head strict most (length front) mid last token more
    (renumbered strict most (0 + length front) (length front) mid last (token ∷ more) (omega arith)
    second) in
    record {
      mid = mid;
      then_state = then_state;
      leads = first;
      is = is;
      with_token = reached_more strict most mid then_state front token first is;
      behind = renumbered strict most (suc (length front)) (length (front ++ token ∷ [])) then_state
          last more (omega (arith, length-append front (token ∷ []))) rested;
    }

-- the words to a place, and through it
pub words_to : (before rest front : List Token) (token : Token) (more : List Token) (place : ℕ) →
    before ≡ front ++ token ∷ more → length front ≡ place →
    take place (kinds (before ++ rest)) ≡ kinds front
words_to before rest front token more place are long =
    ap (λ (l : List Token). take place (kinds (l ++ rest))) are
    ∙ (ap (λ (l : List Token). take place (kinds l)) (append_assoc front (token ∷ more) rest)
    ∙ (ap (λ (n : ℕ). take n (kinds (front ++ token ∷ (more ++ rest)))) (sym long)
    ∙ words_front front (token ∷ (more ++ rest))))

pub words_through : (before rest front : List Token) (token : Token) (more : List Token)
    (place : ℕ) → before ≡ front ++ token ∷ more → length front ≡ place →
    take (suc place) (kinds (before ++ rest)) ≡ kinds (front ++ token ∷ [])
words_through before rest front token more place are long =
    ap (λ (l : List Token). take (suc place) (kinds (l ++ rest))) are
    ∙ (ap (λ (l : List Token). take (suc place) (kinds l)) (append_assoc front (token ∷ more) rest)
    ∙ (ap (λ (n : ℕ). take (suc n) (kinds (front ++ token ∷ (more ++ rest)))) (sym long)
    ∙ words_with front (more ++ rest) token))

-- Faults that a strict way doesn't pass.

form_passed : (most : ℕ) (before rest : List Token) (state : State) →
    ModuleLeads true most 0 mdl_wanted before state → (place : ℕ) → place < length before →
    (text : List ℕ) → FormStands (before ++ rest) place text → ⊥
form_passed most before rest state leads place less text form =
    let (more, are) = front_within before rest form.before form.token form.rest
    (omega (arith, less, form.long)) form.are in
    by more (passes_token true most before form.before form.token more state are leads)
  where
    by : (more : List Token) → Passes true most form.before form.token more state → ⊥
    by more passed =
        subst IsOnMade (sym (taken_on true most (length form.before) passed.mid form.token
        passed.then_state passed.is) ∙ left_out_takes true most most form.before form.token
        passed.mid text passed.leads form.form) tt

stray_passed : (most : ℕ) → 1 ≤ most → (before rest : List Token) (state : State) →
    ModuleLeads true most 0 mdl_wanted before state → (place : ℕ) → place < length before →
    IsStraySize (kinds (before ++ rest)) place → ⊥
stray_passed most some before rest state leads place less stray =
    let (front, token, more, are, long, kind_is) = token_within before rest place
    (mark_word (codes "<")) less stray.size.there in
    by front token more are long (passes_token true most before front token more state are leads)
  where
    by : (front : List Token) (token : Token) (more : List Token) → before ≡ front ++ token ∷ more →
        length front ≡ place → Passes true most front token more state → ⊥
    by front token more are long passed =
        stray.none most (subst (λ (w : List Kind). OpensIn WritesAccepted w most)
        (sym (words_through before rest front token more place are long))
        (accepted_leads_open module_plain most some (front ++ token ∷ []) passed.then_state
        passed.with_token))

statement_passed : (most : ℕ) (before rest : List Token) (state : State) →
    ModuleLeads true most 0 mdl_wanted before state → (place : ℕ) → place < length before →
    IsStatementBody (kinds (before ++ rest)) place → ⊥
statement_passed most before rest state leads place less body =
    let (front, token, more, are, long, kind_is) = token_within before rest place
    (mark_word (codes "{")) less body.there in
    by front token more are long kind_is
    (passes_token true most before front token more state are leads)
  where
    by : (front : List Token) (token : Token) (more : List Token) → before ≡ front ++ token ∷ more →
        length front ≡ place → token.kind ≡ mark_word (codes "{") →
        Passes true most front token more state → ⊥
    by front token more are long kind_is passed =
        subst IsOnMade (sym (taken_on true most (length front) passed.mid token passed.then_state
        passed.is) ∙ head_statement most (length front) passed.mid token
        (head_reached true most front passed.mid passed.leads
        (subst EndsHead (words_to before rest front token more place are long) body.head))
        (record { is = kind_is })) tt

version_refused : (most number at : ℕ) (token : Token) (text : List ℕ) (double : Bool) →
    token.kind ≡ kind.Real text double → is_version text double ≡ false →
    IsOnMade (module_taken true most number (version_wanted at) token) → ⊥
version_refused most number at token text double kind_is none made =
    subst (λ (test : Bool). IsOnMade (if test then on (version_read at (record {
      text = text;
      double = double;
      span = from_to token.at token.end;
    })) else states.other_version)) none
    (subst (λ (word : Kind). IsOnMade (permitted true (module_sort_step most number
    (version_wanted at) (sort_of word) (from_to token.at token.end)))) kind_is made)

first_state : (most : ℕ) (token : Token) (after : State) → token.kind ≡ name_word (codes "mdl") →
    module_step most 0 mdl_wanted token ≡ on after → after ≡ version_wanted token.at
first_state most token after kind_is is =
    sym (ap (state_in after) (sym (ap (λ (word : Kind). module_sort_step most 0 mdl_wanted
    (sort_of word) (from_to token.at token.end)) kind_is) ∙ is))

version_passed : (most : ℕ) (before rest : List Token) (state : State) →
    ModuleLeads true most 0 mdl_wanted before state → (place : ℕ) → place < length before →
    IsOtherVersion (kinds (before ++ rest)) place → ⊥
version_passed most [] rest state leads place less other = absurd (omega (arith, less))
version_passed most (one ∷ []) rest state leads place less other =
    absurd (omega (arith, less, other.behind))
version_passed most (one ∷ two ∷ before) rest state
    (next _ _ first _ _ _ is (next _ _ second _ _ _ also leads)) place less other =
    version_refused most 1 one.at two other.text other.double
    (same_Some two.kind (kind.Real other.text other.double)
    (subst (λ (n : ℕ). slice_get (kinds ((one ∷ two ∷ before) ++ rest)) n
    ≡ Some (kind.Real other.text other.double)) other.behind other.there)) other.other
    (subst (λ (s : State). IsOnMade (module_taken true most 1 s two))
    (first_state most one first (same_Some one.kind (name_word (codes "mdl")) other.word)
    (taken_on true most 0 mdl_wanted one first is)) (subst IsOnMade (sym also) tt))

-- The size of a head whose body a strict way has begun.

there_is : (size : Option ℕ) → IsThere size → (p : ℕ) × (size ≡ Some p)
there_is (Some p) there = (p, refl)
there_is None there = absurd there

size_cases : (after : State) → IsSizeBegun after → MayGoOn true after →
    ((p : ℕ) × (size_in after ≡ Some p)) ⊎ InAnnotation after
size_cases (within begun (fronting (of_parameter (of_function fronted) parameters) mode)) is may =
    inl (there_is fronted.deferred is.1)
size_cases (within begun (fronting (of_parameter (of_annotation named) parameters) mode)) is may =
    inr tt
size_cases (within begun (fronting of mode)) is may = absurd (false≢true (sym may ∙ is))
size_cases (within begun (expression (in_function_body fronted parameters frequency annotations)
    mode frames)) is may =
    absurd (false≢true (sym may.0 ∙ is))
size_cases (within begun (expression site mode frames)) is may =
    absurd (false≢true (sym may ∙ is))
size_cases state is may = absurd is

body_refused : (most : ℕ) (front : List Token) (equal_token : Token) (mid : State) (p : ℕ) →
    IsHead mid → IsMark equal_token (codes "=") → size_in mid ≡ Some p →
    IsOnMade (module_taken true most (length front) mid equal_token) → ⊥
body_refused most front equal_token mid p head mark size made =
    let (begun, fronted, parameters, frequency, annotations, same, is) =
    head_body most (length front) mid equal_token head mark in
    by begun fronted parameters frequency annotations (same ∙ size)
    (subst (λ (o : Outcome). IsOnMade (permitted true o)) is made)
  where
    by : (begun : Begun) (fronted : Fronted) (parameters : List Parameter)
        (frequency : Option Freq) (annotations : Option (List Annotation)) →
        fronted.deferred ≡ Some p → IsOnMade (judged (within begun (expression
        (in_function_body fronted parameters frequency annotations) wanted []))
        (before_body fronted.deferred)) → ⊥
    by begun fronted parameters frequency annotations same made =
        subst (λ (size : Option ℕ). IsOnMade (judged (within begun (expression
        (in_function_body fronted parameters frequency annotations) wanted []))
        (before_body size))) same made

-- the parts of the tokens around `<` and `=`
head_size : (most : ℕ) → 1 ≤ most → (front : List Token) (bracket less : Token)
    (more behind : List Token) (equal_token : Token) (mid : State) (last : State) →
    IsMark bracket (codes "[") → IsMark less (codes "<") → IsMark equal_token (codes "=") →
    ModuleLeads true most 0 mdl_wanted ((front ++ bracket ∷ []) ++ less ∷ more) mid →
    module_taken true most (length ((front ++ bracket ∷ []) ++ less ∷ more)) mid equal_token
    ≡ on last → IsHead mid →
    ((whole : ℕ) → length (front ++ bracket ∷ []) < whole →
    whole ≤ length ((front ++ bracket ∷ []) ++ less ∷ more) →
    IsWhole (kinds (((front ++ bracket ∷ []) ++ less ∷ more) ++ behind)) whole → ⊥) → ⊥
head_size most some front bracket less more behind equal_token mid last opens lesser begins leads is
    head same_head =
    by (passes_token true most ((front ++ bracket ∷ []) ++ less ∷ more) (front ++ bracket ∷ []) less
    more mid refl leads)
  where
    whole_none : WholeBehind true most (length ((front ++ bracket ∷ []) ++ less ∷ []))
        (((front ++ bracket ∷ []) ++ less ∷ []) ++ more) → ⊥
    whole_none (whole, above, is_whole) =
        let one : IsWholeAt true most ((front ++ bracket ∷ []) ++ less ∷ more) whole =
        subst (λ (l : List Token). IsWholeAt true most l whole)
        (append_assoc (front ++ bracket ∷ []) (less ∷ []) more) is_whole in
        same_head whole (omega (arith, above, length-append (front ++ bracket ∷ []) (less ∷ [])))
        one.within_them
        (whole_stands true most some ((front ++ bracket ∷ []) ++ less ∷ more) behind whole one)

    kept : (p : ℕ) → (size_in mid ≡ Some p) ⊎ WholeBehind true most
        (length ((front ++ bracket ∷ []) ++ less ∷ []))
        (((front ++ bracket ∷ []) ++ less ∷ []) ++ more) → ⊥
    kept p (inl size) =
        body_refused most ((front ++ bracket ∷ []) ++ less ∷ more) equal_token mid p head begins
        size (subst IsOnMade (sym is) tt)
    kept p (inr whole) = whole_none whole

    noted : InAnnotation mid ⊎ WholeBehind true most
        (length ((front ++ bracket ∷ []) ++ less ∷ []))
        (((front ++ bracket ∷ []) ++ less ∷ []) ++ more) → ⊥
    noted (inl inside) = head_apart mid inside head
    noted (inr whole) = whole_none whole

    on_from : (passed : Passes true most (front ++ bracket ∷ []) less more mid) →
        ((p : ℕ) × (size_in passed.then_state ≡ Some p)) ⊎ InAnnotation passed.then_state → ⊥
    on_from passed (inl (p, size)) =
        kept p (size_kept_way true most ((front ++ bracket ∷ []) ++ less ∷ []) more
        passed.then_state mid p passed.with_token size passed.behind)
    on_from passed (inr inside) =
        noted (head_kept_way true most ((front ++ bracket ∷ []) ++ less ∷ []) more
        passed.then_state mid passed.with_token inside passed.behind)

    by : Passes true most (front ++ bracket ∷ []) less more mid → ⊥
    by passed =
        on_from passed (size_cases passed.then_state
        (size_begun true most front bracket less passed.mid passed.then_state passed.leads opens
        lesser (taken_on true most (length (front ++ bracket ∷ [])) passed.mid less
        passed.then_state passed.is))
        (module_goes_on most ((front ++ bracket ∷ []) ++ less ∷ []) passed.then_state
        passed.with_token))

-- tokens behind which one more is: those to the place before the last
pub last_at : (before : List Token) (place : ℕ) (word : Kind) → suc place ≡ length before →
    (rest : List Token) → slice_get (kinds (before ++ rest)) place ≡ Some word →
    (front : List Token) × (token : Token) × (before ≡ front ++ token ∷ [])
    × (token.kind ≡ word)
last_at [] place word long rest is = absurd (omega (arith, long))
last_at (token ∷ []) zero word long rest is = ([], token, refl, same_Some token.kind word is)
last_at (token ∷ []) (suc place) word long rest is = absurd (omega (arith, long))
last_at (first ∷ second ∷ before) zero word long rest is = absurd (omega (arith, long))
last_at (first ∷ second ∷ before) (suc place) word long rest is =
    let (front, token, are, kind_is) = last_at (second ∷ before) place word (omega (arith, long))
    rest is in
    (first ∷ front, token, ap (λ l. first ∷ l) are, kind_is)

size_passed : (most : ℕ) → 1 ≤ most → (before rest : List Token) (state : State) →
    ModuleLeads true most 0 mdl_wanted before state → (place : ℕ) →
    (size : IsSizeOfHead most (kinds (before ++ rest)) place) → size.equals < length before → ⊥
size_passed most some before rest state leads place size less =
    let (front, token, more, are, long, kind_is) = token_within before rest size.equals
    (mark_word (codes "=")) less size.there in
    at_equals front token more are long kind_is
    (passes_token true most before front token more state are leads)
  where
    at_equals : (front : List Token) (token : Token) (more : List Token) →
        before ≡ front ++ token ∷ more → length front ≡ size.equals →
        token.kind ≡ mark_word (codes "=") → Passes true most front token more state → ⊥
    at_equals front token more are long kind_is passed =
        let (one, lesser, others, same, placed_at, less_is) = token_within front
        (token ∷ (more ++ rest)) place (mark_word (codes "<")) (omega (arith, size.behind, long))
        (ap (λ (l : List Token). slice_get (kinds l) place) (sym all) ∙ size.size.there) in
        at_less one lesser others same placed_at less_is
      where
        all : before ++ rest ≡ front ++ token ∷ (more ++ rest)
        all = ap (λ (l : List Token). l ++ rest) are ∙ append_assoc front (token ∷ more) rest

        head : IsHead passed.mid
        head = head_reached true most front passed.mid passed.leads
            (subst EndsHead (words_to before rest front token more size.equals are long) size.head)

        at_less : (one : List Token) (lesser : Token) (others : List Token) →
            front ≡ one ++ lesser ∷ others → length one ≡ place →
            lesser.kind ≡ mark_word (codes "<") → ⊥
        at_less one lesser others same placed_at less_is =
            let (own, bracket, own_is, bracket_is) = last_at one size.size.before
            (mark_word (codes "[")) (omega (arith, placed_at, size.size.behind))
            (lesser ∷ (others ++ token ∷ (more ++ rest)))
            (ap (λ (l : List Token). slice_get (kinds l) size.size.before)
            (sym (all ∙ (ap (λ (l : List Token). l ++ token ∷ (more ++ rest)) same
            ∙ append_assoc one (lesser ∷ others) (token ∷ (more ++ rest)))))
            ∙ size.size.bracket) in
            at_bracket own bracket own_is bracket_is
          where
            at_bracket : (own : List Token) (bracket : Token) → one ≡ own ++ bracket ∷ [] →
                bracket.kind ≡ mark_word (codes "[") → ⊥
            at_bracket own bracket own_is bracket_is =
                head_size most some own bracket lesser others (token ∷ (more ++ rest)) token
                passed.mid passed.then_state (record { is = bracket_is })
                (record { is = less_is }) (record { is = kind_is })
                (subst (λ (l : List Token). ModuleLeads true most 0 mdl_wanted l passed.mid) parts
                passed.leads)
                (subst (λ (l : List Token). module_taken true most (length l) passed.mid token
                ≡ on passed.then_state) parts passed.is) head
                (λ whole above below is. size.same_head whole
                (omega (arith, above, placed_at, ap length own_is))
                (omega (arith, below, long, ap length parts))
                (subst (λ (l : List Token). IsWhole (kinds l) whole)
                (sym (all ∙ ap (λ (l : List Token). l ++ token ∷ (more ++ rest)) parts)) is))
              where
                parts : front ≡ (own ++ bracket ∷ []) ++ lesser ∷ others
                parts = same ∙ ap (λ (l : List Token). l ++ lesser ∷ others) own_is

-- The law.

-- a size of a head, whose body doesn't begin before so many tokens
pub record LaterSize (most : ℕ) (words : List Kind) (place least : ℕ) : Type 0 where
  pub size : IsSizeOfHead most words place
  pub later : least ≤ size.equals

pub faults_passed : (most : ℕ) → 1 ≤ most → (before rest : List Token) (state : State) →
    ModuleLeads true most 0 mdl_wanted before state → (place : ℕ) → place < length before →
    IsNamedFault most (kinds (before ++ rest)) place →
    LaterSize most (kinds (before ++ rest)) place (length before)
faults_passed most some before rest state leads place less (too_deep deeper) =
    absurd (none_deep_before true most some before rest state leads place less deeper)
faults_passed most some before rest state leads place less (statement_body body) =
    absurd (statement_passed most before rest state leads place less body)
faults_passed most some before rest state leads place less (other_version other) =
    absurd (version_passed most before rest state leads place less other)
faults_passed most some before rest state leads place less (left_out text form) =
    by (form_by most (kinds (before ++ rest)) (before ++ rest) place text refl form)
  where
    sized : (size : IsSizeOfHead most (kinds (before ++ rest)) place) →
        (size.equals < length before) ⊎ (length before ≤ size.equals) →
        LaterSize most (kinds (before ++ rest)) place (length before)
    sized size (inl earlier) =
        absurd (size_passed most some before rest state leads place size earlier)
    sized size (inr later) = record { size = size; later = later }

    by : ((text ≡ codes "deferred-size") × (IsStraySize (kinds (before ++ rest)) place
        ⊎ IsSizeOfHead most (kinds (before ++ rest)) place)) ⊎ FormStands (before ++ rest) place
        text →
        LaterSize most (kinds (before ++ rest)) place (length before)
    by (inr stands) = absurd (form_passed most before rest state leads place less text stands)
    by (inl (same, inl stray)) =
        absurd (stray_passed most some before rest state leads place less stray)
    by (inl (same, inr size)) = sized size (order size.equals (length before))

-- Of two faults of modules at one place one excludes the other.
use Rattle.std.proofs.Common.{◌≡◌, ◌⊎◌, inl, inr, ◌∙◌, sym, ap, subst, refl, arith, ℕ, ◌≤◌}
use Rattle.std.proofs.Common.{◌<◌, Bool, true, false, List, [], ◌∷◌, ◌++◌, length, take, slice_get}
use Rattle.std.proofs.Common.{Some, codes, length-append}
use Rattle.std.proofs.lemmas.List.{append-nil}
use Rattle.std.proofs.lemmas.Option.{same_Some, slice_get_within}
use Rattle.mdl_lexer.specs.declared.token.Kind.{Kind}
use Rattle.mdl_lexer.specs.declared.token.Kind.TheVariants as kind
use Rattle.mdl_lexer.specs.declared.token.Token.{Token}
use Rattle.mdl_lexer.specs.Kinds.{mark_word}
use Rattle.mdl_syntax.specs.Modules.{ModuleTree}
use Rattle.expression_grammar.specs.Languages.{NoneBefore, IsDeferredSizeIn}
use Rattle.module_grammar.specs.ModuleFaults.{WritesModule, ModuleOpens, ModuleOpensTo, EndsHead}
use Rattle.module_grammar.specs.ModuleFaults.{IsNamedFault, IsTooDeep, IsStatementBody, IsOtherVersion}
use Rattle.module_grammar.specs.ModuleFaults.{IsLeftOutForm, IsStraySize, IsSizeOfHead, IsBadModule}
use Rattle.module_grammar.specs.ModuleFaults.{IsMost, too_deep, left_out, statement_body}
use Rattle.module_grammar.specs.ModuleFaults.{other_version}
use Rattle.module_grammar.specs.ModuleReadings.{IsModuleTree}
use Rattle.expression_grammar.specs.Readings.{kinds}
use Rattle.expression_grammar.specs.inside.Machine.{Sort, sort_of, opening_brace}
use Rattle.module_grammar.specs.inside.ModuleStates as states
use Rattle.module_grammar.specs.inside.ModuleMachine.{module_step}
use Rattle.module_grammar.specs.inside.ModuleStates.{State, Outcome, on, mdl_wanted}
use Rattle.module_grammar.specs.inside.ModuleLeads.{ModuleLeads, ModuleEnds}
use Rattle.module_grammar.specs.inside.ModuleForms.{LeftOutBy, FormStands}
use Rattle.expression_grammar.proofs.FaultLaws.{words_front, words_with, inside_length}
use Rattle.expression_grammar.proofs.PlaceLaws.{order, same_place, kinds_length, get_kind}
use Rattle.expression_grammar.proofs.LanguageLaws.{opens_earlier, opens_at, opens_to_higher}
use Rattle.module_grammar.proofs.ModuleTakenLaws.{taken_on}
use Rattle.module_grammar.proofs.ModuleFormPlaces.{form_by}
use Rattle.module_grammar.proofs.ModuleFormWords.{forms_once, form_no_less, form_no_brace}
use Rattle.module_grammar.proofs.ModuleLeftOutNever.{left_out_never}
use Rattle.module_grammar.proofs.ModuleHeadEnds.{head_statement}
use Rattle.module_grammar.proofs.ModuleHeadWays.{reached_last}
use Rattle.module_grammar.proofs.ModuleOpeningLaws.{modules_grow, module_ends_write, module_opens_lead}
use Rattle.module_grammar.proofs.ModuleOpeningLaws.{accepted_reads}
use Rattle.module_grammar.proofs.ModuleFaultLaws.{stopped_none, step_opens}
use Rattle.module_grammar.proofs.ModuleHeadWords.{head_reached}
use Rattle.module_grammar.proofs.ModulePassedLaws.{IsOnMade, LaterSize, faults_passed, last_at}
use Rattle.module_grammar.proofs.ModuleAheadLaws.{token_at}
use Rattle.module_grammar.proofs.ModuleFirstLaws.{version_opens}
use Rattle.module_grammar.proofs.ModuleFirstLaws.{same_division}
use Rattle.module_grammar.proofs.ModuleDeepLaws.{size_never_deep}

-- Words at a place.

abbrev IsBraceSort : Sort → Type 0
IsBraceSort opening_brace = Unit {0}
IsBraceSort sort = ⊥

abbrev IsRealWord : Kind → Type 0
IsRealWord (kind.Real text double) = Unit {0}
IsRealWord word = ⊥

same_word : (words : List Kind) (at : ℕ) (one other : Kind) → slice_get words at ≡ Some one →
    slice_get words at ≡ Some other → one ≡ other
same_word words at one other first second = same_Some one other (sym first ∙ second)

less_no_brace : mark_word (codes "<") ≡ mark_word (codes "{") → ⊥
less_no_brace same = subst IsBraceSort (sym (ap sort_of same)) tt

less_no_real : (text : List ℕ) (double : Bool) → mark_word (codes "<") ≡ kind.Real text double → ⊥
less_no_real text double same = subst IsRealWord (sym same) tt

-- the word of the token at a place
word_there : (tokens before rest : List Token) (token : Token) (at : ℕ) (word : Kind) →
    tokens ≡ before ++ token ∷ rest → length before ≡ at → slice_get (kinds tokens) at ≡ Some word →
    token.kind ≡ word
word_there tokens before rest token at word are long there =
    same_Some token.kind word (sym (get_kind before rest token)
    ∙ (ap (slice_get (kinds (before ++ token ∷ rest))) long
    ∙ (ap (λ (l : List Token). slice_get (kinds l) at) (sym are) ∙ there)))

-- the words through a place that open
opens_through : (tokens front more : List Token) (token : Token) (at most : ℕ) →
    tokens ≡ front ++ token ∷ more → length front ≡ at → ModuleOpensTo (kinds tokens) at most →
    ModuleOpens (kinds (front ++ token ∷ [])) most
opens_through tokens front more token at most are long to =
    subst (λ (w : List Kind). ModuleOpens w most) (words_with front more token)
    (opens_at WritesModule (kinds (front ++ token ∷ more)) (length front) most
    (inside_length front more token)
    (subst (λ (n : ℕ). ModuleOpensTo (kinds (front ++ token ∷ more)) n most) (sym long)
    (subst (λ (l : List Token). ModuleOpensTo (kinds l) at most) are to)))

-- What stops opens no further.

statement_closed : (tokens : List Token) (at higher : ℕ) → IsStatementBody (kinds tokens) at →
    ModuleOpensTo (kinds tokens) at higher → ⊥
statement_closed tokens at higher body to =
    let (front, token, more, are, long, kind_is) = token_at tokens at (mark_word (codes "{"))
    body.there in
    let (last, leads) = module_opens_lead higher (front ++ token ∷ [])
    (opens_through tokens front more token at higher are long to) in
    let (mid, first, is) = reached_last false higher last front token leads in
    subst IsOnMade (sym (taken_on false higher (length front) mid token last is)
    ∙ head_statement higher (length front) mid token (head_reached false higher front mid first
    (subst EndsHead (ap (λ (l : List Token). take at (kinds l)) are
    ∙ (ap (λ (n : ℕ). take n (kinds (front ++ token ∷ more))) (sym long)
    ∙ words_front front (token ∷ more))) body.head)) (record { is = kind_is })) tt

form_closed : (tokens : List Token) (at higher : ℕ) (text : List ℕ) → FormStands tokens at text →
    ModuleOpensTo (kinds tokens) at higher → ⊥
form_closed tokens at higher text form to =
    left_out_never higher form.before [] form.token text form.form
    (opens_through tokens form.before form.rest form.token at higher form.are form.long to)

-- Of two faults at one place.

-- a `<` behind `[` is no higher than the `[`
deep_size : (most : ℕ) → 1 ≤ most → (tokens : List Token) (at : ℕ) →
    IsTooDeep most (kinds tokens) at → NoneBefore (IsNamedFault most (kinds tokens)) at →
    IsDeferredSizeIn WritesModule (kinds tokens) at → ⊥
deep_size most some tokens at deeper none size =
    none size.before (omega (arith, size.behind)) (too_deep (record {
      opens = (
        deeper.opens.0,
        opens_earlier WritesModule (kinds tokens) size.before at
            deeper.opens.0 (omega (arith, size.behind)) deeper.opens.1,
      );
      high = λ to. by to (token_at tokens at (mark_word (codes "<")) size.there);
    }))
  where
    by : ModuleOpensTo (kinds tokens) size.before most →
        (front : List Token) × (token : Token) × (more : List Token)
        × (tokens ≡ front ++ token ∷ more) × (length front ≡ at)
        × (token.kind ≡ mark_word (codes "<")) → ⊥
    by to (front, token, more, are, long, kind_is) =
        at_bracket (last_at front size.before (mark_word (codes "["))
        (omega (arith, long, size.behind)) (token ∷ more)
        (ap (λ (l : List Token). slice_get (kinds l) size.before) (sym are) ∙ size.bracket))
      where
        stands : (limit : ℕ) → ModuleOpensTo (kinds tokens) at limit →
            ModuleOpensTo (kinds (front ++ token ∷ more)) (length front) limit
        stands limit up =
            subst (λ (n : ℕ). ModuleOpensTo (kinds (front ++ token ∷ more)) n limit) (sym long)
            (subst (λ (l : List Token). ModuleOpensTo (kinds l) at limit) are up)

        back : ModuleOpensTo (kinds (front ++ token ∷ more)) (length front) most →
            ModuleOpensTo (kinds tokens) at most
        back up =
            subst (λ (l : List Token). ModuleOpensTo (kinds l) at most) (sym are)
            (subst (λ (n : ℕ). ModuleOpensTo (kinds (front ++ token ∷ more)) n most) long up)

        made_so : (state : State) → ModuleLeads false most 0 mdl_wanted front state →
            (module_step most (length front) state token ≡ states.too_deep → ⊥) →
            (made : Outcome) → module_step most (length front) state token ≡ made → ⊥
        made_so state leads low (on after) is =
            deeper.high (back (inl (
              inside_length front more token,
              step_opens false most some front more token state after leads is,
            )))
        made_so state leads low states.too_deep is = low is
        made_so state leads low made is =
            stopped_none false most front more token state made leads is tt deeper.opens.0
            (stands deeper.opens.0 deeper.opens.1)

        at_bracket : (own : List Token) × (bracket : Token) × (front ≡ own ++ bracket ∷ [])
            × (bracket.kind ≡ mark_word (codes "[")) → ⊥
        at_bracket (own, bracket, own_is, bracket_is) =
            let (state, leads) = module_opens_lead most front
            (subst (λ (w : List Kind). ModuleOpens w most)
            (ap (λ (n : ℕ). take n (kinds tokens)) (sym size.behind)
            ∙ (ap (λ (l : List Token). take at (kinds l)) are
            ∙ (ap (λ (n : ℕ). take n (kinds (front ++ token ∷ more))) (sym long)
            ∙ words_front front (token ∷ more))))
            (opens_at WritesModule (kinds tokens) size.before most
            (slice_get_within (kinds tokens) size.before (mark_word (codes "[")) size.bracket) to))
            in
            made_so state leads (λ high. size_never_deep false most own bracket token state
            (subst (λ (l : List Token). ModuleLeads false most 0 mdl_wanted l state) own_is leads)
            (record { is = bracket_is }) (record { is = kind_is })
            (subst (λ (l : List Token). module_step most (length l) state token ≡ states.too_deep)
            own_is high)) (module_step most (length front) state token) refl

abbrev Form : ℕ → List Token → ℕ → List ℕ → Type 0
Form most tokens at text =
    ((text ≡ codes "deferred-size") × (IsStraySize (kinds tokens) at
    ⊎ IsSizeOfHead most (kinds tokens) at)) ⊎ FormStands tokens at text

form_in : (most : ℕ) (tokens : List Token) (at : ℕ) (text : List ℕ) →
    IsLeftOutForm most (kinds tokens) at text → Form most tokens at text
form_in most tokens at text form = form_by most (kinds tokens) tokens at text refl form

pub deep_left : (most : ℕ) → 1 ≤ most → (tokens : List Token) (text : List ℕ) (at : ℕ) →
    IsTooDeep most (kinds tokens) at → NoneBefore (IsNamedFault most (kinds tokens)) at →
    IsLeftOutForm most (kinds tokens) at text → ⊥
deep_left most some tokens text at deeper none form = by (form_in most tokens at text form)
  where
    by : Form most tokens at text → ⊥
    by (inr stands) = form_closed tokens at deeper.opens.0 text stands deeper.opens.1
    by (inl (same, inl stray)) = deep_size most some tokens at deeper none stray.size
    by (inl (same, inr size)) = deep_size most some tokens at deeper none size.size

pub deep_statement : (most : ℕ) (tokens : List Token) (at : ℕ) → IsTooDeep most (kinds tokens) at →
    NoneBefore (IsNamedFault most (kinds tokens)) at → IsStatementBody (kinds tokens) at → ⊥
deep_statement most tokens at deeper none body =
    statement_closed tokens at deeper.opens.0 body deeper.opens.1

pub deep_version : (most : ℕ) → 1 ≤ most → (tokens : List Token) (at : ℕ) →
    IsTooDeep most (kinds tokens) at → NoneBefore (IsNamedFault most (kinds tokens)) at →
    IsOtherVersion (kinds tokens) at → ⊥
deep_version most some tokens at deeper none other =
    deeper.high (opens_to_higher WritesModule modules_grow (kinds tokens) at 1 most some
    (version_opens tokens at other))

pub left_statement : (most : ℕ) (tokens : List Token) (text : List ℕ) (at : ℕ) →
    IsLeftOutForm most (kinds tokens) at text → NoneBefore (IsNamedFault most (kinds tokens)) at →
    IsStatementBody (kinds tokens) at → ⊥
left_statement most tokens text at form none body = by (form_in most tokens at text form)
  where
    by : Form most tokens at text → ⊥
    by (inr stands) =
        form_no_brace stands.before stands.token text stands.form (record {
          is = word_there tokens stands.before stands.rest stands.token at (mark_word (codes "{"))
              stands.are stands.long body.there;
        })
    by (inl (same, inl stray)) =
        less_no_brace (same_word (kinds tokens) at _ _ stray.size.there body.there)
    by (inl (same, inr size)) =
        less_no_brace (same_word (kinds tokens) at _ _ size.size.there body.there)

pub left_version : (most : ℕ) (tokens : List Token) (text : List ℕ) (at : ℕ) →
    IsLeftOutForm most (kinds tokens) at text → NoneBefore (IsNamedFault most (kinds tokens)) at →
    IsOtherVersion (kinds tokens) at → ⊥
left_version most tokens text at form none other = by (form_in most tokens at text form)
  where
    by : Form most tokens at text → ⊥
    by (inr stands) = form_closed tokens at 1 text stands (version_opens tokens at other)
    by (inl (same, inl stray)) =
        less_no_real other.text other.double (same_word (kinds tokens) at _ _ stray.size.there
        other.there)
    by (inl (same, inr size)) =
        less_no_real other.text other.double (same_word (kinds tokens) at _ _ size.size.there
        other.there)

pub statement_version : (most : ℕ) (tokens : List Token) (at : ℕ) → IsStatementBody (kinds tokens)
    at →
    NoneBefore (IsNamedFault most (kinds tokens)) at → IsOtherVersion (kinds tokens) at → ⊥
statement_version most tokens at body none other =
    statement_closed tokens at 1 body (version_opens tokens at other)

pub left_once : (most : ℕ) (tokens : List Token) (at : ℕ) (one other : List ℕ) →
    IsLeftOutForm most (kinds tokens) at one → IsLeftOutForm most (kinds tokens) at other →
    one ≡ other
left_once most tokens at one other first second =
    by (form_in most tokens at one first) (form_in most tokens at other second)
  where
    no_less : (text : List ℕ) → FormStands tokens at text →
        slice_get (kinds tokens) at ≡ Some (mark_word (codes "<")) → ⊥
    no_less text stands there =
        form_no_less stands.before stands.token text stands.form (record {
          is = word_there tokens stands.before stands.rest stands.token at (mark_word (codes "<"))
              stands.are stands.long there;
        })

    less_in : IsStraySize (kinds tokens) at ⊎ IsSizeOfHead most (kinds tokens) at →
        slice_get (kinds tokens) at ≡ Some (mark_word (codes "<"))
    less_in (inl stray) = stray.size.there
    less_in (inr size) = size.size.there

    by : Form most tokens at one → Form most tokens at other → one ≡ other
    by (inl (same, size)) (inl (also, second)) = same ∙ sym also
    by (inl (same, size)) (inr stands) = absurd (no_less other stands (less_in size))
    by (inr stands) (inl (also, size)) = absurd (no_less one stands (less_in size))
    by (inr stands) (inr others) =
        let (before_is, token_is) = same_division others.before stands.before others.token
        stands.token others.rest stands.rest (others.long ∙ sym stands.long)
        (sym others.are ∙ stands.are) in
        forms_once stands.before stands.token one other stands.form
        (subst (λ (t : Token). LeftOutBy stands.before t other) token_is
        (subst (λ (l : List Token). LeftOutBy l others.token other) before_is others.form))

-- Trees and bad syntax.

pub tree_ends : (most : ℕ) (tokens : List Token) (tree : ModuleTree) → IsModuleTree most tokens tree
    →
    ModuleEnds true most 0 mdl_wanted tokens tree
tree_ends most tokens tree is =
    subst (λ (t : ModuleTree). ModuleEnds true most 0 mdl_wanted tokens t) is.places
    (accepted_reads most tree tokens is.accepted is.writes)

tree_opens : (most : ℕ) → 1 ≤ most → (tokens : List Token) (tree : ModuleTree) →
    IsModuleTree most tokens tree → (place : ℕ) → place ≤ length (kinds tokens) →
    ModuleOpensTo (kinds tokens) place most
tree_opens most some tokens tree is place fits =
    opens_earlier WritesModule (kinds tokens) place (length (kinds tokens)) most fits
    (inr (refl, module_ends_write true most some tokens tree (tree_ends most tokens tree is)))

pub tree_not_bad : (most : ℕ) → 1 ≤ most → (tokens : List Token) (tree : ModuleTree) →
    IsModuleTree most tokens tree → (at : ℕ) → IsBadModule most (kinds tokens) at → ⊥
tree_not_bad most some tokens tree is at fault =
    fault.none most (tree_opens most some tokens tree is at fault.within)

place_fits : (words : List Kind) (at most : ℕ) → ModuleOpensTo words at most → at ≤ length words
place_fits words at most (inl (inside, opens)) = omega (arith, inside)
place_fits words at most (inr (behind, whole)) = omega (arith, behind)

pub tree_not_named : (most : ℕ) → 1 ≤ most → (tokens : List Token) (tree : ModuleTree) →
    IsModuleTree most tokens tree → (at : ℕ) → IsNamedFault most (kinds tokens) at → ⊥
tree_not_named most some tokens tree is at fault =
    by fault (order at (length tokens))
  where
    led : ModuleEnds true most 0 mdl_wanted tokens tree
    led = tree_ends most tokens tree is

    inside : at < length tokens → IsNamedFault most (kinds tokens) at → ⊥
    inside less fault =
        later (faults_passed most some tokens [] led.last led.leads at less
        (subst (λ (l : List Token). IsNamedFault most (kinds l) at) (sym (append-nil tokens))
        fault))
      where
        later : LaterSize most (kinds (tokens ++ [])) at (length tokens) → ⊥
        later size = omega (
          arith,
          size.later,
          slice_get_within (kinds (tokens ++ [])) size.size.equals (mark_word (codes "="))
              size.size.there,
          kinds_length (tokens ++ []),
          length-append tokens [],
        )

    stops : (word : Kind) → slice_get (kinds tokens) at ≡ Some word → length tokens ≤ at → ⊥
    stops word there behind = omega (
      arith,
      slice_get_within (kinds tokens) at word there,
      behind,
      kinds_length tokens,
    )

    form_stops : (text : List ℕ) → length tokens ≤ at → Form most tokens at text → ⊥
    form_stops text behind (inr stands) = omega (
      arith,
      behind,
      ap length stands.are,
      length-append stands.before (stands.token ∷ stands.rest),
      stands.long,
    )
    form_stops text behind (inl (same, inl stray)) = stops _ stray.size.there behind
    form_stops text behind (inl (same, inr size)) = stops _ size.size.there behind

    by : IsNamedFault most (kinds tokens) at → (at < length tokens) ⊎ (length tokens ≤ at) → ⊥
    by own (inl less) = inside less own
    by (too_deep deeper) (inr behind) =
        deeper.high (tree_opens most some tokens tree is at
        (place_fits (kinds tokens) at deeper.opens.0 deeper.opens.1))
    by (left_out text form) (inr behind) = form_stops text behind (form_in most tokens at text form)
    by (statement_body body) (inr behind) = stops _ body.there behind
    by (other_version other) (inr behind) = stops _ other.there behind

pub bad_once : (most : ℕ) (words : List Kind) (one other : ℕ) → IsBadModule most words one →
    IsBadModule most words other → one ≡ other
bad_once most words one other first second =
    same_place one other (λ less. let (higher, to) = second.before one less in first.none higher to)
    (λ less. let (higher, to) = first.before other less in second.none higher to)

most_bound : (words : List Kind) (one other : ℕ) → IsMost words one → IsMost words other →
    one ≤ other
most_bound words one other (inl zero_is, all) (also, others) = omega (arith, zero_is)
most_bound words one other (inr is, all) (also, others) = others one is

pub most_once : (words : List Kind) (one other : ℕ) → IsMost words one → IsMost words other →
    one ≡ other
most_once words one other first second =
    omega (arith, most_bound words one other first second, most_bound words other one second first)

pub named_once : (most : ℕ) (words : List Kind) (one other : ℕ) → IsNamedFault most words one →
    NoneBefore (IsNamedFault most words) one → IsNamedFault most words other →
    NoneBefore (IsNamedFault most words) other → one ≡ other
named_once most words one other first none second nothing =
    same_place one other (λ less. nothing one less first) (λ less. none other less second)

-- two faults that exclude each other at one place are never both first
pub never_both : (most : ℕ) (words : List Kind) (One Other : ℕ → Type 0) →
    ((at : ℕ) → One at → IsNamedFault most words at) →
    ((at : ℕ) → Other at → IsNamedFault most words at) →
    ((at : ℕ) → One at → NoneBefore (IsNamedFault most words) at → Other at → ⊥) →
    (one other : ℕ) → One one × NoneBefore (IsNamedFault most words) one →
    Other other × NoneBefore (IsNamedFault most words) other → ⊥
never_both most words One Other names also apart one other (first, none) (second, nothing) =
    apart one first none (subst Other (sym (named_once most words one other (names one first) none
    (also other second) nothing)) second)

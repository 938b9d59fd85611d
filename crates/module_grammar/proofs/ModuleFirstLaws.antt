-- Where a strict way stops no fault has a name before.
use Rattle.std.proofs.Common.{◌≡◌, ◌⊎◌, inl, inr, ◌∙◌, sym, ap, subst, refl, arith, ℕ, suc}
use Rattle.std.proofs.Common.{◌≤◌}
use Rattle.std.proofs.Common.{◌<◌, Bool, true, false, List, [], ◌∷◌, ◌++◌, length, take, slice_get}
use Rattle.std.proofs.Common.{Some, codes, length-append}
use Rattle.std.proofs.lemmas.List.{append_assoc}
use Rattle.std.proofs.lemmas.Option.{same_Some, none-some, slice_get_within}
use Rattle.mdl_lexer.specs.declared.token.Kind.{Kind}
use Rattle.mdl_lexer.specs.declared.token.Kind.TheVariants as kind
use Rattle.mdl_lexer.specs.declared.token.Token.{Token}
use Rattle.mdl_lexer.specs.Kinds.{mark_word, name_word}
use Rattle.mdl_syntax.specs.AcceptedModules.{module_height}
use Rattle.expression_grammar.specs.Languages.{NoneBefore}
use Rattle.module_grammar.specs.ModuleFaults.{WritesModule, ModuleOpens, ModuleOpensTo, EndsHead}
use Rattle.module_grammar.specs.ModuleFaults.{IsNamedFault, IsTooDeep, IsWhole, IsStatementBody}
use Rattle.module_grammar.specs.ModuleFaults.{IsOtherVersion, IsStraySize, IsSizeOfHead}
use Rattle.module_grammar.specs.ModuleFaults.{too_deep, left_out, statement_body, other_version}
use Rattle.expression_grammar.specs.Readings.{kinds}
use Rattle.expression_grammar.specs.inside.Machine.{Sort, sort_of, from_to, equals}
use Rattle.module_grammar.specs.inside.ModuleStates.{Begun, Position, State, Outcome, on, wrong}
use Rattle.module_grammar.specs.inside.ModuleStates.{mdl_wanted, within, item_wanted, version_wanted}
use Rattle.module_grammar.specs.inside.ModuleMachine.{module_step}
use Rattle.module_grammar.specs.inside.ModuleStates.{version_read}
use Rattle.module_grammar.specs.inside.ModuleMachine.{module_sort_step, verdict_in, refused_here}
use Rattle.module_grammar.specs.inside.ModuleLeads.{ModuleLeads, here, next}
use Rattle.module_grammar.specs.inside.ModuleHeads.{size_in, IsItem}
use Rattle.module_grammar.specs.inside.ModuleForms.{LeftOutBy, FormStands}
use Rattle.expression_grammar.proofs.KindLaws.{same_head, same_tail}
use Rattle.expression_grammar.proofs.FaultLaws.{words_front}
use Rattle.expression_grammar.proofs.PlaceLaws.{order, less_or_same, get_kind, kinds_length}
use Rattle.expression_grammar.proofs.LanguageLaws.{opens_earlier, opens_before}
use Rattle.module_grammar.proofs.ModuleFormPlaces.{form_by}
use Rattle.module_grammar.proofs.ModuleLeftOutLaws.{left_out_takes}
use Rattle.module_grammar.proofs.ModuleHeadEnds.{head_statement}
use Rattle.module_grammar.proofs.ModuleHeadKinds.{InAnnotation, MayStand}
use Rattle.module_grammar.proofs.ModuleHeadLaws.{size_kept, head_kept, head_apart}
use Rattle.module_grammar.proofs.ModuleHeadWays.{reached_may}
use Rattle.module_grammar.proofs.ModuleReachedSteps.{ComesTo, PositionComes}
use Rattle.module_grammar.proofs.ModuleReachedPositions.{sort_comes}
use Rattle.module_grammar.proofs.ModuleReachedLaws.{module_reached}
use Rattle.module_grammar.proofs.ModuleOpeningLaws.{module_leads_open}
use Rattle.module_grammar.proofs.ModuleFaultLaws.{module_step_leads}
use Rattle.module_grammar.proofs.ModuleHeadWords.{head_reached}
use Rattle.module_grammar.proofs.ModulePassedLaws.{LaterSize, faults_passed}
use Rattle.module_grammar.proofs.ModuleAheadLaws.{HeadAhead, head_ahead, ahead_opens, no_head_behind}
use Rattle.module_grammar.proofs.ModuleVerdictLaws.{IsDeferredAt, refused_cases, body_started}
use Rattle.module_grammar.proofs.ModuleVerdictLaws.{IsBodyAt}
use Rattle.module_grammar.proofs.ModuleVariantSteps.{PastVariant, variant_kept, variant_apart}
use Rattle.module_grammar.proofs.ModuleSizeLaws.{size_known}

abbrev IsWrongMade : Outcome → Type 0
IsWrongMade wrong = Unit {0}
IsWrongMade made = ⊥

-- a division of tokens is known by its length
pub same_division : (before front : List Token) (token other : Token) (rest behind : List Token) →
    length before ≡ length front → before ++ token ∷ rest ≡ front ++ other ∷ behind →
    (before ≡ front) × (token ≡ other)
same_division [] [] token other rest behind long same =
    (refl, same_head token other rest behind same)
same_division [] (one ∷ front) token other rest behind long same = absurd (omega (arith, long))
same_division (one ∷ before) [] token other rest behind long same = absurd (omega (arith, long))
same_division (one ∷ before) (two ∷ front) token other rest behind long same =
    let (are, is) = same_division before front token other rest behind (omega (arith, long))
    (same_tail one two (before ++ token ∷ rest) (front ++ other ∷ behind) same) in (
      ap (λ (t : Token). t ∷ before) (same_head one two (before ++ token ∷ rest)
          (front ++ other ∷ behind) same) ∙ ap (λ l. two ∷ l) are,
      is,
    )

-- How far the words open where a fault has a name.

-- behind words that open, a token that is a fault itself
pub record FaultStops (tokens : List Token) (place : ℕ) : Type 0 where
  pub inside : place < length (kinds tokens)
  pub opens : (higher : ℕ) × ModuleOpens (take place (kinds tokens)) higher
  pub stops : (strict : Bool) (most : ℕ) (before rest : List Token) (token : Token)
      (state : State) → tokens ≡ before ++ token ∷ rest → length before ≡ place →
      ModuleLeads strict most 0 mdl_wanted before state →
      module_step most (length before) state token ≡ wrong → ⊥

abbrev pub FaultOpens : List Token → ℕ → Type 0
FaultOpens tokens place =
    ((higher : ℕ) × ModuleOpensTo (kinds tokens) place higher) ⊎ FaultStops tokens place

statement_opens : (tokens : List Token) (place : ℕ) → IsStatementBody (kinds tokens) place →
    FaultStops tokens place
statement_opens tokens place body = record {
  inside = slice_get_within (kinds tokens) place (mark_word (codes "{")) body.there;
  opens = (
    module_height body.head.tree,
    record {
      rest = mark_word (codes ";") ∷ [];
      whole = record {
        tree = body.head.tree;
        is = body.head.is;
        low = omega arith;
        writes = body.head.writes;
      };
    },
  );
  stops = stops;
}
  where
    stops : (strict : Bool) (most : ℕ) (before rest : List Token) (token : Token)
        (state : State) → tokens ≡ before ++ token ∷ rest → length before ≡ place →
        ModuleLeads strict most 0 mdl_wanted before state →
        module_step most (length before) state token ≡ wrong → ⊥
    stops strict most before rest token state are long leads is =
        subst IsWrongMade (sym (sym (head_statement most (length before) state token
        (head_reached strict most before state leads
        (subst EndsHead (ap (λ (l : List Token). take place (kinds l)) are
        ∙ (ap (λ (n : ℕ). take n (kinds (before ++ token ∷ rest))) (sym long)
        ∙ words_front before (token ∷ rest))) body.head))
        (record {
          is = same_Some token.kind (mark_word (codes "{")) (sym (get_kind before rest token)
              ∙ (ap (slice_get (kinds (before ++ token ∷ rest))) long
              ∙ (ap (λ (l : List Token). slice_get (kinds l) place) (sym are) ∙ body.there)));
        })) ∙ is)) tt

form_opens : (tokens : List Token) (place : ℕ) (text : List ℕ) → FormStands tokens place text →
    FaultStops tokens place
form_opens tokens place text form = record {
  inside = omega (
    arith,
    kinds_length tokens,
    ap length form.are,
    length-append form.before (form.token ∷ form.rest),
    form.long,
  );
  opens = (
    form.opens.0,
    subst (λ (w : List Kind). ModuleOpens w form.opens.0)
        (sym (ap (λ (l : List Token). take place (kinds l)) form.are
        ∙ (ap (λ (n : ℕ). take n (kinds (form.before ++ form.token ∷ form.rest))) (sym form.long)
        ∙ words_front form.before (form.token ∷ form.rest)))) form.opens.1,
  );
  stops = stops;
}
  where
    stops : (strict : Bool) (most : ℕ) (before rest : List Token) (token : Token)
        (state : State) → tokens ≡ before ++ token ∷ rest → length before ≡ place →
        ModuleLeads strict most 0 mdl_wanted before state →
        module_step most (length before) state token ≡ wrong → ⊥
    stops strict most before rest token state are long leads is =
        let (same, token_is) = same_division before form.before token form.token rest form.rest
        (long ∙ sym form.long) (sym are ∙ form.are) in
        subst IsWrongMade (sym (sym (left_out_takes strict most most before token state text leads
        (subst (λ (t : Token). LeftOutBy before t text) (sym token_is)
        (subst (λ (l : List Token). LeftOutBy l form.token text) (sym same) form.form))) ∙ is)) tt

pub version_opens : (tokens : List Token) (place : ℕ) → IsOtherVersion (kinds tokens) place →
    ModuleOpensTo (kinds tokens) place 1
version_opens [] place other = absurd (none-some _ other.word)
version_opens (one ∷ []) place other =
    absurd (none-some _ (subst (λ (n : ℕ). slice_get (kinds (one ∷ [])) n
    ≡ Some (kind.Real other.text other.double)) other.behind other.there))
version_opens (one ∷ two ∷ tokens) place other =
    subst (λ (n : ℕ). ModuleOpensTo (kinds (one ∷ two ∷ tokens)) n 1) (sym other.behind)
    (inl (
      omega arith,
      module_leads_open false 1 (omega arith) (one ∷ two ∷ []) _
          (next 0 mdl_wanted (version_wanted one.at) _ one (two ∷ [])
          (ap (λ (word : Kind). module_sort_step 1 0 mdl_wanted (sort_of word) (from_to one.at one.end))
          (same_Some one.kind (name_word (codes "mdl")) other.word))
          (next 1 (version_wanted one.at) (version_read one.at (record {
            text = other.text;
            double = other.double;
            span = from_to two.at two.end;
          })) _ two []
          (ap (λ (word : Kind). module_sort_step 1 1 (version_wanted one.at) (sort_of word)
          (from_to two.at two.end))
          (same_Some two.kind (kind.Real other.text other.double)
          (subst (λ (n : ℕ). slice_get (kinds (one ∷ two ∷ tokens)) n
          ≡ Some (kind.Real other.text other.double)) other.behind other.there)))
          (here 2 _))),
    ))

pub fault_opens : (most : ℕ) (tokens : List Token) (place : ℕ) →
    IsNamedFault most (kinds tokens) place → FaultOpens tokens place
fault_opens most tokens place (too_deep deeper) = inl deeper.opens
fault_opens most tokens place (statement_body body) = inr (statement_opens tokens place body)
fault_opens most tokens place (other_version other) = inl (1, version_opens tokens place other)
fault_opens most tokens place (left_out text form) =
    by (form_by most (kinds tokens) tokens place text refl form)
  where
    by : ((text ≡ codes "deferred-size") × (IsStraySize (kinds tokens) place
        ⊎ IsSizeOfHead most (kinds tokens) place)) ⊎ FormStands tokens place text →
        FaultOpens tokens place
    by (inr stands) = inr (form_opens tokens place text stands)
    by (inl (same, inl stray)) = inl (
      stray.size.opens.0,
      inl (
        slice_get_within (kinds tokens) place (mark_word (codes "<")) stray.size.there,
        stray.size.opens.1,
      ),
    )
    by (inl (same, inr size)) = inl (
      size.size.opens.0,
      inl (
        slice_get_within (kinds tokens) place (mark_word (codes "<")) size.size.there,
        size.size.opens.1,
      ),
    )

-- Nothing has a name before a place where nothing opens further.

later_ahead : (most : ℕ) (before rest : List Token) (place : ℕ) →
    (later : LaterSize most (kinds (before ++ rest)) place (length before)) →
    HeadAhead before rest later.size.equals
later_ahead most before rest place later =
    head_ahead before rest later.size.equals later.later later.size.there later.size.head

pub none_first : (most : ℕ) → 1 ≤ most → (before rest : List Token) (state : State) →
    ModuleLeads true most 0 mdl_wanted before state →
    ((higher : ℕ) → ModuleOpensTo (kinds (before ++ rest)) (length before) higher → ⊥) →
    NoneBefore (IsNamedFault most (kinds (before ++ rest))) (length before)
none_first most some before rest state leads none place less fault =
    by (faults_passed most some before rest state leads place less fault)
  where
    by : LaterSize most (kinds (before ++ rest)) place (length before) → ⊥
    by later =
        let (higher, to) = ahead_opens before rest later.size.equals
        (later_ahead most before rest place later) in
        none higher (opens_earlier WritesModule (kinds (before ++ rest)) (length before)
        later.size.equals higher later.later to)

-- .. nor at it or behind
pub unnamed_from : (most : ℕ) → 1 ≤ most → (before rest : List Token) (state : State) →
    ModuleLeads true most 0 mdl_wanted before state →
    ((higher : ℕ) → ModuleOpensTo (kinds (before ++ rest)) (length before) higher → ⊥) →
    (FaultStops (before ++ rest) (length before) → ⊥) → (place : ℕ) →
    IsNamedFault most (kinds (before ++ rest)) place → ⊥
unnamed_from most some before rest state leads none known place fault =
    by (order place (length before))
  where
    behind_it : length before ≤ place → FaultOpens (before ++ rest) place → ⊥
    behind_it behind (inl (higher, to)) =
        none higher (opens_earlier WritesModule (kinds (before ++ rest)) (length before) place
        higher behind to)
    behind_it behind (inr stops) = at (less_or_same (length before) place behind)
      where
        at : (length before < place) ⊎ (length before ≡ place) → ⊥
        at (inl less) =
            none stops.opens.0 (opens_before WritesModule (kinds (before ++ rest)) (length before)
            place stops.opens.0 less (omega (arith, stops.inside)) stops.opens.1)
        at (inr same) =
            known (subst (λ (n : ℕ). FaultStops (before ++ rest) n) (sym same) stops)

    by : (place < length before) ⊎ (length before ≤ place) → ⊥
    by (inl less) = none_first most some before rest state leads none place less fault
    by (inr behind) = behind_it behind (fault_opens most (before ++ rest) place fault)

-- nor before a place where the words are too high
pub none_before_deep : (most : ℕ) → 1 ≤ most → (before rest : List Token) (state : State) →
    ModuleLeads true most 0 mdl_wanted before state →
    IsTooDeep most (kinds (before ++ rest)) (length before) →
    NoneBefore (IsNamedFault most (kinds (before ++ rest))) (length before)
none_before_deep most some before rest state leads deeper place less fault =
    by (faults_passed most some before rest state leads place less fault)
  where
    by : LaterSize most (kinds (before ++ rest)) place (length before) → ⊥
    by later = later.size.low (length before) later.later deeper

-- nor before a size that is refused at once

abbrev IsEqualsSort : Sort → Type 0
IsEqualsSort equals = Unit {0}
IsEqualsSort sort = ⊥

less_no_equals : mark_word (codes "<") ≡ mark_word (codes "=") → ⊥
less_no_equals same = subst IsEqualsSort (sym (ap sort_of same)) tt

-- a head ends not at `<`
pub size_behind : (words : List Kind) (at ends : ℕ) →
    slice_get words at ≡ Some (mark_word (codes "<")) →
    slice_get words ends ≡ Some (mark_word (codes "=")) → at ≤ ends → suc at ≤ ends
size_behind words at ends less mark fits = by (less_or_same at ends fits)
  where
    by : (at < ends) ⊎ (at ≡ ends) → suc at ≤ ends
    by (inl below) = omega (arith, below)
    by (inr same) =
        absurd (less_no_equals (same_Some (mark_word (codes "<")) (mark_word (codes "="))
        (sym less ∙ (ap (slice_get words) same ∙ mark))))

-- the head ahead, behind one token more
pub ahead_more : (most : ℕ) (before rest : List Token) (token : Token) (place : ℕ) →
    slice_get (kinds (before ++ token ∷ rest)) (length before) ≡ Some (mark_word (codes "<")) →
    (later : LaterSize most (kinds (before ++ token ∷ rest)) place (length before)) →
    HeadAhead (before ++ token ∷ []) rest later.size.equals
ahead_more most before rest token place less later =
    head_ahead (before ++ token ∷ []) rest later.size.equals
    (omega (
      arith,
      size_behind (kinds (before ++ token ∷ rest)) (length before) later.size.equals
          less later.size.there later.later,
      length-append before (token ∷ []),
    ))
    (ap (λ (l : List Token). slice_get (kinds l) later.size.equals)
    (append_assoc before (token ∷ []) rest) ∙ later.size.there)
    (subst (λ (l : List Token). EndsHead (take later.size.equals (kinds l)))
    (sym (append_assoc before (token ∷ []) rest)) later.size.head)

pub whole_apart : (most : ℕ) (before rest : List Token) (token : Token) (place : ℕ) →
    place < length before →
    (later : LaterSize most (kinds (before ++ token ∷ rest)) place (length before)) →
    (whole : ℕ) → length (before ++ token ∷ []) < whole → whole ≤ later.size.equals →
    IsWhole (kinds ((before ++ token ∷ []) ++ rest)) whole → ⊥
whole_apart most before rest token place less later whole above below is =
    later.size.same_head whole (omega (arith, less, above, length-append before (token ∷ []))) below
    (subst (λ (l : List Token). IsWhole (kinds l) whole) (append_assoc before (token ∷ []) rest) is)

pub deferred_no_item : (begun : Begun) (position : Position) → IsDeferredAt position →
    IsItem (within begun position) → ⊥
deferred_no_item begun (item_wanted early) deferred item = deferred
deferred_no_item begun position deferred item = item

pub refused_none : (most : ℕ) → 1 ≤ most → (before rest : List Token) (token : Token)
    (state : State) (begun : Begun) (position : Position) →
    ModuleLeads true most 0 mdl_wanted before state →
    module_step most (length before) state token ≡ on (within begun position) →
    verdict_in position ≡ refused_here → IsDeferredAt position →
    slice_get (kinds (before ++ token ∷ rest)) (length before) ≡ Some (mark_word (codes "<")) →
    NoneBefore (IsNamedFault most (kinds (before ++ token ∷ rest))) (length before)
refused_none most some before rest token state begun position leads is verdict deferred there place
    less fault =
    by (faults_passed most some before (token ∷ rest) state leads place less fault)
  where
    led : ModuleLeads false most 0 mdl_wanted (before ++ token ∷ []) (within begun position)
    led = module_step_leads true most before token state (within begun position) leads is

    may : MayStand state
    may = reached_may true most before state leads

    comes : PositionComes true position
    comes =
        subst (ComesTo true) is (sort_comes true most (length before) state (sort_of token.kind)
        (from_to token.at token.end) (module_reached true most 0 mdl_wanted state before tt tt
        leads).0)

    by : LaterSize most (kinds (before ++ token ∷ rest)) place (length before) → ⊥
    by later = known (size_known most some before (token ∷ rest) state leads place less later)
      where
        noted : InAnnotation (within begun position) ⊎ IsItem (within begun position) → ⊥
        noted (inl inside) =
            no_head_behind InAnnotation head_kept head_apart false most (before ++ token ∷ []) rest
            (within begun position) led inside later.size.equals
            (ahead_more most before rest token place there later)
            (whole_apart most before rest token place less later)
        noted (inr item) = deferred_no_item begun position deferred item

        cases : (p : ℕ) → size_in (within begun position) ≡ Some p →
            PastVariant (within begun position) ⊎ IsBodyAt position → ⊥
        cases p size (inl past) =
            no_head_behind PastVariant variant_kept variant_apart false most (before ++ token ∷ [])
            rest (within begun position) led past later.size.equals
            (ahead_more most before rest token place there later)
            (whole_apart most before rest token place less later)
        cases p size (inr body) = body_started begun position p body comes verdict size

        sized : (p : ℕ) → (size_in (within begun position) ≡ Some p) ⊎ IsItem
            (within begun position) → ⊥
        sized p (inl size) = cases p size (refused_cases begun position p verdict size)
        sized p (inr item) = deferred_no_item begun position deferred item

        known : ((p : ℕ) × (size_in state ≡ Some p) × (p ≤ place)) ⊎ InAnnotation state → ⊥
        known (inl (p, size, fits)) =
            sized p (size_kept most (length before) state (within begun position) token p may size
            is)
        known (inr inside) =
            noted (head_kept most (length before) state (within begun position) token may inside is)

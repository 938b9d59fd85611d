-- The faults that the machine finds are those of the words.
use Rattle.std.proofs.Common.{◌≡◌, ◌⊎◌, inl, inr, ◌∙◌, sym, ap, subst, refl, ℕ, suc, ◌+◌, ◌≤◌, ◌<◌}
use Rattle.std.proofs.Common.{Bool, true, false, List, [], ◌∷◌, ◌++◌, length, take, slice_get}
use Rattle.std.proofs.Common.{arith, Some, codes, length-append}
use Rattle.std.proofs.lemmas.List.{append_assoc, append-nil}
use Rattle.std.proofs.lemmas.Bool.{false≢true}
use Rattle.std.proofs.Math.Seq.{take-append_seam}
use Rattle.std.proofs.lemmas.Option.{slice_get_within, same_Some}
use Rattle.mdl_lexer.specs.declared.token.Kind.{Kind}
use Rattle.mdl_lexer.specs.declared.token.Token.{Token}
use Rattle.mdl_lexer.specs.Kinds.{mark_word}
use Rattle.mdl_syntax.specs.declared.names.Name.{Name}
use Rattle.mdl_syntax.specs.Trees.{Tree}
use Rattle.expression_grammar.specs.Opens.{Opens, OpensTo}
use Rattle.expression_grammar.specs.Languages.{left_out_text, NoneBefore}
use Rattle.expression_grammar.specs.Opens.{Writes}
use Rattle.expression_grammar.specs.Faults.{IsDeep, IsLeftOutWord, IsDeferredSize}
use Rattle.expression_grammar.specs.Faults.{IsLeftOut, IsNamed, IsBad}
use Rattle.expression_grammar.specs.inside.Machine.{Mode, Frame, Head, Step, step, taken, allowed, finish}
use Rattle.expression_grammar.specs.inside.Machine.{Finish, wanted, goes, bad, deep, is_left_out, finished}
use Rattle.expression_grammar.specs.inside.Machine.{ends_badly, ends_deep, deferred_wanted}
use Rattle.expression_grammar.specs.inside.Leads.{Leads, next}
use Rattle.expression_grammar.specs.Readings.{kinds}
use Rattle.expression_grammar.specs.inside.Sound.{IsMark}
use Rattle.expression_grammar.proofs.TakenLaws.{taken_goes, allowed_all, allowed_same, leaves}
use Rattle.expression_grammar.proofs.RoomLaws.{still_bad, finish_bad}
use Rattle.expression_grammar.proofs.LeadsLaws.{leads_on, leads_split, leads_same, leads_more}
use Rattle.expression_grammar.proofs.LeadsLaws.{taken_deep, deep_whole, one_step, generous}
use Rattle.expression_grammar.proofs.PlaceLaws.{take_with, kinds_length, kinds_take, get_kind}
use Rattle.expression_grammar.proofs.PlaceLaws.{get_next_kind, get_front, get_take, pair_at, order}
use Rattle.expression_grammar.proofs.PlaceLaws.{less_or_same, kinds_split}
use Rattle.expression_grammar.proofs.LeftOutLaws.{step_leaves, leaves_word, leads_known, deferred_front}
use Rattle.expression_grammar.proofs.LeftOutLaws.{taken_leaves, goes_not_left}
use Rattle.expression_grammar.proofs.LanguageLaws.{opens_earlier, opens_before, opens_at, whole_at_end}
use Rattle.expression_grammar.proofs.OpeningLaws.{opens_to_higher}
use Rattle.expression_grammar.proofs.OpeningLaws.{leads_open, ends_write, opens_lead}
use Rattle.expression_grammar.proofs.OpeningLaws.{writes_end}
use Rattle.expression_grammar.proofs.SoundLaws.{start_leads}
use Rattle.expression_grammar.proofs.DeferredLaws.{behind_bracket}
use Rattle.expression_grammar.proofs.KindLaws.{kinds_append, same_head, same_tail}

-- Steps.

abbrev pub is_gone : Step → Bool
is_gone (goes mode frames) = true
is_gone _ = false

abbrev is_read : Finish → Bool
is_read (finished tree) = true
is_read _ = false

pub leads_head : (strict : Bool) (limit : ℕ) (mode last : Mode) (frames last_frames : List Frame)
    (token : Token) (tokens : List Token) → Leads strict limit mode frames (token ∷ tokens) last
    last_frames → (later : Mode) × (below : List Frame) × (taken strict limit mode frames token
    ≡ goes later below) × Leads strict limit later below tokens last last_frames
leads_head strict limit mode last frames last_frames token tokens
    (next _ _ _ _ later _ below _ is rest) =
    (later, below, is, rest)

pub inside_length : (before rest : List Token) (token : Token) →
    length before < length (kinds (before ++ token ∷ rest))
inside_length before rest token =
    omega (arith, kinds_length (before ++ token ∷ rest), length-append before (token ∷ rest))

front_within : (front rest : List Token) → length front ≤ length (kinds (front ++ rest))
front_within front rest = omega (arith, kinds_length (front ++ rest), length-append front rest)

pub words_front : (front rest : List Token) → take (length front) (kinds (front ++ rest)) ≡ kinds
    front
words_front front rest = kinds_take (front ++ rest) (length front)
    ∙ ap kinds (take-append_seam front rest)

pub words_with : (before rest : List Token) (token : Token) →
    take (suc (length before)) (kinds (before ++ token ∷ rest)) ≡ kinds (before ++ token ∷ [])
words_with before rest token =
    kinds_take (before ++ token ∷ rest) (suc (length before)) ∙ ap kinds
    (take_with before rest token)

-- where the words open the machine goes on, with room enough
pub opens_goes : (strict : Bool) (less more : ℕ) → less ≤ more → (before rest : List Token)
    (token : Token) (mode : Mode) (frames : List Frame) →
    Leads strict less wanted [] before mode frames →
    OpensTo (kinds (before ++ token ∷ rest)) (length before) more →
    (later : Mode) × (below : List Frame) × (step more mode frames token ≡ goes later below)
opens_goes strict less more within before rest token mode frames leads to =
    let opens = opens_at Writes (kinds (before ++ token ∷ rest)) (length before) more
    (inside_length before rest token) to in
    let (last, last_frames, led) = opens_lead more (before ++ token ∷ [])
    (subst (λ w. Opens w more) (words_with before rest token) opens) in
    let (own, own_frames, first, second) =
    leads_split false more wanted last [] last_frames before (token ∷ []) led in
    let same = leads_same false more wanted own mode [] own_frames frames before first
    (leads_more within (generous leads)) in
    let (later, below, is, rested) = leads_head false more own last own_frames last_frames token
    [] second in (
      later,
      below,
      subst (λ (f : List Frame). step more mode f token ≡ goes later below) same.1
          (subst (λ (m : Mode). step more m own_frames token ≡ goes later below) same.0
          (taken_goes false more own own_frames token later below is)),
    )

writes_finish : (strict : Bool) (less more : ℕ) → less ≤ more → (tokens : List Token)
    (mode : Mode) (frames : List Frame) → Leads strict less wanted [] tokens mode frames →
    OpensTo (kinds tokens) (length tokens) more →
    (tree : Tree) × (finish more mode frames ≡ finished tree)
writes_finish strict less more within tokens mode frames leads to =
    let whole = whole_at_end Writes (kinds tokens) more
    (subst (λ n. OpensTo (kinds tokens) n more) (sym (kinds_length tokens)) to) in
    let (tree, led) = writes_end more tokens whole in
    let same = leads_same false more wanted led.last mode [] led.last_frames frames tokens
    led.leads (leads_more within (generous leads)) in (
      tree,
      subst (λ (f : List Frame). finish more mode f ≡ finished tree) same.1
          (subst (λ (m : Mode). finish more m led.last_frames ≡ finished tree) same.0 led.ends),
    )

-- no expression has a word that no form has
pub opens_known : (most : ℕ) (tokens : List Token) (place : ℕ) →
    OpensTo (kinds tokens) place most → (word : Kind) (text : List ℕ) →
    slice_get (kinds tokens) place ≡ Some word → left_out_text word ≡ Some text → ⊥
opens_known most tokens place to word text there is =
    let opens = opens_at Writes (kinds tokens) place most
    (slice_get_within (kinds tokens) place word there) to in
    let (last, last_frames, led) = opens_lead most (take (suc place) tokens)
    (subst (λ w. Opens w most) (kinds_take tokens (suc place)) opens) in
    leads_known false most wanted last [] last_frames (take (suc place) tokens) led place word text
    (ap (λ l. slice_get l place) (sym (kinds_take tokens (suc place)))
    ∙ (get_take (kinds tokens) place ∙ there)) is

-- what is read strictly has no deferred size
pub strict_plain : (limit : ℕ) (tokens : List Token) (mode : Mode) (frames : List Frame) →
    Leads true limit wanted [] tokens mode frames → (before rest : List Kind) →
    kinds tokens ≡ before ++ mark_word (codes "[") ∷ mark_word (codes "<") ∷ rest → ⊥
strict_plain limit tokens mode frames leads before rest is =
    by (kinds_split tokens before (mark_word (codes "[") ∷ mark_word (codes "<") ∷ rest) is)
  where
    at_pair : (front : List Token) (behind : List Token) → tokens ≡ front ++ behind →
        kinds behind ≡ mark_word (codes "[") ∷ mark_word (codes "<") ∷ rest → ⊥
    at_pair front [] same words = absurd (omega (arith, ap length words))
    at_pair front (bracket ∷ []) same words = absurd (omega (arith, ap length words))
    at_pair front (bracket ∷ less ∷ behind) same words =
        let (one, one_frames, first, second) = leads_split true limit wanted mode [] frames front
        (bracket ∷ less ∷ behind)
        (subst (λ (l : List Token). Leads true limit wanted [] l mode frames) same leads) in
        let (two, two_frames, is_two, third) =
        leads_head true limit one mode one_frames frames bracket (less ∷ behind) second in
        let (three, three_frames, is_three, fourth) =
        leads_head true limit two mode two_frames frames less behind third in
        refuted two two_frames three three_frames is_three (behind_bracket limit one one_frames
        bracket two two_frames less
        (record {
          is = same_head bracket.kind (mark_word (codes "[")) (kinds (less ∷ behind))
              (mark_word (codes "<") ∷ rest) words;
        })
        (taken_goes true limit one one_frames bracket two two_frames is_two)
        (record {
          is = same_head less.kind (mark_word (codes "<")) (kinds behind) rest
              (same_tail bracket.kind (mark_word (codes "[")) (kinds (less ∷ behind))
              (mark_word (codes "<") ∷ rest) words);
        }))
      where
        refuted : (two : Mode) (two_frames : List Frame) (three : Mode)
            (three_frames : List Frame) → taken true limit two two_frames less
            ≡ goes three three_frames →
            (step limit two two_frames less ≡ bad) ⊎ ((head : Head) × (name : Name)
            × (step limit two two_frames less ≡ goes (deferred_wanted head name) two_frames)) → ⊥
        refuted two two_frames three three_frames went (inl fails) =
            false≢true (ap is_gone (sym fails ∙ taken_goes true limit two two_frames less three
            three_frames went))
        refuted two two_frames three three_frames went (inr (head, name, deferred)) =
            goes_not_left three three_frames (codes "deferred-size")
            (sym went ∙ ap (allowed true) deferred)

    by : (front : List Token) × (behind : List Token) × (tokens ≡ front ++ behind)
        × (kinds front ≡ before) × (kinds behind ≡ mark_word (codes "[") ∷ mark_word (codes "<")
        ∷ rest) → ⊥
    by (front, behind, same, first, second) = at_pair front behind same second

-- Faults of a strict run.

-- before the place that a run has come to all opens
opens_run : (most : ℕ) → 1 ≤ most → (front rest : List Token) (mode : Mode)
    (frames : List Frame) → Leads true most wanted [] front mode frames → (place : ℕ) →
    place < length front → OpensTo (kinds (front ++ rest)) place most
opens_run most some front rest mode frames leads place less =
    opens_before Writes (kinds (front ++ rest)) place (length front) most less (front_within front rest)
    (subst (λ w. Opens w most) (sym (words_front front rest)) (leads_open true most some front mode
    frames leads))

-- .. and no fault stands
named_before : (most : ℕ) → 1 ≤ most → (front rest : List Token) (mode : Mode)
    (frames : List Frame) → Leads true most wanted [] front mode frames →
    NoneBefore (IsNamed most (kinds (front ++ rest))) (length front)
named_before most some front rest mode frames leads place less (inl deeper) =
    deeper.high (opens_run most some front rest mode frames leads place less)
named_before most some front rest mode frames leads place less (inr (text, inl unknown)) =
    opens_known most (front ++ rest) place (opens_run most some front rest mode frames leads place
    less) unknown.word text unknown.there unknown.text_is
named_before most some front rest mode frames leads place less (inr (text, inr (size, named))) =
    let in_front : (at : ℕ) → at < length front →
    slice_get (kinds front) at ≡ slice_get (kinds (front ++ rest)) at =
    λ at inside. sym (ap (λ l. slice_get l at) (kinds_append front rest)
    ∙ get_front (kinds front) (kinds rest) at (omega (arith, inside, kinds_length front))) in
    let (before, behind, is) = pair_at (kinds front) size.before (mark_word (codes "["))
    (mark_word (codes "<")) (in_front size.before (omega (arith, less, size.behind)) ∙ size.bracket)
    (in_front (suc size.before) (omega (arith, less, size.behind))
    ∙ (ap (slice_get (kinds (front ++ rest))) (sym size.behind) ∙ size.there)) in
    strict_plain most front mode frames leads before behind is

-- where no words open up to the place, none is a fault's with a name
unnamed : (most : ℕ) → 1 ≤ most → (front rest : List Token) (mode : Mode)
    (frames : List Frame) → Leads true most wanted [] front mode frames →
    ((higher : ℕ) → OpensTo (kinds (front ++ rest)) (length front) higher → ⊥) →
    ((word : Kind) (text : List ℕ) → slice_get (kinds (front ++ rest)) (length front) ≡ Some word →
    left_out_text word ≡ Some text → ⊥) → (place : ℕ) → IsNamed most (kinds (front ++ rest)) place →
    ⊥
unnamed most some front rest mode frames leads none known place named =
    by (order place (length front)) named
  where
    by : (place < length front) ⊎ (length front ≤ place) →
        IsNamed most (kinds (front ++ rest)) place → ⊥
    by (inl less) named = named_before most some front rest mode frames leads place less named
    by (inr behind) (inl deeper) =
        none deeper.opens.0 (opens_earlier Writes (kinds (front ++ rest)) (length front) place
        deeper.opens.0 behind deeper.opens.1)
    by (inr behind) (inr (text, inl unknown)) = on (less_or_same (length front) place behind)
      where
        on : (length front < place) ⊎ (length front ≡ place) → ⊥
        on (inl less) =
            none unknown.opens.0 (opens_before Writes (kinds (front ++ rest)) (length front) place
            unknown.opens.0 less
            (omega (
              arith,
              slice_get_within (kinds (front ++ rest)) place unknown.word
                  unknown.there,
            ))
            unknown.opens.1)
        on (inr same) =
            known unknown.word text (ap (slice_get (kinds (front ++ rest))) same ∙ unknown.there)
            unknown.text_is
    by (inr behind) (inr (text, inr (size, is))) =
        none size.opens.0 (opens_earlier Writes (kinds (front ++ rest)) (length front) place size.opens.0
        behind
        (inl (
          slice_get_within (kinds (front ++ rest)) place (mark_word (codes "<")) size.there,
          size.opens.1,
        )))

-- A token that no expression has there.

pub bad_fault : (most : ℕ) → 1 ≤ most → (before rest : List Token) (token : Token) (mode : Mode)
    (frames : List Frame) → Leads true most wanted [] before mode frames →
    taken true most mode frames token ≡ bad → IsBad most (kinds (before ++ token ∷ rest))
    (length before)
bad_fault most some before rest token mode frames leads is = record {
  within = front_within before (token ∷ rest);
  before = λ earlier less.
      (most, opens_run most some before (token ∷ rest) mode frames leads earlier less);
  none = none;
  unnamed = unnamed most some before (token ∷ rest) mode frames leads none known;
}
  where
    stepped : step most mode frames token ≡ bad
    stepped = allowed_same true (step most mode frames token) bad refl is

    none : (higher : ℕ) → OpensTo (kinds (before ++ token ∷ rest)) (length before) higher → ⊥
    none higher to =
        let (later, below, goes_there) = opens_goes true most (most + higher)
        (omega arith) before rest token mode frames leads
        (opens_to_higher (kinds (before ++ token ∷ rest)) (length before) higher
        (most + higher) (omega arith) to) in
        false≢true (ap is_gone (sym (still_bad most (most + higher) mode frames token stepped)
        ∙ goes_there))

    known : (word : Kind) (text : List ℕ) →
        slice_get (kinds (before ++ token ∷ rest)) (length before) ≡ Some word →
        left_out_text word ≡ Some text → ⊥
    known word text there left =
        false≢true (ap leaves (sym stepped ∙ step_leaves most mode frames token text
        (ap left_out_text (same_Some token.kind word (sym (get_kind before rest token) ∙ there))
        ∙ left)))

-- A token that only higher expressions have there.

pub deep_fault : (most : ℕ) → 1 ≤ most → (before rest : List Token) (token : Token) (mode : Mode)
    (frames : List Frame) → Leads true most wanted [] before mode frames →
    taken true most mode frames token ≡ deep → IsDeep most (kinds (before ++ token ∷ rest))
    (length before) × NoneBefore (IsNamed most (kinds (before ++ token ∷ rest))) (length before)
deep_fault most some before rest token mode frames leads is = (
  record { opens = opens; high = high },
  named_before most some before
      (token ∷ rest) mode frames leads,
)
  where
    opens : (higher : ℕ) × OpensTo (kinds (before ++ token ∷ rest)) (length before) higher
    opens =
        let (more, within, later, below, went) = taken_deep true most mode frames token is in
        let led = leads_on (leads_more within (generous leads))
        (one_step (allowed_all (step more mode frames token) ∙ went)) in (
          more,
          inl (
            inside_length before rest token,
            subst (λ w. Opens w more) (sym (words_with before rest token))
                (leads_open false more (omega (arith, some, within)) (before ++ token ∷ []) later
                below led),
          ),
        )

    high : OpensTo (kinds (before ++ token ∷ rest)) (length before) most → ⊥
    high to =
        let (later, below, went) = opens_goes true most most (omega arith) before rest token mode
        frames leads
        to in
        false≢true (ap is_gone (sym (allowed_same true (step most mode frames token) deep refl is)
        ∙ went))

-- A word that no form has, and a deferred size.

left_word : (most : ℕ) → 1 ≤ most → (before rest : List Token) (token : Token) (mode : Mode)
    (frames : List Frame) (text : List ℕ) → Leads true most wanted [] before mode frames →
    step most mode frames token ≡ is_left_out text → IsLeftOutWord (kinds (before ++ token ∷ rest))
    (length before) text
left_word most some before rest token mode frames text leads is = record {
  opens = (
    most,
    subst (λ w. Opens w most) (sym (words_front before (token ∷ rest)))
        (leads_open true most some before mode frames leads),
  );
  word = token.kind;
  there = get_kind before rest token;
  text_is = leaves_word most mode frames token text is;
}

left_size : (most : ℕ) → 1 ≤ most → (before rest : List Token) (token : Token) (mode : Mode)
    (frames : List Frame) (head : Head) (name : Name) (below : List Frame) →
    Leads true most wanted [] before mode frames →
    step most mode frames token ≡ goes (deferred_wanted head name) below →
    IsDeferredSize (kinds (before ++ token ∷ rest)) (length before)
left_size most some before rest token mode frames head name below leads is =
    by (deferred_front head name below (before ++ token ∷ [])
    (start_leads false most (before ++ token ∷ []) (deferred_wanted head name) below led))
  where
    led : Leads false most wanted [] (before ++ token ∷ []) (deferred_wanted head name) below
    led =
        leads_on (generous leads) (one_step (allowed_all (step most mode frames token) ∙ is))

    by : (front : List Token) × (mark : Token) × (less : Token)
        × (before ++ token ∷ [] ≡ front ++ mark ∷ less ∷ []) × IsMark mark (codes "[") × IsMark less
        (codes "<") → IsDeferredSize (kinds (before ++ token ∷ rest)) (length before)
    by (front, mark, less, same, bracket, lesser) = record {
      before = length front;
      behind = long;
      bracket = ap (λ l. slice_get (kinds l) (length front)) all
          ∙ (get_kind front (less ∷ rest) mark ∙ ap Some bracket.is);
      there = ap (slice_get (kinds (before ++ token ∷ rest))) long
          ∙ (ap (λ l. slice_get (kinds l) (suc (length front))) all
          ∙ (get_next_kind front rest mark less ∙ ap Some lesser.is));
      opens = (
        most,
        subst (λ w. Opens w most) (sym (words_with before rest token))
            (leads_open false most some (before ++ token ∷ []) (deferred_wanted head name)
            below led),
      );
    }
      where
        long : length before ≡ suc (length front)
        long = omega (
          arith,
          ap length same,
          length-append before (token ∷ []),
          length-append front (mark ∷ less ∷ []),
        )

        all : before ++ token ∷ rest ≡ front ++ mark ∷ less ∷ rest
        all = sym (append_assoc before (token ∷ []) rest)
            ∙ (ap (λ l. l ++ rest) same ∙ append_assoc front (mark ∷ less ∷ []) rest)

pub left_out_fault : (most : ℕ) → 1 ≤ most → (before rest : List Token) (token : Token)
    (mode : Mode) (frames : List Frame) (text : List ℕ) →
    Leads true most wanted [] before mode frames →
    taken true most mode frames token ≡ is_left_out text →
    IsLeftOut (kinds (before ++ token ∷ rest)) (length before) text ×
    NoneBefore (IsNamed most (kinds (before ++ token ∷ rest))) (length before)
left_out_fault most some before rest token mode frames text leads is = (
  by (taken_leaves most mode frames token text is),
  named_before most some before (token ∷ rest) mode frames leads,
)
  where
    by : (step most mode frames token ≡ is_left_out text)
        ⊎ ((head : Head) × (name : Name) × (below : List Frame) × (step most mode frames token
        ≡ goes (deferred_wanted head name) below) × (text ≡ codes "deferred-size")) →
        IsLeftOut (kinds (before ++ token ∷ rest)) (length before) text
    by (inl left) = inl (left_word most some before rest token mode frames text leads left)
    by (inr (head, name, below, went, same)) =
        inr (left_size most some before rest token mode frames head name below leads went, same)

-- The end of the text.

no_end_past : (front : List Token) → length front < length (kinds (front ++ [])) → ⊥
no_end_past front less =
    omega (arith, less, kinds_length (front ++ []), length-append front [])

pub cut_off_fault : (most : ℕ) → 1 ≤ most → (tokens : List Token) (mode : Mode)
    (frames : List Frame) → Leads true most wanted [] tokens mode frames →
    finish most mode frames ≡ ends_badly → IsBad most (kinds tokens) (length tokens)
cut_off_fault most some tokens mode frames leads is =
    subst (λ (l : List Token). IsBad most (kinds l) (length tokens)) (append-nil tokens) (record {
      within = front_within tokens [];
      before = λ earlier less. (
        most,
        opens_run most some tokens [] mode frames leads earlier
            less,
      );
      none = none;
      unnamed = unnamed most some tokens [] mode frames leads none
          (λ word text there left. no_end_past tokens
          (slice_get_within (kinds (tokens ++ [])) (length tokens) word there));
    })
  where
    none : (higher : ℕ) → OpensTo (kinds (tokens ++ [])) (length tokens) higher → ⊥
    none higher to =
        let (tree, whole) = writes_finish true most (most + higher) (omega arith) tokens mode
        frames leads (opens_to_higher (kinds tokens) (length tokens) higher (most + higher)
        (omega arith) (subst (λ (l : List Token). OpensTo (kinds l) (length tokens) higher)
        (append-nil tokens) to)) in
        false≢true (ap is_read (sym (finish_bad most (most + higher) mode frames is) ∙ whole))

pub deep_whole_fault : (most : ℕ) → 1 ≤ most → (tokens : List Token) (mode : Mode)
    (frames : List Frame) → Leads true most wanted [] tokens mode frames →
    finish most mode frames ≡ ends_deep → IsDeep most (kinds tokens) (length tokens)
    × NoneBefore (IsNamed most (kinds tokens)) (length tokens)
deep_whole_fault most some tokens mode frames leads is = (
  record { opens = opens; high = high },
  subst (λ (l : List Token). NoneBefore (IsNamed most (kinds l)) (length tokens)) (append-nil tokens)
      (named_before most some tokens [] mode frames leads),
)
  where
    opens : (higher : ℕ) × OpensTo (kinds tokens) (length tokens) higher
    opens =
        let (more, within, tree, whole) = deep_whole most mode frames is in (
          more,
          inr (
            sym (kinds_length tokens),
            ends_write false more (omega (arith, some, within)) tokens tree (record {
              last = mode;
              last_frames = frames;
              leads = leads_more within (generous leads);
              ends = whole;
            }),
          ),
        )

    high : OpensTo (kinds tokens) (length tokens) most → ⊥
    high to =
        let (tree, whole) = writes_finish true most most (omega arith) tokens mode frames leads
        to in
        false≢true (ap is_read (sym is ∙ whole))

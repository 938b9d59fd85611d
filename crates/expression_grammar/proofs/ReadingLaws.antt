-- What the machine's run says of tokens is what they are.
use Rattle.std.proofs.Common.{◌≡◌, ◌⊎◌, inl, inr, ◌∙◌, sym, ap, subst, refl, ℕ, ◌+◌, ◌≤◌, true}
use Rattle.std.proofs.Common.{false, List, [], ◌∷◌, ◌++◌, length, slice_get, arith, codes}
use Rattle.std.proofs.Common.{length-append, Some, take}
use Rattle.std.proofs.lemmas.List.{append_assoc, append-nil}
use Rattle.std.proofs.lemmas.Bool.{false≢true}
use Rattle.std.proofs.lemmas.Option.{slice_get_within, same_Some, none-some}
use Rattle.mdl_lexer.specs.declared.token.Kind.{Kind}
use Rattle.mdl_lexer.specs.declared.token.Token.{Token}
use Rattle.mdl_lexer.specs.Kinds.{mark_word}
use Rattle.mdl_syntax.specs.declared.names.Name.{Name}
use Rattle.mdl_syntax.specs.Trees.{Tree}
use Rattle.mdl_syntax.specs.Written.{write}
use Rattle.mdl_syntax.specs.Placed.{placed}
use Rattle.mdl_syntax.specs.Heights.{height}
use Rattle.mdl_syntax.specs.Levelled.{Levelled, NoneDeferred, Accepted}
use Rattle.expression_grammar.specs.Opens.{Opens, OpensTo}
use Rattle.expression_grammar.specs.Faults.{IsDeep, IsLeftOut, IsNamed, IsBad}
use Rattle.expression_grammar.specs.Languages.{left_out_text, NoneBefore}
use Rattle.expression_grammar.specs.Opens.{Writes}
use Rattle.expression_grammar.specs.Readings.{IsTree, Reading, a_tree, bad_syntax, too_deep, left_out}
use Rattle.expression_grammar.specs.Readings.{HasReading, OneReading, fault_place}
use Rattle.expression_grammar.specs.inside.Machine.{Mode, Frame, Head, step, Run, run, wanted, goes, bad}
use Rattle.expression_grammar.specs.inside.Machine.{deferred_wanted}
use Rattle.expression_grammar.specs.inside.Leads.{Leads, Ends, Outcome, reads, is_bad, is_deep, leaves_out}
use Rattle.expression_grammar.specs.inside.Leads.{is_cut_off, is_deep_whole, reading_of}
use Rattle.expression_grammar.specs.Readings.{kinds}
use Rattle.expression_grammar.specs.inside.Sound.{IsMark}
use Rattle.expression_grammar.proofs.TakenLaws.{taken_goes, allowed_all}
use Rattle.expression_grammar.proofs.RoomLaws.{still_bad}
use Rattle.expression_grammar.proofs.LeadsLaws.{leads_split, outcome, run_reads, tree_in, leads_on}
use Rattle.expression_grammar.proofs.LeadsLaws.{one_step}
use Rattle.expression_grammar.proofs.PlaceLaws.{pair_at, pair_tokens, same_place}
use Rattle.expression_grammar.proofs.LanguageLaws.{opens_earlier, opens_at}
use Rattle.expression_grammar.proofs.OpeningLaws.{opens_to_higher, leads_open}
use Rattle.expression_grammar.proofs.OpeningLaws.{ends_write, opens_lead, written_reads}
use Rattle.expression_grammar.proofs.FaultLaws.{is_gone, leads_head, words_front, inside_length}
use Rattle.expression_grammar.proofs.FaultLaws.{words_with, opens_goes, opens_known, strict_plain}
use Rattle.expression_grammar.proofs.FaultLaws.{bad_fault, deep_fault, left_out_fault, cut_off_fault}
use Rattle.expression_grammar.proofs.FaultLaws.{deep_whole_fault}
use Rattle.expression_grammar.proofs.SoundLaws.{ends_sound}
use Rattle.expression_grammar.proofs.FitsLaws.{ends_fits}
use Rattle.expression_grammar.proofs.DeferredLaws.{none_deferred, behind_bracket}

-- What a run says is so.

pub strict_none : (most : ℕ) (tokens : List Token) (tree : Tree) →
    Ends true most wanted [] tokens tree → write tree ≡ kinds tokens → NoneDeferred tree
strict_none most tokens tree led writes = by (none_deferred tree)
  where
    by : NoneDeferred tree
        ⊎ ((before : List Kind) × (rest : List Kind) × (write tree ≡ before ++ mark_word (codes "[")
        ∷ mark_word (codes "<") ∷ rest)) → NoneDeferred tree
    by (inl none) = none
    by (inr (before, rest, is)) =
        absurd (strict_plain most tokens led.last led.last_frames led.leads before rest
        (sym writes ∙ is))

read_tree : (most : ℕ) → 1 ≤ most → (tokens : List Token) (tree : Tree) →
    Ends true most wanted [] tokens tree → IsTree most tokens tree
read_tree most some tokens tree led =
    let sound = ends_sound true most tokens tree led in
    let fit = ends_fits true most some tokens tree led in
    record {
      writes = sound.writes;
      places = sound.places;
      accepted = record {
        levelled = fit.0;
        none_deferred = strict_none most tokens tree led sound.writes;
        low = fit.1;
      };
    }

outcome_has : (most : ℕ) → 1 ≤ most → (tokens : List Token) (made : Run) →
    Outcome true most tokens made → HasReading most tokens (reading_of made)
outcome_has most some tokens made (reads _ tree led) = read_tree most some tokens tree led
outcome_has most some tokens made (is_bad before rest token mode frames leads is) =
    bad_fault most some before rest token mode frames leads is
outcome_has most some tokens made (is_deep before rest token mode frames leads is) =
    deep_fault most some before rest token mode frames leads is
outcome_has most some tokens made (leaves_out before rest token mode frames text leads is) =
    left_out_fault most some before rest token mode frames text leads is
outcome_has most some tokens made (is_cut_off _ mode frames leads is) =
    cut_off_fault most some tokens mode frames leads is
outcome_has most some tokens made (is_deep_whole _ mode frames leads is) =
    deep_whole_fault most some tokens mode frames leads is

pub run_has : (most : ℕ) → 1 ≤ most → (tokens : List Token) →
    HasReading most tokens (reading_of (run most tokens))
run_has most some tokens = outcome_has most some tokens (run most tokens)
    (outcome true most tokens)

-- Nothing else is so.

-- the machine reads each tree of the tokens
tree_ends : (most : ℕ) (tokens : List Token) (tree : Tree) → IsTree most tokens tree →
    Ends true most wanted [] tokens tree
tree_ends most tokens tree is =
    subst (λ (t : Tree). Ends true most wanted [] tokens t) is.places
    (written_reads true most tree tokens is.accepted.levelled (λ strict. is.accepted.none_deferred)
    is.accepted.low is.writes)

-- so up to each place its words open
tree_opens : (most : ℕ) → 1 ≤ most → (tokens : List Token) (tree : Tree) →
    IsTree most tokens tree → (place : ℕ) → place ≤ length (kinds tokens) →
    OpensTo (kinds tokens) place most
tree_opens most some tokens tree is place within =
    opens_earlier Writes (kinds tokens) place (length (kinds tokens)) most within
    (inr (refl, ends_write true most some tokens tree (tree_ends most tokens tree is)))

place_within : (words : List Kind) (at most : ℕ) → OpensTo words at most → at ≤ length words
place_within words at most (inl (inside, opens)) = omega (arith, inside)
place_within words at most (inr (behind, whole)) = omega (arith, behind)

tree_not_bad : (most : ℕ) → 1 ≤ most → (tokens : List Token) (tree : Tree) →
    IsTree most tokens tree → (at : ℕ) → IsBad most (kinds tokens) at → ⊥
tree_not_bad most some tokens tree is at fault =
    fault.none most (tree_opens most some tokens tree is at fault.within)

tree_not_deep : (most : ℕ) → 1 ≤ most → (tokens : List Token) (tree : Tree) →
    IsTree most tokens tree → (at : ℕ) → IsDeep most (kinds tokens) at → ⊥
tree_not_deep most some tokens tree is at fault =
    fault.high (tree_opens most some tokens tree is at (place_within (kinds tokens) at fault.opens.0
    fault.opens.1))

tree_not_left : (most : ℕ) → 1 ≤ most → (tokens : List Token) (tree : Tree) →
    IsTree most tokens tree → (at : ℕ) (text : List ℕ) → IsLeftOut (kinds tokens) at text → ⊥
tree_not_left most some tokens tree is at text (inl unknown) =
    opens_known most tokens at (tree_opens most some tokens tree is at
    (omega (arith, slice_get_within (kinds tokens) at unknown.word unknown.there))) unknown.word
    text unknown.there unknown.text_is
tree_not_left most some tokens tree is at text (inr (size, named)) =
    let led = tree_ends most tokens tree is in
    let (before, behind, same) = pair_at (kinds tokens) size.before (mark_word (codes "["))
    (mark_word (codes "<")) size.bracket
    (ap (slice_get (kinds tokens)) (sym size.behind) ∙ size.there) in
    strict_plain most tokens led.last led.last_frames led.leads before behind same

-- a `<` behind `[` is no higher than the `[`
bracket_holds : (most : ℕ) → 1 ≤ most → (front behind : List Token) (bracket less : Token) →
    IsMark bracket (codes "[") → IsMark less (codes "<") →
    Opens (kinds (front ++ bracket ∷ [])) most → (higher : ℕ) →
    OpensTo (kinds ((front ++ bracket ∷ []) ++ less ∷ behind)) (length (front ++ bracket ∷ []))
    higher →
    (OpensTo (kinds ((front ++ bracket ∷ []) ++ less ∷ behind)) (length (front ++ bracket ∷ []))
    most → ⊥) → ⊥
bracket_holds most some front behind bracket less is_bracket is_less opens higher to high =
    let (last, last_frames, led) = opens_lead most (front ++ bracket ∷ []) opens in
    let (own, own_frames, first, second) =
    leads_split false most wanted last [] last_frames front (bracket ∷ []) led in
    let (two, two_frames, is_two, rest) =
    leads_head false most own last own_frames last_frames bracket [] second in
    by two two_frames (leads_on first (one_step is_two)) (behind_bracket most own own_frames bracket
    two two_frames less is_bracket (taken_goes false most own own_frames bracket two two_frames
    is_two) is_less)
  where
    by : (two : Mode) (two_frames : List Frame) →
        Leads false most wanted [] (front ++ bracket ∷ []) two two_frames →
        (step most two two_frames less ≡ bad) ⊎ ((head : Head) × (name : Name)
        × (step most two two_frames less ≡ goes (deferred_wanted head name) two_frames)) → ⊥
    by two two_frames leads (inl fails) =
        let (later, below, went) = opens_goes false most (most + higher) (omega arith)
        (front ++ bracket ∷ []) behind less two two_frames leads
        (opens_to_higher (kinds ((front ++ bracket ∷ []) ++ less ∷ behind))
        (length (front ++ bracket ∷ [])) higher (most + higher) (omega arith) to) in
        false≢true (ap is_gone (sym (still_bad most (most + higher) two two_frames less fails)
        ∙ went))
    by two two_frames leads (inr (head, name, went)) =
        high (inl (
          inside_length (front ++ bracket ∷ []) behind less,
          subst (λ w. Opens w most) (sym (words_with (front ++ bracket ∷ []) behind less))
              (leads_open false most some ((front ++ bracket ∷ []) ++ less ∷ [])
              (deferred_wanted head name) two_frames
              (leads_on leads (one_step (allowed_all (step most two two_frames less)
              ∙ went)))),
        ))

deep_not_left : (most : ℕ) → 1 ≤ most → (tokens : List Token) (at : ℕ) (text : List ℕ) →
    IsDeep most (kinds tokens) at → NoneBefore (IsNamed most (kinds tokens)) at →
    IsLeftOut (kinds tokens) at text → ⊥
deep_not_left most some tokens at text fault none (inl unknown) =
    opens_known fault.opens.0 tokens at fault.opens.1 unknown.word text unknown.there
    unknown.text_is
deep_not_left most some tokens at text fault none (inr (size, named)) =
    none size.before (omega (arith, size.behind)) (inl (record {
      opens = (
        fault.opens.0,
        opens_earlier Writes (kinds tokens) size.before at fault.opens.0
            (omega (arith, size.behind)) fault.opens.1,
      );
      high = λ to. by to (pair_tokens tokens size.before (mark_word (codes "["))
          (mark_word (codes "<"))
          size.bracket (ap (slice_get (kinds tokens)) (sym size.behind) ∙ size.there));
    }))
  where
    by : OpensTo (kinds tokens) size.before most →
        (front : List Token) × (first : Token) × (second : Token) × (behind : List Token)
        × (tokens ≡ front ++ first ∷ second ∷ behind) × (length front ≡ size.before)
        × (first.kind ≡ mark_word (codes "[")) × (second.kind ≡ mark_word (codes "<")) → ⊥
    by to (front, first, second, behind, same, long, one_is, other_is) =
        bracket_holds most some front behind first second (record { is = one_is })
        (record { is = other_is })
        (subst (λ w. Opens w most) (words_with front (second ∷ behind) first)
        (opens_at Writes (kinds (front ++ first ∷ second ∷ behind)) (length front) most
        (inside_length front (second ∷ behind) first)
        (subst (λ n. OpensTo (kinds (front ++ first ∷ second ∷ behind)) n most) (sym long)
        (subst (λ (l : List Token). OpensTo (kinds l) size.before most) same to)))) fault.opens.0
        (there fault.opens.0 fault.opens.1) (λ up. fault.high (back most up))
      where
        all : tokens ≡ (front ++ first ∷ []) ++ second ∷ behind
        all = same ∙ sym (append_assoc front (first ∷ []) (second ∷ behind))

        at_is : at ≡ length (front ++ first ∷ [])
        at_is = omega (arith, size.behind, long, length-append front (first ∷ []))

        there : (limit : ℕ) → OpensTo (kinds tokens) at limit →
            OpensTo (kinds ((front ++ first ∷ []) ++ second ∷ behind))
            (length (front ++ first ∷ [])) limit
        there limit up =
            subst (λ n. OpensTo (kinds ((front ++ first ∷ []) ++ second ∷ behind)) n limit) at_is
            (subst (λ (l : List Token). OpensTo (kinds l) at limit) all up)

        back : (limit : ℕ) →
            OpensTo (kinds ((front ++ first ∷ []) ++ second ∷ behind))
            (length (front ++ first ∷ [])) limit → OpensTo (kinds tokens) at limit
        back limit up =
            subst (λ (l : List Token). OpensTo (kinds l) at limit) (sym all)
            (subst (λ n. OpensTo (kinds ((front ++ first ∷ []) ++ second ∷ behind)) n limit)
            (sym at_is) up)

bad_once : (most : ℕ) (words : List Kind) (one other : ℕ) → IsBad most words one →
    IsBad most words other → one ≡ other
bad_once most words one other first second =
    same_place one other (λ less. let (higher, to) = second.before one less in first.none higher to)
    (λ less. let (higher, to) = first.before other less in second.none higher to)

-- faults with names stand at one place
named_once : (most : ℕ) (words : List Kind) (one other : ℕ) → IsNamed most words one →
    NoneBefore (IsNamed most words) one → IsNamed most words other → NoneBefore (IsNamed most words) other → one ≡ other
named_once most words one other first none second nothing =
    same_place one other (λ less. nothing one less first) (λ less. none other less second)

left_once : (words : List Kind) (at : ℕ) (one other : List ℕ) → IsLeftOut words at one →
    IsLeftOut words at other → one ≡ other
left_once words at one other (inl first) (inl second) =
    same_Some one other (sym first.text_is
    ∙ (ap left_out_text (same_Some first.word second.word (sym first.there ∙ second.there))
    ∙ second.text_is))
left_once words at one other (inl first) (inr (size, named)) =
    absurd (none-some one (ap left_out_text (same_Some (mark_word (codes "<")) first.word
    (sym size.there ∙ first.there)) ∙ first.text_is))
left_once words at one other (inr (size, named)) (inl second) =
    absurd (none-some other (ap left_out_text (same_Some (mark_word (codes "<")) second.word
    (sym size.there ∙ second.there)) ∙ second.text_is))
left_once words at one other (inr (size, named)) (inr (also, same)) = named ∙ sym same

two_readings : (most : ℕ) → 1 ≤ most → (tokens : List Token) (one other : Reading) →
    HasReading most tokens one → HasReading most tokens other → other ≡ one
two_readings most some tokens (a_tree one) (a_tree other) first second =
    ap (λ made. a_tree (tree_in one made))
    (sym (run_reads true most tokens other (tree_ends most tokens other second)) ∙ run_reads true
    most tokens one (tree_ends most tokens one first))
two_readings most some tokens (a_tree one) (bad_syntax at) first second =
    absurd (tree_not_bad most some tokens one first at second)
two_readings most some tokens (a_tree one) (too_deep at) first second =
    absurd (tree_not_deep most some tokens one first at second.0)
two_readings most some tokens (a_tree one) (left_out at text) first second =
    absurd (tree_not_left most some tokens one first at text second.0)
two_readings most some tokens (bad_syntax at) (a_tree other) first second =
    absurd (tree_not_bad most some tokens other second at first)
two_readings most some tokens (bad_syntax at) (bad_syntax place) first second =
    ap bad_syntax (bad_once most (kinds tokens) place at second first)
two_readings most some tokens (bad_syntax at) (too_deep place) first second =
    absurd (first.unnamed place (inl second.0))
two_readings most some tokens (bad_syntax at) (left_out place text) first second =
    absurd (first.unnamed place (inr (text, second.0)))
two_readings most some tokens (too_deep at) (a_tree other) first second =
    absurd (tree_not_deep most some tokens other second at first.0)
two_readings most some tokens (too_deep at) (bad_syntax place) first second =
    absurd (second.unnamed at (inl first.0))
two_readings most some tokens (too_deep at) (too_deep place) first second =
    ap too_deep (named_once most (kinds tokens) place at (inl second.0) second.1 (inl first.0)
    first.1)
two_readings most some tokens (too_deep at) (left_out place text) first second =
    let same = named_once most (kinds tokens) place at (inr (text, second.0)) second.1
    (inl first.0) first.1 in
    absurd (deep_not_left most some tokens at text first.0 first.1
    (subst (λ n. IsLeftOut (kinds tokens) n text) same second.0))
two_readings most some tokens (left_out at text) (a_tree other) first second =
    absurd (tree_not_left most some tokens other second at text first.0)
two_readings most some tokens (left_out at text) (bad_syntax place) first second =
    absurd (second.unnamed at (inr (text, first.0)))
two_readings most some tokens (left_out at text) (too_deep place) first second =
    let same = named_once most (kinds tokens) at place (inr (text, first.0)) first.1
    (inl second.0) second.1 in
    absurd (deep_not_left most some tokens place text second.0 second.1
    (subst (λ n. IsLeftOut (kinds tokens) n text) same first.0))
two_readings most some tokens (left_out at text) (left_out place other) first second =
    let same = named_once most (kinds tokens) place at (inr (other, second.0)) second.1
    (inr (text, first.0))
    first.1 in
    ap (λ n. left_out n other) same ∙ ap (left_out at) (left_once (kinds tokens) at other text
    (subst (λ n. IsLeftOut (kinds tokens) n other) same second.0) first.0)

pub run_only : (most : ℕ) → 1 ≤ most → (tokens : List Token) (other : Reading) →
    HasReading most tokens other → other ≡ reading_of (run most tokens)
run_only most some tokens other has =
    two_readings most some tokens (reading_of (run most tokens)) other (run_has most some tokens)
    has

pub one_reading : (most : ℕ) → 1 ≤ most → (tokens : List Token) → OneReading most tokens
one_reading most some tokens = record {
  reading = reading_of (run most tokens);
  has = run_has most some tokens;
  only = run_only most some tokens;
}

-- words are written by one expression, places aside
pub written_one_way : (one other : Tree) → Levelled one → Levelled other →
    write one ≡ write other → (tokens : List Token) → write one ≡ kinds tokens →
    placed one tokens ≡ placed other tokens
written_one_way one other levelled also same tokens writes =
    ap (tree_in (placed one tokens)) (sym (run_reads false limit tokens (placed one tokens)
    (written_reads false limit one tokens levelled (λ is. absurd (false≢true is)) (omega arith)
    writes)) ∙ run_reads false limit tokens (placed other tokens) (written_reads false limit other
    tokens also (λ is. absurd (false≢true is)) (omega arith) (sym same ∙ writes)))
  where
    limit : ℕ
    limit = height one + height other

pub written_is_read : (most : ℕ) → 1 ≤ most → (tree : Tree) (tokens : List Token) →
    Accepted most tree → write tree ≡ kinds tokens → IsTree most tokens (placed tree tokens)
written_is_read most some tree tokens accepted writes =
    read_tree most some tokens (placed tree tokens) (written_reads true most tree tokens
    accepted.levelled (λ strict. accepted.none_deferred) accepted.low writes)

-- The tokens before a fault open.

front_opens : (most : ℕ) → 1 ≤ most → (before rest : List Token) (mode : Mode) (frames : List Frame)
    (at : ℕ) → Leads true most wanted [] before mode frames → Some (length before) ≡ Some at →
    Opens (take at (kinds (before ++ rest))) most
front_opens most some before rest mode frames at leads same =
    subst (λ (words : List Kind). Opens words most)
    (sym (ap (λ place. take place (kinds (before ++ rest)))
    (sym (same_Some (length before) at same)) ∙ words_front before rest))
    (leads_open true most some before mode frames leads)

whole_opens : (most : ℕ) → 1 ≤ most → (tokens : List Token) (mode : Mode) (frames : List Frame)
    (at : ℕ) → Leads true most wanted [] tokens mode frames → Some (length tokens) ≡ Some at →
    Opens (take at (kinds tokens)) most
whole_opens most some tokens mode frames at leads same =
    subst (λ (list : List Token). Opens (take at (kinds list)) most) (append-nil tokens)
    (front_opens most some tokens [] mode frames at leads same)

outcome_opens : (most : ℕ) → 1 ≤ most → (tokens : List Token) (made : Run) (at : ℕ) →
    Outcome true most tokens made → fault_place (reading_of made) ≡ Some at →
    Opens (take at (kinds tokens)) most
outcome_opens most some tokens made at (reads _ tree led) same = absurd (none-some at same)
outcome_opens most some tokens made at (is_bad before rest token mode frames leads is) same =
    front_opens most some before (token ∷ rest) mode frames at leads same
outcome_opens most some tokens made at (is_deep before rest token mode frames leads is) same =
    front_opens most some before (token ∷ rest) mode frames at leads same
outcome_opens most some tokens made at (leaves_out before rest token mode frames text leads is)
    same =
    front_opens most some before (token ∷ rest) mode frames at leads same
outcome_opens most some tokens made at (is_cut_off _ mode frames leads is) same =
    whole_opens most some tokens mode frames at leads same
outcome_opens most some tokens made at (is_deep_whole _ mode frames leads is) same =
    whole_opens most some tokens mode frames at leads same

pub fault_opens : (most : ℕ) → 1 ≤ most → (tokens : List Token) (reading : Reading) (at : ℕ) →
    HasReading most tokens reading → fault_place reading ≡ Some at →
    Opens (take at (kinds tokens)) most
fault_opens most some tokens reading at has same =
    outcome_opens most some tokens (run most tokens) at (outcome true most tokens)
    (ap fault_place (sym (run_only most some tokens reading has)) ∙ same)

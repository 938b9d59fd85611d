-- Words that no form has, and sizes that are deferred, as the machine meets them.
use Rattle.std.proofs.Common.{◌≡◌, ◌⊎◌, inl, inr, ◌∙◌, sym, ap, subst, refl, ℕ, zero, suc, ◌==◌}
use Rattle.std.proofs.Common.{Bool, true, false, List, [], ◌∷◌, ◌++◌, slice_get, Some, codes}
use Rattle.std.proofs.Common.{if◌then◌else◌}
use Rattle.std.specs.Prelude.{nat_le}
use Rattle.std.proofs.lemmas.Bool.{cond-true, cond-false, eqb-true, false≢true}
use Rattle.std.proofs.lemmas.Option.{same_Some, none-some}
use Rattle.std.proofs.lemmas.List.{append_assoc}
use Rattle.mdl_lexer.specs.WordTables.{reserved_left_out, marks_left_out}
use Rattle.mdl_lexer.specs.declared.token.Kind.{Kind}
use Rattle.mdl_lexer.specs.declared.token.Kind.TheVariants as kind
use Rattle.mdl_lexer.specs.declared.token.Token.{Token}
use Rattle.mdl_syntax.specs.declared.names.Span.{Span}
use Rattle.mdl_syntax.specs.declared.names.Name.{Name}
use Rattle.expression_grammar.specs.Languages.{text_in, left_out_text}
use Rattle.expression_grammar.specs.inside.Sorts.{IsOf}
use Rattle.expression_grammar.specs.inside.Machine.{Sort, sort_of, left_out, Mode, Frame, Head, Step}
use Rattle.expression_grammar.specs.inside.Machine.{from_to, step, sort_step, mode_step, goes, bad, deep}
use Rattle.expression_grammar.specs.inside.Machine.{is_left_out, taken, allowed, deferred_wanted}
use Rattle.expression_grammar.specs.inside.Machine.{is_deferred}
use Rattle.expression_grammar.specs.inside.Leads.{Leads, here, next}
use Rattle.expression_grammar.specs.Readings.{kinds}
use Rattle.expression_grammar.specs.inside.Sound.{Holds, IsMark, deferred_is_wanted}
use Rattle.expression_grammar.proofs.TakenLaws.{leaves, taken_goes}
use Rattle.expression_grammar.proofs.RoomLaws.{stays, Limited, always, roomy, mode_limited}
use Rattle.expression_grammar.proofs.SortLaws.{is_of_sort}

-- each row's word is left out, with the row's text
abbrev AreLeftOut : (ℕ → Kind) → List (List ℕ × ℕ) → Type 0
AreLeftOut word_of [] = Unit {0}
AreLeftOut word_of (row ∷ rows) = (sort_of (word_of row.1) ≡ left_out row.0)
    × AreLeftOut word_of rows

in_rows : (word_of : ℕ → Kind) (rows : List (List ℕ × ℕ)) → AreLeftOut word_of rows → (number : ℕ)
    (text : List ℕ) → text_in rows number ≡ Some text → sort_of (word_of number) ≡ left_out text
in_rows word_of [] all number text found = absurd (none-some text found)
in_rows word_of (row ∷ rows) all number text found =
    by (in_rows word_of rows all.1 number text) (row.1 == number) refl
  where
    by : (text_in rows number ≡ Some text → sort_of (word_of number) ≡ left_out text) →
        (test : Bool) → (row.1 == number) ≡ test → sort_of (word_of number) ≡ left_out text
    by behind true same =
        ap (λ n. sort_of (word_of n)) (sym (eqb-true row.1 number same))
        ∙ (all.0 ∙ ap left_out
        (same_Some row.0 text (sym (cond-true (row.1 == number) (Some row.0) (text_in rows number)
        same) ∙ found)))
    by behind false other =
        behind (sym (cond-false (row.1 == number) (Some row.0) (text_in rows number) other) ∙ found)

also : {A B : Type 0} → A → B → A × B
also one other = (one, other)

reserved_are : AreLeftOut kind.Reserved reserved_left_out
reserved_are =
    also refl
    (also refl
    (also refl
    (also refl
    (also refl
    (also refl
    (also refl
    (also refl
    (also refl
    (also refl
    (also refl
    (also refl
    (also refl
    (also refl
    (also refl
    (also refl
    (also refl
    (also refl
    (also refl
    (also refl
    (also refl
    (also refl
    (also refl
    (also refl (also refl (also refl (also refl (also refl (also refl tt))))))))))))))))))))))))))))

marks_are : AreLeftOut kind.Mark marks_left_out
marks_are =
    also refl
    (also refl
    (also refl
    (also refl
    (also refl
    (also refl
    (also refl (also refl (also refl (also refl (also refl (also refl (also refl tt))))))))))))

-- a word that no form has is of no other sort
left_out_sort : (word : Kind) (text : List ℕ) → left_out_text word ≡ Some text →
    sort_of word ≡ left_out text
left_out_sort (kind.Reserved number) text is = in_rows kind.Reserved reserved_left_out reserved_are
    number text is
left_out_sort (kind.Mark number) text is = in_rows kind.Mark marks_left_out marks_are number text is
left_out_sort _ text is = absurd (none-some text is)

-- no state has a form for such a word
pub step_leaves : (limit : ℕ) (mode : Mode) (frames : List Frame) (token : Token) (text : List ℕ) →
    left_out_text token.kind ≡ Some text → step limit mode frames token ≡ is_left_out text
step_leaves limit mode frames token text is =
    ap (λ s. sort_step limit mode frames s (from_to token.at token.end))
    (left_out_sort token.kind text is)

room_leaves : (test : Bool) (mode : Mode) (frames : List Frame) →
    leaves (if test then goes mode frames else deep) ≡ false
room_leaves true mode frames = refl
room_leaves false mode frames = refl

never_leaves : (limit : ℕ) (of : ℕ → Step) → Limited of → (text : List ℕ) →
    of limit ≡ is_left_out text → ⊥
never_leaves limit of (always what ok same) text is =
    false≢true (ap stays (sym is ∙ same limit) ∙ ok)
never_leaves limit of (roomy need mode frames same) text is =
    false≢true (sym (room_leaves (nat_le need limit) mode frames) ∙ ap leaves (sym (same limit)
    ∙ is))

abbrev text_of : List ℕ → Step → List ℕ
text_of other (is_left_out text) = text
text_of other _ = other

sort_left : (limit : ℕ) (mode : Mode) (frames : List Frame) (sort : Sort) (place : Span)
    (text : List ℕ) → sort_step limit mode frames sort place ≡ is_left_out text →
    sort ≡ left_out text
sort_left limit mode frames (left_out own) place text is = ap (λ s. left_out (text_of own s)) is
sort_left limit mode frames sort place text is =
    absurd (never_leaves limit (λ limit. mode_step limit mode frames sort place)
    (mode_limited mode frames sort place) text is)

-- what a step leaves out no form has
pub leaves_word : (limit : ℕ) (mode : Mode) (frames : List Frame) (token : Token) (text : List ℕ) →
    step limit mode frames token ≡ is_left_out text → left_out_text token.kind ≡ Some text
leaves_word limit mode frames token text is =
    subst (λ (s : Sort). IsOf s token.kind) (sort_left limit mode frames (sort_of token.kind)
    (from_to token.at token.end) text is) (is_of_sort token.kind)

-- what is taken is not left out
pub goes_not_left : (later : Mode) (below : List Frame) (text : List ℕ) →
    goes later below ≡ is_left_out text → ⊥
goes_not_left later below text is = false≢true (ap leaves is)

pub leads_known : (strict : Bool) (limit : ℕ) (mode last : Mode) (frames last_frames : List Frame)
    (tokens : List Token) → Leads strict limit mode frames tokens last last_frames →
    (at : ℕ) (word : Kind) (text : List ℕ) → slice_get (kinds tokens) at ≡ Some word →
    left_out_text word ≡ Some text → ⊥
leads_known strict limit mode last frames last_frames tokens (here _ _) at word text there is =
    absurd (none-some word there)
leads_known strict limit mode last frames last_frames tokens
    (next _ _ token others later _ later_frames _ took rest) zero word text there is =
    goes_not_left later later_frames text (sym (taken_goes strict limit mode frames token later
    later_frames took) ∙ step_leaves limit mode frames token text
    (ap left_out_text (same_Some token.kind word there) ∙ is))
leads_known strict limit mode last frames last_frames tokens
    (next _ _ token others later _ later_frames _ took rest) (suc at) word text there is =
    leads_known strict limit later last later_frames last_frames others rest at word text there is

-- where a deferred size is wanted the last tokens are `[` and `<`
pub deferred_front : (head : Head) (name : Name) (frames : List Frame) (tokens : List Token) →
    Holds (deferred_wanted head name) frames tokens →
    (front : List Token) × (mark : Token) × (less : Token) × (tokens ≡ front ++ mark ∷ less ∷ [])
    × IsMark mark (codes "[") × IsMark less (codes "<")
deferred_front head name frames tokens
    (deferred_is_wanted _ before heads names _ _ mark less around front_stands stands bracket
    lesser) = (
      before ++ (heads ++ names),
      mark,
      less,
      ap (λ l. before ++ l) (sym (append_assoc heads names (mark ∷ less ∷ [])))
          ∙ sym (append_assoc before (heads ++ names) (mark ∷ less ∷ [])),
      bracket,
      lesser,
    )

deferred_mode : (mode : Mode) → is_deferred mode ≡ true → (head : Head) × (name : Name)
    × (mode ≡ deferred_wanted head name)
deferred_mode (deferred_wanted head name) is = (head, name, refl)
deferred_mode mode is = absurd (false≢true is)

-- what is left out where words are taken strictly: a word, or a deferred size
pub taken_leaves : (limit : ℕ) (mode : Mode) (frames : List Frame) (token : Token) (text : List ℕ) →
    taken true limit mode frames token ≡ is_left_out text →
    (step limit mode frames token ≡ is_left_out text) ⊎ ((head : Head) × (name : Name)
    × (below : List Frame) × (step limit mode frames token ≡ goes (deferred_wanted head name) below)
    × (text ≡ codes "deferred-size"))
taken_leaves limit mode frames token text is = by (step limit mode frames token) refl is
  where
    by : (what : Step) → step limit mode frames token ≡ what →
        allowed true what ≡ is_left_out text → (step limit mode frames token ≡ is_left_out text)
        ⊎ ((head : Head) × (name : Name) × (below : List Frame) × (step limit mode frames token
        ≡ goes (deferred_wanted head name) below) × (text ≡ codes "deferred-size"))
    by (goes later below) went left = on (is_deferred later) refl
      where
        on : (test : Bool) → is_deferred later ≡ test →
            (step limit mode frames token ≡ is_left_out text) ⊎ ((head : Head) × (name : Name)
            × (below : List Frame) × (step limit mode frames token
            ≡ goes (deferred_wanted head name) below) × (text ≡ codes "deferred-size"))
        on true holds =
            let (head, name, same) = deferred_mode later holds in
            inr (
              head,
              name,
              below,
              went ∙ ap (λ m. goes m below) same,
              ap (text_of text) (sym left ∙ cond-true (is_deferred later)
                  (is_left_out (codes "deferred-size"))
                  (goes later below) holds),
            )
        on false fails =
            absurd (goes_not_left later below text
            (sym (cond-false (is_deferred later) (is_left_out (codes "deferred-size"))
            (goes later below) fails) ∙ left))
    by bad went left = absurd (false≢true (ap leaves left))
    by deep went left = absurd (false≢true (ap leaves left))
    by (is_left_out own) went left = inl (went ∙ left)

-- Words that open, whatever the language.
use Rattle.std.proofs.Common.{◌≡◌, ◌⊎◌, inl, inr, subst, ℕ, suc, ◌≤◌, ◌<◌, List, ◌++◌, length}
use Rattle.std.proofs.Common.{take, arith}
use Rattle.std.proofs.lemmas.List.{append_assoc}
use Rattle.mdl_lexer.specs.declared.token.Kind.{Kind}
use Rattle.expression_grammar.specs.Languages.{Language, OpensIn, OpensToIn}
use Rattle.expression_grammar.proofs.PlaceLaws.{take_more, take_rest, less_or_same}

-- what a tree writes that is low enough, it writes where trees may be higher
abbrev pub Grows : Language → Type 0
Grows language =
    (words : List Kind) (less more : ℕ) → less ≤ more → language words less → language words more

pub opens_shorter : (language : Language) (words one other : List Kind) (most : ℕ) →
    words ≡ one ++ other → OpensIn language words most → OpensIn language one most
opens_shorter language words one other most is opens = record {
  rest = other ++ opens.rest;
  whole = subst (λ w. language w most) (append_assoc one other opens.rest)
      (subst (λ w. language (w ++ opens.rest) most) is opens.whole);
}

pub opens_to_higher : (language : Language) → Grows language → (words : List Kind)
    (at less more : ℕ) → less ≤ more → OpensToIn language words at less →
    OpensToIn language words at more
opens_to_higher language grows words at less more within (inl (inside, opens)) =
    inl (
      inside,
      record {
        rest = opens.rest;
        whole = grows (take (suc at) words ++ opens.rest) less more within opens.whole;
      },
    )
opens_to_higher language grows words at less more within (inr (behind, whole)) =
    inr (behind, grows words less more within whole)

-- a front of words that a tree writes opens
pub whole_opens : (language : Language) (words front rest : List Kind) (most : ℕ) →
    words ≡ front ++ rest → language words most → OpensIn language front most
whole_opens language words front rest most is whole = record {
  rest = rest;
  whole = subst (λ w. language w most) is whole;
}

pub opens_earlier : (language : Language) (words : List Kind) (earlier at most : ℕ) →
    earlier ≤ at → OpensToIn language words at most → OpensToIn language words earlier most
opens_earlier language words earlier at most within (inl (inside, opens)) =
    let (rest, is) = take_more words (suc earlier) (suc at) (omega (arith, within)) in
    inl (
      omega (arith, within, inside),
      opens_shorter language (take (suc at) words) (take (suc earlier) words) rest most is opens,
    )
opens_earlier language words earlier at most within (inr (behind, whole)) =
    by (less_or_same earlier (length words) (subst (λ n. earlier ≤ n) behind within))
  where
    by : (earlier < length words) ⊎ (earlier ≡ length words) →
        OpensToIn language words earlier most
    by (inl below) =
        let (rest, is) = take_rest words (suc earlier) in
        inl (below, whole_opens language words (take (suc earlier) words) rest most is whole)
    by (inr same) = inr (same, whole)

-- where the words before a place open, they open up to each place before it
pub opens_before : (language : Language) (words : List Kind) (earlier at most : ℕ) →
    earlier < at → at ≤ length words → OpensIn language (take at words) most →
    OpensToIn language words earlier most
opens_before language words earlier at most less within opens =
    let (rest, is) = take_more words (suc earlier) at (omega (arith, less)) in
    inl (
      omega (arith, less, within),
      opens_shorter language (take at words) (take (suc earlier) words) rest most is opens,
    )

-- up to a place among the words and with it
pub opens_at : (language : Language) (words : List Kind) (at most : ℕ) → at < length words →
    OpensToIn language words at most → OpensIn language (take (suc at) words) most
opens_at language words at most inside (inl (within, opens)) = opens
opens_at language words at most inside (inr (behind, whole)) =
    absurd (omega (arith, inside, behind))

pub whole_at_end : (language : Language) (words : List Kind) (most : ℕ) →
    OpensToIn language words (length words) most → language words most
whole_at_end language words most (inl (inside, opens)) = absurd (omega (arith, inside))
whole_at_end language words most (inr (behind, whole)) = whole

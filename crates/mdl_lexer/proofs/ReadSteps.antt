-- What is read at the front of a text is the one step from there.
use Rattle.std.proofs.Common.{◌≡◌, ◌≤◌, ◌∙◌, sym, ap, subst, refl, arith, inl, inr, ℕ}
use Rattle.std.proofs.Common.{List, ◌++◌, length, Option, Some, None}
use Rattle.std.proofs.lemmas.List.{length-append}
use Rattle.std.proofs.lemmas.Option.{same_Some, none-some}
use Rattle.mdl_lexer.specs.declared.token.Kind.{Kind}
use Rattle.mdl_lexer.specs.Steps.{IsForm, StepsOver, Reads}
use Rattle.mdl_lexer.specs.inside.Separators.{behind_separator}
use Rattle.mdl_lexer.proofs.SeparatorWords.{separator_found, SeparatorBound, separator_bound}
use Rattle.mdl_lexer.proofs.AnyWord.{any_word, any_word_found}
use Rattle.mdl_lexer.proofs.WordBounds.{word_rest}
use Rattle.mdl_lexer.proofs.StepLaws.{same_longest, word_is_read}
use Rattle.mdl_lexer.proofs.SeparatorSteps.{separator_longer}

-- what has no longer rest is no shorter
longer_front : (form rest longer after : List ℕ) → form ++ rest ≡ longer ++ after →
    length rest ≤ length after →
    length longer ≤ length form
longer_front form rest longer after same less =
    omega (arith, less, ap length same, length-append form rest, length-append longer after)

-- what is read as a separator is one, and nothing longer begins there
pub over_found : (text rest : List ℕ) → behind_separator text ≡ Some rest → StepsOver text rest
over_found text rest found =
    let before = separator_found text rest found in
    record {
      form = before.form;
      begins = record {
        written = before.written;
        longest = λ longer after written is.
            longer_front before.form rest longer after (sym before.written
            ∙ written) (less longer after written is);
      };
      separator = before.separator;
    }
  where
    less : (longer after : List ℕ) → text ≡ longer ++ after → IsForm longer → length rest ≤ length after
    less longer after written (inl is) =
        subst (λ o. SeparatorBound o after) (ap behind_separator (sym written)
        ∙ found) (separator_bound longer after is)
    less longer after written (inr (what, is)) =
        omega (arith, separator_longer text longer after rest what found is written)

-- a separator that begins a text is read
pub over_read : (text rest : List ℕ) → StepsOver text rest → behind_separator text ≡ Some rest
over_read text rest steps = by (behind_separator text) refl
  where
    bound : SeparatorBound (behind_separator text) rest
    bound = subst (λ t. SeparatorBound (behind_separator t) rest) (sym steps.begins.written) (separator_bound
        steps.form rest steps.separator)

    by : (read : Option (List ℕ)) → behind_separator text ≡ read → behind_separator text ≡ Some rest
    by None is = absurd (subst (λ o. SeparatorBound o rest) is bound)
    by (Some behind) is =
        let before = separator_found text behind is in
        is ∙ ap Some (same_longest text steps.form rest before.form behind steps.begins (inl
        before.separator) before.written
        (subst (λ o. SeparatorBound o rest) is bound)).1

-- where no separator begins, the word that is read is one, and nothing longer begins there
pub word_found : (text : List ℕ) (what : Kind) (rest : List ℕ) → behind_separator text ≡ None →
    any_word text ≡ Some (what, rest) →
    Reads text what rest
word_found text what rest none found =
    let before = any_word_found text what rest found in
    record {
      form = before.form;
      begins = record {
        written = before.written;
        longest = λ longer after written is.
            longer_front before.form rest longer after (sym before.written
            ∙ written) (less longer after written is);
      };
      word = before.word;
      ends = before.ends;
    }
  where
    less : (longer after : List ℕ) → text ≡ longer ++ after → IsForm longer → length rest ≤ length after
    less longer after written (inl is) =
        absurd (subst (λ o. SeparatorBound o after) (ap behind_separator (sym written)
        ∙ none) (separator_bound longer after is))
    less longer after written (inr (other, is)) =
        word_rest text longer after other (what, rest) found is written

-- where a word begins, no separator does
pub word_no_separator : (text : List ℕ) (what : Kind) (rest : List ℕ) → Reads text what rest →
    behind_separator text ≡ None
word_no_separator text what rest reads = by (behind_separator text) refl
  where
    by : (read : Option (List ℕ)) → behind_separator text ≡ read → behind_separator text ≡ None
    by None is = is
    by (Some behind) is =
        let before = separator_found text behind is in
        absurd (omega (
          arith,
          separator_longer text reads.form rest behind what is reads.word reads.begins.written,
          reads.begins.longest before.form behind before.written (inl before.separator),
          ap length (sym before.written ∙ reads.begins.written),
          length-append before.form behind,
          length-append reads.form rest,
        ))

-- a step is the only one from its place
pub one_over : (text rest other : List ℕ) → StepsOver text rest → StepsOver text other → rest ≡ other
one_over text rest other a b = same_Some rest other (sym (over_read text rest a) ∙ over_read text other b)

pub one_word : (text : List ℕ) (what other : Kind) (rest behind : List ℕ) → Reads text what rest →
    Reads text other behind →
    (what ≡ other) × (rest ≡ behind)
one_word text what other rest behind a b =
    let same = same_Some (what, rest) (other, behind) (sym (word_is_read text what rest a)
    ∙ word_is_read text other behind b) in
    (ap (λ (w : Kind × List ℕ). w.0) same, ap (λ (w : Kind × List ℕ). w.1) same)

pub over_or_word : (text : List ℕ) (what : Kind) (rest behind : List ℕ) → StepsOver text rest →
    Reads text what behind → ⊥
over_or_word text what rest behind over word =
    none-some rest (sym (word_no_separator text what behind word) ∙ over_read text rest over)

-- Reading one separator or word from the front of a text, and the definition of steps agree.
use Rattle.std.proofs.Common.{◌≡◌, ◌≤◌, ◌∙◌, sym, ap, subst, refl, arith, inr, ℕ, true}
use Rattle.std.proofs.Common.{false}
use Rattle.std.proofs.Common.{List, [], ◌∷◌, ◌++◌, length, Option, Some, None, encode_utf8_all}
use Rattle.std.proofs.lemmas.Bool.{cond-false, false≢true}
use Rattle.std.proofs.lemmas.List.{length-append}
use Rattle.mdl_lexer.specs.declared.token.Kind.{Kind}
use Rattle.mdl_lexer.specs.declared.token.Kind.TheVariants as kind
use Rattle.mdl_lexer.specs.Forms.{IsWord}
use Rattle.mdl_lexer.specs.Steps.{IsForm, Begins, Reads, is_number, goes_on}
use Rattle.mdl_lexer.specs.inside.Reading.{begins_number}
use Rattle.mdl_lexer.specs.inside.Tokens.{name_in, mark_in}
use Rattle.mdl_lexer.proofs.ListLaws.{same_front}
use Rattle.mdl_lexer.proofs.NumberWords.{any_number, number_found, NumberBound, number_bound, number_begins}
use Rattle.mdl_lexer.proofs.NumberWords.{point_found}
use Rattle.mdl_lexer.proofs.MarkWords.{MarkBound, mark_bound}
use Rattle.mdl_lexer.proofs.WordKinds.{ANumber, sort_of, sort_at, Sorted, by_sort, by_point, sorted}
use Rattle.mdl_lexer.proofs.WordKinds.{number_at}
use Rattle.mdl_lexer.proofs.AnyWord.{string_word, mark_word, ended, word_by, any_word}
use Rattle.mdl_lexer.proofs.AnyWord.{any_word_found}
use Rattle.mdl_lexer.proofs.AnyWord.{string_text, word_some}
use Rattle.mdl_lexer.proofs.WordBounds.{word_rest}
use Rattle.mdl_lexer.proofs.WordsAlone.{one_kind}

-- a form at the front of a text whose rest isn't longer than that of the longest one is the longest one
pub same_longest : (text form rest other behind : List ℕ) → Begins text form rest → IsForm other →
    text ≡ other ++ behind → length behind ≤ length rest → (other ≡ form) × (behind ≡ rest)
same_longest text form rest other behind begins is written less =
    same_front other behind form rest (sym written ∙ begins.written)
    (omega (
      arith,
      less,
      begins.longest other behind written is,
      ap length (sym written ∙ begins.written),
      length-append other behind,
      length-append form rest,
    ))

-- a number that ends is read where one stands
number_some : (char : ℕ) (text form rest : List ℕ) (what : Kind) → IsWord form what → is_number what ≡ true →
    Begins (char ∷ text) form rest → goes_on rest ≡ false →
    (word : Kind × List ℕ) × (ended (any_number (char ∷ text)) ≡ Some word)
number_some char text form rest what is number begins ends = by (any_number (char ∷ text)) refl
  where
    bound : NumberBound (any_number (char ∷ text)) rest
    bound = subst (λ t. NumberBound (any_number t) rest) (sym begins.written) (number_bound form rest what is
        number)

    by : (read : Option (Kind × List ℕ)) → any_number (char ∷ text) ≡ read →
        (word : Kind × List ℕ) × (ended (any_number (char ∷ text)) ≡ Some word)
    by None read = absurd (false≢true (sym ends ∙ subst (λ o. NumberBound o rest) read bound))
    by (Some word) read =
        let before = number_found (char ∷ text) word.0 word.1
        (ap begins_number begins.written ∙ number_begins form rest what is number) read in
        let same = same_longest (char ∷ text) form rest before.form word.1 begins (inr (word.0, before.word))
        before.written (subst (λ o. NumberBound o rest) read bound) in
        (word, ap ended read ∙ cond-false (goes_on word.1) None (Some word) (ap goes_on same.1 ∙ ends))

mark_some : (text form rest : List ℕ) (number : ℕ) → IsWord form (kind.Mark number) → text ≡ form ++ rest →
    (read : Option (ℕ × List ℕ)) → mark_in text ≡ read →
    (word : Kind × List ℕ) × (mark_word (mark_in text) ≡ Some word)
mark_some text form rest number is written None read =
    absurd (subst (λ o. MarkBound o rest) (ap mark_in (sym written) ∙ read) (mark_bound form rest number is))
mark_some text form rest number is written (Some mark) read = ((kind.Mark mark.0, mark.1), ap mark_word read)

some_by : (char : ℕ) (text form rest : List ℕ) (what : Kind) → IsWord form what →
    Begins (char ∷ text) form rest →
    (is_number what ≡ true → goes_on rest ≡ false) →
    (word : Kind × List ℕ) × (word_by (sort_of what) char text ≡ Some word)
some_by char text form rest (kind.Word own) is begins ends = (name_in (char ∷ text) text, refl)
some_by char text form rest (kind.Reserved number) is begins ends = (name_in (char ∷ text) text, refl)
some_by char text form rest (kind.Mark number) is begins ends =
    mark_some (char ∷ text) form rest number is begins.written (mark_in (char ∷ text)) refl
some_by char text form rest (kind.Int value) is begins ends =
    number_some char text form rest (kind.Int value) is refl begins (ends refl)
some_by char text form rest (kind.Real own double) is begins ends =
    number_some char text form rest (kind.Real own double) is refl begins (ends refl)
some_by char text form rest (kind.Str own) is begins ends = (
  (kind.Str (encode_utf8_all is.meaning), rest),
  ap string_word (string_text char text form rest own is
      begins.written),
)

-- a `.` before a digit isn't the longest form
no_point : (char : ℕ) (text form rest : List ℕ) → Begins (char ∷ text) form rest → form ≡ 46 ∷ [] →
    sort_at char text ≡ ANumber → ⊥
no_point char text form rest begins point sort = by (any_number (46 ∷ rest)) refl
  where
    written : char ∷ text ≡ 46 ∷ rest
    written = begins.written ∙ ap (λ f. f ++ rest) point

    by : (read : Option (Kind × List ℕ)) → any_number (46 ∷ rest) ≡ read → ⊥
    by None read = point_found rest read
    by (Some word) read =
        let before = number_found (46 ∷ rest) word.0 word.1 (ap begins_number (sym written)
        ∙ number_at char text sort) read in
        let longest = begins.longest before.form word.1 (written
        ∙ before.written) (inr (word.0, before.word)) in
        let whole : before.form ≡ 46 ∷ [] =
        (same_front before.form word.1 (46 ∷ []) rest (sym before.written)
        (omega (arith, longest, ap length point, word_some before.form word.0 before.word))).0 in
        absurd (false≢true (ap begins_number (sym (ap (λ f. f ++ []) whole))
        ∙ number_begins before.form [] word.0 before.word before.number))

some_at : (char : ℕ) (text form rest : List ℕ) (what : Kind) → IsWord form what →
    Begins (char ∷ text) form rest →
    (is_number what ≡ true → goes_on rest ≡ false) → Sorted char text form what →
    (word : Kind × List ℕ) × (any_word (char ∷ text) ≡ Some word)
some_at char text form rest what is begins ends (by_sort same) =
    let found = some_by char text form rest what is begins ends in
    (found.0, ap (λ sort. word_by sort char text) (sym same) ∙ found.1)
some_at char text form rest what is begins ends (by_point point sort) =
    absurd (no_point char text form rest begins point sort)

reads_some : (text : List ℕ) (what : Kind) (rest : List ℕ) → Reads text what rest →
    (word : Kind × List ℕ) × (any_word text ≡ Some word)
reads_some [] what rest reads =
    absurd (omega (
      arith,
      ap length reads.begins.written,
      length-append reads.form rest,
      word_some reads.form
          what reads.word,
    ))
reads_some (char ∷ text) what rest reads =
    some_at char text reads.form rest what reads.word reads.begins reads.ends
    (sorted char text reads.form rest what reads.word reads.begins.written)

-- a word that stands at the front of a text is read
pub word_is_read : (text : List ℕ) (what : Kind) (rest : List ℕ) → Reads text what rest →
    any_word text ≡ Some (what, rest)
word_is_read text what rest reads =
    let found = reads_some text what rest reads in
    let before = any_word_found text found.0.0 found.0.1 found.1 in
    let less = word_rest text reads.form rest what found.0 found.1 reads.word reads.begins.written in
    let same = same_longest text reads.form rest before.form found.0.1 reads.begins (inr (
      found.0.0,
      before.word,
    ))
    before.written less in
    let one : found.0.0 ≡ what =
    one_kind reads.form found.0.0 what (subst (λ f. IsWord f found.0.0) same.0 before.word) reads.word in
    found.1 ∙ (ap (λ (w : Kind). Some (w, found.0.1)) one ∙ ap (λ (r : List ℕ). Some (what, r)) same.1)

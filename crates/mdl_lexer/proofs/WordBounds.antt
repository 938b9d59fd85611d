-- No word at the front of a text is longer than the one that is read.
use Rattle.std.proofs.Common.{◌≡◌, ◌≤◌, ◌∙◌, sym, ap, subst, refl, arith, ℕ, Bool, true, false}
use Rattle.std.proofs.Common.{List, [], ◌∷◌, ◌++◌, length, Option, Some, None, encode_utf8_all}
use Rattle.std.proofs.lemmas.Bool.{cond-true, cond-false}
use Rattle.std.proofs.lemmas.List.{length-append}
use Rattle.std.proofs.lemmas.Option.{same_Some, none-some}
use Rattle.case_table.specs.Tables.{value_of}
use Rattle.mdl_lexer.specs.declared.token.Kind.{Kind}
use Rattle.mdl_lexer.specs.declared.token.Kind.TheVariants as kind
use Rattle.mdl_lexer.specs.Forms.{IsWord, is_name}
use Rattle.mdl_lexer.specs.Steps.{is_number, goes_on}
use Rattle.mdl_lexer.specs.WordTables.{marks}
use Rattle.mdl_lexer.specs.inside.Tokens.{name_in, mark_in}
use Rattle.mdl_lexer.proofs.TableLaws.{reserved_is_name}
use Rattle.mdl_lexer.proofs.NumberWords.{any_number, NumberBound, number_bound}
use Rattle.mdl_lexer.proofs.NameWords.{name_bound}
use Rattle.mdl_lexer.proofs.MarkWords.{MarkBound, mark_bound}
use Rattle.mdl_lexer.proofs.WordKinds.{sort_of, Sorted}
use Rattle.mdl_lexer.proofs.WordKinds.{by_sort, by_point, sorted}
use Rattle.mdl_lexer.proofs.AnyWord.{string_word, mark_word, ended, word_by, any_word}
use Rattle.mdl_lexer.proofs.AnyWord.{any_word_found}
use Rattle.mdl_lexer.proofs.AnyWord.{string_text, word_some}

-- a number that ended was read
ended_some : (read : Option (Kind × List ℕ)) (word : Kind × List ℕ) → ended read ≡ Some word →
    read ≡ Some word
ended_some None word found = absurd (none-some word found)
ended_some (Some read) word found = by (goes_on read.1) refl
  where
    by : (b : Bool) → goes_on read.1 ≡ b → Some read ≡ Some word
    by true goes = absurd (none-some word (sym (cond-true (goes_on read.1) None (Some read) goes) ∙ found))
    by false ends = sym (cond-false (goes_on read.1) None (Some read) ends) ∙ found

-- a number's rest isn't longer than that of any number there
number_rest : (char : ℕ) (text form rest : List ℕ) (what : Kind) (word : Kind × List ℕ) → IsWord form what →
    is_number what ≡ true → char ∷ text ≡ form ++ rest → any_number (char ∷ text) ≡ Some word →
    length word.1 ≤ length rest
number_rest char text form rest what word is number written read =
    subst (λ o. NumberBound o rest) (ap any_number (sym written)
    ∙ read) (number_bound form rest what is number)

mark_rest : (text form rest : List ℕ) (number : ℕ) (read : Option (ℕ × List ℕ)) (word : Kind × List ℕ) →
    value_of marks form ≡ Some number → text ≡ form ++ rest → mark_in text ≡ read →
    mark_word read ≡ Some word →
    length word.1 ≤ length rest
mark_rest text form rest number None word is written read found = absurd (none-some word found)
mark_rest text form rest number (Some mark) word is written read found =
    subst (λ (w : Kind × List ℕ). length w.1 ≤ length rest) (same_Some (kind.Mark mark.0, mark.1) word found)
    (subst (λ o. MarkBound o rest) (ap mark_in (sym written) ∙ read) (mark_bound form rest number is))

name_rest : (char : ℕ) (text form rest : List ℕ) (word : Kind × List ℕ) → is_name form ≡ true →
    char ∷ text ≡ form ++ rest → Some (name_in (char ∷ text) text) ≡ Some word → length word.1 ≤ length rest
name_rest char text form rest word name written found =
    subst (λ (w : Kind × List ℕ). length w.1 ≤ length rest) (same_Some (name_in (char ∷ text) text) word
    found)
    (name_bound char text form rest name written)

-- the same for each word of the place's sort
rest_by : (char : ℕ) (text form rest : List ℕ) (what : Kind) (word : Kind × List ℕ) → IsWord form what →
    char ∷ text ≡ form ++ rest → word_by (sort_of what) char text ≡ Some word → length word.1 ≤ length rest
rest_by char text form rest (kind.Word own) word is written found =
    name_rest char text form rest word is.0 written found
rest_by char text form rest (kind.Reserved number) word is written found =
    name_rest char text form rest word (reserved_is_name form number is) written found
rest_by char text form rest (kind.Mark number) word is written found =
    mark_rest (char ∷ text) form rest number (mark_in (char ∷ text)) word is written refl found
rest_by char text form rest (kind.Int value) word is written found =
    number_rest char text form rest (kind.Int value) word is refl written
    (ended_some (any_number (char ∷ text)) word found)
rest_by char text form rest (kind.Real own double) word is written found =
    number_rest char text form rest (kind.Real own double) word is refl written
    (ended_some (any_number (char ∷ text)) word found)
rest_by char text form rest (kind.Str own) word is written found =
    subst (λ (w : Kind × List ℕ). length w.1 ≤ length rest)
    (same_Some (kind.Str (encode_utf8_all is.meaning), rest) word
    (sym (ap string_word (string_text char text form rest own is written)) ∙ found))
    (omega arith)

-- a word isn't shorter than the mark `.`
point_rest : (text form rest : List ℕ) (word : Kind × List ℕ) → form ≡ 46 ∷ [] → text ≡ form ++ rest →
    any_word text ≡ Some word → length word.1 ≤ length rest
point_rest text form rest word point written found =
    let before = any_word_found text word.0 word.1 found in
    omega (
      arith,
      word_some before.form word.0 before.word,
      ap length (sym before.written ∙ (written ∙ ap (λ f. f ++ rest) point)),
      length-append before.form word.1,
    )

rest_at : (char : ℕ) (text form rest : List ℕ) (what : Kind) (word : Kind × List ℕ) → IsWord form what →
    char ∷ text ≡ form ++ rest → any_word (char ∷ text) ≡ Some word → Sorted char text form what →
    length word.1 ≤ length rest
rest_at char text form rest what word is written found (by_sort same) =
    rest_by char text form rest what word is written (ap (λ sort. word_by sort char text) same ∙ found)
rest_at char text form rest what word is written found (by_point point sort) =
    point_rest (char ∷ text) form rest word point written found

-- the word that is read is as long as any that stands there
pub word_rest : (text form rest : List ℕ) (what : Kind) (word : Kind × List ℕ) → any_word text ≡ Some word →
    IsWord form what → text ≡ form ++ rest → length word.1 ≤ length rest
word_rest [] form rest what word found is written = absurd (none-some word found)
word_rest (char ∷ text) form rest what word found is written =
    rest_at char text form rest what word is written found (sorted char text form rest what is written)

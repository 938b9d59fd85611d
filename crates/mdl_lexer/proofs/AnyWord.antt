-- The longest word at the front of a text, as a function, and the definition of words agree.
use Rattle.std.proofs.Common.{◌≡◌, ◌≤◌, ◌∙◌, sym, ap, subst, refl, arith, ℕ, Bool, true, false}
use Rattle.std.proofs.Common.{◌==◌}
use Rattle.std.proofs.Common.{List, [], ◌∷◌, ◌++◌, length, Option, Some, None, if◌then◌else◌, encode_utf8_all}
use Rattle.std.proofs.Common.{option_map}
use Rattle.std.proofs.lemmas.Bool.{cond-true, cond-false, false≢true}
use Rattle.std.proofs.lemmas.Bool.Decides.{nat_tests}
use Rattle.std.proofs.lemmas.List.{append_assoc}
use Rattle.std.proofs.lemmas.Option.{same_Some, none-some}
use Rattle.mdl_lexer.specs.declared.token.Kind.{Kind}
use Rattle.mdl_lexer.specs.declared.token.Kind.TheVariants as kind
use Rattle.mdl_lexer.specs.Characters.{starts_name}
use Rattle.mdl_lexer.specs.Strings.{IsStringOf}
use Rattle.mdl_lexer.specs.Forms.{IsWord}
use Rattle.mdl_lexer.specs.Steps.{is_number, goes_on}
use Rattle.mdl_lexer.specs.inside.Reading.{begins_number, front_of}
use Rattle.mdl_lexer.specs.inside.Strings.{string_in}
use Rattle.mdl_lexer.specs.inside.Tokens.{name_in, mark_in}
use Rattle.mdl_lexer.proofs.ListLaws.{tail_of}
use Rattle.mdl_lexer.proofs.TableLaws.{reserved_is_name, is_mark}
use Rattle.mdl_lexer.proofs.StringWords.{string_found, string_read_back}
use Rattle.mdl_lexer.proofs.NumberWords.{any_number, number_found}
use Rattle.mdl_lexer.proofs.NumberWords.{number_begins}
use Rattle.mdl_lexer.proofs.NameWords.{name_found, name_written, name_no_number}
use Rattle.mdl_lexer.proofs.MarkWords.{mark_found}
use Rattle.mdl_lexer.proofs.WordKinds.{Sort, AString, ANumber, AName, AMark, sort_at}

-- a string and the rest, as a word
abbrev pub string_word : Option (List ℕ × List ℕ) → Option (Kind × List ℕ)
string_word found = option_map (λ (string : List ℕ × List ℕ). (
  kind.Str (encode_utf8_all string.0),
  string.1,
)) found

-- a mark and the rest, as a word
abbrev pub mark_word : Option (ℕ × List ℕ) → Option (Kind × List ℕ)
mark_word found = option_map (λ (mark : ℕ × List ℕ). (kind.Mark mark.0, mark.1)) found

-- a number that doesn't go on
abbrev pub ended : Option (Kind × List ℕ) → Option (Kind × List ℕ)
ended None = None
ended (Some found) = if goes_on found.1 then None else Some found

-- the longest word of a sort
abbrev pub word_by : Sort → ℕ → List ℕ → Option (Kind × List ℕ)
word_by AString char text = string_word (string_in (length text) text)
word_by ANumber char text = ended (any_number (char ∷ text))
word_by AName char text = Some (name_in (char ∷ text) text)
word_by AMark char text = mark_word (mark_in (char ∷ text))

-- the longest word
abbrev pub any_word : List ℕ → Option (Kind × List ℕ)
any_word [] = None
any_word (char ∷ text) = word_by (sort_at char text) char text

-- a word stands before a rest
pub record WordBefore (text : List ℕ) (what : Kind) (rest : List ℕ) : Type 0 where
  pub form : List ℕ
  pub written : text ≡ form ++ rest
  pub word : IsWord form what
  pub ends : is_number what ≡ true → goes_on rest ≡ false

string_before : (char : ℕ) (text : List ℕ) (what : Kind) (rest : List ℕ) → (char == 34) ≡ true →
    (found : Option (List ℕ × List ℕ)) → string_in (length text) text ≡ found →
    string_word found ≡ Some (what, rest) →
    WordBefore (char ∷ text) what rest
string_before char text what rest quote None is found = absurd (none-some (what, rest) found)
string_before char text what rest quote (Some (meaning, after)) is found =
    let before = string_found (length text) text meaning after is in
    subst (λ (w : Kind × List ℕ). WordBefore (char ∷ text) w.0 w.1) (same_Some (
      kind.Str (encode_utf8_all
          meaning),
      after,
    ) (what, rest) found)
    (record {
      form = 34 ∷ (before.body ++ 34 ∷ []);
      written =
          ap (λ c. c ∷ text) (is_quote char quote)
          ∙ ap (λ t. 34 ∷ t) (before.written ∙ sym (append_assoc before.body (34 ∷ []) after));
      word = record {
        body = before.body;
        meaning = meaning;
        written = refl;
        is_body =
            before.is_body;
        bytes = refl;
      };
      ends = λ number. absurd (false≢true number);
    })
  where
    is_quote : (c : ℕ) → (c == 34) ≡ true → c ≡ 34
    is_quote c e = grind (arith, nat_tests)

number_before : (char : ℕ) (text : List ℕ) (what : Kind) (rest : List ℕ) →
    begins_number (char ∷ text) ≡ true →
    (found : Option (Kind × List ℕ)) → any_number (char ∷ text) ≡ found → ended found ≡ Some (what, rest) →
    WordBefore (char ∷ text) what rest
number_before char text what rest number None is found = absurd (none-some (what, rest) found)
number_before char text what rest number (Some word) is found = by (goes_on word.1) refl
  where
    by : (b : Bool) → goes_on word.1 ≡ b → WordBefore (char ∷ text) what rest
    by true goes = absurd (none-some (what, rest) (sym (cond-true (goes_on word.1) None (Some word) goes)
        ∙ found))
    by false ends =
        let before = number_found (char ∷ text) word.0 word.1 number is in
        subst (λ (w : Kind × List ℕ). WordBefore (char ∷ text) w.0 w.1)
        (same_Some word (what, rest) (sym (cond-false (goes_on word.1) None (Some word) ends) ∙ found))
        (record { form = before.form; written = before.written; word = before.word; ends = λ number. ends })

name_before : (char : ℕ) (text : List ℕ) (what : Kind) (rest : List ℕ) → starts_name char ≡ true →
    Some (name_in (char ∷ text) text) ≡ Some (what, rest) → WordBefore (char ∷ text) what rest
name_before char text what rest starts found =
    let name = name_in (char ∷ text) text in
    subst (λ (w : Kind × List ℕ). WordBefore (char ∷ text) w.0 w.1) (same_Some name (what, rest) found)
    (record {
      form = front_of (char ∷ text) name.1;
      written = name_written char text;
      word = name_found char text starts;
      ends = λ number. absurd (false≢true (sym (name_no_number char text) ∙ number));
    })

mark_before : (text : List ℕ) (what : Kind) (rest : List ℕ) → (found : Option (ℕ × List ℕ)) →
    mark_in text ≡ found → mark_word found ≡ Some (what, rest) → WordBefore text what rest
mark_before text what rest None is found = absurd (none-some (what, rest) found)
mark_before text what rest (Some mark) is found =
    let before = mark_found text mark.0 mark.1 is in
    subst (λ (w : Kind × List ℕ). WordBefore text w.0 w.1) (same_Some (kind.Mark mark.0, mark.1) (what, rest)
    found)
    (record {
      form = before.form;
      written = before.written;
      word = before.mark;
      ends = λ number. absurd (false≢true number);
    })

-- what is read is a word
pub any_word_found : (text : List ℕ) (what : Kind) (rest : List ℕ) → any_word text ≡ Some (what, rest) →
    WordBefore text what rest
any_word_found [] what rest found = absurd (none-some (what, rest) found)
any_word_found (char ∷ text) what rest found = by (char == 34) refl (begins_number (char ∷ text)) refl
    (starts_name char) refl
  where
    at : Sort → Type 0
    at sort = word_by sort char text ≡ Some (what, rest)

    by : (a : Bool) → (char == 34) ≡ a → (b : Bool) → begins_number (char ∷ text) ≡ b → (c : Bool) →
        starts_name char ≡ c →
        WordBefore (char ∷ text) what rest
    by true quote b number c starts =
        string_before char text what rest quote (string_in (length text) text) refl
        (subst at (cond-true (char == 34) AString _ quote) found)
    by false quote true number c starts =
        number_before char text what rest number (any_number (char ∷ text)) refl
        (subst at
        (cond-false (char == 34) AString _ quote
        ∙ cond-true (begins_number (char ∷ text)) ANumber (if starts_name char then AName else AMark) number)
        found)
    by false quote false number true starts =
        name_before char text what rest starts
        (subst at
        (cond-false (char == 34) AString _ quote
        ∙ (cond-false (begins_number (char ∷ text)) ANumber _ number
        ∙ cond-true (starts_name char) AName AMark starts)) found)
    by false quote false number false starts =
        mark_before (char ∷ text) what rest (mark_in (char ∷ text)) refl
        (subst at
        (cond-false (char == 34) AString _ quote
        ∙ (cond-false (begins_number (char ∷ text)) ANumber _ number
        ∙ cond-false (starts_name char) AName AMark starts)) found)

-- the text of a string's word, behind its first quote
pub string_text : (char : ℕ) (text form rest own : List ℕ) → (s : IsStringOf form own) →
    char ∷ text ≡ form ++ rest →
    string_in (length text) text ≡ Some (s.meaning, rest)
string_text char text form rest own s written =
    let same : text ≡ s.body ++ 34 ∷ rest =
    ap tail_of (written ∙ ap (λ f. f ++ rest) s.written) ∙ append_assoc s.body (34 ∷ []) rest in
    ap (λ t. string_in (length text) t) same
    ∙ string_read_back (length text) s.body s.meaning rest s.is_body (omega (arith, ap length same))

-- a word is not empty
pub word_some : (form : List ℕ) (what : Kind) → IsWord form what → 1 ≤ length form
word_some (char ∷ form) what word = omega arith
word_some [] (kind.Word own) word = absurd (false≢true word.0)
word_some [] (kind.Reserved number) word = absurd (false≢true (reserved_is_name [] number word))
word_some [] (kind.Mark number) word = let is = is_mark [] number word in absurd (omega (
  arith,
  ap length
      is.written,
))
word_some [] (kind.Int value) word = absurd (false≢true (number_begins [] [] (kind.Int value) word refl))
word_some [] (kind.Real own double) word = absurd (false≢true (number_begins [] [] (kind.Real own double)
    word refl))
word_some [] (kind.Str own) word = absurd (omega (arith, ap length word.written))

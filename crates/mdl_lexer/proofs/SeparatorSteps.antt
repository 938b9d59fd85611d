-- Separators and words don't stand at one place.
use Rattle.std.proofs.Common.{◌≡◌, ◌≤◌, ◌<◌, ◌⊎◌, ◌∙◌, sym, ap, refl, arith, inl, inr, ℕ, Bool, true, false}
use Rattle.std.proofs.Common.{◌==◌, ◌||◌, ◌&&◌, List, [], ◌∷◌, ◌++◌, length, Some, None}
use Rattle.std.specs.List.{list_all}
use Rattle.std.proofs.lemmas.Bool.{cond-false, false≢true, true≢false, and_parts}
use Rattle.std.proofs.lemmas.Bool.Decides.{nat_tests}
use Rattle.std.proofs.lemmas.List.{length-append, append-nil}
use Rattle.std.proofs.lemmas.Option.{none-some}
use Rattle.mdl_lexer.specs.declared.token.Kind.{Kind}
use Rattle.mdl_lexer.specs.declared.token.Kind.TheVariants as kind
use Rattle.mdl_lexer.specs.Characters.{is_blank, is_digit, starts_name, continues_name}
use Rattle.mdl_lexer.specs.Forms.{is_name, IsWord, IsSeparator, blank, line, block}
use Rattle.mdl_lexer.specs.inside.Cutting.{begins, extends_mark}
use Rattle.mdl_lexer.specs.inside.Separators.{behind_separator, behind_comment}
use Rattle.mdl_lexer.specs.inside.Reading.{begins_number}
use Rattle.mdl_lexer.proofs.ListLaws.{head_or, tail_of}
use Rattle.mdl_lexer.proofs.TableLaws.{IsMark, is_mark, reserved_is_name}
use Rattle.mdl_lexer.proofs.SeparatorWords.{separator_found}
use Rattle.mdl_lexer.proofs.NumberWords.{number_begins}
use Rattle.mdl_lexer.proofs.WordKinds.{Sort, AMark, sort_of, starts_only}
use Rattle.mdl_lexer.proofs.AnyWord.{word_some}

-- a character of a word's front that begins no separator
record NoSeparator (char : ℕ) : Type 0 where
  no_blank : is_blank char ≡ false
  no_slash : (char == 47) ≡ false

by_name : (char : ℕ) (form : List ℕ) → is_name (char ∷ form) ≡ true → NoSeparator char
by_name char form name =
    let only = starts_only char (and_parts (starts_name char) (list_all continues_name form) name).0 in
    record { no_blank = only.no_blank; no_slash = only.no_slash }

by_number : (char : ℕ) (form : List ℕ) → begins_number (char ∷ form) ≡ true → NoSeparator char
by_number char form number = by (is_digit char) refl
  where
    digit : is_digit char ≡ true → NoSeparator char
    digit is = record { no_blank = grind (arith, nat_tests); no_slash = grind (arith, nat_tests) }

    point : (char == 46) ≡ true → NoSeparator char
    point is = record { no_blank = grind (arith, nat_tests); no_slash = grind (arith, nat_tests) }

    by : (b : Bool) → is_digit char ≡ b → NoSeparator char
    by true is = digit is
    by false is =
        point (and_parts (char == 46) (begins is_digit form)
        (sym (ap (λ (b : Bool). b || ((char == 46) && begins is_digit form)) is) ∙ number)).0

abbrev is_marks : Sort → Bool
is_marks AMark = true
is_marks _ = false

-- a word that isn't a mark begins as no separator
no_separator : (char : ℕ) (form : List ℕ) (what : Kind) → IsWord (char ∷ form) what →
    is_marks (sort_of what) ≡ false → NoSeparator char
no_separator char form (kind.Word own) is other = by_name char form is.0
no_separator char form (kind.Reserved number) is other =
    by_name char form (reserved_is_name (char ∷ form) number is)
no_separator char form (kind.Mark number) is other = absurd (true≢false other)
no_separator char form (kind.Int value) is other =
    by_number char form (ap begins_number (sym (append-nil (char ∷ form)))
    ∙ number_begins (char ∷ form) [] (kind.Int value) is refl)
no_separator char form (kind.Real own double) is other =
    by_number char form (ap begins_number (sym (append-nil (char ∷ form)))
    ∙ number_begins (char ∷ form) [] (kind.Real own double) is refl)
no_separator char form (kind.Str own) is other =
    let quote : char ≡ 34 = ap (head_or char) is.written in
    record { no_blank = ap is_blank quote; no_slash = ap (λ c. c == 47) quote }

-- no separator begins with such a character
nothing_behind : (char : ℕ) (text : List ℕ) → NoSeparator char → behind_separator (char ∷ text) ≡ None
unfolding behind_separator
nothing_behind char text is =
    cond-false (is_blank char) (Some text) _ is.no_blank
    ∙ cond-false (char == 47) (behind_comment text) None is.no_slash

-- `/` or `*`
abbrev comments : ℕ → Bool
comments char = char == 47 || char == 42

-- a separator is a blank, or a comment of two characters or more
record IsComment (form rest text : List ℕ) : Type 0 where
  long : 2 ≤ length form
  second : begins comments text ≡ true

separator_shape : (form rest : List ℕ) (char : ℕ) (text : List ℕ) → IsSeparator form →
    char ∷ text ≡ form ++ rest →
    (is_blank char ≡ true) ⊎ IsComment form rest text
separator_shape form rest char text (blank is) written = inl (ap is_blank (ap (head_or char) written) ∙ is)
separator_shape form rest char text (line comment) written =
    inr (record {
      long = omega (arith, ap length comment.written);
      second = ap (begins comments) (ap tail_of (written ∙ ap (λ f. f ++ rest) comment.written));
    })
separator_shape form rest char text (block comment) written =
    inr (record {
      long = omega (arith, ap length comment.written);
      second = ap (begins comments) (ap tail_of (written ∙ ap (λ f. f ++ rest) comment.written));
    })

-- a comment is longer than a mark there
mark_shorter : (char : ℕ) (text form rest behind other : List ℕ) → IsMark form → char ∷ text ≡ form ++ rest →
    IsSeparator other → char ∷ text ≡ other ++ behind → length behind < length rest
mark_shorter char text form rest behind other mark written separator also =
    by (separator_shape other behind char text separator also)
  where
    same : char ∷ text ≡ mark.first ∷ (mark.others ++ rest)
    same = written ∙ ap (λ f. f ++ rest) mark.written

    apart : (c : ℕ) → comments c ≡ true → extends_mark c ≡ true → ⊥
    apart c comment extends = grind (arith, nat_tests)

    short : (others : List ℕ) → list_all extends_mark others ≡ true →
        begins comments (others ++ rest) ≡ true → length others ≡ 0
    short [] all second = refl
    short (c ∷ others) all second =
        absurd (apart c second (and_parts (extends_mark c) (list_all extends_mark others) all).0)

    by : (is_blank char ≡ true) ⊎ IsComment other behind text → length behind < length rest
    by (inl is) = absurd (false≢true (sym (ap is_blank (ap (head_or char) same) ∙ mark.no_blank) ∙ is))
    by (inr comment) =
        omega (
          arith,
          comment.long,
          short mark.others mark.extend (ap (begins comments) (sym (ap tail_of same)) ∙ comment.second),
          ap length same,
          length-append mark.others rest,
          ap length also,
          length-append other behind,
        )

-- a separator that is found is longer than a word there
pub separator_longer : (text form rest behind : List ℕ) (what : Kind) → behind_separator text ≡ Some behind →
    IsWord form what → text ≡ form ++ rest → length behind < length rest
separator_longer text [] rest behind what found is written = absurd (omega (arith, word_some [] what is))
separator_longer text (char ∷ form) rest behind (kind.Mark number) found is written =
    let before = separator_found text behind found in
    mark_shorter char (form ++ rest) (char ∷ form) rest behind before.form (is_mark (char ∷ form) number is)
    refl
    before.separator (sym written ∙ before.written)
separator_longer text (char ∷ form) rest behind what found is written =
    absurd (none-some behind
    (sym (nothing_behind char (form ++ rest) (no_separator char form what is refl))
    ∙ (ap behind_separator (sym written) ∙ found)))

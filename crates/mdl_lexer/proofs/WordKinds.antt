-- The first character of a word tells its kind.
use Rattle.std.proofs.Common.{◌≡◌, ◌≤◌, ◌<◌, ◌⊎◌, ◌∙◌, inl, inr, sym, ap, refl, arith, ℕ, Bool, true}
use Rattle.std.proofs.Common.{false, ◌==◌, ◌&&◌, ◌||◌}
use Rattle.std.proofs.Common.{List, [], ◌∷◌, ◌++◌, if◌then◌else◌, Option, Some, None, encode_utf8_all}
use Rattle.std.specs.Char.{is_ascii_alphabetic}
use Rattle.std.specs.List.{list_all}
use Rattle.std.proofs.lemmas.Bool.{cond-true, cond-false, and_parts, false≢true, or_from, cases_lt}
use Rattle.std.proofs.lemmas.Bool.Decides.{nat_tests}
use Rattle.unicode_ident.proofs.IdentLemmas.{is_xid_start-ascii}
use Rattle.mdl_lexer.specs.declared.token.Kind.{Kind}
use Rattle.mdl_lexer.specs.declared.token.Kind.TheVariants as kind
use Rattle.mdl_lexer.specs.Characters.{is_blank, is_digit, starts_name, continues_name}
use Rattle.mdl_lexer.specs.Forms.{IsWord, is_name}
use Rattle.mdl_lexer.specs.Steps.{is_number}
use Rattle.mdl_lexer.specs.inside.Cutting.{begins, drop_while, extends_mark}
use Rattle.mdl_lexer.specs.WordTables.{reserved_in_use, reserved_left_out}
use Rattle.mdl_lexer.specs.inside.Reading.{begins_number, front_of}
use Rattle.mdl_lexer.specs.inside.Tokens.{name_in, name_kind, number_in_either}
use Rattle.mdl_lexer.proofs.ListLaws.{head_or, tail_of}
use Rattle.mdl_lexer.proofs.NumberWords.{number_begins}
use Rattle.mdl_lexer.proofs.TableLaws.{IsMark, is_mark, reserved_is_name}

-- a sort of words: strings, numbers, names and marks
pub data Sort : Type 0 where
  AString : Sort
  ANumber : Sort
  AName : Sort
  AMark : Sort

abbrev pub sort_of : Kind → Sort
sort_of (kind.Word own) = AName
sort_of (kind.Reserved number) = AName
sort_of (kind.Mark number) = AMark
sort_of (kind.Int value) = ANumber
sort_of (kind.Real own double) = ANumber
sort_of (kind.Str own) = AString

-- the sort of a word that begins with this character before this text
abbrev pub sort_at : ℕ → List ℕ → Sort
sort_at char text =
    if char == 34 then AString
    else (if begins_number (char ∷ text) then ANumber else (if starts_name char then AName else AMark))

-- a character that starts a name
pub record StartsOnly (char : ℕ) : Type 0 where
  pub no_quote : (char == 34) ≡ false
  pub no_digit : is_digit char ≡ false
  pub no_point : (char == 46) ≡ false
  pub no_slash : (char == 47) ≡ false
  pub no_blank : is_blank char ≡ false

letter_alone : (char : ℕ) → (char == 95 || is_ascii_alphabetic char) ≡ true → StartsOnly char
letter_alone char is = record {
  no_quote = grind (arith, nat_tests);
  no_digit = grind (arith, nat_tests);
  no_point = grind (arith, nat_tests);
  no_slash = grind (arith, nat_tests);
  no_blank = grind (arith, nat_tests);
}

other_alone : (char : ℕ) → 128 ≤ char → StartsOnly char
other_alone char is = record {
  no_quote = grind (arith, nat_tests);
  no_digit = grind (arith, nat_tests);
  no_point = grind (arith, nat_tests);
  no_slash = grind (arith, nat_tests);
  no_blank = grind (arith, nat_tests);
}

-- a character that starts a name begins nothing else
pub starts_only : (char : ℕ) → starts_name char ≡ true → StartsOnly char
starts_only char starts = by (cases_lt char 128)
  where
    by : (char < 128) ⊎ (128 ≤ char) → StartsOnly char
    by (inl small) =
        letter_alone char (sym (ap (λ (b : Bool). char == 95 || b) (is_xid_start-ascii char small)) ∙ starts)
    by (inr large) = other_alone char large

-- a character that begins a number is no quote
number_no_quote : (char : ℕ) (text : List ℕ) → begins_number (char ∷ text) ≡ true → (char == 34) ≡ false
number_no_quote char text number = by (is_digit char) refl
  where
    digit : is_digit char ≡ true → (char == 34) ≡ false
    digit is = grind (arith, nat_tests)

    point : (char == 46) ≡ true → (char == 34) ≡ false
    point is = grind (arith, nat_tests)

    by : (b : Bool) → is_digit char ≡ b → (char == 34) ≡ false
    by true is = digit is
    by false is =
        point (and_parts (char == 46) (begins is_digit text)
        (sym (ap (λ (b : Bool). b || ((char == 46) && begins is_digit text)) is) ∙ number)).0

-- the sort at a place, by its three tests
at_quote : (char : ℕ) (text : List ℕ) → (char == 34) ≡ true → sort_at char text ≡ AString
at_quote char text quote = cond-true (char == 34) AString _ quote

at_number : (char : ℕ) (text : List ℕ) → begins_number (char ∷ text) ≡ true → sort_at char text ≡ ANumber
at_number char text number =
    cond-false (char == 34) AString _ (number_no_quote char text number)
    ∙ cond-true (begins_number (char ∷ text)) ANumber (if starts_name char then AName else AMark) number

at_name : (char : ℕ) (text : List ℕ) → starts_name char ≡ true → sort_at char text ≡ AName
at_name char text starts =
    let only = starts_only char starts in
    cond-false (char == 34) AString _ only.no_quote
    ∙ (cond-false (begins_number (char ∷ text)) ANumber _ (no_number only)
    ∙ cond-true (starts_name char) AName AMark starts)
  where
    no_number : StartsOnly char → begins_number (char ∷ text) ≡ false
    no_number only =
        or_from (is_digit char) ((char == 46) && begins is_digit text) only.no_digit
        (ap (λ (b : Bool). b && begins is_digit text) only.no_point)

at_mark : (char : ℕ) (text : List ℕ) → (char == 34) ≡ false → begins_number (char ∷ text) ≡ false →
    starts_name char ≡ false → sort_at char text ≡ AMark
at_mark char text quote number starts =
    cond-false (char == 34) AString _ quote
    ∙ (cond-false (begins_number (char ∷ text)) ANumber _ number
    ∙ cond-false (starts_name char) AName AMark starts)

abbrev pub is_numbers : Sort → Bool
is_numbers ANumber = true
is_numbers _ = false

-- a place of numbers begins one
pub number_at : (char : ℕ) (text : List ℕ) → sort_at char text ≡ ANumber → begins_number (char ∷ text) ≡ true
number_at char text sort = by (char == 34) refl (begins_number (char ∷ text)) refl (starts_name char) refl
  where
    other : (own : Sort) → sort_at char text ≡ own → is_numbers own ≡ false →
        begins_number (char ∷ text) ≡ true
    other own is none = absurd (false≢true (sym none ∙ ap is_numbers (sym is ∙ sort)))

    by : (a : Bool) → (char == 34) ≡ a → (b : Bool) → begins_number (char ∷ text) ≡ b → (c : Bool) →
        starts_name char ≡ c →
        begins_number (char ∷ text) ≡ true
    by true quote b number c starts = other AString (at_quote char text quote) refl
    by false quote true number c starts = number
    by false quote false number true starts = other AName (at_name char text starts) refl
    by false quote false number false starts = other AMark (at_mark char text quote number starts) refl

-- the word has the sort of its place, or it is the mark `.` before a digit
pub data Sorted (char : ℕ) (text form : List ℕ) (what : Kind) : Type 0 where
  by_sort : sort_of what ≡ sort_at char text → Sorted char text form what
  by_point : form ≡ 46 ∷ [] → sort_at char text ≡ ANumber → Sorted char text form what

-- a mark's place
sorted_mark : (char : ℕ) (text form rest : List ℕ) (number : ℕ) → IsMark form → char ∷ text ≡ form ++ rest →
    Sorted char text form (kind.Mark number)
sorted_mark char text form rest number is written = by (begins_number (char ∷ text)) refl
  where
    same : char ∷ text ≡ is.first ∷ (is.others ++ rest)
    same = written ∙ ap (λ f. f ++ rest) is.written

    first : char ≡ is.first
    first = ap (head_or char) same

    others : text ≡ is.others ++ rest
    others = ap tail_of same

    no_digit : is_digit char ≡ false
    no_digit = ap is_digit first ∙ is.no_digit

    point : begins_number (char ∷ text) ≡ true → ((char == 46) ≡ true) × (begins is_digit text ≡ true)
    point number =
        and_parts (char == 46) (begins is_digit text)
        (sym (ap (λ (b : Bool). b || ((char == 46) && begins is_digit text)) no_digit) ∙ number)

    is_point : (c : ℕ) → (c == 46) ≡ true → c ≡ 46
    is_point c e = grind (arith, nat_tests)

    apart : (c : ℕ) → is_digit c ≡ true → extends_mark c ≡ true → ⊥
    apart c digit extends = grind (arith, nat_tests)

    alone : (more : List ℕ) → text ≡ more ++ rest → list_all extends_mark more ≡ true →
        begins is_digit text ≡ true → more ≡ []
    alone [] t all digit = refl
    alone (c ∷ more) t all digit =
        absurd (apart c (sym (ap (begins is_digit) t)
        ∙ digit) (and_parts (extends_mark c) (list_all extends_mark more) all).0)

    by : (b : Bool) → begins_number (char ∷ text) ≡ b → Sorted char text form (kind.Mark number)
    by true begins =
        let p = point begins in
        by_point (is.written ∙ (ap (λ c. c ∷ is.others) (sym first ∙ is_point char p.0)
        ∙ ap (λ o. 46 ∷ o) (alone is.others others is.extend p.1)))
        (at_number char text begins)
    by false begins =
        by_sort (sym (at_mark char text (ap (λ c. c == 34) first
        ∙ is.no_quote) begins (ap starts_name first ∙ is.no_name)))

-- a name's place
sorted_name : (char : ℕ) (text form rest : List ℕ) (what : Kind) → sort_of what ≡ AName →
    is_name form ≡ true →
    char ∷ text ≡ form ++ rest → Sorted char text form what
sorted_name char text [] rest what sort name written = absurd (false≢true name)
sorted_name char text (first ∷ form) rest what sort name written =
    let starts : starts_name char ≡ true =
    ap starts_name (ap (head_or char) written) ∙ (and_parts (starts_name first) (list_all continues_name
    form) name).0 in
    by_sort (sort ∙ sym (at_name char text starts))

sorted_number : (char : ℕ) (text form rest : List ℕ) (what : Kind) → sort_of what ≡ ANumber →
    is_number what ≡ true →
    IsWord form what → char ∷ text ≡ form ++ rest → Sorted char text form what
sorted_number char text form rest what sort number word written =
    by_sort (sort ∙ sym (at_number char text (ap begins_number written
    ∙ number_begins form rest what word number)))

-- each word's place
pub sorted : (char : ℕ) (text form rest : List ℕ) (what : Kind) → IsWord form what →
    char ∷ text ≡ form ++ rest →
    Sorted char text form what
sorted char text form rest (kind.Word own) word written =
    sorted_name char text form rest (kind.Word own) refl word.0 written
sorted char text form rest (kind.Reserved number) word written =
    sorted_name char text form rest (kind.Reserved number) refl (reserved_is_name form number word) written
sorted char text form rest (kind.Mark number) word written =
    sorted_mark char text form rest number (is_mark form number word) written
sorted char text form rest (kind.Int value) word written =
    sorted_number char text form rest (kind.Int value) refl refl word written
sorted char text form rest (kind.Real own double) word written =
    sorted_number char text form rest (kind.Real own double) refl refl word written
sorted char text form rest (kind.Str own) word written =
    by_sort (sym (at_quote char text (ap (λ c. c == 34) (ap (head_or char) (written
    ∙ ap (λ f. f ++ rest) word.written)))))

-- the sort of a name that is read
pub name_sort : (char : ℕ) (text : List ℕ) → sort_of (name_in (char ∷ text) text).0 ≡ AName
unfolding name_in
name_sort char text =
    let name = encode_utf8_all (front_of (char ∷ text) (drop_while continues_name text)) in
    by name (number_in_either reserved_in_use reserved_left_out name)
  where
    by : (name : List ℕ) (number : Option ℕ) → sort_of (name_kind name number) ≡ AName
    by name None = refl
    by name (Some number) = refl

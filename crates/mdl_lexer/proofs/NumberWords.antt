-- Reading a number, as a function on characters, and the definition of numbers agree.
use Rattle.std.proofs.Common.{◌≡◌, ◌≤◌, ◌∙◌, sym, ap, subst, refl, arith, ℕ, Bool, true, false, not}
use Rattle.std.proofs.Common.{◌&&◌, ◌||◌, ◌==◌, encode_utf8_all}
use Rattle.std.proofs.Common.{List, [], ◌∷◌, ◌++◌, length, take_while, Option, Some, None, option_map}
use Rattle.std.specs.List.{list_all}
use Rattle.std.specs.Char.{is_ascii_alphanumeric}
use Rattle.std.specs.Str.Parse.{digits_value}
use Rattle.std.proofs.lemmas.Bool.{and_from, and_parts, or_left, false≢true}
use Rattle.std.proofs.lemmas.Bool.Decides.{nat_tests}
use Rattle.std.proofs.lemmas.List.{append_assoc, append-nil, length-append}
use Rattle.std.proofs.lemmas.Option.{same_Some, none-some, option_and_then_some}
use Rattle.std.proofs.lemmas.Str.Ascii.{encodes-IsAscii}
use Rattle.unicode_ident.proofs.IdentLemmas.{is_xid_continue-ascii}
use Rattle.mdl_lexer.specs.declared.token.Kind.{Kind}
use Rattle.mdl_lexer.specs.declared.token.Kind.TheVariants as kind
use Rattle.mdl_lexer.specs.Characters.{is_digit, is_octal, is_hexadecimal, continues_name}
use Rattle.mdl_lexer.specs.Forms.{are, is_decimal, IsInteger, decimal, octal, hexadecimal, IsReal}
use Rattle.mdl_lexer.specs.Forms.{IsUnsuffixed, IsWord}
use Rattle.mdl_lexer.specs.Steps.{is_number, goes_on, digit_first}
use Rattle.mdl_lexer.specs.inside.Cutting.{drop_while, begins}
use Rattle.mdl_lexer.specs.inside.Reading.{Found as Number, Integer, Real, ◌>>=◌, or_else, front_of}
use Rattle.mdl_lexer.specs.inside.Reading.{begins_number, hexadecimal_in, decimal_in}
use Rattle.mdl_lexer.specs.inside.Reading.{behind_exponent, real_end, real_or_integer, integer_of, suffix_in}
use Rattle.mdl_lexer.proofs.CuttingLaws.{front_taken}
use Rattle.mdl_lexer.proofs.ListLaws.{drop_front, drop_none, dropped_length}
use Rattle.mdl_lexer.proofs.NumberLaws.{parted, front_class, begins_digit, digit_ascii}
use Rattle.mdl_lexer.proofs.NumberParts.{are_all, are_begin, taken_are}
use Rattle.mdl_lexer.proofs.IntegerLaws.{hexadecimal_read, HexadecimalFound, hexadecimal_found}
use Rattle.mdl_lexer.proofs.IntegerLaws.{not_hexadecimal, digits_alone, longer_hexadecimal, IntegerRead}
use Rattle.mdl_lexer.proofs.IntegerLaws.{decimal_read, octal_digit, octal_read, integer_found}
use Rattle.mdl_lexer.proofs.RealLaws.{end_shorter, real_read, real_start, real_ascii, digit_begins}
use Rattle.mdl_lexer.proofs.RealLaws.{real_begins, RealFound, real_found}
use Rattle.mdl_lexer.proofs.SuffixLaws.{suffix_found, suffix_alone, suffix_bound}

-- the word that a number is
abbrev pub number_kind : Number → Kind
number_kind (Integer digits base) = kind.Int (digits_value base digits)
number_kind (Real text double) = kind.Real (encode_utf8_all text) double

-- the longest number, whatever follows it
abbrev pub any_number : List ℕ → Option (Kind × List ℕ)
any_number text =
    option_map (λ (found : Number × List ℕ). (number_kind found.0, found.1))
    (or_else (hexadecimal_in text) (decimal_in text))

-- a number and the rest, as a word and the rest
abbrev word_of : Number × List ℕ → Kind × List ℕ
word_of found = (number_kind found.0, found.1)

-- what is read, by what is read as a hexadecimal integer
read_by : (text : List ℕ) (o : Option (Number × List ℕ)) → hexadecimal_in text ≡ o →
    any_number text ≡ option_map word_of (or_else o (decimal_in text))
read_by text o is = ap (λ (o : Option (Number × List ℕ)). option_map word_of (or_else o (decimal_in text))) is

-- what reading gives is a number
pub record NumberBefore (text : List ℕ) (what : Kind) (rest : List ℕ) : Type 0 where
  pub form : List ℕ
  pub written : text ≡ form ++ rest
  pub word : IsWord form what
  pub number : is_number what ≡ true

-- a hexadecimal integer is a word
hexadecimal_word : (text : List ℕ) (found : Number × List ℕ) → HexadecimalFound text found →
    NumberBefore text (number_kind found.0) found.1
hexadecimal_word text found is =
    subst (λ what. NumberBefore text what found.1) (sym (ap number_kind is.is))
    (record {
      form = 48 ∷ is.x ∷ is.digits;
      written = is.written;
      word = hexadecimal is.is_x is.all;
      number = refl;
    })

-- and so is a real with its suffix
real_word : (text end : List ℕ) → RealFound text end →
    NumberBefore text (kind.Real (encode_utf8_all (front_of text end)) (suffix_in end).0) (suffix_in end).1
real_word text end found =
    let suffix = suffix_found end in
    let same : encode_utf8_all (front_of text end) ≡ found.form =
    ap encode_utf8_all (sym (front_taken text found.form end found.written))
    ∙ encodes-IsAscii found.form (real_ascii found.form found.is) in
    record {
      form = found.form ++ suffix.suffix;
      written =
          found.written
          ∙ (ap (λ t. found.form ++ t) suffix.written
          ∙ sym (append_assoc found.form suffix.suffix (suffix_in end).1));
      word =
          subst (λ own. IsReal (found.form ++ suffix.suffix) own (suffix_in end).0) (sym same)
          (record { suffix = suffix.suffix; written = refl; unsuffixed = found.is; is_suffix = suffix.is });
      number = refl;
    }

-- and so are the digits of an integer
integer_word : (text : List ℕ) (found : Number) → begins is_digit text ≡ true →
    integer_of (front_of text (drop_while is_digit text)) ≡ Some found →
    NumberBefore text (number_kind found) (drop_while is_digit text)
integer_word text found first is =
    let rest = drop_while is_digit text in
    let front : take_while is_digit text ≡ front_of text rest = front_class is_digit text in
    let digits =
    integer_found (front_of text rest) found
    (ap (are is_digit) (sym front) ∙ taken_are is_digit text first) is in
    subst (λ what. NumberBefore text what rest) (sym (ap number_kind digits.is))
    (record {
      form = front_of text rest;
      written = parted is_digit text ∙ ap (λ t. t ++ rest) front;
      word = digits.form;
      number = refl;
    })

-- and so is what is read where no hexadecimal integer is
decimal_word : (text : List ℕ) (found : Number × List ℕ) → begins_number text ≡ true →
    decimal_in text ≡ Some found →
    NumberBefore text (number_kind found.0) found.1
unfolding decimal_in
decimal_word text found number is = by (real_end (drop_while is_digit text)) refl
  where
    word_at : Number × List ℕ → Type 0
    word_at found = NumberBefore text (number_kind found.0) found.1

    by : (o : Option (List ℕ)) → real_end (drop_while is_digit text) ≡ o → word_at found
    by (Some end) some =
        subst word_at
        (same_Some {A = Number × List ℕ} (Real (front_of text end) (suffix_in end).0, (suffix_in end).1) found
        (sym (ap (real_or_integer text (drop_while is_digit text)) some) ∙ is))
        (real_word text end (real_found text end number some))
    by None none =
        option_and_then_some (λ digits. Some (digits, drop_while is_digit text))
        (integer_of (front_of text (drop_while is_digit text))) found
        (sym (ap (real_or_integer text (drop_while is_digit text)) none) ∙ is)
        (λ digits is last.
        subst word_at (same_Some {A = Number × List ℕ} (digits, drop_while is_digit text) found last)
        (integer_word text digits (begins_digit text number none) is))

-- what reading gives is a number
pub number_found : (text : List ℕ) (what : Kind) (rest : List ℕ) → begins_number text ≡ true →
    any_number text ≡ Some (what, rest) →
    NumberBefore text what rest
number_found text what rest number is = by (hexadecimal_in text) refl
  where
    word_at : Kind × List ℕ → Type 0
    word_at found = NumberBefore text found.0 found.1

    behind : (o : Option (Number × List ℕ)) → decimal_in text ≡ o → option_map word_of o ≡ Some (what, rest) →
        NumberBefore text what rest
    behind None none is = absurd (none-some {A = Kind × List ℕ} (what, rest) is)
    behind (Some found) some is =
        subst word_at (same_Some {A = Kind × List ℕ} (word_of found) (what, rest) is)
        (decimal_word text found number some)

    by : (o : Option (Number × List ℕ)) → hexadecimal_in text ≡ o → NumberBefore text what rest
    by None none =
        behind (decimal_in text) refl
        (sym (read_by text None none) ∙ is)
    by (Some found) some =
        subst word_at
        (same_Some {A = Kind × List ℕ} (word_of found) (what, rest)
        (sym (read_by text (Some found) some) ∙ is))
        (hexadecimal_word text found (hexadecimal_found text found some))

-- reading gives a number at least as long, or none, where a number here would go on
abbrev pub NumberBound : Option (Kind × List ℕ) → List ℕ → Type 0
NumberBound None rest = goes_on rest ≡ true
NumberBound (Some found) rest = length found.1 ≤ length rest

-- a text is digits that are read as an integer of this value
record IsDigits (form : List ℕ) (value : ℕ) : Type 0 where
  digits : are is_digit form ≡ true
  read : IntegerRead form value

-- a decimal integer is
decimal_digits : (form : List ℕ) → is_decimal form ≡ true → IsDigits form (digits_value 10 form)
decimal_digits form is = record { digits = all form is; read = decimal_read form is }
  where
    all : (form : List ℕ) → is_decimal form ≡ true → are is_digit form ≡ true
    all [] is = is
    all (char ∷ []) is = and_from (is_digit char) true is refl
    all (char ∷ next ∷ form) is = (and_parts (not (char == 48)) (are is_digit (char ∷ next ∷ form)) is).1

-- and an octal one
octal_digits : (digits : List ℕ) → are is_octal digits ≡ true → IsDigits (48 ∷ digits) (digits_value 8 digits)
octal_digits digits is =
    record { digits = all digits (are_all is_octal digits is); read = octal_read digits is }
  where
    all : (digits : List ℕ) → list_all is_octal digits ≡ true → list_all is_digit digits ≡ true
    all [] is = refl
    all (char ∷ digits) is =
        let parts = and_parts (is_octal char) (list_all is_octal digits) is in
        and_from (is_digit char) (list_all is_digit digits) (octal_digit char parts.0) (all digits parts.1)

-- a digit would make a number another
digit_on : (rest : List ℕ) → begins is_digit rest ≡ true → goes_on rest ≡ true
digit_on [] first = absurd (false≢true first)
digit_on (char ∷ rest) first =
    or_left (continues_name char) (char == 46 && digit_first rest)
    (is_xid_continue-ascii char (digit_ascii char first) ∙ alphanumeric char first)
  where
    alphanumeric : (char : ℕ) → is_digit char ≡ true → (is_ascii_alphanumeric char || char == 95) ≡ true
    alphanumeric char is = grind (arith, nat_tests)

-- what is read where digits stand
digits_bound : (form rest : List ℕ) (value : ℕ) → IsDigits form value →
    NumberBound (any_number (form ++ rest)) rest
unfolding decimal_in
digits_bound form rest value is = by (hexadecimal_in (form ++ rest)) refl
  where
    end : List ℕ
    end = drop_while is_digit (form ++ rest)

    end_is : end ≡ drop_while is_digit rest
    end_is = drop_front is_digit form rest (are_all is_digit form is.digits)

    shorter : length end ≤ length rest
    shorter = omega (arith, ap length end_is, dropped_length is_digit rest)

    goes : integer_of (front_of (form ++ rest) end) ≡ None → (b : Bool) → begins is_digit rest ≡ b →
        goes_on rest ≡ true
    goes none true first = digit_on rest first
    goes none false first =
        let same : front_of (form ++ rest) end ≡ form =
        ap (front_of (form ++ rest)) (end_is ∙ drop_none is_digit rest first)
        ∙ sym (front_taken (form ++ rest) form rest refl) in
        absurd (none-some (Integer is.read.digits is.read.base)
        (sym none ∙ (ap integer_of same ∙ is.read.is)))

    integer : (o : Option Number) → integer_of (front_of (form ++ rest) end) ≡ o →
        NumberBound (option_map word_of (o >>= λ found. Some (found, end))) rest
    integer None none = goes none (begins is_digit rest) refl
    integer (Some found) some = shorter

    number : (o : Option (List ℕ)) → real_end end ≡ o →
        NumberBound (option_map word_of (real_or_integer (form ++ rest) end o)) rest
    number None none = integer (integer_of (front_of (form ++ rest) end)) refl
    number (Some behind) some =
        let suffix = suffix_found behind in
        let size = length-append suffix.suffix (suffix_in behind).1 in
        omega (arith, end_shorter end behind some, shorter, ap length suffix.written, size)

    by : (o : Option (Number × List ℕ)) → hexadecimal_in (form ++ rest) ≡ o →
        NumberBound (any_number (form ++ rest)) rest
    by (Some found) some =
        subst (λ (o : Option (Kind × List ℕ)). NumberBound o rest)
        (sym (read_by (form ++ rest) (Some found) some)) (longer_hexadecimal form rest found is.digits some)
    by None none =
        subst (λ (o : Option (Kind × List ℕ)). NumberBound o rest) (sym (read_by (form ++ rest) None none))
        (number (real_end end) refl)

-- the real that is read where one is written
real_is : (kept after end : List ℕ) → IsUnsuffixed kept →
    real_end (drop_while is_digit (kept ++ after)) ≡ Some end →
    any_number (kept ++ after)
    ≡ Some (kind.Real (encode_utf8_all (front_of (kept ++ after) end)) (suffix_in end).0, (suffix_in end).1)
unfolding decimal_in
real_is kept after end is some =
    let start = real_start kept is in
    let no_hexadecimal : hexadecimal_in (kept ++ after) ≡ None =
    ap hexadecimal_in
    (ap (λ t. t ++ after) start.written ∙ append_assoc start.digits (start.char ∷ start.more) after)
    ∙ not_hexadecimal start.digits start.char (start.more ++ after) start.all
    (not_zero start.char start.is) (not_x start.char start.is) in
    read_by (kept ++ after) None no_hexadecimal
    ∙ ap (λ (o : Option (List ℕ)). option_map word_of
    (real_or_integer (kept ++ after) (drop_while is_digit (kept ++ after)) o)) some
  where
    not_zero : (char : ℕ) → (char == 46 || (char == 101 || char == 69)) ≡ true → (char == 48) ≡ false
    not_zero char is = grind (arith, nat_tests)

    not_x : (char : ℕ) → (char == 46 || (char == 101 || char == 69)) ≡ true →
        (char == 120 || char == 88) ≡ false
    not_x char is = grind (arith, nat_tests)

-- what is read where a real stands
real_bound : (form rest own : List ℕ) (double : Bool) → IsReal form own double →
    NumberBound (any_number (form ++ rest)) rest
real_bound form rest own double is =
    let after = is.suffix ++ rest in
    let end = real_read own after is.unsuffixed in
    let whole = ap (λ t. t ++ rest) is.written ∙ append_assoc own is.suffix rest in
    subst (λ (o : Option (Kind × List ℕ)). NumberBound o rest)
    (sym (ap any_number whole ∙ real_is own after end.rest is.unsuffixed end.is))
    (suffix_bound is.suffix rest end.rest double is.is_suffix end.shorter end.exact)

-- the hexadecimal integer that is read where one is written
hexadecimal_is : (x : ℕ) (digits rest : List ℕ) → (x == 120 || x == 88) ≡ true →
    are is_hexadecimal digits ≡ true →
    any_number (48 ∷ x ∷ (digits ++ rest))
    ≡ Some (
      kind.Int
          (digits_value 16
          (front_of (digits ++ rest) (drop_while is_hexadecimal rest))),
      drop_while is_hexadecimal rest,
    )
hexadecimal_is x digits rest is all =
    read_by (48 ∷ x ∷ (digits ++ rest)) (Some _) (hexadecimal_read x digits rest is all)

-- what is read where an integer stands
integer_bound : (form rest : List ℕ) (value : ℕ) → IsInteger form value →
    NumberBound (any_number (form ++ rest)) rest
integer_bound form rest value (decimal is) =
    digits_bound form rest (digits_value 10 form) (decimal_digits form is)
integer_bound form rest value (octal {digits} is) =
    digits_bound form rest (digits_value 8 digits) (octal_digits digits is)
integer_bound form rest value (hexadecimal {x} {digits} is all) =
    subst (λ (o : Option (Kind × List ℕ)). NumberBound o rest) (sym (hexadecimal_is x digits rest is all))
    (dropped_length is_hexadecimal rest)

-- reading gives a number at least as long, or none, where a number here would go on
pub number_bound : (form rest : List ℕ) (what : Kind) → IsWord form what → is_number what ≡ true →
    NumberBound (any_number (form ++ rest)) rest
number_bound form rest (kind.Int value) is number = integer_bound form rest value is
number_bound form rest (kind.Real own double) is number = real_bound form rest own double is
number_bound form rest _ is number = absurd (false≢true number)

-- digits alone are read whole
digits_whole : (form : List ℕ) (value : ℕ) → IsDigits form value → any_number form ≡ Some (kind.Int value, [])
unfolding decimal_in real_end behind_exponent
digits_whole form value is =
    let none : drop_while is_digit form ≡ [] =
    ap (drop_while is_digit) (sym (append-nil form))
    ∙ drop_front is_digit form [] (are_all is_digit form is.digits) in
    let read : integer_of (front_of form []) ≡ Some (Integer is.read.digits is.read.base) =
    ap integer_of (sym (front_taken form form [] (sym (append-nil form)))) ∙ is.read.is in
    read_by form None (digits_alone form is.digits)
    ∙ (ap (λ end. option_map word_of (real_or_integer form end (real_end end))) none
    ∙ (ap (λ (o : Option Number). option_map word_of (o >>= λ found. Some (found, []))) read
    ∙ ap (λ n. Some (kind.Int n, [])) is.read.value_is))

-- and so is an integer
integer_whole : (form : List ℕ) (value : ℕ) → IsInteger form value →
    any_number form ≡ Some (kind.Int value, [])
integer_whole form value (decimal is) = digits_whole form (digits_value 10 form) (decimal_digits form is)
integer_whole form value (octal {digits} is) =
    digits_whole form (digits_value 8 digits) (octal_digits digits is)
integer_whole form value (hexadecimal {x} {digits} is all) =
    ap (λ t. any_number (48 ∷ x ∷ t)) (sym (append-nil digits))
    ∙ (hexadecimal_is x digits [] is all
    ∙ ap (λ d. Some (kind.Int (digits_value 16 d), [])) (sym (front_taken (digits ++ []) digits [] refl)))

-- and so is a real
real_whole : (form own : List ℕ) (double : Bool) → IsReal form own double →
    any_number form ≡ Some (kind.Real own double, [])
real_whole form own double is =
    let end = real_read own is.suffix is.unsuffixed in
    let suffix = suffix_alone is.suffix double is.is_suffix in
    let same = end.exact suffix.no_digit suffix.no_exponent in
    let text : encode_utf8_all (front_of (own ++ is.suffix) is.suffix) ≡ own =
    ap encode_utf8_all (sym (front_taken (own ++ is.suffix) own is.suffix refl))
    ∙ encodes-IsAscii own (real_ascii own is.unsuffixed) in
    ap any_number is.written
    ∙ (real_is own is.suffix end.rest is.unsuffixed end.is
    ∙ (ap (λ t. Some
    (kind.Real (encode_utf8_all (front_of (own ++ is.suffix) t)) (suffix_in t).0, (suffix_in t).1)) same
    ∙ (ap (λ t. Some (kind.Real t (suffix_in is.suffix).0, (suffix_in is.suffix).1)) text
    ∙ ap (λ (f : Bool × List ℕ). Some (kind.Real own f.0, f.1)) suffix.is)))

-- a number alone is read whole
pub number_alone : (form : List ℕ) (what : Kind) → IsWord form what → is_number what ≡ true →
    any_number form ≡ Some (what, [])
number_alone form (kind.Int value) is number = integer_whole form value is
number_alone form (kind.Real own double) is number = real_whole form own double is
number_alone form _ is number = absurd (false≢true number)

-- an integer begins as a number
integer_begins : (form rest : List ℕ) (value : ℕ) → IsInteger form value → begins_number (form ++ rest) ≡ true
integer_begins form rest value (decimal is) =
    digit_begins (form ++ rest) (are_begin is_digit form rest (decimal_digits form is).digits)
integer_begins form rest value (octal is) = refl
integer_begins form rest value (hexadecimal is all) = refl

-- a number begins as one
pub number_begins : (form rest : List ℕ) (what : Kind) → IsWord form what → is_number what ≡ true →
    begins_number (form ++ rest) ≡ true
number_begins form rest (kind.Int value) is number = integer_begins form rest value is
number_begins form rest (kind.Real own double) is number =
    ap (λ t. begins_number (t ++ rest)) is.written
    ∙ (ap begins_number (append_assoc own is.suffix rest) ∙ real_begins own (is.suffix ++ rest) is.unsuffixed)
number_begins form rest _ is number = absurd (false≢true number)

-- behind a `.` reading always gives a real
pub point_found : (text : List ℕ) → any_number (46 ∷ text) ≡ None → ⊥
unfolding hexadecimal_in decimal_in real_end
point_found text none = none-some {A = Kind × List ℕ} _ (sym none)

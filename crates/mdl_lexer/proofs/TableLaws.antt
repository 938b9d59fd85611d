-- Laws of the tables of reserved words and marks.
use Rattle.std.proofs.Common.{◌≡◌, ◌≤◌, ◌∙◌, sym, ap, refl, ℕ, Bool, true, false, not, ◌==◌, ◌&&◌, ◌||◌}
use Rattle.std.proofs.Common.{List, [], ◌∷◌, ◌++◌, Option, Some, length, if◌then◌else◌}
use Rattle.std.proofs.Common.{IsAscii, encode_utf8_all}
use Rattle.std.specs.Prelude.{nat_le, nat_lt}
use Rattle.std.specs.Char.{is_ascii_alphabetic, is_ascii_alphanumeric}
use Rattle.std.specs.List.{list_all}
use Rattle.std.specs.Str.{bytes_eq}
use Rattle.std.proofs.lemmas.Bool.{cond-false, and_parts, and_from, not-true, ltb-true, leb-true, false≢true}
use Rattle.std.proofs.lemmas.Bool.Decides.{same_from_decides}
use Rattle.std.proofs.lemmas.Slice.Eq.{bytes_eq-Decides}
use Rattle.std.proofs.lemmas.Str.{encodes_same}
use Rattle.std.proofs.lemmas.Str.Ascii.{encodes-IsAscii, IsAscii-nil, IsAscii-cons}
use Rattle.unicode_ident.proofs.IdentLemmas.{is_xid_start-ascii, is_xid_continue-ascii}
use Rattle.case_table.specs.Tables.{value_of}
use Rattle.mdl_lexer.specs.Characters.{is_blank, is_digit, starts_name, continues_name}
use Rattle.mdl_lexer.specs.Forms.{is_name}
use Rattle.mdl_lexer.specs.WordTables.{reserved, reserved_in_use, reserved_left_out}
use Rattle.mdl_lexer.specs.WordTables.{marks, marks_in_use, marks_left_out}
use Rattle.mdl_lexer.specs.inside.Cutting.{extends_mark}
use Rattle.mdl_lexer.specs.inside.Reading.{or_else}
use Rattle.mdl_lexer.specs.inside.Tokens.{number_in_either}

-- each name of the rows passes a test, and so does a name that has a value there
pub named : (test : List ℕ → Bool) (rows : List (List ℕ × ℕ)) (name : List ℕ) (number : ℕ) →
    list_all (λ (row : List ℕ × ℕ). test row.0) rows ≡ true → value_of rows name ≡ Some number →
    test name ≡ true
named test [] name number all found = cc
named test (row ∷ rows) name number all found =
    by (bytes_eq name row.0) refl (named test rows name number both.1)
  where
    both : (test row.0 ≡ true) × (list_all (λ (row : List ℕ × ℕ). test row.0) rows ≡ true)
    both = and_parts (test row.0) (list_all (λ (row : List ℕ × ℕ). test row.0) rows) all

    by : (b : Bool) → bytes_eq name row.0 ≡ b → (value_of rows name ≡ Some number → test name ≡ true) →
        test name ≡ true
    by true is later = ap test ((bytes_eq-Decides name row.0).0 is) ∙ both.0
    by false is later =
        later (sym (cond-false (bytes_eq name row.0) (Some row.1) (value_of rows name) is) ∙ found)

-- a test may be made before or behind a choice
either_if : (test : Bool) (number : ℕ) (one other : Option ℕ) →
    (if test then Some number else or_else one other) ≡ or_else (if test then Some number else one) other
either_if true number one other = refl
either_if false number one other = refl

-- the value in rows and other rows
value_append : (rows others : List (List ℕ × ℕ)) (name : List ℕ) →
    value_of (rows ++ others) name ≡ or_else (value_of rows name) (value_of others name)
value_append [] others name = refl
value_append (row ∷ rows) others name =
    ap (λ (o : Option ℕ). if bytes_eq name row.0 then Some row.1 else o) (value_append rows others name)
    ∙ either_if (bytes_eq name row.0) row.1 (value_of rows name) (value_of others name)

-- all characters are ASCII
abbrev all_ascii : List ℕ → Bool
all_ascii text = list_all (λ char. nat_lt char 128) text

-- such a text is ASCII
is_ascii : (text : List ℕ) → all_ascii text ≡ true → IsAscii text
is_ascii [] all = IsAscii-nil
is_ascii (char ∷ text) all =
    let both = and_parts (nat_lt char 128) (all_ascii text) all in
    IsAscii-cons char text (ltb-true char 128 both.0) (is_ascii text both.1)

-- rows of ASCII names give the bytes of a text what they give its characters
same_value : (rows : List (List ℕ × ℕ)) (text : List ℕ) →
    list_all (λ (row : List ℕ × ℕ). all_ascii row.0) rows ≡ true →
    value_of rows (encode_utf8_all text) ≡ value_of rows text
same_value [] text all = refl
same_value (row ∷ rows) text all =
    ap (λ (b : Bool). if b then Some row.1 else value_of rows (encode_utf8_all text)) same
    ∙ ap (λ (o : Option ℕ). if bytes_eq text row.0 then Some row.1 else o) (same_value rows text both.1)
  where
    both : (all_ascii row.0 ≡ true) × (list_all (λ (row : List ℕ × ℕ). all_ascii row.0) rows ≡ true)
    both = and_parts (all_ascii row.0) (list_all (λ (row : List ℕ × ℕ). all_ascii row.0) rows) all

    name : encode_utf8_all row.0 ≡ row.0
    name = encodes-IsAscii row.0 (is_ascii row.0 both.0)

    same : bytes_eq (encode_utf8_all text) row.0 ≡ bytes_eq text row.0
    same =
        same_from_decides {P = text ≡ row.0} (bytes_eq (encode_utf8_all text) row.0) (bytes_eq text row.0) (
          λ is. encodes_same text row.0 ((bytes_eq-Decides (encode_utf8_all text) row.0).0 is ∙ sym name),
          λ is. (bytes_eq-Decides (encode_utf8_all text) row.0).1 (ap encode_utf8_all is ∙ name),
        )
        (bytes_eq-Decides text row.0)

-- the number in one of two tables of ASCII names, by bytes and by characters
either_number : (one other : List (List ℕ × ℕ)) (text : List ℕ) →
    list_all (λ (row : List ℕ × ℕ). all_ascii row.0) one ≡ true →
    list_all (λ (row : List ℕ × ℕ). all_ascii row.0) other ≡ true →
    number_in_either one other (encode_utf8_all text) ≡ value_of (one ++ other) text
either_number one other text ascii others =
    ap (λ (o : Option ℕ). or_else o (value_of other (encode_utf8_all text))) (same_value one text ascii)
    ∙ (ap (or_else (value_of one text)) (same_value other text others) ∙ sym (value_append one other text))

-- a name's number by its bytes is that by its characters
pub reserved_number : (text : List ℕ) →
    number_in_either reserved_in_use reserved_left_out (encode_utf8_all text) ≡ value_of reserved text
reserved_number text = either_number reserved_in_use reserved_left_out text refl refl

-- a mark's number by its bytes is that by its characters
pub mark_number : (text : List ℕ) →
    number_in_either marks_in_use marks_left_out (encode_utf8_all text) ≡ value_of marks text
mark_number text = either_number marks_in_use marks_left_out text refl refl

-- an ASCII character that starts a name
abbrev ascii_start : ℕ → Bool
ascii_start char = nat_lt char 128 && (char == 95 || is_ascii_alphabetic char)

-- one that continues a name
abbrev ascii_continue : ℕ → Bool
ascii_continue char = nat_lt char 128 && (is_ascii_alphanumeric char || char == 95)

-- a name of ASCII characters
abbrev ascii_name : List ℕ → Bool
ascii_name [] = false
ascii_name (char ∷ text) = ascii_start char && list_all ascii_continue text

-- what starts an ASCII name starts a name
starts_ascii : (char : ℕ) → ascii_start char ≡ true → starts_name char ≡ true
starts_ascii char is =
    let both = and_parts (nat_lt char 128) (char == 95 || is_ascii_alphabetic char) is in
    ap (λ (b : Bool). char == 95 || b) (is_xid_start-ascii char (ltb-true char 128 both.0)) ∙ both.1

-- what continues an ASCII name continues a name
continue_ascii : (text : List ℕ) → list_all ascii_continue text ≡ true → list_all continues_name text ≡ true
continue_ascii [] all = refl
continue_ascii (char ∷ text) all =
    let both = and_parts (ascii_continue char) (list_all ascii_continue text) all in
    let parts = and_parts (nat_lt char 128) (is_ascii_alphanumeric char || char == 95) both.0 in
    and_from (continues_name char) (list_all continues_name text)
    (is_xid_continue-ascii char (ltb-true char 128 parts.0) ∙ parts.1)
    (continue_ascii text both.1)

-- an ASCII name is a name
name_ascii : (text : List ℕ) → ascii_name text ≡ true → is_name text ≡ true
name_ascii [] is = is
name_ascii (char ∷ text) is =
    let both = and_parts (ascii_start char) (list_all ascii_continue text) is in
    and_from (starts_name char) (list_all continues_name text)
    (starts_ascii char both.0) (continue_ascii text both.1)

-- a reserved word is a name
pub reserved_is_name : (text : List ℕ) (number : ℕ) → value_of reserved text ≡ Some number →
    is_name text ≡ true
reserved_is_name text number found = name_ascii text (named ascii_name reserved text number refl found)

-- a mark: its first character begins no other word, and the others extend marks
pub record IsMark (text : List ℕ) : Type 0 where
  pub first : ℕ
  pub others : List ℕ
  pub written : text ≡ first ∷ others
  pub no_blank : is_blank first ≡ false
  pub no_quote : (first == 34) ≡ false
  pub no_digit : is_digit first ≡ false
  pub no_name : starts_name first ≡ false
  pub extend : list_all extends_mark others ≡ true
  pub few : length others ≤ 3

-- an ASCII character that starts no word but a mark
abbrev starts_mark : ℕ → Bool
starts_mark char =
    (nat_lt char 128 && not (char == 95 || is_ascii_alphabetic char))
    && (not (is_blank char) && (not (char == 34) && not (is_digit char)))

-- such a character, and up to three that extend marks
abbrev mark_form : List ℕ → Bool
mark_form [] = false
mark_form (char ∷ text) = starts_mark char && (list_all extends_mark text && nat_le (length text) 3)

-- a text that passes the test has the parts of a mark
mark_of_form : (text : List ℕ) → mark_form text ≡ true → IsMark text
mark_of_form [] is = absurd (false≢true is)
mark_of_form (char ∷ text) is =
    let both = and_parts (starts_mark char) (list_all extends_mark text && nat_le (length text) 3) is in
    let behind = and_parts (list_all extends_mark text) (nat_le (length text) 3) both.1 in
    let halves =
    and_parts (nat_lt char 128 && not (char == 95 || is_ascii_alphabetic char))
    (not (is_blank char) && (not (char == 34) && not (is_digit char))) both.0
    in
    let ascii = and_parts (nat_lt char 128) (not (char == 95 || is_ascii_alphabetic char)) halves.0 in
    let others = and_parts (not (is_blank char)) (not (char == 34) && not (is_digit char)) halves.1 in
    let last = and_parts (not (char == 34)) (not (is_digit char)) others.1 in
    record {
      first = char;
      others = text;
      written = refl;
      no_blank = not-true (is_blank char) others.0;
      no_quote = not-true (char == 34) last.0;
      no_digit = not-true (is_digit char) last.1;
      no_name =
          ap (λ (b : Bool). char == 95 || b) (is_xid_start-ascii char (ltb-true char 128 ascii.0))
          ∙ not-true (char == 95 || is_ascii_alphabetic char) ascii.1;
      extend = behind.0;
      few = leb-true (length text) 3 behind.1;
    }

-- each mark has these parts
pub is_mark : (text : List ℕ) (number : ℕ) → value_of marks text ≡ Some number → IsMark text
is_mark text number found = mark_of_form text (named mark_form marks text number refl found)

-- Reading a name agrees with its definition.
use Rattle.std.proofs.Common.{◌≡◌, ◌≤◌, ◌∙◌, sym, ap, refl, arith, ℕ, true, false}
use Rattle.std.proofs.Common.{List, [], ◌∷◌, ◌++◌, Option, Some, None, length, take_while, encode_utf8_all}
use Rattle.std.specs.List.{list_all}
use Rattle.std.proofs.lemmas.Bool.{and_parts, and_from, false≢true}
use Rattle.case_table.specs.Tables.{value_of}
use Rattle.mdl_lexer.specs.Characters.{starts_name, continues_name}
use Rattle.mdl_lexer.specs.Forms.{is_name, IsWord}
use Rattle.mdl_lexer.specs.Steps.{is_number}
use Rattle.mdl_lexer.specs.WordTables.{reserved, reserved_in_use, reserved_left_out}
use Rattle.mdl_lexer.specs.inside.Cutting.{drop_while}
use Rattle.mdl_lexer.specs.inside.Reading.{front_of}
use Rattle.mdl_lexer.specs.inside.Tokens.{name_in, name_kind, number_in_either}
use Rattle.mdl_lexer.proofs.CuttingLaws.{front_taken}
use Rattle.mdl_lexer.proofs.ListLaws.{drop_front, dropped_length}
use Rattle.mdl_lexer.proofs.NumberLaws.{parted, all_taken}
use Rattle.mdl_lexer.proofs.TableLaws.{reserved_number}

-- the first character, and those that continue a name
front_name : (char : ℕ) (text : List ℕ) →
    char ∷ take_while continues_name text ≡ front_of (char ∷ text) (drop_while continues_name text)
front_name char text =
    front_taken (char ∷ text) (char ∷ take_while continues_name text) (drop_while continues_name text)
    (ap (λ t. char ∷ t) (parted continues_name text))

-- a name is a word, reserved or not, by its number
name_word : (name : List ℕ) (number : Option ℕ) → is_name name ≡ true → value_of reserved name ≡ number →
    IsWord name (name_kind (encode_utf8_all name) number)
name_word name None is none = (is, (none, refl))
name_word name (Some number) is found = found

-- what is read is a word
pub name_found : (char : ℕ) (text : List ℕ) → starts_name char ≡ true →
    IsWord (front_of (char ∷ text) (name_in (char ∷ text) text).1) (name_in (char ∷ text) text).0
unfolding name_in
name_found char text starts =
    let name = front_of (char ∷ text) (drop_while continues_name text) in
    let is : is_name name ≡ true =
    ap is_name (sym (front_name char text))
    ∙ and_from (starts_name char) (list_all continues_name (take_while continues_name text)) starts
    (all_taken continues_name text) in
    name_word name (number_in_either reserved_in_use reserved_left_out (encode_utf8_all name)) is
    (sym (reserved_number name))

-- a text is the name at its front, and the rest
pub name_written : (char : ℕ) (text : List ℕ) →
    char ∷ text ≡ front_of (char ∷ text) (name_in (char ∷ text) text).1 ++ (name_in (char ∷ text) text).1
unfolding name_in
name_written char text =
    ap (λ t. char ∷ t) (parted continues_name text)
    ∙ ap (λ f. f ++ drop_while continues_name text) (front_name char text)

-- a name isn't a number
pub name_no_number : (char : ℕ) (text : List ℕ) → is_number (name_in (char ∷ text) text).0 ≡ false
unfolding name_in
name_no_number char text = by (number_in_either reserved_in_use reserved_left_out name)
  where
    name : List ℕ
    name = encode_utf8_all (front_of (char ∷ text) (drop_while continues_name text))

    by : (number : Option ℕ) → is_number (name_kind name number) ≡ false
    by None = refl
    by (Some number) = refl

-- no longer name is at the front
pub name_bound : (char : ℕ) (text form rest : List ℕ) → is_name form ≡ true → char ∷ text ≡ form ++ rest →
    length (name_in (char ∷ text) text).1 ≤ length rest
unfolding name_in
name_bound char text [] rest is written = absurd (false≢true is)
name_bound char text (first ∷ form) rest is written =
    let behind : text ≡ form ++ rest = cc in
    let both = and_parts (starts_name first) (list_all continues_name form) is in
    omega (
      arith,
      ap length (ap (drop_while continues_name) behind ∙ drop_front continues_name form rest both.1),
      dropped_length continues_name rest,
    )

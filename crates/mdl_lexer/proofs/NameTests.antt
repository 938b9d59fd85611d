-- Tests of names.
use Rattle.std.proofs.Common.{◌≡◌, ◌∙◌, sym, ap, subst, refl, arith, ℕ, Bool, true, false, suc, ◌==◌, ◌&&◌}
use Rattle.std.proofs.Common.{List, []}
use Rattle.std.proofs.Common.{◌∷◌, length, chars, IsUtf8, encode_utf8_all, Option}
use Rattle.std.specs.Str.{NonePass}
use Rattle.std.proofs.lemmas.Bool.{and_parts, eqb-true, false_from_ne_true, true≢false}
use Rattle.std.proofs.lemmas.Bool.Decides.{nat_tests}
use Rattle.unicode_ident.proofs.IdentLemmas.{is_xid_start-ascii, is_xid_continue-ascii}
use Rattle.std.proofs.lemmas.Str.{chars-nil, encodes-chars}
use Rattle.std.specs.List.{list_all}
use Rattle.mdl_lexer.specs.Characters.{starts_name, continues_name}
use Rattle.mdl_lexer.specs.Forms.{is_name}
use Rattle.case_table.specs.Tables.{value_of}
use Rattle.mdl_lexer.specs.WordTables.{reserved, reserved_in_use, reserved_left_out}
use Rattle.mdl_lexer.specs.inside.Cutting.{drop_while}
use Rattle.mdl_lexer.specs.inside.Tokens.{number_in_either}
use Rattle.mdl_lexer.proofs.TableLaws.{reserved_number}
use Rattle.mdl_lexer.proofs.ListLaws.{is_nothing, dropped_all}

not_zero : (n : ℕ) → (suc n == 0) ≡ false
not_zero n = grind (arith, nat_tests)

-- a text has no bytes exactly where it has no characters
no_bytes : (bytes : List ℕ) → IsUtf8 bytes → (length bytes == 0) ≡ is_nothing (chars bytes)
no_bytes [] is_text = sym (ap is_nothing chars-nil)
no_bytes (byte ∷ bytes) is_text = by (chars (byte ∷ bytes)) refl
  where
    by : (text : List ℕ) → chars (byte ∷ bytes) ≡ text →
        (length (byte ∷ bytes) == 0) ≡ is_nothing (chars (byte ∷ bytes))
    by [] is = absurd (omega (
      arith,
      ap length (sym (encodes-chars (byte ∷ bytes) is_text)
          ∙ ap encode_utf8_all is),
    ))
    by (char ∷ text) is = not_zero (length bytes) ∙ sym (ap is_nothing is)

-- a text whose first character starts a name is one exactly where nothing is left of the others
pub name_test : (text behind rest : List ℕ) (char : ℕ) → chars text ≡ char ∷ chars behind →
    starts_name char ≡ true →
    IsUtf8 rest → chars rest ≡ drop_while continues_name (chars behind) →
    (length rest == 0) ≡ is_name (chars text)
name_test text behind rest char is starts is_text dropped =
    no_bytes rest is_text
    ∙ (ap is_nothing dropped
    ∙ (sym (dropped_all continues_name (chars behind))
    ∙ sym (ap is_name is ∙ ap (λ (b : Bool). b && list_all continues_name (chars behind)) starts)))

-- the number that the two tables give a name
pub number_of : (name : List ℕ) (one other : List (List ℕ × ℕ)) (number : Option ℕ) → IsUtf8 name →
    one ≡ reserved_in_use → other ≡ reserved_left_out → number ≡ number_in_either one other name →
    number ≡ value_of reserved (chars name)
number_of name one other number is_text first second is =
    is
    ∙ (ap (λ rows. number_in_either rows other name) first
    ∙ (ap (λ rows. number_in_either reserved_in_use rows name) second
    ∙ (ap (number_in_either reserved_in_use reserved_left_out) (sym (encodes-chars name is_text))
    ∙ reserved_number (chars name))))

-- a character that continues a name is no `:`
continues_no_colon : (char : ℕ) → continues_name char ≡ true → (char == 58) ≡ false
continues_no_colon char is =
    false_from_ne_true (char == 58) (λ colon.
    true≢false (sym (subst (λ c. continues_name c ≡ true) (eqb-true char 58 colon) is)
    ∙ is_xid_continue-ascii 58 (omega arith)))

-- nor is one that starts a name
starts_no_colon : (char : ℕ) → starts_name char ≡ true → (char == 58) ≡ false
starts_no_colon char is =
    false_from_ne_true (char == 58) (λ colon.
    true≢false (sym (subst (λ c. starts_name c ≡ true) (eqb-true char 58 colon) is)
    ∙ is_xid_start-ascii 58 (omega arith)))

-- nor those that continue one
continue_no_colon : (text : List ℕ) → list_all continues_name text ≡ true → NonePass (λ char. char == 58) text
continue_no_colon [] all = tt
continue_no_colon (char ∷ text) all =
    let both = and_parts (continues_name char) (list_all continues_name text) all in
    (continues_no_colon char both.0, continue_no_colon text both.1)

-- no character of a name is `:`
pub name_no_colon : (text : List ℕ) → is_name text ≡ true → NonePass (λ char. char == 58) text
name_no_colon [] is = tt
name_no_colon (char ∷ text) is =
    let both = and_parts (starts_name char) (list_all continues_name text) is in
    (starts_no_colon char both.0, continue_no_colon text both.1)

-- Where a part of an absolute name ends: an identifier has no `:`.
use Rattle.std.proofs.Common.{◌≡◌, ◌<◌, ℕ, ◌+◌, ◌==◌, not, cond, Bool, true, false, chars, IsUtf8}
use Rattle.std.proofs.Common.{List, [], ◌∷◌, ◌++◌, Option, Some, None, length, take, drop, get_or, is_none}
use Rattle.std.proofs.Common.{slice_get, refl, sym, ap, ◌∙◌, arith}
use Rattle.std.specs.List.{list_all, prefix_len}
use Rattle.std.specs.Str.{is_utf8, NonePass}
use Rattle.std.proofs.lemmas.Bool.{and_parts, not-true, not_from_false, eqb-true, false_from_ne_true}
use Rattle.std.proofs.lemmas.Bool.{true≢false}
use Rattle.std.proofs.lemmas.List.{take-append-drop, drop_more, get_or_default}
use Rattle.std.proofs.lemmas.List.Sums.{list_all-from_AllPass}
use Rattle.std.proofs.lemmas.Option.{none-some, get_or_from_slice_get, slice_get_within}
use Rattle.std.proofs.lemmas.Str.{IsUtf8-from_is_utf8, encodes-chars, NoCharPasses-byte}
use Rattle.case_table.specs.Tables.{value_of}
use Rattle.mdl_lexer.specs.Forms as forms
use Rattle.mdl_lexer.specs.WordTables.{reserved}
use Rattle.mdl_lexer.proofs.NameTests.{name_no_colon}
use Rattle.command_words.specs.Identifiers.{is_identifier}

-- a test before something that may fail
pub cond_then : {A : Type 0} (b : Bool) (o : Option A) (y : A) → cond b o None ≡ Some y →
    (b ≡ true) × (o ≡ Some y)
cond_then true o y e = (refl, e)
cond_then false o y e = absurd (none-some y e)

-- the list begins with no element that passes
abbrev pub stops : (ℕ → Bool) → List ℕ → Bool
stops p [] = true
stops p (x ∷ xs) = not (p x)

-- elements that pass all belong to the longest front that passes
passing_front : (p : ℕ → Bool) (xs ys : List ℕ) → list_all p xs ≡ true →
    prefix_len p (xs ++ ys) ≡ length xs + prefix_len p ys
passing_front p [] ys h = omega arith
passing_front p (x ∷ xs) ys h =
    let both = and_parts (p x) (list_all p xs) h in
    let rest : prefix_len p (xs ++ ys) ≡ length xs + prefix_len p ys = passing_front p xs ys both.1 in
    rw both.0 (omega arith)

-- where no element passes first, the longest front that passes is empty
stopped : (p : ℕ → Bool) (ys : List ℕ) → stops p ys ≡ true → prefix_len p ys ≡ 0
stopped p [] h = refl
stopped p (y ∷ ys) h = rw (not-true (p y) h) refl

-- the longest front that passes ends where the elements stop to pass
pub front_len : (p : ℕ → Bool) (xs ys : List ℕ) → list_all p xs ≡ true → stops p ys ≡ true →
    prefix_len p (xs ++ ys) ≡ length xs
front_len p xs ys h s = omega (arith, passing_front p xs ys h, stopped p ys s)

-- a list around the element at a place
pub cut_at : {X : Type 0} (xs : List X) (n : ℕ) (b : X) → slice_get xs n ≡ Some b →
    xs ≡ take n xs ++ b ∷ drop (n + 1) xs
cut_at xs n b e =
    let within : n < length xs = slice_get_within xs n b e in
    let first : drop n xs ≡ b ∷ drop (n + 1) xs =
    drop_more xs n b within ∙ ap (λ d. d ∷ drop (n + 1) xs) (get_or_from_slice_get xs n b b e) in
    sym (take-append-drop n xs) ∙ ap (λ r. take n xs ++ r) first

-- bytes of a text whose characters pass no test of an ASCII character are no such character
no_byte : (byte : ℕ) (text : List ℕ) → byte < 128 → IsUtf8 text →
    NonePass (λ char. char == byte) (chars text) → list_all (λ b. not (b == byte)) text ≡ true
no_byte byte text small is_text none =
    list_all-from_AllPass (λ b. not (b == byte)) text (λ k d within.
    not_from_false (get_or text k d == byte) (false_from_ne_true (get_or text k d == byte) (λ here.
    let is : get_or text k 0 ≡ byte =
    get_or_default text k 0 d within ∙ eqb-true (get_or text k d) byte here in
    true≢false (sym here ∙ (ap (λ b. b == byte) (get_or_default text k d 0 within)
    ∙ NoCharPasses-byte (λ char. char == byte) text k (chars text, encodes-chars text is_text, none) within
    (omega arith))))))

-- an identifier has no `:`
pub identifier_no_colon : (name : List ℕ) → is_identifier name ≡ true →
    list_all (λ byte. not (byte == 58)) name ≡ true
identifier_no_colon name is =
    let both = and_parts (is_utf8 name) (forms.is_identifier (chars name)) is in
    let named = and_parts (forms.is_name (chars name)) (is_none (value_of reserved (chars name))) both.1 in
    no_byte 58 name (omega arith) (IsUtf8-from_is_utf8 name both.0) (name_no_colon (chars name) named.0)

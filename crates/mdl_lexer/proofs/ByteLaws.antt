-- The first byte that starts no character.
use Rattle.std.proofs.Common.{◌≡◌, ◌≤◌, ◌<◌, ◌⊎◌, ◌∙◌, inl, inr, sym, ap, subst, refl, arith, ℕ}
use Rattle.std.proofs.Common.{zero, suc, Bool, true, false}
use Rattle.std.proofs.Common.{List, [], ◌∷◌, ◌++◌, length, take, drop, IsUtf8, encode_utf8, encode_utf8_all}
use Rattle.std.specs.Str.{IsValidUpTo, StartsWithNoChar, is_utf8, all_scalars}
use Rattle.std.proofs.lemmas.Bool.{and_parts, false≢true, cases_lt}
use Rattle.std.proofs.lemmas.List.{append_assoc, take-append-drop, take-take, take_all}
use Rattle.std.proofs.lemmas.List.{length-take, length-drop}
use Rattle.std.proofs.lemmas.List.{drop-append-le}
use Rattle.std.proofs.lemmas.Str.{IsUtf8-nil, IsUtf8-drop, IsCharBoundary-from_take, utf8_valid_len-IsUtf8}
use Rattle.std.proofs.lemmas.Str.{utf8_valid_len-IsValidUpTo, IsUtf8-from_is_utf8, is_utf8-from_IsUtf8}
use Rattle.mdl_lexer.specs.Lexes.{StartsNone}
use Rattle.mdl_lexer.proofs.LexingLaws.{starts_none}

-- text that isn't empty begins with a character
starts_char : (text more : List ℕ) → 1 ≤ length text → IsUtf8 text → StartsWithNoChar (text ++ more) → ⊥
starts_char text more some is_text none = by is_text.0 is_text.1.0 is_text.1.1
  where
    by : (own : List ℕ) → all_scalars own ≡ true → encode_utf8_all own ≡ text → ⊥
    by [] all is = absurd (omega (arith, some, ap length is))
    by (char ∷ own) all is =
        none char (encode_utf8_all own ++ more) (and_parts _ (all_scalars own) all).0
        (ap (λ t. t ++ more) (sym is) ∙ append_assoc (encode_utf8 char) (encode_utf8_all own) more)

-- no longer front is text
no_longer : (bytes : List ℕ) (at m : ℕ) → StartsNone bytes at → at < m → IsUtf8 (take m bytes) → ⊥
no_longer bytes at m starts less is_text =
    let front = take m bytes in
    let same : take at front ≡ take at bytes = take-take at m bytes (omega (arith, less)) in
    let boundary = IsCharBoundary-from_take front at is_text long (subst IsUtf8 (sym same) starts.front) in
    starts_char (drop at front) (drop m bytes) middle (IsUtf8-drop front at is_text boundary)
    (subst StartsWithNoChar whole starts.none)
  where
    long : at ≤ length (take m bytes)
    long = omega (arith, less, starts.within, length-take m bytes)

    middle : 1 ≤ length (drop at (take m bytes))
    middle = omega (arith, less, starts.within, length-take m bytes, length-drop at (take m bytes))

    whole : drop at bytes ≡ drop at (take m bytes) ++ drop m bytes
    whole = ap (drop at) (sym (take-append-drop m bytes))
        ∙ drop-append-le at (take m bytes) (drop m bytes) long

-- the first byte that starts no character ends the longest front that is text
valid_up_to : (bytes : List ℕ) (at : ℕ) → StartsNone bytes at → IsValidUpTo bytes at
valid_up_to bytes at starts = record {
  short = starts.within;
  front = starts.front;
  longest = λ m less is_text. no_longer bytes at m starts less is_text;
}

pub one_start : (bytes : List ℕ) (at other : ℕ) → StartsNone bytes at → StartsNone bytes other → at ≡ other
one_start bytes at other a b =
    sym (utf8_valid_len-IsValidUpTo bytes at (valid_up_to bytes at a))
    ∙ utf8_valid_len-IsValidUpTo bytes other (valid_up_to bytes other b)

-- bytes that are text have none
pub text_starts : (bytes : List ℕ) (at : ℕ) → IsUtf8 bytes → StartsNone bytes at → ⊥
text_starts bytes at is_text starts =
    omega (
      arith,
      starts.within,
      utf8_valid_len-IsUtf8 bytes is_text,
      utf8_valid_len-IsValidUpTo bytes at (valid_up_to bytes at starts),
    )

-- other bytes have one, at most so far
start_within : (bytes : List ℕ) (n : ℕ) → ((m : ℕ) → n < m → IsUtf8 (take m bytes) → ⊥) → n < length bytes →
    (at : ℕ) × StartsNone bytes at
start_within bytes zero none less =
    (0, starts_none bytes 0 (record { short = less; front = IsUtf8-nil; longest = λ m more. none m more }))
start_within bytes (suc n) none less =
    by (is_utf8 (take (suc n) bytes)) refl (λ is. start_within bytes n (shorter is) (omega (arith, less)))
  where
    at_most : (m : ℕ) → n < m → is_utf8 (take (suc n) bytes) ≡ false → (suc n < m) ⊎ (m ≤ suc n) →
        IsUtf8 (take m bytes) → ⊥
    at_most m more is (inl longer) is_text = none m longer is_text
    at_most m more is (inr equal) is_text =
        let same : m ≡ suc n = omega (arith, more, equal) in
        false≢true (sym is ∙ is_utf8-from_IsUtf8 (take (suc n) bytes) (subst (λ k. IsUtf8 (take k bytes))
        same is_text))

    shorter : is_utf8 (take (suc n) bytes) ≡ false → (m : ℕ) → n < m → IsUtf8 (take m bytes) → ⊥
    shorter is m more is_text = at_most m more is (cases_lt (suc n) m) is_text

    by : (b : Bool) → is_utf8 (take (suc n) bytes) ≡ b →
        (is_utf8 (take (suc n) bytes) ≡ false → (at : ℕ) × StartsNone bytes at) →
        (at : ℕ) × StartsNone bytes at
    by true is later = (
      suc n,
      starts_none bytes (suc n)
          (record {
            short = less;
            front = IsUtf8-from_is_utf8 (take (suc n) bytes) is;
            longest =
                λ m more. none m more;
          }),
    )
    by false is later = later is

-- bytes that aren't text have one
pub some_start : (bytes : List ℕ) → is_utf8 bytes ≡ false → (at : ℕ) × StartsNone bytes at
some_start [] is = absurd (false≢true (sym is ∙ is_utf8-from_IsUtf8 [] IsUtf8-nil))
some_start (byte ∷ bytes) is = start_within (byte ∷ bytes) (length bytes) whole (omega arith)
  where
    whole : (m : ℕ) → length bytes < m → IsUtf8 (take m (byte ∷ bytes)) → ⊥
    whole m more is_text =
        false≢true (sym is ∙ is_utf8-from_IsUtf8 (byte ∷ bytes)
        (subst IsUtf8 (take_all m (byte ∷ bytes) (omega (arith, more))) is_text))

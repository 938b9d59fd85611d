-- What stands before a word or a fault is text.
use Rattle.std.proofs.Common.{◌≡◌, ◌∙◌, sym, ap, subst, refl, arith, ℕ, Bool, true, false}
use Rattle.std.proofs.Common.{◌==◌}
use Rattle.std.proofs.Common.{List, [], ◌∷◌, ◌++◌, length, take, chars, IsUtf8, encode_utf8_all}
use Rattle.std.specs.List.{AllByRecursion}
use Rattle.std.specs.Str.{all_scalars}
use lib.Utf8.{scalar}
use Rattle.std.proofs.lemmas.Bool.{cond-true, cond-false, and_parts, and_from}
use Rattle.std.proofs.lemmas.List.{append_assoc, length-append, take_at}
use Rattle.std.proofs.lemmas.Str.{encodes-append, encodes-chars, scalars-chars}
use Rattle.mdl_lexer.specs.declared.token.Token.{Token}
use Rattle.mdl_lexer.specs.declared.token.LexFault.{LexFault}
use Rattle.mdl_lexer.specs.declared.token.LexFault.TheVariants as fault
use Rattle.mdl_lexer.specs.Steps.{StepsOver, Reads, Chain, stop, over, word, place_in}
use Rattle.mdl_lexer.specs.Lexes.{behind_mark, Lexes, HasTokens, EndsBefore, HasFault}
use Rattle.mdl_lexer.specs.Places.{IsPlace, HasPlace}

-- the end of a text
record IsEnd (text rest : List ℕ) : Type 0 where
  front : List ℕ
  written : text ≡ front ++ rest

end_of_end : (text mid rest : List ℕ) → IsEnd text mid → IsEnd mid rest → IsEnd text rest
end_of_end text mid rest a b = record {
  front = a.front ++ b.front;
  written = a.written ∙ (ap (λ r. a.front ++ r) b.written ∙ sym (append_assoc a.front b.front rest));
}

-- characters before others are characters
scalars_front : (front rest : List ℕ) → all_scalars (front ++ rest) ≡ true → all_scalars front ≡ true
scalars_front [] rest all = refl
scalars_front (char ∷ front) rest all =
    let both = and_parts (scalar char) (all_scalars (front ++ rest)) all in
    and_from (scalar char) (all_scalars front) both.0 (scalars_front front rest both.1)

-- the place of an end of the text
end_place : (bytes rest : List ℕ) → IsUtf8 bytes → IsEnd (chars bytes) rest →
    IsPlace bytes (place_in (length bytes) rest)
end_place bytes rest is_text end =
    let own = encode_utf8_all end.front in
    let whole : bytes ≡ own ++ encode_utf8_all rest =
    sym (encodes-chars bytes is_text) ∙ (ap encode_utf8_all end.written ∙ encodes-append end.front rest) in
    let size : place_in (length bytes) rest ≡ length own =
    omega (arith, ap length whole, length-append own (encode_utf8_all rest)) in
    let front : take (place_in (length bytes) rest) bytes ≡ own =
    ap (λ n. take n bytes) size ∙ (ap (take (length own)) whole
    ∙ take_at own (encode_utf8_all rest) (length own) refl) in
    record {
      within = omega (arith, size, ap length whole, length-append own (encode_utf8_all rest));
      front = subst IsUtf8 (sym front) (
        end.front,
        (
          scalars_front end.front rest (ap all_scalars (sym end.written)
              ∙ scalars-chars bytes is_text),
          refl,
        ),
      );
    }

-- a chain ends in an end of the text, and its words begin in ends of it
record Ends (bytes : List ℕ) (tokens : List Token) (rest : List ℕ) : Type 0 where
  places : AllByRecursion (λ (token : Token). IsPlace bytes token.at) tokens
  end : IsEnd (chars bytes) rest

chain_ends : (bytes text : List ℕ) (tokens : List Token) (rest : List ℕ) → IsUtf8 bytes →
    IsEnd (chars bytes) text →
    Chain StepsOver Reads (length bytes) text tokens rest → Ends bytes tokens rest
chain_ends bytes text tokens rest is_text end stop = record { places = tt; end = end }
chain_ends bytes text tokens rest is_text end (over {rest = next} steps chain) =
    chain_ends bytes next tokens rest is_text
    (end_of_end (chars bytes) text next end (record {
      front = steps.form;
      written =
          steps.begins.written;
    })) chain
chain_ends bytes text tokens rest is_text end (word {rest = next} {tokens = more} reads chain) =
    let later = chain_ends bytes next more rest is_text
    (end_of_end (chars bytes) text next end (record {
      front = reads.form;
      written =
          reads.begins.written;
    })) chain in
    record { places = (end_place bytes text is_text end, later.places); end = later.end }

-- what stands behind a byte order mark is an end of the text
mark_end : (text : List ℕ) → IsEnd text (behind_mark text)
mark_end [] = record { front = []; written = refl }
mark_end (char ∷ text) = by (char == 65279) refl
  where
    by : (b : Bool) → (char == 65279) ≡ b → IsEnd (char ∷ text) (behind_mark (char ∷ text))
    by true is = record {
      front = char ∷ [];
      written = ap (λ t. char ∷ t) (sym (cond-true (char == 65279) text (char ∷ text) is));
    }
    by false is = record { front = []; written = sym (cond-false (char == 65279) text (char ∷ text) is) }

lexed_ends : (bytes : List ℕ) (tokens : List Token) (rest : List ℕ) → Lexes bytes tokens rest →
    Ends bytes tokens rest
lexed_ends bytes tokens rest lexes =
    chain_ends bytes (behind_mark (chars bytes)) tokens rest lexes.is_text (mark_end (chars bytes))
    lexes.chain

-- before each word stands text
pub token_places : (bytes : List ℕ) (tokens : List Token) → HasTokens bytes tokens →
    AllByRecursion (λ (token : Token). IsPlace bytes token.at) tokens
token_places bytes tokens has = (lexed_ends bytes tokens [] has.lexes).places

before_end : (bytes rest : List ℕ) (at : ℕ) → EndsBefore bytes rest at → IsPlace bytes at
before_end bytes rest at ends =
    subst (IsPlace bytes) (sym ends.place)
    (end_place bytes rest ends.lexes.is_text (lexed_ends bytes ends.tokens rest ends.lexes).end)

-- before a fault too
pub fault_place : (bytes : List ℕ) (found : LexFault) → HasFault bytes found → HasPlace bytes found
fault_place bytes (fault.NotUtf8 at) has = record { within = omega (arith, has.within); front = has.front }
fault_place bytes (fault.BadToken at) has = before_end bytes has.0 at has.1
fault_place bytes (fault.IntRange at) has = before_end bytes has.0 at has.1
fault_place bytes fault.OutOfMemory has = tt

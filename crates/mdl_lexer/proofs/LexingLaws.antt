-- Laws of chains that go on at their end.
use Rattle.std.proofs.Common.{◌≡◌, ◌≢◌, ◌++◌, ◌∷◌, ◌-◌, ◌∙◌, sym, ap, subst, ℕ, List, [], Some, None, chars}
use Rattle.std.proofs.Common.{length, IsUtf8, encode_utf8_all, encode_utf8, ◌+◌, ◌<◌, take, drop, true}
use Rattle.std.proofs.Common.{false, ◌==◌, refl, arith}
use Rattle.std.proofs.lemmas.Bool.{false≢true}
use Rattle.std.proofs.lemmas.Bool.Decides.{nat_tests}
use Rattle.mdl_lexer.proofs.CuttingLaws.{none_left}
use Rattle.std.proofs.lemmas.List.{append-nil, append_assoc, take-append-drop, length-take-le, length-append}
use Rattle.std.proofs.lemmas.List.{take_at}
use Rattle.std.proofs.lemmas.Str.{encodes-chars, IsUtf8-append, IsUtf8-encode, length-encode, len_utf8_bounds}
use Rattle.std.specs.Str.{IsValidUpTo}
use Rattle.mdl_lexer.specs.Lexes.{StartsNone}
use Rattle.mdl_lexer.specs.declared.token.Kind.{Kind}
use Rattle.mdl_lexer.specs.declared.token.Token.{Token}
use Rattle.mdl_lexer.specs.Steps.{Chain, stop, over, word, place_in}
use Rattle.mdl_lexer.specs.inside.Separators.{behind_separator}
use Rattle.mdl_lexer.specs.inside.Tokens.{word_in, Read}
use Rattle.mdl_lexer.specs.inside.Lexing.{SkipsTo, FindsWord, Reaches, StopsFor}

-- what goes on from a rest goes on behind these tokens
pub record LeadsOn (bytes : List ℕ) (tokens : List Token) (rest : List ℕ) : Type 0 where
  pub on : (more : List Token) (last : List ℕ) → Chain SkipsTo FindsWord (length bytes) rest more last →
      Reaches bytes (tokens ++ more) last

-- over a separator
pub leads_over : (bytes : List ℕ) (tokens : List Token) (rest next : List ℕ) → LeadsOn bytes tokens rest →
    behind_separator rest ≡ Some next → LeadsOn bytes tokens next
leads_over bytes tokens rest next leads skips =
    record { on = λ more last chain. leads.on more last (over skips chain) }

-- over a word
pub leads_word : (bytes : List ℕ) (tokens longer : List Token) (rest next : List ℕ) (what : Kind) →
    LeadsOn bytes tokens rest → FindsWord rest what next →
    longer ≡ tokens ++ record {
      kind = what;
      at = place_in (length bytes) rest;
      end =
          place_in (length bytes) next;
    } ∷ [] →
    LeadsOn bytes longer next
leads_word bytes tokens longer rest next what leads finds pushed =
    let token : Token = record {
      kind = what;
      at = place_in (length bytes) rest;
      end =
          place_in (length bytes) next;
    } in
    record {
      on = λ more last chain.
          subst (λ all. Reaches bytes all last)
          (sym (ap (λ front. front ++ more) pushed ∙ append_assoc tokens (token ∷ []) more))
          (leads.on (token ∷ more) last (word finds chain));
    }

-- to the rest itself
pub leads_here : (bytes : List ℕ) (tokens : List Token) (rest : List ℕ) → LeadsOn bytes tokens rest →
    Reaches bytes tokens rest
leads_here bytes tokens rest leads = subst (λ all. Reaches bytes all rest) (append-nil tokens) (leads.on []
    rest stop)

-- the place of a rest, by its bytes
pub place_is : (bytes rest : List ℕ) → IsUtf8 rest →
    length bytes - length rest ≡ place_in (length bytes) (chars rest)
place_is bytes rest is_text = ap (λ own. length bytes - length own) (sym (encodes-chars rest is_text))

-- bytes that aren't empty are characters that aren't
pub some_chars : (rest : List ℕ) → IsUtf8 rest → rest ≢ [] → chars rest ≢ []
some_chars rest is_text some none = some (sym (encodes-chars rest is_text) ∙ ap encode_utf8_all none)

-- reading stops
pub stops_for : (bytes : List ℕ) (tokens : List Token) (rest : List ℕ) (cause : Read) →
    LeadsOn bytes tokens (chars rest) →
    IsUtf8 rest → rest ≢ [] → behind_separator (chars rest) ≡ None → word_in (chars rest) ≡ cause →
    StopsFor bytes (length bytes - length rest) cause
stops_for bytes tokens rest cause leads is_text some no_separator read =
    record {
      tokens = tokens;
      rest = chars rest;
      reaches = leads_here bytes tokens (chars rest) leads;
      place = place_is bytes rest is_text;
      some = some_chars rest is_text some;
      no_separator = no_separator;
      read = read;
    }

-- a token whose places are counted in bytes
pub token_places : (bytes : List ℕ) (tokens : List Token) (rest next : List ℕ) (what : Kind) → IsUtf8 rest →
    IsUtf8 next →
    tokens ++ record { kind = what; at = length bytes - length rest; end = length bytes - length next } ∷ []
    ≡ tokens ++ record {
      kind = what;
      at = place_in (length bytes) (chars rest);
      end =
          place_in (length bytes) (chars next);
    } ∷ []
token_places bytes tokens rest next what rest_is_text next_is_text =
    ap (λ at. tokens ++ record {
      kind = what;
      at = at;
      end =
          length bytes - length next;
    } ∷ []) (place_is bytes rest rest_is_text)
    ∙ ap (λ end. tokens ++ record {
      kind = what;
      at = place_in (length bytes) (chars rest);
      end =
          end;
    } ∷ []) (place_is bytes next next_is_text)

-- bytes whose number isn't 0
pub not_empty : (rest : List ℕ) → false ≡ (length rest == 0) → rest ≢ []
not_empty rest some none = false≢true (some ∙ ap (λ r. length r == 0) none)

-- bytes whose number is 0 have no characters
pub all_read : (rest : List ℕ) → true ≡ (length rest == 0) → chars rest ≡ []
all_read rest none = none_left rest rest refl (zero_is (length rest) (sym none))
  where
    zero_is : (n : ℕ) → (n == 0) ≡ true → n ≡ 0
    zero_is n is = grind (arith, nat_tests)

-- the longest front that is text ends where no character starts
pub starts_none : (bytes : List ℕ) (at : ℕ) → IsValidUpTo bytes at → StartsNone bytes at
starts_none bytes at valid =
    record {
      within = valid.short;
      front = valid.front;
      none = λ char rest scalar is.
          valid.longest (at + length (encode_utf8 char)) (longer char)
          (subst IsUtf8 (sym (cut char rest is)) (IsUtf8-append (take at bytes) (encode_utf8 char)
          valid.front (IsUtf8-encode char scalar)));
    }
  where
    longer : (char : ℕ) → at < at + length (encode_utf8 char)
    longer char = omega (arith, length-encode char, (len_utf8_bounds char).0)

    cut : (char : ℕ) (rest : List ℕ) → drop at bytes ≡ encode_utf8 char ++ rest →
        take (at + length (encode_utf8 char)) bytes ≡ take at bytes ++ encode_utf8 char
    cut char rest is =
        ap (take (at + length (encode_utf8 char)))
        (sym (take-append-drop at bytes) ∙ (ap (λ back. take at bytes ++ back) is
        ∙ sym (append_assoc (take at bytes) (encode_utf8 char) rest)))
        ∙ take_at (take at bytes ++ encode_utf8 char) rest (at + length (encode_utf8 char))
        (omega (
          arith,
          length-append (take at bytes) (encode_utf8 char),
          length-take-le at bytes (omega
              (arith, valid.short)),
        ))

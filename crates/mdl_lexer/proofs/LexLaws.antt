-- Bytes have one list of tokens or one fault.
use Rattle.std.proofs.Common.{◌≡◌, ◌≢◌, ◌⊎◌, ◌≤◌, ◌<◌, ◌∙◌, inl, inr, sym, ap, subst, refl, arith, ℕ, zero}
use Rattle.std.proofs.Common.{suc, Bool, true, false}
use Rattle.std.proofs.Common.{List, [], ◌∷◌, Option, Some, None, length, chars, IsUtf8}
use Rattle.std.specs.Str.{is_utf8}
use Rattle.std.proofs.lemmas.Bool.{cases_lt}
use Rattle.std.proofs.lemmas.List.{length-append}
use Rattle.std.proofs.lemmas.Option.{none-some}
use Rattle.std.proofs.lemmas.Str.{IsUtf8-from_is_utf8}
use Rattle.mdl_lexer.specs.declared.token.Kind.{Kind}
use Rattle.mdl_lexer.specs.declared.token.Kind.TheVariants as kind
use Rattle.mdl_lexer.specs.declared.token.Token.{Token}
use Rattle.mdl_lexer.specs.declared.token.LexFault.{LexFault}
use Rattle.mdl_lexer.specs.declared.token.LexFault.TheVariants as fault
use Rattle.mdl_lexer.specs.Forms.{IsSeparator, blank, line, block}
use Rattle.mdl_lexer.specs.Steps.{StepsOver, Reads, Chain, stop, over, word, place_in}
use Rattle.mdl_lexer.specs.Lexes.{behind_mark, most_integer, IsSmall, AreSmall, HasTokens, EndsBefore}
use Rattle.mdl_lexer.specs.Lexes.{NothingBegins, LargeBegins}
use Rattle.mdl_lexer.specs.OneLexing.{IsFault, OneStep, OneLexing}
use Rattle.mdl_lexer.specs.inside.Separators.{behind_separator}
use Rattle.mdl_lexer.proofs.AnyWord.{any_word, word_some}
use Rattle.mdl_lexer.proofs.StepLaws.{word_is_read}
use Rattle.mdl_lexer.proofs.ReadSteps.{over_found, over_read, word_found, one_over, one_word, over_or_word}
use Rattle.mdl_lexer.proofs.ChainLaws.{nothing_begins}
use Rattle.mdl_lexer.proofs.ByteLaws.{one_start, text_starts, some_start}

-- from each place there is one step at most
pub step_is_one : (text : List ℕ) → OneStep text
step_is_one text = record {
  one_separator = one_over text;
  one_word = one_word text;
  not_both = over_or_word text;
}

-- no separator and no small word begins the text
record Stuck (text : List ℕ) : Type 0 where
  no_over : (rest : List ℕ) → StepsOver text rest → ⊥
  no_word : (what : Kind) (rest : List ℕ) → Reads text what rest → IsSmall what → ⊥

end_stuck : Stuck []
unfolding behind_separator
end_stuck = record {
  no_over = λ rest steps. none-some rest (over_read [] rest steps);
  no_word = λ what rest reads small. none-some (what, rest) (word_is_read [] what rest reads);
}

nothing_stuck : (text : List ℕ) → NothingBegins text → Stuck text
nothing_stuck text nothing = record {
  no_over = nothing.no_separator;
  no_word = λ what rest reads small. nothing.no_word what rest reads;
}

large_stuck : (text : List ℕ) → LargeBegins text → Stuck text
large_stuck text large = record {
  no_over = λ rest steps. over_or_word text (kind.Int large.value) rest large.rest steps large.reads;
  no_word = λ what rest reads small.
      let within : large.value ≤ most_integer =
      subst IsSmall (one_word text what (kind.Int large.value) rest large.rest reads large.reads).0 small in
      absurd (omega (arith, within, large.large));
}

-- two chains of tokens over small words from one place, to where no more can stand, are one
record Meet (a b : List Token) (r s : List ℕ) : Type 0 where
  tokens : a ≡ b
  rest : r ≡ s

abbrev Steps : ℕ → List ℕ → List Token → List ℕ → Type 0
Steps bytes text tokens rest = Chain StepsOver Reads bytes text tokens rest

abbrev token_of : ℕ → List ℕ → Kind → List ℕ → Token
token_of bytes text what rest = record { kind = what; at = place_in bytes text; end = place_in bytes rest }

meet : (bytes : ℕ) (text : List ℕ) (a b : List Token) (r s : List ℕ) → Steps bytes text a r → AreSmall a →
    Stuck r →
    Steps bytes text b s → AreSmall b → Stuck s → Meet a b r s
meet bytes text a b r s stop small stuck stop also end = record { tokens = refl; rest = refl }
meet bytes text a b r s stop small stuck (over {rest = next} steps chain) also end =
    absurd (stuck.no_over next steps)
meet bytes text a b r s stop small stuck (word {rest = next} {what = what} reads chain) also end =
    absurd (stuck.no_word what next reads also.0)
meet bytes text a b r s (over {rest = next} steps chain) small stuck stop also end =
    absurd (end.no_over next steps)
meet bytes text a b r s (over {rest = next} steps chain) small stuck (over {rest =
    other} more others) also end =
    meet bytes next a b r s chain small stuck
    (subst (λ t. Steps bytes t b s) (one_over text other next more steps) others) also end
meet bytes text a b r s (over {rest = next} steps chain) small stuck (word {rest = other} {what =
    what} reads others) also end =
    absurd (over_or_word text what next other steps reads)
meet bytes text a b r s (word {rest = next} {what = what} reads chain) small stuck stop also end =
    absurd (end.no_word what next reads small.0)
meet bytes text a b r s (word {rest = next} {what = what} reads chain) small stuck (over {rest =
    other} steps others) also end =
    absurd (over_or_word text what other next steps reads)
meet bytes text a b r s (word {rest = next} {what = what} {tokens = more} reads chain) small stuck
    (word {rest = other} {what = kind_is} {tokens = others} also_reads chains) also end =
    let same = one_word text kind_is what other next also_reads reads in
    let later = meet bytes next more others r s chain small.1 stuck (subst (λ t. Steps bytes t others s)
    same.1 chains) also.1 end in
    record {
      tokens =
          ap (λ ts. token_of bytes text what next ∷ ts) later.tokens
          ∙ sym (ap (λ (w : Kind). token_of bytes text w other ∷ others) same.0
          ∙ ap (λ (t : List ℕ). token_of bytes text what t ∷ others) same.1);
      rest = later.rest;
    }

-- bytes have one list of tokens at most
one_list : (bytes : List ℕ) (a b : List Token) → HasTokens bytes a → HasTokens bytes b → a ≡ b
one_list bytes a b h k =
    (meet (length bytes) (behind_mark (chars bytes)) a b [] [] h.lexes.chain h.small end_stuck k.lexes.chain
    k.small end_stuck).tokens

meet_ends : (bytes rest other : List ℕ) (at behind : ℕ) → EndsBefore bytes rest at → Stuck rest →
    EndsBefore bytes other behind →
    Stuck other → (rest ≡ other) × (at ≡ behind)
meet_ends bytes rest other at behind a stuck b also =
    let same = (meet (length bytes) (behind_mark (chars bytes)) a.tokens b.tokens rest other a.lexes.chain
    a.small stuck
    b.lexes.chain b.small also).rest in
    (same, a.place ∙ (ap (place_in (length bytes)) same ∙ sym b.place))

-- a text with words ends where nothing begins, or a large integer does, in no other way
one_end : (bytes : List ℕ) (tokens : List Token) (rest : List ℕ) (at : ℕ) → HasTokens bytes tokens →
    EndsBefore bytes rest at →
    Stuck rest → rest ≡ []
one_end bytes tokens rest at has ends stuck =
    (meet (length bytes) (behind_mark (chars bytes)) ends.tokens tokens rest [] ends.lexes.chain ends.small
    stuck
    has.lexes.chain has.small end_stuck).rest

large_some : (text : List ℕ) → LargeBegins text → text ≢ []
large_some text large none =
    absurd (omega (
      arith,
      word_some large.reads.form (kind.Int large.value) large.reads.word,
      ap length (sym large.reads.begins.written ∙ none),
      length-append large.reads.form large.rest,
    ))

not_apart : (text : List ℕ) → NothingBegins text → LargeBegins text → ⊥
not_apart text nothing large = nothing.no_word (kind.Int large.value) large.rest large.reads

-- bytes have tokens or a fault
not_both : (bytes : List ℕ) (tokens : List Token) (found : LexFault) → HasTokens bytes tokens →
    IsFault bytes found → ⊥
not_both bytes tokens (fault.NotUtf8 at) has is = text_starts bytes at has.lexes.is_text is.1
not_both bytes tokens (fault.BadToken at) has is =
    is.1.2.some (one_end bytes tokens is.1.0 at has is.1.1 (nothing_stuck is.1.0 is.1.2))
not_both bytes tokens (fault.IntRange at) has is =
    large_some is.1.0 is.1.2 (one_end bytes tokens is.1.0 at has is.1.1 (large_stuck is.1.0 is.1.2))
not_both bytes tokens fault.OutOfMemory has is = is.0 refl

-- bytes have one fault at most
one_fault : (bytes : List ℕ) (a b : LexFault) → IsFault bytes a → IsFault bytes b → a ≡ b
one_fault bytes (fault.NotUtf8 at) (fault.NotUtf8 other) h k =
    ap fault.NotUtf8 (one_start bytes at other h.1 k.1)
one_fault bytes (fault.NotUtf8 at) (fault.BadToken other) h k =
    absurd (text_starts bytes at k.1.1.lexes.is_text h.1)
one_fault bytes (fault.NotUtf8 at) (fault.IntRange other) h k =
    absurd (text_starts bytes at k.1.1.lexes.is_text h.1)
one_fault bytes (fault.BadToken at) (fault.NotUtf8 other) h k =
    absurd (text_starts bytes other h.1.1.lexes.is_text k.1)
one_fault bytes (fault.BadToken at) (fault.BadToken other) h k =
    ap fault.BadToken (meet_ends bytes h.1.0 k.1.0 at other h.1.1 (nothing_stuck h.1.0 h.1.2) k.1.1
    (nothing_stuck k.1.0 k.1.2)).1
one_fault bytes (fault.BadToken at) (fault.IntRange other) h k =
    let same = (meet_ends bytes h.1.0 k.1.0 at other h.1.1 (nothing_stuck h.1.0 h.1.2) k.1.1 (large_stuck
    k.1.0 k.1.2)).0 in
    absurd (not_apart k.1.0 (subst NothingBegins same h.1.2) k.1.2)
one_fault bytes (fault.IntRange at) (fault.NotUtf8 other) h k =
    absurd (text_starts bytes other h.1.1.lexes.is_text k.1)
one_fault bytes (fault.IntRange at) (fault.BadToken other) h k =
    let same = (meet_ends bytes h.1.0 k.1.0 at other h.1.1 (large_stuck h.1.0 h.1.2) k.1.1 (nothing_stuck
    k.1.0 k.1.2)).0 in
    absurd (not_apart k.1.0 k.1.2 (subst LargeBegins same h.1.2))
one_fault bytes (fault.IntRange at) (fault.IntRange other) h k =
    ap fault.IntRange (meet_ends bytes h.1.0 k.1.0 at other h.1.1 (large_stuck h.1.0 h.1.2) k.1.1
    (large_stuck k.1.0 k.1.2)).1
one_fault bytes fault.OutOfMemory b h k = absurd (h.0 refl)
one_fault bytes a fault.OutOfMemory h k = absurd (k.0 refl)

-- how a chain of tokens ends
data End (rest : List ℕ) : Type 0 where
  whole : rest ≡ [] → End rest
  nothing : NothingBegins rest → End rest
  large : LargeBegins rest → End rest

record Runs (bytes : ℕ) (text : List ℕ) : Type 0 where
  tokens : List Token
  rest : List ℕ
  chain : Steps bytes text tokens rest
  small : AreSmall tokens
  end : End rest

-- a word is small, or an integer that is too large
small_or_large : (what : Kind) → IsSmall what ⊎ ((value : ℕ) × (what ≡ kind.Int value) × (most_integer <
    value))
small_or_large (kind.Int value) = by (cases_lt most_integer value)
  where
    by : (most_integer < value) ⊎ (value ≤ most_integer) →
        (value ≤ most_integer) ⊎ ((other : ℕ) × (kind.Int value ≡ kind.Int other) × (most_integer < other))
    by (inl more) = inr (value, refl, more)
    by (inr less) = inl less
small_or_large (kind.Word own) = inl tt
small_or_large (kind.Reserved number) = inl tt
small_or_large (kind.Mark number) = inl tt
small_or_large (kind.Real own double) = inl tt
small_or_large (kind.Str own) = inl tt

separator_some : (form : List ℕ) → IsSeparator form → 1 ≤ length form
separator_some form (blank is) = omega arith
separator_some form (line comment) = omega (arith, ap length comment.written)
separator_some form (block comment) = omega (arith, ap length comment.written)

-- from each place a chain of tokens leads to such an end
runs : (bytes fuel : ℕ) (text : List ℕ) → length text ≤ fuel → Runs bytes text
runs bytes fuel [] enough = record { tokens = []; rest = []; chain = stop; small = tt; end = whole refl }
runs bytes zero (char ∷ text) enough = absurd (omega (arith, enough))
runs bytes (suc fuel) (char ∷ text) enough =
    by (behind_separator (char ∷ text)) refl (any_word (char ∷ text)) refl (λ rest less. runs bytes fuel rest
    less)
  where
    shorter_over : (rest : List ℕ) → StepsOver (char ∷ text) rest → length rest ≤ fuel
    shorter_over rest steps =
        omega (
          arith,
          enough,
          separator_some steps.form steps.separator,
          ap length steps.begins.written,
          length-append steps.form rest,
        )

    shorter_word : (what : Kind) (rest : List ℕ) → Reads (char ∷ text) what rest → length rest ≤ fuel
    shorter_word what rest reads =
        omega (
          arith,
          enough,
          word_some reads.form what reads.word,
          ap length reads.begins.written,
          length-append reads.form rest,
        )

    limited : (what : Kind) (rest : List ℕ) → Reads (char ∷ text) what rest → Runs bytes rest →
        IsSmall what ⊎ ((value : ℕ) × (what ≡ kind.Int value) × (most_integer < value)) →
        Runs bytes (char ∷ text)
    limited what rest reads later (inl small) = record {
      tokens = token_of bytes (char ∷ text) what rest ∷ later.tokens;
      rest = later.rest;
      chain = word reads later.chain;
      small = (small, later.small);
      end = later.end;
    }
    limited what rest reads later (inr (value, is, more)) = record {
      tokens = [];
      rest = char ∷ text;
      chain = stop;
      small = tt;
      end = large (record {
        value = value;
        rest = rest;
        reads =
            subst (λ w. Reads (char ∷ text) w rest) is reads;
        large = more;
      });
    }

    by : (skipped : Option (List ℕ)) → behind_separator (char ∷ text) ≡ skipped →
        (read : Option (Kind × List ℕ)) →
        any_word (char ∷ text) ≡ read → ((rest : List ℕ) → length rest ≤ fuel → Runs bytes rest) →
        Runs bytes (char ∷ text)
    by (Some rest) is read found later =
        let steps = over_found (char ∷ text) rest is in
        let more = later rest (shorter_over rest steps) in
        record {
          tokens = more.tokens;
          rest = more.rest;
          chain = over steps more.chain;
          small =
              more.small;
          end = more.end;
        }
    by None is None found later = record {
      tokens = [];
      rest = char ∷ text;
      chain = stop;
      small = tt;
      end = nothing (nothing_begins (char ∷ text) (λ none. absurd (omega (arith, ap length none))) is found);
    }
    by None is (Some (what, rest)) found later =
        let reads = word_found (char ∷ text) what rest is found in
        limited what rest reads (later rest (shorter_word what rest reads)) (small_or_large what)

-- bytes have tokens, or a fault
abbrev Stands : List ℕ → Type 0
Stands bytes = ((tokens : List Token) × HasTokens bytes tokens) ⊎ ((found : LexFault) × IsFault bytes found)

stands : (bytes : List ℕ) → Stands bytes
stands bytes = by (is_utf8 bytes) refl
  where
    ends : IsUtf8 bytes → (run : Runs (length bytes) (behind_mark (chars bytes))) →
        EndsBefore bytes run.rest (place_in (length bytes) run.rest)
    ends is_text run = record {
      tokens = run.tokens;
      lexes = record { is_text = is_text; chain = run.chain };
      small = run.small;
      place = refl;
    }

    ended : IsUtf8 bytes → (run : Runs (length bytes) (behind_mark (chars bytes))) → End run.rest →
        Stands bytes
    ended is_text run (whole none) =
        inl (
          run.tokens,
          record {
            lexes = record {
              is_text = is_text;
              chain =
                  subst (λ r. Steps (length bytes) (behind_mark (chars bytes)) run.tokens r) none run.chain;
            };
            small = run.small;
          },
        )
    ended is_text run (nothing none) =
        inr (
          fault.BadToken (place_in (length bytes) run.rest),
          (
            (λ e. absurd cc),
            (
              run.rest,
              ends is_text
                  run,
              none,
            ),
          ),
        )
    ended is_text run (large more) =
        inr (
          fault.IntRange (place_in (length bytes) run.rest),
          (
            (λ e. absurd cc),
            (
              run.rest,
              ends is_text
                  run,
              more,
            ),
          ),
        )

    by : (b : Bool) → is_utf8 bytes ≡ b → Stands bytes
    by true is =
        let run = runs (length bytes) (length (behind_mark (chars bytes))) (behind_mark (chars bytes)) (omega
        arith) in
        ended (IsUtf8-from_is_utf8 bytes is) run run.end
    by false is =
        let start = some_start bytes is in
        inr (fault.NotUtf8 start.0, ((λ e. absurd cc), start.1))

-- bytes have one list of tokens and no fault, or one fault and no tokens
pub lexing_is_one : (bytes : List ℕ) → OneLexing bytes
lexing_is_one bytes = record {
  stands = stands bytes;
  one_list = one_list bytes;
  one_fault = one_fault bytes;
  not_both = not_both bytes;
}

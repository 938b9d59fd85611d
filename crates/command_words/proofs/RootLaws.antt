-- Reading a word of paths agrees with what it is.
use Rattle.std.proofs.Common.{◌≡◌, ◌≢◌, ◌<◌, ◌≤◌, ℕ, suc, ◌+◌, ◌==◌, ◌||◌, not, Bool, true, false}
use Rattle.std.proofs.Common.{List, [], ◌∷◌, ◌++◌, Some, None, length, nat_lt, get_or, refl, sym, ap}
use Rattle.std.proofs.Common.{◌∙◌, subst, arith}
use Rattle.std.specs.List.{list_any, AllByRecursion}
use Rattle.std.proofs.lemmas.Bool.{cond-true, cond-false, cond_both, true≢false, and_parts, and_from, or_parts}
use Rattle.std.proofs.lemmas.Bool.{eqb-true, ne_eqb, not_from_false}
use Rattle.std.proofs.lemmas.Bool.Decides.{nat_tests}
use Rattle.std.proofs.lemmas.List.{append_assoc, append-nil, length_push}
use Rattle.std.proofs.lemmas.Option.{same_Some, none-some}
use Rattle.command_words.specs.Requests.{roots_text, IsRoot, AreRoots}
use Rattle.command_words.specs.inside.Roots.{with_byte, pieces_of, is_next, roots_onto, roots_in}
use Rattle.command_words.proofs.OptionLaws.{choice}

-- a byte is `:`
abbrev colon : ℕ → Bool
colon byte = byte == 58

-- no byte is `:`
abbrev Free : List ℕ → Type 0
Free piece = list_any colon piece ≡ false

-- pieces begin so
record Begins (pieces : List (List ℕ)) : Type 0 where
  piece : List ℕ
  others : List (List ℕ)
  is : pieces ≡ piece ∷ others

begins_with_byte : (byte : ℕ) (pieces : List (List ℕ)) → Begins (with_byte byte pieces)
begins_with_byte byte [] = record { piece = byte ∷ []; others = []; is = refl }
begins_with_byte byte (piece ∷ pieces) = record { piece = byte ∷ piece; others = pieces; is = refl }

-- there is a piece
pieces_begin : (text : List ℕ) → Begins (pieces_of text)
unfolding pieces_of
pieces_begin [] = record { piece = []; others = []; is = refl }
pieces_begin (byte ∷ text) =
    cond_both (byte == 58) ([] ∷ pieces_of text) (with_byte byte (pieces_of text)) Begins
    (λ is. record { piece = []; others = pieces_of text; is = refl })
    (λ isnt. begins_with_byte byte (pieces_of text))

-- an empty piece stands before a `:`
text_with_empty : (pieces : List (List ℕ)) → Begins pieces → roots_text ([] ∷ pieces) ≡ 58 ∷ roots_text pieces
text_with_empty pieces b =
    ap (λ all. roots_text ([] ∷ all)) b.is ∙ ap (λ all. 58 ∷ roots_text all) (sym b.is)

-- a byte more at the front of the first piece
text_with_byte : (byte : ℕ) (piece : List ℕ) (others : List (List ℕ)) →
    roots_text (with_byte byte (piece ∷ others)) ≡ byte ∷ roots_text (piece ∷ others)
text_with_byte byte piece [] = refl
text_with_byte byte piece (next ∷ others) = refl

-- the pieces make the text
pieces_text : (text : List ℕ) → roots_text (pieces_of text) ≡ text
unfolding pieces_of
pieces_text [] = refl
pieces_text (byte ∷ text) =
    cond_both (byte == 58) ([] ∷ pieces_of text) (with_byte byte (pieces_of text))
    (λ pieces. roots_text pieces ≡ byte ∷ text)
    (λ is.
    text_with_empty (pieces_of text) (pieces_begin text)
    ∙ (λ i. sym (eqb-true byte 58 is) i ∷ pieces_text text i))
    (λ isnt.
    let b = pieces_begin text in
    ap (λ pieces. roots_text (with_byte byte pieces)) b.is
    ∙ (text_with_byte byte b.piece b.others
    ∙ ap (λ l. byte ∷ l) (ap roots_text (sym b.is) ∙ pieces_text text)))

free_with_byte : (byte : ℕ) (pieces : List (List ℕ)) → colon byte ≡ false → AllByRecursion Free pieces →
    AllByRecursion Free (with_byte byte pieces)
free_with_byte byte [] h all = (ap (λ b. b || false) h, tt)
free_with_byte byte (piece ∷ pieces) h all = (ap (λ b. b || list_any colon piece) h ∙ all.0, all.1)

-- no piece has a `:`
pieces_free : (text : List ℕ) → AllByRecursion Free (pieces_of text)
unfolding pieces_of
pieces_free [] = (refl, tt)
pieces_free (byte ∷ text) =
    cond_both (byte == 58) ([] ∷ pieces_of text) (with_byte byte (pieces_of text)) (AllByRecursion Free)
    (λ is. (refl, pieces_free text))
    (λ isnt. free_with_byte byte (pieces_of text) isnt (pieces_free text))

-- a text without `:` is one piece
pub pieces_one : (piece : List ℕ) → list_any (λ byte. byte == 58) piece ≡ false → pieces_of piece ≡ piece ∷ []
unfolding pieces_of
pieces_one [] h = refl
pieces_one (byte ∷ piece) h =
    let apart = or_parts (colon byte) (list_any colon piece) h in
    cond-false (byte == 58) ([] ∷ pieces_of piece) (with_byte byte (pieces_of piece)) apart.0
    ∙ ap (with_byte byte) (pieces_one piece apart.1)

-- a text without `:`, and then a `:`
pub pieces_front : (piece rest : List ℕ) → list_any (λ byte. byte == 58) piece ≡ false →
    pieces_of (piece ++ 58 ∷ rest) ≡ piece ∷ pieces_of rest
unfolding pieces_of
pieces_front [] rest h = refl
pieces_front (byte ∷ piece) rest h =
    let apart = or_parts (colon byte) (list_any colon piece) h in
    cond-false (byte == 58) ([] ∷ pieces_of (piece ++ 58 ∷ rest)) (with_byte byte (pieces_of (piece ++ 58 ∷ rest)))
    apart.0
    ∙ ap (with_byte byte) (pieces_front piece rest apart.1)

some_roots : (root : List ℕ) (roots : List (List ℕ)) → root ∷ roots ≢ []
some_roots root roots e = let long : length (root ∷ roots) ≡ 0 = ap length e in omega arith

-- paths are the pieces of the text that they make
pieces_roots : (roots : List (List ℕ)) → roots ≢ [] → AllByRecursion IsRoot roots → pieces_of (roots_text roots) ≡ roots
pieces_roots [] some all = absurd (some refl)
pieces_roots (root ∷ []) some all = pieces_one root all.0.1
pieces_roots (root ∷ next ∷ roots) some all =
    pieces_front root (roots_text (next ∷ roots)) all.0.1
    ∙ ap (λ l. root ∷ l) (pieces_roots (next ∷ roots) (some_roots next roots) all.1)

-- a list isn't empty
abbrev Full : List ℕ → Type 0
Full piece = piece ≢ []

full_length : (piece : List ℕ) → not (length piece == 0) ≡ true → Full piece
full_length [] h = λ e. true≢false (sym h)
full_length (byte ∷ piece) h = λ e. let long : length (byte ∷ piece) ≡ 0 = ap length e in omega arith

length_full : (piece : List ℕ) → Full piece → not (length piece == 0) ≡ true
length_full [] h = absurd (h refl)
length_full (byte ∷ piece) h =
    not_from_false (length (byte ∷ piece) == 0) (ne_eqb (length (byte ∷ piece)) 0 (λ e. omega arith))

-- what is read behind paths
record Reads (roots pieces all : List (List ℕ)) : Type 0 where
  is : all ≡ roots ++ pieces
  full : AllByRecursion Full pieces
  few : length roots ≤ 64 → length all ≤ 64

onto_sound : (pieces roots all : List (List ℕ)) → roots_onto roots pieces ≡ Some all → Reads roots pieces all
unfolding roots_onto
onto_sound [] roots all e =
    subst (Reads roots []) (same_Some roots all e)
    (record { is = sym (append-nil roots); full = tt; few = λ few. few })
onto_sound (piece ∷ pieces) roots all e =
    choice (is_next roots piece) (roots_onto (roots ++ piece ∷ []) pieces) None (Some all) e
    (λ next found.
    let both = and_parts (not (length piece == 0)) (nat_lt (length roots) 64) next in
    let r = onto_sound pieces (roots ++ piece ∷ []) all found in
    record {
      is = r.is ∙ append_assoc roots (piece ∷ []) pieces;
      full = (full_length piece both.0, r.full);
      few = λ few. r.few (shorter roots piece both.1);
    })
    (λ not_next found. absurd (none-some all found))
  where
    shorter : (roots : List (List ℕ)) (piece : List ℕ) → nat_lt (length roots) 64 ≡ true →
        length (roots ++ piece ∷ []) ≤ 64
    shorter roots piece h =
        let less : length roots < 64 = grind (arith, nat_tests) in
        omega (arith, length_push roots piece)

onto_complete : (pieces roots : List (List ℕ)) → AllByRecursion Full pieces → length roots + length pieces ≤ 64 →
    roots_onto roots pieces ≡ Some (roots ++ pieces)
unfolding roots_onto
onto_complete [] roots full few = ap Some (sym (append-nil roots))
onto_complete (piece ∷ pieces) roots full few =
    let room : nat_lt (length roots) 64 ≡ true = less_true roots (omega arith) in
    let next : is_next roots piece ≡ true =
    and_from (not (length piece == 0)) (nat_lt (length roots) 64) (length_full piece full.0) room in
    let short : length (roots ++ piece ∷ []) + length pieces ≤ 64 = omega (arith, length_push roots piece) in
    cond-true (is_next roots piece) (roots_onto (roots ++ piece ∷ []) pieces) None next
    ∙ (onto_complete pieces (roots ++ piece ∷ []) full.1 short ∙ ap Some (append_assoc roots (piece ∷ []) pieces))
  where
    less_true : (roots : List (List ℕ)) → length roots < 64 → nat_lt (length roots) 64 ≡ true
    less_true roots h = grind (arith, nat_tests)

-- both facts of each piece
both_facts : (pieces : List (List ℕ)) → AllByRecursion Full pieces → AllByRecursion Free pieces →
    AllByRecursion IsRoot pieces
both_facts [] full free = tt
both_facts (piece ∷ pieces) full free = ((full.0, free.0), both_facts pieces full.1 free.1)

only_full : (roots : List (List ℕ)) → AllByRecursion IsRoot roots → AllByRecursion Full roots
only_full [] all = tt
only_full (root ∷ roots) all = (all.0.0, only_full roots all.1)

-- what a word is read as are its paths
pub roots_sound : (word : List ℕ) (roots : List (List ℕ)) → roots_in word ≡ Some roots → AreRoots word roots
unfolding roots_in
roots_sound word roots e =
    let r = onto_sound (pieces_of word) [] roots e in
    let b = pieces_begin word in
    record {
      written = sym (pieces_text word) ∙ ap roots_text (sym r.is);
      some = λ none.
          let empty : length (b.piece ∷ b.others) ≡ 0 = ap length (sym b.is ∙ sym r.is ∙ none) in
          omega arith;
      few = r.few (omega arith);
      each = subst (AllByRecursion IsRoot) (sym r.is) (both_facts (pieces_of word) r.full (pieces_free word));
    }

-- a word is read as its paths
pub roots_complete : (word : List ℕ) (roots : List (List ℕ)) → AreRoots word roots → roots_in word ≡ Some roots
unfolding roots_in
roots_complete word roots h =
    ap (λ text. roots_onto [] (pieces_of text)) h.written
    ∙ (ap (roots_onto []) (pieces_roots roots h.some h.each)
    ∙ onto_complete roots [] (only_full roots h.each) (omega (arith, h.few)))

-- no byte is `:`, byte by byte
free_from : (piece : List ℕ) → ((i : ℕ) → i < length piece → get_or piece i 0 ≢ 58) →
    list_any (λ byte. byte == 58) piece ≡ false
free_from [] h = refl
free_from (byte ∷ piece) h =
    ap (λ b. b || list_any (λ byte. byte == 58) piece) (ne_eqb byte 58 (h 0 (omega arith)))
    ∙ free_from piece (λ i less. h (suc i) (omega arith))

-- a text that is cut at its first `:`
pub split_piece : (text piece behind : List ℕ) → text ≡ piece ++ 58 ∷ behind →
    ((i : ℕ) → i < length piece → get_or piece i 0 ≢ 58) → pieces_of text ≡ piece ∷ pieces_of behind
split_piece text piece behind is h = ap pieces_of is ∙ pieces_front piece behind (free_from piece h)

-- a text that isn't cut
pub whole_piece : (text : List ℕ) → ((i : ℕ) → i < length text → get_or text i 0 ≢ 58) →
    pieces_of text ≡ text ∷ []
whole_piece text h = pieces_one text (free_from text h)

-- one more path is read
pub next_root : (roots pieces : List (List ℕ)) (piece : List ℕ) → is_next roots piece ≡ true →
    roots_onto roots (piece ∷ pieces) ≡ roots_onto (roots ++ piece ∷ []) pieces
unfolding roots_onto
next_root roots pieces piece h = cond-true (is_next roots piece) (roots_onto (roots ++ piece ∷ []) pieces) None h

-- no path comes first
pub no_next_root : (roots pieces : List (List ℕ)) (piece : List ℕ) → is_next roots piece ≡ false →
    roots_onto roots (piece ∷ pieces) ≡ None
unfolding roots_onto
no_next_root roots pieces piece h = cond-false (is_next roots piece) (roots_onto (roots ++ piece ∷ []) pieces) None h

-- all paths are read
pub last_root : (roots : List (List ℕ)) → roots_onto roots [] ≡ Some roots
unfolding roots_onto
last_root roots = refl

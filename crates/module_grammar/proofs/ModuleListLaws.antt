-- Lists of a module's parts, which grow at their end, stand for their tokens.
use Rattle.std.proofs.Common.{◌≡◌, ◌≤◌, ◌∙◌, ◌+◌, sym, ap, subst, refl, arith, ℕ, suc}
use Rattle.std.proofs.Common.{List, [], ◌∷◌, ◌++◌, length, codes}
use Rattle.std.proofs.lemmas.List.{append-nil, append_assoc, length-append}
use Rattle.std.proofs.lemmas.List.{take-append-le, drop-append-le, length-drop}
use Rattle.mdl_lexer.specs.Kinds.{mark_word}
use Rattle.mdl_lexer.specs.declared.token.Kind.{Kind}
use Rattle.mdl_lexer.specs.declared.token.Token.{Token}
use Rattle.mdl_syntax.specs.Placed.{last_end, place_of, behind}
use Rattle.mdl_syntax.specs.WrittenModules.{write_each, write_several, write_more}
use Rattle.mdl_syntax.specs.PlacedModules.{placed_each}
use Rattle.expression_grammar.specs.inside.Machine.{from_to}
use Rattle.module_grammar.specs.inside.ModuleParts.{Part, Each, Several, First}
use Rattle.expression_grammar.proofs.KindLaws.{kinds_append, length_kinds, behind_long, all_of}
use Rattle.expression_grammar.proofs.KindLaws.{last_end_append}

each_words : {A : Type 0} (write_one : A → List Kind) (front back : List A) →
    write_each write_one (front ++ back) ≡ write_each write_one front ++ write_each write_one back
each_words write_one [] back = refl
each_words write_one (one ∷ front) back =
    ap (λ m. write_one one ++ m) (each_words write_one front back)
    ∙ sym (append_assoc (write_one one) (write_each write_one front) (write_each write_one back))

more_words : {A : Type 0} (write_one : A → List Kind) (front back : List A) →
    write_more write_one (front ++ back) ≡ write_more write_one front ++ write_more write_one back
more_words write_one [] back = refl
more_words write_one (one ∷ front) back =
    ap (λ m. mark_word (codes ",") ∷ (write_one one ++ m)) (more_words write_one front back)
    ∙ ap (λ m. mark_word (codes ",") ∷ m)
    (sym (append_assoc (write_one one) (write_more write_one front) (write_more write_one back)))

each_grows : {A : Type 0} (write_one : A → List Kind) (place_one : A → List Token → A)
    (front back : List A) (tokens rest : List Token) →
    length (write_each write_one front) ≡ length tokens →
    placed_each write_one place_one 0 (front ++ back) (tokens ++ rest)
    ≡ placed_each write_one place_one 0 front tokens ++ placed_each write_one place_one 0 back rest
each_grows write_one place_one [] back [] rest fits = refl
each_grows write_one place_one [] back (token ∷ tokens) rest fits = absurd (omega (arith, fits))
each_grows write_one place_one (one ∷ front) back tokens rest fits =
    let w = write_one one in
    let size : length w + length (write_each write_one front) ≡ length tokens =
    sym (length-append w (write_each write_one front)) ∙ fits in λ i.
    place_one one (take-append-le (length w) tokens rest (omega (arith, size)) i)
    ∷ (ap (placed_each write_one place_one 0 (front ++ back))
    (drop-append-le (length w + 0) tokens rest (omega (arith, size)))
    ∙ each_grows write_one place_one front back (behind w 0 tokens) rest
    (omega (arith, size, length-drop (length w + 0) tokens))) i

several_grow : {A : Type 0} (write_one : A → List Kind) (place_one : A → List Token → A) (one : A)
    (front back : List A) (tokens : List Token) (comma : Token) (rest : List Token) →
    length (write_several write_one (one ∷ front)) ≡ length tokens →
    placed_each write_one place_one 1 (one ∷ (front ++ back)) (tokens ++ comma ∷ rest)
    ≡ placed_each write_one place_one 1 (one ∷ front) tokens
    ++ placed_each write_one place_one 1 back rest
several_grow write_one place_one one [] back tokens comma rest fits =
    let w = write_one one in
    let size : length w ≡ length tokens = sym (ap length (append-nil w)) ∙ fits in λ i.
    place_one one (take-append-le (length w) tokens (comma ∷ rest) (omega (arith, size)) i)
    ∷ ap (placed_each write_one place_one 1 back) (behind_long w 1 tokens (comma ∷ rest) size) i
several_grow write_one place_one one (next ∷ front) back tokens comma rest fits =
    let w = write_one one in
    let later = write_several write_one (next ∷ front) in
    let size : length w + suc (length later) ≡ length tokens =
    sym (length-append w (mark_word (codes ",") ∷ later)) ∙ fits in λ i.
    place_one one (take-append-le (length w) tokens (comma ∷ rest) (omega (arith, size)) i)
    ∷ (ap (placed_each write_one place_one 1 (next ∷ (front ++ back)))
    (drop-append-le (length w + 1) tokens (comma ∷ rest) (omega (arith, size)))
    ∙ several_grow write_one place_one next front back (behind w 1 tokens) comma rest
    (omega (arith, size, length-drop (length w + 1) tokens))) i

pub several_front : {A : Type 0} (write_one : A → List Kind) (place_one : A → List Token → A)
    (list : List A) (tokens rest : List Token) →
    length (write_several write_one list) ≤ length tokens →
    placed_each write_one place_one 1 list (tokens ++ rest)
    ≡ placed_each write_one place_one 1 list tokens
several_front write_one place_one [] tokens rest fits = refl
several_front write_one place_one (one ∷ []) tokens rest fits =
    let w = write_one one in
    let size : length w ≤ length tokens = omega (arith, fits, ap length (append-nil w)) in λ i.
    place_one one (take-append-le (length w) tokens rest size i) ∷ []
several_front write_one place_one (one ∷ next ∷ front) tokens rest fits =
    let w = write_one one in
    let later = write_several write_one (next ∷ front) in
    let size : length w + suc (length later) ≤ length tokens =
    omega (arith, fits, length-append w (mark_word (codes ",") ∷ later)) in λ i.
    place_one one (take-append-le (length w) tokens rest (omega (arith, size)) i)
    ∷ (ap (placed_each write_one place_one 1 (next ∷ front))
    (drop-append-le (length w + 1) tokens rest (omega (arith, size)))
    ∙ several_front write_one place_one (next ∷ front) (behind w 1 tokens) rest
    (omega (arith, size, length-drop (length w + 1) tokens))) i

pub no_part_each : {A : Type 0} (write_one : A → List Kind) (place_one : A → List Token → A) →
    Each write_one place_one [] []
no_part_each write_one place_one = record { writes = refl; places = refl }

pub no_several : {A : Type 0} (write_one : A → List Kind) (place_one : A → List Token → A) →
    Several write_one place_one [] []
no_several write_one place_one = record { writes = refl; places = refl }

-- one more with its own end
pub one_more_each : {A : Type 0} (write_one : A → List Kind) (place_one : A → List Token → A)
    (list : List A) (one : A) (tokens own : List Token) → Each write_one place_one list tokens →
    Part write_one place_one one own → Each write_one place_one (list ++ one ∷ []) (tokens ++ own)
one_more_each write_one place_one list one tokens own before part = record {
  writes = each_words write_one list (one ∷ [])
      ∙ ((λ i. before.writes i ++ (append-nil (write_one one) ∙ part.writes) i)
      ∙ sym (kinds_append tokens own));
  places = each_grows write_one place_one list (one ∷ []) tokens own
      (length_kinds (write_each write_one list) tokens before.writes)
      ∙ (λ i. before.places i
      ++ (ap (place_one one) (all_of (write_one one) own part.writes) ∙ part.places) i ∷ []);
}

pub first_of_several : {A : Type 0} (write_one : A → List Kind) (place_one : A → List Token → A)
    (one : A) (own : List Token) → Part write_one place_one one own →
    Several write_one place_one (one ∷ []) own
first_of_several write_one place_one one own part = record {
  writes = append-nil (write_one one) ∙ part.writes;
  places = λ i. (ap (place_one one) (all_of (write_one one) own part.writes) ∙ part.places) i ∷ [];
}

-- one more behind a comma
pub one_more_of_several : {A : Type 0} (write_one : A → List Kind)
    (place_one : A → List Token → A) (list : List A) (one : A) (tokens : List Token)
    (comma : Token) (own : List Token) → (list ≡ [] → ⊥) → comma.kind ≡ mark_word (codes ",") →
    Several write_one place_one list tokens → Part write_one place_one one own →
    Several write_one place_one (list ++ one ∷ []) (tokens ++ comma ∷ own)
one_more_of_several write_one place_one [] one tokens comma own some is before part =
    absurd (some refl)
one_more_of_several write_one place_one (first ∷ list) one tokens comma own some is before part =
    record {
      writes = ap (λ m. write_one first ++ m) (more_words write_one list (one ∷ []))
          ∙ (sym (append_assoc (write_one first) (write_more write_one list)
          (write_more write_one (one ∷ [])))
          ∙ ((λ i. before.writes i ++ (sym is i ∷ (append-nil (write_one one) ∙ part.writes) i))
          ∙ sym (kinds_append tokens (comma ∷ own))));
      places = several_grow write_one place_one first list (one ∷ []) tokens comma own
          (length_kinds (write_several write_one (first ∷ list)) tokens before.writes)
          ∙ (λ i. before.places i
          ++ (ap (place_one one) (all_of (write_one one) own part.writes) ∙ part.places) i ∷ []);
    }

-- what follows doesn't matter

pub each_kept : {A : Type 0} (write_one : A → List Kind) (place_one : A → List Token → A)
    (list : List A) (tokens rest : List Token) → Each write_one place_one list tokens →
    placed_each write_one place_one 0 list (tokens ++ rest) ≡ list
each_kept write_one place_one list tokens rest part =
    ap (λ l. placed_each write_one place_one 0 l (tokens ++ rest)) (sym (append-nil list))
    ∙ (each_grows write_one place_one list [] tokens rest
    (length_kinds (write_each write_one list) tokens part.writes)
    ∙ (append-nil (placed_each write_one place_one 0 list tokens) ∙ part.places))

pub several_kept : {A : Type 0} (write_one : A → List Kind) (place_one : A → List Token → A)
    (list : List A) (tokens rest : List Token) → Several write_one place_one list tokens →
    placed_each write_one place_one 1 list (tokens ++ rest) ≡ list
several_kept write_one place_one list tokens rest part =
    several_front write_one place_one list tokens rest
    (omega (arith, length_kinds (write_several write_one list) tokens part.writes)) ∙ part.places

-- Where tokens begin and end.

pub first_append : (at : ℕ) (front rest : List Token) → First at front → First at (front ++ rest)
first_append at [] rest first = absurd first
first_append at (token ∷ front) rest first = first

pub first_place : (at : ℕ) (tokens : List Token) → First at tokens →
    place_of tokens ≡ from_to at (last_end 0 tokens)
first_place at [] first = absurd first
first_place at (token ∷ tokens) first = λ i. from_to (sym first i) (last_end token.end tokens)

-- from the first token to a last one
pub whole_place : (at : ℕ) (front : List Token) (last : Token) (tokens : List Token) →
    First at front → front ++ last ∷ [] ≡ tokens → place_of tokens ≡ from_to at last.end
whole_place at front last tokens first is =
    ap place_of (sym is) ∙ (first_place at (front ++ last ∷ []) (first_append at front (last ∷ [])
    first) ∙ ap (from_to at) (last_end_append 0 front (last ∷ [])))

-- what follows doesn't matter to where tokens end, if any do
pub last_end_any : (one other : ℕ) (tokens : List Token) → (tokens ≡ [] → ⊥) →
    last_end one tokens ≡ last_end other tokens
last_end_any one other [] some = absurd (some refl)
last_end_any one other (token ∷ tokens) some = refl

-- from the first token to the end of those behind it
pub long_place : (at : ℕ) (front rest : List Token) → First at (front ++ rest) →
    (rest ≡ [] → ⊥) → place_of (front ++ rest) ≡ from_to at (last_end 0 rest)
long_place at front rest first some =
    first_place at (front ++ rest) first
    ∙ ap (from_to at) (last_end_append 0 front rest ∙ last_end_any (last_end 0 front) 0 rest some)

-- Tokens that are put together.

pub are_on : (front back tokens more : List Token) → front ++ back ≡ tokens →
    front ++ (back ++ more) ≡ tokens ++ more
are_on front back tokens more are =
    sym (append_assoc front back more) ∙ ap (λ l. l ++ more) are

pub at_nothing : (Stand : List Token → Type 0) (tokens more : List Token) → tokens ≡ [] →
    Stand more → Stand (tokens ++ more)
at_nothing Stand tokens more none stands = subst (λ l. Stand (l ++ more)) (sym none) stands

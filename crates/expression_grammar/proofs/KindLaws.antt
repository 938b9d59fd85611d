-- Lists of tokens: their kinds, their fronts and what is behind them, and their places.
use Rattle.std.proofs.Common.{◌≡◌, ◌≤◌, ◌∙◌, ◌+◌, sym, ap, refl, arith, ℕ, true, false, List, []}
use Rattle.std.proofs.Common.{◌∷◌, ◌++◌}
use Rattle.std.proofs.Common.{length, take, drop}
use Rattle.std.proofs.lemmas.List.{append-nil, append_assoc, length-append, length-map, map-append}
use Rattle.std.proofs.lemmas.List.{take-append-le, drop-append-le, length-drop}
use Rattle.std.proofs.Math.Seq.{take-append_seam, drop-append-add}
use Rattle.mdl_lexer.specs.declared.token.Kind.{Kind}
use Rattle.mdl_lexer.specs.declared.token.Token.{Token}
use Rattle.mdl_syntax.specs.declared.names.Span.{Span}
use Rattle.mdl_syntax.specs.declared.names.Ident.{Ident}
use Rattle.mdl_syntax.specs.declared.names.Name.{Name}
use Rattle.mdl_syntax.specs.declared.names.NameForm.{NameForm}
use Rattle.mdl_syntax.specs.declared.names.NameForm.TheVariants as form
use Rattle.mdl_syntax.specs.Words.{parts_words, form_words, name_words}
use Rattle.mdl_syntax.specs.Written.{write}
use Rattle.mdl_syntax.specs.Placed.{last_end, place_of, tokens_of, behind, placed_ident}
use Rattle.mdl_syntax.specs.Placed.{placed_parts}
use Rattle.mdl_syntax.specs.Placed.{placed_form, placed_name, placed}
use Rattle.mdl_syntax.specs.Trees.{Tree, literal}
use Rattle.expression_grammar.specs.inside.Machine.{span_of, from_to}
use Rattle.expression_grammar.specs.Readings.{kinds}
use Rattle.expression_grammar.specs.inside.Stands.{Stands, NameStands}

pub not_empty : {A : Type 0} (first : A) (rest : List A) → first ∷ rest ≡ [] → ⊥
not_empty first rest is = omega (arith, ap length is)

pub not_empty_append : {A : Type 0} (front : List A) (one : A) (rest : List A) →
    front ++ one ∷ rest ≡ [] → ⊥
not_empty_append [] one rest is = not_empty one rest is
not_empty_append (first ∷ front) one rest is = not_empty first (front ++ one ∷ rest) is

pub append_some : (front rest : List Token) → (rest ≡ [] → ⊥) → front ++ rest ≡ [] → ⊥
append_some [] rest some is = some is
append_some (token ∷ front) rest some is = not_empty token (front ++ rest) is

pub same_head : {A : Type 0} (x y : A) (one other : List A) →
    ◌≡◌ {A = List A} (x ∷ one) (y ∷ other) → x ≡ y
same_head {A} x y one other is = ap first is
  where
    first : List A → A
    first [] = x
    first (z ∷ list) = z

pub same_tail : {A : Type 0} (x y : A) (one other : List A) →
    ◌≡◌ {A = List A} (x ∷ one) (y ∷ other) → one ≡ other
same_tail x y one other is = ap (drop 1) is

-- three lists and what is behind them
pub assoc_three : {A : Type 0} (one two three rest : List A) →
    one ++ (two ++ (three ++ rest)) ≡ (one ++ (two ++ three)) ++ rest
assoc_three one two three rest =
    ap (λ list. one ++ list) (sym (append_assoc two three rest)) ∙ sym
    (append_assoc one (two ++ three) rest)

-- Kinds and cuts.

pub kinds_append : (front rest : List Token) → kinds (front ++ rest) ≡ kinds front ++ kinds rest
kinds_append front rest = map-append (λ (token : Token). token.kind) front rest

pub length_kinds : (words : List Kind) (tokens : List Token) → words ≡ kinds tokens →
    length words ≡ length tokens
length_kinds words tokens is = ap length is ∙ length-map tokens (λ token. token.kind)

-- the tokens of words that are the front's kinds are the front
pub front_of : (words : List Kind) (front rest : List Token) → words ≡ kinds front →
    tokens_of words (front ++ rest) ≡ front
front_of words front rest is =
    ap (λ n. take n (front ++ rest)) (length_kinds words front is) ∙ take-append_seam front rest

pub all_of : (words : List Kind) (tokens : List Token) → words ≡ kinds tokens →
    tokens_of words tokens ≡ tokens
all_of words tokens is =
    ap (λ t. tokens_of words t) (sym (append-nil tokens)) ∙ front_of words tokens [] is

-- what is behind as many tokens as the words
pub behind_long : (words : List Kind) (more : ℕ) (front rest : List Token) →
    length words ≡ length front → behind words more (front ++ rest) ≡ drop more rest
behind_long words more front rest is =
    ap (λ n. drop (n + more) (front ++ rest)) is ∙ drop-append-add front rest more

pub behind_front : (words : List Kind) (more : ℕ) (front rest : List Token) → words ≡ kinds front →
    behind words more (front ++ rest) ≡ drop more rest
behind_front words more front rest is = behind_long words more front rest
    (length_kinds words front is)

-- what lies behind other words
pub later_front : (l : ℕ) (w : List Kind) (tokens rest : List Token) →
    l + length w ≤ length tokens → tokens_of w (drop l (tokens ++ rest)) ≡ tokens_of w
    (drop l tokens)
later_front l w tokens rest fits =
    ap (tokens_of w) (drop-append-le l tokens rest (omega (arith, fits))) ∙ take-append-le
    (length w) (drop l tokens) rest (omega (arith, fits, length-drop l tokens))

pub length_three : (a b c : List Kind) → length (a ++ (b ++ c)) ≡ length a + (length b + length c)
length_three a b c = length-append a (b ++ c) ∙ ap (λ n. length a + n) (length-append b c)

-- Places.

pub last_end_append : (end : ℕ) (front rest : List Token) →
    last_end end (front ++ rest) ≡ last_end (last_end end front) rest
last_end_append end [] rest = refl
last_end_append end (token ∷ front) rest = last_end_append token.end front rest

-- the place goes from the front's first byte to the last one of what is behind
pub place_append : (front : List Token) (token : Token) (rest : List Token) → (front ≡ [] → ⊥) →
    place_of (front ++ token ∷ rest) ≡ from_to (place_of front).at (last_end token.end rest)
place_append [] token rest some = absurd (some refl)
place_append (first ∷ front) token rest some =
    ap (λ end. from_to first.at end) (last_end_append first.end front (token ∷ rest))

end_behind : (end : ℕ) (tokens : List Token) → (tokens ≡ [] → ⊥) →
    last_end end tokens ≡ (place_of tokens).end
end_behind end [] some = absurd (some refl)
end_behind end (first ∷ tokens) some = refl

-- The places of trees and names.

pub span_placed : (tree : Tree) (tokens : List Token) →
    span_of (placed tree tokens) ≡ place_of tokens
span_placed (literal lit span) tokens = refl
span_placed _ tokens = refl

pub span_stands : (tree : Tree) (tokens : List Token) → Stands tree tokens →
    span_of tree ≡ place_of tokens
span_stands tree tokens stands = ap span_of (sym stands.places) ∙ span_placed tree tokens

pub name_span_stands : (name : Name) (tokens : List Token) → NameStands name tokens →
    name.span ≡ place_of tokens
name_span_stands name tokens stands =
    ap (λ (n : Name). n.span) (sym stands.places) ∙ ap place_of (all_of (name_words name) tokens
    stands.writes)

-- tokens end where their tree does
pub end_placed : (end : ℕ) (tree : Tree) (tokens : List Token) → (tokens ≡ [] → ⊥) →
    last_end end tokens ≡ (span_of (placed tree tokens)).end
end_placed end tree tokens some =
    end_behind end tokens some ∙ ap (λ (span : Span). span.end) (sym (span_placed tree tokens))

pub end_stands : (end : ℕ) (tree : Tree) (tokens : List Token) → Stands tree tokens →
    last_end end tokens ≡ (span_of tree).end
end_stands end tree tokens stands =
    end_placed end tree tokens stands.some ∙ ap (λ t. (span_of t).end) stands.places

-- tokens that begin with a tree's are placed from its first byte
pub placed_from : (tree : Tree) (front : List Token) (token : Token) (rest : List Token) (end : ℕ) →
    (front ≡ [] → ⊥) → last_end token.end rest ≡ end → place_of (front ++ token ∷ rest) ≡ from_to
    (span_of (placed tree front)).at end
placed_from tree front token rest end some ends =
    place_append front token rest some ∙ (λ i. from_to ((sym (span_placed tree front) i).at)
    (ends i))

pub place_from : (tree : Tree) (front : List Token) (token : Token) (rest : List Token) (end : ℕ) →
    Stands tree front → last_end token.end rest ≡ end → place_of (front ++ token ∷ rest) ≡ from_to
    (span_of tree).at end
place_from tree front token rest end stands ends =
    placed_from tree front token rest end stands.some ends ∙ ap (λ t. from_to (span_of t).at end)
    stands.places

pub place_from_name : (name : Name) (front : List Token) (token : Token) (rest : List Token)
    (end : ℕ) → NameStands name front → last_end token.end rest ≡ end →
    place_of (front ++ token ∷ rest) ≡ from_to name.span.at end
place_from_name name front token rest end stands ends =
    place_append front token rest stands.some
    ∙ (λ i. from_to ((sym (name_span_stands name front stands) i).at) (ends i))

-- a tree among the first tokens has its own place
pub placed_front : (tree : Tree) (front rest : List Token) → Stands tree front →
    placed tree (tokens_of (write tree) (front ++ rest)) ≡ tree
placed_front tree front rest stands =
    ap (placed tree) (front_of (write tree) front rest stands.writes) ∙ stands.places

-- A name among the first tokens has its own place.

pub parts_front : (parts : List Ident) (tokens rest : List Token) →
    length (parts_words parts) ≤ length tokens → placed_parts parts (tokens ++ rest) ≡ placed_parts
    parts tokens
parts_front [] tokens rest fits = refl
parts_front (part ∷ []) [] rest fits = absurd (omega (arith, fits))
parts_front (part ∷ []) (one ∷ tokens) rest fits = refl
parts_front (part ∷ next ∷ parts) [] rest fits = absurd (omega (arith, fits))
parts_front (part ∷ next ∷ parts) (one ∷ []) rest fits = absurd (omega (arith, fits))
parts_front (part ∷ next ∷ parts) (one ∷ two ∷ tokens) rest fits =
    ap (λ ps. placed_ident part (one ∷ []) ∷ ps) (parts_front (next ∷ parts) tokens rest
    (omega (arith, fits)))

form_front : (own : NameForm) (tokens rest : List Token) → length (form_words own) ≤ length tokens →
    placed_form own (tokens ++ rest) ≡ placed_form own tokens
form_front (form.Parts true parts) [] rest fits = absurd (omega (arith, fits))
form_front (form.Parts true parts) (one ∷ tokens) rest fits =
    ap (form.Parts true) (parts_front parts tokens rest (omega (arith, fits)))
form_front (form.Parts false parts) tokens rest fits =
    ap (form.Parts false) (parts_front parts tokens rest fits)
form_front (form.Word number) tokens rest fits = refl

pub name_front : (name : Name) (tokens rest : List Token) →
    length (name_words name) ≤ length tokens → placed_name name (tokens ++ rest) ≡ placed_name name
    tokens
name_front name tokens rest fits = λ i. record {
  form = form_front name.form tokens rest fits i;
  span = place_of (take-append-le (length (name_words name)) tokens rest fits i);
}

-- what is behind a name's own tokens doesn't matter
pub name_before : (name : Name) (front rest : List Token) → name_words name ≡ kinds front →
    placed_name name (front ++ rest) ≡ placed_name name front
name_before name front rest is = name_front name front rest
    (omega (arith, length_kinds (name_words name) front is))

pub name_kept : (name : Name) (front rest : List Token) → NameStands name front →
    placed_name name (front ++ rest) ≡ name
name_kept name front rest stands = name_before name front rest stands.writes ∙ stands.places

-- Types are written from their names and sizes.
use Rattle.std.proofs.Common.{◌≡◌, ◌∙◌, sym, ap, subst, refl, arith, ℕ, Bool, true, false, List, []}
use Rattle.std.proofs.Common.{◌∷◌}
use Rattle.std.proofs.Common.{◌++◌, length, drop, codes}
use Rattle.std.proofs.lemmas.List.{append-nil}
use Rattle.mdl_lexer.specs.Kinds.{mark_word}
use Rattle.mdl_lexer.specs.declared.token.Kind.{Kind}
use Rattle.mdl_lexer.specs.declared.token.Kind.TheVariants as kind
use Rattle.mdl_lexer.specs.declared.token.Token.{Token}
use Rattle.mdl_syntax.specs.declared.names.Ident.{Ident}
use Rattle.mdl_syntax.specs.declared.names.Name.{Name}
use Rattle.mdl_syntax.specs.declared.types.Size.{Size}
use Rattle.mdl_syntax.specs.declared.types.Size.TheVariants as size
use Rattle.mdl_syntax.specs.declared.types.TypeTree.{TypeTree}
use Rattle.mdl_syntax.specs.Words.{ident_word, name_words, size_words, type_words}
use Rattle.mdl_syntax.specs.Placed.{place_of, tokens_of, behind, placed_name, placed_ident}
use Rattle.mdl_syntax.specs.Placed.{placed_size}
use Rattle.mdl_syntax.specs.Placed.{placed_type}
use Rattle.mdl_syntax.specs.Levelled.{IsName, is_deferred}
use Rattle.expression_grammar.specs.inside.Machine.{from_to}
use Rattle.expression_grammar.specs.Readings.{kinds}
use Rattle.expression_grammar.specs.inside.Wrote.{TypeWrote, of_one, of_size, of_deferred}
use Rattle.expression_grammar.proofs.CutLaws.{Around, around, cut_at, head_is, tail_is}
use Rattle.expression_grammar.proofs.NameWroteLaws.{name_wrote, name_some, place_from_name, name_tokens}
use Rattle.expression_grammar.proofs.KindLaws.{all_of, behind_front, not_empty_append, name_before}

abbrev type_at : Name → Size → List Token → TypeTree
type_at name own tokens = record {
  name = placed_name name tokens;
  size = placed_size own (behind (name_words name) 0 tokens);
  span = place_of (tokens_of (name_words name ++ size_words own) tokens);
}

one_wrote : (strict : Bool) (name : Name) (tokens : List Token) → IsName name →
    name_words name ++ [] ≡ kinds tokens → TypeWrote strict (type_at name size.One tokens) tokens
one_wrote strict name tokens is_name is =
    subst (λ (ty : TypeTree). TypeWrote strict ty tokens)
    (λ i. record {
      name = placed_name name tokens;
      size = size.One;
      span = place_of (tokens_of (sym (append-nil (name_words name)) i) tokens);
    })
    (of_one (placed_name name tokens) tokens (name_wrote name tokens is_name
    (sym (append-nil (name_words name)) ∙ is)))

sized_wrote : (strict : Bool) (name : Name) (value : ℕ) (tokens : List Token) → IsName name →
    name_words name ++ size_words (size.Sized value) ≡ kinds tokens →
    TypeWrote strict (type_at name (size.Sized value) tokens) tokens
sized_wrote strict name value tokens is_name is =
    by tokens is (cut_at is)
  where
    behind_start : List Kind
    behind_start = kind.Int value ∷ mark_word (codes "]") ∷ []

    inner : (names : List Token) (start : Token) (rest : List Token) →
        name_words name ++ size_words (size.Sized value) ≡ kinds (names ++ start ∷ rest) →
        name_words name ≡ kinds names → start.kind ≡ mark_word (codes "[") →
        behind_start ≡ kinds rest →
        TypeWrote strict (type_at name (size.Sized value) (names ++ start ∷ rest))
        (names ++ start ∷ rest)
    inner names start (number ∷ close ∷ []) all names_are opens is =
        subst (λ (ty : TypeTree). TypeWrote strict ty (names ++ start ∷ number ∷ close ∷ []))
        (sym (λ i. record {
          name = name_before name names (start ∷ number ∷ close ∷ []) names_are i;
          size = size.Sized value;
          span = own_span i;
        }))
        (of_size (placed_name name names) names start number close value
        (name_wrote name names is_name names_are) (record { is = opens }) (head_is is)
        (record { is = head_is (tail_is is) }))
      where
        own_span : place_of (tokens_of (name_words name ++ size_words (size.Sized value))
            (names ++ start ∷ number ∷ close ∷ [])) ≡ from_to (placed_name name names).span.at
            close.end
        own_span =
            ap place_of (all_of (name_words name ++ size_words (size.Sized value))
            (names ++ start ∷ number ∷ close ∷ []) all) ∙ place_from_name name names start
            (number ∷ close ∷ []) close.end names_are (name_tokens name names is_name names_are)
            refl
    inner names start _ all names_are opens is = absurd (omega (arith, ap length is))

    by : (tokens : List Token) → name_words name ++ size_words (size.Sized value) ≡ kinds tokens →
        Around (name_words name) (mark_word (codes "[")) behind_start tokens →
        TypeWrote strict (type_at name (size.Sized value) tokens) tokens
    by tokens all (around names start rest names_are opens rest_is) =
        inner names start rest all names_are opens rest_is

deferred_wrote : (strict : Bool) (name : Name) (ident : Ident) (tokens : List Token) →
    strict ≡ false → IsName name → name_words name ++ size_words (size.Deferred ident)
    ≡ kinds tokens → TypeWrote strict (type_at name (size.Deferred ident) tokens) tokens
deferred_wrote strict name ident tokens generous is_name is =
    by tokens is (cut_at is)
  where
    behind_start : List Kind
    behind_start =
        mark_word (codes "<") ∷ ident_word ident ∷ mark_word (codes ">") ∷ mark_word (codes "]")
        ∷ []

    inner : (names : List Token) (start : Token) (rest : List Token) →
        name_words name ++ size_words (size.Deferred ident) ≡ kinds (names ++ start ∷ rest) →
        name_words name ≡ kinds names → start.kind ≡ mark_word (codes "[") →
        behind_start ≡ kinds rest →
        TypeWrote strict (type_at name (size.Deferred ident) (names ++ start ∷ rest))
        (names ++ start ∷ rest)
    inner names start (less ∷ word ∷ greater ∷ close ∷ []) all names_are opens is =
        subst (λ (ty : TypeTree). TypeWrote strict ty (names ++ rest))
        (sym (λ i. record {
          name = name_before name names rest names_are i;
          size = size.Deferred (placed_ident ident (drop 2
              (behind_front (name_words name) 0 names rest names_are i)));
          span = own_span i;
        }))
        (of_deferred (placed_name name names) names start less word greater close ident.text
        generous
        (name_wrote name names is_name names_are) (record { is = opens })
        (record { is = head_is is })
        (head_is (tail_is is)) (record { is = head_is (tail_is (tail_is is)) })
        (record { is = head_is (tail_is (tail_is (tail_is is))) }))
      where
        rest : List Token
        rest = start ∷ less ∷ word ∷ greater ∷ close ∷ []

        own_span : place_of (tokens_of (name_words name ++ size_words (size.Deferred ident))
            (names ++ rest)) ≡ from_to (placed_name name names).span.at close.end
        own_span =
            ap place_of (all_of (name_words name ++ size_words (size.Deferred ident))
            (names ++ rest) all) ∙ place_from_name name names start
            (less ∷ word ∷ greater ∷ close ∷ []) close.end names_are
            (name_tokens name names is_name names_are) refl
    inner names start _ all names_are opens is = absurd (omega (arith, ap length is))

    by : (tokens : List Token) → name_words name ++ size_words (size.Deferred ident)
        ≡ kinds tokens → Around (name_words name) (mark_word (codes "[")) behind_start tokens →
        TypeWrote strict (type_at name (size.Deferred ident) tokens) tokens
    by tokens all (around names start rest names_are opens rest_is) =
        inner names start rest all names_are opens rest_is

-- a machine is strict, or it reads deferred sizes
generous_where : (strict : Bool) → (strict ≡ true → true ≡ false) → strict ≡ false
generous_where true none = none refl
generous_where false none = refl

sizes_wrote : (strict : Bool) (name : Name) (own : Size) (tokens : List Token) → IsName name →
    (strict ≡ true → is_deferred own ≡ false) → name_words name ++ size_words own ≡ kinds tokens →
    TypeWrote strict (type_at name own tokens) tokens
sizes_wrote strict name size.One tokens is_name none is = one_wrote strict name tokens is_name is
sizes_wrote strict name (size.Sized value) tokens is_name none is =
    sized_wrote strict name value tokens is_name is
sizes_wrote strict name (size.Deferred ident) tokens is_name none is =
    deferred_wrote strict name ident tokens (generous_where strict none) is_name is

pub type_wrote : (strict : Bool) (ty : TypeTree) (tokens : List Token) → IsName ty.name →
    (strict ≡ true → is_deferred ty.size ≡ false) → type_words ty ≡ kinds tokens →
    TypeWrote strict (placed_type ty tokens) tokens
type_wrote strict ty tokens is_name none is = sizes_wrote strict ty.name ty.size tokens is_name none
    is

pub type_some : (strict : Bool) (ty : TypeTree) (tokens : List Token) → TypeWrote strict ty tokens →
    tokens ≡ [] → ⊥
type_some strict ty tokens (of_one name names n) = name_some name names n
type_some strict ty tokens (of_size name names start number close value n opens is closes) =
    not_empty_append names start (number ∷ close ∷ [])
type_some strict ty tokens (of_deferred name names start less word greater close text generous
    n opens l is g closes) =
    not_empty_append names start (less ∷ word ∷ greater ∷ close ∷ [])

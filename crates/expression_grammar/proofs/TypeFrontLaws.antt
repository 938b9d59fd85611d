-- A type among the first tokens has its own places.
use Rattle.std.proofs.Common.{◌≡◌, ◌≤◌, ◌∙◌, ap, refl, arith, ◌+◌, List, [], ◌∷◌, ◌++◌, length}
use Rattle.std.proofs.lemmas.List.{length-append, take-append-le, drop-append-le, length-drop}
use Rattle.mdl_lexer.specs.declared.token.Token.{Token}
use Rattle.mdl_syntax.specs.declared.types.Size.{Size}
use Rattle.mdl_syntax.specs.declared.types.Size.TheVariants as size
use Rattle.mdl_syntax.specs.declared.types.TypeTree.{TypeTree}
use Rattle.mdl_syntax.specs.Words.{name_words, size_words, type_words}
use Rattle.mdl_syntax.specs.Placed.{place_of, behind}
use Rattle.mdl_syntax.specs.Placed.{placed_size, placed_type}
use Rattle.expression_grammar.proofs.KindLaws.{name_front}

size_front : (own : Size) (tokens rest : List Token) → length (size_words own) ≤ length tokens →
    placed_size own (tokens ++ rest) ≡ placed_size own tokens
size_front size.One tokens rest fits = refl
size_front (size.Sized number) tokens rest fits = refl
size_front (size.Deferred name) [] rest fits = absurd (omega (arith, fits))
size_front (size.Deferred name) (one ∷ []) rest fits = absurd (omega (arith, fits))
size_front (size.Deferred name) (one ∷ two ∷ []) rest fits = absurd (omega (arith, fits))
size_front (size.Deferred name) (one ∷ two ∷ three ∷ tokens) rest fits = refl

pub type_front : (ty : TypeTree) (tokens rest : List Token) →
    length (type_words ty) ≤ length tokens → placed_type ty (tokens ++ rest) ≡ placed_type ty tokens
type_front ty tokens rest fits =
    let n = name_words ty.name in
    let both : length n + length (size_words ty.size) ≤ length tokens =
    omega (arith, fits, length-append n (size_words ty.size)) in λ i. record {
      name = name_front ty.name tokens rest (omega (arith, both)) i;
      size = (ap (placed_size ty.size) (drop-append-le (length n + 0) tokens rest
          (omega (arith, both))) ∙ size_front ty.size (behind n 0 tokens) rest
          (omega (arith, both, length-drop (length n + 0) tokens))) i;
      span = place_of (take-append-le (length (type_words ty)) tokens rest fits i);
    }

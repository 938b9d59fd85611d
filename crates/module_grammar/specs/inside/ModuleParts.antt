-- Which tokens the parts of a module stand for: those that they write, with their places.
use Rattle.std.specs.Prelude.{◌≡◌, ℕ, List, [], ◌∷◌}
use Rattle.mdl_lexer.specs.declared.token.Kind.{Kind}
use Rattle.mdl_lexer.specs.declared.token.Token.{Token}
use Rattle.mdl_syntax.specs.WrittenModules.{write_each, write_several}
use Rattle.mdl_syntax.specs.PlacedModules.{placed_each}
use Rattle.expression_grammar.specs.Readings.{kinds}

-- one part, and the tokens that it writes and that give it its places
pub record Part {A : Type 0} (write_one : A → List Kind) (place_one : A → List Token → A) (one : A)
    (tokens : List Token) : Type 0 where
  pub writes : write_one one ≡ kinds tokens
  pub places : place_one one tokens ≡ one

-- several, each with its own end
abbrev pub Each : {A : Type 0} → (A → List Kind) → (A → List Token → A) → List A → List Token → Type 0
Each write_one place_one list tokens = Part (write_each write_one) (placed_each write_one place_one 0) list tokens

-- several with commas between them
abbrev pub Several : {A : Type 0} → (A → List Kind) → (A → List Token → A) → List A → List Token → Type 0
Several write_one place_one list tokens =
    Part (write_several write_one) (placed_each write_one place_one 1) list tokens

-- the first token stands here
abbrev pub First : ℕ → List Token → Type 0
First at [] = ⊥
First at (token ∷ tokens) = at ≡ token.at

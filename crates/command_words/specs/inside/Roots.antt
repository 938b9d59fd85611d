-- Reading a word of paths, as functions.
use Rattle.std.specs.Prelude.{ℕ, ◌&&◌, ◌==◌, not, nat_lt, Bool, if◌then◌else◌}
use Rattle.std.specs.Prelude.{List, [], ◌∷◌, ◌++◌, Option, Some, None, length}

-- the pieces of a text, of which the first begins with a byte
abbrev pub with_byte : ℕ → List (List ℕ) → List (List ℕ)
with_byte byte [] = (byte ∷ []) ∷ []
with_byte byte (piece ∷ pieces) = (byte ∷ piece) ∷ pieces

-- the pieces of a text between its `:`
unfoldable pub pieces_of : List ℕ → List (List ℕ)
pieces_of [] = [] ∷ []
pieces_of (byte ∷ text) = if byte == 58 then [] ∷ pieces_of text else with_byte byte (pieces_of text)

-- a piece is a path, and there is room for it
abbrev pub is_next : List (List ℕ) → List ℕ → Bool
is_next roots piece = not (length piece == 0) && nat_lt (length roots) 64

-- these paths, and behind them the pieces
unfoldable pub roots_onto : List (List ℕ) → List (List ℕ) → Option (List (List ℕ))
roots_onto roots [] = Some roots
roots_onto roots (piece ∷ pieces) =
    if is_next roots piece then roots_onto (roots ++ piece ∷ []) pieces else None

-- the paths that a word is
unfoldable pub roots_in : List ℕ → Option (List (List ℕ))
roots_in word = roots_onto [] (pieces_of word)

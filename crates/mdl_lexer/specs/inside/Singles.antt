-- What two tables give each ASCII character alone.
use Rattle.std.specs.Prelude.{◌≡◌, ◌<◌, ℕ, List, [], ◌∷◌, Option, None, get_or}
use Rattle.mdl_lexer.specs.declared.marks.Marks.{Marks}
use Rattle.mdl_lexer.specs.inside.Tokens.{number_in_either}

abbrev pub AreSingles : List (List ℕ × ℕ) → List (List ℕ × ℕ) → List (Option ℕ) → Type 0
AreSingles one other singles =
    (byte : ℕ) → byte < 128 → get_or singles byte None ≡ number_in_either one other (byte ∷ [])

abbrev pub HasSingles : Marks → Type 0
HasSingles marks = AreSingles marks.in_use marks.left_out marks.singles

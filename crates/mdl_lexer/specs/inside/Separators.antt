-- Reading separators from the front of a text, as functions on characters.
use Rattle.std.specs.Prelude.{ℕ, ◌==◌, not, if◌then◌else◌}
use Rattle.std.specs.Prelude.{List, [], ◌∷◌, Option, Some, None}
use Rattle.mdl_lexer.specs.Characters.{is_blank}
use Rattle.mdl_lexer.specs.inside.Cutting.{drop_while, behind_one}
use Rattle.mdl_lexer.specs.inside.Reading.{or_else}

-- what stands behind a `/` that follows a `*`
abbrev pub block_end : ℕ → List ℕ → Option (List ℕ)
block_end char text = if char == 42 then behind_one 47 text else None

-- what stands behind the first `*/`
abbrev pub behind_block : List ℕ → Option (List ℕ)
behind_block [] = None
behind_block (char ∷ text) = or_else (block_end char text) (behind_block text)

-- what stands behind a comment, from behind its first `/`
unfoldable pub behind_comment : List ℕ → Option (List ℕ)
behind_comment [] = None
behind_comment (char ∷ text) =
    if char == 47 then Some (drop_while (λ next. not (next == 10)) text)
    else (if char == 42 then behind_block text else None)

-- what stands behind one separator
unfoldable pub behind_separator : List ℕ → Option (List ℕ)
behind_separator [] = None
behind_separator (char ∷ text) =
    if is_blank char then Some text else (if char == 47 then behind_comment text else None)

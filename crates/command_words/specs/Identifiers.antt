-- Identifiers, as lists of bytes.
use Rattle.std.specs.Prelude.{ℕ, ◌&&◌, Bool, List, chars}
use Rattle.std.specs.Str.{is_utf8}
use Rattle.mdl_lexer.specs.Forms as forms

-- text that is a name and no reserved word
abbrev pub is_identifier : List ℕ → Bool
is_identifier name = is_utf8 name && forms.is_identifier (chars name)

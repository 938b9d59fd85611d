-- The kinds of words, by their texts.
use Rattle.std.specs.Prelude.{ℕ, List, Option, Some, None, unwrap_or}
use Rattle.case_table.specs.Tables.{value_of}
use Rattle.mdl_lexer.specs.WordTables.{reserved, marks}
use Rattle.mdl_lexer.specs.declared.token.Kind.{Kind}
use Rattle.mdl_lexer.specs.declared.token.Kind.TheVariants as kind

-- a name by its number, if it has one
abbrev pub named : List ℕ → Option ℕ → Kind
named name None = kind.Word name
named name (Some number) = kind.Reserved number

-- a name, reserved or not
abbrev pub name_word : List ℕ → Kind
name_word name = named name (value_of reserved name)

-- a mark of the language
abbrev pub mark_word : List ℕ → Kind
mark_word mark = kind.Mark (unwrap_or (value_of marks mark) 0)

-- Why a text is no module.
use Rattle.std.specs.Prelude.{◌≡◌, ℕ, List, Option, Some, None, length, take, chars, slice_get}
use Rattle.io_edge.specs.Places.{line_behind, column_behind}
use Rattle.io_edge.specs.declared.place.Place.{Place}
use Rattle.mdl_lexer.specs.declared.token.Token.{Token}
use Rattle.mdl_lexer.specs.declared.token.LexFault.{LexFault}
use Rattle.mdl_lexer.specs.declared.token.LexFault.TheVariants as lexical
use Rattle.mdl_lexer.specs.Lexes.{HasTokens}
use Rattle.mdl_lexer.specs.OneLexing.{IsFault}
use Rattle.mdl_syntax.specs.Heights.{most_height}
use Rattle.expression_grammar.specs.declared.fault.ParseFault.{ParseFault}
use Rattle.expression_grammar.specs.declared.fault.ParseFault.TheVariants as grammar
use Rattle.mdl_grammar.specs.Answers.{HasModuleFault}

-- the line and the column of a byte
abbrev pub place_in : List ℕ → ℕ → Place
place_in bytes at = let front = chars (take at bytes) in
    record { line = line_behind front; column = column_behind front }

-- the place of a lexical fault. A byte that starts no character has column 0
abbrev pub lexical_place : List ℕ → LexFault → Option Place
lexical_place bytes (lexical.NotUtf8 at) =
    Some (record { line = line_behind (chars (take at bytes)); column = 0 })
lexical_place bytes (lexical.BadToken at) = Some (place_in bytes at)
lexical_place bytes (lexical.IntRange at) = Some (place_in bytes at)
lexical_place bytes lexical.OutOfMemory = None

-- the bytes have no words for this fault at this place
pub record RefusesBytes (bytes : List ℕ) (fault : LexFault) (place : Place) : Type 0 where
  pub stands : IsFault bytes fault
  pub place_is : lexical_place bytes fault ≡ Some place

-- the byte where a token begins. Behind the last one the text ends
abbrev pub begin_of : List ℕ → Option Token → ℕ
begin_of bytes (Some token) = token.at
begin_of bytes None = length bytes

abbrev pub byte_of : List ℕ → List Token → ℕ → ℕ
byte_of bytes tokens number = begin_of bytes (slice_get tokens number)

-- the token at which a fault of the grammar stands
abbrev pub token_of : ParseFault → Option ℕ
token_of (grammar.BadSyntax declaration at) = Some at
token_of (grammar.TooDeep at) = Some at
token_of (grammar.StatementBody at) = Some at
token_of (grammar.LeftOut at word) = Some at
token_of (grammar.Version at) = Some at
token_of grammar.OutOfMemory = None

-- the words aren't accepted for this fault at this place
pub record RefusesWords (bytes : List ℕ) (fault : ParseFault) (place : Place) : Type 0 where
  pub tokens : List Token
  pub has : HasTokens bytes tokens
  pub stands : HasModuleFault most_height tokens fault
  pub at : ℕ
  pub stands_at : token_of fault ≡ Some at
  pub place_is : place ≡ place_in bytes (byte_of bytes tokens at)

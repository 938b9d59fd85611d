-- The words that first texts are made of, as kinds of tokens.
use Rattle.std.specs.Prelude.{List, map}
use Rattle.mdl_lexer.specs.declared.token.Kind.{Kind}
use Rattle.mdl_lexer.specs.declared.token.Token.{Token}
pub use Rattle.mdl_lexer.specs.Kinds.{named, name_word, mark_word}

-- the kinds of tokens, in order
abbrev pub kinds_of : List Token → List Kind
kinds_of tokens = map (λ (token : Token). token.kind) tokens

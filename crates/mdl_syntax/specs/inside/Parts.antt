-- The words of one argument, and of one initializer.
use Rattle.std.specs.Prelude.{List, [], ◌∷◌, ◌++◌, codes}
use Rattle.mdl_lexer.specs.declared.token.Kind.{Kind}
use Rattle.mdl_lexer.specs.Kinds.{mark_word}
use Rattle.mdl_syntax.specs.Words.{ident_word, type_words, frequency_words}
use Rattle.mdl_syntax.specs.Trees.{Argument, Initializer}
use Rattle.mdl_syntax.specs.Written.{label_words, write}

abbrev pub argument_words : Argument → List Kind
argument_words (name, value, span) = label_words name ++ write value

abbrev pub initializer_words : Initializer → List Kind
initializer_words (frequency, ty, name, value, span) =
    frequency_words frequency ++ (type_words ty
    ++ (ident_word name ∷ mark_word (codes "=") ∷ (write value ++ mark_word (codes ";") ∷ [])))

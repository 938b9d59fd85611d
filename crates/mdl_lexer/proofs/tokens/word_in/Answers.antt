use Rattle.mdl_lexer.proofs.CuttingLaws.{ok_rest}
use Rattle.mdl_lexer.proofs.tokens.word_in.Goals as goal

pub returns-then-character-eq34-clause-rest : goal.returns-then-character-eq34-clause-rest
returns-then-character-eq34-clause-rest c = ok_rest _ _ c.string_word.result c.in-Some.ensures.some.is_rest
    c.string_word.ensures.rest

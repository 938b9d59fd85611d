use Rattle.mdl_lexer.proofs.LexLaws.{lexing_is_one}
use Rattle.mdl_lexer.proofs.lexer.one_lexing.Goals as goal

pub returns : goal.returns
returns c = lexing_is_one

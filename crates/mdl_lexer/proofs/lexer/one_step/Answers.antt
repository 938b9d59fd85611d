use Rattle.mdl_lexer.proofs.LexLaws.{step_is_one}
use Rattle.mdl_lexer.proofs.lexer.one_step.Goals as goal

pub returns : goal.returns
returns c = step_is_one

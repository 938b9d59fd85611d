use Rattle.expression_grammar.proofs.ReadingLaws.{written_is_read}
use Rattle.expression_grammar.proofs.laws.what_is_written_is_read.Goals as goal

pub returns : goal.returns
returns c = written_is_read

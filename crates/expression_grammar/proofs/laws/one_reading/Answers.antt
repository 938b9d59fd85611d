use Rattle.expression_grammar.proofs.ReadingLaws.{one_reading}
use Rattle.expression_grammar.proofs.laws.one_reading.Goals as goal

pub returns : goal.returns
returns c = one_reading

use Rattle.expression_grammar.proofs.ReadingLaws.{fault_opens}
use Rattle.expression_grammar.proofs.laws.before_a_fault.Goals as goal

pub returns : goal.returns
returns c = fault_opens

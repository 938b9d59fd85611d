use Rattle.expression_grammar.proofs.AsideLaws.{same_but_places}
use Rattle.expression_grammar.proofs.laws.one_expression.Goals as goal

pub returns : goal.returns
returns c = same_but_places

use Rattle.mdl_cli.proofs.HeadlineLaws.{headline}
use Rattle.mdl_cli.proofs.CompleteLaws.{complete}
use Rattle.mdl_cli.proofs.run.run.Goals as goal

pub returns-clause-headline : goal.returns-clause-headline
returns-clause-headline g c = headline _ _ c.find_answer-answer.ensures c.deliver.ensures

pub returns-clause-complete : goal.returns-clause-complete
returns-clause-complete g c = complete _ _ c.one_outcome.ensures c.find_answer-answer.ensures c.deliver.ensures

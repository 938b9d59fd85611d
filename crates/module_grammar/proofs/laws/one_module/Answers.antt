use Rattle.module_grammar.proofs.ModuleSameLaws.{same_module}
use Rattle.module_grammar.proofs.laws.one_module.Goals as goal

pub returns : goal.returns
returns c = same_module

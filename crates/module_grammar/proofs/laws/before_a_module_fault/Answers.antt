use Rattle.module_grammar.proofs.ModuleBeforeLaws.{module_before_a_fault}
use Rattle.module_grammar.proofs.laws.before_a_module_fault.Goals as goal

pub returns : goal.returns
returns c = module_before_a_fault

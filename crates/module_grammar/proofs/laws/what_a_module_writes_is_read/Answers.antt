use Rattle.module_grammar.proofs.ModuleRunLaws.{module_written_is_read}
use Rattle.module_grammar.proofs.laws.what_a_module_writes_is_read.Goals as goal

pub returns : goal.returns
returns c = module_written_is_read

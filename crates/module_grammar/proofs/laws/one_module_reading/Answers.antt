use Rattle.module_grammar.proofs.ModuleReadingsLaws.{one_module_reading}
use Rattle.module_grammar.proofs.laws.one_module_reading.Goals as goal

pub returns : goal.returns
returns c = one_module_reading

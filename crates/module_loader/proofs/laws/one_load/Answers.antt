use Rattle.module_loader.proofs.OneLoadLaws.{one-load}
use Rattle.module_loader.proofs.laws.one_load.Goals as goal

pub returns : goal.returns
returns c = λ packages first. one-load c.one_module_reading.ensures packages first

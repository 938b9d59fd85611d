use Rattle.module_set.proofs.CycleLaws.{first_cycle_is_one}
use Rattle.module_set.proofs.laws.one_first_cycle.Goals as goal

pub returns : goal.returns
returns c = first_cycle_is_one

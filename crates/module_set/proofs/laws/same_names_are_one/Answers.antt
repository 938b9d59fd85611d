use Rattle.module_set.specs.NameLaws.{same_name-tells}
use Rattle.module_set.proofs.laws.same_names_are_one.Goals as goal

pub returns : goal.returns
returns c = same_name-tells

use Rattle.mdl_syntax.proofs.PlacedModuleTwice.{placed_module_twice}
use Rattle.mdl_syntax.proofs.laws.module_places_come_from_tokens.Goals as goal

pub returns : goal.returns
returns c = placed_module_twice

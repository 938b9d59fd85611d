use Rattle.mdl_syntax.proofs.PlacedModuleLaws.{placed_module_same_words}
use Rattle.mdl_syntax.proofs.laws.module_places_change_no_word.Goals as goal

pub returns : goal.returns
returns c = placed_module_same_words

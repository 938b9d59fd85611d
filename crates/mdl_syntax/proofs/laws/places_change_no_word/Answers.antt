use Rattle.mdl_syntax.proofs.PlacedLaws.{written}
use Rattle.mdl_syntax.proofs.laws.places_change_no_word.Goals as goal

pub returns : goal.returns
returns c = written

use Rattle.mdl_syntax.proofs.PlacedTwice.{placed_twice}
use Rattle.mdl_syntax.proofs.laws.places_come_from_tokens.Goals as goal

pub returns : goal.returns
returns c = placed_twice

use Rattle.std.proofs.Common.{arith, rules}
use Rattle.module_loader.proofs.PlaceLaws.{are-places}
use Rattle.module_loader.proofs.texts.read_words.Goals as goal

pub returns-in-Ok-clause-places : goal.returns-in-Ok-clause-places
returns-in-Ok-clause-places c =
    are-places c.args.bytes.now _ c.args.tokens.now (record { within = omega arith; front = search rules })
    c.requires.places
    c.in-Ok.ensures.tree.places

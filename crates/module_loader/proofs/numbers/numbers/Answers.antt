use Rattle.module_loader.specs.inside.Distances.{links_of}
use Rattle.module_loader.proofs.NumberLaws.{zeros-rise-not}
use Rattle.module_loader.proofs.numbers.numbers.Goals as goal

pub returns : goal.returns
returns c = zeros-rise-not (links_of c.args.all.now) c.new-none.result.items c.new-none.ensures.items

use Rattle.std.proofs.Common.{ap}
use Rattle.mdl_syntax.specs.Heights.{height}
use Rattle.mdl_syntax.proofs.TreeLaws.{tree_of-Lit}
use Rattle.mdl_syntax.proofs.write_tests.literal.Goals as goal

pub returns : goal.returns
returns c = ap height (tree_of-Lit c.args.lit (record { at = 0; end = 0 }))

use Rattle.std.proofs.Common.{ap, sym}
use Rattle.type_rules.specs.Terms.{symbol_of}
use Rattle.mdl_cli.proofs.TreeLaws.{term_of-out}
use Rattle.mdl_cli.proofs.tree.Tree.symbol.Goals as goal

pub returns : goal.returns
returns c = sym (ap symbol_of (term_of-out c.args.self.now))

use Rattle.std.proofs.Common.{◌∙◌, ap, map}
use Rattle.type_rules.specs.Terms.{apply, terms_from}
use Rattle.mdl_cli.specs.inside.Trees.{term_of}
use Rattle.mdl_cli.proofs.TreeLaws.{term_of-roll}
use Rattle.mdl_cli.proofs.tree.Tree.new.Goals as goal

pub returns : goal.returns
returns c = term_of-roll _ ∙ ap (λ kids. apply c.args.symbol (terms_from (map term_of kids))) c.of.ensures

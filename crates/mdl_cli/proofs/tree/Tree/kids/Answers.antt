use Rattle.std.proofs.Common.{◌∙◌, ap, sym, map}
use Rattle.type_rules.specs.Terms.{kids_of}
use Rattle.type_rules.specs.TermLaws.{list_of-terms_from}
use Rattle.mdl_cli.specs.inside.Trees.{term_of}
use Rattle.mdl_cli.proofs.TreeLaws.{term_of-out}
use Rattle.mdl_cli.proofs.tree.Tree.kids.Goals as goal

pub returns : goal.returns
returns c = ap (map term_of) c.list.ensures
    ∙ sym (ap kids_of (term_of-out c.args.self.now) ∙ list_of-terms_from _)

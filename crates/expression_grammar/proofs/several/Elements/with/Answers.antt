use Rattle.std.proofs.Common.{rules}
use Rattle.expression_grammar.proofs.SeveralLaws.{more_trees}
use Rattle.expression_grammar.proofs.several.Elements.with.Goals as goal

pub invariant_of-result : goal.invariant_of-result
invariant_of-result c =
    rw c.in_ok-push.ensures.items (search (more_trees, c.self.invariant, c.self.view_is, rules))

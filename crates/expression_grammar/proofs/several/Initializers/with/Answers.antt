use Rattle.std.proofs.Common.{rules}
use Rattle.expression_grammar.proofs.SeveralLaws.{more_initializers, longer_initializer_list}
use Rattle.expression_grammar.proofs.several.Initializers.with.Goals as goal

pub invariant_of-result : goal.invariant_of-result
invariant_of-result c =
    rw c.in_ok-push.ensures.items (search (more_initializers, c.self.invariant, c.self.view_is, rules))

pub returns : goal.returns
returns c =
    rw c.in_ok-push.ensures.items (search (longer_initializer_list, c.self.view_is, rules))

use Rattle.std.proofs.Common.{rules}
use Rattle.expression_grammar.proofs.CallLaws.{no_call}
use Rattle.expression_grammar.proofs.operand.Operand.into_call.Goals as goal

pub returns-in_default : goal.returns-in_default
returns-in_default c =
    rw (← c.self.view_is) (search rules, no_call c.self.inside.tree c.in_default.not-Call)

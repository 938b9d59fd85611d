use Rattle.std.proofs.Common.{rules}
use Rattle.expression_grammar.proofs.StackLaws.{stack_laws}
use Rattle.expression_grammar.proofs.StepLaws.{sized_otherwise}
use Rattle.expression_grammar.proofs.brackets.sized_step.Goals as goal

pub returns-in_ok-push-in_default : goal.returns-in_ok-push-in_default
returns-in_ok-push-in_default c =
    rw (sized_otherwise _ _ _ _ _ _ _ c.in_default.not-ClosingBracket) (search (stack_laws, rules))

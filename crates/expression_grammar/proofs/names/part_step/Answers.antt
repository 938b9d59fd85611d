use Rattle.std.proofs.Common.{rules}
use Rattle.expression_grammar.proofs.StepLaws.{part_otherwise}
use Rattle.expression_grammar.proofs.names.part_step.Goals as goal

pub returns-in_default : goal.returns-in_default
returns-in_default c = rw (part_otherwise _ _ _ _ _ _ c.in_default.not-DoubleColon) (search rules)

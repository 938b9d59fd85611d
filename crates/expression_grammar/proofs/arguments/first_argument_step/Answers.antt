use Rattle.std.proofs.Common.{rules}
use Rattle.expression_grammar.specs.inside.Views.{stack_of}
use Rattle.expression_grammar.proofs.StepLaws.{first_argument_otherwise}
use Rattle.expression_grammar.proofs.arguments.first_argument_step.Goals as goal

pub returns-in_default : goal.returns-in_default
returns-in_default c =
    rw (first_argument_otherwise c.args.limit (stack_of c.args.frames.now.items) c.args.sort c.args.place
    c.in_default.not-Closing)
    (search rules)

use Rattle.std.proofs.Common.{rules}
use Rattle.expression_grammar.specs.inside.Views.{stack_of}
use Rattle.expression_grammar.proofs.StackLaws.{stack_laws}
use Rattle.expression_grammar.proofs.StepLaws.{argument_otherwise}
use Rattle.expression_grammar.proofs.arguments.argument_step.Goals as goal

pub returns-else-named-2 : goal.returns-else-named-2
returns-else-named-2 c =
    rw (argument_otherwise c.args.limit (stack_of c.args.frames.now.items) c.args.sort c.args.place
    (search (c.if-named-2.false, rules)) c.in_default.not-Identifier)
    (search (stack_laws, rules))

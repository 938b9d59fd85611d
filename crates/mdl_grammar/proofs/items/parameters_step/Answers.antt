use Rattle.mdl_grammar.specs.inside.ModuleViews.{begun_of, owner_of}
use Rattle.mdl_grammar.proofs.ItemStepLaws.{parameters_otherwise}
use Rattle.mdl_grammar.proofs.items.parameters_step.Goals as goal

pub returns-in_default : goal.returns-in_default
returns-in_default c =
    rw (parameters_otherwise c.args.token (begun_of c.args.begun.now) (owner_of c.args.owner) c.args.sort
    c.args.place c.in_default.not-Closing c.in_default.not-BinaryOperator)
    (rw c.new-parameters.ensures.items at c.first_front_step.ensures)

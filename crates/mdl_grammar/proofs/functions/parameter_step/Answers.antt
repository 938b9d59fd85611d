use Rattle.std.proofs.Common.{rules, map}
use Rattle.mdl_syntax.specs.Modules.{parameter_of}
use Rattle.mdl_grammar.specs.inside.ModuleViews.{begun_of, owner_of, front_of}
use Rattle.module_grammar.proofs.ModuleStepLaws.{parameter_otherwise, longer_parameters}
use Rattle.mdl_grammar.proofs.functions.parameter_step.Goals as goal

pub returns-in_ok-push-in_default : goal.returns-in_ok-push-in_default
returns-in_ok-push-in_default c =
    rw (parameter_otherwise (begun_of c.args.begun.now) (owner_of c.args.owner)
    (map parameter_of c.args.parameters.items) (front_of c.args.front.value) c.args.sort
    c.in_default.not-Equals c.in_default.not-OpeningBracket)
    (search (longer_parameters, rules))

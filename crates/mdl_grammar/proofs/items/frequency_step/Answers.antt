use Rattle.std.proofs.Common.{rules}
use Rattle.std.proofs.Common.{map}
use Rattle.mdl_syntax.specs.Modules.{parameter_of}
use Rattle.mdl_grammar.specs.inside.ModuleViews.{begun_of, fronted_of}
use Rattle.mdl_grammar.proofs.ItemStepLaws.{function_otherwise}
use Rattle.mdl_grammar.proofs.items.frequency_step.Goals as goal

pub returns-in_default : goal.returns-in_default
returns-in_default c =
    rw (function_otherwise (begun_of c.args.begun.now) (fronted_of c.args.fronted.value)
    (map parameter_of c.args.parameters.items) c.args.sort c.args.place c.in_default.not-Frequency)
    (search rules)

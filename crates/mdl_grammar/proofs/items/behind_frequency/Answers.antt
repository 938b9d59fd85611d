use Rattle.std.proofs.Common.{rules}
use Rattle.std.proofs.Common.{map}
use Rattle.mdl_syntax.specs.Modules.{parameter_of}
use Rattle.mdl_grammar.specs.inside.ModuleViews.{begun_of, fronted_of}
use Rattle.mdl_grammar.proofs.ItemStepLaws.{unmarked_otherwise}
use Rattle.mdl_grammar.proofs.items.behind_frequency.Goals as goal

pub returns-in_default : goal.returns-in_default
returns-in_default c =
    rw (unmarked_otherwise (begun_of c.args.begun.now) (fronted_of c.args.fronted.value)
    (map parameter_of c.args.parameters.items) c.args.frequency c.args.sort c.args.place
    c.in_default.not-OpeningBracket)
    (search rules)

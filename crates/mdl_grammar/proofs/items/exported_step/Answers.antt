use Rattle.std.proofs.Common.{rules}
use Rattle.mdl_grammar.specs.inside.ModuleViews.{begun_of}
use Rattle.mdl_grammar.proofs.ItemStepLaws.{exported_otherwise}
use Rattle.mdl_grammar.proofs.items.exported_step.Goals as goal

pub returns-in_default : goal.returns-in_default
returns-in_default c =
    rw (exported_otherwise c.args.token (begun_of c.args.begun.now) c.args.at c.args.sort c.args.place
    c.in_default.not-Using)
    (search rules)

use Rattle.std.proofs.Common.{rules}
use Rattle.mdl_grammar.specs.inside.ModuleViews.{begun_of}
use Rattle.mdl_grammar.proofs.ItemStepLaws.{late_otherwise}
use Rattle.mdl_grammar.proofs.items.late_step.Goals as goal

pub returns-in_default : goal.returns-in_default
returns-in_default c =
    rw (late_otherwise c.args.token (begun_of c.args.begun.now) c.args.sort c.args.place
    c.in_default.not-Export)
    (search rules)

use Rattle.std.proofs.Common.{rules}
use Rattle.mdl_grammar.specs.inside.ModuleViews.{begun_of, fronted_of}
use Rattle.module_grammar.proofs.ModuleStepLaws.{variant_otherwise}
use Rattle.mdl_grammar.proofs.functions.variant_step.Goals as goal

pub returns-in_default : goal.returns-in_default
returns-in_default c =
    rw (variant_otherwise (begun_of c.args.begun.now) (fronted_of c.args.fronted.value) c.args.sort
    c.in_default.not-OpeningBracket)
    (search rules)

use Rattle.std.proofs.Common.{rules}
use Rattle.mdl_grammar.specs.inside.ModuleViews.{begun_of, enum_of}
use Rattle.module_grammar.proofs.ModuleStepLaws.{number_otherwise}
use Rattle.mdl_grammar.proofs.structs.number_read_step.Goals as goal

pub returns-in_default : goal.returns-in_default
returns-in_default c =
    rw (number_otherwise (begun_of c.args.begun.now) (enum_of c.args.held) c.args.name c.args.value c.args.end
    c.args.sort c.in_default.not-OpeningBracket)
    (search rules)

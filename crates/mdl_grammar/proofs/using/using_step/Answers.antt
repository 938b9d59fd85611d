use Rattle.std.proofs.Common.{rules}
use Rattle.mdl_grammar.specs.inside.ModuleViews.{begun_of, naming_of}
use Rattle.mdl_grammar.proofs.ImportStepLaws.{using_otherwise}
use Rattle.mdl_grammar.proofs.using.using_step.Goals as goal

pub returns-in_default : goal.returns-in_default
returns-in_default c =
    rw (using_otherwise (begun_of c.args.begun.now) c.args.at (naming_of c.args.naming) c.args.sort
    c.args.place c.in_default.not-Str c.in_default.not-Equals c.in_default.not-Import)
    (search rules)

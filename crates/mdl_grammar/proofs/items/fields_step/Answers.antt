use Rattle.std.proofs.Common.{rules}
use Rattle.mdl_grammar.specs.inside.ModuleViews.{begun_of, struct_of}
use Rattle.mdl_grammar.proofs.ItemStepLaws.{fields_otherwise}
use Rattle.mdl_grammar.proofs.items.fields_step.Goals as goal

pub returns-in_default : goal.returns-in_default
returns-in_default c =
    rw (fields_otherwise c.args.token (begun_of c.args.begun.now) (struct_of c.args.held) c.args.sort
    c.args.place c.in_default.not-ClosingBrace)
    (search rules)

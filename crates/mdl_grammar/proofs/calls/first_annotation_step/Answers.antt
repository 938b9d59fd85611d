use Rattle.mdl_grammar.specs.inside.ModuleViews.{begun_of, holder_of}
use Rattle.mdl_grammar.proofs.SiteStepLaws.{first_otherwise}
use Rattle.mdl_grammar.proofs.calls.first_annotation_step.Goals as goal

pub returns-in_default : goal.returns-in_default
returns-in_default c =
    rw (first_otherwise c.args.limit (begun_of c.args.begun.now) (holder_of c.args.holder.value) c.args.sort
    c.args.place c.in_default.not-ClosingBracket)
    c.first_call.ensures

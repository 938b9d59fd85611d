use Rattle.std.proofs.Common.{rules}
use Rattle.mdl_grammar.specs.inside.ModuleViews.{begun_of, site_of}
use Rattle.expression_grammar.specs.inside.Views.{mode_of}
use Rattle.expression_grammar.specs.inside.SortViews.{sort_view}
use Rattle.mdl_grammar.proofs.SiteStepLaws.{call_inside, call_begins, no_call_begins}
use Rattle.mdl_grammar.proofs.calls.call_step.Goals as goal

pub returns-then-not-is_empty : goal.returns-then-not-is_empty
returns-then-not-is_empty c =
    rw (call_inside c.args.limit (begun_of c.args.begun.now) (site_of c.args.site.value) (mode_of c.args.mode)
    c.args.frames.items (sort_view c.args.sort) c.args.place (search rules))
    c.within_call.ensures

pub returns-then-may_name : goal.returns-then-may_name
returns-then-may_name c =
    rw (call_begins c.args.limit (begun_of c.args.begun.now) (site_of c.args.site.value) (mode_of c.args.mode)
    c.args.frames.items (sort_view c.args.sort) c.args.place (search rules) (search rules))
    c.within_call-then-may_name.ensures

pub returns-else-may_name : goal.returns-else-may_name
returns-else-may_name c =
    no_call_begins c.args.limit (begun_of c.args.begun.now) (site_of c.args.site.value) (mode_of c.args.mode)
    c.args.frames.items (sort_view c.args.sort) c.args.place (search rules) (search rules)

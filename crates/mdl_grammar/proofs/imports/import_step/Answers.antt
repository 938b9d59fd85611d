use Rattle.std.proofs.Common.{rules}
use Rattle.mdl_grammar.specs.inside.ModuleViews.{begun_of, naming_of}
use Rattle.expression_grammar.specs.inside.SortViews.{sort_view}
use Rattle.mdl_grammar.proofs.ImportStepLaws.{import_by}
use Rattle.mdl_grammar.proofs.imports.import_step.Goals as goal

pub returns : goal.returns
returns c =
    rw (import_by (begun_of c.args.begun.now) c.args.at c.args.items.items (naming_of c.args.naming)
    (sort_view c.args.sort) c.args.place) (search rules)

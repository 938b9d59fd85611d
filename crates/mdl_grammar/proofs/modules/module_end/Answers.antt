use Rattle.std.proofs.Common.{◌∙◌, sym}
use Rattle.mdl_grammar.specs.inside.ModuleViews.{begun_of, position_of}
use Rattle.mdl_grammar.proofs.ModuleParseLaws.{end_item}
use Rattle.mdl_grammar.proofs.modules.module_end.Goals as goal

pub returns-then-is_item : goal.returns-then-is_item
returns-then-is_item c =
    end_item c.args.whole c.args.at (begun_of c.args.begun) (position_of c.args.position)
    (sym c.is_item.ensures ∙ c.if-is_item.true)
    ∙ c.module_from.ensures c.args.whole c.args.at

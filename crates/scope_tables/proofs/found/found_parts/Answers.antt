use Rattle.std.proofs.Common.{sym, ◌∙◌}
use Rattle.scope_tables.proofs.FoundLaws.{parts-far}
use Rattle.scope_tables.proofs.found.found_parts.Goals as goal

pub returns : goal.returns
returns c =
    c.in_ok-found-2.ensures
    ∙ parts-far c.args.view.names.now c.args.view.tables.now c.args.module c.args.absolute c.args.all c.args.parts.now
    c.in-Some.front.now c.in-Some.last.now (sym c.is_alone.ensures ∙ c.if-is_alone.false)
    c.in-Some.ensures.cases.0

use Rattle.std.proofs.Common.{sym, ap, ◌∙◌, ◌++◌}
use Rattle.std.proofs.lemmas.List.{append-nil}
use Rattle.scope_tables.specs.inside.Finding.{seen_in}
use Rattle.scope_tables.proofs.FoundLaws.{was-missed}
use Rattle.scope_tables.proofs.found.push_seen.Goals as goal

pub returns-in-None : goal.returns-in-None
returns-in-None c =
    sym (ap (λ table. c.args.found.now.items
    ++ seen_in table c.args.reach.now c.args.name.now c.args.used c.args.all)
    (was-missed c.args.view.tables.now c.args.reach.now.module c.in-None.ensures.lookup.0)
    ∙ append-nil c.args.found.now.items)

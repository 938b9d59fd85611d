use Rattle.scope_tables.proofs.PieceLaws.{appends_both}
use Rattle.scope_tables.proofs.prelude.push_modes.Goals as goal

pub returns : goal.returns
returns c =
    appends_both _ _ _ _ _ (appends_both _ _ _ _ _ c.in_ok-push_given.ensures c.in_ok-push_given-2.ensures)
    c.in_ok-push_given-3.ensures

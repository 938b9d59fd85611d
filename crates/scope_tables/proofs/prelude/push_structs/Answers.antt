use Rattle.scope_tables.proofs.PieceLaws.{appends_both}
use Rattle.scope_tables.proofs.prelude.push_structs.Goals as goal

pub returns : goal.returns
returns c =
    appends_both _ _ _ _ _ (appends_both _ _ _ _ _ c.in_ok-push_struct.ensures c.in_ok-push_struct-2.ensures)
    c.in_ok-push_struct-3.ensures

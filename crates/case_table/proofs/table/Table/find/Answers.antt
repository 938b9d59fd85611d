use Rattle.std.proofs.Common.{rules}
use Rattle.std.proofs.Common.{sym, ◌∙◌, ap}
use Rattle.case_table.specs.Tables.{value_of}
use Rattle.std.specs.Cmp.Lexicographic.{slice_cmp}
use Rattle.std.specs.Ordering.{nat_cmp}
use Rattle.case_table.proofs.table.Table.find.Goals as goal
use Rattle.std.proofs.lemmas.Fn.{always_returns_same}
use Rattle.case_table.proofs.TableLaws.{value_at, no_value, rising, not_tied}

-- src/table.rt:58:5
pub returns-in-Ok : goal.returns-in-Ok
returns-in-Ok c =
    let position : _ =
    c.in-Ok.ensures.position (λ row. slice_cmp nat_cmp row.name.now c.args.name.now)
    (always_returns_same _ _ _ (λ a r f' called. (search rules, search rules))) in
    sym (value_at c.self.inside.rows.now c.args.name.now c.in-Ok.at _ c.self.invariant
    c.in-Ok.ensures.bound (position _))
    ∙ ap (λ rows. value_of rows c.args.name.now) c.self.view_is

-- src/table.rt:58:5
pub returns-in-Err : goal.returns-in-Err
returns-in-Err c =
    let position : _ =
    c.in-Err.ensures.position (λ row. slice_cmp nat_cmp row.name.now c.args.name.now)
    (always_returns_same _ _ _ (λ a r f' called. (search rules, search rules))) in
    let apart : _ = position (rising c.self.inside.rows.now c.args.name.now c.self.invariant) in
    sym (no_value c.self.inside.rows.now c.args.name.now
    (not_tied c.self.inside.rows.now c.args.name.now c.in-Err.field-0 apart))
    ∙ ap (λ rows. value_of rows c.args.name.now) c.self.view_is

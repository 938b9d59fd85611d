use Rattle.std.proofs.Common.{arith, map, suc}
use Rattle.case_table.specs.Tables.{names_of}
use Rattle.case_table.specs.Rows.{row_value}
use Rattle.case_table.proofs.TableLaws.{grown, stopped, front_ascends}
use Rattle.case_table.proofs.table.Table.new.Goals as goal

pub returns-then-ge-clause-err : goal.returns-then-ge-clause-err
returns-then-ge-clause-err c =
    stopped c.args.rows.now c.loop-at.at _ c.loop-at.invariant.0 c.loop-at-test.true
    c.loop-at.invariant.1.1 c.if-ge.ensures

pub loop-at-preserved : goal.loop-at-preserved
loop-at-preserved c = (
  omega arith,
  (
    omega arith,
    grown c.args.rows.now c.loop-at.at _ c.loop-at.invariant.0 c.loop-at-test.true
        c.loop-at.invariant.1.1 c.if-ge.ensures,
  ),
)

pub returns-then-ge-clause-taken : goal.returns-then-ge-clause-taken
returns-then-ge-clause-taken c = λ up.
    absurd ((stopped c.args.rows.now c.loop-at.at _ c.loop-at.invariant.0 c.loop-at-test.true
    c.loop-at.invariant.1.1 c.if-ge.ensures).stops
    (front_ascends (names_of (map row_value c.args.rows.now)) (suc c.loop-at.at) up))

use Rattle.std.proofs.Common.{arith}
use Rattle.std.proofs.lemmas.Result.{err_from_is_err_and}
use Rattle.mdl_cli.specs.Words.{kinds_of}
use Rattle.mdl_cli.specs.inside.Reading as reading
use Rattle.mdl_cli.proofs.KidLaws.{others_more, others_stop, others_end}
use Rattle.mdl_cli.proofs.terms.+term.Goals as goal

pub others_in-returns-in_err-kid : goal.others_in-returns-in_err-kid
others_in-returns-in_err-kid t c =
    let p = err_from_is_err_and c.from_residual-in_err-kid.result c.from_residual-in_err-kid.ensures.1 in
    rw (p.1, p.2)
    (others_stop (reading.term_in c.args.height) c.args.args.now c.loop-arg.arg-index c.arg-item.result
    (kinds_of c.loop-arg.rest.now) _ _ _
    (omega arith) c.arg-item.is c.loop-arg.invariant c.in_err-kid.ensures)

pub others_in-loop-arg-preserved : goal.others_in-loop-arg-preserved
others_in-loop-arg-preserved t c =
    others_more (reading.term_in c.args.height) c.args.args.now c.loop-arg.arg-index c.arg-item.result
    (kinds_of c.loop-arg.rest.now) _ _ _ _ _
    (omega arith) c.arg-item.is c.in_ok-kid.ensures c.in_ok-push-2.ensures.items c.loop-arg.invariant

pub others_in-returns : goal.others_in-returns
others_in-returns t c =
    others_end (reading.term_in c.args.height) c.args.args.now c.loop-arg.arg-index
    (kinds_of c.loop-arg.rest.now) c.loop-arg.kids.items _
    c.loop-arg-test.false c.loop-arg.invariant

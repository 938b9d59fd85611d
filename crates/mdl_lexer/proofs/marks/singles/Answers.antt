use Rattle.std.proofs.Common.{◌<◌, ◌∙◌, arith, length}
use Rattle.std.proofs.lemmas.List.{length-set}
use Rattle.mdl_lexer.proofs.SingleLaws.{one_more_single}
use Rattle.mdl_lexer.proofs.marks.singles.Goals as goal

pub loop-i-preserved : goal.loop-i-preserved
loop-i-preserved c =
    let within : c.loop-i.i < length c.loop-i.singles =
    omega (arith, c.loop-i.invariant.0, c.loop-i-test.true) in (
      length-set c.loop-i.singles c.loop-i.i c.number_in.result ∙ c.loop-i.invariant.0,
      one_more_single c.args.in_use.now c.args.left_out.now c.loop-i.singles c.loop-i.i c.number_in.result
          within
          c.loop-i.invariant.1 c.number_in.ensures,
    )

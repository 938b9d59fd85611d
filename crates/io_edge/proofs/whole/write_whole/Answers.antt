use Rattle.std.proofs.Common.{arith, length-take, length-drop}
use Rattle.io_edge.proofs.Pieces.{followed_by-next}
use Rattle.io_edge.proofs.whole.write_whole.Goals as goal

pub loop-gone-preserved : goal.loop-gone-preserved
loop-gone-preserved g c =
    let within = simp (length-take, length-drop) at c.in-Took.ensures.takes.0 in
    record {
      within = omega arith;
      taken = followed_by-next _ _ _ c.args.bytes.now c.loop-gone.gone c.in-Took.count
          c.loop-gone.invariant.taken c.in-Took.ensures.takes.2;
      counted = omega arith;
      room = omega (arith, c.in-Took.ensures.takes.3);
    }

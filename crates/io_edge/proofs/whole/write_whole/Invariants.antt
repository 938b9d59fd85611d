use Rattle.std.proofs.Common.{◌≡◌, ◌≤◌, ◌+◌, ◌-◌, length, take}
use Rattle.io_edge.specs.Sink.{followed_by}
use Rattle.io_edge.proofs.whole.write_whole.Given as goal

abbrev pub invariant-loop-gone : goal.invariant-loop-gone
invariant-loop-gone g l = record {
  within : l.gone ≤ length l.bytes;
  taken : (g.S.Sink.state l.sink).taken
      ≡ followed_by (g.S.Sink.state l.initial.sink).taken (take l.gone l.bytes);
  counted : (g.S.Sink.state l.initial.sink).faults ≤ (g.S.Sink.state l.sink).faults;
  room : (g.S.Sink.state l.initial.sink).room ≤ (g.S.Sink.state l.sink).room + l.gone;
}

abbrev pub decreases-loop-gone : goal.decreases-loop-gone
decreases-loop-gone g l = length l.bytes - l.gone

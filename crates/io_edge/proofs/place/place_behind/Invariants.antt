use Rattle.std.proofs.Common.{◌≡◌}
use Rattle.io_edge.specs.Places.{line_behind, column_behind}
use Rattle.io_edge.proofs.place.place_behind.Given as goal

abbrev pub invariant-loop-character : goal.invariant-loop-character
invariant-loop-character l =
    (l.place.line ≡ line_behind l.yielded) × (l.place.column ≡ column_behind l.yielded)

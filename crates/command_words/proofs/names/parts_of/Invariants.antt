-- the parts so far, and behind them those of what is left
use Rattle.std.proofs.Common.{◌≡◌, length}
use Rattle.command_words.specs.inside.Names as asking
use Rattle.command_words.specs.inside.Views.{parts_found, behind_parts}
use Rattle.command_words.proofs.names.parts_of.Given as goal

abbrev pub invariant-loop-rest : goal.invariant-loop-rest
invariant-loop-rest l = behind_parts (parts_found l.parts) (asking.parts_of l.rest) ≡ asking.parts_of l.name

abbrev pub decreases-loop-rest : goal.decreases-loop-rest
decreases-loop-rest l = length l.rest

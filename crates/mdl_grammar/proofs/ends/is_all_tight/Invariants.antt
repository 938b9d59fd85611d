use Rattle.std.proofs.Common.{◌≡◌, length}
use Rattle.mdl_grammar.specs.inside.Ends.{all_tight}
use Rattle.expression_grammar.specs.inside.Views.{stack_of}
use Rattle.mdl_grammar.proofs.ends.is_all_tight.Given as goal

abbrev pub invariant-loop-frame : goal.invariant-loop-frame
invariant-loop-frame l = all_tight (stack_of l.fn.frames) ≡ all_tight (stack_of l.rest)

abbrev pub decreases-loop-frame : goal.decreases-loop-frame
decreases-loop-frame l = length l.rest

use Rattle.std.proofs.Common.{◌≡◌, ◌≤◌, ◌+◌, true, length}
use Rattle.module_grammar.specs.inside.ModuleMachine.{run_module, run_module_from}
use Rattle.module_grammar.specs.inside.ModuleStates.{on, within}
use Rattle.mdl_grammar.specs.inside.ModuleViews.{begun_of, position_of}
use Rattle.mdl_grammar.proofs.modules.read_module.Given as goal

abbrev pub decreases-loop-token : goal.decreases-loop-token
decreases-loop-token l = length l.rest

abbrev pub invariant-loop-token : goal.invariant-loop-token
invariant-loop-token l =
    (l.at + length l.rest ≤ 4294967295)
    × (run_module l.limit l.fn.tokens
    ≡ run_module_from true l.limit l.whole l.at (on (within (begun_of l.begun) (position_of l.position)))
    l.rest)

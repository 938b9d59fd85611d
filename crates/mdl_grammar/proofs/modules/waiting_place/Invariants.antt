use Rattle.std.proofs.Common.{◌≡◌, ◌≤◌, ◌+◌, suc, length}
use Rattle.module_grammar.specs.inside.ModuleMachine.{waiting_place}
use Rattle.module_grammar.specs.inside.ModuleStates.{on, within}
use Rattle.mdl_grammar.specs.inside.ModuleViews.{begun_of, position_of}
use Rattle.mdl_grammar.proofs.modules.waiting_place.Given as goal

abbrev pub decreases-loop-token : goal.decreases-loop-token
decreases-loop-token l = length l.rest

abbrev pub invariant-loop-token : goal.invariant-loop-token
invariant-loop-token l =
    (l.at + length l.rest ≤ 4294967295)
    × (waiting_place l.limit l.number (suc l.number)
    (on (within (begun_of l.fn.begun) (position_of l.fn.position))) l.fn.tokens
    ≡ waiting_place l.limit l.number l.at (on (within (begun_of l.begun) (position_of l.position))) l.rest)

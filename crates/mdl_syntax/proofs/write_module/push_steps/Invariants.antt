use Rattle.std.proofs.Common.{◌≡◌, ◌++◌}
use Rattle.mdl_syntax.specs.WrittenModules.{up_words}
use Rattle.mdl_syntax.proofs.write_module.push_steps.Given as goal

abbrev pub invariant-loop-step : goal.invariant-loop-step
invariant-loop-step l = l.kinds.items ≡ l.initial.kinds.items ++ up_words l.step

use Rattle.std.proofs.Common.{sym}
use Rattle.mdl_grammar.proofs.ModuleParseLaws.{waiting_stopped}
use Rattle.mdl_grammar.proofs.modules.waiting_stopped.Goals as goal

pub returns-in_default : goal.returns-in_default
returns-in_default c = λ begun made limit at tokens came.
    sym (waiting_stopped limit c.args.number at c.args.stop.now begun made tokens c.in_default.not-OutOfMemory
    came)

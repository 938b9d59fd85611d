use Rattle.scope_core.proofs.OneLaws.{one-fault}
use Rattle.scope_core.proofs.laws.one_scope_fault.Goals as goal

pub returns : goal.returns
returns c = one-fault

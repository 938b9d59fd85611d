-- the names before are taken
use Rattle.std.proofs.Common.{take, Some}
use Rattle.scope_tables.specs.Visible.{lists}
use Rattle.scope_tables.specs.inside.Reaching.{Grows}
use Rattle.scope_tables.proofs.reach.Reach.take_names.Given as goal

abbrev pub invariant-loop-name : goal.invariant-loop-name
invariant-loop-name l = Grows l.initial.self (lists (Some (take l.name-index l.names))) l.used l.self

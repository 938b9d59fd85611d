use Rattle.std.proofs.Common.{◌≡◌, take}
use Rattle.case_table.specs.Lists.{firsts}
use Rattle.module_set.specs.Names.{same_name}
use Rattle.scope_core.proofs.scopes.indices_of.Given as goal

abbrev pub invariant-loop-name : goal.invariant-loop-name
invariant-loop-name l = l.indices.keys ≡ firsts same_name (take l.name-index l.names)

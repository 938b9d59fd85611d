-- what some modules bring came, and the others are left
use Rattle.std.proofs.Common.{map}
use Rattle.case_table.specs.Lists.{firsts}
use Rattle.module_set.specs.Names.{same_name}
use Rattle.scope_tables.specs.inside.Reaching.{bringing_of}
use Rattle.scope_core.specs.inside.Scoping.{BroughtLeft}
use Rattle.scope_core.proofs.scopes.brought_of_all.Given as goal

abbrev pub invariant-loop-index : goal.invariant-loop-index
invariant-loop-index l =
    BroughtLeft (firsts same_name l.names) l.names l.modules
    (map (λ one. map bringing_of one.items) l.all.items) l.index

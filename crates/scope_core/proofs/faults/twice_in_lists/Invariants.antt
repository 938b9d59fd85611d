-- what was noted is what stands twice in the declarations before
use Rattle.std.proofs.Common.{◌≡◌, map, take}
use Rattle.std.specs.List.{flat_map}
use Rattle.mdl_syntax.specs.Modules.{declaration_of}
use Rattle.scope_core.specs.ScopeFaults.{parameter_faults}
use Rattle.scope_core.specs.inside.Lessening.{least_onto}
use Rattle.scope_core.proofs.faults.twice_in_lists.Given as goal

abbrev pub invariant-loop-decl : goal.invariant-loop-decl
invariant-loop-decl l =
    l.least ≡ least_onto l.fn.least
    (flat_map (parameter_faults l.module) (map declaration_of (take l.decl-index l.decls)))

-- The least of faults, as they come.
use Rattle.std.specs.Prelude.{List, [], ◌∷◌, Option, Some, None, if◌then◌else◌}
use Rattle.scope_core.specs.declared.fault.ScopeFault.{ScopeFault}
use Rattle.scope_core.specs.ScopeFaults.{is_less}

abbrev pub lesser : Option ScopeFault → ScopeFault → Option ScopeFault
lesser None fault = Some fault
lesser (Some least) fault = if is_less fault least then Some fault else Some least

abbrev pub least_onto : Option ScopeFault → List ScopeFault → Option ScopeFault
least_onto least [] = least
least_onto least (fault ∷ faults) = least_onto (lesser least fault) faults

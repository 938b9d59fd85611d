-- The faults of names fit together.
use Rattle.std.specs.Prelude.{◌≡◌, ◌⊎◌, List, []}
use Rattle.module_set.specs.declared.module_name.ModuleName.{ModuleName}
use Rattle.module_set.specs.Members.{Member}
use Rattle.scope_core.specs.declared.fault.ScopeFault.{ScopeFault}
use Rattle.scope_core.specs.declared.fault.ScopeFault.TheVariants as fault
use Rattle.scope_core.specs.ScopeFaults.{scope_faults, IsLeast}
use Rattle.scope_core.specs.Places.{HasPlaces}

-- these modules have no fault, or one that is the least, and never both; want of memory is none of them; and it stands
-- at a name
pub record OneScopeFault (names : List ModuleName) (members : List Member) : Type 0 where
  pub stands : (scope_faults names members ≡ []) ⊎ ((one : ScopeFault) × IsLeast (scope_faults names members) one)
  pub one_fault : (a b : ScopeFault) → IsLeast (scope_faults names members) a → IsLeast (scope_faults names members) b
      → a ≡ b
  pub not_both : (one : ScopeFault) → scope_faults names members ≡ [] → IsLeast (scope_faults names members) one → ⊥
  pub no_memory : IsLeast (scope_faults names members) fault.OutOfMemory → ⊥
  pub placed : (one : ScopeFault) → IsLeast (scope_faults names members) one → HasPlaces members one

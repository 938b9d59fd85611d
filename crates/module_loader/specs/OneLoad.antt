-- Files have one list of modules for the names that are asked for, or one fault.
use Rattle.std.specs.Prelude.{◌≡◌, ◌⊎◌, List}
use Rattle.module_set.specs.declared.module_name.ModuleName.{ModuleName}
use Rattle.module_set.specs.Members.{Member}
use Rattle.module_loader.specs.declared.fault.LoadFault.{LoadFault}
use Rattle.module_loader.specs.Files.{Packages}
use Rattle.module_loader.specs.LoadFaults.{HasLoadFault}
use Rattle.module_loader.specs.Loads.{AreLoaded}

pub record OneLoad (packages : Packages) (first : List ModuleName) : Type 0 where
  pub stands : ((members : List Member) × AreLoaded packages first members)
      ⊎ ((found : LoadFault) × HasLoadFault packages first found)
  pub one_list : (one other : List Member) → AreLoaded packages first one → AreLoaded packages first other →
      one ≡ other
  pub one_fault : (one other : LoadFault) → HasLoadFault packages first one → HasLoadFault packages first other →
      one ≡ other
  pub not_both : (members : List Member) (found : LoadFault) → AreLoaded packages first members →
      HasLoadFault packages first found → ⊥

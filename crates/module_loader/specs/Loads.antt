-- What a load answers.
use Rattle.std.specs.Prelude.{◌≡◌, ⊤, ℕ, ◌≤◌, true, List, [], None, IfSome, length, map}
use Rattle.std.specs.List.{AllByRecursion}
use Rattle.case_table.specs.Counts.{Rose}
use Rattle.io_edge.specs.Source.{File, SourceState}
use Rattle.module_set.specs.declared.module_name.ModuleName.{ModuleName}
use Rattle.module_set.specs.declared.set.ModuleSet.{ModuleSet}
use Rattle.module_set.specs.Cycles.{HasNoCycle}
use Rattle.module_set.specs.Members.{members_of}
use Rattle.module_loader.specs.declared.fault.LoadFault.{LoadFault}
use Rattle.module_loader.specs.declared.fault.LoadFault.TheVariants as fault
use Rattle.module_loader.specs.Files.{Packages}
use Rattle.module_loader.specs.Members.{IsMember, past_top}
use Rattle.module_set.specs.Members.{Member}
use Rattle.module_loader.specs.Closure.{IsClosure}
use Rattle.module_loader.specs.LoadFaults.{HasLoadFault, links, most_modules}

-- the source may hold these files: they are the ones that it tells, where it tells any
abbrev pub MayHold : SourceState → List File → Type 0
MayHold source files = IfSome source.files (λ told. told ≡ files)

-- these modules are the closure, each with the text and the tree of its name; no import goes past the top, and no
-- import path leads from a module to itself
pub record AreLoaded (packages : Packages) (first : List ModuleName) (members : List Member) : Type 0 where
  pub closure : IsClosure packages first (map (λ (member : Member). member.name) members)
  pub few : length members ≤ most_modules
  pub each : AllByRecursion (IsMember packages) members
  pub inside : AllByRecursion (λ (member : Member). past_top packages member ≡ None) members
  pub acyclic : HasNoCycle (links packages members)

-- the set holds them, one at each index of its lists
pub record IsLoaded (packages : Packages) (first : List ModuleName) (set : ModuleSet) : Type 0 where
  pub whole : (length set.modules ≡ length set.names) × (length set.texts ≡ length set.names)
  pub are : AreLoaded packages first (members_of set)

abbrev pub packages_of : List (List ℕ) → List File → Packages
packages_of roots files = record { roots = roots; files = files }

-- the set is loaded from files that the source may hold
abbrev pub Loads : List (List ℕ) → List ModuleName → SourceState → ModuleSet → Type 0
Loads roots first source set =
    (files : List File) × MayHold source files × IsLoaded (packages_of roots files) first set

-- why none is loaded: the source failed, memory ran out, or a fault stands in files that the source may hold
abbrev pub FailsToLoad : List (List ℕ) → List ModuleName → SourceState → SourceState → LoadFault → Type 0
FailsToLoad roots first before after fault.ReadFault =
    Rose before.faults after.faults × (before.steady ≡ true → ⊥)
FailsToLoad roots first before after fault.OutOfMemory = ⊤
FailsToLoad roots first before after found =
    (files : List File) × MayHold before files × HasLoadFault (packages_of roots files) first found

-- the files stay as they were, the count of faults never falls, and a source that never fails stays so
pub record SourceKept (before after : SourceState) : Type 0 where
  pub same_files : after.files ≡ before.files
  pub counted : before.faults ≤ after.faults
  pub steady : before.steady ≡ true → (after.steady ≡ true) × (after.faults ≡ before.faults)

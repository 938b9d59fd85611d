-- The first modules of a closure, with the indices of those that they import.
use Rattle.std.specs.Prelude.{◌≡◌, ℕ, ◌≤◌, List, length, [], ◌∷◌, Option, Some, None, map, slice_get, if◌then◌else◌}
use Rattle.std.specs.List.{AllByRecursion, list_any}
use Rattle.io_edge.specs.Source.{SourceState}
use Rattle.io_edge.specs.declared.place.Place.{Place}
use Rattle.mdl_syntax.specs.declared.imports.ModuleRef.{ModuleRef}
use Rattle.mdl_syntax.specs.Modules.{module_of}
use Rattle.module_set.specs.declared.module_name.ModuleName.{ModuleName}
use Rattle.module_set.specs.Names.{same_name}
use Rattle.module_set.specs.Imports.{references}
use Rattle.module_loader.specs.declared.fault.LoadFault.{LoadFault}
use Rattle.module_loader.specs.declared.fault.LoadFault.TheVariants as fault
use Rattle.module_loader.specs.declared.linked.Linked.{Linked}
use Rattle.module_loader.specs.Files.{Packages, most_module}
use Rattle.module_loader.specs.Members.{imports, past_top}
use Rattle.module_set.specs.Members.{Member}
use Rattle.module_loader.specs.Closure.{Front, known}
use Rattle.module_loader.specs.LoadFaults.{HasLoadFault, means, asked_at, nowhere, most_modules}
use Rattle.module_loader.specs.inside.Contents.{Entry, Fails}
use Rattle.module_loader.specs.inside.Texts.{ArePlaces}
use Rattle.module_loader.specs.inside.Loading.{Surely, member_of}
use Rattle.module_loader.specs.inside.Importing.{PointTo}

abbrev pub linked_member : Linked → Member
linked_member one = member_of one.name one.loaded

abbrev pub linked_members : List Linked → List Member
linked_members all = map linked_member all

-- the first reference whose index is that of a name
abbrev pub pointing : List ModuleName → List ModuleRef → List ℕ → ModuleName → Option ModuleRef
pointing names [] indices name = None
pointing names (reference ∷ references) [] name = None
pointing names (reference ∷ references) (index ∷ indices) name =
    if means (slice_get names index) name then Some reference else pointing names references indices name

abbrev pub pointing_in : List ModuleName → Linked → ModuleName → Option ModuleRef
pointing_in names one name =
    pointing names (references (module_of one.loaded.module)) one.imports.items name

-- who asks for a module
abbrev pub asked_among : List ModuleName → List Linked → ModuleName → Option ModuleName × Place
asked_among names [] name = (None, nowhere)
asked_among names (one ∷ all) name =
    asked_at (linked_member one) (pointing_in names one name) (asked_among names all name)

abbrev pub asked : List ModuleName → List ModuleName → List Linked → ModuleName → Option ModuleName × Place
asked first names all name =
    if list_any (same_name name) first then (None, nowhere) else asked_among names all name

-- the indices are those of the modules that it imports, none of which goes past the top
abbrev pub IsLinked : Packages → List ModuleName → Linked → Type 0
IsLinked packages names one =
    PointTo names (imports packages (linked_member one)) one.imports.items
    × (past_top packages (linked_member one) ≡ None)

-- the modules come first in the closure, and these names are known from them
pub record Holds (packages : Packages) (first names : List ModuleName) (all : List Linked) : Type 0 where
  pub front : Front packages first (linked_members all)
  pub names_are : names ≡ known packages first (linked_members all)
  pub links : AllByRecursion (IsLinked packages names) all

-- the modules are all of the closure
pub record IsClosed (packages : Packages) (first : List ModuleName) (all : List Linked) : Type 0 where
  pub names : List ModuleName
  pub holds : Holds packages first names all
  pub whole : length names ≤ length all
  pub few : length all ≤ most_modules

-- the texts of loaded modules are short, and names of modules stand at places in them
abbrev pub ArePlaced : List Linked → Type 0
ArePlaced all = AllByRecursion (λ (one : Linked).
    ArePlaces one.loaded.text (module_of one.loaded.module) × (length one.loaded.text ≤ most_module)) all

-- why no closure is loaded
abbrev pub HasClosureFault : SourceState → SourceState → List (List ℕ) → List ModuleName → List Entry → LoadFault →
    Type 0
HasClosureFault before after roots first entries fault.ReadFault = Fails before after fault.ReadFault
HasClosureFault before after roots first entries fault.OutOfMemory = Fails before after fault.OutOfMemory
HasClosureFault before after roots first entries found =
    Surely roots entries (λ packages. HasLoadFault packages first found)

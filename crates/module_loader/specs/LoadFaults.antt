-- Why modules can't be loaded.
use Rattle.std.specs.Prelude.{◌≡◌, ◌≢◌, ◌⊎◌, ℕ, ◌<◌, ◌≤◌, List, [], ◌∷◌, Option, Some, None, length, map}
use Rattle.std.specs.Prelude.{slice_get, if◌then◌else◌, is_some, true, false, Bool}
use Rattle.std.specs.List.{find, list_any}
use Rattle.case_table.specs.Lists.{place_of}
use Rattle.io_edge.specs.declared.place.Place.{Place}
use Rattle.mdl_syntax.specs.declared.imports.ModuleRef.{ModuleRef}
use Rattle.module_set.specs.declared.module_name.ModuleName.{ModuleName}
use Rattle.module_set.specs.Names.{same_name, named}
use Rattle.module_set.specs.Imports.{references, components, meant}
use Rattle.module_set.specs.Cycles.{IsFirstCycle}
use Rattle.module_loader.specs.declared.fault.LoadFault.{LoadFault}
use Rattle.module_loader.specs.declared.fault.LoadFault.TheVariants as fault
use Rattle.module_loader.specs.Files.{Packages, text_of, has_file, most_module}
use Rattle.module_loader.specs.Members.{IsMember, imports, past_top}
use Rattle.module_set.specs.Members.{Member}
use Rattle.module_loader.specs.TextFaults.{place_in, RefusesBytes, RefusesWords}
use Rattle.module_loader.specs.Closure.{Front, next}

-- the most modules of a closure
abbrev pub most_modules : ℕ
most_modules = 4096

abbrev pub name_of : Option Member → ModuleName
name_of None = named []
name_of (Some member) = member.name

-- the name of the member at an index
abbrev pub name_at : List Member → ℕ → ModuleName
name_at members index = name_of (slice_get members index)

-- no place
abbrev pub nowhere : Place
nowhere = record { line = 0; column = 0 }

-- a name means this module
abbrev pub means : Option ModuleName → ModuleName → Bool
means None name = false
means (Some found) name = same_name name found

-- the first import of a module in another
abbrev pub import_of : Packages → Member → ModuleName → Option ModuleRef
import_of packages member name =
    find (λ reference. means (meant (has_file packages) member.name reference) name) (references member.tree)

abbrev pub asked_at : Member → Option ModuleRef → Option ModuleName × Place → Option ModuleName × Place
asked_at member None others = others
asked_at member (Some reference) others = (Some member.name, place_in member.text reference.span.at)

-- who asks for a module: the first that imports it, with the place of its first import
abbrev pub importer_in : Packages → List Member → ModuleName → Option ModuleName × Place
importer_in packages [] name = (None, nowhere)
importer_in packages (member ∷ members) name =
    asked_at member (import_of packages member name) (importer_in packages members name)

-- modules that are asked for at first have no importer
abbrev pub importer : Packages → List ModuleName → List Member → ModuleName → Option ModuleName × Place
importer packages first members name =
    if list_any (same_name name) first then (None, nowhere) else importer_in packages members name

-- the module behind the first members of the closure has this fault
abbrev pub IsAbsent : Packages → List ModuleName → List Member → Option ModuleName → Place → ModuleName → Type 0
IsAbsent packages first members asker place name =
    (next packages first members ≡ Some name) × (text_of packages name ≡ None)
    × ((asker, place) ≡ importer packages first members name)

-- a module imports another past the top: the place is that of its first such import
pub record PastTop (packages : Packages) (member : Member) (asker : Option ModuleName) (place : Place)
    (name : ModuleName) : Type 0 where
  pub reference : ModuleRef
  pub goes : past_top packages member ≡ Some reference
  pub asker_is : asker ≡ Some member.name
  pub place_is : place ≡ place_in member.text reference.span.at
  pub name_is : name ≡ named (components reference)

-- the module behind them imports another past the top
pub record GoesPastTop
    (packages : Packages) (first : List ModuleName) (members : List Member) (asker : Option ModuleName)
    (place : Place) (name : ModuleName) : Type 0 where
  pub member : Member
  pub is : IsMember packages member
  pub reached : next packages first members ≡ Some member.name
  pub past : PastTop packages member asker place name

-- it has a text of these bytes
pub record HasBytes (packages : Packages) (first : List ModuleName) (members : List Member) (name : ModuleName)
    (bytes : List ℕ) : Type 0 where
  pub reached : next packages first members ≡ Some name
  pub found : text_of packages name ≡ Some bytes

-- which modules import which, by their indices
abbrev pub links : Packages → List Member → List (List ℕ)
links packages members = map (λ member.
    map (λ name. place_of same_name name (map (λ (one : Member). one.name) members)) (imports packages member))
    members

-- the path is the first of the cycles
pub record IsCycleOf (packages : Packages) (members : List Member) (path : List ModuleName) : Type 0 where
  pub cycle : List ℕ
  pub is : IsFirstCycle (links packages members) cycle
  pub path_is : path ≡ map (λ index. name_at members index) cycle

-- the fault behind the first members of the closure, which have none
abbrev pub StandsBehind : Packages → List ModuleName → List Member → LoadFault → Type 0
StandsBehind packages first members (fault.Absent asker place name) =
    (length members < most_modules)
    × (IsAbsent packages first members asker place name ⊎ GoesPastTop packages first members asker place name)
StandsBehind packages first members (fault.TooLong name) =
    (length members < most_modules)
    × ((bytes : List ℕ) × HasBytes packages first members name bytes × (most_module < length bytes))
StandsBehind packages first members (fault.Lex name found place) =
    (length members < most_modules)
    × ((bytes : List ℕ) × HasBytes packages first members name bytes × (length bytes ≤ most_module)
    × RefusesBytes bytes found place)
StandsBehind packages first members (fault.Parse name found place) =
    (length members < most_modules)
    × ((bytes : List ℕ) × HasBytes packages first members name bytes × (length bytes ≤ most_module)
    × RefusesWords bytes found place)
StandsBehind packages first members fault.TooMany =
    (length members ≡ most_modules) × (is_some (next packages first members) ≡ true)
StandsBehind packages first members (fault.Cycle path) =
    (length members ≤ most_modules) × (next packages first members ≡ None) × IsCycleOf packages members path
StandsBehind packages first members fault.ReadFault = ⊥
StandsBehind packages first members fault.OutOfMemory = ⊥

-- **The fault of a load**: behind some first members of the closure it stands, and those before it have none
pub record HasLoadFault (packages : Packages) (first : List ModuleName) (found : LoadFault) : Type 0 where
  pub members : List Member
  pub front : Front packages first members
  pub stands : StandsBehind packages first members found

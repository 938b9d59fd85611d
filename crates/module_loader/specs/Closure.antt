-- The modules that some modules need.
use Rattle.std.specs.Prelude.{◌≡◌, ◌≢◌, ◌⊎◌, ℕ, List, [], ◌∷◌, ◌++◌, Option, Some, None, length, slice_get}
use Rattle.std.specs.List.{flat_map, AllZip}
use Rattle.case_table.specs.Lists.{firsts}
use Rattle.module_set.specs.declared.module_name.ModuleName.{ModuleName}
use Rattle.module_set.specs.Names.{same_name}
use Rattle.module_loader.specs.Files.{Packages}
use Rattle.module_loader.specs.Members.{IsMember, imports, past_top}
use Rattle.module_set.specs.Members.{Member}

-- what the module of a name imports, in order of place. One without a text, or whose text isn't accepted,
-- imports nothing
abbrev pub Imports : Packages → ModuleName → List ModuleName → Type 0
Imports packages name imported =
    ((member : Member) × IsMember packages member × (member.name ≡ name) × (imported ≡ imports packages member))
    ⊎ (((member : Member) → IsMember packages member → member.name ≢ name) × (imported ≡ []))

abbrev pub joined : List (List ModuleName) → List ModuleName
joined lists = flat_map (λ names. names) lists

-- a list solves the equation of the closure: it is the modules at hand and what each of its members imports,
-- without later repeats
pub record Solves (packages : Packages) (first names : List ModuleName) : Type 0 where
  pub imported : List (List ModuleName)
  pub each : AllZip (Imports packages) names imported
  pub same : names ≡ firsts same_name (first ++ joined imported)

-- **The closure**: the shortest list that solves the equation. Each other begins with it
pub record IsClosure (packages : Packages) (first names : List ModuleName) : Type 0 where
  pub solves : Solves packages first names
  pub shortest : (other : List ModuleName) → Solves packages first other →
      (others : List ModuleName) × (other ≡ names ++ others)

-- what is known of the closure from its first members
abbrev pub known : Packages → List ModuleName → List Member → List ModuleName
known packages first members = firsts same_name (first ++ flat_map (imports packages) members)

-- the name that stands behind the first members of the closure
abbrev pub next : Packages → List ModuleName → List Member → Option ModuleName
next packages first members = slice_get (known packages first members) (length members)

-- these modules come first in the closure, and none of them has a fault
pub data Front (packages : Packages) (first : List ModuleName) : List Member → Type 0 where
  none : Front packages first []
  more : (members : List Member) → (member : Member) → Front packages first members →
      next packages first members ≡ Some member.name → IsMember packages member →
      past_top packages member ≡ None → Front packages first (members ++ member ∷ [])

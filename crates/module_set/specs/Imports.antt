-- The modules that a module imports.
use Rattle.std.specs.Prelude.{ℕ, ◌-◌, leb, Bool, List, [], ◌∷◌, ◌++◌, Option, Some, None, map}
use Rattle.std.specs.Prelude.{length, take, if◌then◌else◌}
use Rattle.std.specs.List.{flat_map, filter_map}
use Rattle.mdl_syntax.specs.declared.imports.Lead.{Lead}
use Rattle.mdl_syntax.specs.declared.imports.Lead.TheVariants as lead
use Rattle.mdl_syntax.specs.declared.imports.ModuleRef.{ModuleRef}
use Rattle.mdl_syntax.specs.declared.imports.Import.{Import}
use Rattle.mdl_syntax.specs.declared.imports.Import.TheVariants as import_form
use Rattle.mdl_syntax.specs.Modules.{ModuleTree}
use Rattle.module_set.specs.declared.module_name.ModuleName.{ModuleName}
use Rattle.module_set.specs.Names.{named, package_of}

-- the names of modules that stand in an import, in order of place
abbrev pub references_in : Import → List ModuleRef
references_in (import_form.Import items span) = map (λ item. item.module) items
references_in (import_form.Using name names span) = name ∷ []

-- the same of a whole module
abbrev pub references : ModuleTree → List ModuleRef
references tree = flat_map references_in tree.imports

abbrev pub components : ModuleRef → List (List ℕ)
components reference = map (λ part. part.text) reference.parts

-- the package that lies so many steps up. Past the top there is none
abbrev pub package_up : ℕ → List (List ℕ) → Option (List (List ℕ))
package_up steps folder =
    if leb steps (length folder) then Some (take (length folder - steps) folder) else None

-- the name that stands in a package
abbrev pub within : List (List ℕ) → Option (List (List ℕ)) → Option ModuleName
within parts None = None
within parts (Some folder) = Some (named (folder ++ parts))

-- what a name without a mark means: the module of that name in the package, where there is one, or else the
-- absolute name
abbrev pub bare : (ModuleName → Bool) → List (List ℕ) → List (List ℕ) → ModuleName
bare exists folder parts =
    if exists (named (folder ++ parts)) then named (folder ++ parts) else named parts

-- what a name means in a package. One that goes past the top means nothing
abbrev pub meant_in : (ModuleName → Bool) → List (List ℕ) → Lead → List (List ℕ) → Option ModuleName
meant_in exists folder lead.Bare parts = Some (bare exists folder parts)
meant_in exists folder lead.Absolute parts = Some (named parts)
meant_in exists folder lead.Here parts = Some (named (folder ++ parts))
meant_in exists folder (lead.Up steps) parts = within parts (package_up steps folder)

-- what a name means in a module
abbrev pub meant : (ModuleName → Bool) → ModuleName → ModuleRef → Option ModuleName
meant exists importer reference =
    meant_in exists (package_of importer) reference.lead (components reference)

-- the modules that a module imports, in order of place
abbrev pub imports_of : (ModuleName → Bool) → ModuleName → ModuleTree → List ModuleName
imports_of exists importer tree = filter_map (meant exists importer) (references tree)

-- The names that a module imports, among those that are known.
use Rattle.std.specs.Prelude.{◌≡◌, ℕ, List, Some, None, slice_get, is_none}
use Rattle.std.specs.List.{AllZip, filter_map, find}
use Rattle.case_table.specs.Lists.{firsts_onto}
use Rattle.io_edge.specs.Source.{SourceState}
use Rattle.mdl_syntax.specs.declared.imports.ModuleRef.{ModuleRef}
use Rattle.module_set.specs.declared.module_name.ModuleName.{ModuleName}
use Rattle.module_set.specs.Names.{same_name}
use Rattle.module_set.specs.Imports.{meant}
use Rattle.module_loader.specs.declared.fault.LoadFault.{LoadFault}
use Rattle.module_loader.specs.declared.fault.LoadFault.TheVariants as fault
use Rattle.module_loader.specs.Files.{Packages, has_file}
use Rattle.module_set.specs.Members.{Member}
use Rattle.module_loader.specs.LoadFaults.{PastTop}
use Rattle.module_loader.specs.inside.Contents.{Entry, Fails}
use Rattle.module_loader.specs.inside.Loading.{Surely}

-- the indices are those of the names
abbrev pub PointTo : List ModuleName → List ModuleName → List ℕ → Type 0
PointTo known names indices = AllZip (λ name index. slice_get known index ≡ Some name) names indices

-- what some names in a module mean comes onto others, and none goes past the top
pub record Imported (packages : Packages) (importer : ModuleName) (references : List ModuleRef)
    (old new : List ModuleName) (indices : List ℕ) : Type 0 where
  pub names : new ≡ firsts_onto same_name old (filter_map (meant (has_file packages) importer) references)
  pub each : PointTo new (filter_map (meant (has_file packages) importer) references) indices
  pub top : find (λ reference. is_none (meant (has_file packages) importer reference)) references ≡ None

-- why they don't
abbrev pub HasImportFault : SourceState → SourceState → List (List ℕ) → Member → List Entry → LoadFault → Type 0
HasImportFault before after roots member entries (fault.Absent asker place name) =
    Surely roots entries (λ packages. PastTop packages member asker place name)
HasImportFault before after roots member entries found = Fails before after found

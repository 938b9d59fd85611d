-- What a module brings by its imports.
use Rattle.std.specs.Prelude.{ℕ, Bool, true, false, List, [], ◌∷◌, Option, Some, None, option_map}
use Rattle.std.specs.List.{flat_map, filter_map}
use Rattle.case_table.specs.Lists.{place_of}
use Rattle.mdl_syntax.specs.declared.names.Ident.{Ident}
use Rattle.mdl_syntax.specs.declared.imports.ModuleRef.{ModuleRef}
use Rattle.mdl_syntax.specs.declared.imports.Qualified.{Qualified}
use Rattle.mdl_syntax.specs.declared.imports.Import.{Import}
use Rattle.mdl_syntax.specs.declared.imports.Import.TheVariants as import_form
use Rattle.module_set.specs.declared.module_name.ModuleName.{ModuleName}
use Rattle.module_set.specs.Names.{same_name}
use Rattle.module_set.specs.Imports.{meant}
use Rattle.module_set.specs.Members.{Member}
use Rattle.module_set.specs.ModuleSets.{is_among}

-- from the module of this index, all names, or those that are listed; by `using`, or by `import` alone
pub record Bringing : Type 0 where
  pub from : ℕ
  pub names : Option (List Ident)
  pub used : Bool

-- the index of the module that a name means in another
abbrev pub index_meant : List ModuleName → ModuleName → ModuleRef → Option ℕ
index_meant names importer reference =
    option_map (λ name. place_of same_name name names) (meant (is_among names) importer reference)

abbrev pub bringing : Option (List Ident) → Bool → ℕ → Bringing
bringing names used from = record { from = from; names = names; used = used }

-- the one name of an import, or all
abbrev pub named_alone : Option Ident → Option (List Ident)
named_alone None = None
named_alone (Some name) = Some (name ∷ [])

abbrev pub brought_item : List ModuleName → ModuleName → Qualified → Option Bringing
brought_item names importer item =
    option_map (bringing (named_alone item.name) false) (index_meant names importer item.module)

abbrev pub as_list : {A : Type 0} → Option A → List A
as_list None = []
as_list (Some a) = a ∷ []

abbrev pub brought_by : List ModuleName → ModuleName → Import → List Bringing
brought_by names importer (import_form.Import items span) = filter_map (brought_item names importer) items
brought_by names importer (import_form.Using reference listed span) =
    as_list (option_map (bringing listed true) (index_meant names importer reference))

-- in order of place
abbrev pub brought : List ModuleName → Member → List Bringing
brought names member = flat_map (brought_by names member.name) member.tree.imports

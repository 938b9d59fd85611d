-- Modules that the grammar has, and those that are accepted.
use Rattle.std.specs.Prelude.{◌≡◌, ◌≢◌, ℕ, ◌≤◌, ◌<◌, max, Bool, true, false, List, [], ◌∷◌, Option, Some, None, codes}
use Rattle.std.specs.List.{AllByRecursion, list_any}
use Rattle.std.specs.Str.{bytes_eq}
use Rattle.mdl_syntax.specs.declared.names.Ident.{Ident}
use Rattle.mdl_syntax.specs.declared.names.Name.{Name}
use Rattle.mdl_syntax.specs.declared.names.NameForm.TheVariants as form
use Rattle.mdl_syntax.specs.declared.types.Size.TheVariants as size
use Rattle.mdl_syntax.specs.declared.types.TypeTree.{TypeTree}
use Rattle.mdl_syntax.specs.declared.types.Freq.{Freq}
use Rattle.mdl_syntax.specs.declared.imports.Lead.{Lead}
use Rattle.mdl_syntax.specs.declared.imports.Lead.TheVariants as lead
use Rattle.mdl_syntax.specs.declared.imports.ModuleRef.{ModuleRef}
use Rattle.mdl_syntax.specs.declared.imports.Qualified.{Qualified}
use Rattle.mdl_syntax.specs.declared.imports.Import.{Import}
use Rattle.mdl_syntax.specs.declared.imports.Import.TheVariants as import_form
use Rattle.mdl_syntax.specs.declared.modules.VersionLit.{VersionLit}
use Rattle.mdl_syntax.specs.Trees.{Tree}
use Rattle.mdl_syntax.specs.Heights.{height, arguments_height}
use Rattle.mdl_syntax.specs.Levels.{reserved_number}
use Rattle.mdl_syntax.specs.Levelled.{IsName, in_order, Levelled, AreLevelledArguments, is_deferred}
use Rattle.mdl_syntax.specs.Levelled.{NoneDeferred, NoArgumentDeferred}
use Rattle.mdl_syntax.specs.Modules.{Annotation, Parameter, EnumValue, Declaration, ModuleTree}
use Rattle.mdl_syntax.specs.Modules.{material, variant, function, structure, enumeration, annotation}

-- one step up at least
abbrev pub IsLead : Lead → Type 0
IsLead (lead.Up steps) = 1 ≤ steps
IsLead _ = Unit {0}

abbrev pub IsModuleName : ModuleRef → Type 0
IsModuleName name = IsLead name.lead × (name.parts ≢ [])

abbrev pub IsImport : Import → Type 0
IsImport (import_form.Import items span) =
    (items ≢ []) × AllByRecursion (λ (item : Qualified). IsModuleName item.module) items
IsImport (import_form.Using name None span) = IsModuleName name
IsImport (import_form.Using name (Some names) span) = IsModuleName name × (names ≢ [])

abbrev pub IsAnnotation : Annotation → Type 0
IsAnnotation one =
    IsName one.name × (in_order false one.arguments ≡ true) × AreLevelledArguments one.arguments

abbrev pub AreAnnotations : Option (List Annotation) → Type 0
AreAnnotations None = Unit {0}
AreAnnotations (Some annotations) = AllByRecursion IsAnnotation annotations

abbrev pub IsValue : Option Tree → Type 0
IsValue None = Unit {0}
IsValue (Some tree) = Levelled tree

abbrev pub IsParameter : Parameter → Type 0
IsParameter one = IsName one.ty.name × IsValue one.default × AreAnnotations one.annotations

abbrev pub AreParameters : List Parameter → Type 0
AreParameters = AllByRecursion IsParameter

-- the type `material`, as it stands
abbrev pub IsMaterial : TypeTree → Type 0
IsMaterial ty = (ty.name.form ≡ form.Word (reserved_number (codes "material"))) × (ty.size ≡ size.One)

-- with this result and body, and without a frequency, the tokens are those of a material
abbrev pub IsMaterialToo : TypeTree → Option Freq → Option Tree → Type 0
IsMaterialToo ty None (Some body) = IsMaterial ty
IsMaterialToo ty frequency body = ⊥

abbrev pub IsDeclaration : Declaration → Type 0
IsDeclaration (material exported name parameters annotations body span) =
    AreParameters parameters × AreAnnotations annotations × Levelled body
IsDeclaration (variant exported ty name annotations base arguments span) =
    IsName ty.name × AreAnnotations annotations × IsName base × (in_order false arguments ≡ true)
    × AreLevelledArguments arguments
IsDeclaration (function exported ty name parameters frequency annotations body span) =
    IsName ty.name × AreParameters parameters × AreAnnotations annotations × IsValue body
    × (IsMaterialToo ty frequency body → ⊥)
IsDeclaration (structure exported name annotations fields span) =
    AreAnnotations annotations × AreParameters fields
IsDeclaration (enumeration exported name annotations values span) =
    AreAnnotations annotations × (values ≢ [])
    × AllByRecursion (λ (one : EnumValue). AreAnnotations one.annotations) values
IsDeclaration (annotation exported name parameters annotations span) =
    AreParameters parameters × AreAnnotations annotations

pub record IsModule (tree : ModuleTree) : Type 0 where
  pub imports : AllByRecursion IsImport tree.imports
  pub annotations : AreAnnotations tree.annotations
  pub declarations : AllByRecursion IsDeclaration tree.declarations

-- The height of a module, and the modules that are accepted.
use Rattle.std.specs.Prelude.{◌≡◌, ℕ, ◌≤◌, max, Bool, true, false, List, [], ◌∷◌, Option, Some, None, codes}
use Rattle.std.specs.List.{AllByRecursion, list_any}
use Rattle.std.specs.Str.{bytes_eq}
use Rattle.mdl_syntax.specs.declared.modules.VersionLit.{VersionLit}
use Rattle.mdl_syntax.specs.Trees.{Tree}
use Rattle.mdl_syntax.specs.Heights.{height, arguments_height}
use Rattle.mdl_syntax.specs.Levelled.{is_deferred, NoneDeferred, NoArgumentDeferred}
use Rattle.mdl_syntax.specs.Modules.{Annotation, Parameter, EnumValue, Declaration, ModuleTree}
use Rattle.mdl_syntax.specs.Modules.{material, variant, function, structure, enumeration, annotation}
use Rattle.mdl_syntax.specs.LevelledModules.{IsModule}

-- the greatest height of several
abbrev pub highest : {A : Type 0} → (A → ℕ) → List A → ℕ
highest height_of [] = 0
highest height_of (first ∷ more) = max (height_of first) (highest height_of more)

-- the calls of annotations and of variants are no expressions, but their arguments are
abbrev pub annotation_height : Annotation → ℕ
annotation_height one = arguments_height one.arguments

abbrev pub annotations_height : Option (List Annotation) → ℕ
annotations_height None = 0
annotations_height (Some annotations) = highest annotation_height annotations

abbrev pub value_height : Option Tree → ℕ
value_height None = 0
value_height (Some tree) = height tree

abbrev pub parameter_height : Parameter → ℕ
parameter_height one = max (value_height one.default) (annotations_height one.annotations)

abbrev pub enum_value_height : EnumValue → ℕ
enum_value_height one = annotations_height one.annotations

abbrev pub declaration_height : Declaration → ℕ
declaration_height (material exported name parameters annotations body span) =
    max (highest parameter_height parameters) (max (annotations_height annotations) (height body))
declaration_height (variant exported ty name annotations base arguments span) =
    max (annotations_height annotations) (arguments_height arguments)
declaration_height (function exported ty name parameters frequency annotations body span) =
    max (highest parameter_height parameters) (max (annotations_height annotations) (value_height body))
declaration_height (structure exported name annotations fields span) =
    max (annotations_height annotations) (highest parameter_height fields)
declaration_height (enumeration exported name annotations values span) =
    max (annotations_height annotations) (highest enum_value_height values)
declaration_height (annotation exported name parameters annotations span) =
    max (highest parameter_height parameters) (annotations_height annotations)

abbrev pub module_height : ModuleTree → ℕ
module_height tree =
    max (annotations_height tree.annotations) (highest declaration_height tree.declarations)

-- no size is deferred, save those of the parameters of prototypes and annotations

abbrev pub PlainAnnotations : Option (List Annotation) → Type 0
PlainAnnotations None = Unit {0}
PlainAnnotations (Some annotations) =
    AllByRecursion (λ (one : Annotation). NoArgumentDeferred one.arguments) annotations

abbrev pub PlainValue : Option Tree → Type 0
PlainValue None = Unit {0}
PlainValue (Some tree) = NoneDeferred tree

-- where its own size may be deferred
abbrev pub LooseParameter : Parameter → Type 0
LooseParameter one = PlainValue one.default × PlainAnnotations one.annotations

abbrev pub PlainParameter : Parameter → Type 0
PlainParameter one = (is_deferred one.ty.size ≡ false) × LooseParameter one

-- those of a function by its body
abbrev pub FunctionParameters : Option Tree → List Parameter → Type 0
FunctionParameters None parameters = AllByRecursion LooseParameter parameters
FunctionParameters (Some body) parameters = AllByRecursion PlainParameter parameters

abbrev pub PlainDeclaration : Declaration → Type 0
PlainDeclaration (material exported name parameters annotations body span) =
    AllByRecursion PlainParameter parameters × PlainAnnotations annotations × NoneDeferred body
PlainDeclaration (variant exported ty name annotations base arguments span) =
    (is_deferred ty.size ≡ false) × PlainAnnotations annotations × NoArgumentDeferred arguments
PlainDeclaration (function exported ty name parameters frequency annotations body span) =
    (is_deferred ty.size ≡ false) × FunctionParameters body parameters × PlainAnnotations annotations
    × PlainValue body
PlainDeclaration (structure exported name annotations fields span) =
    PlainAnnotations annotations × AllByRecursion PlainParameter fields
PlainDeclaration (enumeration exported name annotations values span) =
    PlainAnnotations annotations
    × AllByRecursion (λ (one : EnumValue). PlainAnnotations one.annotations) values
PlainDeclaration (annotation exported name parameters annotations span) =
    AllByRecursion LooseParameter parameters × PlainAnnotations annotations

abbrev pub versions : List (List ℕ)
versions =
    codes "1.0" ∷ codes "1.1" ∷ codes "1.2" ∷ codes "1.3" ∷ codes "1.4" ∷ codes "1.5" ∷ codes "1.6" ∷ []

-- a version that is read: a float with the text of one of these
abbrev pub is_version : List ℕ → Bool → Bool
is_version text true = false
is_version text false = list_any (λ known. bytes_eq text known) versions

abbrev pub IsPlain : ModuleTree → Type 0
IsPlain tree = PlainAnnotations tree.annotations × AllByRecursion PlainDeclaration tree.declarations

-- a module that is accepted, where expressions have at most this height
pub record IsAccepted (most : ℕ) (tree : ModuleTree) : Type 0 where
  pub is : IsModule tree
  pub version : is_version tree.version.text tree.version.double ≡ true
  pub plain : IsPlain tree
  pub low : module_height tree ≤ most

-- Declarations whose parts fit are levelled and not too high.
use Rattle.std.proofs.Common.{◌≡◌, ◌≢◌, ◌∙◌, sym, refl, arith, ℕ, ◌≤◌, Bool, true, false}
use Rattle.std.proofs.Common.{List, [], Option, Some, None, if◌then◌else◌}
use Rattle.std.specs.Prelude.{◌&&◌}
use Rattle.std.proofs.lemmas.Bool.{true≢false}
use Rattle.mdl_syntax.specs.declared.types.TypeTree.{TypeTree}
use Rattle.mdl_syntax.specs.declared.types.Freq.{Freq}
use Rattle.mdl_syntax.specs.declared.imports.Import.{Import}
use Rattle.mdl_syntax.specs.Trees.{Tree}
use Rattle.mdl_syntax.specs.Heights.{height}
use Rattle.mdl_syntax.specs.Levelled.{Levelled}
use Rattle.mdl_syntax.specs.LevelledModules.{IsImport, IsAnnotation, AreAnnotations, IsValue, IsParameter}
use Rattle.mdl_syntax.specs.LevelledModules.{AreParameters, IsMaterial}
use Rattle.mdl_syntax.specs.AcceptedModules.{highest, annotation_height, annotations_height, value_height}
use Rattle.mdl_syntax.specs.AcceptedModules.{parameter_height, enum_value_height}
use Rattle.mdl_syntax.specs.Modules.{Annotation, Parameter, EnumValue, Declaration}
use Rattle.module_grammar.specs.inside.ModuleStates.{Begun, Fronted, Named, Struct, Enum, on, with_import}
use Rattle.module_grammar.specs.inside.ModuleStates.{with_declaration, function_from, prototype_from, is_material}
use Rattle.module_grammar.specs.inside.ModuleMachine.{variant_from}
use Rattle.module_grammar.specs.inside.ModuleStates.{is_material_form, is_one}
use Rattle.module_grammar.specs.inside.ModuleStates.{place_of_declaration}
use Rattle.mdl_syntax.specs.Modules.{material, function, structure, enumeration, annotation}
use Rattle.module_grammar.specs.inside.ModuleFits.{AnnotationFits, AnnotationsFit, ValueFits, ParameterFits}
use Rattle.module_grammar.specs.inside.ModuleFits.{ParametersFit, EnumValueFits, DeclarationFits, BegunFits}
use Rattle.module_grammar.specs.inside.ModuleFits.{FrontedFits, StructFits, EnumFits}
use Rattle.module_grammar.proofs.ModuleFitsParts.{all_and_one, all_map, all_low}
use Rattle.module_grammar.proofs.ModuleFitsFronts.{OutcomeFits}

pub are_annotations : (limit : ℕ) (annotations : Option (List Annotation)) →
    AnnotationsFit limit annotations → AreAnnotations annotations
are_annotations limit None fits = tt
are_annotations limit (Some annotations) fits =
    all_map (AnnotationFits limit) IsAnnotation (λ one one_fits. one_fits.0) annotations fits

pub annotations_low : (limit : ℕ) (annotations : Option (List Annotation)) →
    AnnotationsFit limit annotations → annotations_height annotations ≤ limit
annotations_low limit None fits = omega arith
annotations_low limit (Some annotations) fits =
    all_low (AnnotationFits limit) annotation_height limit (λ one one_fits. one_fits.1) annotations fits

is_value : (limit : ℕ) (value : Option Tree) → ValueFits limit value → IsValue value
is_value limit None fits = tt
is_value limit (Some tree) fits = fits.0

value_low : (limit : ℕ) (value : Option Tree) → ValueFits limit value → value_height value ≤ limit
value_low limit None fits = omega arith
value_low limit (Some tree) fits = fits.1

is_parameter : (limit : ℕ) (one : Parameter) → ParameterFits limit one → IsParameter one
is_parameter limit one fits =
    (fits.0, is_value limit one.default fits.1, are_annotations limit one.annotations fits.2)

parameter_low : (limit : ℕ) (one : Parameter) → ParameterFits limit one → parameter_height one ≤ limit
parameter_low limit one fits =
    let value = value_low limit one.default fits.1 in
    let notes = annotations_low limit one.annotations fits.2 in
    omega (arith, value, notes)

are_parameters : (limit : ℕ) (parameters : List Parameter) → ParametersFit limit parameters →
    AreParameters parameters
are_parameters limit parameters fits =
    all_map (ParameterFits limit) IsParameter (is_parameter limit) parameters fits

parameters_low : (limit : ℕ) (parameters : List Parameter) → ParametersFit limit parameters →
    highest parameter_height parameters ≤ limit
parameters_low limit parameters fits =
    all_low (ParameterFits limit) parameter_height limit (parameter_low limit) parameters fits

-- Behind whole ones.

pub import_fits : (limit : ℕ) (begun : Begun) (one : Import) (end : ℕ) → BegunFits limit begun →
    IsImport one → OutcomeFits limit (on (with_import begun one end))
import_fits limit begun one end begins is = (
  record {
    imports = all_and_one IsImport begun.imports one begins.imports is;
    annotations = begins.annotations;
    declarations = begins.declarations;
  },
  tt,
)

pub declaration_fits : (limit : ℕ) (begun : Begun) (one : Declaration) (end : ℕ) →
    BegunFits limit begun → DeclarationFits limit one →
    OutcomeFits limit (on (with_declaration begun one end))
declaration_fits limit begun one end begins fits = (
  record {
    imports = begins.imports;
    annotations = begins.annotations;
    declarations = all_and_one (DeclarationFits limit) begun.declarations one begins.declarations fits;
  },
  tt,
)

material_is : (ty : TypeTree) → IsMaterial ty → is_material ty ≡ true
material_is ty is = λ i. is_material_form (is.0 i) && is_one (is.1 i)

pub function_fits : (limit : ℕ) (fronted : Fronted) (parameters : List Parameter) (frequency : Option Freq)
    (annotations : Option (List Annotation)) (body : Tree) (end : ℕ) → FrontedFits fronted →
    ParametersFit limit parameters → AnnotationsFit limit annotations → Levelled body →
    height body ≤ limit →
    DeclarationFits limit (function_from fronted parameters frequency annotations body end)
function_fits limit fronted parameters (Some frequency) annotations body end fits owns notes is low =
    let one = parameters_low limit parameters owns in
    let other = annotations_low limit annotations notes in (
      (
        fits,
        are_parameters limit parameters owns,
        are_annotations limit annotations notes,
        is,
        λ bad. bad,
      ),
      omega (arith, one, other, low),
    )
function_fits limit fronted parameters None annotations body end fits owns notes is low =
    by (is_material fronted.ty) refl
  where
    one : highest parameter_height parameters ≤ limit
    one = parameters_low limit parameters owns

    other : annotations_height annotations ≤ limit
    other = annotations_low limit annotations notes

    as_material : Declaration
    as_material = material fronted.named.exported fronted.named.name parameters annotations body
        (place_of_declaration fronted.named end)

    as_function : Declaration
    as_function = function fronted.named.exported fronted.ty fronted.named.name parameters None annotations
        (Some body) (place_of_declaration fronted.named end)

    by : (test : Bool) → is_material fronted.ty ≡ test →
        DeclarationFits limit (if test then as_material else as_function)
    by true known = (
      (are_parameters limit parameters owns, are_annotations limit annotations notes, is),
      omega (arith, one, other, low),
    )
    by false known = (
      (
        fits,
        are_parameters limit parameters owns,
        are_annotations limit annotations notes,
        is,
        λ so. true≢false (sym (material_is fronted.ty so) ∙ known),
      ),
      omega (arith, one, other, low),
    )

pub prototype_fits : (limit : ℕ) (fronted : Fronted) (parameters : List Parameter) (frequency : Option Freq)
    (annotations : Option (List Annotation)) (end : ℕ) → FrontedFits fronted →
    ParametersFit limit parameters → AnnotationsFit limit annotations →
    DeclarationFits limit (prototype_from fronted parameters frequency annotations end)
prototype_fits limit fronted parameters None annotations end fits owns notes =
    let one = parameters_low limit parameters owns in
    let other = annotations_low limit annotations notes in (
      (fits, are_parameters limit parameters owns, are_annotations limit annotations notes, tt, λ bad. bad),
      omega (arith, one, other),
    )
prototype_fits limit fronted parameters (Some frequency) annotations end fits owns notes =
    let one = parameters_low limit parameters owns in
    let other = annotations_low limit annotations notes in (
      (fits, are_parameters limit parameters owns, are_annotations limit annotations notes, tt, λ bad. bad),
      omega (arith, one, other),
    )

pub variant_fits : (limit : ℕ) (fronted : Fronted) (annotations : Option (List Annotation))
    (base : Annotation) (end : ℕ) → FrontedFits fronted → AnnotationsFit limit annotations →
    AnnotationFits limit base → DeclarationFits limit (variant_from fronted annotations base end)
variant_fits limit fronted annotations base end fits notes is =
    let other = annotations_low limit annotations notes in
    let own = is.1 in (
      (fits, are_annotations limit annotations notes, is.0.0, is.0.1, is.0.2),
      omega (arith, other, own),
    )

pub annotation_fits : (limit : ℕ) (named : Named) (parameters : List Parameter)
    (annotations : Option (List Annotation)) (end : ℕ) → ParametersFit limit parameters →
    AnnotationsFit limit annotations →
    DeclarationFits limit (annotation named.exported named.name parameters annotations
    (place_of_declaration named end))
annotation_fits limit named parameters annotations end owns notes =
    let one = parameters_low limit parameters owns in
    let other = annotations_low limit annotations notes in (
      (are_parameters limit parameters owns, are_annotations limit annotations notes),
      omega (arith, one, other),
    )

pub struct_fits : (limit : ℕ) (held : Struct) (end : ℕ) → StructFits limit held →
    DeclarationFits limit (structure held.named.exported held.named.name held.annotations held.fields
    (place_of_declaration held.named end))
struct_fits limit held end fits =
    let one = parameters_low limit held.fields fits.1 in
    let other = annotations_low limit held.annotations fits.0 in (
      (are_annotations limit held.annotations fits.0, are_parameters limit held.fields fits.1),
      omega (arith, one, other),
    )

pub enum_fits : (limit : ℕ) (held : Enum) (end : ℕ) → EnumFits limit held → held.values ≢ [] →
    DeclarationFits limit (enumeration held.named.exported held.named.name held.annotations held.values
    (place_of_declaration held.named end))
enum_fits limit held end fits some =
    let other = annotations_low limit held.annotations fits.0 in
    let one = all_low (EnumValueFits limit) enum_value_height limit
    (λ value own. annotations_low limit value.annotations own) held.values fits.1 in (
      (
        are_annotations limit held.annotations fits.0,
        some,
        all_map (EnumValueFits limit) (λ (value : EnumValue). AreAnnotations value.annotations)
            (λ value own. are_annotations limit value.annotations own) held.values fits.1,
      ),
      omega (arith, one, other),
    )

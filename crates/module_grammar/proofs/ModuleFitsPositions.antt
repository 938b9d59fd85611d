-- A step between expressions keeps the state of the machine of modules fit.
use Rattle.std.proofs.Common.{◌≢◌, arith, ℕ, suc, ◌≤◌, Bool, true, false, List, [], ◌∷◌, ◌++◌, Option, Some, None}
use Rattle.std.specs.List.{AllByRecursion}
use Rattle.mdl_lexer.specs.declared.token.Kind.{Kind}
use Rattle.mdl_syntax.specs.declared.names.Span.{Span}
use Rattle.mdl_syntax.specs.declared.names.Ident.{Ident}
use Rattle.mdl_syntax.specs.declared.types.Freq.{Freq}
use Rattle.mdl_syntax.specs.Modules.{Annotation, Parameter, EnumValue}
use Rattle.expression_grammar.specs.inside.Sorts.{IsOf}
use Rattle.expression_grammar.specs.inside.Machine.{Sort, identifier, integer, binary_operator, opening, closing}
use Rattle.expression_grammar.specs.inside.Machine.{opening_bracket, closing_bracket, opening_brace, closing_brace}
use Rattle.expression_grammar.specs.inside.Machine.{comma}
use Rattle.expression_grammar.specs.inside.Machine.{semicolon, equals, frequency_word, import_word, using_word}
use Rattle.expression_grammar.specs.inside.Machine.{module_word, export_word, struct_word, enum_word, annotation_word}
use Rattle.expression_grammar.specs.inside.Machine.{head_step, type_step}
use Rattle.module_grammar.specs.inside.ModuleStates.{Begun, Named, Fronted, Front, Owner, Struct}
use Rattle.module_grammar.specs.inside.ModuleStates.{Enum, Holder, Fronting, Kin, wrong, of_function}
use Rattle.module_grammar.specs.inside.ModuleStates.{of_annotation, the_module, a_parameter}
use Rattle.module_grammar.specs.inside.ModuleStates.{a_function, an_annotation, a_variant, a_struct}
use Rattle.module_grammar.specs.inside.ModuleStates.{a_field, an_enum, an_enum_value, of_declaration}
use Rattle.module_grammar.specs.inside.ModuleStates.{of_parameter, of_field, struct_kin, enum_kin}
use Rattle.module_grammar.specs.inside.ModuleStates.{annotation_kin, plain_parameter, parameter_from}
use Rattle.module_grammar.specs.inside.ModuleMachine.{variant_from}
use Rattle.module_grammar.specs.inside.ModuleStates.{enum_value_from, prototype_from}
use Rattle.module_grammar.specs.inside.ModuleMachine.{no_frequency, first_front_step}
use Rattle.module_grammar.specs.inside.ModuleStates.{is_star}
use Rattle.module_grammar.specs.inside.ModuleMachine.{declaration_step, item_step, exported_step}
use Rattle.module_grammar.specs.inside.ModuleMachine.{kin_state, kin_step, annotation_named_step}
use Rattle.module_grammar.specs.inside.ModuleMachine.{declared_step, parameters_state, star_step}
use Rattle.module_grammar.specs.inside.ModuleMachine.{parameters_step, parameter_ends, parameter_step}
use Rattle.module_grammar.specs.inside.ModuleMachine.{star_read_step, variant_annotated, variant_step}
use Rattle.module_grammar.specs.inside.ModuleMachine.{base_step, function_annotated, function_step}
use Rattle.module_grammar.specs.inside.ModuleMachine.{annotation_annotated, annotation_declared_step}
use Rattle.module_grammar.specs.inside.ModuleMachine.{struct_annotated, struct_named_step, fields_step}
use Rattle.module_grammar.specs.inside.ModuleMachine.{field_ends, field_step, struct_closed_step}
use Rattle.module_grammar.specs.inside.ModuleMachine.{enum_annotated, enum_named_step}
use Rattle.module_grammar.specs.inside.ModuleMachine.{value_wanted_step, value_ends, value_step}
use Rattle.module_grammar.specs.inside.ModuleMachine.{number_step, number_read_step, enum_closed_step}
use Rattle.module_grammar.specs.inside.ModuleMachine.{second_bracket, own_step, annotation_read_step}
use Rattle.module_grammar.specs.inside.ModuleMachine.{closing_annotations, own_ends, annotated_step}
use Rattle.module_grammar.specs.inside.ModuleFits.{AnnotationFits, AnnotationsFit, ParameterFits}
use Rattle.module_grammar.specs.inside.ModuleFits.{ParametersFit, EnumValueFits, BegunFits, FrontedFits, OwnerFits}
use Rattle.module_grammar.specs.inside.ModuleFits.{FrontFits, StructFits, EnumFits, HolderFits, FrontingFits}
use Rattle.module_grammar.specs.inside.ModuleFits.{PositionFits}
use Rattle.expression_grammar.proofs.FitsLaws.{start_fits}
use Rattle.module_grammar.proofs.ModuleFitsParts.{all_and_one, one_more}
use Rattle.module_grammar.proofs.ModuleFitsFronts.{OutcomeFits, type_kept, head_kept, front_fits}
use Rattle.module_grammar.proofs.ModuleFitsDeclarations.{declaration_fits, prototype_fits}
use Rattle.module_grammar.proofs.ModuleFitsDeclarations.{variant_fits, annotation_fits, struct_fits, enum_fits}
use Rattle.module_grammar.proofs.ModuleFitsImports.{if_fits}

-- Types.

first_front_fits : (limit token : ℕ) (begun : Begun) (of : Fronting) (sort : Sort) (place : Span) (word : Kind) →
    IsOf sort word → BegunFits limit begun → FrontingFits limit of →
    OutcomeFits limit (first_front_step token begun of sort place)
first_front_fits limit token begun of sort place word is begins fits =
    front_fits limit token begun of (head_step [] sort place) begins fits (head_kept sort place word is)

declaration_step_fits : (limit token : ℕ) (begun : Begun) (at : ℕ) (exported : Bool) (sort : Sort) (place : Span)
    (word : Kind) → IsOf sort word → BegunFits limit begun →
    OutcomeFits limit (declaration_step token begun at exported sort place)
declaration_step_fits limit token begun at exported struct_word place word is begins = (begins, tt)
declaration_step_fits limit token begun at exported enum_word place word is begins = (begins, tt)
declaration_step_fits limit token begun at exported annotation_word place word is begins = (begins, tt)
declaration_step_fits limit token begun at exported sort place word is begins =
    front_fits limit token begun (of_declaration at exported) (type_step (no_frequency place.at) [] sort place)
    begins tt (type_kept (no_frequency place.at) sort place word is)

pub item_fits : (limit token : ℕ) (begun : Begun) (early : Bool) (sort : Sort) (place : Span) (word : Kind) →
    IsOf sort word → BegunFits limit begun → OutcomeFits limit (item_step token begun early sort place)
item_fits limit token begun true import_word place word is begins = (begins, (tt, tt))
item_fits limit token begun true using_word place word is begins = (begins, tt)
item_fits limit token begun true module_word place word is begins = (begins, tt)
item_fits limit token begun early export_word place word is begins = (begins, tt)
item_fits limit token begun early sort place word is begins =
    declaration_step_fits limit token begun place.at false sort place word is begins

pub exported_fits : (limit token : ℕ) (begun : Begun) (at : ℕ) (sort : Sort) (place : Span) (word : Kind) →
    IsOf sort word → BegunFits limit begun → OutcomeFits limit (exported_step token begun at sort place)
exported_fits limit token begun at using_word place word is begins = tt
exported_fits limit token begun at sort place word is begins =
    declaration_step_fits limit token begun at true sort place word is begins

kin_state_fits : (limit : ℕ) (named : Named) (kin : Kin) → PositionFits limit (kin_state named kin)
kin_state_fits limit named struct_kin = tt
kin_state_fits limit named enum_kin = tt
kin_state_fits limit named annotation_kin = tt

pub kin_fits : (limit : ℕ) (begun : Begun) (at : ℕ) (exported : Bool) (kin : Kin) (sort : Sort) (place : Span) →
    BegunFits limit begun → OutcomeFits limit (kin_step begun at exported kin sort place)
kin_fits limit begun at exported kin (identifier text) place begins = (begins, kin_state_fits limit _ kin)
kin_fits limit begun at exported kin sort place begins = tt

pub annotation_named_fits : (limit : ℕ) (begun : Begun) (named : Named) (sort : Sort) → BegunFits limit begun →
    OutcomeFits limit (annotation_named_step begun named sort)
annotation_named_fits limit begun named opening begins = (begins, tt)
annotation_named_fits limit begun named sort begins = tt

pub declared_fits : (limit : ℕ) (begun : Begun) (fronted : Fronted) (sort : Sort) → BegunFits limit begun →
    FrontedFits fronted → OutcomeFits limit (declared_step begun fronted sort)
declared_fits limit begun fronted opening begins fits = (begins, fits)
declared_fits limit begun fronted sort begins fits = tt

-- Parameters.

parameters_state_fits : (limit : ℕ) (owner : Owner) (parameters : List Parameter) → OwnerFits owner →
    ParametersFit limit parameters → PositionFits limit (parameters_state owner parameters)
parameters_state_fits limit (of_function fronted) parameters own owns = (own, owns)
parameters_state_fits limit (of_annotation named) parameters own owns = owns

star_fits : (limit : ℕ) (begun : Begun) (owner : Owner) → BegunFits limit begun → OwnerFits owner →
    OutcomeFits limit (star_step begun owner)
star_fits limit begun (of_function fronted) begins own = (begins, own)
star_fits limit begun (of_annotation named) begins own = tt

pub parameters_fits : (limit token : ℕ) (begun : Begun) (owner : Owner) (sort : Sort) (place : Span)
    (word : Kind) → IsOf sort word → BegunFits limit begun → OwnerFits owner →
    OutcomeFits limit (parameters_step token begun owner sort place)
parameters_fits limit token begun owner closing place word is begins own =
    (begins, parameters_state_fits limit owner [] own tt)
parameters_fits limit token begun owner (binary_operator op level) place word is begins own =
    if_fits limit (is_star op) (star_step begun owner) wrong (star_fits limit begun owner begins own) tt
parameters_fits limit token begun owner sort place word is begins own =
    first_front_fits limit token begun (of_parameter owner []) sort place word is begins (own, tt)

pub parameter_next_fits : (limit token : ℕ) (begun : Begun) (owner : Owner) (parameters : List Parameter)
    (sort : Sort) (place : Span) (word : Kind) → IsOf sort word → BegunFits limit begun → OwnerFits owner →
    ParametersFit limit parameters →
    OutcomeFits limit (first_front_step token begun (of_parameter owner parameters) sort place)
parameter_next_fits limit token begun owner parameters sort place word is begins own owns =
    first_front_fits limit token begun (of_parameter owner parameters) sort place word is begins (own, owns)

pub parameter_ends_fits : (limit : ℕ) (begun : Begun) (owner : Owner) (parameters : List Parameter)
    (one : Parameter) (sort : Sort) → BegunFits limit begun → OwnerFits owner →
    ParametersFit limit parameters → ParameterFits limit one →
    OutcomeFits limit (parameter_ends begun owner (parameters ++ one ∷ []) sort)
parameter_ends_fits limit begun owner parameters one comma begins own owns fits =
    (begins, (own, all_and_one (ParameterFits limit) parameters one owns fits))
parameter_ends_fits limit begun owner parameters one closing begins own owns fits = (
  begins,
  parameters_state_fits limit owner (parameters ++ one ∷ []) own
      (all_and_one (ParameterFits limit) parameters one owns fits),
)
parameter_ends_fits limit begun owner parameters one sort begins own owns fits = tt

pub parameter_fits : (limit : ℕ) (begun : Begun) (owner : Owner) (parameters : List Parameter) (front : Front)
    (sort : Sort) → 1 ≤ limit → BegunFits limit begun → OwnerFits owner → ParametersFit limit parameters →
    FrontFits front → OutcomeFits limit (parameter_step begun owner parameters front sort)
parameter_fits limit begun owner parameters front equals room begins own owns fits =
    (begins, ((own, owns, fits), start_fits limit room, tt))
parameter_fits limit begun owner parameters front opening_bracket room begins own owns fits =
    (begins, (own, owns, fits, tt))
parameter_fits limit begun owner parameters front sort room begins own owns fits =
    parameter_ends_fits limit begun owner parameters (plain_parameter front None) sort begins own owns
    (fits, tt, tt)

-- Variants, functions and annotations.

pub star_read_fits : (limit : ℕ) (begun : Begun) (fronted : Fronted) (sort : Sort) → BegunFits limit begun →
    FrontedFits fronted → OutcomeFits limit (star_read_step begun fronted sort)
star_read_fits limit begun fronted closing begins fits = (begins, fits)
star_read_fits limit begun fronted sort begins fits = tt

variant_annotated_fits : (limit : ℕ) (begun : Begun) (fronted : Fronted) (annotations : Option (List Annotation))
    (sort : Sort) → BegunFits limit begun → FrontedFits fronted → AnnotationsFit limit annotations →
    OutcomeFits limit (variant_annotated begun fronted annotations sort)
variant_annotated_fits limit begun fronted annotations equals begins fits notes =
    (begins, ((fits, notes), start_fits (suc limit) (omega arith), tt))
variant_annotated_fits limit begun fronted annotations sort begins fits notes = tt

pub variant_read_fits : (limit : ℕ) (begun : Begun) (fronted : Fronted) (sort : Sort) → BegunFits limit begun →
    FrontedFits fronted → OutcomeFits limit (variant_step begun fronted sort)
variant_read_fits limit begun fronted opening_bracket begins fits = (begins, fits)
variant_read_fits limit begun fronted sort begins fits =
    variant_annotated_fits limit begun fronted None sort begins fits tt

pub base_fits : (limit : ℕ) (begun : Begun) (fronted : Fronted) (annotations : Option (List Annotation))
    (base : Annotation) (sort : Sort) (place : Span) → BegunFits limit begun → FrontedFits fronted →
    AnnotationsFit limit annotations → AnnotationFits limit base →
    OutcomeFits limit (base_step begun fronted annotations base sort place)
base_fits limit begun fronted annotations base semicolon place begins fits notes is =
    declaration_fits limit begun (variant_from fronted annotations base place.end) place.end begins
    (variant_fits limit fronted annotations base place.end fits notes is)
base_fits limit begun fronted annotations base sort place begins fits notes is = tt

function_annotated_fits : (limit : ℕ) (begun : Begun) (fronted : Fronted) (parameters : List Parameter)
    (frequency : Option Freq) (annotations : Option (List Annotation)) (sort : Sort) (place : Span) →
    1 ≤ limit → BegunFits limit begun → FrontedFits fronted → ParametersFit limit parameters →
    AnnotationsFit limit annotations →
    OutcomeFits limit (function_annotated begun fronted parameters frequency annotations sort place)
function_annotated_fits limit begun fronted parameters frequency annotations equals place room begins fits owns
    notes =
    (begins, ((fits, owns, notes), start_fits limit room, tt))
function_annotated_fits limit begun fronted parameters frequency annotations semicolon place room begins fits
    owns notes =
    declaration_fits limit begun (prototype_from fronted parameters frequency annotations place.end) place.end
    begins (prototype_fits limit fronted parameters frequency annotations place.end fits owns notes)
function_annotated_fits limit begun fronted parameters frequency annotations sort place room begins fits owns
    notes =
    tt

pub function_read_fits : (limit : ℕ) (begun : Begun) (fronted : Fronted) (parameters : List Parameter)
    (frequency : Option Freq) (sort : Sort) (place : Span) → 1 ≤ limit → BegunFits limit begun →
    FrontedFits fronted → ParametersFit limit parameters →
    OutcomeFits limit (function_step begun fronted parameters frequency sort place)
function_read_fits limit begun fronted parameters None (frequency_word freq) place room begins fits owns =
    (begins, (fits, owns))
function_read_fits limit begun fronted parameters frequency opening_bracket place room begins fits owns =
    (begins, (fits, owns))
function_read_fits limit begun fronted parameters frequency sort place room begins fits owns =
    function_annotated_fits limit begun fronted parameters frequency None sort place room begins fits owns tt

annotation_annotated_fits : (limit : ℕ) (begun : Begun) (named : Named) (parameters : List Parameter)
    (annotations : Option (List Annotation)) (sort : Sort) (place : Span) → BegunFits limit begun →
    ParametersFit limit parameters → AnnotationsFit limit annotations →
    OutcomeFits limit (annotation_annotated begun named parameters annotations sort place)
annotation_annotated_fits limit begun named parameters annotations semicolon place begins owns notes =
    declaration_fits limit begun _ place.end begins
    (annotation_fits limit named parameters annotations place.end owns notes)
annotation_annotated_fits limit begun named parameters annotations sort place begins owns notes = tt

pub annotation_declared_fits : (limit : ℕ) (begun : Begun) (named : Named) (parameters : List Parameter)
    (sort : Sort) (place : Span) → BegunFits limit begun → ParametersFit limit parameters →
    OutcomeFits limit (annotation_declared_step begun named parameters sort place)
annotation_declared_fits limit begun named parameters opening_bracket place begins owns = (begins, owns)
annotation_declared_fits limit begun named parameters sort place begins owns =
    annotation_annotated_fits limit begun named parameters None sort place begins owns tt

-- Structs.

struct_annotated_fits : (limit : ℕ) (begun : Begun) (named : Named) (annotations : Option (List Annotation))
    (sort : Sort) → BegunFits limit begun → AnnotationsFit limit annotations →
    OutcomeFits limit (struct_annotated begun named annotations sort)
struct_annotated_fits limit begun named annotations opening_brace begins notes = (begins, (notes, tt))
struct_annotated_fits limit begun named annotations sort begins notes = tt

pub struct_named_fits : (limit : ℕ) (begun : Begun) (named : Named) (sort : Sort) → BegunFits limit begun →
    OutcomeFits limit (struct_named_step begun named sort)
struct_named_fits limit begun named opening_bracket begins = (begins, tt)
struct_named_fits limit begun named sort begins = struct_annotated_fits limit begun named None sort begins tt

pub fields_fits : (limit token : ℕ) (begun : Begun) (held : Struct) (sort : Sort) (place : Span) (word : Kind) →
    IsOf sort word → BegunFits limit begun → StructFits limit held →
    OutcomeFits limit (fields_step token begun held sort place)
fields_fits limit token begun held closing_brace place word is begins fits = (begins, fits)
fields_fits limit token begun held sort place word is begins fits =
    first_front_fits limit token begun (of_field held) sort place word is begins fits

pub field_ends_fits : (limit : ℕ) (begun : Begun) (held : Struct) (one : Parameter) (sort : Sort) →
    BegunFits limit begun → StructFits limit held → ParameterFits limit one →
    OutcomeFits limit (field_ends begun held one sort)
field_ends_fits limit begun held one semicolon begins fits own =
    (begins, (fits.0, all_and_one (ParameterFits limit) held.fields one fits.1 own))
field_ends_fits limit begun held one sort begins fits own = tt

pub field_fits : (limit : ℕ) (begun : Begun) (held : Struct) (front : Front) (sort : Sort) → 1 ≤ limit →
    BegunFits limit begun → StructFits limit held → FrontFits front →
    OutcomeFits limit (field_step begun held front sort)
field_fits limit begun held front equals room begins fits own =
    (begins, ((fits, own), start_fits limit room, tt))
field_fits limit begun held front opening_bracket room begins fits own = (begins, (fits, own, tt))
field_fits limit begun held front sort room begins fits own =
    field_ends_fits limit begun held (plain_parameter front None) sort begins fits (own, tt, tt)

pub struct_closed_fits : (limit : ℕ) (begun : Begun) (held : Struct) (sort : Sort) (place : Span) →
    BegunFits limit begun → StructFits limit held → OutcomeFits limit (struct_closed_step begun held sort place)
struct_closed_fits limit begun held semicolon place begins fits =
    declaration_fits limit begun _ place.end begins (struct_fits limit held place.end fits)
struct_closed_fits limit begun held sort place begins fits = tt

-- Enums.

enum_annotated_fits : (limit : ℕ) (begun : Begun) (named : Named) (annotations : Option (List Annotation))
    (sort : Sort) → BegunFits limit begun → AnnotationsFit limit annotations →
    OutcomeFits limit (enum_annotated begun named annotations sort)
enum_annotated_fits limit begun named annotations opening_brace begins notes = (begins, (notes, tt))
enum_annotated_fits limit begun named annotations sort begins notes = tt

pub enum_named_fits : (limit : ℕ) (begun : Begun) (named : Named) (sort : Sort) → BegunFits limit begun →
    OutcomeFits limit (enum_named_step begun named sort)
enum_named_fits limit begun named opening_bracket begins = (begins, tt)
enum_named_fits limit begun named sort begins = enum_annotated_fits limit begun named None sort begins tt

pub value_wanted_fits : (limit : ℕ) (begun : Begun) (held : Enum) (sort : Sort) (place : Span) →
    BegunFits limit begun → EnumFits limit held → OutcomeFits limit (value_wanted_step begun held sort place)
value_wanted_fits limit begun held (identifier text) place begins fits = (begins, fits)
value_wanted_fits limit begun held sort place begins fits = tt

value_ends_fits : (limit : ℕ) (begun : Begun) (held : Enum) (one : EnumValue) (sort : Sort) →
    BegunFits limit begun → EnumFits limit held → EnumValueFits limit one →
    OutcomeFits limit (value_ends begun held one sort)
value_ends_fits limit begun held one comma begins fits own =
    (begins, (fits.0, all_and_one (EnumValueFits limit) held.values one fits.1 own))
value_ends_fits limit begun held one closing_brace begins fits own =
    (begins, ((fits.0, all_and_one (EnumValueFits limit) held.values one fits.1 own), one_more held.values one))
value_ends_fits limit begun held one sort begins fits own = tt

pub value_read_fits : (limit : ℕ) (begun : Begun) (held : Enum) (name : Ident) (sort : Sort) →
    BegunFits limit begun → EnumFits limit held → OutcomeFits limit (value_step begun held name sort)
value_read_fits limit begun held name equals begins fits = (begins, fits)
value_read_fits limit begun held name opening_bracket begins fits = (begins, fits)
value_read_fits limit begun held name sort begins fits =
    value_ends_fits limit begun held (enum_value_from name None None name.span.end) sort begins fits tt

pub number_wanted_fits : (limit : ℕ) (begun : Begun) (held : Enum) (name : Ident) (sort : Sort) (place : Span) →
    BegunFits limit begun → EnumFits limit held → OutcomeFits limit (number_step begun held name sort place)
number_wanted_fits limit begun held name (integer value) place begins fits = (begins, fits)
number_wanted_fits limit begun held name sort place begins fits = tt

pub number_read_fits : (limit : ℕ) (begun : Begun) (held : Enum) (name : Ident) (value end : ℕ) (sort : Sort) →
    BegunFits limit begun → EnumFits limit held →
    OutcomeFits limit (number_read_step begun held name value end sort)
number_read_fits limit begun held name value end opening_bracket begins fits = (begins, fits)
number_read_fits limit begun held name value end sort begins fits =
    value_ends_fits limit begun held (enum_value_from name (Some value) None end) sort begins fits tt

pub enum_closed_fits : (limit : ℕ) (begun : Begun) (held : Enum) (sort : Sort) (place : Span) →
    BegunFits limit begun → EnumFits limit held → held.values ≢ [] →
    OutcomeFits limit (enum_closed_step begun held sort place)
enum_closed_fits limit begun held semicolon place begins fits some =
    declaration_fits limit begun _ place.end begins (enum_fits limit held place.end fits some)
enum_closed_fits limit begun held sort place begins fits some = tt

-- Annotations.

pub second_bracket_fits : (limit : ℕ) (begun : Begun) (holder : Holder) (sort : Sort) → BegunFits limit begun →
    HolderFits limit holder → OutcomeFits limit (second_bracket begun holder sort)
second_bracket_fits limit begun holder opening_bracket begins fits = (begins, fits)
second_bracket_fits limit begun holder sort begins fits = tt

pub own_fits : (limit : ℕ) (begun : Begun) (sort : Sort) → BegunFits limit begun →
    OutcomeFits limit (own_step begun sort)
own_fits limit begun opening_bracket begins = (begins, tt)
own_fits limit begun sort begins = tt

pub annotation_read_fits : (limit : ℕ) (begun : Begun) (holder : Holder) (annotations : List Annotation)
    (sort : Sort) → BegunFits limit begun → HolderFits limit holder →
    AllByRecursion (AnnotationFits limit) annotations →
    OutcomeFits limit (annotation_read_step begun holder annotations sort)
annotation_read_fits limit begun holder annotations comma begins fits all =
    (begins, ((fits, all), start_fits (suc limit) (omega arith), tt))
annotation_read_fits limit begun holder annotations closing_bracket begins fits all = (begins, (fits, all))
annotation_read_fits limit begun holder annotations sort begins fits all = tt

pub closing_annotations_fits : (limit : ℕ) (begun : Begun) (holder : Holder) (annotations : List Annotation)
    (sort : Sort) (place : Span) → BegunFits limit begun → HolderFits limit holder →
    AllByRecursion (AnnotationFits limit) annotations →
    OutcomeFits limit (closing_annotations begun holder annotations sort place)
closing_annotations_fits limit begun holder annotations closing_bracket place begins fits all =
    (begins, (fits, all))
closing_annotations_fits limit begun holder annotations sort place begins fits all = tt

own_ends_fits : (limit : ℕ) (begun : Begun) (annotations : List Annotation) (sort : Sort) (place : Span) →
    BegunFits limit begun → AllByRecursion (AnnotationFits limit) annotations →
    OutcomeFits limit (own_ends begun annotations sort place)
own_ends_fits limit begun annotations semicolon place begins all =
    (record { imports = begins.imports; annotations = all; declarations = begins.declarations }, tt)
own_ends_fits limit begun annotations sort place begins all = tt

pub annotated_fits : (limit : ℕ) (begun : Begun) (holder : Holder) (annotations : List Annotation) (end : ℕ)
    (sort : Sort) (place : Span) → 1 ≤ limit → BegunFits limit begun → HolderFits limit holder →
    AllByRecursion (AnnotationFits limit) annotations →
    OutcomeFits limit (annotated_step begun holder annotations end sort place)
annotated_fits limit begun the_module annotations end sort place room begins fits all =
    own_ends_fits limit begun annotations sort place begins all
annotated_fits limit begun (a_parameter owner parameters front default) annotations end sort place room begins
    fits all =
    parameter_ends_fits limit begun owner parameters (parameter_from front default (Some annotations) end) sort
    begins fits.0 fits.1 (fits.2, fits.3, all)
annotated_fits limit begun (a_function fronted parameters frequency) annotations end sort place room begins fits
    all =
    function_annotated_fits limit begun fronted parameters frequency (Some annotations) sort place room begins
    fits.0 fits.1 all
annotated_fits limit begun (an_annotation named parameters) annotations end sort place room begins fits all =
    annotation_annotated_fits limit begun named parameters (Some annotations) sort place begins fits all
annotated_fits limit begun (a_variant fronted) annotations end sort place room begins fits all =
    variant_annotated_fits limit begun fronted (Some annotations) sort begins fits all
annotated_fits limit begun (a_struct named) annotations end sort place room begins fits all =
    struct_annotated_fits limit begun named (Some annotations) sort begins all
annotated_fits limit begun (a_field held front default) annotations end sort place room begins fits all =
    field_ends_fits limit begun held (parameter_from front default (Some annotations) end) sort begins fits.0
    (fits.1, fits.2, all)
annotated_fits limit begun (an_enum named) annotations end sort place room begins fits all =
    enum_annotated_fits limit begun named (Some annotations) sort begins all
annotated_fits limit begun (an_enum_value held name number) annotations end sort place room begins fits all =
    value_ends_fits limit begun held (enum_value_from name number (Some annotations) end) sort begins fits all

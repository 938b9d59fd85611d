-- A step in a struct, an enum or annotations keeps what is read plain.
use Rattle.std.proofs.Common.{ℕ, List, [], ◌∷◌, ◌++◌, Option, Some, None}
use Rattle.std.specs.List.{AllByRecursion}
use Rattle.mdl_syntax.specs.declared.names.Span.{Span}
use Rattle.mdl_syntax.specs.declared.names.Ident.{Ident}
use Rattle.mdl_syntax.specs.Modules.{Annotation, Parameter, EnumValue}
use Rattle.expression_grammar.specs.inside.Machine.{Sort, wanted, identifier, integer, opening_bracket}
use Rattle.expression_grammar.specs.inside.Machine.{closing_bracket, opening_brace, closing_brace, comma}
use Rattle.expression_grammar.specs.inside.Machine.{semicolon, equals}
use Rattle.module_grammar.specs.inside.ModuleStates.{Begun, Named, Front, Struct, Enum, Holder}
use Rattle.module_grammar.specs.inside.ModuleStates.{the_module, a_parameter, a_function}
use Rattle.module_grammar.specs.inside.ModuleStates.{an_annotation, a_variant, a_struct, a_field}
use Rattle.module_grammar.specs.inside.ModuleStates.{an_enum, an_enum_value, of_field}
use Rattle.module_grammar.specs.inside.ModuleStates.{plain_parameter, parameter_from, enum_value_from}
use Rattle.module_grammar.specs.inside.ModuleMachine.{struct_annotated, struct_named_step, fields_step}
use Rattle.module_grammar.specs.inside.ModuleMachine.{field_ends, field_step, struct_closed_step}
use Rattle.module_grammar.specs.inside.ModuleMachine.{enum_annotated, enum_named_step}
use Rattle.module_grammar.specs.inside.ModuleMachine.{value_wanted_step, value_ends, value_step}
use Rattle.module_grammar.specs.inside.ModuleMachine.{number_step, number_read_step, enum_closed_step}
use Rattle.module_grammar.specs.inside.ModuleMachine.{second_bracket, own_step, annotation_read_step}
use Rattle.module_grammar.specs.inside.ModuleMachine.{closing_annotations, own_ends, annotated_step}
use Rattle.mdl_syntax.specs.AcceptedModules.{PlainAnnotations, PlainParameter}
use Rattle.expression_grammar.specs.inside.Leads.{here}
use Rattle.module_grammar.specs.inside.ModulePlain.{AnnotationPlain, EnumValuePlain, BegunPlain}
use Rattle.module_grammar.specs.inside.ModulePlain.{SizePlain, StructPlain, EnumPlain, HolderPlain}
use Rattle.module_grammar.proofs.ModuleFitsParts.{all_and_one}
use Rattle.module_grammar.proofs.ModulePlainFronts.{OutcomePlain}
use Rattle.module_grammar.proofs.ModulePlainParts.{declaration_plain, owned_more}
use Rattle.module_grammar.proofs.ModulePlainPositions.{first_front_plain, parameter_ends_plain}
use Rattle.module_grammar.proofs.ModulePlainPositions.{variant_annotated_plain}
use Rattle.module_grammar.proofs.ModulePlainPositions.{function_annotated_plain}
use Rattle.module_grammar.proofs.ModulePlainPositions.{annotation_annotated_plain}

-- Structs.

struct_annotated_plain : (limit : ℕ) (begun : Begun) (named : Named)
    (annotations : Option (List Annotation))
    (sort : Sort) → BegunPlain begun → PlainAnnotations annotations →
    OutcomePlain limit (struct_annotated begun named annotations sort)
struct_annotated_plain limit begun named annotations opening_brace begins notes =
    (begins, (notes, tt))
struct_annotated_plain limit begun named annotations sort begins notes = tt

pub struct_named_plain : (limit : ℕ) (begun : Begun) (named : Named) (sort : Sort) →
    BegunPlain begun →
    OutcomePlain limit (struct_named_step begun named sort)
struct_named_plain limit begun named opening_bracket begins = (begins, tt)
struct_named_plain limit begun named sort begins =
    struct_annotated_plain limit begun named None sort begins tt

pub fields_plain : (limit token : ℕ) (begun : Begun) (held : Struct) (sort : Sort) (place : Span) →
    BegunPlain begun → StructPlain held →
    OutcomePlain limit (fields_step token begun held sort place)
fields_plain limit token begun held closing_brace place begins plain = (begins, plain)
fields_plain limit token begun held sort place begins plain =
    first_front_plain limit token begun (of_field held) sort place begins plain

pub field_ends_plain : (limit : ℕ) (begun : Begun) (held : Struct) (one : Parameter) (sort : Sort) →
    BegunPlain begun → StructPlain held → PlainParameter one →
    OutcomePlain limit (field_ends begun held one sort)
field_ends_plain limit begun held one semicolon begins plain own =
    (begins, (plain.0, all_and_one PlainParameter held.fields one plain.1 own))
field_ends_plain limit begun held one sort begins plain own = tt

pub field_plain : (limit : ℕ) (begun : Begun) (held : Struct) (front : Front) (sort : Sort) →
    BegunPlain begun → StructPlain held → SizePlain front.ty →
    OutcomePlain limit (field_step begun held front sort)
field_plain limit begun held front equals begins plain own =
    (begins, ((plain, own), λ passed. (tt, ([], here wanted []))))
field_plain limit begun held front opening_bracket begins plain own = (begins, (plain, own, tt))
field_plain limit begun held front sort begins plain own =
    field_ends_plain limit begun held (plain_parameter front None) sort begins plain (own, (tt, tt))

pub struct_closed_plain : (limit : ℕ) (begun : Begun) (held : Struct) (sort : Sort) (place : Span) →
    BegunPlain begun → StructPlain held → OutcomePlain limit
    (struct_closed_step begun held sort place)
struct_closed_plain limit begun held semicolon place begins plain =
    declaration_plain limit begun _ place.end begins plain
struct_closed_plain limit begun held sort place begins plain = tt

-- Enums.

enum_annotated_plain : (limit : ℕ) (begun : Begun) (named : Named)
    (annotations : Option (List Annotation))
    (sort : Sort) → BegunPlain begun → PlainAnnotations annotations →
    OutcomePlain limit (enum_annotated begun named annotations sort)
enum_annotated_plain limit begun named annotations opening_brace begins notes =
    (begins, (notes, tt))
enum_annotated_plain limit begun named annotations sort begins notes = tt

pub enum_named_plain : (limit : ℕ) (begun : Begun) (named : Named) (sort : Sort) →
    BegunPlain begun →
    OutcomePlain limit (enum_named_step begun named sort)
enum_named_plain limit begun named opening_bracket begins = (begins, tt)
enum_named_plain limit begun named sort begins =
    enum_annotated_plain limit begun named None sort begins tt

pub value_wanted_plain : (limit : ℕ) (begun : Begun) (held : Enum) (sort : Sort) (place : Span) →
    BegunPlain begun → EnumPlain held → OutcomePlain limit (value_wanted_step begun held sort place)
value_wanted_plain limit begun held (identifier text) place begins plain = (begins, plain)
value_wanted_plain limit begun held sort place begins plain = tt

value_ends_plain : (limit : ℕ) (begun : Begun) (held : Enum) (one : EnumValue) (sort : Sort) →
    BegunPlain begun → EnumPlain held → EnumValuePlain one →
    OutcomePlain limit (value_ends begun held one sort)
value_ends_plain limit begun held one comma begins plain own =
    (begins, (plain.0, all_and_one EnumValuePlain held.values one plain.1 own))
value_ends_plain limit begun held one closing_brace begins plain own =
    (begins, (plain.0, all_and_one EnumValuePlain held.values one plain.1 own))
value_ends_plain limit begun held one sort begins plain own = tt

pub value_read_plain : (limit : ℕ) (begun : Begun) (held : Enum) (name : Ident) (sort : Sort) →
    BegunPlain begun → EnumPlain held → OutcomePlain limit (value_step begun held name sort)
value_read_plain limit begun held name equals begins plain = (begins, plain)
value_read_plain limit begun held name opening_bracket begins plain = (begins, plain)
value_read_plain limit begun held name sort begins plain =
    value_ends_plain limit begun held (enum_value_from name None None name.span.end) sort begins
    plain tt

pub number_wanted_plain : (limit : ℕ) (begun : Begun) (held : Enum) (name : Ident) (sort : Sort)
    (place : Span) →
    BegunPlain begun → EnumPlain held → OutcomePlain limit (number_step begun held name sort place)
number_wanted_plain limit begun held name (integer value) place begins plain = (begins, plain)
number_wanted_plain limit begun held name sort place begins plain = tt

pub number_read_plain : (limit : ℕ) (begun : Begun) (held : Enum) (name : Ident) (value end : ℕ)
    (sort : Sort) →
    BegunPlain begun → EnumPlain held →
    OutcomePlain limit (number_read_step begun held name value end sort)
number_read_plain limit begun held name value end opening_bracket begins plain = (begins, plain)
number_read_plain limit begun held name value end sort begins plain =
    value_ends_plain limit begun held (enum_value_from name (Some value) None end) sort begins plain
    tt

pub enum_closed_plain : (limit : ℕ) (begun : Begun) (held : Enum) (sort : Sort) (place : Span) →
    BegunPlain begun → EnumPlain held →
    OutcomePlain limit (enum_closed_step begun held sort place)
enum_closed_plain limit begun held semicolon place begins plain =
    declaration_plain limit begun _ place.end begins plain
enum_closed_plain limit begun held sort place begins plain = tt

-- Annotations.

pub second_bracket_plain : (limit : ℕ) (begun : Begun) (holder : Holder) (sort : Sort) →
    BegunPlain begun →
    HolderPlain holder → OutcomePlain limit (second_bracket begun holder sort)
second_bracket_plain limit begun holder opening_bracket begins plain = (begins, plain)
second_bracket_plain limit begun holder sort begins plain = tt

pub own_plain : (limit : ℕ) (begun : Begun) (sort : Sort) → BegunPlain begun →
    OutcomePlain limit (own_step begun sort)
own_plain limit begun opening_bracket begins = (begins, tt)
own_plain limit begun sort begins = tt

pub annotation_read_plain : (limit : ℕ) (begun : Begun) (holder : Holder)
    (annotations : List Annotation)
    (sort : Sort) → BegunPlain begun → HolderPlain holder →
    AllByRecursion AnnotationPlain annotations →
    OutcomePlain limit (annotation_read_step begun holder annotations sort)
annotation_read_plain limit begun holder annotations comma begins plain all =
    (begins, ((plain, all), λ passed. (tt, ([], here wanted []))))
annotation_read_plain limit begun holder annotations closing_bracket begins plain all =
    (begins, (plain, all))
annotation_read_plain limit begun holder annotations sort begins plain all = tt

pub closing_annotations_plain : (limit : ℕ) (begun : Begun) (holder : Holder)
    (annotations : List Annotation)
    (sort : Sort) (place : Span) →
    BegunPlain begun → HolderPlain holder →
    AllByRecursion AnnotationPlain annotations →
    OutcomePlain limit (closing_annotations begun holder annotations sort place)
closing_annotations_plain limit begun holder annotations closing_bracket place begins plain all =
    (begins, (plain, all))
closing_annotations_plain limit begun holder annotations sort place begins plain all = tt

own_ends_plain : (limit : ℕ) (begun : Begun) (annotations : List Annotation) (sort : Sort)
    (place : Span) →
    BegunPlain begun → AllByRecursion AnnotationPlain annotations →
    OutcomePlain limit (own_ends begun annotations sort place)
own_ends_plain limit begun annotations semicolon place begins all =
    (record { version = begins.version; annotations = all; declarations = begins.declarations }, tt)
own_ends_plain limit begun annotations sort place begins all = tt

pub annotated_plain : (limit : ℕ) (begun : Begun) (holder : Holder) (annotations : List Annotation)
    (end : ℕ)
    (sort : Sort) (place : Span) →
    BegunPlain begun → HolderPlain holder →
    AllByRecursion AnnotationPlain annotations →
    OutcomePlain limit (annotated_step begun holder annotations end sort place)
annotated_plain limit begun the_module annotations end sort place begins plain all =
    own_ends_plain limit begun annotations sort place begins all
annotated_plain limit begun (a_parameter owner parameters front default) annotations end sort place
    begins
    plain all =
    parameter_ends_plain limit begun owner
    (parameters ++ parameter_from front default (Some annotations) end ∷ []) sort begins plain.0
    (owned_more owner parameters front default (Some annotations) end plain.1 plain.2 plain.3 all)
annotated_plain limit begun (a_function fronted parameters frequency) annotations end sort place
    begins plain
    all =
    function_annotated_plain limit begun fronted parameters frequency (Some annotations) sort place
    begins
    plain.0 plain.1 all
annotated_plain limit begun (an_annotation named parameters) annotations end sort place begins plain
    all =
    annotation_annotated_plain limit begun named parameters (Some annotations) sort place begins
    plain all
annotated_plain limit begun (a_variant fronted) annotations end sort place begins plain all =
    variant_annotated_plain limit begun fronted (Some annotations) sort begins plain all
annotated_plain limit begun (a_struct named) annotations end sort place begins plain all =
    struct_annotated_plain limit begun named (Some annotations) sort begins all
annotated_plain limit begun (a_field held front default) annotations end sort place begins plain
    all =
    field_ends_plain limit begun held (parameter_from front default (Some annotations) end) sort
    begins plain.0
    (plain.1, (plain.2, all))
annotated_plain limit begun (an_enum named) annotations end sort place begins plain all =
    enum_annotated_plain limit begun named (Some annotations) sort begins all
annotated_plain limit begun (an_enum_value held name number) annotations end sort place begins plain
    all =
    value_ends_plain limit begun held (enum_value_from name number (Some annotations) end) sort
    begins plain all

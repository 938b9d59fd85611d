-- Steps in declarations don't look at the limit: they go on, are wrong or leave a token out.
use Rattle.std.proofs.Common.{refl, ℕ, List, [], ◌∷◌, ◌++◌, Option, Some, None}
use Rattle.mdl_syntax.specs.declared.names.Span.{Span}
use Rattle.mdl_syntax.specs.declared.names.Ident.{Ident}
use Rattle.mdl_syntax.specs.declared.types.Freq.{Freq}
use Rattle.mdl_syntax.specs.Modules.{Annotation, Parameter, EnumValue}
use Rattle.expression_grammar.specs.inside.Machine.{Sort, identifier, integer, closing, opening_bracket}
use Rattle.expression_grammar.specs.inside.Machine.{closing_bracket, opening_brace, closing_brace, comma}
use Rattle.expression_grammar.specs.inside.Machine.{semicolon, equals, frequency_word}
use Rattle.module_grammar.specs.inside.ModuleStates.{Begun, Named, Fronted, Front, Struct, Enum}
use Rattle.module_grammar.specs.inside.ModuleStates.{Holder, of_field, the_module, a_parameter}
use Rattle.module_grammar.specs.inside.ModuleStates.{a_function, an_annotation, a_variant, a_struct}
use Rattle.module_grammar.specs.inside.ModuleMachine.{star_read_step}
use Rattle.module_grammar.specs.inside.ModuleStates.{a_field, an_enum, an_enum_value}
use Rattle.module_grammar.specs.inside.ModuleMachine.{variant_annotated, variant_step, base_step}
use Rattle.module_grammar.specs.inside.ModuleMachine.{function_annotated, function_step}
use Rattle.module_grammar.specs.inside.ModuleMachine.{annotation_annotated, annotation_declared_step}
use Rattle.module_grammar.specs.inside.ModuleMachine.{struct_annotated, struct_named_step, fields_step}
use Rattle.module_grammar.specs.inside.ModuleMachine.{field_ends, field_step, struct_closed_step}
use Rattle.module_grammar.specs.inside.ModuleMachine.{enum_annotated, enum_named_step}
use Rattle.module_grammar.specs.inside.ModuleMachine.{value_wanted_step, value_ends, value_step}
use Rattle.module_grammar.specs.inside.ModuleMachine.{number_step, number_read_step, enum_closed_step}
use Rattle.module_grammar.specs.inside.ModuleMachine.{second_bracket, own_step, annotation_read_step}
use Rattle.module_grammar.specs.inside.ModuleMachine.{closing_annotations, own_ends, annotated_step}
use Rattle.module_grammar.specs.inside.ModuleStates.{plain_parameter, parameter_from, enum_value_from}
use Rattle.module_grammar.proofs.ModuleSettledLaws.{Settled, first_front_settled}
use Rattle.module_grammar.proofs.ModuleSettledLaws.{parameter_ends_settled}

-- Variants, functions and annotations.

pub star_read_settled : (begun : Begun) (fronted : Fronted) (sort : Sort) →
    Settled (star_read_step begun fronted sort)
star_read_settled begun fronted closing = refl
star_read_settled begun fronted sort = refl

variant_annotated_settled : (begun : Begun) (fronted : Fronted)
    (annotations : Option (List Annotation)) (sort : Sort) →
    Settled (variant_annotated begun fronted annotations sort)
variant_annotated_settled begun fronted annotations equals = refl
variant_annotated_settled begun fronted annotations sort = refl

pub variant_settled : (begun : Begun) (fronted : Fronted) (sort : Sort) →
    Settled (variant_step begun fronted sort)
variant_settled begun fronted opening_bracket = refl
variant_settled begun fronted sort = variant_annotated_settled begun fronted None sort

pub base_settled : (begun : Begun) (fronted : Fronted) (annotations : Option (List Annotation))
    (base : Annotation) (sort : Sort) (place : Span) →
    Settled (base_step begun fronted annotations base sort place)
base_settled begun fronted annotations base semicolon place = refl
base_settled begun fronted annotations base sort place = refl

function_annotated_settled : (begun : Begun) (fronted : Fronted) (parameters : List Parameter)
    (frequency : Option Freq) (annotations : Option (List Annotation)) (sort : Sort)
    (place : Span) → Settled (function_annotated begun fronted parameters frequency annotations sort
    place)
function_annotated_settled begun fronted parameters frequency annotations equals place = refl
function_annotated_settled begun fronted parameters frequency annotations semicolon place = refl
function_annotated_settled begun fronted parameters frequency annotations opening_brace place = refl
function_annotated_settled begun fronted parameters frequency annotations sort place = refl

pub function_settled : (begun : Begun) (fronted : Fronted) (parameters : List Parameter)
    (frequency : Option Freq) (sort : Sort) (place : Span) →
    Settled (function_step begun fronted parameters frequency sort place)
function_settled begun fronted parameters None (frequency_word freq) place = refl
function_settled begun fronted parameters frequency opening_bracket place = refl
function_settled begun fronted parameters frequency sort place =
    function_annotated_settled begun fronted parameters frequency None sort place

annotation_annotated_settled : (begun : Begun) (named : Named) (parameters : List Parameter)
    (annotations : Option (List Annotation)) (sort : Sort) (place : Span) →
    Settled (annotation_annotated begun named parameters annotations sort place)
annotation_annotated_settled begun named parameters annotations semicolon place = refl
annotation_annotated_settled begun named parameters annotations sort place = refl

pub annotation_declared_settled : (begun : Begun) (named : Named) (parameters : List Parameter)
    (sort : Sort) (place : Span) → Settled (annotation_declared_step begun named parameters sort
    place)
annotation_declared_settled begun named parameters opening_bracket place = refl
annotation_declared_settled begun named parameters sort place =
    annotation_annotated_settled begun named parameters None sort place

-- Structs.

struct_annotated_settled : (begun : Begun) (named : Named) (annotations : Option (List Annotation))
    (sort : Sort) → Settled (struct_annotated begun named annotations sort)
struct_annotated_settled begun named annotations opening_brace = refl
struct_annotated_settled begun named annotations sort = refl

pub struct_named_settled : (begun : Begun) (named : Named) (sort : Sort) →
    Settled (struct_named_step begun named sort)
struct_named_settled begun named opening_bracket = refl
struct_named_settled begun named sort = struct_annotated_settled begun named None sort

pub fields_settled : (token : ℕ) (begun : Begun) (held : Struct) (sort : Sort) (place : Span) →
    Settled (fields_step token begun held sort place)
fields_settled token begun held closing_brace place = refl
fields_settled token begun held sort place =
    first_front_settled token begun (of_field held) sort place

field_ends_settled : (begun : Begun) (held : Struct) (one : Parameter) (sort : Sort) →
    Settled (field_ends begun held one sort)
field_ends_settled begun held one semicolon = refl
field_ends_settled begun held one sort = refl

pub field_settled : (begun : Begun) (held : Struct) (front : Front) (sort : Sort) →
    Settled (field_step begun held front sort)
field_settled begun held front equals = refl
field_settled begun held front opening_bracket = refl
field_settled begun held front sort =
    field_ends_settled begun held (plain_parameter front None) sort

pub struct_closed_settled : (begun : Begun) (held : Struct) (sort : Sort) (place : Span) →
    Settled (struct_closed_step begun held sort place)
struct_closed_settled begun held semicolon place = refl
struct_closed_settled begun held sort place = refl

-- Enums.

enum_annotated_settled : (begun : Begun) (named : Named) (annotations : Option (List Annotation))
    (sort : Sort) → Settled (enum_annotated begun named annotations sort)
enum_annotated_settled begun named annotations opening_brace = refl
enum_annotated_settled begun named annotations sort = refl

pub enum_named_settled : (begun : Begun) (named : Named) (sort : Sort) →
    Settled (enum_named_step begun named sort)
enum_named_settled begun named opening_bracket = refl
enum_named_settled begun named sort = enum_annotated_settled begun named None sort

pub value_wanted_settled : (begun : Begun) (held : Enum) (sort : Sort) (place : Span) →
    Settled (value_wanted_step begun held sort place)
value_wanted_settled begun held (identifier text) place = refl
value_wanted_settled begun held sort place = refl

value_ends_settled : (begun : Begun) (held : Enum) (one : EnumValue) (sort : Sort) →
    Settled (value_ends begun held one sort)
value_ends_settled begun held one comma = refl
value_ends_settled begun held one closing_brace = refl
value_ends_settled begun held one sort = refl

pub value_read_settled : (begun : Begun) (held : Enum) (name : Ident) (sort : Sort) →
    Settled (value_step begun held name sort)
value_read_settled begun held name equals = refl
value_read_settled begun held name opening_bracket = refl
value_read_settled begun held name sort =
    value_ends_settled begun held (enum_value_from name None None name.span.end) sort

pub number_wanted_settled : (begun : Begun) (held : Enum) (name : Ident) (sort : Sort)
    (place : Span) → Settled (number_step begun held name sort place)
number_wanted_settled begun held name (integer value) place = refl
number_wanted_settled begun held name sort place = refl

pub number_read_settled : (begun : Begun) (held : Enum) (name : Ident) (value end : ℕ)
    (sort : Sort) → Settled (number_read_step begun held name value end sort)
number_read_settled begun held name value end opening_bracket = refl
number_read_settled begun held name value end sort =
    value_ends_settled begun held (enum_value_from name (Some value) None end) sort

pub enum_closed_settled : (begun : Begun) (held : Enum) (sort : Sort) (place : Span) →
    Settled (enum_closed_step begun held sort place)
enum_closed_settled begun held semicolon place = refl
enum_closed_settled begun held sort place = refl

-- Annotations.

pub second_bracket_settled : (begun : Begun) (holder : Holder) (sort : Sort) →
    Settled (second_bracket begun holder sort)
second_bracket_settled begun holder opening_bracket = refl
second_bracket_settled begun holder sort = refl

pub own_settled : (begun : Begun) (sort : Sort) → Settled (own_step begun sort)
own_settled begun opening_bracket = refl
own_settled begun sort = refl

pub annotation_read_settled : (begun : Begun) (holder : Holder) (annotations : List Annotation)
    (sort : Sort) → Settled (annotation_read_step begun holder annotations sort)
annotation_read_settled begun holder annotations comma = refl
annotation_read_settled begun holder annotations closing_bracket = refl
annotation_read_settled begun holder annotations sort = refl

pub closing_annotations_settled : (begun : Begun) (holder : Holder) (annotations : List Annotation)
    (sort : Sort) (place : Span) → Settled (closing_annotations begun holder annotations sort place)
closing_annotations_settled begun holder annotations closing_bracket place = refl
closing_annotations_settled begun holder annotations sort place = refl

own_ends_settled : (begun : Begun) (annotations : List Annotation) (sort : Sort) (place : Span) →
    Settled (own_ends begun annotations sort place)
own_ends_settled begun annotations semicolon place = refl
own_ends_settled begun annotations sort place = refl

pub annotated_settled : (begun : Begun) (holder : Holder) (annotations : List Annotation) (end : ℕ)
    (sort : Sort) (place : Span) → Settled (annotated_step begun holder annotations end sort place)
annotated_settled begun the_module annotations end sort place =
    own_ends_settled begun annotations sort place
annotated_settled begun (a_parameter owner parameters front default) annotations end sort place =
    parameter_ends_settled begun owner (parameters ++ parameter_from front default
    (Some annotations) end ∷ []) sort
annotated_settled begun (a_function fronted parameters frequency) annotations end sort place =
    function_annotated_settled begun fronted parameters frequency (Some annotations) sort place
annotated_settled begun (an_annotation named parameters) annotations end sort place =
    annotation_annotated_settled begun named parameters (Some annotations) sort place
annotated_settled begun (a_variant fronted) annotations end sort place =
    variant_annotated_settled begun fronted (Some annotations) sort
annotated_settled begun (a_struct named) annotations end sort place =
    struct_annotated_settled begun named (Some annotations) sort
annotated_settled begun (a_field held front default) annotations end sort place =
    field_ends_settled begun held (parameter_from front default (Some annotations) end) sort
annotated_settled begun (an_enum named) annotations end sort place =
    enum_annotated_settled begun named (Some annotations) sort
annotated_settled begun (an_enum_value held name number) annotations end sort place =
    value_ends_settled begun held (enum_value_from name number (Some annotations) end) sort

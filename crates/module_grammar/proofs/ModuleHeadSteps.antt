-- What a step between expressions changes in the machine of modules.
use Rattle.std.proofs.Common.{◌≡◌, sym, refl, ℕ, Bool, true, false, List, [], ◌∷◌, ◌++◌, Option}
use Rattle.std.proofs.Common.{Some, None}
use Rattle.mdl_syntax.specs.declared.names.Span.{Span}
use Rattle.mdl_syntax.specs.declared.names.Ident.{Ident}
use Rattle.mdl_syntax.specs.declared.types.Freq.{Freq}
use Rattle.mdl_syntax.specs.declared.types.TypeTree.{TypeTree}
use Rattle.mdl_syntax.specs.declared.expressions.Lit.TheVariants as lit
use Rattle.mdl_syntax.specs.declared.imports.Lead.TheVariants as lead_form
use Rattle.mdl_syntax.specs.declared.imports.ModuleRef.{ModuleRef}
use Rattle.mdl_syntax.specs.declared.imports.Qualified.{Qualified}
use Rattle.mdl_syntax.specs.Modules.{Annotation, Parameter, EnumValue, structure, enumeration}
use Rattle.mdl_syntax.specs.Modules.{annotation}
use Rattle.expression_grammar.specs.inside.Machine.{Mode, Sort, Step, identifier, integer, other_literal}
use Rattle.expression_grammar.specs.inside.Machine.{binary_operator, opening, closing, opening_bracket}
use Rattle.expression_grammar.specs.inside.Machine.{closing_bracket, opening_brace, closing_brace, comma}
use Rattle.expression_grammar.specs.inside.Machine.{semicolon, equals, frequency_word, import_word}
use Rattle.expression_grammar.specs.inside.Machine.{using_word, module_word, export_word, struct_word}
use Rattle.expression_grammar.specs.inside.Machine.{enum_word, annotation_word, goes, bad, deep}
use Rattle.expression_grammar.specs.inside.Machine.{is_left_out, head_step, type_step, equals_wanted}
use Rattle.expression_grammar.specs.inside.Machine.{deferred_wanted}
use Rattle.module_grammar.specs.inside.ModuleStates.{Begun, Named, Fronted, Front, Owner, Struct}
use Rattle.module_grammar.specs.inside.ModuleStates.{Position, Enum, Holder, Fronting, Kin, Naming}
use Rattle.module_grammar.specs.inside.ModuleStates.{State, wrong, on, within, of_function}
use Rattle.module_grammar.specs.inside.ModuleStates.{of_annotation, the_module, a_parameter}
use Rattle.module_grammar.specs.inside.ModuleStates.{a_function, an_annotation, a_variant, a_struct}
use Rattle.module_grammar.specs.inside.ModuleStates.{a_field, an_enum, an_enum_value, of_declaration}
use Rattle.module_grammar.specs.inside.ModuleStates.{of_parameter, of_field, struct_kin, enum_kin}
use Rattle.module_grammar.specs.inside.ModuleStates.{annotation_kin, plain_parameter, parameter_from}
use Rattle.module_grammar.specs.inside.ModuleMachine.{no_frequency}
use Rattle.module_grammar.specs.inside.ModuleStates.{enum_value_from, is_star}
use Rattle.module_grammar.specs.inside.ModuleMachine.{front_outcome, first_front_step}
use Rattle.module_grammar.specs.inside.ModuleMachine.{declaration_step, item_step, exported_step}
use Rattle.module_grammar.specs.inside.ModuleMachine.{kin_step, annotation_named_step, declared_step}
use Rattle.module_grammar.specs.inside.ModuleMachine.{star_step, parameters_step, parameter_ends}
use Rattle.module_grammar.specs.inside.ModuleMachine.{parameter_step, star_read_step}
use Rattle.module_grammar.specs.inside.ModuleMachine.{variant_annotated, variant_step, base_step}
use Rattle.module_grammar.specs.inside.ModuleMachine.{variant_from, function_annotated, function_step}
use Rattle.module_grammar.specs.inside.ModuleMachine.{annotation_annotated, annotation_declared_step}
use Rattle.module_grammar.specs.inside.ModuleMachine.{struct_annotated, struct_named_step, fields_step}
use Rattle.module_grammar.specs.inside.ModuleMachine.{field_ends, field_step, struct_closed_step}
use Rattle.module_grammar.specs.inside.ModuleMachine.{enum_annotated, enum_named_step}
use Rattle.module_grammar.specs.inside.ModuleMachine.{value_wanted_step, value_ends, value_step}
use Rattle.module_grammar.specs.inside.ModuleMachine.{number_step, number_read_step, enum_closed_step}
use Rattle.module_grammar.specs.inside.ModuleMachine.{second_bracket, own_step, annotation_read_step}
use Rattle.module_grammar.specs.inside.ModuleMachine.{closing_annotations, own_ends, annotated_step}
use Rattle.module_grammar.specs.inside.ModuleStates.{item_wanted, importing, imported, using}
use Rattle.module_grammar.specs.inside.ModuleStates.{used_wanted, used_read, used_next, used_all}
use Rattle.module_grammar.specs.inside.ModuleStates.{own_wanted, annotations_begun, annotation_read}
use Rattle.module_grammar.specs.inside.ModuleStates.{annotations_closing, annotated, exported_read}
use Rattle.module_grammar.specs.inside.ModuleStates.{kin_named, annotation_named, fronting, declared}
use Rattle.module_grammar.specs.inside.ModuleStates.{parameters_begun, star_read, variant_read}
use Rattle.module_grammar.specs.inside.ModuleStates.{base_read, parameter_read, parameter_next}
use Rattle.module_grammar.specs.inside.ModuleStates.{function_read, annotation_declared, struct_named}
use Rattle.module_grammar.specs.inside.ModuleStates.{fields_read, field_read, enum_named}
use Rattle.module_grammar.specs.inside.ModuleStates.{value_wanted, value_read, number_wanted}
use Rattle.module_grammar.specs.inside.ModuleStates.{number_read, struct_closed, enum_closed, unnamed}
use Rattle.module_grammar.specs.inside.ModuleMachine.{naming_or}
use Rattle.module_grammar.specs.inside.ModuleStates.{parted, open_ended, naming_step}
use Rattle.module_grammar.specs.inside.ModuleMachine.{import_ends, import_item, import_step, all_of}
use Rattle.module_grammar.specs.inside.ModuleMachine.{using_step, used_wanted_step, used_read_step}
use Rattle.module_grammar.specs.inside.ModuleMachine.{used_next_step, used_all_step}
use Rattle.module_grammar.specs.inside.ModuleStates.{qualified_from}
use Rattle.module_grammar.specs.inside.ModuleMachine.{parameters_state}
use Rattle.module_grammar.specs.inside.ModuleStates.{place_of_declaration}
use Rattle.module_grammar.specs.inside.ModuleHeads.{IsHead, size_in, deferred_of, fronted_of_owner}
use Rattle.module_grammar.proofs.ModuleHeadKinds.{InAnnotation, AnnotationOwner, Change, Changes}
use Rattle.module_grammar.proofs.ModuleHeadKinds.{stays_so, ends_there, defers_first, head_ended}
use Rattle.module_grammar.proofs.ModuleHeadKinds.{none_added, other_added, if_changes}

-- Types.

plain_front : (number : ℕ) (begun : Begun) (position : Position) (sort : Sort) (at : ℕ)
    (exported : Bool)
    (made : Step) → size_in (within begun position) ≡ None →
    (InAnnotation (within begun position) → ⊥) →
    Changes number (within begun position) sort (front_outcome number begun
    (of_declaration at exported) made)
plain_front number begun position sort at exported (goes (equals_wanted head ty name) frames) size
    note =
    stays_so (sym size) (λ is. absurd (note is)) (λ is. is)
plain_front number begun position sort at exported (goes (deferred_wanted head name) frames) size
    note =
    stays_so (sym size) (λ is. absurd (note is)) (λ is. is)
plain_front number begun position sort at exported (goes mode frames) size note =
    stays_so (sym size) (λ is. absurd (note is)) (λ is. is)
plain_front number begun position sort at exported bad size note = tt
plain_front number begun position sort at exported deep size note = tt
plain_front number begun position sort at exported (is_left_out text) size note = tt

field_front : (number : ℕ) (begun : Begun) (position : Position) (sort : Sort) (held : Struct)
    (made : Step) → size_in (within begun position) ≡ None →
    (InAnnotation (within begun position) → ⊥) →
    Changes number (within begun position) sort (front_outcome number begun (of_field held) made)
field_front number begun position sort held (goes (equals_wanted head ty name) frames) size note =
    stays_so (sym size) (λ is. absurd (note is)) (λ is. is)
field_front number begun position sort held (goes (deferred_wanted head name) frames) size note =
    stays_so (sym size) (λ is. absurd (note is)) (λ is. is)
field_front number begun position sort held (goes mode frames) size note =
    stays_so (sym size) (λ is. absurd (note is)) (λ is. is)
field_front number begun position sort held bad size note = tt
field_front number begun position sort held deep size note = tt
field_front number begun position sort held (is_left_out text) size note = tt

parameter_front : (number : ℕ) (begun : Begun) (position : Position) (sort : Sort) (owner : Owner)
    (parameters : List Parameter) (made : Step) →
    size_in (within begun position) ≡ deferred_of (fronted_of_owner owner) →
    (InAnnotation (within begun position) → AnnotationOwner owner) →
    Changes number (within begun position) sort
    (front_outcome number begun (of_parameter owner parameters) made)
parameter_front number begun position sort owner parameters
    (goes (equals_wanted head ty name) frames) size
    note =
    stays_so (sym size) note (λ is. is)
parameter_front number begun position sort (of_annotation named) parameters
    (goes (deferred_wanted head name) frames) size note =
    stays_so (sym size) note (λ is. is)
parameter_front number begun position sort (of_function fronted) parameters
    (goes (deferred_wanted head name) frames) size note =
    by fronted.named fronted.ty fronted.deferred size note
  where
    by : (named : Named) (ty : TypeTree) (first : Option ℕ) →
        size_in (within begun position) ≡ first → (InAnnotation (within begun position) → ⊥) →
        Changes number (within begun position) sort (front_outcome number begun
        (of_parameter (of_function (record { named = named; ty = ty; deferred = first }))
        parameters)
        (goes (deferred_wanted head name) frames))
    by named ty None size note = defers_first size refl (λ is. absurd (note is)) tt
    by named ty (Some earlier) size note = stays_so (sym size) (λ is. absurd (note is)) (λ is. is)
parameter_front number begun position sort owner parameters (goes mode frames) size note =
    stays_so (sym size) note (λ is. is)
parameter_front number begun position sort owner parameters bad size note = tt
parameter_front number begun position sort owner parameters deep size note = tt
parameter_front number begun position sort owner parameters (is_left_out text) size note = tt

pub fronting_changes : (number : ℕ) (begun : Begun) (of : Fronting) (mode : Mode) (sort : Sort)
    (made : Step) →
    Changes number (within begun (fronting of mode)) sort (front_outcome number begun of made)
fronting_changes number begun (of_declaration at exported) mode sort made =
    plain_front number begun (fronting (of_declaration at exported) mode) sort at exported made refl
    (λ is. is)
fronting_changes number begun (of_parameter owner parameters) mode sort made =
    parameter_front number begun (fronting (of_parameter owner parameters) mode) sort owner
    parameters made refl
    (λ is. is)
fronting_changes number begun (of_field held) mode sort made =
    field_front number begun (fronting (of_field held) mode) sort held made refl (λ is. is)

declaration_changes : (number : ℕ) (begun : Begun) (position : Position) (at : ℕ) (exported : Bool)
    (sort : Sort)
    (place : Span) → size_in (within begun position) ≡ None →
    (InAnnotation (within begun position) → ⊥) →
    Changes number (within begun position) sort (declaration_step number begun at exported sort
    place)
declaration_changes number begun position at exported struct_word place size note =
    stays_so (sym size) (λ is. absurd (note is)) (λ is. is)
declaration_changes number begun position at exported enum_word place size note =
    stays_so (sym size) (λ is. absurd (note is)) (λ is. is)
declaration_changes number begun position at exported annotation_word place size note =
    stays_so (sym size) (λ is. absurd (note is)) (λ is. is)
declaration_changes number begun position at exported sort place size note =
    plain_front number begun position sort at exported (type_step (no_frequency place.at) [] sort
    place) size note

pub item_changes : (number : ℕ) (begun : Begun) (early : Bool) (sort : Sort) (place : Span) →
    Changes number (within begun (item_wanted early)) sort (item_step number begun early sort place)
item_changes number begun true import_word place = stays_so refl (λ is. absurd is) (λ is. is)
item_changes number begun true using_word place = stays_so refl (λ is. absurd is) (λ is. is)
item_changes number begun true module_word place = stays_so refl (λ is. absurd is) (λ is. is)
item_changes number begun early export_word place = stays_so refl (λ is. absurd is) (λ is. is)
item_changes number begun early sort place =
    declaration_changes number begun (item_wanted early) place.at false sort place refl (λ is. is)

pub exported_changes : (number : ℕ) (begun : Begun) (at : ℕ) (sort : Sort) (place : Span) →
    Changes number (within begun (exported_read at)) sort (exported_step number begun at sort place)
exported_changes number begun at using_word place = tt
exported_changes number begun at sort place =
    declaration_changes number begun (exported_read at) at true sort place refl (λ is. is)

pub kin_changes : (number : ℕ) (begun : Begun) (at : ℕ) (exported : Bool) (kin : Kin) (sort : Sort)
    (place : Span) → Changes number (within begun (kin_named at exported kin)) sort
    (kin_step begun at exported kin sort place)
kin_changes number begun at exported struct_kin (identifier text) place =
    stays_so refl (λ is. absurd is) (λ is. is)
kin_changes number begun at exported enum_kin (identifier text) place =
    stays_so refl (λ is. absurd is) (λ is. is)
kin_changes number begun at exported annotation_kin (identifier text) place =
    stays_so refl (λ is. tt) (λ is. is)
kin_changes number begun at exported kin sort place = tt

pub annotation_named_changes : (number : ℕ) (begun : Begun) (named : Named) (sort : Sort) →
    Changes number (within begun (annotation_named named)) sort
    (annotation_named_step begun named sort)
annotation_named_changes number begun named opening = stays_so refl (λ is. tt) (λ is. is)
annotation_named_changes number begun named sort = tt

pub declared_changes : (number : ℕ) (begun : Begun) (fronted : Fronted) (sort : Sort) →
    Changes number (within begun (declared fronted)) sort (declared_step begun fronted sort)
declared_changes number begun fronted opening = stays_so refl (λ is. absurd is) (λ is. is)
declared_changes number begun fronted sort = tt

-- Parameters.

star_changes : (number : ℕ) (begun : Begun) (owner : Owner) (sort : Sort) →
    Changes number (within begun (parameters_begun owner)) sort (star_step begun owner)
star_changes number begun (of_function fronted) sort = stays_so refl (λ is. absurd is) (λ is. is)
star_changes number begun (of_annotation named) sort = tt

all_changes : (number : ℕ) (begun : Begun) (position : Position) (owner : Owner)
    (parameters : List Parameter) →
    size_in (within begun position) ≡ deferred_of (fronted_of_owner owner) →
    (InAnnotation (within begun position) → AnnotationOwner owner) →
    Change number (within begun position) (within begun (parameters_state owner parameters))
all_changes number begun position (of_function fronted) parameters size note = stays_so (sym size)
    (λ is. absurd (note is)) (λ is. is)
all_changes number begun position (of_annotation named) parameters size note = stays_so (sym size)
    (λ is. tt)
    (λ is. is)

pub parameters_changes : (number : ℕ) (begun : Begun) (owner : Owner) (sort : Sort) (place : Span) →
    Changes number (within begun (parameters_begun owner)) sort
    (parameters_step number begun owner sort place)
parameters_changes number begun owner closing place =
    all_changes number begun (parameters_begun owner) owner [] refl (λ is. is)
parameters_changes number begun owner (binary_operator op level) place =
    if_changes number (within begun (parameters_begun owner)) (binary_operator op level)
    (is_star op)
    (star_step begun owner) wrong (star_changes number begun owner (binary_operator op level)) tt
parameters_changes number begun owner sort place =
    parameter_front number begun (parameters_begun owner) sort owner [] (head_step [] sort place)
    refl (λ is. is)

pub parameter_next_changes : (number : ℕ) (begun : Begun) (owner : Owner)
    (parameters : List Parameter)
    (sort : Sort) (place : Span) → Changes number (within begun (parameter_next owner parameters))
    sort
    (first_front_step number begun (of_parameter owner parameters) sort place)
parameter_next_changes number begun owner parameters sort place =
    parameter_front number begun (parameter_next owner parameters) sort owner parameters
    (head_step [] sort place)
    refl (λ is. is)

pub parameter_ends_changes : (number : ℕ) (begun : Begun) (position : Position) (owner : Owner)
    (parameters : List Parameter) (sort : Sort) →
    size_in (within begun position) ≡ deferred_of (fronted_of_owner owner) →
    (InAnnotation (within begun position) → AnnotationOwner owner) →
    Changes number (within begun position) sort (parameter_ends begun owner parameters sort)
parameter_ends_changes number begun position owner parameters comma size note =
    stays_so (sym size) note (λ is. is)
parameter_ends_changes number begun position owner parameters closing size note =
    all_changes number begun position owner parameters size note
parameter_ends_changes number begun position owner parameters sort size note = tt

pub parameter_changes : (number : ℕ) (begun : Begun) (owner : Owner) (parameters : List Parameter)
    (front : Front)
    (sort : Sort) → Changes number (within begun (parameter_read owner parameters front)) sort
    (parameter_step begun owner parameters front sort)
parameter_changes number begun owner parameters front equals = stays_so refl (λ is. is) (λ is. is)
parameter_changes number begun owner parameters front opening_bracket = stays_so refl (λ is. is)
    (λ is. is)
parameter_changes number begun owner parameters front sort =
    parameter_ends_changes number begun (parameter_read owner parameters front) owner
    (parameters ++ plain_parameter front None ∷ []) sort refl (λ is. is)

-- Variants, functions and annotations.

pub star_read_changes : (number : ℕ) (begun : Begun) (fronted : Fronted) (sort : Sort) →
    Changes number (within begun (star_read fronted)) sort (star_read_step begun fronted sort)
star_read_changes number begun fronted closing = stays_so refl (λ is. absurd is) (λ is. is)
star_read_changes number begun fronted sort = tt

variant_annotated_changes : (number : ℕ) (begun : Begun) (position : Position) (fronted : Fronted)
    (annotations : Option (List Annotation)) (sort : Sort) →
    size_in (within begun position) ≡ fronted.deferred → (InAnnotation (within begun position) → ⊥)
    →
    Changes number (within begun position) sort (variant_annotated begun fronted annotations sort)
variant_annotated_changes number begun position fronted annotations equals size note =
    stays_so (sym size) (λ is. absurd (note is)) (λ is. is)
variant_annotated_changes number begun position fronted annotations sort size note = tt

pub variant_changes : (number : ℕ) (begun : Begun) (fronted : Fronted) (sort : Sort) →
    Changes number (within begun (variant_read fronted)) sort (variant_step begun fronted sort)
variant_changes number begun fronted opening_bracket = stays_so refl (λ is. absurd is) (λ is. is)
variant_changes number begun fronted sort =
    variant_annotated_changes number begun (variant_read fronted) fronted None sort refl (λ is. is)

pub base_changes : (number : ℕ) (begun : Begun) (fronted : Fronted)
    (annotations : Option (List Annotation))
    (base : Annotation) (sort : Sort) (place : Span) →
    Changes number (within begun (base_read fronted annotations base)) sort
    (base_step begun fronted annotations base sort place)
base_changes number begun fronted annotations base semicolon place =
    ends_there tt (other_added (variant_from fronted annotations base place.end) refl (λ is. is))
base_changes number begun fronted annotations base sort place = tt

function_annotated_changes : (number : ℕ) (begun : Begun) (position : Position) (fronted : Fronted)
    (parameters : List Parameter) (frequency : Option Freq) (annotations : Option (List Annotation))
    (sort : Sort)
    (place : Span) → size_in (within begun position) ≡ fronted.deferred →
    (InAnnotation (within begun position) → ⊥) → IsHead (within begun position) →
    Changes number (within begun position) sort
    (function_annotated begun fronted parameters frequency annotations sort place)
function_annotated_changes number begun position fronted parameters frequency annotations equals
    place size note
    head = stays_so (sym size) (λ is. absurd (note is)) (λ is. is)
function_annotated_changes number begun position fronted parameters frequency annotations semicolon
    place size note
    head = ends_there tt (head_ended head)
function_annotated_changes number begun position fronted parameters frequency annotations
    opening_brace place size
    note head = (head, refl)
function_annotated_changes number begun position fronted parameters frequency annotations sort place
    size note
    head = tt

pub function_changes : (number : ℕ) (begun : Begun) (fronted : Fronted)
    (parameters : List Parameter)
    (frequency : Option Freq) (sort : Sort) (place : Span) →
    Changes number (within begun (function_read fronted parameters frequency)) sort
    (function_step begun fronted parameters frequency sort place)
function_changes number begun fronted parameters None (frequency_word freq) place =
    stays_so refl (λ is. absurd is) (λ is. is)
function_changes number begun fronted parameters frequency opening_bracket place =
    stays_so refl (λ is. absurd is) (λ is. is)
function_changes number begun fronted parameters frequency sort place =
    function_annotated_changes number begun (function_read fronted parameters frequency) fronted
    parameters
    frequency None sort place refl (λ is. is) tt

annotation_annotated_changes : (number : ℕ) (begun : Begun) (position : Position) (named : Named)
    (parameters : List Parameter) (annotations : Option (List Annotation)) (sort : Sort)
    (place : Span) →
    Changes number (within begun position) sort (annotation_annotated begun named parameters
    annotations sort place)
annotation_annotated_changes number begun position named parameters annotations semicolon place =
    ends_there tt (other_added (annotation named.exported named.name parameters annotations
    (place_of_declaration named place.end)) refl (λ is. is))
annotation_annotated_changes number begun position named parameters annotations sort place = tt

pub annotation_declared_changes : (number : ℕ) (begun : Begun) (named : Named)
    (parameters : List Parameter)
    (sort : Sort) (place : Span) → Changes number (within begun
    (annotation_declared named parameters)) sort
    (annotation_declared_step begun named parameters sort place)
annotation_declared_changes number begun named parameters opening_bracket place =
    stays_so refl (λ is. tt) (λ is. is)
annotation_declared_changes number begun named parameters sort place =
    annotation_annotated_changes number begun (annotation_declared named parameters) named
    parameters None sort
    place

-- Structs.

struct_annotated_changes : (number : ℕ) (begun : Begun) (position : Position) (named : Named)
    (annotations : Option (List Annotation)) (sort : Sort) → size_in (within begun position) ≡ None
    →
    (InAnnotation (within begun position) → ⊥) →
    Changes number (within begun position) sort (struct_annotated begun named annotations sort)
struct_annotated_changes number begun position named annotations opening_brace size note =
    stays_so (sym size) (λ is. absurd (note is)) (λ is. is)
struct_annotated_changes number begun position named annotations sort size note = tt

pub struct_named_changes : (number : ℕ) (begun : Begun) (named : Named) (sort : Sort) →
    Changes number (within begun (struct_named named)) sort (struct_named_step begun named sort)
struct_named_changes number begun named opening_bracket = stays_so refl (λ is. absurd is) (λ is. is)
struct_named_changes number begun named sort =
    struct_annotated_changes number begun (struct_named named) named None sort refl (λ is. is)

pub fields_changes : (number : ℕ) (begun : Begun) (held : Struct) (sort : Sort) (place : Span) →
    Changes number (within begun (fields_read held)) sort (fields_step number begun held sort place)
fields_changes number begun held closing_brace place = stays_so refl (λ is. absurd is) (λ is. is)
fields_changes number begun held sort place =
    field_front number begun (fields_read held) sort held (head_step [] sort place) refl (λ is. is)

pub field_ends_changes : (number : ℕ) (begun : Begun) (position : Position) (held : Struct)
    (one : Parameter)
    (sort : Sort) → size_in (within begun position) ≡ None →
    (InAnnotation (within begun position) → ⊥) →
    Changes number (within begun position) sort (field_ends begun held one sort)
field_ends_changes number begun position held one semicolon size note =
    stays_so (sym size) (λ is. absurd (note is)) (λ is. is)
field_ends_changes number begun position held one sort size note = tt

pub field_changes : (number : ℕ) (begun : Begun) (held : Struct) (front : Front) (sort : Sort) →
    Changes number (within begun (field_read held front)) sort (field_step begun held front sort)
field_changes number begun held front equals = stays_so refl (λ is. absurd is) (λ is. is)
field_changes number begun held front opening_bracket = stays_so refl (λ is. absurd is) (λ is. is)
field_changes number begun held front sort =
    field_ends_changes number begun (field_read held front) held (plain_parameter front None) sort
    refl (λ is. is)

pub struct_closed_changes : (number : ℕ) (begun : Begun) (held : Struct) (sort : Sort)
    (place : Span) →
    Changes number (within begun (struct_closed held)) sort
    (struct_closed_step begun held sort place)
struct_closed_changes number begun held semicolon place =
    ends_there tt (other_added (structure held.named.exported held.named.name held.annotations
    held.fields
    (place_of_declaration held.named place.end)) refl (λ is. is))
struct_closed_changes number begun held sort place = tt

-- Enums.

enum_annotated_changes : (number : ℕ) (begun : Begun) (position : Position) (named : Named)
    (annotations : Option (List Annotation)) (sort : Sort) → size_in (within begun position) ≡ None
    →
    (InAnnotation (within begun position) → ⊥) →
    Changes number (within begun position) sort (enum_annotated begun named annotations sort)
enum_annotated_changes number begun position named annotations opening_brace size note =
    stays_so (sym size) (λ is. absurd (note is)) (λ is. is)
enum_annotated_changes number begun position named annotations sort size note = tt

pub enum_named_changes : (number : ℕ) (begun : Begun) (named : Named) (sort : Sort) →
    Changes number (within begun (enum_named named)) sort (enum_named_step begun named sort)
enum_named_changes number begun named opening_bracket = stays_so refl (λ is. absurd is) (λ is. is)
enum_named_changes number begun named sort =
    enum_annotated_changes number begun (enum_named named) named None sort refl (λ is. is)

pub value_wanted_changes : (number : ℕ) (begun : Begun) (held : Enum) (sort : Sort) (place : Span) →
    Changes number (within begun (value_wanted held)) sort (value_wanted_step begun held sort place)
value_wanted_changes number begun held (identifier text) place = stays_so refl (λ is. absurd is)
    (λ is. is)
value_wanted_changes number begun held sort place = tt

value_ends_changes : (number : ℕ) (begun : Begun) (position : Position) (held : Enum)
    (one : EnumValue)
    (sort : Sort) → size_in (within begun position) ≡ None →
    (InAnnotation (within begun position) → ⊥) →
    Changes number (within begun position) sort (value_ends begun held one sort)
value_ends_changes number begun position held one comma size note =
    stays_so (sym size) (λ is. absurd (note is)) (λ is. is)
value_ends_changes number begun position held one closing_brace size note =
    stays_so (sym size) (λ is. absurd (note is)) (λ is. is)
value_ends_changes number begun position held one sort size note = tt

pub value_changes : (number : ℕ) (begun : Begun) (held : Enum) (name : Ident) (sort : Sort) →
    Changes number (within begun (value_read held name)) sort (value_step begun held name sort)
value_changes number begun held name equals = stays_so refl (λ is. absurd is) (λ is. is)
value_changes number begun held name opening_bracket = stays_so refl (λ is. absurd is) (λ is. is)
value_changes number begun held name sort =
    value_ends_changes number begun (value_read held name) held
    (enum_value_from name None None name.span.end) sort
    refl (λ is. is)

pub number_changes : (number : ℕ) (begun : Begun) (held : Enum) (name : Ident) (sort : Sort)
    (place : Span) →
    Changes number (within begun (number_wanted held name)) sort
    (number_step begun held name sort place)
number_changes number begun held name (integer value) place = stays_so refl (λ is. absurd is)
    (λ is. is)
number_changes number begun held name sort place = tt

pub number_read_changes : (number : ℕ) (begun : Begun) (held : Enum) (name : Ident) (value end : ℕ)
    (sort : Sort) → Changes number (within begun (number_read held name value end)) sort
    (number_read_step begun held name value end sort)
number_read_changes number begun held name value end opening_bracket =
    stays_so refl (λ is. absurd is) (λ is. is)
number_read_changes number begun held name value end sort =
    value_ends_changes number begun (number_read held name value end) held
    (enum_value_from name (Some value) None end) sort refl (λ is. is)

pub enum_closed_changes : (number : ℕ) (begun : Begun) (held : Enum) (sort : Sort) (place : Span) →
    Changes number (within begun (enum_closed held)) sort (enum_closed_step begun held sort place)
enum_closed_changes number begun held semicolon place =
    ends_there tt (other_added (enumeration held.named.exported held.named.name held.annotations
    held.values
    (place_of_declaration held.named place.end)) refl (λ is. is))
enum_closed_changes number begun held sort place = tt

-- Annotations.

pub second_bracket_changes : (number : ℕ) (begun : Begun) (holder : Holder) (sort : Sort) →
    Changes number (within begun (annotations_begun holder)) sort (second_bracket begun holder sort)
second_bracket_changes number begun holder opening_bracket = stays_so refl (λ is. is) (λ is. is)
second_bracket_changes number begun holder sort = tt

pub own_changes : (number : ℕ) (begun : Begun) (sort : Sort) →
    Changes number (within begun own_wanted) sort (own_step begun sort)
own_changes number begun opening_bracket = stays_so refl (λ is. absurd is) (λ is. is)
own_changes number begun sort = tt

pub annotation_read_changes : (number : ℕ) (begun : Begun) (holder : Holder)
    (annotations : List Annotation)
    (sort : Sort) → Changes number (within begun (annotation_read holder annotations)) sort
    (annotation_read_step begun holder annotations sort)
annotation_read_changes number begun holder annotations comma = stays_so refl (λ is. is) (λ is. is)
annotation_read_changes number begun holder annotations closing_bracket = stays_so refl (λ is. is)
    (λ is. is)
annotation_read_changes number begun holder annotations sort = tt

pub closing_changes : (number : ℕ) (begun : Begun) (holder : Holder) (annotations : List Annotation)
    (sort : Sort) (place : Span) → Changes number (within begun
    (annotations_closing holder annotations)) sort
    (closing_annotations begun holder annotations sort place)
closing_changes number begun holder annotations closing_bracket place = stays_so refl (λ is. is)
    (λ is. is)
closing_changes number begun holder annotations sort place = tt

own_ends_changes : (number : ℕ) (begun : Begun) (annotations : List Annotation) (end : ℕ)
    (sort : Sort)
    (place : Span) → Changes number (within begun (annotated the_module annotations end)) sort
    (own_ends begun annotations sort place)
own_ends_changes number begun annotations end semicolon place = ends_there tt (none_added refl)
own_ends_changes number begun annotations end sort place = tt

pub annotated_changes : (number : ℕ) (begun : Begun) (holder : Holder)
    (annotations : List Annotation) (end : ℕ)
    (sort : Sort) (place : Span) → Changes number (within begun (annotated holder annotations end))
    sort
    (annotated_step begun holder annotations end sort place)
annotated_changes number begun the_module annotations end sort place =
    own_ends_changes number begun annotations end sort place
annotated_changes number begun (a_parameter owner parameters front default) annotations end sort
    place =
    parameter_ends_changes number begun (annotated (a_parameter owner parameters front default)
    annotations end)
    owner (parameters ++ parameter_from front default (Some annotations) end ∷ []) sort refl
    (λ is. is)
annotated_changes number begun (a_function fronted parameters frequency) annotations end sort
    place =
    function_annotated_changes number begun (annotated (a_function fronted parameters frequency)
    annotations end)
    fronted parameters frequency (Some annotations) sort place refl (λ is. is) tt
annotated_changes number begun (an_annotation named parameters) annotations end sort place =
    annotation_annotated_changes number begun (annotated (an_annotation named parameters)
    annotations end) named
    parameters (Some annotations) sort place
annotated_changes number begun (a_variant fronted) annotations end sort place =
    variant_annotated_changes number begun (annotated (a_variant fronted) annotations end) fronted
    (Some annotations) sort refl (λ is. is)
annotated_changes number begun (a_struct named) annotations end sort place =
    struct_annotated_changes number begun (annotated (a_struct named) annotations end) named
    (Some annotations)
    sort refl (λ is. is)
annotated_changes number begun (a_field held front default) annotations end sort place =
    field_ends_changes number begun (annotated (a_field held front default) annotations end) held
    (parameter_from front default (Some annotations) end) sort refl (λ is. is)
annotated_changes number begun (an_enum named) annotations end sort place =
    enum_annotated_changes number begun (annotated (an_enum named) annotations end) named
    (Some annotations) sort
    refl (λ is. is)
annotated_changes number begun (an_enum_value held name value) annotations end sort place =
    value_ends_changes number begun (annotated (an_enum_value held name value) annotations end) held
    (enum_value_from name value (Some annotations) end) sort refl (λ is. is)

-- Imports.

naming_or_changes : (number : ℕ) (state : State) (sort : Sort) (goes_to : Naming → State)
    (naming : Option Naming) → ((one : Naming) → Change number state (goes_to one)) →
    Changes number state sort (naming_or goes_to naming)
naming_or_changes number state sort goes_to None each = tt
naming_or_changes number state sort goes_to (Some naming) each = each naming

pub import_ends_changes : (number : ℕ) (begun : Begun) (position : Position) (at : ℕ)
    (items : List Qualified)
    (sort : Sort) (place : Span) → size_in (within begun position) ≡ None →
    (InAnnotation (within begun position) → ⊥) →
    Changes number (within begun position) sort (import_ends begun at items sort place)
import_ends_changes number begun position at items comma place size note =
    stays_so (sym size) (λ is. absurd (note is)) (λ is. is)
import_ends_changes number begun position at items semicolon place size note = ends_there tt
    (none_added refl)
import_ends_changes number begun position at items sort place size note = tt

import_item_changes : (number : ℕ) (begun : Begun) (position : Position) (at : ℕ)
    (items : List Qualified)
    (one : Option Qualified) (sort : Sort) (place : Span) → size_in (within begun position) ≡ None →
    (InAnnotation (within begun position) → ⊥) →
    Changes number (within begun position) sort (import_item begun at items one sort place)
import_item_changes number begun position at items None sort place size note = tt
import_item_changes number begun position at items (Some item) sort place size note =
    import_ends_changes number begun position at (items ++ item ∷ []) sort place size note

pub import_changes : (number : ℕ) (begun : Begun) (at : ℕ) (items : List Qualified)
    (naming : Naming)
    (sort : Sort) (place : Span) → Changes number (within begun (importing at items naming)) sort
    (import_step begun at items naming sort place)
import_changes number begun at [] unnamed (other_literal (lit.Str text)) place = tt
import_changes number begun at items (parted lead from parts end) comma place =
    import_item_changes number begun (importing at items (parted lead from parts end)) at items
    (qualified_from lead from parts end) comma place refl (λ is. is)
import_changes number begun at items (parted lead from parts end) semicolon place =
    import_item_changes number begun (importing at items (parted lead from parts end)) at items
    (qualified_from lead from parts end) semicolon place refl (λ is. is)
import_changes number begun at items (open_ended lead from parts end) (binary_operator op level)
    place =
    if_changes number (within begun (importing at items (open_ended lead from parts end)))
    (binary_operator op level) (is_star op)
    (on (within begun (imported at (items ++ all_of lead from parts end place.end ∷ [])))) wrong
    (stays_so refl (λ is. absurd is) (λ is. is)) tt
import_changes number begun at items naming sort place =
    naming_or_changes number (within begun (importing at items naming)) sort
    (λ one. within begun (importing at items one)) (naming_step naming sort place)
    (λ one. stays_so refl (λ is. absurd is) (λ is. is))

pub using_changes : (number : ℕ) (begun : Begun) (at : ℕ) (naming : Naming) (sort : Sort)
    (place : Span) →
    Changes number (within begun (using at naming)) sort (using_step begun at naming sort place)
using_changes number begun at unnamed (other_literal (lit.Str text)) place = tt
using_changes number begun at (parted lead_form.Bare from (part ∷ []) end) equals place = tt
using_changes number begun at (parted lead from parts end) import_word place =
    stays_so refl (λ is. absurd is) (λ is. is)
using_changes number begun at naming sort place =
    naming_or_changes number (within begun (using at naming)) sort
    (λ one. within begun (using at one))
    (naming_step naming sort place) (λ one. stays_so refl (λ is. absurd is) (λ is. is))

pub used_wanted_changes : (number : ℕ) (begun : Begun) (at : ℕ) (name : ModuleRef) (sort : Sort)
    (place : Span) →
    Changes number (within begun (used_wanted at name)) sort
    (used_wanted_step begun at name sort place)
used_wanted_changes number begun at name (identifier text) place = stays_so refl (λ is. absurd is)
    (λ is. is)
used_wanted_changes number begun at name (binary_operator op level) place =
    if_changes number (within begun (used_wanted at name)) (binary_operator op level) (is_star op)
    (on (within begun (used_all at name))) wrong (stays_so refl (λ is. absurd is) (λ is. is)) tt
used_wanted_changes number begun at name (other_literal (lit.Str text)) place = tt
used_wanted_changes number begun at name (other_literal other) place = tt
used_wanted_changes number begun at name sort place = tt

pub used_read_changes : (number : ℕ) (begun : Begun) (at : ℕ) (name : ModuleRef)
    (names : List Ident)
    (sort : Sort) (place : Span) → Changes number (within begun (used_read at name names)) sort
    (used_read_step begun at name names sort place)
used_read_changes number begun at name names comma place = stays_so refl (λ is. absurd is)
    (λ is. is)
used_read_changes number begun at name names semicolon place = ends_there tt (none_added refl)
used_read_changes number begun at name names sort place = tt

pub used_next_changes : (number : ℕ) (begun : Begun) (at : ℕ) (name : ModuleRef)
    (names : List Ident)
    (sort : Sort) (place : Span) → Changes number (within begun (used_next at name names)) sort
    (used_next_step begun at name names sort place)
used_next_changes number begun at name names (identifier text) place =
    stays_so refl (λ is. absurd is) (λ is. is)
used_next_changes number begun at name names sort place = tt

pub used_all_changes : (number : ℕ) (begun : Begun) (at : ℕ) (name : ModuleRef) (sort : Sort)
    (place : Span) →
    Changes number (within begun (used_all at name)) sort (used_all_step begun at name sort place)
used_all_changes number begun at name semicolon place = ends_there tt (none_added refl)
used_all_changes number begun at name sort place = tt

-- Steps of the machine of modules outside of expressions come only to states that can be led on.
use Rattle.std.proofs.Common.{◌≡◌, ℕ, Bool, true, false, List, [], ◌∷◌, ◌++◌, Option, Some}
use Rattle.std.proofs.Common.{None, if◌then◌else◌}
use Rattle.mdl_syntax.specs.declared.names.Span.{Span}
use Rattle.mdl_syntax.specs.declared.names.Ident.{Ident}
use Rattle.mdl_syntax.specs.declared.types.TypeTree.{TypeTree}
use Rattle.mdl_syntax.specs.declared.types.Freq.{Freq}
use Rattle.mdl_syntax.specs.declared.expressions.Lit.TheVariants as lit
use Rattle.mdl_syntax.specs.declared.imports.Lead.TheVariants as lead_form
use Rattle.mdl_syntax.specs.declared.imports.ModuleRef.{ModuleRef}
use Rattle.mdl_syntax.specs.declared.imports.Qualified.{Qualified}
use Rattle.mdl_syntax.specs.Modules.{Annotation, Parameter, EnumValue}
use Rattle.module_grammar.specs.inside.ModuleStates.{is_star, parameter_from, plain_parameter}
use Rattle.module_grammar.specs.inside.ModuleStates.{enum_value_from, qualified_from, naming_step}
use Rattle.module_grammar.specs.inside.ModuleMachine.{naming_or, import_ends, import_item, all_of}
use Rattle.module_grammar.specs.inside.ModuleMachine.{import_step, using_step, used_wanted_step}
use Rattle.module_grammar.specs.inside.ModuleMachine.{used_read_step, used_next_step, used_all_step}
use Rattle.module_grammar.specs.inside.ModuleMachine.{named_state, deferred_state, front_goes}
use Rattle.module_grammar.specs.inside.ModuleMachine.{front_outcome, no_frequency, declaration_step}
use Rattle.module_grammar.specs.inside.ModuleMachine.{item_step, exported_step, kin_state, kin_step}
use Rattle.module_grammar.specs.inside.ModuleMachine.{annotation_named_step, declared_step}
use Rattle.module_grammar.specs.inside.ModuleMachine.{parameters_state, star_step, parameters_step}
use Rattle.module_grammar.specs.inside.ModuleMachine.{parameter_ends, parameter_step, star_read_step}
use Rattle.module_grammar.specs.inside.ModuleMachine.{variant_annotated, variant_step, base_step}
use Rattle.module_grammar.specs.inside.ModuleMachine.{function_annotated, function_step}
use Rattle.module_grammar.specs.inside.ModuleMachine.{annotation_annotated, annotation_declared_step}
use Rattle.module_grammar.specs.inside.ModuleMachine.{struct_annotated, struct_named_step}
use Rattle.module_grammar.specs.inside.ModuleMachine.{fields_step, field_ends, field_step}
use Rattle.module_grammar.specs.inside.ModuleMachine.{struct_closed_step, enum_annotated}
use Rattle.module_grammar.specs.inside.ModuleMachine.{enum_named_step, value_wanted_step, value_ends}
use Rattle.module_grammar.specs.inside.ModuleMachine.{value_step, number_step, number_read_step}
use Rattle.module_grammar.specs.inside.ModuleMachine.{enum_closed_step, second_bracket, own_step}
use Rattle.module_grammar.specs.inside.ModuleMachine.{annotation_read_step, closing_annotations}
use Rattle.module_grammar.specs.inside.ModuleMachine.{own_ends, annotated_step, closes}
use Rattle.module_grammar.specs.inside.ModuleStates.{Naming}
use Rattle.module_grammar.specs.inside.ModuleStates.{Begun, Named, Fronted, Front, Owner, Struct}
use Rattle.module_grammar.specs.inside.ModuleStates.{Enum, Holder, Site, Fronting, Kin, Position}
use Rattle.module_grammar.specs.inside.ModuleStates.{State, Outcome, unnamed, parted, open_ended}
use Rattle.module_grammar.specs.inside.ModuleStates.{of_function, of_annotation, the_module}
use Rattle.module_grammar.specs.inside.ModuleStates.{a_parameter, a_function, an_annotation}
use Rattle.module_grammar.specs.inside.ModuleStates.{a_variant, a_struct, a_field, an_enum}
use Rattle.module_grammar.specs.inside.ModuleStates.{an_enum_value, of_declaration, of_parameter}
use Rattle.module_grammar.specs.inside.ModuleStates.{of_field, struct_kin, enum_kin, annotation_kin}
use Rattle.module_grammar.specs.inside.ModuleStates.{importing, imported, using, used_all, fronting}
use Rattle.module_grammar.specs.inside.ModuleStates.{expression, opened, within, on, wrong}
use Rattle.expression_grammar.specs.inside.Machine.{type_step, head_step, Sort, Head, Frame, Mode, Step}
use Rattle.expression_grammar.specs.inside.Machine.{identifier, integer, other_literal, binary_operator}
use Rattle.expression_grammar.specs.inside.Machine.{opening, closing, opening_bracket, closing_bracket}
use Rattle.expression_grammar.specs.inside.Machine.{opening_brace, closing_brace, comma, semicolon}
use Rattle.expression_grammar.specs.inside.Machine.{equals, frequency_word, import_word, using_word}
use Rattle.expression_grammar.specs.inside.Machine.{module_word, export_word, struct_word, enum_word}
use Rattle.expression_grammar.specs.inside.Machine.{annotation_word, wanted, deferred_wanted}
use Rattle.expression_grammar.specs.inside.Machine.{equals_wanted, goes, bad, deep, is_left_out}
use Rattle.module_grammar.proofs.ModuleViableFronts.{IsUnnamed}
use Rattle.module_grammar.proofs.ModuleViableSites.{IsBodyPlain}

-- Where the machine may come to.

-- an expression begins here, or is in no body before which a size was deferred
abbrev pub Started : Bool → Site → Mode → List Frame → Type 0
Started strict site wanted [] = Unit {0}
Started strict site mode frames = strict ≡ true → IsBodyPlain site

abbrev pub PositionComes : Bool → Position → Type 0
PositionComes strict (fronting of mode) = IsUnnamed mode
PositionComes strict (opened site mode frames bracket) = closes site opening_bracket ≡ true
PositionComes strict (expression site mode frames) = Started strict site mode frames
PositionComes strict position = Unit {0}

abbrev pub StateComes : Bool → State → Type 0
StateComes strict (within begun position) = PositionComes strict position
StateComes strict state = Unit {0}

abbrev pub ComesTo : Bool → Outcome → Type 0
ComesTo strict (on state) = StateComes strict state
ComesTo strict _ = Unit {0}

pub either_comes : (strict test : Bool) (one other : Outcome) → ComesTo strict one →
    ComesTo strict other → ComesTo strict (if test then one else other)
either_comes strict true one other is others = is
either_comes strict false one other is others = others

pub started : (strict : Bool) (site : Site) (mode : Mode) (frames : List Frame) →
    (strict ≡ true → IsBodyPlain site) → Started strict site mode frames
started strict site wanted [] body = tt
started strict site wanted (frame ∷ frames) body = body
started strict site mode frames body = body

-- Imports.

pub import_ends_comes : (strict : Bool) (begun : Begun) (at : ℕ) (items : List Qualified)
    (sort : Sort) (own : Span) → ComesTo strict (import_ends begun at items sort own)
import_ends_comes strict begun at items comma own = tt
import_ends_comes strict begun at items semicolon own = tt
import_ends_comes strict begun at items sort own = tt

pub item_ends_comes : (strict : Bool) (begun : Begun) (at : ℕ) (items : List Qualified)
    (one : Option Qualified) (sort : Sort) (own : Span) →
    ComesTo strict (import_item begun at items one sort own)
item_ends_comes strict begun at items None sort own = tt
item_ends_comes strict begun at items (Some item) sort own =
    import_ends_comes strict begun at (items ++ item ∷ []) sort own

pub importing_comes : (strict : Bool) (begun : Begun) (at : ℕ) (items : List Qualified)
    (naming : Option Naming) →
    ComesTo strict (naming_or (λ one. within begun (importing at items one)) naming)
importing_comes strict begun at items None = tt
importing_comes strict begun at items (Some naming) = tt

pub using_comes : (strict : Bool) (begun : Begun) (at : ℕ) (naming : Option Naming) →
    ComesTo strict (naming_or (λ one. within begun (using at one)) naming)
using_comes strict begun at None = tt
using_comes strict begun at (Some naming) = tt

pub import_step_comes : (strict : Bool) (begun : Begun) (at : ℕ) (items : List Qualified)
    (naming : Naming) (sort : Sort) (own : Span) →
    ComesTo strict (import_step begun at items naming sort own)
import_step_comes strict begun at [] unnamed (other_literal (lit.Str text)) own = tt
import_step_comes strict begun at items (parted lead from parts end) comma own =
    item_ends_comes strict begun at items (qualified_from lead from parts end) comma own
import_step_comes strict begun at items (parted lead from parts end) semicolon own =
    item_ends_comes strict begun at items (qualified_from lead from parts end) semicolon own
import_step_comes strict begun at items (open_ended lead from parts end)
    (binary_operator op level) own =
    either_comes strict (is_star op)
    (on (within begun (imported at (items ++ all_of lead from parts end own.end ∷ [])))) wrong tt tt
import_step_comes strict begun at items naming sort own =
    importing_comes strict begun at items (naming_step naming sort own)

pub using_step_comes : (strict : Bool) (begun : Begun) (at : ℕ) (naming : Naming) (sort : Sort)
    (own : Span) → ComesTo strict (using_step begun at naming sort own)
using_step_comes strict begun at unnamed (other_literal (lit.Str text)) own = tt
using_step_comes strict begun at (parted lead_form.Bare from (part ∷ []) end) equals own = tt
using_step_comes strict begun at (parted lead from parts end) import_word own = tt
using_step_comes strict begun at naming sort own =
    using_comes strict begun at (naming_step naming sort own)

pub used_wanted_comes : (strict : Bool) (begun : Begun) (at : ℕ) (name : ModuleRef) (sort : Sort)
    (own : Span) → ComesTo strict (used_wanted_step begun at name sort own)
used_wanted_comes strict begun at name (identifier text) own = tt
used_wanted_comes strict begun at name (binary_operator op level) own =
    either_comes strict (is_star op) (on (within begun (used_all at name))) wrong tt tt
used_wanted_comes strict begun at name (other_literal (lit.Str text)) own = tt
used_wanted_comes strict begun at name (other_literal other) own = tt
used_wanted_comes strict begun at name sort own = tt

pub used_read_comes : (strict : Bool) (begun : Begun) (at : ℕ) (name : ModuleRef) (names : List
    Ident) (sort : Sort) (own : Span) → ComesTo strict (used_read_step begun at name names sort own)
used_read_comes strict begun at name names comma own = tt
used_read_comes strict begun at name names semicolon own = tt
used_read_comes strict begun at name names sort own = tt

pub used_next_comes : (strict : Bool) (begun : Begun) (at : ℕ) (name : ModuleRef) (names : List
    Ident) (sort : Sort) (own : Span) → ComesTo strict (used_next_step begun at name names sort own)
used_next_comes strict begun at name names (identifier text) own = tt
used_next_comes strict begun at name names sort own = tt

pub used_all_comes : (strict : Bool) (begun : Begun) (at : ℕ) (name : ModuleRef) (sort : Sort)
    (own : Span) → ComesTo strict (used_all_step begun at name sort own)
used_all_comes strict begun at name semicolon own = tt
used_all_comes strict begun at name sort own = tt

-- Fronts.

pub named_comes : (strict : Bool) (begun : Begun) (of : Fronting) (head : Head) (ty : TypeTree)
    (name : Ident) → StateComes strict (named_state begun of head ty name)
named_comes strict begun (of_declaration at exported) head ty name = tt
named_comes strict begun (of_parameter owner parameters) head ty name = tt
named_comes strict begun (of_field held) head ty name = tt

pub deferred_comes : (strict : Bool) (at : ℕ) (begun : Begun) (of : Fronting) (mode : Mode) →
    IsUnnamed mode → ComesTo strict (deferred_state at begun of mode)
deferred_comes strict at begun (of_parameter owner parameters) mode un = un
deferred_comes strict at begun (of_declaration from exported) mode un = un
deferred_comes strict at begun (of_field held) mode un = un

pub front_goes_comes : (strict : Bool) (at : ℕ) (begun : Begun) (of : Fronting) (mode : Mode) →
    ComesTo strict (front_goes at begun of mode)
front_goes_comes strict at begun of (equals_wanted head ty name) =
    named_comes strict begun of head ty name
front_goes_comes strict at begun of (deferred_wanted head name) =
    deferred_comes strict at begun of (deferred_wanted head name) tt
front_goes_comes strict at begun of mode = tt

pub front_comes : (strict : Bool) (at : ℕ) (begun : Begun) (of : Fronting) (made : Step) →
    ComesTo strict (front_outcome at begun of made)
front_comes strict at begun of (goes mode frames) = front_goes_comes strict at begun of mode
front_comes strict at begun of bad = tt
front_comes strict at begun of deep = tt
front_comes strict at begun of (is_left_out text) = tt

-- Declarations.

pub declaration_comes : (strict : Bool) (token : ℕ) (begun : Begun) (at : ℕ) (exported : Bool)
    (sort : Sort) (own : Span) →
    ComesTo strict (declaration_step token begun at exported sort own)
declaration_comes strict token begun at exported struct_word own = tt
declaration_comes strict token begun at exported enum_word own = tt
declaration_comes strict token begun at exported annotation_word own = tt
declaration_comes strict token begun at exported sort own =
    front_comes strict token begun (of_declaration at exported)
    (type_step (no_frequency own.at) [] sort own)

pub item_comes : (strict : Bool) (token : ℕ) (begun : Begun) (early : Bool) (sort : Sort)
    (own : Span) → ComesTo strict (item_step token begun early sort own)
item_comes strict token begun true import_word own = tt
item_comes strict token begun true using_word own = tt
item_comes strict token begun true module_word own = tt
item_comes strict token begun early export_word own = tt
item_comes strict token begun early sort own =
    declaration_comes strict token begun own.at false sort own

pub exported_comes : (strict : Bool) (token : ℕ) (begun : Begun) (at : ℕ) (sort : Sort) (own : Span)
    → ComesTo strict (exported_step token begun at sort own)
exported_comes strict token begun at using_word own = tt
exported_comes strict token begun at sort own =
    declaration_comes strict token begun at true sort own

pub kin_state_comes : (strict : Bool) (named : Named) (kin : Kin) →
    PositionComes strict (kin_state named kin)
kin_state_comes strict named struct_kin = tt
kin_state_comes strict named enum_kin = tt
kin_state_comes strict named annotation_kin = tt

pub kin_comes : (strict : Bool) (begun : Begun) (at : ℕ) (exported : Bool) (kin : Kin) (sort : Sort)
    (own : Span) → ComesTo strict (kin_step begun at exported kin sort own)
kin_comes strict begun at exported kin (identifier text) own = kin_state_comes strict _ kin
kin_comes strict begun at exported kin sort own = tt

pub annotation_named_comes : (strict : Bool) (begun : Begun) (named : Named) (sort : Sort) →
    ComesTo strict (annotation_named_step begun named sort)
annotation_named_comes strict begun named opening = tt
annotation_named_comes strict begun named sort = tt

pub declared_comes : (strict : Bool) (begun : Begun) (fronted : Fronted) (sort : Sort) →
    ComesTo strict (declared_step begun fronted sort)
declared_comes strict begun fronted opening = tt
declared_comes strict begun fronted sort = tt

pub parameters_state_comes : (strict : Bool) (owner : Owner) (parameters : List Parameter) →
    PositionComes strict (parameters_state owner parameters)
parameters_state_comes strict (of_function fronted) parameters = tt
parameters_state_comes strict (of_annotation named) parameters = tt

pub star_comes : (strict : Bool) (begun : Begun) (owner : Owner) →
    ComesTo strict (star_step begun owner)
star_comes strict begun (of_function fronted) = tt
star_comes strict begun (of_annotation named) = tt

pub parameters_comes : (strict : Bool) (token : ℕ) (begun : Begun) (owner : Owner) (sort : Sort)
    (own : Span) → ComesTo strict (parameters_step token begun owner sort own)
parameters_comes strict token begun owner closing own = parameters_state_comes strict owner []
parameters_comes strict token begun owner (binary_operator op level) own =
    either_comes strict (is_star op) (star_step begun owner) wrong (star_comes strict begun owner)
    tt
parameters_comes strict token begun owner sort own =
    front_comes strict token begun (of_parameter owner []) (head_step [] sort own)

pub parameter_ends_comes : (strict : Bool) (begun : Begun) (owner : Owner)
    (parameters : List Parameter) (sort : Sort) →
    ComesTo strict (parameter_ends begun owner parameters sort)
parameter_ends_comes strict begun owner parameters comma = tt
parameter_ends_comes strict begun owner parameters closing =
    parameters_state_comes strict owner parameters
parameter_ends_comes strict begun owner parameters sort = tt

pub parameter_comes : (strict : Bool) (begun : Begun) (owner : Owner) (parameters : List Parameter)
    (front : Front) (sort : Sort) →
    ComesTo strict (parameter_step begun owner parameters front sort)
parameter_comes strict begun owner parameters front equals = tt
parameter_comes strict begun owner parameters front opening_bracket = tt
parameter_comes strict begun owner parameters front sort =
    parameter_ends_comes strict begun owner (parameters ++ plain_parameter front None ∷ []) sort

pub star_read_comes : (strict : Bool) (begun : Begun) (fronted : Fronted) (sort : Sort) →
    ComesTo strict (star_read_step begun fronted sort)
star_read_comes strict begun fronted closing = tt
star_read_comes strict begun fronted sort = tt

pub variant_annotated_comes : (strict : Bool) (begun : Begun) (fronted : Fronted)
    (annotations : Option (List Annotation)) (sort : Sort) →
    ComesTo strict (variant_annotated begun fronted annotations sort)
variant_annotated_comes strict begun fronted annotations equals = tt
variant_annotated_comes strict begun fronted annotations sort = tt

pub variant_comes : (strict : Bool) (begun : Begun) (fronted : Fronted) (sort : Sort) →
    ComesTo strict (variant_step begun fronted sort)
variant_comes strict begun fronted opening_bracket = tt
variant_comes strict begun fronted sort = variant_annotated_comes strict begun fronted None sort

pub base_comes : (strict : Bool) (begun : Begun) (fronted : Fronted)
    (annotations : Option (List Annotation)) (base : Annotation) (sort : Sort) (own : Span) →
    ComesTo strict (base_step begun fronted annotations base sort own)
base_comes strict begun fronted annotations base semicolon own = tt
base_comes strict begun fronted annotations base sort own = tt

pub function_annotated_comes : (strict : Bool) (begun : Begun) (fronted : Fronted)
    (parameters : List Parameter) (frequency : Option Freq) (annotations : Option (List Annotation))
    (sort : Sort) (own : Span) →
    ComesTo strict (function_annotated begun fronted parameters frequency annotations sort own)
function_annotated_comes strict begun fronted parameters frequency annotations equals own = tt
function_annotated_comes strict begun fronted parameters frequency annotations semicolon own = tt
function_annotated_comes strict begun fronted parameters frequency annotations sort own = tt

pub function_comes : (strict : Bool) (begun : Begun) (fronted : Fronted) (parameters : List
    Parameter) (frequency : Option Freq) (sort : Sort) (own : Span) →
    ComesTo strict (function_step begun fronted parameters frequency sort own)
function_comes strict begun fronted parameters None (frequency_word freq) own = tt
function_comes strict begun fronted parameters frequency opening_bracket own = tt
function_comes strict begun fronted parameters frequency sort own =
    function_annotated_comes strict begun fronted parameters frequency None sort own

pub annotation_annotated_comes : (strict : Bool) (begun : Begun) (named : Named)
    (parameters : List Parameter) (annotations : Option (List Annotation)) (sort : Sort)
    (own : Span) → ComesTo strict (annotation_annotated begun named parameters annotations sort own)
annotation_annotated_comes strict begun named parameters annotations semicolon own = tt
annotation_annotated_comes strict begun named parameters annotations sort own = tt

pub annotation_declared_comes : (strict : Bool) (begun : Begun) (named : Named)
    (parameters : List Parameter) (sort : Sort) (own : Span) →
    ComesTo strict (annotation_declared_step begun named parameters sort own)
annotation_declared_comes strict begun named parameters opening_bracket own = tt
annotation_declared_comes strict begun named parameters sort own =
    annotation_annotated_comes strict begun named parameters None sort own

pub struct_annotated_comes : (strict : Bool) (begun : Begun) (named : Named)
    (annotations : Option (List Annotation)) (sort : Sort) →
    ComesTo strict (struct_annotated begun named annotations sort)
struct_annotated_comes strict begun named annotations opening_brace = tt
struct_annotated_comes strict begun named annotations sort = tt

pub struct_named_comes : (strict : Bool) (begun : Begun) (named : Named) (sort : Sort) →
    ComesTo strict (struct_named_step begun named sort)
struct_named_comes strict begun named opening_bracket = tt
struct_named_comes strict begun named sort = struct_annotated_comes strict begun named None sort

pub fields_comes : (strict : Bool) (token : ℕ) (begun : Begun) (held : Struct) (sort : Sort)
    (own : Span) → ComesTo strict (fields_step token begun held sort own)
fields_comes strict token begun held closing_brace own = tt
fields_comes strict token begun held sort own =
    front_comes strict token begun (of_field held) (head_step [] sort own)

pub field_ends_comes : (strict : Bool) (begun : Begun) (held : Struct) (one : Parameter)
    (sort : Sort) → ComesTo strict (field_ends begun held one sort)
field_ends_comes strict begun held one semicolon = tt
field_ends_comes strict begun held one sort = tt

pub field_comes : (strict : Bool) (begun : Begun) (held : Struct) (front : Front) (sort : Sort) →
    ComesTo strict (field_step begun held front sort)
field_comes strict begun held front equals = tt
field_comes strict begun held front opening_bracket = tt
field_comes strict begun held front sort =
    field_ends_comes strict begun held (plain_parameter front None) sort

pub struct_closed_comes : (strict : Bool) (begun : Begun) (held : Struct) (sort : Sort) (own : Span)
    → ComesTo strict (struct_closed_step begun held sort own)
struct_closed_comes strict begun held semicolon own = tt
struct_closed_comes strict begun held sort own = tt

pub enum_annotated_comes : (strict : Bool) (begun : Begun) (named : Named)
    (annotations : Option (List Annotation)) (sort : Sort) →
    ComesTo strict (enum_annotated begun named annotations sort)
enum_annotated_comes strict begun named annotations opening_brace = tt
enum_annotated_comes strict begun named annotations sort = tt

pub enum_named_comes : (strict : Bool) (begun : Begun) (named : Named) (sort : Sort) →
    ComesTo strict (enum_named_step begun named sort)
enum_named_comes strict begun named opening_bracket = tt
enum_named_comes strict begun named sort = enum_annotated_comes strict begun named None sort

pub value_wanted_comes : (strict : Bool) (begun : Begun) (held : Enum) (sort : Sort) (own : Span) →
    ComesTo strict (value_wanted_step begun held sort own)
value_wanted_comes strict begun held (identifier text) own = tt
value_wanted_comes strict begun held sort own = tt

pub value_ends_comes : (strict : Bool) (begun : Begun) (held : Enum) (one : EnumValue) (sort : Sort)
    → ComesTo strict (value_ends begun held one sort)
value_ends_comes strict begun held one comma = tt
value_ends_comes strict begun held one closing_brace = tt
value_ends_comes strict begun held one sort = tt

pub value_comes : (strict : Bool) (begun : Begun) (held : Enum) (name : Ident) (sort : Sort) →
    ComesTo strict (value_step begun held name sort)
value_comes strict begun held name equals = tt
value_comes strict begun held name opening_bracket = tt
value_comes strict begun held name sort =
    value_ends_comes strict begun held (enum_value_from name None None name.span.end) sort

pub number_comes : (strict : Bool) (begun : Begun) (held : Enum) (name : Ident) (sort : Sort)
    (own : Span) → ComesTo strict (number_step begun held name sort own)
number_comes strict begun held name (integer value) own = tt
number_comes strict begun held name sort own = tt

pub number_read_comes : (strict : Bool) (begun : Begun) (held : Enum) (name : Ident) (value end : ℕ)
    (sort : Sort) → ComesTo strict (number_read_step begun held name value end sort)
number_read_comes strict begun held name value end opening_bracket = tt
number_read_comes strict begun held name value end sort =
    value_ends_comes strict begun held (enum_value_from name (Some value) None end) sort

pub enum_closed_comes : (strict : Bool) (begun : Begun) (held : Enum) (sort : Sort) (own : Span) →
    ComesTo strict (enum_closed_step begun held sort own)
enum_closed_comes strict begun held semicolon own = tt
enum_closed_comes strict begun held sort own = tt

-- Annotations.

pub second_bracket_comes : (strict : Bool) (begun : Begun) (holder : Holder) (sort : Sort) →
    ComesTo strict (second_bracket begun holder sort)
second_bracket_comes strict begun holder opening_bracket = tt
second_bracket_comes strict begun holder sort = tt

pub own_comes : (strict : Bool) (begun : Begun) (sort : Sort) → ComesTo strict (own_step begun sort)
own_comes strict begun opening_bracket = tt
own_comes strict begun sort = tt

pub annotation_read_comes : (strict : Bool) (begun : Begun) (holder : Holder)
    (annotations : List Annotation) (sort : Sort) →
    ComesTo strict (annotation_read_step begun holder annotations sort)
annotation_read_comes strict begun holder annotations comma = tt
annotation_read_comes strict begun holder annotations closing_bracket = tt
annotation_read_comes strict begun holder annotations sort = tt

pub closing_comes : (strict : Bool) (begun : Begun) (holder : Holder) (annotations : List
    Annotation) (sort : Sort) (own : Span) →
    ComesTo strict (closing_annotations begun holder annotations sort own)
closing_comes strict begun holder annotations closing_bracket own = tt
closing_comes strict begun holder annotations sort own = tt

pub own_ends_comes : (strict : Bool) (begun : Begun) (annotations : List Annotation) (sort : Sort)
    (own : Span) → ComesTo strict (own_ends begun annotations sort own)
own_ends_comes strict begun annotations semicolon own = tt
own_ends_comes strict begun annotations sort own = tt

pub annotated_comes : (strict : Bool) (begun : Begun) (holder : Holder) (annotations : List
    Annotation) (end : ℕ) (sort : Sort) (own : Span) →
    ComesTo strict (annotated_step begun holder annotations end sort own)
annotated_comes strict begun the_module annotations end sort own =
    own_ends_comes strict begun annotations sort own
annotated_comes strict begun (a_parameter owner parameters front default) annotations end sort own =
    parameter_ends_comes strict begun owner
    (parameters ++ parameter_from front default (Some annotations) end ∷ []) sort
annotated_comes strict begun (a_function fronted parameters frequency) annotations end sort own =
    function_annotated_comes strict begun fronted parameters frequency (Some annotations) sort own
annotated_comes strict begun (an_annotation named parameters) annotations end sort own =
    annotation_annotated_comes strict begun named parameters (Some annotations) sort own
annotated_comes strict begun (a_variant fronted) annotations end sort own =
    variant_annotated_comes strict begun fronted (Some annotations) sort
annotated_comes strict begun (a_struct named) annotations end sort own =
    struct_annotated_comes strict begun named (Some annotations) sort
annotated_comes strict begun (a_field held front default) annotations end sort own =
    field_ends_comes strict begun held (parameter_from front default (Some annotations) end) sort
annotated_comes strict begun (an_enum named) annotations end sort own =
    enum_annotated_comes strict begun named (Some annotations) sort
annotated_comes strict begun (an_enum_value held name number) annotations end sort own =
    value_ends_comes strict begun held (enum_value_from name number (Some annotations) end) sort

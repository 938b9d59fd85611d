-- The reader of modules, as a machine around that of expressions: it takes one token after another.
use Rattle.std.specs.Prelude.{ℕ, suc, Bool, true, false, List, [], ◌∷◌, ◌++◌, Option, Some, None, if◌then◌else◌}
use Rattle.std.specs.Prelude.{codes}
use Rattle.mdl_lexer.specs.declared.token.Token.{Token}
use Rattle.mdl_syntax.specs.declared.names.Span.{Span}
use Rattle.mdl_syntax.specs.declared.names.Ident.{Ident}
use Rattle.mdl_syntax.specs.declared.types.TypeTree.{TypeTree}
use Rattle.mdl_syntax.specs.declared.types.Freq.{Freq}
use Rattle.mdl_syntax.specs.declared.expressions.Lit.TheVariants as lit
use Rattle.mdl_syntax.specs.declared.imports.Lead.{Lead}
use Rattle.mdl_syntax.specs.declared.imports.Lead.TheVariants as lead
use Rattle.mdl_syntax.specs.declared.imports.ModuleRef.{ModuleRef}
use Rattle.mdl_syntax.specs.declared.imports.Qualified.{Qualified}
use Rattle.mdl_syntax.specs.declared.imports.Import.{Import}
use Rattle.mdl_syntax.specs.declared.imports.Import.TheVariants as import_form
use Rattle.mdl_syntax.specs.declared.modules.VersionLit.{VersionLit}
use Rattle.mdl_syntax.specs.Trees.{Tree, call}
use Rattle.mdl_syntax.specs.Modules.{Annotation, Parameter, EnumValue, Declaration, ModuleTree, variant, structure}
use Rattle.mdl_syntax.specs.Modules.{enumeration, annotation}
use Rattle.mdl_syntax.specs.AcceptedModules.{is_version}
use Rattle.expression_grammar.specs.inside.Machine.{Sort, sort_of, Mode, Frame, Head, Step, Finish, from_to, ident_at}
use Rattle.expression_grammar.specs.inside.Machine.{head_step, type_step, mode_step, finish, is_deferred, goes, bad}
use Rattle.expression_grammar.specs.inside.Machine.{deep, is_left_out, finished, ends_badly, ends_deep, identifier}
use Rattle.expression_grammar.specs.inside.Machine.{integer, other_literal, type_word, binary_operator, double_colon}
use Rattle.expression_grammar.specs.inside.Machine.{opening, closing, opening_bracket, closing_bracket, opening_brace}
use Rattle.expression_grammar.specs.inside.Machine.{closing_brace, comma, semicolon, equals, frequency_word, mdl_word}
use Rattle.expression_grammar.specs.inside.Machine.{import_word, using_word, module_word, export_word, struct_word}
use Rattle.expression_grammar.specs.inside.Machine.{enum_word, annotation_word, left_out, wanted, complete}
use Rattle.expression_grammar.specs.inside.Machine.{part_wanted, part_read, word_read, equals_wanted}
use Rattle.module_grammar.specs.inside.ModuleStates.{Begun, Enum, Front, Fronted, Fronting, Holder, Kin, Named}
use Rattle.module_grammar.specs.inside.ModuleStates.{Naming, Outcome, Owner, Position, Site, State, Struct, a_field}
use Rattle.module_grammar.specs.inside.ModuleStates.{a_function, a_parameter, a_struct, a_variant, an_annotation}
use Rattle.module_grammar.specs.inside.ModuleStates.{an_enum, an_enum_value, annotated, annotation_declared}
use Rattle.module_grammar.specs.inside.ModuleStates.{annotation_kin, annotation_named, annotation_read}
use Rattle.module_grammar.specs.inside.ModuleStates.{annotations_begun, annotations_closing, base_read, declared}
use Rattle.module_grammar.specs.inside.ModuleStates.{enum_closed, enum_kin, enum_named, enum_value_from}
use Rattle.module_grammar.specs.inside.ModuleStates.{exported_read, expression, field_read, fields_read}
use Rattle.module_grammar.specs.inside.ModuleStates.{first_annotation, fronting, function_from, function_read}
use Rattle.module_grammar.specs.inside.ModuleStates.{imported, importing, in_annotation, in_base, in_default}
use Rattle.module_grammar.specs.inside.ModuleStates.{in_field_default, in_function_body, is_star, item_wanted}
use Rattle.module_grammar.specs.inside.ModuleStates.{kin_named, leaves_out, mdl_wanted, module_name, naming_step}
use Rattle.module_grammar.specs.inside.ModuleStates.{number_read, number_wanted, of_annotation, of_declaration}
use Rattle.module_grammar.specs.inside.ModuleStates.{of_field, of_function, of_parameter, on, open_ended, opened}
use Rattle.module_grammar.specs.inside.ModuleStates.{other_version, own_wanted, parameter_from, parameter_next}
use Rattle.module_grammar.specs.inside.ModuleStates.{parameter_read, parameters_begun, parted, place_of_declaration}
use Rattle.module_grammar.specs.inside.ModuleStates.{plain_parameter, prototype_from, qualified_from, star_read}
use Rattle.module_grammar.specs.inside.ModuleStates.{statement_body, struct_closed, struct_kin, struct_named}
use Rattle.module_grammar.specs.inside.ModuleStates.{the_module, too_deep, unnamed, used_all, used_next, used_read}
use Rattle.module_grammar.specs.inside.ModuleStates.{used_wanted, using, value_read, value_wanted, variant_read}
use Rattle.module_grammar.specs.inside.ModuleStates.{version_read, version_wanted, waits, with_declaration}
use Rattle.module_grammar.specs.inside.ModuleStates.{with_field, with_import, with_value, within, wrong}

-- Imports.

abbrev pub naming_or : (Naming → State) → Option Naming → Outcome
naming_or goes_to None = wrong
naming_or goes_to (Some naming) = on (goes_to naming)

-- behind a whole name of an import, one more of them, or the end
abbrev pub import_ends : Begun → ℕ → List Qualified → Sort → Span → Outcome
import_ends begun at items comma place = on (within begun (importing at items unnamed))
import_ends begun at items semicolon place =
    on (with_import begun (import_form.Import items (from_to at place.end)) place.end)
import_ends begun at items _ place = wrong

abbrev pub import_item : Begun → ℕ → List Qualified → Option Qualified → Sort → Span → Outcome
import_item begun at items None sort place = wrong
import_item begun at items (Some item) sort place = import_ends begun at (items ++ item ∷ []) sort place

-- `*` behind `::`
abbrev pub all_of : Lead → ℕ → List Ident → ℕ → ℕ → Qualified
all_of lead at parts end star = record {
  «module» = module_name lead at parts end;
  name = None;
  span = from_to at star;
}

abbrev pub import_step : Begun → ℕ → List Qualified → Naming → Sort → Span → Outcome
import_step begun at [] unnamed (other_literal (lit.Str text)) place = leaves_out None (codes "string-name")
import_step begun at items (parted lead from parts end) comma place =
    import_item begun at items (qualified_from lead from parts end) comma place
import_step begun at items (parted lead from parts end) semicolon place =
    import_item begun at items (qualified_from lead from parts end) semicolon place
import_step begun at items (open_ended lead from parts end) (binary_operator op level) place =
    if is_star op then on (within begun (imported at (items ++ all_of lead from parts end place.end ∷ []))) else wrong
import_step begun at items naming sort place =
    naming_or (λ next. within begun (importing at items next)) (naming_step naming sort place)

-- `using` of one name, and `=`, begins an alias
abbrev pub using_step : Begun → ℕ → Naming → Sort → Span → Outcome
using_step begun at unnamed (other_literal (lit.Str text)) place = leaves_out None (codes "string-name")
using_step begun at (parted lead.Bare from (part ∷ []) end) equals place = leaves_out None (codes "alias")
using_step begun at (parted lead from parts end) import_word place =
    on (within begun (used_wanted at (module_name lead from parts end)))
using_step begun at naming sort place =
    naming_or (λ next. within begun (using at next)) (naming_step naming sort place)

abbrev pub used_wanted_step : Begun → ℕ → ModuleRef → Sort → Span → Outcome
used_wanted_step begun at name (identifier text) place =
    on (within begun (used_read at name (ident_at text place ∷ [])))
used_wanted_step begun at name (binary_operator op level) place =
    if is_star op then on (within begun (used_all at name)) else wrong
used_wanted_step begun at name (other_literal (lit.Str text)) place = leaves_out None (codes "string-name")
used_wanted_step begun at name _ place = wrong

abbrev pub used_ends : Begun → ℕ → ModuleRef → Option (List Ident) → Span → Outcome
used_ends begun at name names place =
    on (with_import begun (import_form.Using name names (from_to at place.end)) place.end)

abbrev pub used_read_step : Begun → ℕ → ModuleRef → List Ident → Sort → Span → Outcome
used_read_step begun at name names comma place = on (within begun (used_next at name names))
used_read_step begun at name names semicolon place = used_ends begun at name (Some names) place
used_read_step begun at name names _ place = wrong

abbrev pub used_next_step : Begun → ℕ → ModuleRef → List Ident → Sort → Span → Outcome
used_next_step begun at name names (identifier text) place =
    on (within begun (used_read at name (names ++ ident_at text place ∷ [])))
used_next_step begun at name names _ place = wrong

abbrev pub used_all_step : Begun → ℕ → ModuleRef → Sort → Span → Outcome
used_all_step begun at name semicolon place = used_ends begun at name None place
used_all_step begun at name _ place = wrong

-- Types with a name behind them.

-- what a size that is deferred means here: the place where one stands first is kept for functions
abbrev pub deferred_owner : Owner → ℕ → Owner
deferred_owner (of_function fronted) at = of_function (first_deferred fronted at)
  where
    first_deferred : Fronted → ℕ → Fronted
    first_deferred fronted at = kept fronted fronted.deferred at
      where
        kept : Fronted → Option ℕ → ℕ → Fronted
        kept fronted None at = record fronted { deferred = Some at }
        kept fronted (Some earlier) at = fronted
deferred_owner (of_annotation named) at = of_annotation named

abbrev pub front_from : Head → TypeTree → Ident → Front
front_from head ty name = record { at = head.at; frequency = head.frequency; ty = ty; name = name }

abbrev pub named_state : Begun → Fronting → Head → TypeTree → Ident → State
named_state begun (of_declaration at exported) head ty name =
    within begun (declared (record {
      named = record { at = at; exported = exported; name = name };
      ty = ty;
      deferred = None;
    }))
named_state begun (of_parameter owner parameters) head ty name =
    within begun (parameter_read owner parameters (front_from head ty name))
named_state begun (of_field held) head ty name = within begun (field_read held (front_from head ty name))

abbrev pub deferred_state : ℕ → Begun → Fronting → Mode → Outcome
deferred_state at begun (of_parameter owner parameters) mode =
    on (within begun (fronting (of_parameter (deferred_owner owner at) parameters) mode))
deferred_state at begun other mode = on (within begun (fronting other mode))

abbrev pub front_goes : ℕ → Begun → Fronting → Mode → Outcome
front_goes at begun of (equals_wanted head ty name) = on (named_state begun of head ty name)
front_goes at begun of mode =
    if is_deferred mode then deferred_state at begun of mode else on (within begun (fronting of mode))

-- at this token
abbrev pub front_outcome : ℕ → Begun → Fronting → Step → Outcome
front_outcome at begun of (goes mode frames) = front_goes at begun of mode
front_outcome at begun of bad = wrong
front_outcome at begun of deep = too_deep
front_outcome at begun of (is_left_out text) = leaves_out None text

abbrev pub no_frequency : ℕ → Head
no_frequency at = record { at = at; frequency = None }

-- the first token of a declaration that begins with a type
abbrev pub typed_step : ℕ → Begun → ℕ → Bool → Sort → Span → Outcome
typed_step token begun at exported sort place =
    front_outcome token begun (of_declaration at exported) (type_step (no_frequency place.at) [] sort place)

abbrev pub front_step : ℕ → ℕ → Begun → Fronting → Mode → Sort → Span → Outcome
front_step limit token begun of mode sort place =
    front_outcome token begun of (mode_step limit mode [] sort place)

-- the first token of a parameter or field
abbrev pub first_front_step : ℕ → Begun → Fronting → Sort → Span → Outcome
first_front_step token begun of sort place = front_outcome token begun of (head_step [] sort place)

-- Declarations.

abbrev pub declaration_step : ℕ → Begun → ℕ → Bool → Sort → Span → Outcome
declaration_step token begun at exported struct_word place = on (within begun (kin_named at exported struct_kin))
declaration_step token begun at exported enum_word place = on (within begun (kin_named at exported enum_kin))
declaration_step token begun at exported annotation_word place =
    on (within begun (kin_named at exported annotation_kin))
declaration_step token begun at exported sort place = typed_step token begun at exported sort place

abbrev pub item_step : ℕ → Begun → Bool → Sort → Span → Outcome
item_step token begun true import_word place = on (within begun (importing place.at [] unnamed))
item_step token begun true using_word place = on (within begun (using place.at unnamed))
item_step token begun true module_word place = on (within begun own_wanted)
item_step token begun early export_word place = on (within begun (exported_read place.at))
item_step token begun early sort place = declaration_step token begun place.at false sort place

abbrev pub exported_step : ℕ → Begun → ℕ → Sort → Span → Outcome
exported_step token begun at using_word place = leaves_out None (codes "re-export")
exported_step token begun at sort place = declaration_step token begun at true sort place

abbrev pub kin_state : Named → Kin → Position
kin_state named struct_kin = struct_named named
kin_state named enum_kin = enum_named named
kin_state named annotation_kin = annotation_named named

abbrev pub kin_step : Begun → ℕ → Bool → Kin → Sort → Span → Outcome
kin_step begun at exported kin (identifier text) place =
    on (within begun (kin_state (record { at = at; exported = exported; name = ident_at text place }) kin))
kin_step begun at exported kin _ place = wrong

abbrev pub annotation_named_step : Begun → Named → Sort → Outcome
annotation_named_step begun named opening = on (within begun (parameters_begun (of_annotation named)))
annotation_named_step begun named _ = wrong

abbrev pub declared_step : Begun → Fronted → Sort → Outcome
declared_step begun fronted opening = on (within begun (parameters_begun (of_function fronted)))
declared_step begun fronted _ = wrong

-- all parameters
abbrev pub parameters_state : Owner → List Parameter → Position
parameters_state (of_function fronted) parameters = function_read fronted parameters None
parameters_state (of_annotation named) parameters = annotation_declared named parameters

abbrev pub star_step : Begun → Owner → Outcome
star_step begun (of_function fronted) = on (within begun (star_read fronted))
star_step begun (of_annotation named) = wrong

abbrev pub parameters_step : ℕ → Begun → Owner → Sort → Span → Outcome
parameters_step token begun owner closing place = on (within begun (parameters_state owner []))
parameters_step token begun owner (binary_operator op level) place =
    if is_star op then star_step begun owner else wrong
parameters_step token begun owner sort place =
    first_front_step token begun (of_parameter owner []) sort place

-- behind a whole parameter
abbrev pub parameter_ends : Begun → Owner → List Parameter → Sort → Outcome
parameter_ends begun owner parameters comma = on (within begun (parameter_next owner parameters))
parameter_ends begun owner parameters closing = on (within begun (parameters_state owner parameters))
parameter_ends begun owner parameters _ = wrong

abbrev pub parameter_step : Begun → Owner → List Parameter → Front → Sort → Outcome
parameter_step begun owner parameters front equals =
    on (within begun (expression (in_default owner parameters front) wanted []))
parameter_step begun owner parameters front opening_bracket =
    on (within begun (annotations_begun (a_parameter owner parameters front None)))
parameter_step begun owner parameters front sort =
    parameter_ends begun owner (parameters ++ plain_parameter front None ∷ []) sort

abbrev pub star_read_step : Begun → Fronted → Sort → Outcome
star_read_step begun fronted closing = on (within begun (variant_read fronted))
star_read_step begun fronted _ = wrong

abbrev pub variant_annotated : Begun → Fronted → Option (List Annotation) → Sort → Outcome
variant_annotated begun fronted annotations equals =
    on (within begun (expression (in_base fronted annotations) wanted []))
variant_annotated begun fronted annotations _ = wrong

abbrev pub variant_step : Begun → Fronted → Sort → Outcome
variant_step begun fronted opening_bracket = on (within begun (annotations_begun (a_variant fronted)))
variant_step begun fronted sort = variant_annotated begun fronted None sort

abbrev pub variant_from : Fronted → Option (List Annotation) → Annotation → ℕ → Declaration
variant_from fronted annotations base end =
    variant fronted.named.exported fronted.ty fronted.named.name annotations base.name base.arguments
    (place_of_declaration fronted.named end)

abbrev pub base_step : Begun → Fronted → Option (List Annotation) → Annotation → Sort → Span → Outcome
base_step begun fronted annotations base semicolon place =
    on (with_declaration begun (variant_from fronted annotations base place.end) place.end)
base_step begun fronted annotations base _ place = wrong

abbrev pub function_annotated : Begun → Fronted → List Parameter → Option Freq → Option (List Annotation) → Sort →
    Span →
    Outcome
function_annotated begun fronted parameters frequency annotations equals place =
    on (within begun (expression (in_function_body fronted parameters frequency annotations) wanted []))
function_annotated begun fronted parameters frequency annotations semicolon place =
    on (with_declaration begun (prototype_from fronted parameters frequency annotations place.end) place.end)
function_annotated begun fronted parameters frequency annotations opening_brace place = statement_body
function_annotated begun fronted parameters frequency annotations _ place = wrong

abbrev pub function_step : Begun → Fronted → List Parameter → Option Freq → Sort → Span → Outcome
function_step begun fronted parameters None (frequency_word frequency) place =
    on (within begun (function_read fronted parameters (Some frequency)))
function_step begun fronted parameters frequency opening_bracket place =
    on (within begun (annotations_begun (a_function fronted parameters frequency)))
function_step begun fronted parameters frequency sort place =
    function_annotated begun fronted parameters frequency None sort place

abbrev pub annotation_annotated : Begun → Named → List Parameter → Option (List Annotation) → Sort → Span → Outcome
annotation_annotated begun named parameters annotations semicolon place =
    on (with_declaration begun (annotation named.exported named.name parameters annotations
    (place_of_declaration named place.end)) place.end)
annotation_annotated begun named parameters annotations _ place = wrong

abbrev pub annotation_declared_step : Begun → Named → List Parameter → Sort → Span → Outcome
annotation_declared_step begun named parameters opening_bracket place =
    on (within begun (annotations_begun (an_annotation named parameters)))
annotation_declared_step begun named parameters sort place =
    annotation_annotated begun named parameters None sort place

abbrev pub struct_from : Named → Option (List Annotation) → Struct
struct_from named annotations = record { named = named; annotations = annotations; fields = [] }

abbrev pub struct_annotated : Begun → Named → Option (List Annotation) → Sort → Outcome
struct_annotated begun named annotations opening_brace =
    on (within begun (fields_read (struct_from named annotations)))
struct_annotated begun named annotations _ = wrong

abbrev pub struct_named_step : Begun → Named → Sort → Outcome
struct_named_step begun named opening_bracket = on (within begun (annotations_begun (a_struct named)))
struct_named_step begun named sort = struct_annotated begun named None sort

abbrev pub fields_step : ℕ → Begun → Struct → Sort → Span → Outcome
fields_step token begun held closing_brace place = on (within begun (struct_closed held))
fields_step token begun held sort place = first_front_step token begun (of_field held) sort place

abbrev pub field_ends : Begun → Struct → Parameter → Sort → Outcome
field_ends begun held one semicolon = on (within begun (fields_read (with_field held one)))
field_ends begun held one _ = wrong

abbrev pub field_step : Begun → Struct → Front → Sort → Outcome
field_step begun held front equals = on (within begun (expression (in_field_default held front) wanted []))
field_step begun held front opening_bracket = on (within begun (annotations_begun (a_field held front None)))
field_step begun held front sort = field_ends begun held (plain_parameter front None) sort

abbrev pub struct_closed_step : Begun → Struct → Sort → Span → Outcome
struct_closed_step begun held semicolon place =
    on (with_declaration begun (structure held.named.exported held.named.name held.annotations held.fields
    (place_of_declaration held.named place.end)) place.end)
struct_closed_step begun held _ place = wrong

abbrev pub enum_from : Named → Option (List Annotation) → Enum
enum_from named annotations = record { named = named; annotations = annotations; values = [] }

abbrev pub enum_annotated : Begun → Named → Option (List Annotation) → Sort → Outcome
enum_annotated begun named annotations opening_brace = on (within begun (value_wanted (enum_from named annotations)))
enum_annotated begun named annotations _ = wrong

abbrev pub enum_named_step : Begun → Named → Sort → Outcome
enum_named_step begun named opening_bracket = on (within begun (annotations_begun (an_enum named)))
enum_named_step begun named sort = enum_annotated begun named None sort

abbrev pub value_wanted_step : Begun → Enum → Sort → Span → Outcome
value_wanted_step begun held (identifier text) place = on (within begun (value_read held (ident_at text place)))
value_wanted_step begun held _ place = wrong

abbrev pub value_ends : Begun → Enum → EnumValue → Sort → Outcome
value_ends begun held one comma = on (within begun (value_wanted (with_value held one)))
value_ends begun held one closing_brace = on (within begun (enum_closed (with_value held one)))
value_ends begun held one _ = wrong

abbrev pub value_step : Begun → Enum → Ident → Sort → Outcome
value_step begun held name equals = on (within begun (number_wanted held name))
value_step begun held name opening_bracket = on (within begun (annotations_begun (an_enum_value held name None)))
value_step begun held name sort = value_ends begun held (enum_value_from name None None name.span.end) sort

abbrev pub number_step : Begun → Enum → Ident → Sort → Span → Outcome
number_step begun held name (integer value) place = on (within begun (number_read held name value place.end))
number_step begun held name _ place = wrong

abbrev pub number_read_step : Begun → Enum → Ident → ℕ → ℕ → Sort → Outcome
number_read_step begun held name value end opening_bracket =
    on (within begun (annotations_begun (an_enum_value held name (Some value))))
number_read_step begun held name value end sort =
    value_ends begun held (enum_value_from name (Some value) None end) sort

abbrev pub enum_closed_step : Begun → Enum → Sort → Span → Outcome
enum_closed_step begun held semicolon place =
    on (with_declaration begun (enumeration held.named.exported held.named.name held.annotations held.values
    (place_of_declaration held.named place.end)) place.end)
enum_closed_step begun held _ place = wrong

-- Annotations.

abbrev pub second_bracket : Begun → Holder → Sort → Outcome
second_bracket begun holder opening_bracket = on (within begun (first_annotation holder))
second_bracket begun holder _ = wrong

abbrev pub own_step : Begun → Sort → Outcome
own_step begun opening_bracket = on (within begun (annotations_begun the_module))
own_step begun _ = wrong

abbrev pub annotation_read_step : Begun → Holder → List Annotation → Sort → Outcome
annotation_read_step begun holder annotations comma =
    on (within begun (expression (in_annotation holder annotations) wanted []))
annotation_read_step begun holder annotations closing_bracket =
    on (within begun (annotations_closing holder annotations))
annotation_read_step begun holder annotations _ = wrong

abbrev pub closing_annotations : Begun → Holder → List Annotation → Sort → Span → Outcome
closing_annotations begun holder annotations closing_bracket place =
    on (within begun (annotated holder annotations place.end))
closing_annotations begun holder annotations _ place = wrong

abbrev pub own_ends : Begun → List Annotation → Sort → Span → Outcome
own_ends begun annotations semicolon place =
    on (within (record begun { annotations = Some annotations; end = place.end }) (item_wanted false))
own_ends begun annotations _ place = wrong

-- behind `]]`, which ends here
abbrev pub annotated_step : Begun → Holder → List Annotation → ℕ → Sort → Span → Outcome
annotated_step begun the_module annotations end sort place = own_ends begun annotations sort place
annotated_step begun (a_parameter owner parameters front default) annotations end sort place =
    parameter_ends begun owner (parameters ++ parameter_from front default (Some annotations) end ∷ []) sort
annotated_step begun (a_function fronted parameters frequency) annotations end sort place =
    function_annotated begun fronted parameters frequency (Some annotations) sort place
annotated_step begun (an_annotation named parameters) annotations end sort place =
    annotation_annotated begun named parameters (Some annotations) sort place
annotated_step begun (a_variant fronted) annotations end sort place =
    variant_annotated begun fronted (Some annotations) sort
annotated_step begun (a_struct named) annotations end sort place =
    struct_annotated begun named (Some annotations) sort
annotated_step begun (a_field held front default) annotations end sort place =
    field_ends begun held (parameter_from front default (Some annotations) end) sort
annotated_step begun (an_enum named) annotations end sort place = enum_annotated begun named (Some annotations) sort
annotated_step begun (an_enum_value held name number) annotations end sort place =
    value_ends begun held (enum_value_from name number (Some annotations) end) sort

-- Expressions.

-- calls of annotations and bases are no expressions: what they hold may be as high as one
abbrev pub room_of : ℕ → Site → ℕ
room_of limit (in_annotation holder annotations) = suc limit
room_of limit (in_base fronted annotations) = suc limit
room_of limit site = limit

abbrev pub is_call_site : Site → Bool
is_call_site (in_annotation holder annotations) = true
is_call_site (in_base fronted annotations) = true
is_call_site _ = false

-- whether a token may stand in the name of a call, or begin its arguments
abbrev pub may_name : Mode → Sort → Bool
may_name wanted (identifier text) = true
may_name wanted (type_word number) = true
may_name wanted double_colon = true
may_name (part_wanted purpose path) sort = true
may_name (part_read purpose path) double_colon = true
may_name (part_read purpose path) opening = true
may_name (word_read purpose name) opening = true
may_name _ sort = false

-- behind the whole call
abbrev pub call_read : Begun → Site → Annotation → Position
call_read begun (in_annotation holder annotations) one = annotation_read holder (annotations ++ one ∷ [])
call_read begun (in_base fronted annotations) one = base_read fronted annotations one
call_read begun site one = item_wanted false

abbrev pub whole_call : Begun → Site → Tree → Position
whole_call begun site (call name arguments span) =
    call_read begun site (record { name = name; arguments = arguments; span = span })
whole_call begun site other = expression site (complete other) []

abbrev pub call_goes : Begun → Site → Mode → List Frame → State
call_goes begun site (complete tree) [] = within begun (whole_call begun site tree)
call_goes begun site mode frames = within begun (expression site mode frames)

abbrev pub call_outcome : Begun → Site → Step → Outcome
call_outcome begun site (goes mode frames) =
    on (call_goes begun site mode frames)
call_outcome begun site bad = wrong
call_outcome begun site deep = too_deep
call_outcome begun site (is_left_out text) = leaves_out None text

abbrev pub expression_outcome : Begun → Site → Step → Outcome
expression_outcome begun site (goes mode frames) =
    on (within begun (expression site mode frames))
expression_outcome begun site bad = wrong
expression_outcome begun site deep = too_deep
expression_outcome begun site (is_left_out text) = leaves_out None text

abbrev pub call_step : ℕ → Begun → Site → Mode → List Frame → Sort → Span → Outcome
call_step limit begun site mode [] sort place =
    if may_name mode sort then call_outcome begun site (mode_step (suc limit) mode [] sort place) else wrong
call_step limit begun site mode frames sort place =
    call_outcome begun site (mode_step (suc limit) mode frames sort place)

-- what may stand behind a whole expression
abbrev pub closes : Site → Sort → Bool
closes (in_function_body fronted parameters frequency annotations) semicolon = true
closes (in_default owner parameters front) comma = true
closes (in_default owner parameters front) closing = true
closes (in_default owner parameters front) opening_bracket = true
closes (in_field_default held front) semicolon = true
closes (in_field_default held front) opening_bracket = true
closes _ sort = false

-- behind the whole expression, with a token that closes it
abbrev pub closed_by : Begun → Site → Tree → Sort → Span → Outcome
closed_by begun (in_function_body fronted parameters frequency annotations) tree sort place =
    on (with_declaration begun (function_from fronted parameters frequency annotations tree place.end) place.end)
closed_by begun (in_default owner parameters front) tree sort place =
    parameter_ends begun owner (parameters ++ plain_parameter front (Some tree) ∷ []) sort
closed_by begun (in_field_default held front) tree sort place =
    field_ends begun held (plain_parameter front (Some tree)) sort
closed_by begun site tree sort place = wrong

abbrev pub is_bracket : Sort → Bool
is_bracket opening_bracket = true
is_bracket _ = false

-- `[` waits for the next token
abbrev pub closing_outcome : Begun → Site → Mode → List Frame → Tree → Sort → Span → Outcome
closing_outcome begun site mode frames tree sort place =
    if is_bracket sort then on (within begun (opened site mode frames place))
    else closed_by begun site tree sort place

abbrev pub by_finish : ℕ → Begun → Site → Mode → List Frame → Sort → Span → Finish → Outcome
by_finish limit begun site mode frames sort place (finished tree) =
    closing_outcome begun site mode frames tree sort place
by_finish limit begun site mode frames sort place ends_deep = too_deep
by_finish limit begun site mode frames sort place ends_badly =
    expression_outcome begun site (mode_step limit mode frames sort place)

abbrev pub value_step_of : ℕ → Begun → Site → Mode → List Frame → Sort → Span → Outcome
value_step_of limit begun site mode frames sort place =
    if closes site sort then by_finish limit begun site mode frames sort place (finish limit mode frames)
    else expression_outcome begun site (mode_step limit mode frames sort place)

abbrev pub expression_step : ℕ → Begun → Site → Mode → List Frame → Sort → Span → Outcome
expression_step limit begun site mode frames sort place =
    if is_call_site site then call_step limit begun site mode frames sort place
    else value_step_of limit begun site mode frames sort place

-- what holds the annotations behind the whole expression
abbrev pub holder_of : Site → Tree → Holder
holder_of (in_default owner parameters front) tree = a_parameter owner parameters front (Some tree)
holder_of (in_field_default held front) tree = a_field held front (Some tree)
holder_of site tree = the_module

abbrev pub annotations_behind : Begun → Site → Finish → Outcome
annotations_behind begun site (finished tree) = on (within begun (first_annotation (holder_of site tree)))
annotations_behind begun site ends_badly = wrong
annotations_behind begun site ends_deep = too_deep

-- a token behind `[`, where there is no room for an index: deep where an index may begin so
abbrev pub unless_wrong : Outcome → Outcome
unless_wrong wrong = wrong
unless_wrong other = too_deep

abbrev pub index_outcome : ℕ → Begun → Site → Sort → Span → Step → Outcome
index_outcome limit begun site sort place (goes mode below) =
    expression_outcome begun site (mode_step limit mode below sort place)
index_outcome limit begun site sort place bad = wrong
index_outcome limit begun site sort place deep =
    unless_wrong (expression_outcome begun site (mode_step limit wanted [] sort place))
index_outcome limit begun site sort place (is_left_out text) = leaves_out None text

abbrev pub opened_step : ℕ → Begun → Site → Mode → List Frame → Span → Sort → Span → Outcome
opened_step limit begun site mode frames bracket sort place =
    if is_bracket sort then annotations_behind begun site (finish limit mode frames)
    else index_outcome limit begun site sort place (mode_step limit mode frames opening_bracket bracket)

abbrev pub first_annotation_step : ℕ → Begun → Holder → Sort → Span → Outcome
first_annotation_step limit begun holder closing_bracket place = on (within begun (annotations_closing holder []))
first_annotation_step limit begun holder sort place =
    call_step limit begun (in_annotation holder []) wanted [] sort place

-- All positions.

abbrev pub position_step : ℕ → ℕ → Begun → Position → Sort → Span → Outcome
position_step limit token begun (item_wanted early) sort place = item_step token begun early sort place
position_step limit token begun (importing at items naming) sort place = import_step begun at items naming sort place
position_step limit token begun (imported at items) sort place = import_ends begun at items sort place
position_step limit token begun (using at naming) sort place = using_step begun at naming sort place
position_step limit token begun (used_wanted at name) sort place = used_wanted_step begun at name sort place
position_step limit token begun (used_read at name names) sort place = used_read_step begun at name names sort place
position_step limit token begun (used_next at name names) sort place = used_next_step begun at name names sort place
position_step limit token begun (used_all at name) sort place = used_all_step begun at name sort place
position_step limit token begun own_wanted sort place = own_step begun sort
position_step limit token begun (annotations_begun holder) sort place = second_bracket begun holder sort
position_step limit token begun (first_annotation holder) sort place =
    first_annotation_step limit begun holder sort place
position_step limit token begun (annotation_read holder annotations) sort place =
    annotation_read_step begun holder annotations sort
position_step limit token begun (annotations_closing holder annotations) sort place =
    closing_annotations begun holder annotations sort place
position_step limit token begun (annotated holder annotations end) sort place =
    annotated_step begun holder annotations end sort place
position_step limit token begun (exported_read at) sort place = exported_step token begun at sort place
position_step limit token begun (kin_named at exported kin) sort place = kin_step begun at exported kin sort place
position_step limit token begun (annotation_named named) sort place = annotation_named_step begun named sort
position_step limit token begun (fronting of mode) sort place = front_step limit token begun of mode sort place
position_step limit token begun (declared fronted) sort place = declared_step begun fronted sort
position_step limit token begun (parameters_begun owner) sort place = parameters_step token begun owner sort place
position_step limit token begun (star_read fronted) sort place = star_read_step begun fronted sort
position_step limit token begun (variant_read fronted) sort place = variant_step begun fronted sort
position_step limit token begun (base_read fronted annotations tree) sort place =
    base_step begun fronted annotations tree sort place
position_step limit token begun (parameter_read owner parameters front) sort place =
    parameter_step begun owner parameters front sort
position_step limit token begun (parameter_next owner parameters) sort place =
    first_front_step token begun (of_parameter owner parameters) sort place
position_step limit token begun (function_read fronted parameters frequency) sort place =
    function_step begun fronted parameters frequency sort place
position_step limit token begun (annotation_declared named parameters) sort place =
    annotation_declared_step begun named parameters sort place
position_step limit token begun (struct_named named) sort place = struct_named_step begun named sort
position_step limit token begun (fields_read held) sort place = fields_step token begun held sort place
position_step limit token begun (field_read held front) sort place = field_step begun held front sort
position_step limit token begun (enum_named named) sort place = enum_named_step begun named sort
position_step limit token begun (value_wanted held) sort place = value_wanted_step begun held sort place
position_step limit token begun (value_read held name) sort place = value_step begun held name sort
position_step limit token begun (number_wanted held name) sort place = number_step begun held name sort place
position_step limit token begun (number_read held name value end) sort place =
    number_read_step begun held name value end sort
position_step limit token begun (struct_closed held) sort place = struct_closed_step begun held sort place
position_step limit token begun (enum_closed held) sort place = enum_closed_step begun held sort place
position_step limit token begun (expression site mode frames) sort place =
    expression_step limit begun site mode frames sort place
position_step limit token begun (opened site mode frames bracket) sort place =
    opened_step limit begun site mode frames bracket sort place

abbrev pub version_step : ℕ → Sort → Span → Outcome
version_step at (other_literal (lit.Real text double)) place =
    on (version_read at (record { text = text; double = double; span = place }))
version_step at _ place = wrong

abbrev pub version_ends : ℕ → VersionLit → Sort → Span → Outcome
version_ends at version semicolon place =
    on (within (record {
      at = at;
      end = place.end;
      version = version;
      imports = [];
      annotations = None;
      declarations = [];
    }) (item_wanted true))
version_ends at version _ place = wrong

abbrev pub state_step : ℕ → ℕ → State → Sort → Span → Outcome
state_step limit token mdl_wanted mdl_word place = on (version_wanted place.at)
state_step limit token mdl_wanted _ place = wrong
state_step limit token (version_wanted at) sort place = version_step at sort place
state_step limit token (version_read at version) sort place = version_ends at version sort place
state_step limit token (within begun position) sort place = position_step limit token begun position sort place

abbrev pub module_sort_step : ℕ → ℕ → State → Sort → Span → Outcome
module_sort_step limit token state (left_out text) place = leaves_out None text
module_sort_step limit token state sort place = state_step limit token state sort place

abbrev pub module_step : ℕ → ℕ → State → Token → Outcome
module_step limit number state token =
    module_sort_step limit number state (sort_of token.kind) (from_to token.at token.end)

-- What the grammar has and the profile leaves out: other versions, and sizes that are deferred, save in the parameters
-- of a function until its body begins, and in those of an annotation.

-- what the last token means for sizes that are deferred
pub data Verdict : Type 0 where
  -- none is left out
  passes : Verdict
  -- one is at this token, at an earlier one, or here unless an earlier one of the same head is
  refused_here : Verdict
  refused_before : ℕ → Verdict
  undecided : Verdict

abbrev pub before_body : Option ℕ → Verdict
before_body None = passes
before_body (Some at) = refused_before at

abbrev pub behind_parameter : Option ℕ → Verdict
behind_parameter None = refused_here
behind_parameter (Some earlier) = undecided

abbrev pub if_deferred : Mode → Verdict → Verdict
if_deferred mode verdict = if is_deferred mode then verdict else passes

-- the first size of a parameter that is deferred in the head of the function around
abbrev pub deferred_of_owner : Owner → Option ℕ
deferred_of_owner (of_function fronted) = fronted.deferred
deferred_of_owner (of_annotation named) = None

abbrev pub deferred_of_holder : Holder → Option ℕ
deferred_of_holder (a_parameter owner parameters front default) = deferred_of_owner owner
deferred_of_holder (a_function fronted parameters frequency) = fronted.deferred
deferred_of_holder _ = None

abbrev pub deferred_of_site : Site → Option ℕ
deferred_of_site (in_default owner parameters front) = deferred_of_owner owner
deferred_of_site (in_annotation holder annotations) = deferred_of_holder holder
deferred_of_site _ = None

abbrev pub verdict_in : Position → Verdict
verdict_in (fronting (of_parameter owner parameters) mode) = passes
verdict_in (fronting of mode) = if_deferred mode refused_here
verdict_in (expression (in_function_body fronted parameters frequency annotations) wanted []) =
    before_body fronted.deferred
verdict_in (expression site mode frames) = if_deferred mode (behind_parameter (deferred_of_site site))
verdict_in _ = passes

abbrev pub judged : State → Verdict → Outcome
judged state passes = on state
judged state refused_here = leaves_out None (codes "deferred-size")
judged state (refused_before at) = leaves_out (Some at) (codes "deferred-size")
judged state undecided = waits state

abbrev pub permitted_state : State → Outcome
permitted_state (version_read at version) =
    if is_version version.text version.double then on (version_read at version) else other_version
permitted_state (within begun position) = judged (within begun position) (verdict_in position)
permitted_state state = on state

abbrev pub permitted : Bool → Outcome → Outcome
permitted true (on state) = permitted_state state
permitted strict other = other

-- what comes of the token of this number
abbrev pub module_taken : Bool → ℕ → ℕ → State → Token → Outcome
module_taken strict limit number state token = permitted strict (module_step limit number state token)

-- The whole run: the module, or the first fault, at a token. With BadSyntax goes the end of the last whole declaration.

pub data ModuleRun : Type 0 where
  module_read : ModuleTree → ModuleRun
  module_bad : ℕ → ℕ → ModuleRun
  module_deep : ℕ → ModuleRun
  module_left_out : ℕ → List ℕ → ModuleRun
  module_statement : ℕ → ModuleRun
  module_version : ℕ → ModuleRun

abbrev pub module_end : ℕ → ℕ → State → ModuleRun
module_end whole at (within begun (item_wanted early)) =
    module_read (record {
      version = begun.version;
      imports = begun.imports;
      annotations = begun.annotations;
      declarations = begun.declarations;
      span = from_to begun.at begun.end;
    })
module_end whole at state = module_bad whole at

abbrev pub place_or : ℕ → Option ℕ → ℕ
place_or at None = at
place_or at (Some earlier) = earlier

-- the number of tokens of whole declarations, where so many are read
abbrev pub whole_after : ℕ → ℕ → State → ℕ
whole_after whole at (within begun (item_wanted early)) = at
whole_after whole at state = whole

abbrev pub outcome_after : ℕ → ℕ → Outcome → ℕ
outcome_after whole at (on state) = whole_after whole (suc at) state
outcome_after whole at _ = whole

abbrev pub place_behind : ℕ → Outcome → ℕ
place_behind at (on state) = suc at
place_behind at _ = at

-- Behind a size that waits: where the body begins the first size of a parameter is left out, and where the head ends
-- otherwise, or a fault stands, the one that waits.

abbrev pub over_at : ℕ → State → Option ℕ
over_at waiting (within begun (expression (in_function_body fronted parameters frequency annotations) mode frames)) =
    Some (place_or waiting fronted.deferred)
over_at waiting (within begun (item_wanted early)) = Some waiting
over_at waiting state = None

abbrev pub ends_waiting : ℕ → Outcome → Option ℕ
ends_waiting waiting (on state) = over_at waiting state
ends_waiting waiting _ = Some waiting

abbrev pub step_from : ℕ → ℕ → Outcome → Token → Outcome
step_from limit at (on state) token = module_step limit at state token
step_from limit at other token = other

abbrev pub waiting_place : ℕ → ℕ → ℕ → Outcome → List Token → ℕ
waiting_place limit waiting at outcome [] = place_or waiting (ends_waiting waiting outcome)
waiting_place limit waiting at outcome (token ∷ tokens) =
    place_or (waiting_place limit waiting (suc at) (step_from limit at outcome token) tokens)
    (ends_waiting waiting outcome)

abbrev pub run_module_from : Bool → ℕ → ℕ → ℕ → Outcome → List Token → ModuleRun
run_module_from strict limit whole at (on state) [] = module_end whole at state
run_module_from strict limit whole at (on state) (token ∷ tokens) =
    let next = module_taken strict limit at state token in
    run_module_from strict limit (outcome_after whole at next) (place_behind at next) next tokens
run_module_from strict limit whole at (waits state) tokens =
    module_left_out (waiting_place limit at (suc at) (on state) tokens) (codes "deferred-size")
run_module_from strict limit whole at wrong tokens = module_bad whole at
run_module_from strict limit whole at too_deep tokens = module_deep at
run_module_from strict limit whole at (leaves_out earlier text) tokens = module_left_out (place_or at earlier) text
run_module_from strict limit whole at statement_body tokens = module_statement at
run_module_from strict limit whole at other_version tokens = module_version at

abbrev pub run_module : ℕ → List Token → ModuleRun
run_module limit tokens = run_module_from true limit 0 0 (on mdl_wanted) tokens

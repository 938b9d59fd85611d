-- The state of the reader of modules as the machine's.
use Rattle.std.specs.Prelude.{◌≡◌, ⊤, ℕ, List, [], ◌∷◌, ◌++◌, Option, Some, None, Result, Ok, Err, map, codes}
use Rattle.std.specs.Prelude.{if◌then◌else◌, false}
use Rattle.mdl_syntax.specs.declared.names.Span.{Span}
use Rattle.mdl_syntax.specs.declared.imports.Lead.TheVariants as lead
use Rattle.mdl_syntax.specs.declared.imports.Qualified.{Qualified}
use Rattle.mdl_syntax.specs.declared.expressions.Lit.TheVariants as lit
use Rattle.expression_grammar.specs.inside.Machine.{Sort, comma, semicolon, binary_operator, other_literal}
use Rattle.expression_grammar.specs.inside.Machine.{export_word, opening_bracket}
use Rattle.expression_grammar.specs.inside.Machine.{left_out}
use Rattle.mdl_syntax.specs.declared.types.Freq.{Freq}
use Rattle.mdl_syntax.specs.Modules.{Parameter}
use Rattle.mdl_syntax.specs.declared.expressions.Expr.{Expr}
use Rattle.mdl_syntax.specs.declared.declarations.Anno.{Anno}
use Rattle.mdl_syntax.specs.Trees.{Tree, tree_of, call, arguments_of, argument_of}
use Rattle.mdl_syntax.specs.Modules.{default_of, annotation_of, annotations_of, parameter_of, enum_value_of}
use Rattle.mdl_syntax.specs.Modules.{declaration_of}
use Rattle.mdl_grammar.specs.declared.module_state.Begun as held_begun
use Rattle.mdl_grammar.specs.declared.module_state.Naming as held_namings
use Rattle.mdl_grammar.specs.declared.module_state.Naming.TheVariants as held_naming
use Rattle.mdl_grammar.specs.declared.module_state.Named as held_named
use Rattle.mdl_grammar.specs.declared.module_state.Fronted as held_fronted
use Rattle.mdl_grammar.specs.declared.module_state.Front as held_front
use Rattle.mdl_grammar.specs.declared.module_state.Owner as held_owners
use Rattle.mdl_grammar.specs.declared.module_state.Owner.TheVariants as held_owner
use Rattle.mdl_grammar.specs.declared.module_state.StructSoFar as held_struct
use Rattle.mdl_grammar.specs.declared.module_state.EnumSoFar as held_enum
use Rattle.mdl_grammar.specs.declared.module_state.Holder as held_holders
use Rattle.mdl_grammar.specs.declared.module_state.Holder.TheVariants as held_holder
use Rattle.mdl_grammar.specs.declared.module_state.Site as held_sites
use Rattle.mdl_grammar.specs.declared.module_state.Site.TheVariants as held_site
use Rattle.mdl_grammar.specs.declared.module_state.Fronting as held_frontings
use Rattle.mdl_grammar.specs.declared.module_state.Fronting.TheVariants as held_fronting
use Rattle.mdl_grammar.specs.declared.verdicts.Verdict as held_verdicts
use Rattle.mdl_grammar.specs.declared.verdicts.Verdict.TheVariants as held_verdict
use Rattle.mdl_grammar.specs.declared.module_state.Kin as held_kins
use Rattle.mdl_grammar.specs.declared.module_state.Kin.TheVariants as held_kin
use Rattle.mdl_grammar.specs.declared.module_state.Position as held_positions
use Rattle.mdl_grammar.specs.declared.module_state.Position.TheVariants as held_position
use Rattle.mdl_grammar.specs.declared.module_state.ImportPosition as held_import_positions
use Rattle.mdl_grammar.specs.declared.module_state.ImportPosition.TheVariants as held_import_position
use Rattle.mdl_grammar.specs.declared.module_state.AnnotationPosition as held_annotation_positions
use Rattle.mdl_grammar.specs.declared.module_state.AnnotationPosition.TheVariants as held_annotation_position
use Rattle.mdl_grammar.specs.declared.module_state.FunctionPosition as held_function_positions
use Rattle.mdl_grammar.specs.declared.module_state.FunctionPosition.TheVariants as held_function_position
use Rattle.mdl_grammar.specs.declared.module_state.TypePosition as held_type_positions
use Rattle.mdl_grammar.specs.declared.module_state.TypePosition.TheVariants as held_type_position
use Rattle.expression_grammar.specs.declared.mode.Stop.{Stop}
use Rattle.expression_grammar.specs.declared.mode.Stop.TheVariants as inner
use Rattle.mdl_grammar.specs.declared.module_state.ModuleStop.{ModuleStop}
use Rattle.mdl_grammar.specs.declared.module_state.ModuleStop.TheVariants as stop
use Rattle.module_grammar.specs.inside.ModuleStates.{Begun, Naming, Named, Fronted, Front, Owner, Struct, Enum}
use Rattle.module_grammar.specs.inside.ModuleMachine.{Verdict}
use Rattle.module_grammar.specs.inside.ModuleStates.{Holder, Site, Fronting, Kin, Position, Outcome}
use Rattle.module_grammar.specs.inside.ModuleMachine as machine
use Rattle.module_grammar.specs.inside.ModuleStates as states
use Rattle.expression_grammar.specs.inside.Views.{mode_of, stack_of}

abbrev pub begun_of : held_begun.Begun → Begun
begun_of begun = record {
  at = begun.at;
  end = begun.end;
  version = begun.version;
  imports = begun.imports.items;
  annotations = annotations_of begun.annotations;
  declarations = map declaration_of begun.declarations.items;
}

abbrev pub naming_of : held_namings.Naming → Naming
naming_of held_naming.Unnamed = states.unnamed
naming_of (held_naming.OneDot at) = states.one_dot at
naming_of (held_naming.TwoDots steps at) = states.two_dots steps at
naming_of (held_naming.UpSteps steps at) = states.up_steps steps at
naming_of (held_naming.OneDotBehind steps at) = states.one_dot_behind steps at
naming_of (held_naming.Led lead at) = states.led lead at
naming_of (held_naming.Parted lead at parts end) = states.parted lead at parts.items end
naming_of (held_naming.OpenEnded lead at parts end) = states.open_ended lead at parts.items end

abbrev pub named_of : held_named.Named → Named
named_of named = record { at = named.at; exported = named.exported; name = named.name }

abbrev pub fronted_of : held_fronted.Fronted → Fronted
fronted_of fronted = record { named = named_of fronted.named; ty = fronted.ty; deferred = fronted.deferred }

abbrev pub front_of : held_front.Front → Front
front_of front = record { at = front.at; frequency = front.frequency; ty = front.ty; name = front.name }

abbrev pub owner_of : held_owners.Owner → Owner
owner_of (held_owner.Function fronted) = states.of_function (fronted_of fronted.value)
owner_of (held_owner.Annotation named) = states.of_annotation (named_of named)

abbrev pub struct_of : held_struct.StructSoFar → Struct
struct_of held = record {
  named = named_of held.named;
  annotations = annotations_of held.annotations;
  fields = map parameter_of held.fields.items;
}

abbrev pub enum_of : held_enum.EnumSoFar → Enum
enum_of held = record {
  named = named_of held.named;
  annotations = annotations_of held.annotations;
  values = map enum_value_of held.values.items;
}

abbrev pub holder_of : held_holders.Holder → Holder
holder_of held_holder.Module = states.the_module
holder_of (held_holder.Parameter owner parameters front default) =
    states.a_parameter (owner_of owner) (map parameter_of parameters.items) (front_of front.value) (default_of default)
holder_of (held_holder.Function fronted parameters frequency) =
    states.a_function (fronted_of fronted.value) (map parameter_of parameters.items) frequency
holder_of (held_holder.Annotation named parameters) =
    states.an_annotation (named_of named) (map parameter_of parameters.items)
holder_of (held_holder.Variant fronted) = states.a_variant (fronted_of fronted.value)
holder_of (held_holder.Struct named) = states.a_struct (named_of named)
holder_of (held_holder.Field held front default) =
    states.a_field (struct_of held) (front_of front.value) (default_of default)
holder_of (held_holder.Enum named) = states.an_enum (named_of named)
holder_of (held_holder.EnumValue held name number) = states.an_enum_value (enum_of held) name number

abbrev pub site_of : held_sites.Site → Site
site_of (held_site.FunctionBody fronted parameters frequency annotations) =
    states.in_function_body (fronted_of fronted.value) (map parameter_of parameters.items) frequency
    (annotations_of annotations)
site_of (held_site.Default owner parameters front) =
    states.in_default (owner_of owner) (map parameter_of parameters.items) (front_of front.value)
site_of (held_site.FieldDefault held front) = states.in_field_default (struct_of held) (front_of front.value)
site_of (held_site.Annotation holder annotations) =
    states.in_annotation (holder_of holder.value) (map annotation_of annotations.items)
site_of (held_site.Base fronted annotations) = states.in_base (fronted_of fronted.value) (annotations_of annotations)

abbrev pub fronting_of : held_frontings.Fronting → Fronting
fronting_of (held_fronting.Declaration at exported) = states.of_declaration at exported
fronting_of (held_fronting.Parameter owner parameters) =
    states.of_parameter (owner_of owner) (map parameter_of parameters.items)
fronting_of (held_fronting.Field held) = states.of_field (struct_of held)

abbrev pub kin_of : held_kins.Kin → Kin
kin_of held_kin.Struct = states.struct_kin
kin_of held_kin.Enum = states.enum_kin
kin_of held_kin.Annotation = states.annotation_kin

abbrev pub import_position_of : held_import_positions.ImportPosition → Position
import_position_of (held_import_position.Importing at items naming) = states.importing at items.items (naming_of naming)
import_position_of (held_import_position.Imported at items) = states.imported at items.items
import_position_of (held_import_position.Using at naming) = states.using at (naming_of naming)
import_position_of (held_import_position.UsedWanted at name) = states.used_wanted at name
import_position_of (held_import_position.UsedRead at name names) = states.used_read at name names.items
import_position_of (held_import_position.UsedNext at name names) = states.used_next at name names.items
import_position_of (held_import_position.UsedAll at name) = states.used_all at name

abbrev pub annotation_position_of : held_annotation_positions.AnnotationPosition → Position
annotation_position_of held_annotation_position.OwnWanted = states.own_wanted
annotation_position_of (held_annotation_position.AnnotationsBegun holder) =
    states.annotations_begun (holder_of holder.value)
annotation_position_of (held_annotation_position.FirstAnnotation holder) =
    states.first_annotation (holder_of holder.value)
annotation_position_of (held_annotation_position.AnnotationRead holder annotations) =
    states.annotation_read (holder_of holder.value) (map annotation_of annotations.items)
annotation_position_of (held_annotation_position.AnnotationsClosing holder annotations) =
    states.annotations_closing (holder_of holder.value) (map annotation_of annotations.items)
annotation_position_of (held_annotation_position.Annotated holder annotations end) =
    states.annotated (holder_of holder.value) (map annotation_of annotations.items) end

abbrev pub function_position_of : held_function_positions.FunctionPosition → Position
function_position_of (held_function_position.ExportedRead at) = states.exported_read at
function_position_of (held_function_position.KinNamed at exported kin) = states.kin_named at exported (kin_of kin)
function_position_of (held_function_position.AnnotationNamed named) = states.annotation_named (named_of named)
function_position_of (held_function_position.Declared fronted) = states.declared (fronted_of fronted.value)
function_position_of (held_function_position.ParametersBegun owner) = states.parameters_begun (owner_of owner)
function_position_of (held_function_position.StarRead fronted) = states.star_read (fronted_of fronted.value)
function_position_of (held_function_position.VariantRead fronted) = states.variant_read (fronted_of fronted.value)
function_position_of (held_function_position.BaseRead fronted annotations base) =
    states.base_read (fronted_of fronted.value) (annotations_of annotations) (annotation_of base)
function_position_of (held_function_position.ParameterRead owner parameters front) =
    states.parameter_read (owner_of owner) (map parameter_of parameters.items) (front_of front.value)
function_position_of (held_function_position.ParameterNext owner parameters) =
    states.parameter_next (owner_of owner) (map parameter_of parameters.items)
function_position_of (held_function_position.FunctionRead fronted parameters frequency) =
    states.function_read (fronted_of fronted.value) (map parameter_of parameters.items) frequency
function_position_of (held_function_position.AnnotationDeclared named parameters) =
    states.annotation_declared (named_of named) (map parameter_of parameters.items)

abbrev pub type_position_of : held_type_positions.TypePosition → Position
type_position_of (held_type_position.StructNamed named) = states.struct_named (named_of named)
type_position_of (held_type_position.FieldsRead held) = states.fields_read (struct_of held)
type_position_of (held_type_position.FieldRead held front) = states.field_read (struct_of held) (front_of front.value)
type_position_of (held_type_position.EnumNamed named) = states.enum_named (named_of named)
type_position_of (held_type_position.ValueWanted held) = states.value_wanted (enum_of held)
type_position_of (held_type_position.ValueRead held name) = states.value_read (enum_of held) name
type_position_of (held_type_position.NumberWanted held name) = states.number_wanted (enum_of held) name
type_position_of (held_type_position.NumberRead held name value end) = states.number_read (enum_of held) name value end
type_position_of (held_type_position.StructClosed held) = states.struct_closed (struct_of held)
type_position_of (held_type_position.EnumClosed held) = states.enum_closed (enum_of held)

abbrev pub position_of : held_positions.Position → Position
position_of (held_position.ItemWanted early) = states.item_wanted early
position_of (held_position.Import position) = import_position_of position
position_of (held_position.Annotation position) = annotation_position_of position
position_of (held_position.Function position) = function_position_of position
position_of (held_position.Type position) = type_position_of position
position_of (held_position.Fronting of mode) = states.fronting (fronting_of of.value) (mode_of mode)
position_of (held_position.Expression site mode frames) =
    states.expression (site_of site.value) (mode_of mode) (stack_of frames.items)
position_of (held_position.Opened site mode frames bracket) =
    states.opened (site_of site.value) (mode_of mode) (stack_of frames.items) bracket

-- a step gave what the machine's step gives, or there was no memory
abbrev pub ModuleCame : Result held_positions.Position ModuleStop → held_begun.Begun → Outcome → Type 0
ModuleCame (Ok position) begun made = made ≡ states.on (states.within (begun_of begun) (position_of position))
ModuleCame (Err stop.Bad) begun made = made ≡ states.wrong
ModuleCame (Err stop.Deep) begun made = made ≡ states.too_deep
ModuleCame (Err (stop.LeftOut word)) begun made = made ≡ states.leaves_out None word
ModuleCame (Err stop.StatementBody) begun made = made ≡ states.statement_body
ModuleCame (Err stop.OutOfMemory) begun made = ⊤

-- a token made of a name what the machine makes of it
abbrev pub naming_option : Option held_namings.Naming → Option Naming
naming_option None = None
naming_option (Some naming) = Some (naming_of naming)

abbrev pub NamingCame : Result (Option held_namings.Naming) ModuleStop → Option Naming → Type 0
NamingCame (Ok naming) made = made ≡ naming_option naming
NamingCame (Err refused) made = refused ≡ stop.OutOfMemory

-- Imports, by the token that comes.

-- what a name stands for, and with `*` behind it
abbrev pub item_of : Naming → Option Qualified
item_of (states.parted lead at parts end) = states.qualified_from lead at parts end
item_of _ = None

abbrev pub all_item_of : Naming → ℕ → Option Qualified
all_item_of (states.open_ended lead at parts end) star = Some (machine.all_of lead at parts end star)
all_item_of _ star = None

abbrev pub imports_all : Begun → ℕ → List Qualified → Option Qualified → Outcome
imports_all begun at items None = states.wrong
imports_all begun at items (Some item) = states.on (states.within begun (states.imported at (items ++ item ∷ [])))

abbrev pub imports_text : List Qualified → Naming → Outcome
imports_text [] states.unnamed = states.leaves_out None (codes "string-name")
imports_text items naming = states.wrong

abbrev pub imports_on : Begun → ℕ → List Qualified → Naming → Sort → Span → Outcome
imports_on begun at items naming sort place =
    machine.naming_or (λ next. states.within begun (states.importing at items next))
    (states.naming_step naming sort place)

abbrev pub imports_operator : Begun → ℕ → List Qualified → Naming → ℕ → Span → Outcome
imports_operator begun at items naming op place =
    if states.is_star op then imports_all begun at items (all_item_of naming place.end) else states.wrong

abbrev pub imports_by : Begun → ℕ → List Qualified → Naming → Sort → Span → Outcome
imports_by begun at items naming comma place =
    machine.import_item begun at items (item_of naming) comma place
imports_by begun at items naming semicolon place =
    machine.import_item begun at items (item_of naming) semicolon place
imports_by begun at items naming (binary_operator op level) place = imports_operator begun at items naming op place
imports_by begun at items naming (other_literal (lit.Str text)) place = imports_text items naming
imports_by begun at items naming sort place = imports_on begun at items naming sort place

-- Uses, by the token that comes.

abbrev pub uses_text : Naming → Outcome
uses_text states.unnamed = states.leaves_out None (codes "string-name")
uses_text naming = states.wrong

abbrev pub uses_equals : Naming → Outcome
uses_equals (states.parted lead.Bare from (part ∷ []) end) = states.leaves_out None (codes "alias")
uses_equals naming = states.wrong

abbrev pub uses_import : Begun → ℕ → Naming → Outcome
uses_import begun at (states.parted lead from parts end) =
    states.on (states.within begun (states.used_wanted at (states.module_name lead from parts end)))
uses_import begun at naming = states.wrong

abbrev pub uses_on : Begun → ℕ → Naming → Sort → Span → Outcome
uses_on begun at naming sort place =
    machine.naming_or (λ next. states.within begun (states.using at next)) (states.naming_step naming sort place)

-- Fronts.

abbrev pub deferred_fronting : ℕ → Fronting → Fronting
deferred_fronting at (states.of_parameter owner parameters) =
    states.of_parameter (machine.deferred_owner owner at) parameters
deferred_fronting at of = of

-- Declarations, but for the words that come before them.

abbrev pub late_item : ℕ → Begun → Sort → Span → Outcome
late_item token begun export_word place = states.on (states.within begun (states.exported_read place.at))
late_item token begun sort place = machine.declaration_step token begun place.at false sort place

abbrev pub unmarked : Begun → Fronted → List Parameter → Option Freq → Sort → Span → Outcome
unmarked begun fronted parameters frequency opening_bracket place =
    states.on (states.within begun (states.annotations_begun (states.a_function fronted parameters frequency)))
unmarked begun fronted parameters frequency sort place =
    machine.function_annotated begun fronted parameters frequency None sort place

-- what a stop in an expression is in a module
abbrev pub StopIn : Stop → ModuleStop → Type 0
StopIn inner.Bad made = made ≡ stop.Bad
StopIn inner.Deep made = made ≡ stop.Deep
StopIn (inner.LeftOut word) made = made ≡ stop.LeftOut word
StopIn inner.OutOfMemory made = made ≡ stop.OutOfMemory

abbrev pub verdict_view : held_verdicts.Verdict → Verdict
verdict_view held_verdict.Passes = machine.passes
verdict_view held_verdict.RefusedHere = machine.refused_here
verdict_view (held_verdict.RefusedBefore at) = machine.refused_before at
verdict_view held_verdict.Undecided = machine.undecided

-- a word that some form has
abbrev pub IsInUse : Sort → Type 0
IsInUse (left_out text) = ⊥
IsInUse word = ⊤

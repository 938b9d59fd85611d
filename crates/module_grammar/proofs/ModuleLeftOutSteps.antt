-- What the machine of modules leaves out outside of expressions, and why.
use Rattle.std.proofs.Common.{◌≡◌, ◌∙◌, sym, ap, refl, codes, ℕ, Bool, true, false, List, [], ◌∷◌}
use Rattle.std.proofs.Common.{◌++◌, Option, Some, None, if◌then◌else◌}
use Rattle.mdl_syntax.specs.declared.names.Span.{Span}
use Rattle.mdl_syntax.specs.declared.names.Ident.{Ident}
use Rattle.mdl_syntax.specs.declared.types.Freq.{Freq}
use Rattle.mdl_syntax.specs.declared.expressions.Lit.TheVariants as lit
use Rattle.mdl_syntax.specs.declared.imports.Lead.TheVariants as lead_form
use Rattle.mdl_syntax.specs.declared.imports.ModuleRef.{ModuleRef}
use Rattle.mdl_syntax.specs.declared.imports.Qualified.{Qualified}
use Rattle.mdl_syntax.specs.Modules.{Annotation, Parameter, EnumValue}
use Rattle.module_grammar.specs.inside.ModuleStates.{is_star, parameter_from, plain_parameter}
use Rattle.module_grammar.specs.inside.ModuleStates.{enum_value_from, qualified_from, naming_step}
use Rattle.module_grammar.specs.inside.ModuleMachine.{naming_or, import_ends, import_item, all_of}
use Rattle.module_grammar.specs.inside.ModuleMachine.{import_step, using_step, used_wanted_step}
use Rattle.module_grammar.specs.inside.ModuleMachine.{used_read_step, used_next_step, used_all_step}
use Rattle.module_grammar.specs.inside.ModuleMachine.{deferred_state, front_goes, front_outcome}
use Rattle.module_grammar.specs.inside.ModuleMachine.{no_frequency, declaration_step, item_step}
use Rattle.module_grammar.specs.inside.ModuleMachine.{exported_step, kin_step, annotation_named_step}
use Rattle.module_grammar.specs.inside.ModuleMachine.{declared_step, star_step, parameters_step}
use Rattle.module_grammar.specs.inside.ModuleMachine.{parameter_ends, parameter_step, star_read_step}
use Rattle.module_grammar.specs.inside.ModuleMachine.{variant_annotated, variant_step, base_step}
use Rattle.module_grammar.specs.inside.ModuleMachine.{function_annotated, function_step}
use Rattle.module_grammar.specs.inside.ModuleMachine.{annotation_annotated, annotation_declared_step}
use Rattle.module_grammar.specs.inside.ModuleMachine.{struct_annotated, struct_named_step, fields_step}
use Rattle.module_grammar.specs.inside.ModuleMachine.{field_ends, field_step, struct_closed_step}
use Rattle.module_grammar.specs.inside.ModuleMachine.{enum_annotated, enum_named_step}
use Rattle.module_grammar.specs.inside.ModuleMachine.{value_wanted_step, value_ends, value_step}
use Rattle.module_grammar.specs.inside.ModuleMachine.{number_step, number_read_step, enum_closed_step}
use Rattle.module_grammar.specs.inside.ModuleMachine.{second_bracket, own_step, annotation_read_step}
use Rattle.module_grammar.specs.inside.ModuleMachine.{closing_annotations, own_ends, annotated_step}
use Rattle.module_grammar.specs.inside.ModuleStates.{Naming, Begun, Named, Fronted, Front, Owner}
use Rattle.module_grammar.specs.inside.ModuleStates.{Struct, Enum, Holder, Fronting, Kin, State}
use Rattle.module_grammar.specs.inside.ModuleStates.{Outcome, unnamed, parted, open_ended}
use Rattle.module_grammar.specs.inside.ModuleStates.{of_function, of_annotation, the_module}
use Rattle.module_grammar.specs.inside.ModuleStates.{a_parameter, a_function, an_annotation}
use Rattle.module_grammar.specs.inside.ModuleStates.{a_variant, a_struct, a_field, an_enum}
use Rattle.module_grammar.specs.inside.ModuleStates.{an_enum_value, of_declaration, of_parameter}
use Rattle.module_grammar.specs.inside.ModuleStates.{of_field, importing, imported, using, used_all}
use Rattle.module_grammar.specs.inside.ModuleStates.{within, on, wrong, used_wanted, exported_read}
use Rattle.module_grammar.specs.inside.ModuleStates.{leaves_out}
use Rattle.expression_grammar.specs.inside.Machine.{type_step, head_step, Sort, Head, Frame, Mode, Step}
use Rattle.expression_grammar.specs.inside.Machine.{identifier, integer, other_literal, binary_operator}
use Rattle.expression_grammar.specs.inside.Machine.{opening, closing, opening_bracket, closing_bracket}
use Rattle.expression_grammar.specs.inside.Machine.{opening_brace, closing_brace, comma, semicolon, equals}
use Rattle.expression_grammar.specs.inside.Machine.{frequency_word, import_word, using_word, module_word}
use Rattle.expression_grammar.specs.inside.Machine.{export_word, struct_word, enum_word, annotation_word}
use Rattle.expression_grammar.specs.inside.Machine.{deferred_wanted, equals_wanted, goes, bad, deep}
use Rattle.expression_grammar.specs.inside.Machine.{is_left_out, mode_step, left_out, type_wanted}
use Rattle.expression_grammar.specs.inside.Machine.{head_wanted}
use Rattle.expression_grammar.proofs.TakenLaws.{leaves}
use Rattle.expression_grammar.proofs.RoomLaws.{stays, Limited, always, roomy, mode_limited}
use Rattle.std.specs.Prelude.{nat_le}
use Rattle.std.proofs.lemmas.Bool.{false≢true}

-- Imports.

-- why a token is left out, where it is: from where the machine stands, and by the token's sort
pub data LeavesBy : State → Sort → List ℕ → Type 0 where
  leaves_word : (state : State) (text : List ℕ) → LeavesBy state (left_out text) text
  leaves_imported : (begun : Begun) (at : ℕ) (text : List ℕ) →
      LeavesBy (within begun (importing at [] unnamed)) (other_literal (lit.Str text))
      (codes "string-name")
  leaves_used : (begun : Begun) (at : ℕ) (text : List ℕ) →
      LeavesBy (within begun (using at unnamed)) (other_literal (lit.Str text))
      (codes "string-name")
  leaves_wanted : (begun : Begun) (at : ℕ) (name : ModuleRef) (text : List ℕ) →
      LeavesBy (within begun (used_wanted at name)) (other_literal (lit.Str text))
      (codes "string-name")
  leaves_alias : (begun : Begun) (at from : ℕ) (part : Ident) (end : ℕ) →
      LeavesBy (within begun (using at (parted lead_form.Bare from (part ∷ []) end))) equals
      (codes "alias")
  leaves_export : (begun : Begun) (at : ℕ) →
      LeavesBy (within begun (exported_read at)) using_word (codes "re-export")

-- what is left out is so for a reason
abbrev pub IsTold : (List ℕ → Type 0) → Outcome → Type 0
IsTold Why (leaves_out None text) = Why text
IsTold Why (leaves_out (Some earlier) text) = ⊥
IsTold Why _ = Unit {0}

-- the outcome leaves nothing out
abbrev pub IsKept : Outcome → Type 0
IsKept (leaves_out earlier text) = ⊥
IsKept _ = Unit {0}

pub kept_told : (Why : List ℕ → Type 0) (made : Outcome) → IsKept made → IsTold Why made
kept_told Why (leaves_out earlier text) kept = absurd kept
kept_told Why made kept = tt

pub either_keeps : (test : Bool) (one other : Outcome) → IsKept one → IsKept other →
    IsKept (if test then one else other)
either_keeps true one other is others = is
either_keeps false one other is others = others

pub import_ends_keeps : (begun : Begun) (at : ℕ) (items : List Qualified)
    (sort : Sort) (own : Span) → IsKept (import_ends begun at items sort own)
import_ends_keeps begun at items comma own = tt
import_ends_keeps begun at items semicolon own = tt
import_ends_keeps begun at items sort own = tt

pub item_ends_keeps : (begun : Begun) (at : ℕ) (items : List Qualified)
    (one : Option Qualified) (sort : Sort) (own : Span) →
    IsKept (import_item begun at items one sort own)
item_ends_keeps begun at items None sort own = tt
item_ends_keeps begun at items (Some item) sort own =
    import_ends_keeps begun at (items ++ item ∷ []) sort own

pub importing_keeps : (begun : Begun) (at : ℕ) (items : List Qualified)
    (naming : Option Naming) →
    IsKept (naming_or (λ one. within begun (importing at items one)) naming)
importing_keeps begun at items None = tt
importing_keeps begun at items (Some naming) = tt

pub using_keeps : (begun : Begun) (at : ℕ) (naming : Option Naming) →
    IsKept (naming_or (λ one. within begun (using at one)) naming)
using_keeps begun at None = tt
using_keeps begun at (Some naming) = tt

pub import_step_told : (begun : Begun) (at : ℕ) (items : List Qualified) (naming : Naming)
    (sort : Sort) (own : Span) →
    IsTold (LeavesBy (within begun (importing at items naming)) sort)
    (import_step begun at items naming sort own)
import_step_told begun at [] unnamed (other_literal (lit.Str text)) own =
    leaves_imported begun at text
import_step_told begun at items (parted lead from parts end) comma own =
    kept_told (LeavesBy (within begun (importing at items (parted lead from parts end))) comma)
    (import_item begun at items (qualified_from lead from parts end) comma own)
    (item_ends_keeps begun at items (qualified_from lead from parts end) comma own)
import_step_told begun at items (parted lead from parts end) semicolon own =
    kept_told (LeavesBy (within begun (importing at items (parted lead from parts end))) semicolon)
    (import_item begun at items (qualified_from lead from parts end) semicolon own)
    (item_ends_keeps begun at items (qualified_from lead from parts end) semicolon own)
import_step_told begun at items (open_ended lead from parts end) (binary_operator op level) own =
    kept_told (LeavesBy (within begun (importing at items (open_ended lead from parts end)))
    (binary_operator op level))
    (import_step begun at items (open_ended lead from parts end) (binary_operator op level) own)
    (either_keeps (is_star op)
    (on (within begun (imported at (items ++ all_of lead from parts end own.end ∷ [])))) wrong tt
    tt)
import_step_told begun at items naming sort own =
    kept_told (LeavesBy (within begun (importing at items naming)) sort)
    (naming_or (λ one. within begun (importing at items one)) (naming_step naming sort own))
    (importing_keeps begun at items (naming_step naming sort own))

pub using_step_told : (begun : Begun) (at : ℕ) (naming : Naming) (sort : Sort) (own : Span) →
    IsTold (LeavesBy (within begun (using at naming)) sort) (using_step begun at naming sort own)
using_step_told begun at unnamed (other_literal (lit.Str text)) own = leaves_used begun at text
using_step_told begun at (parted lead_form.Bare from (part ∷ []) end) equals own =
    leaves_alias begun at from part end
using_step_told begun at (parted lead from parts end) import_word own = tt
using_step_told begun at naming sort own =
    kept_told (LeavesBy (within begun (using at naming)) sort)
    (naming_or (λ one. within begun (using at one)) (naming_step naming sort own))
    (using_keeps begun at (naming_step naming sort own))

pub used_wanted_told : (begun : Begun) (at : ℕ) (name : ModuleRef) (sort : Sort) (own : Span) →
    IsTold (LeavesBy (within begun (used_wanted at name)) sort)
    (used_wanted_step begun at name sort own)
used_wanted_told begun at name (identifier text) own = tt
used_wanted_told begun at name (binary_operator op level) own =
    kept_told (LeavesBy (within begun (used_wanted at name)) (binary_operator op level))
    (used_wanted_step begun at name (binary_operator op level) own)
    (either_keeps (is_star op) (on (within begun (used_all at name))) wrong tt tt)
used_wanted_told begun at name (other_literal (lit.Str text)) own =
    leaves_wanted begun at name text
used_wanted_told begun at name (other_literal other) own = tt
used_wanted_told begun at name sort own = tt

pub used_read_keeps : (begun : Begun) (at : ℕ) (name : ModuleRef) (names : List
    Ident) (sort : Sort) (own : Span) → IsKept (used_read_step begun at name names sort own)
used_read_keeps begun at name names comma own = tt
used_read_keeps begun at name names semicolon own = tt
used_read_keeps begun at name names sort own = tt

pub used_next_keeps : (begun : Begun) (at : ℕ) (name : ModuleRef) (names : List
    Ident) (sort : Sort) (own : Span) → IsKept (used_next_step begun at name names sort own)
used_next_keeps begun at name names (identifier text) own = tt
used_next_keeps begun at name names sort own = tt

pub used_all_keeps : (begun : Begun) (at : ℕ) (name : ModuleRef) (sort : Sort)
    (own : Span) → IsKept (used_all_step begun at name sort own)
used_all_keeps begun at name semicolon own = tt
used_all_keeps begun at name sort own = tt

-- Fronts.

-- a step of expressions that stays as it is leaves nothing out
stays_kept : (what : Step) → stays what ≡ true → leaves what ≡ false
stays_kept (goes mode frames) ok = refl
stays_kept bad ok = refl
stays_kept deep ok = absurd (false≢true ok)
stays_kept (is_left_out text) ok = absurd (false≢true ok)

room_kept : (test : Bool) (mode : Mode) (frames : List Frame) →
    leaves (if test then goes mode frames else deep) ≡ false
room_kept true mode frames = refl
room_kept false mode frames = refl

limited_kept : (limit : ℕ) (of : ℕ → Step) → Limited of → leaves (of limit) ≡ false
limited_kept limit of (always what ok same) = ap leaves (same limit) ∙ stays_kept what ok
limited_kept limit of (roomy need mode frames same) =
    ap leaves (same limit) ∙ room_kept (nat_le need limit) mode frames

-- the machine of expressions leaves out no word of another sort
pub mode_kept : (limit : ℕ) (mode : Mode) (frames : List Frame) (sort : Sort) (own : Span) →
    leaves (mode_step limit mode frames sort own) ≡ false
mode_kept limit mode frames sort own =
    limited_kept limit (λ limit. mode_step limit mode frames sort own)
    (mode_limited mode frames sort own)

type_kept : (head : Head) (sort : Sort) (own : Span) → leaves (type_step head [] sort own) ≡ false
type_kept head sort own = mode_kept 0 (type_wanted head) [] sort own

pub head_kept : (sort : Sort) (own : Span) → leaves (head_step [] sort own) ≡ false
head_kept sort own = mode_kept 0 head_wanted [] sort own

deferred_keeps : (at : ℕ) (begun : Begun) (of : Fronting) (mode : Mode) →
    IsKept (deferred_state at begun of mode)
deferred_keeps at begun (of_parameter owner parameters) mode = tt
deferred_keeps at begun (of_declaration from exported) mode = tt
deferred_keeps at begun (of_field held) mode = tt

front_goes_keeps : (at : ℕ) (begun : Begun) (of : Fronting) (mode : Mode) →
    IsKept (front_goes at begun of mode)
front_goes_keeps at begun of (equals_wanted head ty name) = tt
front_goes_keeps at begun of (deferred_wanted head name) =
    deferred_keeps at begun of (deferred_wanted head name)
front_goes_keeps at begun of mode = tt

pub front_keeps : (at : ℕ) (begun : Begun) (of : Fronting) (made : Step) → leaves made ≡ false →
    IsKept (front_outcome at begun of made)
front_keeps at begun of (goes mode frames) kept = front_goes_keeps at begun of mode
front_keeps at begun of bad kept = tt
front_keeps at begun of deep kept = tt
front_keeps at begun of (is_left_out text) kept = absurd (false≢true (sym kept))

-- Declarations.

pub declaration_keeps : (token : ℕ) (begun : Begun) (at : ℕ) (exported : Bool)
    (sort : Sort) (own : Span) →
    IsKept (declaration_step token begun at exported sort own)
declaration_keeps token begun at exported struct_word own = tt
declaration_keeps token begun at exported enum_word own = tt
declaration_keeps token begun at exported annotation_word own = tt
declaration_keeps token begun at exported sort own =
    front_keeps token begun (of_declaration at exported)
    (type_step (no_frequency own.at) [] sort own) (type_kept (no_frequency own.at) sort own)

pub item_keeps : (token : ℕ) (begun : Begun) (early : Bool) (sort : Sort)
    (own : Span) → IsKept (item_step token begun early sort own)
item_keeps token begun true import_word own = tt
item_keeps token begun true using_word own = tt
item_keeps token begun true module_word own = tt
item_keeps token begun early export_word own = tt
item_keeps token begun early sort own =
    declaration_keeps token begun own.at false sort own

pub exported_told : (token : ℕ) (begun : Begun) (at : ℕ) (sort : Sort) (own : Span) →
    IsTold (LeavesBy (within begun (exported_read at)) sort) (exported_step token begun at sort own)
exported_told token begun at using_word own = leaves_export begun at
exported_told token begun at sort own =
    kept_told (LeavesBy (within begun (exported_read at)) sort)
    (declaration_step token begun at true sort own)
    (declaration_keeps token begun at true sort own)

pub kin_keeps : (begun : Begun) (at : ℕ) (exported : Bool) (kin : Kin) (sort : Sort) (own : Span) →
    IsKept (kin_step begun at exported kin sort own)
kin_keeps begun at exported kin (identifier text) own = tt
kin_keeps begun at exported kin sort own = tt

pub annotation_named_keeps : (begun : Begun) (named : Named) (sort : Sort) →
    IsKept (annotation_named_step begun named sort)
annotation_named_keeps begun named opening = tt
annotation_named_keeps begun named sort = tt

pub declared_keeps : (begun : Begun) (fronted : Fronted) (sort : Sort) →
    IsKept (declared_step begun fronted sort)
declared_keeps begun fronted opening = tt
declared_keeps begun fronted sort = tt

pub star_keeps : (begun : Begun) (owner : Owner) →
    IsKept (star_step begun owner)
star_keeps begun (of_function fronted) = tt
star_keeps begun (of_annotation named) = tt

pub parameters_keeps : (token : ℕ) (begun : Begun) (owner : Owner) (sort : Sort)
    (own : Span) → IsKept (parameters_step token begun owner sort own)
parameters_keeps token begun owner closing own = tt
parameters_keeps token begun owner (binary_operator op level) own =
    either_keeps (is_star op) (star_step begun owner) wrong (star_keeps begun owner)
    tt
parameters_keeps token begun owner sort own =
    front_keeps token begun (of_parameter owner []) (head_step [] sort own) (head_kept sort own)

pub parameter_ends_keeps : (begun : Begun) (owner : Owner)
    (parameters : List Parameter) (sort : Sort) →
    IsKept (parameter_ends begun owner parameters sort)
parameter_ends_keeps begun owner parameters comma = tt
parameter_ends_keeps begun owner parameters closing =
    tt
parameter_ends_keeps begun owner parameters sort = tt

pub parameter_keeps : (begun : Begun) (owner : Owner) (parameters : List Parameter)
    (front : Front) (sort : Sort) →
    IsKept (parameter_step begun owner parameters front sort)
parameter_keeps begun owner parameters front equals = tt
parameter_keeps begun owner parameters front opening_bracket = tt
parameter_keeps begun owner parameters front sort =
    parameter_ends_keeps begun owner (parameters ++ plain_parameter front None ∷ []) sort

pub star_read_keeps : (begun : Begun) (fronted : Fronted) (sort : Sort) →
    IsKept (star_read_step begun fronted sort)
star_read_keeps begun fronted closing = tt
star_read_keeps begun fronted sort = tt

pub variant_annotated_keeps : (begun : Begun) (fronted : Fronted)
    (annotations : Option (List Annotation)) (sort : Sort) →
    IsKept (variant_annotated begun fronted annotations sort)
variant_annotated_keeps begun fronted annotations equals = tt
variant_annotated_keeps begun fronted annotations sort = tt

pub variant_keeps : (begun : Begun) (fronted : Fronted) (sort : Sort) →
    IsKept (variant_step begun fronted sort)
variant_keeps begun fronted opening_bracket = tt
variant_keeps begun fronted sort = variant_annotated_keeps begun fronted None sort

pub base_keeps : (begun : Begun) (fronted : Fronted)
    (annotations : Option (List Annotation)) (base : Annotation) (sort : Sort) (own : Span) →
    IsKept (base_step begun fronted annotations base sort own)
base_keeps begun fronted annotations base semicolon own = tt
base_keeps begun fronted annotations base sort own = tt

pub function_annotated_keeps : (begun : Begun) (fronted : Fronted)
    (parameters : List Parameter) (frequency : Option Freq) (annotations : Option (List Annotation))
    (sort : Sort) (own : Span) →
    IsKept (function_annotated begun fronted parameters frequency annotations sort own)
function_annotated_keeps begun fronted parameters frequency annotations equals own = tt
function_annotated_keeps begun fronted parameters frequency annotations semicolon own = tt
function_annotated_keeps begun fronted parameters frequency annotations sort own = tt

pub function_keeps : (begun : Begun) (fronted : Fronted) (parameters : List
    Parameter) (frequency : Option Freq) (sort : Sort) (own : Span) →
    IsKept (function_step begun fronted parameters frequency sort own)
function_keeps begun fronted parameters None (frequency_word freq) own = tt
function_keeps begun fronted parameters frequency opening_bracket own = tt
function_keeps begun fronted parameters frequency sort own =
    function_annotated_keeps begun fronted parameters frequency None sort own

pub annotation_annotated_keeps : (begun : Begun) (named : Named)
    (parameters : List Parameter) (annotations : Option (List Annotation)) (sort : Sort)
    (own : Span) → IsKept (annotation_annotated begun named parameters annotations sort own)
annotation_annotated_keeps begun named parameters annotations semicolon own = tt
annotation_annotated_keeps begun named parameters annotations sort own = tt

pub annotation_declared_keeps : (begun : Begun) (named : Named)
    (parameters : List Parameter) (sort : Sort) (own : Span) →
    IsKept (annotation_declared_step begun named parameters sort own)
annotation_declared_keeps begun named parameters opening_bracket own = tt
annotation_declared_keeps begun named parameters sort own =
    annotation_annotated_keeps begun named parameters None sort own

pub struct_annotated_keeps : (begun : Begun) (named : Named)
    (annotations : Option (List Annotation)) (sort : Sort) →
    IsKept (struct_annotated begun named annotations sort)
struct_annotated_keeps begun named annotations opening_brace = tt
struct_annotated_keeps begun named annotations sort = tt

pub struct_named_keeps : (begun : Begun) (named : Named) (sort : Sort) →
    IsKept (struct_named_step begun named sort)
struct_named_keeps begun named opening_bracket = tt
struct_named_keeps begun named sort = struct_annotated_keeps begun named None sort

pub fields_keeps : (token : ℕ) (begun : Begun) (held : Struct) (sort : Sort)
    (own : Span) → IsKept (fields_step token begun held sort own)
fields_keeps token begun held closing_brace own = tt
fields_keeps token begun held sort own =
    front_keeps token begun (of_field held) (head_step [] sort own) (head_kept sort own)

pub field_ends_keeps : (begun : Begun) (held : Struct) (one : Parameter)
    (sort : Sort) → IsKept (field_ends begun held one sort)
field_ends_keeps begun held one semicolon = tt
field_ends_keeps begun held one sort = tt

pub field_keeps : (begun : Begun) (held : Struct) (front : Front) (sort : Sort) →
    IsKept (field_step begun held front sort)
field_keeps begun held front equals = tt
field_keeps begun held front opening_bracket = tt
field_keeps begun held front sort =
    field_ends_keeps begun held (plain_parameter front None) sort

pub struct_closed_keeps : (begun : Begun) (held : Struct) (sort : Sort) (own : Span)
    → IsKept (struct_closed_step begun held sort own)
struct_closed_keeps begun held semicolon own = tt
struct_closed_keeps begun held sort own = tt

pub enum_annotated_keeps : (begun : Begun) (named : Named)
    (annotations : Option (List Annotation)) (sort : Sort) →
    IsKept (enum_annotated begun named annotations sort)
enum_annotated_keeps begun named annotations opening_brace = tt
enum_annotated_keeps begun named annotations sort = tt

pub enum_named_keeps : (begun : Begun) (named : Named) (sort : Sort) →
    IsKept (enum_named_step begun named sort)
enum_named_keeps begun named opening_bracket = tt
enum_named_keeps begun named sort = enum_annotated_keeps begun named None sort

pub value_wanted_keeps : (begun : Begun) (held : Enum) (sort : Sort) (own : Span) →
    IsKept (value_wanted_step begun held sort own)
value_wanted_keeps begun held (identifier text) own = tt
value_wanted_keeps begun held sort own = tt

pub value_ends_keeps : (begun : Begun) (held : Enum) (one : EnumValue) (sort : Sort)
    → IsKept (value_ends begun held one sort)
value_ends_keeps begun held one comma = tt
value_ends_keeps begun held one closing_brace = tt
value_ends_keeps begun held one sort = tt

pub value_keeps : (begun : Begun) (held : Enum) (name : Ident) (sort : Sort) →
    IsKept (value_step begun held name sort)
value_keeps begun held name equals = tt
value_keeps begun held name opening_bracket = tt
value_keeps begun held name sort =
    value_ends_keeps begun held (enum_value_from name None None name.span.end) sort

pub number_keeps : (begun : Begun) (held : Enum) (name : Ident) (sort : Sort)
    (own : Span) → IsKept (number_step begun held name sort own)
number_keeps begun held name (integer value) own = tt
number_keeps begun held name sort own = tt

pub number_read_keeps : (begun : Begun) (held : Enum) (name : Ident) (value end : ℕ)
    (sort : Sort) → IsKept (number_read_step begun held name value end sort)
number_read_keeps begun held name value end opening_bracket = tt
number_read_keeps begun held name value end sort =
    value_ends_keeps begun held (enum_value_from name (Some value) None end) sort

pub enum_closed_keeps : (begun : Begun) (held : Enum) (sort : Sort) (own : Span) →
    IsKept (enum_closed_step begun held sort own)
enum_closed_keeps begun held semicolon own = tt
enum_closed_keeps begun held sort own = tt

-- Annotations.

pub second_bracket_keeps : (begun : Begun) (holder : Holder) (sort : Sort) →
    IsKept (second_bracket begun holder sort)
second_bracket_keeps begun holder opening_bracket = tt
second_bracket_keeps begun holder sort = tt

pub own_keeps : (begun : Begun) (sort : Sort) → IsKept (own_step begun sort)
own_keeps begun opening_bracket = tt
own_keeps begun sort = tt

pub annotation_read_keeps : (begun : Begun) (holder : Holder)
    (annotations : List Annotation) (sort : Sort) →
    IsKept (annotation_read_step begun holder annotations sort)
annotation_read_keeps begun holder annotations comma = tt
annotation_read_keeps begun holder annotations closing_bracket = tt
annotation_read_keeps begun holder annotations sort = tt

pub closing_keeps : (begun : Begun) (holder : Holder) (annotations : List
    Annotation) (sort : Sort) (own : Span) →
    IsKept (closing_annotations begun holder annotations sort own)
closing_keeps begun holder annotations closing_bracket own = tt
closing_keeps begun holder annotations sort own = tt

pub own_ends_keeps : (begun : Begun) (annotations : List Annotation) (sort : Sort)
    (own : Span) → IsKept (own_ends begun annotations sort own)
own_ends_keeps begun annotations semicolon own = tt
own_ends_keeps begun annotations sort own = tt

pub annotated_keeps : (begun : Begun) (holder : Holder) (annotations : List
    Annotation) (end : ℕ) (sort : Sort) (own : Span) →
    IsKept (annotated_step begun holder annotations end sort own)
annotated_keeps begun the_module annotations end sort own =
    own_ends_keeps begun annotations sort own
annotated_keeps begun (a_parameter owner parameters front default) annotations end sort own =
    parameter_ends_keeps begun owner
    (parameters ++ parameter_from front default (Some annotations) end ∷ []) sort
annotated_keeps begun (a_function fronted parameters frequency) annotations end sort own =
    function_annotated_keeps begun fronted parameters frequency (Some annotations) sort own
annotated_keeps begun (an_annotation named parameters) annotations end sort own =
    annotation_annotated_keeps begun named parameters (Some annotations) sort own
annotated_keeps begun (a_variant fronted) annotations end sort own =
    variant_annotated_keeps begun fronted (Some annotations) sort
annotated_keeps begun (a_struct named) annotations end sort own =
    struct_annotated_keeps begun named (Some annotations) sort
annotated_keeps begun (a_field held front default) annotations end sort own =
    field_ends_keeps begun held (parameter_from front default (Some annotations) end) sort
annotated_keeps begun (an_enum named) annotations end sort own =
    enum_annotated_keeps begun named (Some annotations) sort
annotated_keeps begun (an_enum_value held name number) annotations end sort own =
    value_ends_keeps begun held (enum_value_from name number (Some annotations) end) sort

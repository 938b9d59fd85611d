-- With `;` an item ends that adds a declaration, or an early one; with `=` bodies begin at heads.
use Rattle.std.proofs.Common.{◌≡◌, refl, ap, arith, ℕ, suc, Bool, true, false, List, [], ◌∷◌, ◌++◌}
use Rattle.std.proofs.Common.{length, Option, Some, None, if◌then◌else◌}
use Rattle.std.proofs.lemmas.Bool.{false≢true}
use Rattle.std.proofs.lemmas.List.{length_push}
use Rattle.mdl_syntax.specs.declared.names.Span.{Span}
use Rattle.mdl_syntax.specs.declared.names.Ident.{Ident}
use Rattle.mdl_syntax.specs.declared.types.TypeTree.{TypeTree}
use Rattle.mdl_syntax.specs.declared.imports.Lead.TheVariants as lead
use Rattle.mdl_syntax.specs.declared.imports.Qualified.{Qualified}
use Rattle.mdl_syntax.specs.Trees.{call}
use Rattle.mdl_syntax.specs.declared.types.Freq.{Freq}
use Rattle.mdl_syntax.specs.Modules.{Annotation, Declaration, Parameter}
use Rattle.expression_grammar.specs.inside.Machine.{Mode, Frame, Head, Step, Finish, Sort, mode_step}
use Rattle.expression_grammar.specs.inside.Machine.{finish}
use Rattle.expression_grammar.specs.inside.Machine.{goes, bad, deep, is_left_out, finished, ends_badly}
use Rattle.expression_grammar.specs.inside.Machine.{ends_deep, semicolon, equals, wanted, complete}
use Rattle.expression_grammar.specs.inside.Machine.{equals_wanted, deferred_wanted, opening_bracket}
use Rattle.module_grammar.specs.inside.ModuleStates.{Begun, Position, Outcome, Site, Fronting}
use Rattle.module_grammar.specs.inside.ModuleStates.{Holder, Naming, on, wrong}
use Rattle.module_grammar.specs.inside.ModuleStates.{within, item_wanted, importing, using}
use Rattle.module_grammar.specs.inside.ModuleStates.{annotated, fronting, function_read, base_read}
use Rattle.module_grammar.specs.inside.ModuleStates.{annotation_declared, struct_closed, enum_closed}
use Rattle.module_grammar.specs.inside.ModuleStates.{expression, opened, in_function_body, in_default}
use Rattle.module_grammar.specs.inside.ModuleStates.{in_field_default, in_annotation, in_base}
use Rattle.module_grammar.specs.inside.ModuleStates.{of_declaration, of_parameter, of_field}
use Rattle.module_grammar.specs.inside.ModuleStates.{the_module, a_function, an_annotation}
use Rattle.module_grammar.specs.inside.ModuleMachine.{import_item}
use Rattle.module_grammar.specs.inside.ModuleStates.{unnamed, parted, qualified_from}
use Rattle.module_grammar.specs.inside.ModuleMachine.{import_step, using_step, position_step}
use Rattle.module_grammar.specs.inside.ModuleMachine.{expression_outcome, call_outcome, call_step}
use Rattle.module_grammar.specs.inside.ModuleMachine.{call_goes, may_name, by_finish, index_outcome}
use Rattle.module_grammar.specs.inside.ModuleMachine.{is_call_site}
use Rattle.module_grammar.specs.inside.ModuleStates.{Fronted, Front, Struct}
use Rattle.module_grammar.specs.inside.ModuleMachine.{annotated_step, expression_step}
use Rattle.module_grammar.specs.inside.ModuleMachine.{unless_wrong, front_outcome, front_goes}
use Rattle.module_grammar.specs.inside.ModuleMachine.{deferred_state, named_state}
use Rattle.module_grammar.specs.inside.ModuleHeads.{IsHead}
use Rattle.module_grammar.specs.inside.ModuleHolds.{IsDefault}
use Rattle.module_grammar.proofs.ModuleHeadKinds.{MayStand}

-- a body is begun, or a declaration is added
abbrev pub Told : Type 0 → Begun → Outcome → Type 0
Told Body own (on (within begun (item_wanted false))) = begun.declarations ≡ own.declarations → ⊥
Told Body own (on (within begun (expression (in_function_body fronted parameters frequency
    annotations) mode frames))) = Body
Told Body own made = Unit {0}

abbrev pub IsBodySite : Site → Type 0
IsBodySite (in_function_body fronted parameters frequency annotations) = Unit {0}
IsBodySite site = ⊥

abbrev pub IsBody : Position → Type 0
IsBody (expression site mode frames) = IsBodySite site
IsBody position = ⊥

abbrev pub IsOwnEnd : Position → Type 0
IsOwnEnd (annotated the_module annotations end) = Unit {0}
IsOwnEnd position = ⊥

longer_list : (list : List Declaration) (one : Declaration) → list ++ one ∷ [] ≡ list → ⊥
longer_list list one same = omega (arith, ap length same, length_push list one)

if_told : (Body : Type 0) (own : Begun) (test : Bool) (one other : Outcome) → Told Body own one →
    Told Body own other → Told Body own (if test then one else other)
if_told Body own true one other is others = is
if_told Body own false one other is others = others

expression_told : (Body : Type 0) (own : Begun) (site : Site) (made : Step) →
    (IsBodySite site → Body) → Told Body own (expression_outcome own site made)
expression_told Body own (in_function_body fronted parameters frequency annotations)
    (goes mode frames) body = body tt
expression_told Body own site (goes mode frames) body = tt
expression_told Body own site bad body = tt
expression_told Body own site deep body = tt
expression_told Body own site (is_left_out text) body = tt

unless_told : (Body : Type 0) (own : Begun) (made : Outcome) → Told Body own (unless_wrong made)
unless_told Body own wrong = tt
unless_told Body own made = tt

index_told : (Body : Type 0) (limit : ℕ) (own : Begun) (site : Site) (sort : Sort) (place : Span)
    (made : Step) → (IsBodySite site → Body) →
    Told Body own (index_outcome limit own site sort place made)
index_told Body limit own site sort place (goes mode below) body =
    expression_told Body own site (mode_step limit mode below sort place) body
index_told Body limit own site sort place bad body = tt
index_told Body limit own site sort place deep body =
    unless_told Body own (expression_outcome own site (mode_step limit wanted [] sort place))
index_told Body limit own site sort place (is_left_out text) body = tt

call_tree : (Body : Type 0) (own : Begun) (site : Site) (mode : Mode) (frames : List Frame) →
    is_call_site site ≡ true → Told Body own (on (call_goes own site mode frames))
call_tree Body own (in_annotation holder annotations) (complete (call name _ span)) [] is =
    tt
call_tree Body own (in_annotation holder annotations) (complete tree) [] is = tt
call_tree Body own (in_annotation holder annotations) mode frames is = tt
call_tree Body own (in_base fronted annotations) (complete (call name _ span)) [] is = tt
call_tree Body own (in_base fronted annotations) (complete tree) [] is = tt
call_tree Body own (in_base fronted annotations) mode frames is = tt
call_tree Body own site mode frames is = absurd (false≢true is)

call_made : (Body : Type 0) (own : Begun) (site : Site) (made : Step) →
    is_call_site site ≡ true → Told Body own (call_outcome own site made)
call_made Body own site (goes mode frames) is = call_tree Body own site mode frames is
call_made Body own site bad is = tt
call_made Body own site deep is = tt
call_made Body own site (is_left_out text) is = tt

call_told : (Body : Type 0) (limit : ℕ) (own : Begun) (site : Site) (mode : Mode)
    (frames : List Frame) (sort : Sort) (place : Span) → is_call_site site ≡ true →
    Told Body own (call_step limit own site mode frames sort place)
call_told Body limit own site mode [] sort place is =
    if_told Body own (may_name mode sort)
    (call_outcome own site (mode_step (suc limit) mode [] sort place)) wrong
    (call_made Body own site (mode_step (suc limit) mode [] sort place) is) tt
call_told Body limit own site mode (frame ∷ frames) sort place is =
    call_made Body own site (mode_step (suc limit) mode (frame ∷ frames) sort place) is

-- Fronts.

named_told : (Body : Type 0) (own : Begun) (of : Fronting) (head : Head) (ty : TypeTree)
    (name : Ident) → Told Body own (on (named_state own of head ty name))
named_told Body own (of_declaration at exported) head ty name = tt
named_told Body own (of_parameter owner parameters) head ty name = tt
named_told Body own (of_field held) head ty name = tt

deferred_told : (Body : Type 0) (at : ℕ) (own : Begun) (of : Fronting) (mode : Mode) →
    Told Body own (deferred_state at own of mode)
deferred_told Body at own (of_declaration from exported) mode = tt
deferred_told Body at own (of_parameter owner parameters) mode = tt
deferred_told Body at own (of_field held) mode = tt

front_mode : (Body : Type 0) (at : ℕ) (own : Begun) (of : Fronting) (mode : Mode) →
    Told Body own (front_goes at own of mode)
front_mode Body at own of (equals_wanted head ty name) = named_told Body own of head ty name
front_mode Body at own of (deferred_wanted head name) =
    deferred_told Body at own of (deferred_wanted head name)
front_mode Body at own of mode = tt

front_told : (Body : Type 0) (at : ℕ) (own : Begun) (of : Fronting) (made : Step) →
    Told Body own (front_outcome at own of made)
front_told Body at own of (goes mode frames) = front_mode Body at own of mode
front_told Body at own of bad = tt
front_told Body at own of deep = tt
front_told Body at own of (is_left_out text) = tt

-- With `;`.

item_added : (own : Begun) (at : ℕ) (items : List Qualified) (one : Option Qualified)
    (place : Span) → Told (Unit {0}) own (import_item own at items one semicolon place)
item_added own at items None place = tt
item_added own at items (Some item) place = tt

import_added : (own : Begun) (at : ℕ) (items : List Qualified) (naming : Naming) (place : Span) →
    Told (Unit {0}) own (import_step own at items naming semicolon place)
import_added own at [] (parted lead from parts end) place =
    item_added own at [] (qualified_from lead from parts end) place
import_added own at (item ∷ items) (parted lead from parts end) place =
    item_added own at (item ∷ items) (qualified_from lead from parts end) place
import_added own at [] naming place = tt
import_added own at (item ∷ items) naming place = tt

using_added : (own : Begun) (at : ℕ) (naming : Naming) (place : Span) →
    Told (Unit {0}) own (using_step own at naming semicolon place)
using_added own at (parted lead.Bare from [] end) place = tt
using_added own at (parted lead.Bare from (part ∷ []) end) place = tt
using_added own at (parted lead.Bare from (part ∷ other ∷ parts) end) place = tt
using_added own at (parted lead from parts end) place = tt
using_added own at naming place = tt

annotated_added : (own : Begun) (holder : Holder) (annotations : List Annotation) (end : ℕ)
    (place : Span) → (IsOwnEnd (annotated holder annotations end) → ⊥) →
    Told (Unit {0}) own (annotated_step own holder annotations end semicolon place)
annotated_added own the_module annotations end place none = absurd (none tt)
annotated_added own (a_function fronted parameters frequency) annotations end place none =
    longer_list own.declarations _
annotated_added own (an_annotation named parameters) annotations end place none =
    longer_list own.declarations _
annotated_added own holder annotations end place none = tt

finish_added : (own : Begun) (fronted : Fronted) (parameters : List Parameter)
    (frequency : Option Freq) (annotations : Option (List Annotation)) (limit : ℕ) (mode : Mode)
    (frames : List Frame) (place : Span) (end : Finish) →
    Told (Unit {0}) own (by_finish limit own
    (in_function_body fronted parameters frequency annotations) mode frames semicolon place end)
finish_added own fronted parameters frequency annotations limit mode frames place (finished tree) =
    longer_list own.declarations _
finish_added own fronted parameters frequency annotations limit mode frames place ends_deep = tt
finish_added own fronted parameters frequency annotations limit mode frames place ends_badly =
    expression_told (Unit {0}) own (in_function_body fronted parameters frequency annotations)
    (mode_step limit mode frames semicolon place) (λ is. tt)

field_added : (own : Begun) (held : Struct) (front : Front) (limit : ℕ) (mode : Mode)
    (frames : List Frame) (place : Span) (end : Finish) →
    Told (Unit {0}) own (by_finish limit own (in_field_default held front) mode frames semicolon
    place end)
field_added own held front limit mode frames place (finished tree) = tt
field_added own held front limit mode frames place ends_deep = tt
field_added own held front limit mode frames place ends_badly =
    expression_told (Unit {0}) own (in_field_default held front)
    (mode_step limit mode frames semicolon place) (λ is. tt)

site_added : (limit : ℕ) (own : Begun) (site : Site) (mode : Mode) (frames : List Frame)
    (place : Span) →
    Told (Unit {0}) own (expression_step limit own site mode frames semicolon place)
site_added limit own (in_function_body fronted parameters frequency annotations) mode frames place =
    finish_added own fronted parameters frequency annotations limit mode frames place
    (finish limit mode frames)
site_added limit own (in_default owner parameters front) mode frames place =
    expression_told (Unit {0}) own (in_default owner parameters front)
    (mode_step limit mode frames semicolon place) (λ is. tt)
site_added limit own (in_field_default held front) mode frames place =
    field_added own held front limit mode frames place (finish limit mode frames)
site_added limit own (in_annotation holder annotations) mode frames place =
    call_told (Unit {0}) limit own (in_annotation holder annotations) mode frames semicolon place
    refl
site_added limit own (in_base fronted annotations) mode frames place =
    call_told (Unit {0}) limit own (in_base fronted annotations) mode frames semicolon place refl

-- but for the end of the module's own annotations
pub semicolon_told : (limit token : ℕ) (own : Begun) (position : Position) (place : Span) →
    (IsOwnEnd position → ⊥) →
    Told (Unit {0}) own (position_step limit token own position semicolon place)
semicolon_told limit token own (item_wanted true) place none = tt
semicolon_told limit token own (item_wanted false) place none = tt
semicolon_told limit token own (importing at items naming) place none =
    import_added own at items naming place
semicolon_told limit token own (using at naming) place none = using_added own at naming place
semicolon_told limit token own (annotated holder annotations end) place none =
    annotated_added own holder annotations end place none
semicolon_told limit token own (fronting of mode) place none =
    front_told (Unit {0}) token own of (mode_step limit mode [] semicolon place)
semicolon_told limit token own (base_read fronted annotations one) place none =
    longer_list own.declarations _
semicolon_told limit token own (function_read fronted parameters None) place none =
    longer_list own.declarations _
semicolon_told limit token own (function_read fronted parameters (Some frequency)) place none =
    longer_list own.declarations _
semicolon_told limit token own (annotation_declared named parameters) place none =
    longer_list own.declarations _
semicolon_told limit token own (struct_closed held) place none = longer_list own.declarations _
semicolon_told limit token own (enum_closed held) place none = longer_list own.declarations _
semicolon_told limit token own (expression site mode frames) place none =
    site_added limit own site mode frames place
semicolon_told limit token own (opened site mode frames bracket) place none =
    index_told (Unit {0}) limit own site semicolon place
    (mode_step limit mode frames opening_bracket bracket) (λ is. tt)
semicolon_told limit token own position place none = tt

-- With `=`.

import_begins : (own : Begun) (at : ℕ) (items : List Qualified) (naming : Naming) (place : Span) →
    Told ⊥ own (import_step own at items naming equals place)
import_begins own at [] (parted lead from parts end) place = tt
import_begins own at (item ∷ items) (parted lead from parts end) place = tt
import_begins own at [] unnamed place = tt
import_begins own at (item ∷ items) unnamed place = tt
import_begins own at [] naming place = tt
import_begins own at (item ∷ items) naming place = tt

using_begins : (own : Begun) (at : ℕ) (naming : Naming) (place : Span) →
    Told ⊥ own (using_step own at naming equals place)
using_begins own at (parted lead.Bare from [] end) place = tt
using_begins own at (parted lead.Bare from (part ∷ []) end) place = tt
using_begins own at (parted lead.Bare from (part ∷ other ∷ parts) end) place = tt
using_begins own at (parted lead from parts end) place = tt
using_begins own at naming place = tt

annotated_begins : (own : Begun) (holder : Holder) (annotations : List Annotation) (end : ℕ)
    (place : Span) → (IsHead (within own (annotated holder annotations end)) → ⊥) →
    Told ⊥ own (annotated_step own holder annotations end equals place)
annotated_begins own (a_function fronted parameters frequency) annotations end place none =
    absurd (none tt)
annotated_begins own holder annotations end place none = tt

site_begins : (limit : ℕ) (own : Begun) (site : Site) (mode : Mode) (frames : List Frame)
    (place : Span) → (IsBodySite site → ⊥) →
    Told ⊥ own (expression_step limit own site mode frames equals place)
site_begins limit own (in_function_body fronted parameters frequency annotations) mode frames place
    none =
    absurd (none tt)
site_begins limit own (in_default owner parameters front) mode frames place none =
    expression_told ⊥ own (in_default owner parameters front)
    (mode_step limit mode frames equals place) none
site_begins limit own (in_field_default held front) mode frames place none =
    expression_told ⊥ own (in_field_default held front)
    (mode_step limit mode frames equals place) none
site_begins limit own (in_annotation holder annotations) mode frames place none =
    call_told ⊥ limit own (in_annotation holder annotations) mode frames equals place refl
site_begins limit own (in_base fronted annotations) mode frames place none =
    call_told ⊥ limit own (in_base fronted annotations) mode frames equals place refl

site_opened : (site : Site) → IsDefault site → IsBodySite site → ⊥
site_opened (in_function_body fronted parameters frequency annotations) default is = default
site_opened site default is = is

pub equals_told : (limit token : ℕ) (own : Begun) (position : Position) (place : Span) →
    MayStand (within own position) → (IsHead (within own position) → ⊥) → (IsBody position → ⊥) →
    Told ⊥ own (position_step limit token own position equals place)
equals_told limit token own (item_wanted true) place may head body = tt
equals_told limit token own (item_wanted false) place may head body = tt
equals_told limit token own (importing at items naming) place may head body =
    import_begins own at items naming place
equals_told limit token own (using at naming) place may head body = using_begins own at naming place
equals_told limit token own (annotated holder annotations end) place may head body =
    annotated_begins own holder annotations end place head
equals_told limit token own (fronting of mode) place may head body =
    front_told ⊥ token own of (mode_step limit mode [] equals place)
equals_told limit token own (function_read fronted parameters frequency) place may head body =
    absurd (head tt)
equals_told limit token own (expression site mode frames) place may head body =
    site_begins limit own site mode frames place body
equals_told limit token own (opened site mode frames bracket) place may head body =
    index_told ⊥ limit own site equals place (mode_step limit mode frames opening_bracket bracket)
    (site_opened site may)
equals_told limit token own position place may head body = tt

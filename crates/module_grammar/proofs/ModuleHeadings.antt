-- Where `import`, `using` and `export` lead the machine of modules, from whichever state.
use Rattle.std.proofs.Common.{◌≡◌, sym, ap, subst, refl, ℕ, suc, Bool, true, false, List, [], ◌∷◌}
use Rattle.std.proofs.Common.{Some, None, codes, if◌then◌else◌}
use Rattle.std.proofs.lemmas.Bool.{false≢true}
use Rattle.mdl_lexer.specs.declared.token.Token.{Token}
use Rattle.mdl_syntax.specs.declared.names.Span.{Span}
use Rattle.mdl_syntax.specs.declared.imports.Lead.TheVariants as lead
use Rattle.mdl_syntax.specs.declared.imports.Qualified.{Qualified}
use Rattle.mdl_syntax.specs.Modules.{Annotation}
use Rattle.expression_grammar.specs.inside.Sound.{IsReserved}
use Rattle.expression_grammar.specs.inside.Machine.{Sort, sort_of, import_word, using_word, export_word}
use Rattle.expression_grammar.specs.inside.Machine.{Mode, Frame, Step, goes, bad, deep, is_left_out}
use Rattle.expression_grammar.specs.inside.Machine.{mode_step, finish, wanted, part_read, word_read}
use Rattle.expression_grammar.specs.inside.Machine.{first_argument, argument_wanted, first_element}
use Rattle.expression_grammar.specs.inside.Machine.{equals_wanted, in_wanted, in_expression, in_type}
use Rattle.expression_grammar.specs.inside.Machine.{in_arguments, in_elements, in_let, from_to}
use Rattle.expression_grammar.specs.inside.Machine.{opening_bracket}
use Rattle.module_grammar.specs.inside.ModuleStates.{State, Outcome, Begun, Site, Holder, Fronting}
use Rattle.module_grammar.specs.inside.ModuleStates.{Position, Naming, on, wrong, within, item_wanted}
use Rattle.module_grammar.specs.inside.ModuleStates.{importing, using, used_wanted, first_annotation}
use Rattle.module_grammar.specs.inside.ModuleStates.{annotated, exported_read, function_read}
use Rattle.module_grammar.specs.inside.ModuleStates.{fronting, expression, opened, unnamed, parted}
use Rattle.module_grammar.specs.inside.ModuleStates.{in_function_body, in_default, in_field_default}
use Rattle.module_grammar.specs.inside.ModuleMachine.{import_step}
use Rattle.module_grammar.specs.inside.ModuleStates.{in_annotation, the_module}
use Rattle.module_grammar.specs.inside.ModuleMachine.{using_step, annotated_step, front_outcome}
use Rattle.module_grammar.specs.inside.ModuleMachine.{call_outcome, expression_outcome, call_step}
use Rattle.module_grammar.specs.inside.ModuleMachine.{value_step_of, expression_step, index_outcome}
use Rattle.module_grammar.specs.inside.ModuleMachine.{opened_step, by_finish, closes, is_call_site}
use Rattle.module_grammar.specs.inside.ModuleMachine.{may_name, is_bracket, position_step}
use Rattle.module_grammar.specs.inside.ModuleMachine.{module_sort_step, module_step}
use Rattle.module_grammar.specs.inside.ModuleMachine.{annotations_behind}

pub data Heading : Type 0 where
  an_import : Heading
  a_using : Heading
  an_export : Heading

abbrev pub heading_sort : Heading → Sort
heading_sort an_import = import_word
heading_sort a_using = using_word
heading_sort an_export = export_word

abbrev pub heading_text : Heading → List ℕ
heading_text an_import = codes "import"
heading_text a_using = codes "using"
heading_text an_export = codes "export"

pub heading_is : (heading : Heading) (token : Token) → IsReserved token (heading_text heading) →
    sort_of token.kind ≡ heading_sort heading
heading_is an_import token is = ap sort_of is.is
heading_is a_using token is = ap sort_of is.is
heading_is an_export token is = ap sort_of is.is

-- where the machine stands behind such a word
abbrev pub AfterImport : State → Type 0
AfterImport (within begun (importing at [] unnamed)) = Unit {0}
AfterImport (within begun (used_wanted at name)) = Unit {0}
AfterImport _ = ⊥

abbrev pub AfterUsing : State → Type 0
AfterUsing (within begun (using at unnamed)) = Unit {0}
AfterUsing _ = ⊥

abbrev pub AfterExport : State → Type 0
AfterExport (within begun (exported_read at)) = Unit {0}
AfterExport _ = ⊥

abbrev pub AfterHeading : Heading → State → Type 0
AfterHeading an_import state = AfterImport state
AfterHeading a_using state = AfterUsing state
AfterHeading an_export state = AfterExport state

abbrev ComesTo : Heading → Outcome → Type 0
ComesTo heading (on state) = AfterHeading heading state
ComesTo heading _ = Unit {0}

-- Expressions have no such words.

import_bad : (limit : ℕ) (mode : Mode) (frames : List Frame) (own : Span) →
    mode_step limit mode frames import_word own ≡ bad
import_bad limit (part_read in_expression path) frames own = refl
import_bad limit (part_read (in_type head) path) frames own = refl
import_bad limit (word_read in_expression name) frames own = refl
import_bad limit (word_read (in_type head) name) frames own = refl
import_bad limit first_argument [] own = refl
import_bad limit first_argument (in_arguments name before true label ∷ frames) own = refl
import_bad limit first_argument (in_arguments name before false label ∷ frames) own = refl
import_bad limit first_argument (frame ∷ frames) own = refl
import_bad limit argument_wanted [] own = refl
import_bad limit argument_wanted (in_arguments name before true label ∷ frames) own = refl
import_bad limit argument_wanted (in_arguments name before false label ∷ frames) own = refl
import_bad limit argument_wanted (frame ∷ frames) own = refl
import_bad limit first_element [] own = refl
import_bad limit first_element (in_elements name size trees ∷ frames) own = refl
import_bad limit first_element (frame ∷ frames) own = refl
import_bad limit (equals_wanted head ty name) [] own = refl
import_bad limit (equals_wanted head ty name) (in_let held ∷ frames) own = refl
import_bad limit (equals_wanted head ty name) (frame ∷ frames) own = refl
import_bad limit in_wanted [] own = refl
import_bad limit in_wanted (in_let held ∷ frames) own = refl
import_bad limit in_wanted (frame ∷ frames) own = refl
import_bad limit mode frames own = refl

using_bad : (limit : ℕ) (mode : Mode) (frames : List Frame) (own : Span) →
    mode_step limit mode frames using_word own ≡ bad
using_bad limit (part_read in_expression path) frames own = refl
using_bad limit (part_read (in_type head) path) frames own = refl
using_bad limit (word_read in_expression name) frames own = refl
using_bad limit (word_read (in_type head) name) frames own = refl
using_bad limit first_argument [] own = refl
using_bad limit first_argument (in_arguments name before true label ∷ frames) own = refl
using_bad limit first_argument (in_arguments name before false label ∷ frames) own = refl
using_bad limit first_argument (frame ∷ frames) own = refl
using_bad limit argument_wanted [] own = refl
using_bad limit argument_wanted (in_arguments name before true label ∷ frames) own = refl
using_bad limit argument_wanted (in_arguments name before false label ∷ frames) own = refl
using_bad limit argument_wanted (frame ∷ frames) own = refl
using_bad limit first_element [] own = refl
using_bad limit first_element (in_elements name size trees ∷ frames) own = refl
using_bad limit first_element (frame ∷ frames) own = refl
using_bad limit (equals_wanted head ty name) [] own = refl
using_bad limit (equals_wanted head ty name) (in_let held ∷ frames) own = refl
using_bad limit (equals_wanted head ty name) (frame ∷ frames) own = refl
using_bad limit in_wanted [] own = refl
using_bad limit in_wanted (in_let held ∷ frames) own = refl
using_bad limit in_wanted (frame ∷ frames) own = refl
using_bad limit mode frames own = refl

export_bad : (limit : ℕ) (mode : Mode) (frames : List Frame) (own : Span) →
    mode_step limit mode frames export_word own ≡ bad
export_bad limit (part_read in_expression path) frames own = refl
export_bad limit (part_read (in_type head) path) frames own = refl
export_bad limit (word_read in_expression name) frames own = refl
export_bad limit (word_read (in_type head) name) frames own = refl
export_bad limit first_argument [] own = refl
export_bad limit first_argument (in_arguments name before true label ∷ frames) own = refl
export_bad limit first_argument (in_arguments name before false label ∷ frames) own = refl
export_bad limit first_argument (frame ∷ frames) own = refl
export_bad limit argument_wanted [] own = refl
export_bad limit argument_wanted (in_arguments name before true label ∷ frames) own = refl
export_bad limit argument_wanted (in_arguments name before false label ∷ frames) own = refl
export_bad limit argument_wanted (frame ∷ frames) own = refl
export_bad limit first_element [] own = refl
export_bad limit first_element (in_elements name size trees ∷ frames) own = refl
export_bad limit first_element (frame ∷ frames) own = refl
export_bad limit (equals_wanted head ty name) [] own = refl
export_bad limit (equals_wanted head ty name) (in_let held ∷ frames) own = refl
export_bad limit (equals_wanted head ty name) (frame ∷ frames) own = refl
export_bad limit in_wanted [] own = refl
export_bad limit in_wanted (in_let held ∷ frames) own = refl
export_bad limit in_wanted (frame ∷ frames) own = refl
export_bad limit mode frames own = refl

heading_bad : (heading : Heading) (limit : ℕ) (mode : Mode) (frames : List Frame) (own : Span) →
    mode_step limit mode frames (heading_sort heading) own ≡ bad
heading_bad an_import limit mode frames own = import_bad limit mode frames own
heading_bad a_using limit mode frames own = using_bad limit mode frames own
heading_bad an_export limit mode frames own = export_bad limit mode frames own

-- Sites.

front_comes : (heading : Heading) (limit token : ℕ) (begun : Begun) (of : Fronting) (mode : Mode)
    (own : Span) → ComesTo heading
    (front_outcome token begun of (mode_step limit mode [] (heading_sort heading) own))
front_comes heading limit token begun of mode own =
    subst (λ made. ComesTo heading (front_outcome token begun of made))
    (sym (heading_bad heading limit mode [] own)) tt

made_comes : (heading : Heading) (limit : ℕ) (begun : Begun) (site : Site) (mode : Mode)
    (frames : List Frame) (own : Span) → ComesTo heading
    (expression_outcome begun site (mode_step limit mode frames (heading_sort heading) own))
made_comes heading limit begun site mode frames own =
    subst (λ made. ComesTo heading (expression_outcome begun site made))
    (sym (heading_bad heading limit mode frames own)) tt

called_comes : (heading : Heading) (limit : ℕ) (begun : Begun) (site : Site) (mode : Mode)
    (frames : List Frame) (own : Span) → ComesTo heading
    (call_outcome begun site (mode_step limit mode frames (heading_sort heading) own))
called_comes heading limit begun site mode frames own =
    subst (λ made. ComesTo heading (call_outcome begun site made))
    (sym (heading_bad heading limit mode frames own)) tt

either_comes : (heading : Heading) (test : Bool) (one other : Outcome) → ComesTo heading one →
    ComesTo heading other → ComesTo heading (if test then one else other)
either_comes heading true one other is others = is
either_comes heading false one other is others = others

otherwise_comes : (heading : Heading) (test : Bool) (one other : Outcome) → test ≡ false →
    ComesTo heading other → ComesTo heading (if test then one else other)
otherwise_comes heading true one other is others = absurd (false≢true (sym is))
otherwise_comes heading false one other is others = others

call_comes : (heading : Heading) (limit : ℕ) (begun : Begun) (site : Site) (mode : Mode)
    (frames : List Frame) (own : Span) →
    ComesTo heading (call_step limit begun site mode frames (heading_sort heading) own)
call_comes heading limit begun site mode [] own =
    either_comes heading (may_name mode (heading_sort heading))
    (call_outcome begun site (mode_step (suc limit) mode [] (heading_sort heading) own)) wrong
    (called_comes heading (suc limit) begun site mode [] own) tt
call_comes heading limit begun site mode (frame ∷ frames) own =
    called_comes heading (suc limit) begun site mode (frame ∷ frames) own

closes_none : (heading : Heading) (site : Site) → closes site (heading_sort heading) ≡ false
closes_none an_import (in_function_body fronted parameters frequency annotations) = refl
closes_none an_import (in_default owner parameters front) = refl
closes_none an_import (in_field_default held front) = refl
closes_none an_import site = refl
closes_none a_using (in_function_body fronted parameters frequency annotations) = refl
closes_none a_using (in_default owner parameters front) = refl
closes_none a_using (in_field_default held front) = refl
closes_none a_using site = refl
closes_none an_export (in_function_body fronted parameters frequency annotations) = refl
closes_none an_export (in_default owner parameters front) = refl
closes_none an_export (in_field_default held front) = refl
closes_none an_export site = refl

value_comes : (heading : Heading) (limit : ℕ) (begun : Begun) (site : Site) (mode : Mode)
    (frames : List Frame) (own : Span) →
    ComesTo heading (value_step_of limit begun site mode frames (heading_sort heading) own)
value_comes heading limit begun site mode frames own =
    otherwise_comes heading (closes site (heading_sort heading))
    (by_finish limit begun site mode frames (heading_sort heading) own (finish limit mode frames))
    (expression_outcome begun site (mode_step limit mode frames (heading_sort heading) own))
    (closes_none heading site) (made_comes heading limit begun site mode frames own)

expression_comes : (heading : Heading) (limit : ℕ) (begun : Begun) (site : Site) (mode : Mode)
    (frames : List Frame) (own : Span) →
    ComesTo heading (expression_step limit begun site mode frames (heading_sort heading) own)
expression_comes heading limit begun site mode frames own =
    either_comes heading (is_call_site site)
    (call_step limit begun site mode frames (heading_sort heading) own)
    (value_step_of limit begun site mode frames (heading_sort heading) own)
    (call_comes heading limit begun site mode frames own)
    (value_comes heading limit begun site mode frames own)

index_comes : (heading : Heading) (limit : ℕ) (begun : Begun) (site : Site) (own : Span)
    (made : Step) →
    ComesTo heading (index_outcome limit begun site (heading_sort heading) own made)
index_comes heading limit begun site own (goes mode below) =
    made_comes heading limit begun site mode below own
index_comes heading limit begun site own bad = tt
index_comes an_import limit begun site own deep = tt
index_comes a_using limit begun site own deep = tt
index_comes an_export limit begun site own deep = tt
index_comes heading limit begun site own (is_left_out text) = tt

no_bracket : (heading : Heading) → is_bracket (heading_sort heading) ≡ false
no_bracket an_import = refl
no_bracket a_using = refl
no_bracket an_export = refl

opened_comes : (heading : Heading) (limit : ℕ) (begun : Begun) (site : Site) (mode : Mode)
    (frames : List Frame) (bracket own : Span) →
    ComesTo heading (opened_step limit begun site mode frames bracket (heading_sort heading) own)
opened_comes heading limit begun site mode frames bracket own =
    otherwise_comes heading (is_bracket (heading_sort heading))
    (annotations_behind begun site (finish limit mode frames))
    (index_outcome limit begun site (heading_sort heading) own
    (mode_step limit mode frames opening_bracket bracket)) (no_bracket heading)
    (index_comes heading limit begun site own
    (mode_step limit mode frames opening_bracket bracket))

-- Positions.

import_in_import : (begun : Begun) (at : ℕ) (items : List Qualified) (naming : Naming)
    (own : Span) → ComesTo an_import (import_step begun at items naming import_word own)
import_in_import begun at [] unnamed own = tt
import_in_import begun at [] naming own = tt
import_in_import begun at (item ∷ items) unnamed own = tt
import_in_import begun at (item ∷ items) naming own = tt

import_in_using : (begun : Begun) (at : ℕ) (naming : Naming) (own : Span) →
    ComesTo an_import (using_step begun at naming import_word own)
import_in_using begun at (parted lead.Bare from [] end) own = tt
import_in_using begun at (parted lead.Bare from (part ∷ []) end) own = tt
import_in_using begun at (parted lead.Bare from (part ∷ other ∷ parts) end) own = tt
import_in_using begun at (parted lead from parts end) own = tt
import_in_using begun at naming own = tt

import_annotated : (begun : Begun) (holder : Holder) (annotations : List Annotation) (end : ℕ)
    (own : Span) → ComesTo an_import (annotated_step begun holder annotations end import_word own)
import_annotated begun the_module annotations end own = tt
import_annotated begun holder annotations end own = tt

import_comes : (limit token : ℕ) (begun : Begun) (position : Position) (own : Span) →
    ComesTo an_import (position_step limit token begun position import_word own)
import_comes limit token begun (item_wanted true) own = tt
import_comes limit token begun (item_wanted false) own = tt
import_comes limit token begun (importing at items naming) own =
    import_in_import begun at items naming own
import_comes limit token begun (using at naming) own = import_in_using begun at naming own
import_comes limit token begun (first_annotation holder) own =
    call_comes an_import limit begun (in_annotation holder []) wanted [] own
import_comes limit token begun (annotated holder annotations end) own =
    import_annotated begun holder annotations end own
import_comes limit token begun (function_read fronted parameters None) own = tt
import_comes limit token begun (function_read fronted parameters (Some frequency)) own = tt
import_comes limit token begun (fronting of mode) own =
    front_comes an_import limit token begun of mode own
import_comes limit token begun (expression site mode frames) own =
    expression_comes an_import limit begun site mode frames own
import_comes limit token begun (opened site mode frames bracket) own =
    opened_comes an_import limit begun site mode frames bracket own
import_comes limit token begun position own = tt

using_in_import : (begun : Begun) (at : ℕ) (items : List Qualified) (naming : Naming)
    (own : Span) → ComesTo a_using (import_step begun at items naming using_word own)
using_in_import begun at [] unnamed own = tt
using_in_import begun at [] naming own = tt
using_in_import begun at (item ∷ items) unnamed own = tt
using_in_import begun at (item ∷ items) naming own = tt

using_in_using : (begun : Begun) (at : ℕ) (naming : Naming) (own : Span) →
    ComesTo a_using (using_step begun at naming using_word own)
using_in_using begun at (parted lead.Bare from [] end) own = tt
using_in_using begun at (parted lead.Bare from (part ∷ []) end) own = tt
using_in_using begun at (parted lead.Bare from (part ∷ other ∷ parts) end) own = tt
using_in_using begun at (parted lead from parts end) own = tt
using_in_using begun at naming own = tt

using_annotated : (begun : Begun) (holder : Holder) (annotations : List Annotation) (end : ℕ)
    (own : Span) → ComesTo a_using (annotated_step begun holder annotations end using_word own)
using_annotated begun the_module annotations end own = tt
using_annotated begun holder annotations end own = tt

using_comes : (limit token : ℕ) (begun : Begun) (position : Position) (own : Span) →
    ComesTo a_using (position_step limit token begun position using_word own)
using_comes limit token begun (item_wanted true) own = tt
using_comes limit token begun (item_wanted false) own = tt
using_comes limit token begun (importing at items naming) own =
    using_in_import begun at items naming own
using_comes limit token begun (using at naming) own = using_in_using begun at naming own
using_comes limit token begun (first_annotation holder) own =
    call_comes a_using limit begun (in_annotation holder []) wanted [] own
using_comes limit token begun (annotated holder annotations end) own =
    using_annotated begun holder annotations end own
using_comes limit token begun (function_read fronted parameters None) own = tt
using_comes limit token begun (function_read fronted parameters (Some frequency)) own = tt
using_comes limit token begun (fronting of mode) own =
    front_comes a_using limit token begun of mode own
using_comes limit token begun (expression site mode frames) own =
    expression_comes a_using limit begun site mode frames own
using_comes limit token begun (opened site mode frames bracket) own =
    opened_comes a_using limit begun site mode frames bracket own
using_comes limit token begun position own = tt

export_in_import : (begun : Begun) (at : ℕ) (items : List Qualified) (naming : Naming)
    (own : Span) → ComesTo an_export (import_step begun at items naming export_word own)
export_in_import begun at [] unnamed own = tt
export_in_import begun at [] naming own = tt
export_in_import begun at (item ∷ items) unnamed own = tt
export_in_import begun at (item ∷ items) naming own = tt

export_in_using : (begun : Begun) (at : ℕ) (naming : Naming) (own : Span) →
    ComesTo an_export (using_step begun at naming export_word own)
export_in_using begun at (parted lead.Bare from [] end) own = tt
export_in_using begun at (parted lead.Bare from (part ∷ []) end) own = tt
export_in_using begun at (parted lead.Bare from (part ∷ other ∷ parts) end) own = tt
export_in_using begun at (parted lead from parts end) own = tt
export_in_using begun at naming own = tt

export_annotated : (begun : Begun) (holder : Holder) (annotations : List Annotation) (end : ℕ)
    (own : Span) → ComesTo an_export (annotated_step begun holder annotations end export_word own)
export_annotated begun the_module annotations end own = tt
export_annotated begun holder annotations end own = tt

export_comes : (limit token : ℕ) (begun : Begun) (position : Position) (own : Span) →
    ComesTo an_export (position_step limit token begun position export_word own)
export_comes limit token begun (item_wanted true) own = tt
export_comes limit token begun (item_wanted false) own = tt
export_comes limit token begun (importing at items naming) own =
    export_in_import begun at items naming own
export_comes limit token begun (using at naming) own = export_in_using begun at naming own
export_comes limit token begun (first_annotation holder) own =
    call_comes an_export limit begun (in_annotation holder []) wanted [] own
export_comes limit token begun (annotated holder annotations end) own =
    export_annotated begun holder annotations end own
export_comes limit token begun (function_read fronted parameters None) own = tt
export_comes limit token begun (function_read fronted parameters (Some frequency)) own = tt
export_comes limit token begun (fronting of mode) own =
    front_comes an_export limit token begun of mode own
export_comes limit token begun (expression site mode frames) own =
    expression_comes an_export limit begun site mode frames own
export_comes limit token begun (opened site mode frames bracket) own =
    opened_comes an_export limit begun site mode frames bracket own
export_comes limit token begun position own = tt

state_comes : (heading : Heading) (limit token : ℕ) (state : State) (own : Span) →
    ComesTo heading (module_sort_step limit token state (heading_sort heading) own)
state_comes an_import limit token (within begun position) own =
    import_comes limit token begun position own
state_comes an_import limit token state own = tt
state_comes a_using limit token (within begun position) own =
    using_comes limit token begun position own
state_comes a_using limit token state own = tt
state_comes an_export limit token (within begun position) own =
    export_comes limit token begun position own
state_comes an_export limit token state own = tt

-- behind such a word the machine stands only so
pub heading_leads : (heading : Heading) (limit number : ℕ) (before after : State) (token : Token) →
    IsReserved token (heading_text heading) →
    module_step limit number before token ≡ on after → AfterHeading heading after
heading_leads heading limit number before after token is steps =
    subst (ComesTo heading) steps
    (subst (λ sort. ComesTo heading
    (module_sort_step limit number before sort (from_to token.at token.end)))
    (sym (heading_is heading token is))
    (state_comes heading limit number before (from_to token.at token.end)))

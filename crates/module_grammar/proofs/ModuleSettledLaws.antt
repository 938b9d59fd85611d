-- Steps between expressions don't look at the limit: they go on, are wrong or leave a token out.
use Rattle.std.proofs.Common.{◌≡◌, ◌∙◌, ap, refl, arith, ℕ, Bool, true, false, List, [], ◌∷◌, ◌++◌}
use Rattle.std.proofs.Common.{Option, Some, None, if◌then◌else◌}
use Rattle.std.specs.Prelude.{nat_le, not}
use Rattle.std.proofs.lemmas.Bool.{cond-true, le-leb, false≢true}
use Rattle.mdl_syntax.specs.declared.names.Span.{Span}
use Rattle.mdl_syntax.specs.declared.names.Ident.{Ident}
use Rattle.mdl_syntax.specs.declared.expressions.Lit.TheVariants as lit
use Rattle.mdl_syntax.specs.declared.imports.Lead.TheVariants as lead_form
use Rattle.mdl_syntax.specs.declared.imports.ModuleRef.{ModuleRef}
use Rattle.mdl_syntax.specs.declared.imports.Qualified.{Qualified}
use Rattle.mdl_syntax.specs.declared.modules.VersionLit.{VersionLit}
use Rattle.mdl_syntax.specs.Modules.{Parameter}
use Rattle.expression_grammar.specs.inside.Machine.{Sort, Mode, Step, goes, bad, deep, is_left_out}
use Rattle.expression_grammar.specs.inside.Machine.{identifier, other_literal, binary_operator, opening}
use Rattle.expression_grammar.specs.inside.Machine.{closing, opening_bracket, comma, semicolon, equals}
use Rattle.expression_grammar.specs.inside.Machine.{import_word, using_word, module_word, export_word}
use Rattle.expression_grammar.specs.inside.Machine.{struct_word, enum_word, annotation_word, head_step}
use Rattle.expression_grammar.specs.inside.Machine.{type_step, head_wanted, type_wanted, equals_wanted}
use Rattle.expression_grammar.specs.inside.Machine.{is_deferred}
use Rattle.module_grammar.specs.inside.ModuleStates.{Begun, Naming, Named, Fronted, Front, Owner}
use Rattle.module_grammar.specs.inside.ModuleStates.{Fronting, Kin, Position, Outcome, on, waits}
use Rattle.module_grammar.specs.inside.ModuleStates.{wrong, mdl_wanted, version_wanted, version_read}
use Rattle.module_grammar.specs.inside.ModuleStates.{too_deep, leaves_out, statement_body}
use Rattle.module_grammar.specs.inside.ModuleStates.{other_version, within, unnamed, parted}
use Rattle.module_grammar.specs.inside.ModuleStates.{open_ended, importing, imported, using, used_all}
use Rattle.module_grammar.specs.inside.ModuleStates.{fronting, of_function, of_annotation}
use Rattle.module_grammar.specs.inside.ModuleStates.{of_declaration, of_parameter, of_field}
use Rattle.module_grammar.specs.inside.ModuleMachine.{naming_or, import_ends, import_item}
use Rattle.module_grammar.specs.inside.ModuleStates.{naming_step}
use Rattle.module_grammar.specs.inside.ModuleMachine.{import_step, all_of, using_step}
use Rattle.module_grammar.specs.inside.ModuleMachine.{used_wanted_step, used_read_step, used_next_step}
use Rattle.module_grammar.specs.inside.ModuleMachine.{used_all_step}
use Rattle.module_grammar.specs.inside.ModuleStates.{qualified_from, is_star}
use Rattle.module_grammar.specs.inside.ModuleMachine.{deferred_state, front_goes, front_outcome}
use Rattle.module_grammar.specs.inside.ModuleMachine.{first_front_step, no_frequency, declaration_step}
use Rattle.module_grammar.specs.inside.ModuleMachine.{item_step, exported_step, kin_step}
use Rattle.module_grammar.specs.inside.ModuleMachine.{annotation_named_step, declared_step, star_step}
use Rattle.module_grammar.specs.inside.ModuleMachine.{parameters_step, parameter_ends, parameter_step}
use Rattle.module_grammar.specs.inside.ModuleMachine.{version_ends}
use Rattle.module_grammar.specs.inside.ModuleStates.{plain_parameter}
use Rattle.expression_grammar.proofs.RoomLaws.{Limited, always, roomy, stays, mode_limited}

-- what a step comes to where the limit plays no part. Inside a module it goes on inside
abbrev pub is_settled : Bool → Outcome → Bool
is_settled inside (on (within begun position)) = true
is_settled inside (on mdl_wanted) = not inside
is_settled inside (on (version_wanted at)) = not inside
is_settled inside (on (version_read at version)) = not inside
is_settled inside (waits state) = false
is_settled inside wrong = true
is_settled inside too_deep = false
is_settled inside (leaves_out None text) = true
is_settled inside (leaves_out (Some earlier) text) = false
is_settled inside statement_body = true
is_settled inside other_version = false

abbrev pub Settled : Outcome → Type 0
Settled made = is_settled true made ≡ true

pub if_settled : (test : Bool) (one other : Outcome) → Settled one → Settled other →
    Settled (if test then one else other)
if_settled true one other is others = is
if_settled false one other is others = others

-- Imports.

naming_or_settled : (begun : Begun) (goes_to : Naming → Position) (naming : Option Naming) →
    Settled (naming_or (λ next. within begun (goes_to next)) naming)
naming_or_settled begun goes_to None = refl
naming_or_settled begun goes_to (Some naming) = refl

pub import_ends_settled : (begun : Begun) (at : ℕ) (items : List Qualified) (sort : Sort)
    (place : Span) → Settled (import_ends begun at items sort place)
import_ends_settled begun at items comma place = refl
import_ends_settled begun at items semicolon place = refl
import_ends_settled begun at items sort place = refl

import_item_settled : (begun : Begun) (at : ℕ) (items : List Qualified) (one : Option Qualified)
    (sort : Sort) (place : Span) → Settled (import_item begun at items one sort place)
import_item_settled begun at items None sort place = refl
import_item_settled begun at items (Some item) sort place =
    import_ends_settled begun at (items ++ item ∷ []) sort place

pub import_settled : (begun : Begun) (at : ℕ) (items : List Qualified) (naming : Naming)
    (sort : Sort) (place : Span) → Settled (import_step begun at items naming sort place)
import_settled begun at [] unnamed (other_literal (lit.Str text)) place = refl
import_settled begun at items (parted lead from parts end) comma place =
    import_item_settled begun at items (qualified_from lead from parts end) comma place
import_settled begun at items (parted lead from parts end) semicolon place =
    import_item_settled begun at items (qualified_from lead from parts end) semicolon place
import_settled begun at items (open_ended lead from parts end) (binary_operator op level) place =
    let one = all_of lead from parts end place.end in
    if_settled (is_star op) (on (within begun (imported at (items ++ one ∷ [])))) wrong refl refl
import_settled begun at items naming sort place =
    naming_or_settled begun (λ next. importing at items next) (naming_step naming sort place)

pub using_settled : (begun : Begun) (at : ℕ) (naming : Naming) (sort : Sort) (place : Span) →
    Settled (using_step begun at naming sort place)
using_settled begun at unnamed (other_literal (lit.Str text)) place = refl
using_settled begun at (parted lead_form.Bare from (part ∷ []) end) equals place = refl
using_settled begun at (parted lead from parts end) import_word place = refl
using_settled begun at naming sort place =
    naming_or_settled begun (λ next. using at next) (naming_step naming sort place)

pub used_wanted_settled : (begun : Begun) (at : ℕ) (name : ModuleRef) (sort : Sort) (place : Span) →
    Settled (used_wanted_step begun at name sort place)
used_wanted_settled begun at name (identifier text) place = refl
used_wanted_settled begun at name (binary_operator op level) place =
    if_settled (is_star op) (on (within begun (used_all at name))) wrong refl refl
used_wanted_settled begun at name (other_literal (lit.Str text)) place = refl
used_wanted_settled begun at name (other_literal other) place = refl
used_wanted_settled begun at name sort place = refl

pub used_read_settled : (begun : Begun) (at : ℕ) (name : ModuleRef) (names : List Ident)
    (sort : Sort) (place : Span) → Settled (used_read_step begun at name names sort place)
used_read_settled begun at name names comma place = refl
used_read_settled begun at name names semicolon place = refl
used_read_settled begun at name names sort place = refl

pub used_next_settled : (begun : Begun) (at : ℕ) (name : ModuleRef) (names : List Ident)
    (sort : Sort) (place : Span) → Settled (used_next_step begun at name names sort place)
used_next_settled begun at name names (identifier text) place = refl
used_next_settled begun at name names sort place = refl

pub used_all_settled : (begun : Begun) (at : ℕ) (name : ModuleRef) (sort : Sort) (place : Span) →
    Settled (used_all_step begun at name sort place)
used_all_settled begun at name semicolon place = refl
used_all_settled begun at name sort place = refl

-- Types with a name behind them.

-- it goes on inside the module
abbrev pub IsOn : Outcome → Type 0
IsOn (on (within begun position)) = Unit {0}
IsOn _ = ⊥

if_on : (test : Bool) (one other : Outcome) → IsOn one → IsOn other →
    IsOn (if test then one else other)
if_on true one other is others = is
if_on false one other is others = others

deferred_on : (at : ℕ) (begun : Begun) (of : Fronting) (mode : Mode) →
    IsOn (deferred_state at begun of mode)
deferred_on at begun (of_parameter owner parameters) mode = tt
deferred_on at begun of mode = tt

-- behind a step that goes on, the front goes on
pub front_on : (at : ℕ) (begun : Begun) (of : Fronting) (mode : Mode) →
    IsOn (front_goes at begun of mode)
front_on at begun (of_declaration from exported) (equals_wanted head ty name) = tt
front_on at begun (of_parameter owner parameters) (equals_wanted head ty name) = tt
front_on at begun (of_field held) (equals_wanted head ty name) = tt
front_on at begun of mode =
    if_on (is_deferred mode) (deferred_state at begun of mode)
    (on (within begun (fronting of mode))) (deferred_on at begun of mode) tt

on_settled : (made : Outcome) → IsOn made → Settled made
on_settled (on (within begun position)) is = refl
on_settled _ is = absurd is

pub front_settled : (at : ℕ) (begun : Begun) (of : Fronting) (made : Step) → stays made ≡ true →
    Settled (front_outcome at begun of made)
front_settled at begun of (goes mode frames) ok =
    on_settled (front_goes at begun of mode) (front_on at begun of mode)
front_settled at begun of bad ok = refl
front_settled at begun of deep ok = absurd (false≢true ok)
front_settled at begun of (is_left_out text) ok = refl

-- a step without a limit
constant_stays : (made : Step) → Limited (λ limit. made) → stays made ≡ true
constant_stays made (always what ok same) = ap stays (same 0) ∙ ok
constant_stays made (roomy need mode frames same) =
    ap stays (same need ∙ cond-true (nat_le need need) (goes mode frames) deep
    (le-leb need need (omega arith)))

pub first_front_settled : (token : ℕ) (begun : Begun) (of : Fronting) (sort : Sort) (place : Span) →
    Settled (first_front_step token begun of sort place)
first_front_settled token begun of sort place =
    front_settled token begun of (head_step [] sort place)
    (constant_stays (head_step [] sort place) (mode_limited head_wanted [] sort place))

declaration_settled : (token : ℕ) (begun : Begun) (at : ℕ) (exported : Bool) (sort : Sort)
    (place : Span) → Settled (declaration_step token begun at exported sort place)
declaration_settled token begun at exported struct_word place = refl
declaration_settled token begun at exported enum_word place = refl
declaration_settled token begun at exported annotation_word place = refl
declaration_settled token begun at exported sort place =
    let made = type_step (no_frequency place.at) [] sort place in
    front_settled token begun (of_declaration at exported) made
    (constant_stays made (mode_limited (type_wanted (no_frequency place.at)) [] sort place))

pub item_settled : (token : ℕ) (begun : Begun) (early : Bool) (sort : Sort) (place : Span) →
    Settled (item_step token begun early sort place)
item_settled token begun true import_word place = refl
item_settled token begun true using_word place = refl
item_settled token begun true module_word place = refl
item_settled token begun early export_word place = refl
item_settled token begun early sort place =
    declaration_settled token begun place.at false sort place

pub exported_settled : (token : ℕ) (begun : Begun) (at : ℕ) (sort : Sort) (place : Span) →
    Settled (exported_step token begun at sort place)
exported_settled token begun at using_word place = refl
exported_settled token begun at sort place = declaration_settled token begun at true sort place

pub kin_settled : (begun : Begun) (at : ℕ) (exported : Bool) (kin : Kin) (sort : Sort)
    (place : Span) → Settled (kin_step begun at exported kin sort place)
kin_settled begun at exported kin (identifier text) place = refl
kin_settled begun at exported kin sort place = refl

pub annotation_named_settled : (begun : Begun) (named : Named) (sort : Sort) →
    Settled (annotation_named_step begun named sort)
annotation_named_settled begun named opening = refl
annotation_named_settled begun named sort = refl

pub declared_settled : (begun : Begun) (fronted : Fronted) (sort : Sort) →
    Settled (declared_step begun fronted sort)
declared_settled begun fronted opening = refl
declared_settled begun fronted sort = refl

-- Parameters.

star_settled : (begun : Begun) (owner : Owner) → Settled (star_step begun owner)
star_settled begun (of_function fronted) = refl
star_settled begun (of_annotation named) = refl

pub parameters_settled : (token : ℕ) (begun : Begun) (owner : Owner) (sort : Sort) (place : Span) →
    Settled (parameters_step token begun owner sort place)
parameters_settled token begun owner closing place = refl
parameters_settled token begun owner (binary_operator op level) place =
    if_settled (is_star op) (star_step begun owner) wrong (star_settled begun owner) refl
parameters_settled token begun owner sort place =
    first_front_settled token begun (of_parameter owner []) sort place

pub parameter_ends_settled : (begun : Begun) (owner : Owner) (parameters : List Parameter)
    (sort : Sort) → Settled (parameter_ends begun owner parameters sort)
parameter_ends_settled begun owner parameters comma = refl
parameter_ends_settled begun owner parameters closing = refl
parameter_ends_settled begun owner parameters sort = refl

pub parameter_settled : (begun : Begun) (owner : Owner) (parameters : List Parameter)
    (front : Front) (sort : Sort) → Settled (parameter_step begun owner parameters front sort)
parameter_settled begun owner parameters front equals = refl
parameter_settled begun owner parameters front opening_bracket = refl
parameter_settled begun owner parameters front sort =
    parameter_ends_settled begun owner (parameters ++ plain_parameter front None ∷ []) sort

-- The version.

pub version_ends_settled : (at : ℕ) (version : VersionLit) (sort : Sort) (place : Span) →
    Settled (version_ends at version sort place)
version_ends_settled at version semicolon place = refl
version_ends_settled at version sort place = refl

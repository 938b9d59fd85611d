-- A step in an import keeps the state of the machine of modules fit.
use Rattle.std.proofs.Common.{◌≢◌, ℕ, Bool, true, false, List, [], ◌∷◌, ◌++◌, Option, Some, None}
use Rattle.std.proofs.Common.{if◌then◌else◌}
use Rattle.std.specs.List.{AllByRecursion}
use Rattle.mdl_syntax.specs.declared.names.Span.{Span}
use Rattle.mdl_syntax.specs.declared.names.Ident.{Ident}
use Rattle.mdl_syntax.specs.declared.expressions.Lit.TheVariants as lit
use Rattle.mdl_syntax.specs.declared.imports.Lead.TheVariants as lead_form
use Rattle.mdl_syntax.specs.declared.imports.ModuleRef.{ModuleRef}
use Rattle.mdl_syntax.specs.declared.imports.Qualified.{Qualified}
use Rattle.mdl_syntax.specs.declared.imports.Import.TheVariants as import_form
use Rattle.mdl_syntax.specs.LevelledModules.{IsModuleName}
use Rattle.expression_grammar.specs.inside.Machine.{Sort, identifier, other_literal, binary_operator, comma, semicolon}
use Rattle.expression_grammar.specs.inside.Machine.{equals, import_word, from_to, ident_at}
use Rattle.module_grammar.specs.inside.ModuleStates.{Begun, Naming, State, Outcome, on, wrong, within, unnamed, parted}
use Rattle.module_grammar.specs.inside.ModuleMachine.{naming_or}
use Rattle.module_grammar.specs.inside.ModuleStates.{open_ended, importing, imported, using, used_all}
use Rattle.module_grammar.specs.inside.ModuleMachine.{import_ends, import_item, import_step, all_of}
use Rattle.module_grammar.specs.inside.ModuleStates.{naming_step}
use Rattle.module_grammar.specs.inside.ModuleMachine.{using_step, used_wanted_step, used_read_step, used_next_step}
use Rattle.module_grammar.specs.inside.ModuleMachine.{used_all_step}
use Rattle.module_grammar.specs.inside.ModuleStates.{qualified_from, is_star}
use Rattle.module_grammar.specs.inside.ModuleFits.{ModuleFits, BegunFits, QualifiedFits, NamingFits}
use Rattle.module_grammar.proofs.ModuleFitsParts.{all_and_one, one_more, NamingKept, naming_fits, QualifiedKept}
use Rattle.module_grammar.proofs.ModuleFitsParts.{qualified_fits}
use Rattle.module_grammar.proofs.ModuleFitsFronts.{OutcomeFits}
use Rattle.module_grammar.proofs.ModuleFitsDeclarations.{import_fits}

pub if_fits : (limit : ℕ) (test : Bool) (one other : Outcome) → OutcomeFits limit one →
    OutcomeFits limit other → OutcomeFits limit (if test then one else other)
if_fits limit true one other fits others = fits
if_fits limit false one other fits others = others

naming_or_fits : (limit : ℕ) (goes_to : Naming → State) (naming : Option Naming) → NamingKept naming →
    ((next : Naming) → NamingFits next → ModuleFits limit (goes_to next)) →
    OutcomeFits limit (naming_or goes_to naming)
naming_or_fits limit goes_to None kept fits = tt
naming_or_fits limit goes_to (Some naming) kept fits = fits naming kept

pub import_ends_fits : (limit : ℕ) (begun : Begun) (at : ℕ) (items : List Qualified) (sort : Sort)
    (place : Span) → BegunFits limit begun → AllByRecursion QualifiedFits items → items ≢ [] →
    OutcomeFits limit (import_ends begun at items sort place)
import_ends_fits limit begun at items comma place begins all some = (begins, (all, tt))
import_ends_fits limit begun at items semicolon place begins all some =
    import_fits limit begun (import_form.Import items (from_to at place.end)) place.end begins (some, all)
import_ends_fits limit begun at items sort place begins all some = tt

import_item_fits : (limit : ℕ) (begun : Begun) (at : ℕ) (items : List Qualified) (one : Option Qualified)
    (sort : Sort) (place : Span) → BegunFits limit begun → AllByRecursion QualifiedFits items →
    QualifiedKept one → OutcomeFits limit (import_item begun at items one sort place)
import_item_fits limit begun at items None sort place begins all kept = tt
import_item_fits limit begun at items (Some item) sort place begins all kept =
    import_ends_fits limit begun at (items ++ item ∷ []) sort place begins
    (all_and_one QualifiedFits items item all kept) (one_more items item)

pub import_step_fits : (limit : ℕ) (begun : Begun) (at : ℕ) (items : List Qualified) (naming : Naming)
    (sort : Sort) (place : Span) → BegunFits limit begun → AllByRecursion QualifiedFits items →
    NamingFits naming → OutcomeFits limit (import_step begun at items naming sort place)
import_step_fits limit begun at [] unnamed (other_literal (lit.Str text)) place begins all fits = tt
import_step_fits limit begun at items (parted lead from parts end) comma place begins all fits =
    import_item_fits limit begun at items (qualified_from lead from parts end) comma place begins all
    (qualified_fits lead from parts end fits.0)
import_step_fits limit begun at items (parted lead from parts end) semicolon place begins all fits =
    import_item_fits limit begun at items (qualified_from lead from parts end) semicolon place begins all
    (qualified_fits lead from parts end fits.0)
import_step_fits limit begun at items (open_ended lead from parts end) (binary_operator op level) place
    begins all fits =
    let one = all_of lead from parts end place.end in
    if_fits limit (is_star op) (on (within begun (imported at (items ++ one ∷ [])))) wrong
    (begins, (all_and_one QualifiedFits items one all fits, one_more items one)) tt
import_step_fits limit begun at items naming sort place begins all fits =
    naming_or_fits limit (λ next. within begun (importing at items next)) (naming_step naming sort place)
    (naming_fits naming sort place fits) (λ next is. (begins, (all, is)))

pub using_step_fits : (limit : ℕ) (begun : Begun) (at : ℕ) (naming : Naming) (sort : Sort) (place : Span) →
    BegunFits limit begun → NamingFits naming → OutcomeFits limit (using_step begun at naming sort place)
using_step_fits limit begun at unnamed (other_literal (lit.Str text)) place begins fits = tt
using_step_fits limit begun at (parted lead_form.Bare from (part ∷ []) end) equals place begins fits = tt
using_step_fits limit begun at (parted lead from parts end) import_word place begins fits = (begins, fits)
using_step_fits limit begun at naming sort place begins fits =
    naming_or_fits limit (λ next. within begun (using at next)) (naming_step naming sort place)
    (naming_fits naming sort place fits) (λ next is. (begins, is))

pub used_wanted_fits : (limit : ℕ) (begun : Begun) (at : ℕ) (name : ModuleRef) (sort : Sort) (place : Span) →
    BegunFits limit begun → IsModuleName name → OutcomeFits limit (used_wanted_step begun at name sort place)
used_wanted_fits limit begun at name (identifier text) place begins fits = (begins, (fits, λ e. cc))
used_wanted_fits limit begun at name (binary_operator op level) place begins fits =
    if_fits limit (is_star op) (on (within begun (used_all at name))) wrong (begins, fits) tt
used_wanted_fits limit begun at name (other_literal (lit.Str text)) place begins fits = tt
used_wanted_fits limit begun at name (other_literal other) place begins fits = tt
used_wanted_fits limit begun at name sort place begins fits = tt

pub used_read_fits : (limit : ℕ) (begun : Begun) (at : ℕ) (name : ModuleRef) (names : List Ident) (sort : Sort)
    (place : Span) → BegunFits limit begun → IsModuleName name → names ≢ [] →
    OutcomeFits limit (used_read_step begun at name names sort place)
used_read_fits limit begun at name names comma place begins fits some = (begins, (fits, some))
used_read_fits limit begun at name names semicolon place begins fits some =
    import_fits limit begun (import_form.Using name (Some names) (from_to at place.end)) place.end begins
    (fits, some)
used_read_fits limit begun at name names sort place begins fits some = tt

pub used_next_fits : (limit : ℕ) (begun : Begun) (at : ℕ) (name : ModuleRef) (names : List Ident) (sort : Sort)
    (place : Span) → BegunFits limit begun → IsModuleName name →
    OutcomeFits limit (used_next_step begun at name names sort place)
used_next_fits limit begun at name names (identifier text) place begins fits =
    (begins, (fits, one_more names (ident_at text place)))
used_next_fits limit begun at name names sort place begins fits = tt

pub used_all_fits : (limit : ℕ) (begun : Begun) (at : ℕ) (name : ModuleRef) (sort : Sort) (place : Span) →
    BegunFits limit begun → IsModuleName name → OutcomeFits limit (used_all_step begun at name sort place)
used_all_fits limit begun at name semicolon place begins fits =
    import_fits limit begun (import_form.Using name None (from_to at place.end)) place.end begins fits
used_all_fits limit begun at name sort place begins fits = tt

-- A step in an import keeps what is read plain.
use Rattle.std.proofs.Common.{ℕ, List, [], ◌∷◌, ◌++◌, Option, Some, None}
use Rattle.mdl_syntax.specs.declared.names.Span.{Span}
use Rattle.mdl_syntax.specs.declared.names.Ident.{Ident}
use Rattle.mdl_syntax.specs.declared.expressions.Lit.TheVariants as lit
use Rattle.mdl_syntax.specs.declared.imports.Lead.TheVariants as lead_form
use Rattle.mdl_syntax.specs.declared.imports.ModuleRef.{ModuleRef}
use Rattle.mdl_syntax.specs.declared.imports.Qualified.{Qualified}
use Rattle.mdl_syntax.specs.declared.imports.Import.TheVariants as import_form
use Rattle.expression_grammar.specs.inside.Machine.{Sort, identifier, other_literal, binary_operator}
use Rattle.expression_grammar.specs.inside.Machine.{comma, semicolon, equals, import_word, from_to}
use Rattle.module_grammar.specs.inside.ModuleStates.{Begun, Naming, State, on, wrong, within, unnamed}
use Rattle.module_grammar.specs.inside.ModuleStates.{parted, open_ended, importing, imported, using}
use Rattle.module_grammar.specs.inside.ModuleMachine.{naming_or, import_ends}
use Rattle.module_grammar.specs.inside.ModuleStates.{used_all, naming_step}
use Rattle.module_grammar.specs.inside.ModuleMachine.{import_item, import_step, all_of, using_step}
use Rattle.module_grammar.specs.inside.ModuleMachine.{used_wanted_step, used_read_step, used_next_step}
use Rattle.module_grammar.specs.inside.ModuleMachine.{used_all_step}
use Rattle.module_grammar.specs.inside.ModuleStates.{qualified_from, is_star}
use Rattle.module_grammar.specs.inside.ModulePlain.{ModulePlain, BegunPlain}
use Rattle.module_grammar.proofs.ModulePlainFronts.{OutcomePlain}
use Rattle.module_grammar.proofs.ModulePlainParts.{if_plain, import_plain}

naming_or_plain : (limit : ℕ) (goes_to : Naming → State) (naming : Option Naming) →
    ((next : Naming) → ModulePlain limit (goes_to next)) → OutcomePlain limit
    (naming_or goes_to naming)
naming_or_plain limit goes_to None plain = tt
naming_or_plain limit goes_to (Some naming) plain = plain naming

pub import_ends_plain : (limit : ℕ) (begun : Begun) (at : ℕ) (items : List Qualified) (sort : Sort)
    (place : Span) → BegunPlain begun → OutcomePlain limit (import_ends begun at items sort place)
import_ends_plain limit begun at items comma place begins = (begins, tt)
import_ends_plain limit begun at items semicolon place begins =
    import_plain limit begun (import_form.Import items (from_to at place.end)) place.end begins
import_ends_plain limit begun at items sort place begins = tt

import_item_plain : (limit : ℕ) (begun : Begun) (at : ℕ) (items : List Qualified)
    (one : Option Qualified)
    (sort : Sort) (place : Span) → BegunPlain begun →
    OutcomePlain limit (import_item begun at items one sort place)
import_item_plain limit begun at items None sort place begins = tt
import_item_plain limit begun at items (Some item) sort place begins =
    import_ends_plain limit begun at (items ++ item ∷ []) sort place begins

pub import_step_plain : (limit : ℕ) (begun : Begun) (at : ℕ) (items : List Qualified)
    (naming : Naming)
    (sort : Sort) (place : Span) → BegunPlain begun →
    OutcomePlain limit (import_step begun at items naming sort place)
import_step_plain limit begun at [] unnamed (other_literal (lit.Str text)) place begins = tt
import_step_plain limit begun at items (parted lead from parts end) comma place begins =
    import_item_plain limit begun at items (qualified_from lead from parts end) comma place begins
import_step_plain limit begun at items (parted lead from parts end) semicolon place begins =
    import_item_plain limit begun at items (qualified_from lead from parts end) semicolon place
    begins
import_step_plain limit begun at items (open_ended lead from parts end) (binary_operator op level)
    place begins =
    let one = all_of lead from parts end place.end in
    if_plain limit (is_star op) (on (within begun (imported at (items ++ one ∷ [])))) wrong
    (begins, tt) tt
import_step_plain limit begun at items naming sort place begins =
    naming_or_plain limit (λ next. within begun (importing at items next))
    (naming_step naming sort place)
    (λ next. (begins, tt))

pub using_step_plain : (limit : ℕ) (begun : Begun) (at : ℕ) (naming : Naming) (sort : Sort)
    (place : Span) →
    BegunPlain begun → OutcomePlain limit (using_step begun at naming sort place)
using_step_plain limit begun at unnamed (other_literal (lit.Str text)) place begins = tt
using_step_plain limit begun at (parted lead_form.Bare from (part ∷ []) end) equals place begins =
    tt
using_step_plain limit begun at (parted lead from parts end) import_word place begins = (begins, tt)
using_step_plain limit begun at naming sort place begins =
    naming_or_plain limit (λ next. within begun (using at next)) (naming_step naming sort place)
    (λ next. (begins, tt))

pub used_wanted_plain : (limit : ℕ) (begun : Begun) (at : ℕ) (name : ModuleRef) (sort : Sort)
    (place : Span) →
    BegunPlain begun → OutcomePlain limit (used_wanted_step begun at name sort place)
used_wanted_plain limit begun at name (identifier text) place begins = (begins, tt)
used_wanted_plain limit begun at name (binary_operator op level) place begins =
    if_plain limit (is_star op) (on (within begun (used_all at name))) wrong (begins, tt) tt
used_wanted_plain limit begun at name (other_literal (lit.Str text)) place begins = tt
used_wanted_plain limit begun at name (other_literal other) place begins = tt
used_wanted_plain limit begun at name sort place begins = tt

pub used_read_plain : (limit : ℕ) (begun : Begun) (at : ℕ) (name : ModuleRef) (names : List Ident)
    (sort : Sort)
    (place : Span) → BegunPlain begun → OutcomePlain limit
    (used_read_step begun at name names sort place)
used_read_plain limit begun at name names comma place begins = (begins, tt)
used_read_plain limit begun at name names semicolon place begins =
    import_plain limit begun (import_form.Using name (Some names) (from_to at place.end)) place.end
    begins
used_read_plain limit begun at name names sort place begins = tt

pub used_next_plain : (limit : ℕ) (begun : Begun) (at : ℕ) (name : ModuleRef) (names : List Ident)
    (sort : Sort)
    (place : Span) → BegunPlain begun → OutcomePlain limit
    (used_next_step begun at name names sort place)
used_next_plain limit begun at name names (identifier text) place begins = (begins, tt)
used_next_plain limit begun at name names sort place begins = tt

pub used_all_plain : (limit : ℕ) (begun : Begun) (at : ℕ) (name : ModuleRef) (sort : Sort)
    (place : Span) →
    BegunPlain begun → OutcomePlain limit (used_all_step begun at name sort place)
used_all_plain limit begun at name semicolon place begins =
    import_plain limit begun (import_form.Using name None (from_to at place.end)) place.end begins
used_all_plain limit begun at name sort place begins = tt

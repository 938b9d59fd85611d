-- A type with a name behind it that is begun, and an import, can be led to the end of a module.
use Rattle.std.proofs.Common.{◌≡◌, refl, ℕ, suc, Bool, true, false, List, [], ◌∷◌, codes}
use Rattle.mdl_lexer.specs.declared.token.Token.{Token}
use Rattle.mdl_lexer.specs.declared.token.Kind.TheVariants as kind
use Rattle.mdl_lexer.specs.Kinds.{name_word}
use Rattle.mdl_syntax.specs.declared.names.Span.{Span}
use Rattle.mdl_syntax.specs.declared.names.Ident.{Ident}
use Rattle.mdl_syntax.specs.declared.names.Name.{Name}
use Rattle.mdl_syntax.specs.declared.types.TypeTree.{TypeTree}
use Rattle.mdl_syntax.specs.declared.imports.Lead.{Lead}
use Rattle.mdl_syntax.specs.declared.imports.Lead.TheVariants as lead
use Rattle.mdl_syntax.specs.declared.imports.ModuleRef.{ModuleRef}
use Rattle.mdl_syntax.specs.declared.imports.Qualified.{Qualified}
use Rattle.mdl_syntax.specs.declared.modules.VersionLit.{VersionLit}
use Rattle.mdl_syntax.specs.Levels.{mark_number}
use Rattle.mdl_syntax.specs.Modules.{Parameter}
use Rattle.expression_grammar.specs.inside.Machine.{Mode, Head, Path, Sort, sort_of, in_type, part_wanted}
use Rattle.expression_grammar.specs.inside.Machine.{part_read, word_read, type_wanted, type_bracketed}
use Rattle.expression_grammar.specs.inside.Machine.{type_sized, deferred_wanted, deferred_read}
use Rattle.expression_grammar.specs.inside.Machine.{deferred_closed, name_wanted, equals_wanted}
use Rattle.expression_grammar.specs.inside.Machine.{double_colon, identifier, dot, import_word}
use Rattle.expression_grammar.specs.inside.Machine.{binary_operator}
use Rattle.module_grammar.specs.inside.ModuleStates.{State, Begun, Fronting, Owner, on, within}
use Rattle.module_grammar.specs.inside.ModuleMachine.{state_step, permitted_state}
use Rattle.module_grammar.specs.inside.ModuleStates.{fronting}
use Rattle.module_grammar.specs.inside.ModuleStates.{of_declaration, of_parameter, of_field}
use Rattle.module_grammar.specs.inside.ModuleMachine.{named_state}
use Rattle.module_grammar.specs.inside.ModuleStates.{exported_read, parameter_next}
use Rattle.module_grammar.specs.inside.ModuleStates.{Naming, unnamed, one_dot, two_dots, up_steps}
use Rattle.module_grammar.specs.inside.ModuleStates.{one_dot_behind, parted, open_ended, importing}
use Rattle.module_grammar.specs.inside.ModuleStates.{imported, using, used_wanted, used_read}
use Rattle.module_grammar.specs.inside.ModuleMachine.{using_step}
use Rattle.module_grammar.specs.inside.ModuleStates.{used_next, used_all, module_name}
use Rattle.module_grammar.specs.inside.ModuleStates.{mdl_wanted, version_wanted, version_read}
use Rattle.module_grammar.specs.inside.ModuleStates as states
use Rattle.module_grammar.specs.inside.ModuleFits.{IsTypeMode}
use Rattle.expression_grammar.specs.inside.Sound.{place}
use Rattle.module_grammar.proofs.ModuleReadsParts.{IsKept, by_sort}
use Rattle.module_grammar.proofs.ModuleReadsTypes.{front_kept, named_kept}
use Rattle.module_grammar.proofs.ModuleReadsNames.{Goes, word_first}
use Rattle.module_grammar.proofs.ModuleReadsNames.{here_colons, up_colons, up_word}
use Rattle.module_grammar.proofs.ModuleReadsNames.{behind_dot, led_word, parted_colons, open_word}
use Rattle.module_grammar.proofs.ModuleReadsNames.{Namer}
use Rattle.module_grammar.proofs.ModuleReadsImports.{import_namer, using_namer, star_takes}
use Rattle.module_grammar.proofs.ModuleViableParts.{ModuleViable, led, whole_end, semicolon_mark}
use Rattle.module_grammar.proofs.ModuleViableParts.{declared_viable, parameter_viable, field_viable}
use Rattle.expression_grammar.proofs.ShutLaws.{mark, zero_token, name_token}

-- Types and names.

named_viable : (strict : Bool) (limit : ℕ) (begun : Begun) (of : Fronting) (head : Head)
    (ty : TypeTree) (name : Ident) → ModuleViable strict limit (named_state begun of head ty name)
named_viable strict limit begun (of_declaration at exported) head ty name =
    declared_viable strict limit begun _
named_viable strict limit begun (of_parameter owner parameters) head ty name =
    parameter_viable strict limit begun owner parameters _
named_viable strict limit begun (of_field held) head ty name = field_viable strict limit begun held
    _

-- a name is wanted behind the type
path_viable : (strict : Bool) (limit : ℕ) (begun : Begun) (of : Fronting) (head : Head)
    (path : Path) →
    ModuleViable strict limit (within begun (fronting of (part_read (in_type head) path)))
path_viable strict limit begun of head path =
    led name_token (λ number. refl) (named_kept begun of _ _ _)
    (named_viable strict limit begun of _ _ _)

name_viable : (strict : Bool) (limit : ℕ) (begun : Begun) (of : Fronting) (head : Head)
    (ty : TypeTree) → ModuleViable strict limit (within begun (fronting of (name_wanted head ty)))
name_viable strict limit begun of head ty =
    led name_token (λ number. refl) (named_kept begun of _ _ _)
    (named_viable strict limit begun of _ _ _)

closed_viable : (strict : Bool) (limit : ℕ) (begun : Begun) (of : Fronting) (head : Head)
    (name : Name) (own : Ident) →
    ModuleViable strict limit (within begun (fronting of (deferred_closed head name own)))
closed_viable strict limit begun of head name own =
    led (mark (codes "]")) (λ number. refl) (front_kept begun of _ refl)
    (name_viable strict limit begun of head _)

read_viable : (strict : Bool) (limit : ℕ) (begun : Begun) (of : Fronting) (head : Head)
    (name : Name) (own : Ident) →
    ModuleViable strict limit (within begun (fronting of (deferred_read head name own)))
read_viable strict limit begun of head name own =
    led (mark (codes ">")) (λ number. refl) (front_kept begun of _ refl)
    (closed_viable strict limit begun of head name own)

sized_viable : (strict : Bool) (limit : ℕ) (begun : Begun) (of : Fronting) (head : Head)
    (name : Name) (value : ℕ) →
    ModuleViable strict limit (within begun (fronting of (type_sized head name value)))
sized_viable strict limit begun of head name value =
    led (mark (codes "]")) (λ number. refl) (front_kept begun of _ refl)
    (name_viable strict limit begun of head _)

-- no name is read: it ends the front at once
abbrev pub IsUnnamed : Mode → Type 0
IsUnnamed (equals_wanted head ty name) = ⊥
IsUnnamed mode = Unit {0}

pub front_viable : (strict : Bool) (limit : ℕ) (begun : Begun) (of : Fronting) (mode : Mode) →
    IsTypeMode mode → IsUnnamed mode →
    ModuleViable strict limit (within begun (fronting of mode))
front_viable strict limit begun of (part_wanted (in_type head) path) is un =
    led name_token (λ number. refl) (front_kept begun of _ refl)
    (path_viable strict limit begun of head _)
front_viable strict limit begun of (part_read (in_type head) path) is un =
    path_viable strict limit begun of head path
front_viable strict limit begun of (word_read (in_type head) name) is un =
    led name_token (λ number. refl) (named_kept begun of _ _ _)
    (named_viable strict limit begun of _ _ _)
front_viable strict limit begun of (type_wanted head) is un =
    led name_token (λ number. refl) (front_kept begun of _ refl)
    (path_viable strict limit begun of head _)
front_viable strict limit begun of (type_bracketed head name) is un =
    led zero_token (λ number. refl) (front_kept begun of _ refl)
    (sized_viable strict limit begun of head name _)
front_viable strict limit begun of (type_sized head name value) is un =
    sized_viable strict limit begun of head name value
front_viable strict limit begun of (deferred_wanted head name) is un =
    led name_token (λ number. refl) (front_kept begun of _ refl)
    (read_viable strict limit begun of head name _)
front_viable strict limit begun of (deferred_read head name own) is un =
    read_viable strict limit begun of head name own
front_viable strict limit begun of (deferred_closed head name own) is un =
    closed_viable strict limit begun of head name own
front_viable strict limit begun of (name_wanted head ty) is un =
    name_viable strict limit begun of head ty
front_viable strict limit begun of (equals_wanted head ty name) is un = absurd un
front_viable strict limit begun of mode is un = absurd is

pub exported_viable : (strict : Bool) (limit : ℕ) (begun : Begun) (at : ℕ) →
    ModuleViable strict limit (within begun (exported_read at))
exported_viable strict limit begun at =
    led name_token (λ number. refl) (front_kept begun (of_declaration at true) _ refl)
    (path_viable strict limit begun (of_declaration at true) _ _)

pub next_viable : (strict : Bool) (limit : ℕ) (begun : Begun) (owner : Owner)
    (parameters : List Parameter) →
    ModuleViable strict limit (within begun (parameter_next owner parameters))
next_viable strict limit begun owner parameters =
    led name_token (λ number. refl) (front_kept begun (of_parameter owner parameters) _ refl)
    (path_viable strict limit begun (of_parameter owner parameters) _ _)

-- Names of modules.

led_sort : {strict : Bool} {limit : ℕ} {state then : State} (token : Token) (sort : Sort) →
    sort_of token.kind ≡ sort → IsKept sort →
    ((number : ℕ) → state_step limit number state sort (place token) ≡ on then) →
    permitted_state then ≡ on then → ModuleViable strict limit then →
    ModuleViable strict limit state
led_sort {strict} {limit} {state} {then} token sort is kept same allowed rest = record {
  tokens = token ∷ rest.tokens;
  begun = rest.begun;
  early = rest.early;
  leads = by_sort then sort is kept same allowed rest.leads;
}

named_on : {strict : Bool} {limit : ℕ} (state : Naming → State) → Namer limit state →
    (naming then : Naming) (token : Token) (sort : Sort) → sort_of token.kind ≡ sort →
    IsKept sort → Goes naming sort (place token) then → ModuleViable strict limit (state then) →
    ModuleViable strict limit (state naming)
named_on state namer naming then token sort is kept goes rest =
    led_sort token sort is kept
    (λ number. namer.goes number naming then sort (place token) goes) (namer.kept then) rest

abbrev PartedViable : Bool → ℕ → (Naming → State) → Type 0
PartedViable strict limit state = (own : Lead) (from : ℕ) (parts : List Ident) (end : ℕ) →
    ModuleViable strict limit (state (parted own from parts end))

steps_viable : {strict : Bool} {limit : ℕ} (state : Naming → State) → Namer limit state →
    PartedViable strict limit state → (steps from : ℕ) →
    ModuleViable strict limit (state (up_steps steps from))
steps_viable state namer rest steps from =
    named_on state namer (up_steps steps from) _ name_token (identifier (codes "x")) refl tt
    (up_word steps from (codes "x") (place name_token)) (rest _ _ _ _)

dots_viable : {strict : Bool} {limit : ℕ} (state : Naming → State) → Namer limit state →
    PartedViable strict limit state → (steps from : ℕ) →
    ModuleViable strict limit (state (two_dots steps from))
dots_viable state namer rest steps from =
    named_on state namer (two_dots steps from) (up_steps (suc steps) from) (mark (codes "::"))
    double_colon refl tt (up_colons steps from (place (mark (codes "::"))))
    (steps_viable state namer rest (suc steps) from)

led_viable : {strict : Bool} {limit : ℕ} (state : Naming → State) → Namer limit state →
    PartedViable strict limit state → (own : Lead) (from : ℕ) →
    ModuleViable strict limit (state (states.led own from))
led_viable state namer rest own from =
    named_on state namer (states.led own from) _ name_token (identifier (codes "x")) refl tt
    (led_word own from (codes "x") (place name_token)) (rest _ _ _ _)

naming_viable : {strict : Bool} {limit : ℕ} (state : Naming → State) → Namer limit state →
    PartedViable strict limit state → (naming : Naming) → ModuleViable strict limit (state naming)
naming_viable state namer rest unnamed =
    named_on state namer unnamed _ name_token (identifier (codes "x")) refl tt
    (word_first (codes "x") (place name_token)) (rest _ _ _ _)
naming_viable state namer rest (one_dot at) =
    named_on state namer (one_dot at) (states.led lead.Here at) (mark (codes "::")) double_colon
    refl tt (here_colons at (place (mark (codes "::"))))
    (led_viable state namer rest lead.Here at)
naming_viable state namer rest (two_dots steps at) = dots_viable state namer rest steps at
naming_viable state namer rest (up_steps steps at) = steps_viable state namer rest steps at
naming_viable state namer rest (one_dot_behind steps at) =
    named_on state namer (one_dot_behind steps at) (two_dots steps at) (mark (codes ".")) dot refl
    tt (behind_dot steps at (place (mark (codes ".")))) (dots_viable state namer rest steps at)
naming_viable state namer rest (states.led own at) = led_viable state namer rest own at
naming_viable state namer rest (parted own at parts end) = rest own at parts end
naming_viable state namer rest (open_ended own at parts end) =
    named_on state namer (open_ended own at parts end) _ name_token (identifier (codes "x")) refl
    tt (open_word own at parts end (codes "x") (place name_token)) (rest _ _ _ _)

-- Imports.

pub imported_viable : (strict : Bool) (limit : ℕ) (begun : Begun) (at : ℕ)
    (items : List Qualified) → ModuleViable strict limit (within begun (imported at items))
imported_viable strict limit begun at items =
    led semicolon_mark (λ number. refl) refl whole_end

pub importing_viable : (strict : Bool) (limit : ℕ) (begun : Begun) (at : ℕ)
    (items : List Qualified) (naming : Naming) →
    ModuleViable strict limit (within begun (importing at items naming))
importing_viable strict limit begun at items naming =
    naming_viable (λ one. within begun (importing at items one)) (import_namer limit begun at items)
    (λ own from parts end. named_on (λ one. within begun (importing at items one))
    (import_namer limit begun at items) (parted own from parts end) (open_ended own from parts end)
    (mark (codes "::")) double_colon refl tt
    (parted_colons own from parts end (place (mark (codes "::"))))
    (led_sort (mark (codes "*")) (binary_operator (mark_number (codes "*")) 11) refl tt
    (λ number. star_takes begun at items own from parts end (place (mark (codes "*")))) refl
    (imported_viable strict limit begun at _))) naming

pub used_all_viable : (strict : Bool) (limit : ℕ) (begun : Begun) (at : ℕ) (name : ModuleRef) →
    ModuleViable strict limit (within begun (used_all at name))
used_all_viable strict limit begun at name = led semicolon_mark (λ number. refl) refl whole_end

pub used_read_viable : (strict : Bool) (limit : ℕ) (begun : Begun) (at : ℕ) (name : ModuleRef)
    (names : List Ident) → ModuleViable strict limit (within begun (used_read at name names))
used_read_viable strict limit begun at name names =
    led semicolon_mark (λ number. refl) refl whole_end

pub used_next_viable : (strict : Bool) (limit : ℕ) (begun : Begun) (at : ℕ) (name : ModuleRef)
    (names : List Ident) → ModuleViable strict limit (within begun (used_next at name names))
used_next_viable strict limit begun at name names =
    led name_token (λ number. refl) refl (used_read_viable strict limit begun at name _)

pub used_wanted_viable : (strict : Bool) (limit : ℕ) (begun : Begun) (at : ℕ) (name : ModuleRef) →
    ModuleViable strict limit (within begun (used_wanted at name))
used_wanted_viable strict limit begun at name =
    led name_token (λ number. refl) refl (used_read_viable strict limit begun at name _)

word_takes : (begun : Begun) (at : ℕ) (own : Lead) (from : ℕ) (parts : List Ident) (end : ℕ)
    (here : Span) → using_step begun at (parted own from parts end) import_word here
    ≡ on (within begun (used_wanted at (module_name own from parts end)))
word_takes begun at lead.Bare from [] end here = refl
word_takes begun at lead.Bare from (_ ∷ []) end here = refl
word_takes begun at lead.Bare from (_ ∷ _ ∷ _) end here = refl
word_takes begun at lead.Absolute from parts end here = refl
word_takes begun at lead.Here from parts end here = refl
word_takes begun at (lead.Up _) from parts end here = refl

abbrev reserved : List ℕ → Token
reserved text = record { kind = name_word text; at = 0; end = 0 }

pub using_viable : (strict : Bool) (limit : ℕ) (begun : Begun) (at : ℕ) (naming : Naming) →
    ModuleViable strict limit (within begun (using at naming))
using_viable strict limit begun at naming =
    naming_viable (λ one. within begun (using at one)) (using_namer limit begun at)
    (λ own from parts end. led_sort (reserved (codes "import")) import_word refl tt
    (λ number. word_takes begun at own from parts end (place (reserved (codes "import")))) refl
    (used_wanted_viable strict limit begun at _)) naming

-- The front of a module.

abbrev version_token : Token
version_token = record { kind = kind.Real (codes "1.0") false; at = 0; end = 0 }

pub version_read_viable : (strict : Bool) (limit at : ℕ) (version : VersionLit) →
    ModuleViable strict limit (version_read at version)
version_read_viable strict limit at version = led semicolon_mark (λ number. refl) refl whole_end

pub version_viable : (strict : Bool) (limit at : ℕ) → ModuleViable strict limit (version_wanted at)
version_viable strict limit at =
    led version_token (λ number. refl) refl (version_read_viable strict limit at _)

pub mdl_viable : (strict : Bool) (limit : ℕ) → ModuleViable strict limit mdl_wanted
mdl_viable strict limit =
    led (reserved (codes "mdl")) (λ number. refl) refl (version_viable strict limit _)

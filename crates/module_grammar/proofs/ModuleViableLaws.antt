-- Each state that the machine of modules keeps can be led to the end of a module.
use Rattle.std.proofs.Common.{◌≡◌, ap, refl, ℕ, ◌≤◌, Bool, true, false}
use Rattle.std.proofs.Common.{List, [], ◌∷◌, ◌++◌, Option, Some, None, codes}
use Rattle.std.proofs.lemmas.Bool.{false≢true}
use Rattle.mdl_lexer.specs.declared.token.Token.{Token}
use Rattle.mdl_syntax.specs.declared.names.Span.{Span}
use Rattle.mdl_syntax.specs.Trees.{Tree}
use Rattle.mdl_syntax.specs.Modules.{Annotation, ModuleTree}
use Rattle.expression_grammar.specs.inside.Machine.{Mode, Frame, finish, finished, wanted}
use Rattle.module_grammar.specs.inside.ModuleStates.{State, Begun, Holder, Fronted, Site, Position}
use Rattle.module_grammar.specs.inside.ModuleStates.{within, the_module, a_parameter}
use Rattle.module_grammar.specs.inside.ModuleStates.{a_function, an_annotation, a_variant, a_struct}
use Rattle.module_grammar.specs.inside.ModuleStates.{a_field, an_enum, an_enum_value}
use Rattle.module_grammar.specs.inside.ModuleStates.{in_function_body, in_default, in_field_default}
use Rattle.module_grammar.specs.inside.ModuleStates.{in_annotation, in_base}
use Rattle.module_grammar.specs.inside.ModuleMachine.{annotations_behind, holder_of}
use Rattle.module_grammar.specs.inside.ModuleStates.{parameter_from}
use Rattle.module_grammar.specs.inside.ModuleStates.{item_wanted, importing, imported, using}
use Rattle.module_grammar.specs.inside.ModuleStates.{used_wanted, used_read, used_next, used_all}
use Rattle.module_grammar.specs.inside.ModuleStates.{own_wanted, annotations_begun, first_annotation}
use Rattle.module_grammar.specs.inside.ModuleStates.{annotation_read, annotations_closing, annotated}
use Rattle.module_grammar.specs.inside.ModuleStates.{exported_read, kin_named, annotation_named}
use Rattle.module_grammar.specs.inside.ModuleStates.{fronting, declared, parameters_begun, star_read}
use Rattle.module_grammar.specs.inside.ModuleStates.{variant_read, base_read, parameter_read}
use Rattle.module_grammar.specs.inside.ModuleStates.{parameter_next, function_read}
use Rattle.module_grammar.specs.inside.ModuleStates.{annotation_declared, struct_named, fields_read}
use Rattle.module_grammar.specs.inside.ModuleStates.{field_read, enum_named, value_wanted, value_read}
use Rattle.module_grammar.specs.inside.ModuleStates.{number_wanted, number_read, struct_closed}
use Rattle.module_grammar.specs.inside.ModuleStates.{enum_closed, expression, opened, mdl_wanted}
use Rattle.module_grammar.specs.inside.ModuleStates.{version_wanted, version_read}
use Rattle.module_grammar.specs.inside.ModuleFits.{ModuleFits, PositionFits}
use Rattle.module_grammar.specs.inside.ModuleLeads.{MayGoOn, ModuleEnds}
use Rattle.module_grammar.proofs.ModuleViableParts.{ModuleViable, whole_end, led, semicolon_mark}
use Rattle.module_grammar.proofs.ModuleViableParts.{struct_closed_viable, fields_viable, field_viable}
use Rattle.module_grammar.proofs.ModuleViableParts.{struct_viable, enum_closed_viable, value_viable}
use Rattle.module_grammar.proofs.ModuleViableParts.{number_viable, number_wanted_viable}
use Rattle.module_grammar.proofs.ModuleViableParts.{value_wanted_viable, enum_viable, function_viable}
use Rattle.module_grammar.proofs.ModuleViableParts.{annotation_viable, parameters_viable}
use Rattle.module_grammar.proofs.ModuleViableParts.{parameters_permitted, parameters_begun_viable}
use Rattle.module_grammar.proofs.ModuleViableParts.{parameter_viable, declared_viable}
use Rattle.module_grammar.proofs.ModuleViableParts.{annotation_named_viable, base_viable, kin_viable}
use Rattle.module_grammar.proofs.ModuleViableFronts.{IsUnnamed, front_viable, exported_viable}
use Rattle.module_grammar.proofs.ModuleViableFronts.{next_viable, imported_viable, importing_viable}
use Rattle.module_grammar.proofs.ModuleViableFronts.{used_all_viable, used_read_viable}
use Rattle.module_grammar.proofs.ModuleViableFronts.{used_next_viable, used_wanted_viable}
use Rattle.module_grammar.proofs.ModuleViableFronts.{using_viable, version_read_viable, version_viable}
use Rattle.module_grammar.proofs.ModuleViableFronts.{mdl_viable}
use Rattle.module_grammar.proofs.ModuleViableSites.{IsBodyPlain, value_site_viable}
use Rattle.module_grammar.proofs.ModuleViableCalls.{start_viable, call_site_viable}
use Rattle.expression_grammar.proofs.ShutLaws.{mark}

-- Annotations.

base_start : (strict : Bool) (limit : ℕ) (begun : Begun) (fronted : Fronted)
    (annotations : Option (List Annotation)) →
    ModuleViable strict limit (within begun (expression (in_base fronted annotations) wanted []))
base_start strict limit begun fronted annotations =
    start_viable strict limit begun (in_base fronted annotations) refl
    (λ one. base_viable strict limit begun fronted annotations one)

-- behind `]]`
annotated_viable : (strict : Bool) (limit : ℕ) (begun : Begun) (holder : Holder)
    (annotations : List Annotation) (end : ℕ) →
    ModuleViable strict limit (within begun (annotated holder annotations end))
annotated_viable strict limit begun the_module annotations end =
    led semicolon_mark (λ number. refl) refl whole_end
annotated_viable strict limit begun (a_parameter owner parameters front default) annotations end =
    let all = parameters ++ parameter_from front default (Some annotations) end ∷ [] in
    led (mark (codes ")")) (λ number. refl) (parameters_permitted begun owner all)
    (parameters_viable strict limit begun owner all)
annotated_viable strict limit begun (a_function fronted parameters frequency) annotations end =
    led semicolon_mark (λ number. refl) refl whole_end
annotated_viable strict limit begun (an_annotation named parameters) annotations end =
    led semicolon_mark (λ number. refl) refl whole_end
annotated_viable strict limit begun (a_variant fronted) annotations end =
    led (mark (codes "=")) (λ number. refl) refl
    (base_start strict limit begun fronted (Some annotations))
annotated_viable strict limit begun (a_struct named) annotations end =
    led (mark (codes "{")) (λ number. refl) refl (fields_viable strict limit begun _)
annotated_viable strict limit begun (a_field held front default) annotations end =
    led semicolon_mark (λ number. refl) refl (fields_viable strict limit begun _)
annotated_viable strict limit begun (an_enum named) annotations end =
    led (mark (codes "{")) (λ number. refl) refl (value_wanted_viable strict limit begun _)
annotated_viable strict limit begun (an_enum_value held name number) annotations end =
    led (mark (codes "}")) (λ number. refl) refl (enum_closed_viable strict limit begun _)

closing_viable : (strict : Bool) (limit : ℕ) (begun : Begun) (holder : Holder)
    (annotations : List Annotation) →
    ModuleViable strict limit (within begun (annotations_closing holder annotations))
closing_viable strict limit begun holder annotations =
    led (mark (codes "]")) (λ number. refl) refl
    (annotated_viable strict limit begun holder annotations 0)

annotation_read_viable : (strict : Bool) (limit : ℕ) (begun : Begun) (holder : Holder)
    (annotations : List Annotation) →
    ModuleViable strict limit (within begun (annotation_read holder annotations))
annotation_read_viable strict limit begun holder annotations =
    led (mark (codes "]")) (λ number. refl) refl
    (closing_viable strict limit begun holder annotations)

first_viable : (strict : Bool) (limit : ℕ) (begun : Begun) (holder : Holder) →
    ModuleViable strict limit (within begun (first_annotation holder))
first_viable strict limit begun holder =
    led (mark (codes "]")) (λ number. refl) refl (closing_viable strict limit begun holder [])

begun_viable : (strict : Bool) (limit : ℕ) (begun : Begun) (holder : Holder) →
    ModuleViable strict limit (within begun (annotations_begun holder))
begun_viable strict limit begun holder =
    led (mark (codes "[")) (λ number. refl) refl (first_viable strict limit begun holder)

own_viable : (strict : Bool) (limit : ℕ) (begun : Begun) →
    ModuleViable strict limit (within begun own_wanted)
own_viable strict limit begun =
    led (mark (codes "[")) (λ number. refl) refl (begun_viable strict limit begun the_module)

-- Variants.

variant_viable : (strict : Bool) (limit : ℕ) (begun : Begun) (fronted : Fronted) →
    ModuleViable strict limit (within begun (variant_read fronted))
variant_viable strict limit begun fronted =
    led (mark (codes "=")) (λ number. refl) refl (base_start strict limit begun fronted None)

star_viable : (strict : Bool) (limit : ℕ) (begun : Begun) (fronted : Fronted) →
    ModuleViable strict limit (within begun (star_read fronted))
star_viable strict limit begun fronted =
    led (mark (codes ")")) (λ number. refl) refl (variant_viable strict limit begun fronted)

-- Expressions.

opened_viable : (strict : Bool) (limit : ℕ) (begun : Begun) (site : Site) (mode : Mode)
    (frames : List Frame) (bracket : Span) (tree : Tree) →
    finish limit mode frames ≡ finished tree →
    ModuleViable strict limit (within begun (opened site mode frames bracket))
opened_viable strict limit begun site mode frames bracket tree is =
    led (mark (codes "[")) (λ number. ap (annotations_behind begun site) is) refl
    (first_viable strict limit begun (holder_of site tree))

expression_viable : (strict : Bool) (limit : ℕ) (begun : Begun) (site : Site) (mode : Mode)
    (frames : List Frame) → PositionFits limit (expression site mode frames) →
    (strict ≡ true → IsBodyPlain site) →
    ModuleViable strict limit (within begun (expression site mode frames))
expression_viable strict limit begun (in_function_body fronted parameters frequency annotations)
    mode frames fits body =
    value_site_viable strict limit begun (in_function_body fronted parameters frequency annotations)
    mode frames refl body fits.1
expression_viable strict limit begun (in_default owner parameters front) mode frames fits body =
    value_site_viable strict limit begun (in_default owner parameters front) mode frames refl body
    fits.1
expression_viable strict limit begun (in_field_default held front) mode frames fits body =
    value_site_viable strict limit begun (in_field_default held front) mode frames refl body fits.1
expression_viable strict limit begun (in_annotation holder annotations) mode frames fits body =
    call_site_viable strict limit begun (in_annotation holder annotations) mode frames refl
    (λ one. annotation_read_viable strict limit begun holder (annotations ++ one ∷ [])) fits.1
    fits.2
expression_viable strict limit begun (in_base fronted annotations) mode frames fits body =
    call_site_viable strict limit begun (in_base fronted annotations) mode frames refl
    (λ one. base_viable strict limit begun fronted annotations one) fits.1 fits.2

-- a body goes on only where no parameter has a deferred size
body_plain : (strict : Bool) (begun : Begun) (site : Site) (mode : Mode) (frames : List Frame) →
    MayGoOn strict (within begun (expression site mode frames)) → strict ≡ true → IsBodyPlain site
body_plain false begun site mode frames may strictly = absurd (false≢true strictly)
body_plain true begun (in_function_body fronted parameters frequency annotations) mode frames may
    strictly = may.1
body_plain true begun (in_default owner parameters front) mode frames may strictly = tt
body_plain true begun (in_field_default held front) mode frames may strictly = tt
body_plain true begun (in_annotation holder annotations) mode frames may strictly = tt
body_plain true begun (in_base fronted annotations) mode frames may strictly = tt

-- All states.

-- a front is no longer one behind its name: the machine never comes to such a state
abbrev pub IsReached : State → Type 0
IsReached (within begun (fronting of mode)) = IsUnnamed mode
IsReached state = Unit {0}

position_viable : (strict : Bool) (limit : ℕ) (begun : Begun) (position : Position) →
    PositionFits limit position → IsReached (within begun position) →
    MayGoOn strict (within begun position) → ModuleViable strict limit (within begun position)
position_viable strict limit begun (item_wanted early) fits reached may = whole_end
position_viable strict limit begun (importing at items naming) fits reached may =
    importing_viable strict limit begun at items naming
position_viable strict limit begun (imported at items) fits reached may =
    imported_viable strict limit begun at items
position_viable strict limit begun (using at naming) fits reached may =
    using_viable strict limit begun at naming
position_viable strict limit begun (used_wanted at name) fits reached may =
    used_wanted_viable strict limit begun at name
position_viable strict limit begun (used_read at name names) fits reached may =
    used_read_viable strict limit begun at name names
position_viable strict limit begun (used_next at name names) fits reached may =
    used_next_viable strict limit begun at name names
position_viable strict limit begun (used_all at name) fits reached may =
    used_all_viable strict limit begun at name
position_viable strict limit begun own_wanted fits reached may = own_viable strict limit begun
position_viable strict limit begun (annotations_begun holder) fits reached may =
    begun_viable strict limit begun holder
position_viable strict limit begun (first_annotation holder) fits reached may =
    first_viable strict limit begun holder
position_viable strict limit begun (annotation_read holder annotations) fits reached may =
    annotation_read_viable strict limit begun holder annotations
position_viable strict limit begun (annotations_closing holder annotations) fits reached may =
    closing_viable strict limit begun holder annotations
position_viable strict limit begun (annotated holder annotations end) fits reached may =
    annotated_viable strict limit begun holder annotations end
position_viable strict limit begun (exported_read at) fits reached may =
    exported_viable strict limit begun at
position_viable strict limit begun (kin_named at exported kin) fits reached may =
    kin_viable strict limit begun at exported kin
position_viable strict limit begun (annotation_named named) fits reached may =
    annotation_named_viable strict limit begun named
position_viable strict limit begun (fronting of mode) fits reached may =
    front_viable strict limit begun of mode fits.1 reached
position_viable strict limit begun (declared fronted) fits reached may =
    declared_viable strict limit begun fronted
position_viable strict limit begun (parameters_begun owner) fits reached may =
    parameters_begun_viable strict limit begun owner
position_viable strict limit begun (star_read fronted) fits reached may =
    star_viable strict limit begun fronted
position_viable strict limit begun (variant_read fronted) fits reached may =
    variant_viable strict limit begun fronted
position_viable strict limit begun (base_read fronted annotations one) fits reached may =
    base_viable strict limit begun fronted annotations one
position_viable strict limit begun (parameter_read owner parameters front) fits reached may =
    parameter_viable strict limit begun owner parameters front
position_viable strict limit begun (parameter_next owner parameters) fits reached may =
    next_viable strict limit begun owner parameters
position_viable strict limit begun (function_read fronted parameters frequency) fits reached may =
    function_viable strict limit begun fronted parameters frequency
position_viable strict limit begun (annotation_declared named parameters) fits reached may =
    annotation_viable strict limit begun named parameters
position_viable strict limit begun (struct_named named) fits reached may =
    struct_viable strict limit begun named
position_viable strict limit begun (fields_read held) fits reached may =
    fields_viable strict limit begun held
position_viable strict limit begun (field_read held front) fits reached may =
    field_viable strict limit begun held front
position_viable strict limit begun (enum_named named) fits reached may =
    enum_viable strict limit begun named
position_viable strict limit begun (value_wanted held) fits reached may =
    value_wanted_viable strict limit begun held
position_viable strict limit begun (value_read held name) fits reached may =
    value_viable strict limit begun held name
position_viable strict limit begun (number_wanted held name) fits reached may =
    number_wanted_viable strict limit begun held name
position_viable strict limit begun (number_read held name value end) fits reached may =
    number_viable strict limit begun held name value end
position_viable strict limit begun (struct_closed held) fits reached may =
    struct_closed_viable strict limit begun held
position_viable strict limit begun (enum_closed held) fits reached may =
    enum_closed_viable strict limit begun held
position_viable strict limit begun (expression site mode frames) fits reached may =
    expression_viable strict limit begun site mode frames fits
    (body_plain strict begun site mode frames may)
position_viable strict limit begun (opened site mode frames bracket) fits reached may =
    let (tree, is, levelled, low) = fits.3 in
    opened_viable strict limit begun site mode frames bracket tree is

state_viable : (strict : Bool) (limit : ℕ) (state : State) → ModuleFits limit state →
    IsReached state → MayGoOn strict state → ModuleViable strict limit state
state_viable strict limit mdl_wanted fits reached may = mdl_viable strict limit
state_viable strict limit (version_wanted at) fits reached may = version_viable strict limit at
state_viable strict limit (version_read at version) fits reached may =
    version_read_viable strict limit at version
state_viable strict limit (within begun position) fits reached may =
    position_viable strict limit begun position fits.1 reached may

viable_ends : (strict : Bool) (limit number : ℕ) (state : State) →
    ModuleViable strict limit state →
    (tokens : List Token) × (tree : ModuleTree) × ModuleEnds strict limit number state tokens tree
viable_ends strict limit number state viable = (
  viable.tokens,
  _,
  record {
    last = within viable.begun (item_wanted viable.early);
    leads = viable.leads number;
    ends = λ whole at. refl;
  },
)

-- from each state that fits, and that the machine comes to, tokens lead to the end of a module
pub module_viable : (strict : Bool) (limit number : ℕ) (state : State) → 1 ≤ limit →
    ModuleFits limit state → IsReached state → MayGoOn strict state →
    (tokens : List Token) × (tree : ModuleTree) × ModuleEnds strict limit number state tokens tree
module_viable strict limit number state room fits reached may =
    viable_ends strict limit number state (state_viable strict limit state fits reached may)

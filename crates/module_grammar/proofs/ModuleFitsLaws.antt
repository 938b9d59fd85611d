-- The machine of modules keeps what it keeps, and what it reads is levelled and not too high.
use Rattle.std.proofs.Common.{◌≡◌, subst, arith, ℕ, suc, ◌≤◌, Bool, true, false}
use Rattle.std.proofs.Common.{List, []}
use Rattle.mdl_lexer.specs.declared.token.Kind.{Kind}
use Rattle.mdl_lexer.specs.declared.token.Token.{Token}
use Rattle.mdl_syntax.specs.declared.names.Span.{Span}
use Rattle.mdl_syntax.specs.declared.expressions.Lit.TheVariants as lit
use Rattle.mdl_syntax.specs.declared.modules.VersionLit.{VersionLit}
use Rattle.mdl_syntax.specs.LevelledModules.{IsModule, IsDeclaration}
use Rattle.mdl_syntax.specs.AcceptedModules.{module_height, declaration_height, is_version}
use Rattle.mdl_syntax.specs.Modules.{ModuleTree}
use Rattle.expression_grammar.specs.inside.Sorts.{IsOf}
use Rattle.expression_grammar.specs.inside.Machine.{Sort, sort_of, from_to, left_out, other_literal, semicolon}
use Rattle.expression_grammar.specs.inside.Machine.{mdl_word}
use Rattle.expression_grammar.specs.inside.Machine.{mode_step}
use Rattle.module_grammar.specs.inside.ModuleMachine.{ModuleRun}
use Rattle.module_grammar.specs.inside.ModuleStates.{Begun, Position, State, Outcome, on}
use Rattle.module_grammar.specs.inside.ModuleStates.{wrong, too_deep, leaves_out, statement_body}
use Rattle.module_grammar.specs.inside.ModuleStates.{other_version, mdl_wanted, version_wanted}
use Rattle.module_grammar.specs.inside.ModuleStates.{version_read, within, item_wanted, importing}
use Rattle.module_grammar.specs.inside.ModuleStates.{imported, using, used_wanted, used_read}
use Rattle.module_grammar.specs.inside.ModuleStates.{used_next, used_all, own_wanted}
use Rattle.module_grammar.specs.inside.ModuleStates.{annotations_begun, first_annotation}
use Rattle.module_grammar.specs.inside.ModuleStates.{annotation_read, annotations_closing, annotated}
use Rattle.module_grammar.specs.inside.ModuleStates.{exported_read, kin_named, annotation_named}
use Rattle.module_grammar.specs.inside.ModuleStates.{fronting, declared, parameters_begun, star_read}
use Rattle.module_grammar.specs.inside.ModuleStates.{variant_read, base_read, parameter_read}
use Rattle.module_grammar.specs.inside.ModuleStates.{parameter_next, function_read}
use Rattle.module_grammar.specs.inside.ModuleStates.{annotation_declared, struct_named, fields_read}
use Rattle.module_grammar.specs.inside.ModuleStates.{field_read, enum_named, value_wanted, value_read}
use Rattle.module_grammar.specs.inside.ModuleStates.{number_wanted, number_read, struct_closed}
use Rattle.module_grammar.specs.inside.ModuleMachine.{position_step}
use Rattle.module_grammar.specs.inside.ModuleStates.{enum_closed, expression, opened}
use Rattle.module_grammar.specs.inside.ModuleMachine.{version_step, version_ends}
use Rattle.module_grammar.specs.inside.ModuleMachine.{state_step, module_sort_step, module_step}
use Rattle.module_grammar.specs.inside.ModuleMachine.{verdict_in, judged, permitted_state}
use Rattle.module_grammar.specs.inside.ModuleStates.{waits}
use Rattle.module_grammar.specs.inside.ModuleMachine.{Verdict, passes, refused_here, refused_before, undecided}
use Rattle.module_grammar.specs.inside.ModuleMachine.{permitted, module_taken, module_end, module_read}
use Rattle.module_grammar.specs.inside.ModuleLeads.{ModuleLeads, here, next, ModuleEnds}
use Rattle.module_grammar.specs.inside.ModuleFits.{ModuleFits, BegunFits, PositionFits, DeclarationFits}
use Rattle.expression_grammar.proofs.SortLaws.{is_of_sort}
use Rattle.module_grammar.proofs.ModuleFitsParts.{all_map, all_low}
use Rattle.module_grammar.proofs.ModuleFitsFronts.{OutcomeFits, mode_kept, front_fits}
use Rattle.module_grammar.proofs.ModuleFitsDeclarations.{are_annotations, annotations_low}
use Rattle.module_grammar.proofs.ModuleFitsImports.{if_fits, import_step_fits, import_ends_fits, using_step_fits}
use Rattle.module_grammar.proofs.ModuleFitsImports.{used_wanted_fits, used_read_fits, used_next_fits, used_all_fits}
use Rattle.module_grammar.proofs.ModuleFitsPositions.{item_fits, exported_fits, kin_fits, annotation_named_fits}
use Rattle.module_grammar.proofs.ModuleFitsPositions.{declared_fits, parameters_fits, parameter_next_fits}
use Rattle.module_grammar.proofs.ModuleFitsPositions.{parameter_fits, star_read_fits, variant_read_fits, base_fits}
use Rattle.module_grammar.proofs.ModuleFitsPositions.{function_read_fits, annotation_declared_fits}
use Rattle.module_grammar.proofs.ModuleFitsPositions.{struct_named_fits, fields_fits, field_fits, struct_closed_fits}
use Rattle.module_grammar.proofs.ModuleFitsPositions.{enum_named_fits, value_wanted_fits, value_read_fits}
use Rattle.module_grammar.proofs.ModuleFitsPositions.{number_wanted_fits, number_read_fits, enum_closed_fits}
use Rattle.module_grammar.proofs.ModuleFitsPositions.{second_bracket_fits, own_fits, annotation_read_fits}
use Rattle.module_grammar.proofs.ModuleFitsPositions.{closing_annotations_fits, annotated_fits}
use Rattle.module_grammar.proofs.ModuleFitsExpressions.{expression_fits, opened_fits, first_annotation_fits}

position_fits : (limit token : ℕ) (begun : Begun) (position : Position) (sort : Sort) (place : Span) (word : Kind) →
    IsOf sort word → 1 ≤ limit → BegunFits limit begun → PositionFits limit position →
    OutcomeFits limit (position_step limit token begun position sort place)
position_fits limit token begun (item_wanted early) sort place word is room begins fits =
    item_fits limit token begun early sort place word is begins
position_fits limit token begun (importing at items naming) sort place word is room begins fits =
    import_step_fits limit begun at items naming sort place begins fits.0 fits.1
position_fits limit token begun (imported at items) sort place word is room begins fits =
    import_ends_fits limit begun at items sort place begins fits.0 fits.1
position_fits limit token begun (using at naming) sort place word is room begins fits =
    using_step_fits limit begun at naming sort place begins fits
position_fits limit token begun (used_wanted at name) sort place word is room begins fits =
    used_wanted_fits limit begun at name sort place begins fits
position_fits limit token begun (used_read at name names) sort place word is room begins fits =
    used_read_fits limit begun at name names sort place begins fits.0 fits.1
position_fits limit token begun (used_next at name names) sort place word is room begins fits =
    used_next_fits limit begun at name names sort place begins fits.0
position_fits limit token begun (used_all at name) sort place word is room begins fits =
    used_all_fits limit begun at name sort place begins fits
position_fits limit token begun own_wanted sort place word is room begins fits = own_fits limit begun sort begins
position_fits limit token begun (annotations_begun holder) sort place word is room begins fits =
    second_bracket_fits limit begun holder sort begins fits
position_fits limit token begun (first_annotation holder) sort place word is room begins fits =
    first_annotation_fits limit begun holder sort place word is begins fits
position_fits limit token begun (annotation_read holder annotations) sort place word is room begins fits =
    annotation_read_fits limit begun holder annotations sort begins fits.0 fits.1
position_fits limit token begun (annotations_closing holder annotations) sort place word is room begins fits =
    closing_annotations_fits limit begun holder annotations sort place begins fits.0 fits.1
position_fits limit token begun (annotated holder annotations end) sort place word is room begins fits =
    annotated_fits limit begun holder annotations end sort place room begins fits.0 fits.1
position_fits limit token begun (exported_read at) sort place word is room begins fits =
    exported_fits limit token begun at sort place word is begins
position_fits limit token begun (kin_named at exported kin) sort place word is room begins fits =
    kin_fits limit begun at exported kin sort place begins
position_fits limit token begun (annotation_named named) sort place word is room begins fits =
    annotation_named_fits limit begun named sort begins
position_fits limit token begun (fronting of mode) sort place word is room begins fits =
    front_fits limit token begun of (mode_step limit mode [] sort place) begins fits.0
    (mode_kept limit mode sort place word is fits.1)
position_fits limit token begun (declared fronted) sort place word is room begins fits =
    declared_fits limit begun fronted sort begins fits
position_fits limit token begun (parameters_begun owner) sort place word is room begins fits =
    parameters_fits limit token begun owner sort place word is begins fits
position_fits limit token begun (star_read fronted) sort place word is room begins fits =
    star_read_fits limit begun fronted sort begins fits
position_fits limit token begun (variant_read fronted) sort place word is room begins fits =
    variant_read_fits limit begun fronted sort begins fits
position_fits limit token begun (base_read fronted annotations one) sort place word is room begins fits =
    base_fits limit begun fronted annotations one sort place begins fits.0 fits.1 fits.2
position_fits limit token begun (parameter_read owner parameters front) sort place word is room begins fits =
    parameter_fits limit begun owner parameters front sort room begins fits.0 fits.1 fits.2
position_fits limit token begun (parameter_next owner parameters) sort place word is room begins fits =
    parameter_next_fits limit token begun owner parameters sort place word is begins fits.0 fits.1
position_fits limit token begun (function_read fronted parameters frequency) sort place word is room begins fits =
    function_read_fits limit begun fronted parameters frequency sort place room begins fits.0 fits.1
position_fits limit token begun (annotation_declared named parameters) sort place word is room begins fits =
    annotation_declared_fits limit begun named parameters sort place begins fits
position_fits limit token begun (struct_named named) sort place word is room begins fits =
    struct_named_fits limit begun named sort begins
position_fits limit token begun (fields_read held) sort place word is room begins fits =
    fields_fits limit token begun held sort place word is begins fits
position_fits limit token begun (field_read held front) sort place word is room begins fits =
    field_fits limit begun held front sort room begins fits.0 fits.1
position_fits limit token begun (enum_named named) sort place word is room begins fits =
    enum_named_fits limit begun named sort begins
position_fits limit token begun (value_wanted held) sort place word is room begins fits =
    value_wanted_fits limit begun held sort place begins fits
position_fits limit token begun (value_read held name) sort place word is room begins fits =
    value_read_fits limit begun held name sort begins fits
position_fits limit token begun (number_wanted held name) sort place word is room begins fits =
    number_wanted_fits limit begun held name sort place begins fits
position_fits limit token begun (number_read held name value end) sort place word is room begins fits =
    number_read_fits limit begun held name value end sort begins fits
position_fits limit token begun (struct_closed held) sort place word is room begins fits =
    struct_closed_fits limit begun held sort place begins fits
position_fits limit token begun (enum_closed held) sort place word is room begins fits =
    enum_closed_fits limit begun held sort place begins fits.0 fits.1
position_fits limit token begun (expression site mode frames) sort place word is room begins fits =
    expression_fits limit begun site mode frames sort place word is begins fits.0 fits.1 fits.2
position_fits limit token begun (opened site mode frames bracket) sort place word is room begins fits =
    opened_fits limit begun site mode frames bracket sort place word is begins fits.0 fits.1 fits.2

version_fits : (limit at : ℕ) (sort : Sort) (place : Span) → OutcomeFits limit (version_step at sort place)
version_fits limit at (other_literal (lit.Real text double)) place = tt
version_fits limit at sort place = tt

version_ends_fits : (limit at : ℕ) (version : VersionLit) (sort : Sort) (place : Span) →
    OutcomeFits limit (version_ends at version sort place)
version_ends_fits limit at version semicolon place =
    (record { imports = tt; annotations = tt; declarations = tt }, tt)
version_ends_fits limit at version sort place = tt

state_fits : (limit token : ℕ) (state : State) (sort : Sort) (place : Span) (word : Kind) → IsOf sort word →
    1 ≤ limit → ModuleFits limit state → OutcomeFits limit (state_step limit token state sort place)
state_fits limit token mdl_wanted mdl_word place word is room fits = tt
state_fits limit token mdl_wanted sort place word is room fits = tt
state_fits limit token (version_wanted at) sort place word is room fits = version_fits limit at sort place
state_fits limit token (version_read at version) sort place word is room fits =
    version_ends_fits limit at version sort place
state_fits limit token (within begun position) sort place word is room fits =
    position_fits limit token begun position sort place word is room fits.0 fits.1

module_sort_fits : (limit token : ℕ) (state : State) (sort : Sort) (place : Span) (word : Kind) → IsOf sort word →
    1 ≤ limit → ModuleFits limit state → OutcomeFits limit (module_sort_step limit token state sort place)
module_sort_fits limit token state (left_out text) place word is room fits = tt
module_sort_fits limit token state sort place word is room fits =
    state_fits limit token state sort place word is room fits

-- what is permitted is what the machine steps to

judged_fits : (limit : ℕ) (state : State) (verdict : Verdict) → ModuleFits limit state →
    OutcomeFits limit (judged state verdict)
judged_fits limit state passes fits = fits
judged_fits limit state refused_here fits = tt
judged_fits limit state (refused_before at) fits = tt
judged_fits limit state undecided fits = tt

permitted_state_fits : (limit : ℕ) (state : State) → ModuleFits limit state →
    OutcomeFits limit (permitted_state state)
permitted_state_fits limit (within begun position) fits =
    judged_fits limit (within begun position) (verdict_in position) fits
permitted_state_fits limit mdl_wanted fits = tt
permitted_state_fits limit (version_wanted at) fits = tt
permitted_state_fits limit (version_read at version) fits =
    if_fits limit (is_version version.text version.double) (on (version_read at version)) other_version tt tt

permitted_fits : (strict : Bool) (limit : ℕ) (made : Outcome) → OutcomeFits limit made →
    OutcomeFits limit (permitted strict made)
permitted_fits true limit (on state) fits = permitted_state_fits limit state fits
permitted_fits true limit (waits state) fits = tt
permitted_fits true limit wrong fits = tt
permitted_fits true limit too_deep fits = tt
permitted_fits true limit (leaves_out earlier text) fits = tt
permitted_fits true limit statement_body fits = tt
permitted_fits true limit other_version fits = tt
permitted_fits false limit made fits = fits

pub module_taken_fits : (strict : Bool) (limit number : ℕ) (state : State) (token : Token) (then : State) →
    1 ≤ limit → ModuleFits limit state → module_taken strict limit number state token ≡ on then →
    ModuleFits limit then
module_taken_fits strict limit number state token then room fits is =
    subst (OutcomeFits limit) is (permitted_fits strict limit (module_step limit number state token)
    (module_sort_fits limit number state (sort_of token.kind) (from_to token.at token.end) token.kind
    (is_of_sort token.kind) room fits))

pub module_leads_fits : (strict : Bool) (limit number : ℕ) (state : State) (tokens : List Token) (last : State) →
    1 ≤ limit → ModuleFits limit state → ModuleLeads strict limit number state tokens last →
    ModuleFits limit last
module_leads_fits strict limit number state tokens last room fits (here _ _) = fits
module_leads_fits strict limit number state tokens last room fits (next _ _ then _ token others goes_on leads) =
    module_leads_fits strict limit (suc number) then others last room
    (module_taken_fits strict limit number state token then room fits goes_on) leads

-- The end of the text.

abbrev RunFits : ℕ → ModuleRun → Type 0
RunFits limit (module_read tree) = IsModule tree × (module_height tree ≤ limit)
RunFits limit _ = Unit {0}

begun_read : (limit : ℕ) (begun : Begun) → BegunFits limit begun → (early : Bool) →
    RunFits limit (module_end 0 0 (within begun (item_wanted early)))
begun_read limit begun begins early =
    let notes = annotations_low limit begun.annotations begins.annotations in
    let low = all_low (DeclarationFits limit) declaration_height limit (λ one fits. fits.1) begun.declarations
    begins.declarations in (
      record {
        imports = begins.imports;
        annotations = are_annotations limit begun.annotations begins.annotations;
        declarations = all_map (DeclarationFits limit) IsDeclaration (λ one fits. fits.0) begun.declarations
            begins.declarations;
      },
      omega (arith, notes, low),
    )

module_end_fits : (limit : ℕ) (state : State) → ModuleFits limit state → RunFits limit (module_end 0 0 state)
module_end_fits limit (within begun (item_wanted early)) fits = begun_read limit begun fits.0 early
module_end_fits limit state fits = tt

-- a module that is read whole is levelled and not too high
pub module_ends_fits : (strict : Bool) (limit number : ℕ) (tokens : List Token) (tree : ModuleTree) → 1 ≤ limit →
    ModuleEnds strict limit number mdl_wanted tokens tree → IsModule tree × (module_height tree ≤ limit)
module_ends_fits strict limit number tokens tree room ends =
    subst (RunFits limit) (ends.ends 0 0) (module_end_fits limit ends.last
    (module_leads_fits strict limit number mdl_wanted tokens ends.last room tt ends.leads))

-- Where the machine of modules is strict, what it reads is plain, and its states may go on.
use Rattle.std.proofs.Common.{◌≡◌, subst, refl, ℕ, suc, Bool, true, false, List, [], if◌then◌else◌}
use Rattle.mdl_lexer.specs.declared.token.Token.{Token}
use Rattle.mdl_syntax.specs.declared.names.Span.{Span}
use Rattle.mdl_syntax.specs.declared.expressions.Lit.TheVariants as lit
use Rattle.mdl_syntax.specs.declared.modules.VersionLit.{VersionLit}
use Rattle.mdl_syntax.specs.Modules.{ModuleTree}
use Rattle.expression_grammar.specs.inside.Machine.{Sort, sort_of, from_to, left_out, other_literal}
use Rattle.expression_grammar.specs.inside.Machine.{semicolon, mdl_word, mode_step, Mode, Frame, step}
use Rattle.expression_grammar.specs.inside.Machine.{sort_step, is_deferred}
use Rattle.module_grammar.specs.inside.ModuleMachine.{ModuleRun}
use Rattle.module_grammar.specs.inside.ModuleStates.{Begun, Position, State, Outcome, on}
use Rattle.module_grammar.specs.inside.ModuleStates.{wrong, too_deep, leaves_out, statement_body}
use Rattle.module_grammar.specs.inside.ModuleStates.{other_version, mdl_wanted, version_wanted}
use Rattle.module_grammar.specs.inside.ModuleStates.{version_read, within, item_wanted, importing}
use Rattle.module_grammar.specs.inside.ModuleStates.{imported, using, used_wanted, used_read}
use Rattle.module_grammar.specs.inside.ModuleStates.{used_next, used_all, own_wanted}
use Rattle.module_grammar.specs.inside.ModuleStates.{annotations_begun, first_annotation}
use Rattle.module_grammar.specs.inside.ModuleStates.{annotation_read, annotations_closing, annotated}
use Rattle.module_grammar.specs.inside.ModuleStates.{exported_read, kin_named, annotation_named}
use Rattle.module_grammar.specs.inside.ModuleStates.{fronting, declared, parameters_begun, star_read}
use Rattle.module_grammar.specs.inside.ModuleStates.{variant_read, base_read, parameter_read}
use Rattle.module_grammar.specs.inside.ModuleStates.{parameter_next, function_read}
use Rattle.module_grammar.specs.inside.ModuleStates.{annotation_declared, struct_named, fields_read}
use Rattle.module_grammar.specs.inside.ModuleStates.{field_read, enum_named, value_wanted, value_read}
use Rattle.module_grammar.specs.inside.ModuleStates.{number_wanted, number_read, struct_closed}
use Rattle.module_grammar.specs.inside.ModuleMachine.{position_step}
use Rattle.module_grammar.specs.inside.ModuleStates.{enum_closed, expression, opened}
use Rattle.module_grammar.specs.inside.ModuleMachine.{version_step, version_ends, state_step}
use Rattle.module_grammar.specs.inside.ModuleMachine.{module_sort_step, module_step, verdict_in}
use Rattle.module_grammar.specs.inside.ModuleMachine.{judged, permitted_state, Verdict, passes}
use Rattle.module_grammar.specs.inside.ModuleStates.{waits}
use Rattle.module_grammar.specs.inside.ModuleMachine.{refused_here, refused_before, undecided}
use Rattle.module_grammar.specs.inside.ModuleMachine.{permitted, module_taken, module_end, module_read}
use Rattle.module_grammar.specs.inside.ModuleStates.{Fronting, Site, of_declaration, of_parameter}
use Rattle.module_grammar.specs.inside.ModuleStates.{of_field, in_function_body, in_default}
use Rattle.module_grammar.specs.inside.ModuleStates.{in_field_default, in_annotation, in_base}
use Rattle.module_grammar.specs.inside.ModuleLeads.{ModuleLeads, here, next, ModuleEnds, MayGoOn}
use Rattle.mdl_syntax.specs.AcceptedModules.{is_version, IsPlain}
use Rattle.module_grammar.specs.inside.ModulePlain.{ModulePlain, BegunPlain, PositionPlain, Takes}
use Rattle.module_grammar.specs.inside.ModulePlain.{StatePasses, IsPlainState}
use Rattle.module_grammar.proofs.ModulePlainFronts.{OutcomePlain, front_plain, front_mode_plain}
use Rattle.module_grammar.proofs.ModulePlainFronts.{never_passes}
use Rattle.module_grammar.proofs.ModulePlainImports.{import_step_plain, import_ends_plain}
use Rattle.module_grammar.proofs.ModulePlainImports.{using_step_plain, used_wanted_plain}
use Rattle.module_grammar.proofs.ModulePlainImports.{used_read_plain, used_next_plain, used_all_plain}
use Rattle.module_grammar.proofs.ModulePlainPositions.{item_plain, exported_plain, kin_plain}
use Rattle.module_grammar.proofs.ModulePlainPositions.{annotation_named_plain, declared_plain}
use Rattle.module_grammar.proofs.ModulePlainPositions.{parameters_plain, parameter_next_plain}
use Rattle.module_grammar.proofs.ModulePlainPositions.{parameter_plain, star_read_plain}
use Rattle.module_grammar.proofs.ModulePlainPositions.{variant_read_plain, base_plain}
use Rattle.module_grammar.proofs.ModulePlainPositions.{function_read_plain, annotation_declared_plain}
use Rattle.module_grammar.proofs.ModulePlainStructs.{struct_named_plain, fields_plain, field_plain}
use Rattle.module_grammar.proofs.ModulePlainStructs.{struct_closed_plain, enum_named_plain}
use Rattle.module_grammar.proofs.ModulePlainStructs.{value_wanted_plain, value_read_plain}
use Rattle.module_grammar.proofs.ModulePlainStructs.{number_wanted_plain, number_read_plain}
use Rattle.module_grammar.proofs.ModulePlainStructs.{enum_closed_plain, second_bracket_plain}
use Rattle.module_grammar.proofs.ModulePlainStructs.{own_plain, annotation_read_plain}
use Rattle.module_grammar.proofs.ModulePlainStructs.{closing_annotations_plain, annotated_plain}
use Rattle.module_grammar.proofs.ModulePlainSites.{passed_plain}
use Rattle.module_grammar.proofs.ModulePlainExpressions.{expression_plain, opened_plain}
use Rattle.module_grammar.proofs.ModulePlainExpressions.{first_annotation_plain}

position_plain : (limit token : ℕ) (begun : Begun) (position : Position) (sort : Sort)
    (place : Span) (mark : Token) →
    Takes mark sort place → BegunPlain begun → PositionPlain limit position →
    verdict_in position ≡ passes →
    OutcomePlain limit (position_step limit token begun position sort place)
position_plain limit token begun (item_wanted early) sort place mark takes begins plain passed =
    item_plain limit token begun early sort place begins
position_plain limit token begun (importing at items naming) sort place mark takes begins plain
    passed =
    import_step_plain limit begun at items naming sort place begins
position_plain limit token begun (imported at items) sort place mark takes begins plain passed =
    import_ends_plain limit begun at items sort place begins
position_plain limit token begun (using at naming) sort place mark takes begins plain passed =
    using_step_plain limit begun at naming sort place begins
position_plain limit token begun (used_wanted at name) sort place mark takes begins plain passed =
    used_wanted_plain limit begun at name sort place begins
position_plain limit token begun (used_read at name names) sort place mark takes begins plain
    passed =
    used_read_plain limit begun at name names sort place begins
position_plain limit token begun (used_next at name names) sort place mark takes begins plain
    passed =
    used_next_plain limit begun at name names sort place begins
position_plain limit token begun (used_all at name) sort place mark takes begins plain passed =
    used_all_plain limit begun at name sort place begins
position_plain limit token begun own_wanted sort place mark takes begins plain passed =
    own_plain limit begun sort begins
position_plain limit token begun (annotations_begun holder) sort place mark takes begins plain
    passed =
    second_bracket_plain limit begun holder sort begins plain
position_plain limit token begun (first_annotation holder) sort place mark takes begins plain
    passed =
    first_annotation_plain limit begun holder sort place mark takes begins plain
position_plain limit token begun (annotation_read holder annotations) sort place mark takes begins
    plain passed =
    annotation_read_plain limit begun holder annotations sort begins plain.0 plain.1
position_plain limit token begun (annotations_closing holder annotations) sort place mark takes
    begins plain passed =
    closing_annotations_plain limit begun holder annotations sort place begins plain.0 plain.1
position_plain limit token begun (annotated holder annotations end) sort place mark takes begins
    plain passed =
    annotated_plain limit begun holder annotations end sort place begins plain.0 plain.1
position_plain limit token begun (exported_read at) sort place mark takes begins plain passed =
    exported_plain limit token begun at sort place begins
position_plain limit token begun (kin_named at exported kin) sort place mark takes begins plain
    passed =
    kin_plain limit begun at exported kin sort place begins
position_plain limit token begun (annotation_named named) sort place mark takes begins plain
    passed =
    annotation_named_plain limit begun named sort begins
position_plain limit token begun (fronting of mode) sort place mark takes begins plain passed =
    front_plain limit token begun of (mode_step limit mode [] sort place) begins plain.0
    (front_mode_plain limit of mode sort place passed plain.1)
position_plain limit token begun (declared fronted) sort place mark takes begins plain passed =
    declared_plain limit begun fronted sort begins plain
position_plain limit token begun (parameters_begun owner) sort place mark takes begins plain
    passed =
    parameters_plain limit token begun owner sort place begins plain
position_plain limit token begun (star_read fronted) sort place mark takes begins plain passed =
    star_read_plain limit begun fronted sort begins plain
position_plain limit token begun (variant_read fronted) sort place mark takes begins plain passed =
    variant_read_plain limit begun fronted sort begins plain
position_plain limit token begun (base_read fronted annotations one) sort place mark takes begins
    plain passed =
    base_plain limit begun fronted annotations one sort place begins plain.0 plain.1 plain.2
position_plain limit token begun (parameter_read owner parameters front) sort place mark takes
    begins plain passed =
    parameter_plain limit begun owner parameters front sort begins plain.0 plain.1 plain.2
position_plain limit token begun (parameter_next owner parameters) sort place mark takes begins
    plain passed =
    parameter_next_plain limit token begun owner parameters sort place begins plain.0 plain.1
position_plain limit token begun (function_read fronted parameters frequency) sort place mark takes
    begins plain passed =
    function_read_plain limit begun fronted parameters frequency sort place begins plain.0 plain.1
position_plain limit token begun (annotation_declared named parameters) sort place mark takes begins
    plain passed =
    annotation_declared_plain limit begun named parameters sort place begins plain
position_plain limit token begun (struct_named named) sort place mark takes begins plain passed =
    struct_named_plain limit begun named sort begins
position_plain limit token begun (fields_read held) sort place mark takes begins plain passed =
    fields_plain limit token begun held sort place begins plain
position_plain limit token begun (field_read held front) sort place mark takes begins plain passed =
    field_plain limit begun held front sort begins plain.0 plain.1
position_plain limit token begun (enum_named named) sort place mark takes begins plain passed =
    enum_named_plain limit begun named sort begins
position_plain limit token begun (value_wanted held) sort place mark takes begins plain passed =
    value_wanted_plain limit begun held sort place begins plain
position_plain limit token begun (value_read held name) sort place mark takes begins plain passed =
    value_read_plain limit begun held name sort begins plain
position_plain limit token begun (number_wanted held name) sort place mark takes begins plain
    passed =
    number_wanted_plain limit begun held name sort place begins plain
position_plain limit token begun (number_read held name value end) sort place mark takes begins
    plain passed =
    number_read_plain limit begun held name value end sort begins plain
position_plain limit token begun (struct_closed held) sort place mark takes begins plain passed =
    struct_closed_plain limit begun held sort place begins plain
position_plain limit token begun (enum_closed held) sort place mark takes begins plain passed =
    enum_closed_plain limit begun held sort place begins plain
position_plain limit token begun (expression site mode frames) sort place mark takes begins plain
    passed =
    let reached = plain.1 passed in
    expression_plain limit begun site mode frames sort place mark takes begins plain.0 reached.0
    reached.1
position_plain limit token begun (opened site mode frames bracket) sort place mark takes begins
    plain passed =
    opened_plain limit begun site mode frames bracket sort place mark takes begins plain

version_plain : (limit at : ℕ) (sort : Sort) (place : Span) →
    OutcomePlain limit (version_step at sort place)
version_plain limit at (other_literal (lit.Real text double)) place = tt
version_plain limit at sort place = tt

version_ends_plain : (limit at : ℕ) (version : VersionLit) (sort : Sort) (place : Span) →
    is_version version.text version.double ≡ true → OutcomePlain limit
    (version_ends at version sort place)
version_ends_plain limit at version semicolon place known =
    (record { version = known; annotations = tt; declarations = tt }, tt)
version_ends_plain limit at version sort place known = tt

state_plain : (limit number : ℕ) (state : State) (sort : Sort) (place : Span) (mark : Token) →
    Takes mark sort place → ModulePlain limit state → StatePasses state →
    OutcomePlain limit (state_step limit number state sort place)
state_plain limit number mdl_wanted mdl_word place mark takes plain passed = tt
state_plain limit number mdl_wanted sort place mark takes plain passed = tt
state_plain limit number (version_wanted at) sort place mark takes plain passed =
    version_plain limit at sort place
state_plain limit number (version_read at version) sort place mark takes plain passed =
    version_ends_plain limit at version sort place passed
state_plain limit number (within begun position) sort place mark takes plain passed =
    position_plain limit number begun position sort place mark takes plain.0 plain.1 passed

module_sort_plain : (limit number : ℕ) (state : State) (sort : Sort) (place : Span) (mark : Token) →
    ((room : ℕ) (mode : Mode) (frames : List Frame) →
    step room mode frames mark ≡ sort_step room mode frames sort place) → ModulePlain limit state →
    StatePasses state → OutcomePlain limit (module_sort_step limit number state sort place)
module_sort_plain limit number state (left_out text) place mark same plain passed = tt
module_sort_plain limit number state sort place mark same plain passed =
    state_plain limit number state sort place mark (record { is = same }) plain passed

-- what is permitted is what the machine steps to

abbrev OutcomeIs : ℕ → Outcome → Type 0
OutcomeIs limit (on state) = IsPlainState limit state
OutcomeIs limit _ = Unit {0}

judged_plain : (limit : ℕ) (begun : Begun) (position : Position) (verdict : Verdict) →
    verdict_in position ≡ verdict → ModulePlain limit (within begun position) →
    OutcomeIs limit (judged (within begun position) verdict)
judged_plain limit begun position passes is plain = (plain, is)
judged_plain limit begun position refused_here is plain = tt
judged_plain limit begun position (refused_before at) is plain = tt
judged_plain limit begun position undecided is plain = tt

permitted_version : (limit at : ℕ) (version : VersionLit) (test : Bool) →
    is_version version.text version.double ≡ test →
    OutcomeIs limit (if test then on (version_read at version) else other_version)
permitted_version limit at version true is = (tt, is)
permitted_version limit at version false is = tt

permitted_state_plain : (limit : ℕ) (state : State) → ModulePlain limit state →
    OutcomeIs limit (permitted_state state)
permitted_state_plain limit (within begun position) plain =
    judged_plain limit begun position (verdict_in position) refl plain
permitted_state_plain limit mdl_wanted plain = (tt, tt)
permitted_state_plain limit (version_wanted at) plain = (tt, tt)
permitted_state_plain limit (version_read at version) plain =
    permitted_version limit at version (is_version version.text version.double) refl

permitted_plain : (limit : ℕ) (made : Outcome) → OutcomePlain limit made →
    OutcomeIs limit (permitted true made)
permitted_plain limit (on state) plain = permitted_state_plain limit state plain
permitted_plain limit (waits state) plain = tt
permitted_plain limit wrong plain = tt
permitted_plain limit too_deep plain = tt
permitted_plain limit (leaves_out earlier text) plain = tt
permitted_plain limit statement_body plain = tt
permitted_plain limit other_version plain = tt

-- the machine keeps what it keeps
pub module_taken_plain : (limit number : ℕ) (state : State) (token : Token) (after : State) →
    IsPlainState limit state → module_taken true limit number state token ≡ on after →
    IsPlainState limit after
module_taken_plain limit number state token after plain is =
    subst (OutcomeIs limit) is (permitted_plain limit (module_step limit number state token)
    (module_sort_plain limit number state (sort_of token.kind) (from_to token.at token.end) token
    (λ room mode frames. refl) plain.0 plain.1))

pub module_leads_plain : (limit number : ℕ) (state : State) (tokens : List Token) (last : State) →
    IsPlainState limit state → ModuleLeads true limit number state tokens last →
    IsPlainState limit last
module_leads_plain limit number state tokens last plain (here _ _) = plain
module_leads_plain limit number state tokens last plain (next _ _ after _ token others goes_on
    leads) =
    module_leads_plain limit (suc number) after others last
    (module_taken_plain limit number state token after plain goes_on) leads

-- The end of the text.

abbrev RunPlain : ModuleRun → Type 0
RunPlain (module_read tree) =
    (is_version tree.version.text tree.version.double ≡ true) × IsPlain tree
RunPlain _ = Unit {0}

module_end_plain : (limit : ℕ) (state : State) → ModulePlain limit state →
    RunPlain (module_end 0 0 state)
module_end_plain limit (within begun (item_wanted early)) plain =
    (plain.0.version, (plain.0.annotations, plain.0.declarations))
module_end_plain limit state plain = tt

-- a module that is read has a version that is accepted, and is plain
pub module_plain : (limit : ℕ) (tokens : List Token) (tree : ModuleTree) →
    ModuleEnds true limit 0 mdl_wanted tokens tree →
    (is_version tree.version.text tree.version.double ≡ true) × IsPlain tree
module_plain limit tokens tree ends =
    subst RunPlain (ends.ends 0 0) (module_end_plain limit ends.last
    (module_leads_plain limit 0 mdl_wanted tokens ends.last (tt, tt) ends.leads).0)

-- Where the machine goes on.

if_refused : (mode : Mode) (test : Bool) → is_deferred mode ≡ test →
    (if test then refused_here else passes) ≡ passes → is_deferred mode ≡ false
if_refused mode true is passed = absurd (never_passes passed)
if_refused mode false is passed = is

front_goes_on : (begun : Begun) (of : Fronting) (mode : Mode) →
    verdict_in (fronting of mode) ≡ passes →
    MayGoOn true (within begun (fronting of mode))
front_goes_on begun (of_declaration at exported) mode passed =
    if_refused mode (is_deferred mode) refl passed
front_goes_on begun (of_parameter owner parameters) mode passed = tt
front_goes_on begun (of_field held) mode passed = if_refused mode (is_deferred mode) refl passed

site_goes_on : (limit : ℕ) (begun : Begun) (site : Site) (mode : Mode) (frames : List Frame) →
    PositionPlain limit (expression site mode frames) →
    verdict_in (expression site mode frames) ≡ passes →
    MayGoOn true (within begun (expression site mode frames))
site_goes_on limit begun (in_function_body fronted parameters frequency annotations) mode frames
    plain passed = (
      passed_plain (in_function_body fronted parameters frequency annotations) mode frames passed,
      (plain.1 passed).0,
    )
site_goes_on limit begun (in_default owner parameters front) mode frames plain passed =
    passed_plain (in_default owner parameters front) mode frames passed
site_goes_on limit begun (in_field_default held front) mode frames plain passed =
    passed_plain (in_field_default held front) mode frames passed
site_goes_on limit begun (in_annotation holder annotations) mode frames plain passed =
    passed_plain (in_annotation holder annotations) mode frames passed
site_goes_on limit begun (in_base fronted annotations) mode frames plain passed =
    passed_plain (in_base fronted annotations) mode frames passed

pub plain_goes_on : (limit : ℕ) (state : State) → IsPlainState limit state → MayGoOn true state
plain_goes_on limit (within begun (fronting of mode)) plain = front_goes_on begun of mode plain.1
plain_goes_on limit (within begun (expression site mode frames)) plain =
    site_goes_on limit begun site mode frames plain.0.1 plain.1
plain_goes_on limit state plain = tt

-- a state that tokens lead to may go on to the end of a module
pub module_goes_on : (limit : ℕ) (tokens : List Token) (state : State) →
    ModuleLeads true limit 0 mdl_wanted tokens state → MayGoOn true state
module_goes_on limit tokens state leads =
    plain_goes_on limit state (module_leads_plain limit 0 mdl_wanted tokens state (tt, tt) leads)

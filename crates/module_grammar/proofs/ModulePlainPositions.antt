-- A step between expressions keeps what is read plain.
use Rattle.std.proofs.Common.{◌≡◌, sym, subst, refl, ℕ, Bool, true, false, List, [], ◌∷◌, ◌++◌}
use Rattle.std.proofs.Common.{Option, Some, None}
use Rattle.std.specs.List.{AllByRecursion}
use Rattle.mdl_syntax.specs.declared.names.Span.{Span}
use Rattle.mdl_syntax.specs.declared.types.Freq.{Freq}
use Rattle.mdl_syntax.specs.Modules.{Annotation, Parameter}
use Rattle.expression_grammar.specs.inside.Machine.{Sort, wanted, identifier, binary_operator, opening}
use Rattle.expression_grammar.specs.inside.Machine.{closing, opening_bracket, comma, semicolon, equals}
use Rattle.expression_grammar.specs.inside.Machine.{frequency_word, import_word, using_word, module_word}
use Rattle.expression_grammar.specs.inside.Machine.{export_word, struct_word, enum_word, annotation_word}
use Rattle.expression_grammar.specs.inside.Machine.{head_step, type_step}
use Rattle.module_grammar.specs.inside.ModuleStates.{Begun, Named, Fronted, Front, Owner, Fronting}
use Rattle.module_grammar.specs.inside.ModuleStates.{Kin, wrong, of_function, of_annotation}
use Rattle.module_grammar.specs.inside.ModuleStates.{of_declaration, of_parameter, struct_kin}
use Rattle.module_grammar.specs.inside.ModuleStates.{enum_kin, annotation_kin, plain_parameter}
use Rattle.module_grammar.specs.inside.ModuleMachine.{variant_from, no_frequency}
use Rattle.module_grammar.specs.inside.ModuleStates.{prototype_from}
use Rattle.module_grammar.specs.inside.ModuleMachine.{first_front_step, declaration_step}
use Rattle.module_grammar.specs.inside.ModuleStates.{is_star}
use Rattle.module_grammar.specs.inside.ModuleMachine.{item_step, exported_step, kin_state, kin_step}
use Rattle.module_grammar.specs.inside.ModuleMachine.{annotation_named_step, declared_step}
use Rattle.module_grammar.specs.inside.ModuleMachine.{parameters_state, star_step, parameters_step}
use Rattle.module_grammar.specs.inside.ModuleMachine.{parameter_ends, parameter_step, star_read_step}
use Rattle.module_grammar.specs.inside.ModuleMachine.{variant_annotated, variant_step, base_step}
use Rattle.module_grammar.specs.inside.ModuleMachine.{function_annotated, function_step}
use Rattle.module_grammar.specs.inside.ModuleMachine.{annotation_annotated, annotation_declared_step}
use Rattle.module_grammar.specs.inside.ModuleMachine.{before_body, passes}
use Rattle.module_grammar.specs.inside.ModuleStates.{default_end}
use Rattle.mdl_syntax.specs.AcceptedModules.{PlainAnnotations, LooseParameter}
use Rattle.expression_grammar.specs.inside.Leads.{here}
use Rattle.module_grammar.specs.inside.ModulePlain.{AnnotationPlain, BegunPlain, FrontedPlain}
use Rattle.module_grammar.specs.inside.ModulePlain.{OwnerPlain, OwnedPlain, OwnedSize, FrontingPlain}
use Rattle.module_grammar.specs.inside.ModulePlain.{PositionPlain}
use Rattle.module_grammar.proofs.ModulePlainFronts.{OutcomePlain, IsPassed, type_plain, head_plain}
use Rattle.module_grammar.proofs.ModulePlainFronts.{front_plain, front_step_plain}
use Rattle.module_grammar.proofs.ModulePlainParts.{if_plain, declaration_plain, prototype_plain}
use Rattle.module_grammar.proofs.ModulePlainParts.{owned_more}

-- Types.

pub first_front_plain : (limit token : ℕ) (begun : Begun) (of : Fronting) (sort : Sort)
    (place : Span) → BegunPlain begun → FrontingPlain of →
    OutcomePlain limit (first_front_step token begun of sort place)
first_front_plain limit token begun of sort place begins plain =
    front_plain limit token begun of (head_step [] sort place) begins plain
    (front_step_plain of (head_step [] sort place) (head_plain sort place))

declaration_step_plain : (limit token : ℕ) (begun : Begun) (at : ℕ) (exported : Bool) (sort : Sort)
    (place : Span) →
    BegunPlain begun →
    OutcomePlain limit (declaration_step token begun at exported sort place)
declaration_step_plain limit token begun at exported struct_word place begins = (begins, tt)
declaration_step_plain limit token begun at exported enum_word place begins = (begins, tt)
declaration_step_plain limit token begun at exported annotation_word place begins = (begins, tt)
declaration_step_plain limit token begun at exported sort place begins =
    front_plain limit token begun (of_declaration at exported)
    (type_step (no_frequency place.at) [] sort place)
    begins tt (type_plain (no_frequency place.at) sort place)

pub item_plain : (limit token : ℕ) (begun : Begun) (early : Bool) (sort : Sort) (place : Span) →
    BegunPlain begun → OutcomePlain limit (item_step token begun early sort place)
item_plain limit token begun true import_word place begins = (begins, tt)
item_plain limit token begun true using_word place begins = (begins, tt)
item_plain limit token begun true module_word place begins = (begins, tt)
item_plain limit token begun early export_word place begins = (begins, tt)
item_plain limit token begun early sort place begins =
    declaration_step_plain limit token begun place.at false sort place begins

pub exported_plain : (limit token : ℕ) (begun : Begun) (at : ℕ) (sort : Sort) (place : Span) →
    BegunPlain begun → OutcomePlain limit (exported_step token begun at sort place)
exported_plain limit token begun at using_word place begins = tt
exported_plain limit token begun at sort place begins =
    declaration_step_plain limit token begun at true sort place begins

kin_state_plain : (limit : ℕ) (named : Named) (kin : Kin) → PositionPlain limit
    (kin_state named kin)
kin_state_plain limit named struct_kin = tt
kin_state_plain limit named enum_kin = tt
kin_state_plain limit named annotation_kin = tt

pub kin_plain : (limit : ℕ) (begun : Begun) (at : ℕ) (exported : Bool) (kin : Kin) (sort : Sort)
    (place : Span) →
    BegunPlain begun → OutcomePlain limit (kin_step begun at exported kin sort place)
kin_plain limit begun at exported kin (identifier text) place begins =
    (begins, kin_state_plain limit _ kin)
kin_plain limit begun at exported kin sort place begins = tt

pub annotation_named_plain : (limit : ℕ) (begun : Begun) (named : Named) (sort : Sort) →
    BegunPlain begun →
    OutcomePlain limit (annotation_named_step begun named sort)
annotation_named_plain limit begun named opening begins = (begins, tt)
annotation_named_plain limit begun named sort begins = tt

pub declared_plain : (limit : ℕ) (begun : Begun) (fronted : Fronted) (sort : Sort) →
    BegunPlain begun →
    FrontedPlain fronted → OutcomePlain limit (declared_step begun fronted sort)
declared_plain limit begun fronted opening begins plain = (begins, plain)
declared_plain limit begun fronted sort begins plain = tt

-- Parameters.

none_owned : (owner : Owner) → OwnedPlain owner []
none_owned (of_function fronted) = (tt, λ none. tt)
none_owned (of_annotation named) = tt

parameters_state_plain : (limit : ℕ) (owner : Owner) (parameters : List Parameter) →
    OwnerPlain owner →
    OwnedPlain owner parameters → PositionPlain limit (parameters_state owner parameters)
parameters_state_plain limit (of_function fronted) parameters own owns = (own, owns)
parameters_state_plain limit (of_annotation named) parameters own owns = owns

star_plain : (limit : ℕ) (begun : Begun) (owner : Owner) → BegunPlain begun → OwnerPlain owner →
    OutcomePlain limit (star_step begun owner)
star_plain limit begun (of_function fronted) begins own = (begins, own)
star_plain limit begun (of_annotation named) begins own = tt

pub parameters_plain : (limit token : ℕ) (begun : Begun) (owner : Owner) (sort : Sort)
    (place : Span) →
    BegunPlain begun → OwnerPlain owner →
    OutcomePlain limit (parameters_step token begun owner sort place)
parameters_plain limit token begun owner closing place begins own =
    (begins, parameters_state_plain limit owner [] own (none_owned owner))
parameters_plain limit token begun owner (binary_operator op level) place begins own =
    if_plain limit (is_star op) (star_step begun owner) wrong
    (star_plain limit begun owner begins own) tt
parameters_plain limit token begun owner sort place begins own =
    first_front_plain limit token begun (of_parameter owner []) sort place begins
    (own, none_owned owner)

pub parameter_next_plain : (limit token : ℕ) (begun : Begun) (owner : Owner)
    (parameters : List Parameter)
    (sort : Sort) (place : Span) →
    BegunPlain begun → OwnerPlain owner →
    OwnedPlain owner parameters →
    OutcomePlain limit (first_front_step token begun (of_parameter owner parameters) sort place)
parameter_next_plain limit token begun owner parameters sort place begins own owns =
    first_front_plain limit token begun (of_parameter owner parameters) sort place begins
    (own, owns)

pub parameter_ends_plain : (limit : ℕ) (begun : Begun) (owner : Owner) (parameters : List Parameter)
    (sort : Sort) → BegunPlain begun → OwnerPlain owner → OwnedPlain owner parameters →
    OutcomePlain limit (parameter_ends begun owner parameters sort)
parameter_ends_plain limit begun owner parameters comma begins own owns = (begins, (own, owns))
parameter_ends_plain limit begun owner parameters closing begins own owns =
    (begins, parameters_state_plain limit owner parameters own owns)
parameter_ends_plain limit begun owner parameters sort begins own owns = tt

pub parameter_plain : (limit : ℕ) (begun : Begun) (owner : Owner) (parameters : List Parameter)
    (front : Front)
    (sort : Sort) → BegunPlain begun → OwnerPlain owner → OwnedPlain owner parameters →
    OwnedSize owner front.ty → OutcomePlain limit (parameter_step begun owner parameters front sort)
parameter_plain limit begun owner parameters front equals begins own owns size =
    (begins, ((own, owns, size), λ passed. (tt, ([], here wanted []))))
parameter_plain limit begun owner parameters front opening_bracket begins own owns size =
    (begins, (own, owns, size, tt))
parameter_plain limit begun owner parameters front sort begins own owns size =
    parameter_ends_plain limit begun owner (parameters ++ plain_parameter front None ∷ []) sort
    begins own
    (owned_more owner parameters front None None (default_end front None) owns size tt tt)

-- Variants, functions and annotations.

body_passed : (deferred : Option ℕ) → before_body deferred ≡ passes → deferred ≡ None
body_passed None passed = refl
body_passed (Some at) passed = absurd (subst IsPassed (sym passed) tt)

pub star_read_plain : (limit : ℕ) (begun : Begun) (fronted : Fronted) (sort : Sort) →
    BegunPlain begun →
    FrontedPlain fronted → OutcomePlain limit (star_read_step begun fronted sort)
star_read_plain limit begun fronted closing begins plain = (begins, plain)
star_read_plain limit begun fronted sort begins plain = tt

pub variant_annotated_plain : (limit : ℕ) (begun : Begun) (fronted : Fronted)
    (annotations : Option (List Annotation))
    (sort : Sort) → BegunPlain begun → FrontedPlain fronted → PlainAnnotations annotations →
    OutcomePlain limit (variant_annotated begun fronted annotations sort)
variant_annotated_plain limit begun fronted annotations equals begins plain notes =
    (begins, ((plain, notes), λ passed. (tt, ([], here wanted []))))
variant_annotated_plain limit begun fronted annotations sort begins plain notes = tt

pub variant_read_plain : (limit : ℕ) (begun : Begun) (fronted : Fronted) (sort : Sort) →
    BegunPlain begun →
    FrontedPlain fronted → OutcomePlain limit (variant_step begun fronted sort)
variant_read_plain limit begun fronted opening_bracket begins plain = (begins, plain)
variant_read_plain limit begun fronted sort begins plain =
    variant_annotated_plain limit begun fronted None sort begins plain tt

pub base_plain : (limit : ℕ) (begun : Begun) (fronted : Fronted)
    (annotations : Option (List Annotation))
    (base : Annotation) (sort : Sort) (place : Span) →
    BegunPlain begun → FrontedPlain fronted →
    PlainAnnotations annotations → AnnotationPlain base →
    OutcomePlain limit (base_step begun fronted annotations base sort place)
base_plain limit begun fronted annotations base semicolon place begins plain notes is =
    declaration_plain limit begun (variant_from fronted annotations base place.end) place.end begins
    (plain, notes, is)
base_plain limit begun fronted annotations base sort place begins plain notes is = tt

pub function_annotated_plain : (limit : ℕ) (begun : Begun) (fronted : Fronted)
    (parameters : List Parameter)
    (frequency : Option Freq) (annotations : Option (List Annotation)) (sort : Sort)
    (place : Span) →
    BegunPlain begun → FrontedPlain fronted → OwnedPlain (of_function fronted) parameters →
    PlainAnnotations annotations →
    OutcomePlain limit (function_annotated begun fronted parameters frequency annotations sort
    place)
function_annotated_plain limit begun fronted parameters frequency annotations equals place begins
    plain owns
    notes = (
      begins,
      (
        (plain, owns, notes),
        λ passed. (body_passed fronted.deferred passed, ([], here wanted [])),
      ),
    )
function_annotated_plain limit begun fronted parameters frequency annotations semicolon place begins
    plain
    owns notes =
    declaration_plain limit begun (prototype_from fronted parameters frequency annotations
    place.end) place.end
    begins (prototype_plain fronted parameters frequency annotations place.end plain owns.0 notes)
function_annotated_plain limit begun fronted parameters frequency annotations sort place begins
    plain owns
    notes =
    tt

pub function_read_plain : (limit : ℕ) (begun : Begun) (fronted : Fronted)
    (parameters : List Parameter)
    (frequency : Option Freq) (sort : Sort) (place : Span) →
    BegunPlain begun →
    FrontedPlain fronted → OwnedPlain (of_function fronted) parameters →
    OutcomePlain limit (function_step begun fronted parameters frequency sort place)
function_read_plain limit begun fronted parameters None (frequency_word freq) place begins plain
    owns =
    (begins, (plain, owns))
function_read_plain limit begun fronted parameters frequency opening_bracket place begins plain
    owns =
    (begins, (plain, owns))
function_read_plain limit begun fronted parameters frequency sort place begins plain owns =
    function_annotated_plain limit begun fronted parameters frequency None sort place begins plain
    owns tt

pub annotation_annotated_plain : (limit : ℕ) (begun : Begun) (named : Named)
    (parameters : List Parameter)
    (annotations : Option (List Annotation)) (sort : Sort) (place : Span) →
    BegunPlain begun →
    AllByRecursion LooseParameter parameters → PlainAnnotations annotations →
    OutcomePlain limit (annotation_annotated begun named parameters annotations sort place)
annotation_annotated_plain limit begun named parameters annotations semicolon place begins owns
    notes =
    declaration_plain limit begun _ place.end begins
    (owns, notes)
annotation_annotated_plain limit begun named parameters annotations sort place begins owns notes =
    tt

pub annotation_declared_plain : (limit : ℕ) (begun : Begun) (named : Named)
    (parameters : List Parameter)
    (sort : Sort) (place : Span) →
    BegunPlain begun → AllByRecursion LooseParameter parameters →
    OutcomePlain limit (annotation_declared_step begun named parameters sort place)
annotation_declared_plain limit begun named parameters opening_bracket place begins owns =
    (begins, owns)
annotation_declared_plain limit begun named parameters sort place begins owns =
    annotation_annotated_plain limit begun named parameters None sort place begins owns tt

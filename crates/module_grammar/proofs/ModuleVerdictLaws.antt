-- Where a size that is deferred is left out, and which size the head around has first.
use Rattle.std.proofs.Common.{◌≡◌, ◌⊎◌, inl, inr, ◌∙◌, sym, ap, subst, refl, ℕ, Bool, true, false}
use Rattle.std.proofs.Common.{List, [], ◌∷◌, ◌++◌, Option, Some, None, codes, if◌then◌else◌}
use Rattle.std.proofs.lemmas.Option.{none-some}
use Rattle.std.proofs.lemmas.List.{append_assoc}
use Rattle.mdl_lexer.specs.declared.token.Token.{Token}
use Rattle.mdl_syntax.specs.declared.names.Name.{Name}
use Rattle.mdl_syntax.specs.declared.types.Freq.{Freq}
use Rattle.mdl_syntax.specs.Modules.{Annotation, Parameter}
use Rattle.expression_grammar.specs.inside.Sound.{Holds, IsMark}
use Rattle.expression_grammar.specs.inside.Machine.{Mode, Frame, Head, is_deferred, wanted}
use Rattle.expression_grammar.specs.inside.Machine.{deferred_wanted}
use Rattle.module_grammar.specs.inside.ModuleStates.{Begun, Position, State, Site, Fronted, within}
use Rattle.module_grammar.specs.inside.ModuleMachine.{Verdict, passes, refused_here, refused_before}
use Rattle.module_grammar.specs.inside.ModuleMachine.{undecided, verdict_in, before_body, if_deferred}
use Rattle.module_grammar.specs.inside.ModuleMachine.{behind_parameter}
use Rattle.module_grammar.specs.inside.ModuleStates.{fronting, expression, opened}
use Rattle.module_grammar.specs.inside.ModuleStates.{of_parameter, of_declaration, of_field}
use Rattle.module_grammar.specs.inside.ModuleStates.{of_function}
use Rattle.module_grammar.specs.inside.ModuleStates.{of_annotation, in_function_body, in_default}
use Rattle.module_grammar.specs.inside.ModuleStates.{in_field_default, in_annotation, in_base}
use Rattle.module_grammar.specs.inside.ModuleStates.{a_parameter, a_function, a_variant, kin_named}
use Rattle.module_grammar.specs.inside.ModuleStates.{an_annotation, parameters_begun}
use Rattle.module_grammar.specs.inside.ModuleStates.{annotation_named, annotation_declared, Holder}
use Rattle.module_grammar.specs.inside.ModuleStates.{parameter_read, parameter_next}
use Rattle.module_grammar.specs.inside.ModuleStates.{annotations_begun}
use Rattle.module_grammar.specs.inside.ModuleStates.{first_annotation, annotation_read, annotated}
use Rattle.module_grammar.specs.inside.ModuleMachine.{deferred_of_site}
use Rattle.module_grammar.specs.inside.ModuleStates.{annotations_closing, Owner}
use Rattle.module_grammar.specs.inside.ModuleHeads.{size_in, deferred_of, fronted_of_owner}
use Rattle.module_grammar.specs.inside.ModuleHeads.{fronted_of_holder, fronted_of_site}
use Rattle.module_grammar.specs.inside.ModuleHolds.{ModuleHolds, SiteHolds}
use Rattle.expression_grammar.proofs.LeftOutLaws.{deferred_front}
use Rattle.module_grammar.proofs.ModuleHeadKinds.{InAnnotation, AnnotationOwner, AnnotationHolder}
use Rattle.module_grammar.proofs.ModuleHeadKinds.{AnnotationSite, IsDeferredFront}
use Rattle.module_grammar.proofs.ModuleHeadSizes.{deferred_tokens}
use Rattle.module_grammar.proofs.ModuleReachedSteps.{PositionComes}
use Rattle.module_grammar.proofs.ModuleVariantSteps.{PastVariant}

-- here, or unless an earlier one is
abbrev pub RefusesHere : Verdict → Type 0
RefusesHere refused_here = Unit {0}
RefusesHere undecided = Unit {0}
RefusesHere verdict = ⊥

abbrev IsHere : Verdict → Type 0
IsHere refused_here = Unit {0}
IsHere verdict = ⊥

abbrev IsUndecided : Verdict → Type 0
IsUndecided undecided = Unit {0}
IsUndecided verdict = ⊥

-- a size is deferred at the last token
abbrev pub IsDeferredAt : Position → Type 0
IsDeferredAt (fronting of (deferred_wanted head name)) = Unit {0}
IsDeferredAt (expression site (deferred_wanted head name) frames) = Unit {0}
IsDeferredAt position = ⊥

body_never : (size : Option ℕ) → RefusesHere (before_body size) → ⊥
body_never None is = is
body_never (Some at) is = is

mode_deferred : (Made : Mode → Type 0) (verdict : Verdict) →
    ((head : Head) (name : Name) → Made (deferred_wanted head name)) → (mode : Mode) →
    RefusesHere (if_deferred mode verdict) → Made mode
mode_deferred Made verdict made (deferred_wanted head name) is = made head name
mode_deferred Made verdict made mode is = absurd is

expression_deferred : (site : Site) (mode : Mode) (frames : List Frame) (verdict : Verdict) →
    RefusesHere (if_deferred mode verdict) → IsDeferredAt (expression site mode frames)
expression_deferred site mode frames verdict is =
    mode_deferred (λ own. IsDeferredAt (expression site own frames)) verdict (λ head name. tt) mode
    is

front_deferred : (position : Position) → RefusesHere (verdict_in position) → IsDeferredAt position
front_deferred (fronting (of_parameter owner parameters) mode) is = absurd is
front_deferred (fronting (of_declaration at exported) mode) is =
    mode_deferred (λ own. IsDeferredAt (fronting (of_declaration at exported) own)) refused_here
    (λ head name. tt) mode is
front_deferred (fronting (of_field held) mode) is =
    mode_deferred (λ own. IsDeferredAt (fronting (of_field held) own)) refused_here
    (λ head name. tt) mode is
front_deferred (expression (in_function_body fronted parameters frequency annotations) wanted []) is
    =
    absurd (body_never fronted.deferred is)
front_deferred (expression (in_function_body fronted parameters frequency annotations) mode frames)
    is =
    expression_deferred (in_function_body fronted parameters frequency annotations) mode frames
    (behind_parameter None) is
front_deferred (expression (in_default owner parameters front) mode frames) is =
    expression_deferred (in_default owner parameters front) mode frames
    (behind_parameter (deferred_of_site (in_default owner parameters front))) is
front_deferred (expression (in_field_default held front) mode frames) is =
    expression_deferred (in_field_default held front) mode frames (behind_parameter None) is
front_deferred (expression (in_annotation holder annotations) mode frames) is =
    expression_deferred (in_annotation holder annotations) mode frames
    (behind_parameter (deferred_of_site (in_annotation holder annotations))) is
front_deferred (expression (in_base fronted annotations) mode frames) is =
    expression_deferred (in_base fronted annotations) mode frames (behind_parameter None) is
front_deferred position is = absurd is

pub position_deferred : (position : Position) → RefusesHere (verdict_in position) →
    IsDeferredAt position
position_deferred position is = front_deferred position is

-- The tokens of such a size.

site_back : (site : Site) (mode : Mode) (frames : List Frame) (tokens : List Token) →
    SiteHolds site mode frames tokens →
    (front : List Token) × (back : List Token) × (front ++ back ≡ tokens) × Holds mode frames back
site_back (in_function_body fronted parameters frequency annotations) mode frames tokens holds = (
  holds.front ++ holds.other.equals ∷ [],
  holds.other.own,
  append_assoc holds.front (holds.other.equals ∷ []) holds.other.own
      ∙ (ap (λ l. holds.front ++ l) holds.other.are ∙ holds.are),
  holds.other.holds,
)
site_back (in_default owner parameters front) mode frames tokens holds = (
  holds.front ++ (holds.other.front ++ holds.other.other.equals ∷ []),
  holds.other.other.own,
  append_assoc holds.front (holds.other.front ++ holds.other.other.equals ∷ [])
      holds.other.other.own
      ∙ (ap (λ l. holds.front ++ l) (append_assoc holds.other.front
      (holds.other.other.equals ∷ []) holds.other.other.own
      ∙ (ap (λ l. holds.other.front ++ l) holds.other.other.are ∙ holds.other.are)) ∙ holds.are),
  holds.other.other.holds,
)
site_back (in_field_default held front) mode frames tokens holds = (
  holds.front ++ (holds.other.front ++ holds.other.other.equals ∷ []),
  holds.other.other.own,
  append_assoc holds.front (holds.other.front ++ holds.other.other.equals ∷ [])
      holds.other.other.own
      ∙ (ap (λ l. holds.front ++ l) (append_assoc holds.other.front
      (holds.other.other.equals ∷ []) holds.other.other.own
      ∙ (ap (λ l. holds.other.front ++ l) holds.other.other.are ∙ holds.other.are)) ∙ holds.are),
  holds.other.other.holds,
)
site_back (in_annotation holder annotations) mode frames tokens holds =
    (holds.front, holds.back, holds.are, holds.other.holds)
site_back (in_base fronted annotations) mode frames tokens holds = (
  holds.front ++ holds.other.behind.equals ∷ [],
  holds.other.behind.own,
  append_assoc holds.front (holds.other.behind.equals ∷ []) holds.other.behind.own
      ∙ (ap (λ l. holds.front ++ l) holds.other.behind.are ∙ holds.are),
  holds.other.behind.holds,
)

pub deferred_at : (begun : Begun) (position : Position) (tokens : List Token) →
    IsDeferredAt position → ModuleHolds (within begun position) tokens →
    (front : List Token) × (bracket : Token) × (less : Token)
    × (tokens ≡ front ++ bracket ∷ less ∷ []) × IsMark bracket (codes "[")
    × IsMark less (codes "<")
deferred_at begun (fronting of (deferred_wanted head name)) tokens is holds =
    deferred_tokens (within begun (fronting of (deferred_wanted head name))) tokens tt holds
deferred_at begun (expression site (deferred_wanted head name) frames) tokens is holds =
    let (pre, back, same, own) = site_back site (deferred_wanted head name) frames holds.own
    holds.holds in
    let (front, bracket, less, are, opens, lesser) = deferred_front head name frames back own in (
      holds.before ++ (pre ++ front),
      bracket,
      less,
      sym holds.are ∙ (ap (λ l. holds.before ++ l) (sym same ∙ (ap (λ l. pre ++ l) are
          ∙ sym (append_assoc pre front (bracket ∷ less ∷ []))))
          ∙ sym (append_assoc holds.before (pre ++ front) (bracket ∷ less ∷ []))),
      opens,
      lesser,
    )
deferred_at begun position tokens is holds = absurd is

-- The first size of the head around.

-- an undecided size has an earlier one
undecided_is : (mode : Mode) (size : Option ℕ) →
    if_deferred mode (behind_parameter size) ≡ undecided → (d : ℕ) × (size ≡ Some d)
undecided_is mode None is = absurd (by (is_deferred mode) is)
  where
    by : (test : Bool) → (if test then refused_here else passes) ≡ undecided → ⊥
    by true is = subst IsHere is tt
    by false is = subst IsUndecided (sym is) tt
undecided_is mode (Some d) is = (d, refl)

body_decided : (size : Option ℕ) → before_body size ≡ undecided → ⊥
body_decided None is = subst IsUndecided (sym is) tt
body_decided (Some at) is = subst IsUndecided (sym is) tt

passes_decided : passes ≡ undecided → ⊥
passes_decided is = subst IsUndecided (sym is) tt

front_decided : (mode : Mode) → if_deferred mode refused_here ≡ undecided → ⊥
front_decided mode is = by (undecided_is mode None is)
  where
    by : (d : ℕ) × (◌≡◌ {A = Option ℕ} None (Some d)) → ⊥
    by (d, same) = none-some d same

none_decided : {A : Type 0} (mode : Mode) → if_deferred mode refused_here ≡ undecided → A
none_decided mode is = absurd (front_decided mode is)

pub undecided_size : (begun : Begun) (position : Position) → verdict_in position ≡ undecided →
    (d : ℕ) × (size_in (within begun position) ≡ Some d)
undecided_size begun (fronting (of_parameter owner parameters) mode) is =
    absurd (passes_decided is)
undecided_size begun (fronting (of_declaration at exported) mode) is = none_decided mode is
undecided_size begun (fronting (of_field held) mode) is = none_decided mode is
undecided_size begun (expression (in_function_body fronted parameters frequency annotations) wanted
    []) is =
    absurd (body_decided fronted.deferred is)
undecided_size begun (expression (in_function_body fronted parameters frequency annotations) mode
    frames) is =
    none_decided mode is
undecided_size begun (expression (in_default (of_function fronted) parameters front) mode frames) is
    =
    undecided_is mode fronted.deferred is
undecided_size begun (expression (in_default (of_annotation named) parameters front) mode frames) is
    =
    none_decided mode is
undecided_size begun (expression (in_field_default held front) mode frames) is =
    none_decided mode is
undecided_size begun (expression (in_annotation (a_parameter (of_function fronted) parameters front
    default) annotations) mode frames) is =
    undecided_is mode fronted.deferred is
undecided_size begun (expression (in_annotation (a_parameter (of_annotation named) parameters front
    default) annotations) mode frames) is =
    none_decided mode is
undecided_size begun (expression (in_annotation (a_function fronted parameters frequency)
    annotations) mode frames) is =
    undecided_is mode fronted.deferred is
undecided_size begun (expression (in_annotation holder annotations) mode frames) is =
    none_decided mode is
undecided_size begun (expression (in_base fronted annotations) mode frames) is =
    none_decided mode is
undecided_size begun position is = absurd (passes_decided is)

pub undecided_front : (begun : Begun) (position : Position) → verdict_in position ≡ undecided →
    IsDeferredFront (within begun position) → ⊥
undecided_front begun (fronting (of_parameter owner parameters) mode) is front = passes_decided is
undecided_front begun (fronting (of_declaration at exported) mode) is front = none_decided mode is
undecided_front begun (fronting (of_field held) mode) is front = none_decided mode is
undecided_front begun position is front = front

-- one that is left out before a body is that of its head

abbrev IsBefore : ℕ → Verdict → Type 0
IsBefore at (refused_before earlier) = earlier ≡ at
IsBefore at verdict = ⊥

pub record BodyBegins (position : Position) (at : ℕ) : Type 0 where
  pub fronted : Fronted
  pub parameters : List Parameter
  pub frequency : Option Freq
  pub annotations : Option (List Annotation)
  pub is : position
      ≡ expression (in_function_body fronted parameters frequency annotations) wanted []
  pub first : fronted.deferred ≡ Some at

front_before : {A : Type 0} (mode : Mode) (at : ℕ) → if_deferred mode refused_here ≡ refused_before
    at →
    A
front_before mode at is = absurd (by (is_deferred mode) is)
  where
    by : (test : Bool) → (if test then refused_here else passes) ≡ refused_before at → ⊥
    by true is = subst (IsBefore at) (sym is) refl
    by false is = subst (IsBefore at) (sym is) refl

behind_before : {A : Type 0} (mode : Mode) (size : Option ℕ) (at : ℕ) →
    if_deferred mode (behind_parameter size) ≡ refused_before at → A
behind_before mode None at is = front_before mode at is
behind_before mode (Some d) at is = absurd (by (is_deferred mode) is)
  where
    by : (test : Bool) → (if test then undecided else passes) ≡ refused_before at → ⊥
    by true is = subst (IsBefore at) (sym is) refl
    by false is = subst (IsBefore at) (sym is) refl

body_before : (size : Option ℕ) (at : ℕ) → before_body size ≡ refused_before at → size ≡ Some at
body_before None at is = absurd (subst (IsBefore at) (sym is) refl)
body_before (Some d) at is = ap Some (subst (IsBefore at) (sym is) refl)

passes_before : {A : Type 0} (at : ℕ) → passes ≡ refused_before at → A
passes_before at is = absurd (subst (IsBefore at) (sym is) refl)

pub before_cases : (position : Position) (at : ℕ) → verdict_in position ≡ refused_before at →
    BodyBegins position at
before_cases (fronting (of_parameter owner parameters) mode) at is = passes_before at is
before_cases (fronting (of_declaration from exported) mode) at is = front_before mode at is
before_cases (fronting (of_field held) mode) at is = front_before mode at is
before_cases (expression (in_function_body fronted parameters frequency annotations) wanted []) at
    is =
    record {
      fronted = fronted;
      parameters = parameters;
      frequency = frequency;
      annotations = annotations;
      is = refl;
      first = body_before fronted.deferred at is;
    }
before_cases (expression (in_function_body fronted parameters frequency annotations) mode frames) at
    is =
    behind_before mode None at is
before_cases (expression (in_default owner parameters front) mode frames) at is =
    behind_before mode (deferred_of_site (in_default owner parameters front)) at is
before_cases (expression (in_field_default held front) mode frames) at is =
    behind_before mode None at is
before_cases (expression (in_annotation holder annotations) mode frames) at is =
    behind_before mode (deferred_of_site (in_annotation holder annotations)) at is
before_cases (expression (in_base fronted annotations) mode frames) at is =
    behind_before mode None at is
before_cases position at is = passes_before at is

-- and one that is refused has none, but in variants and bodies
abbrev pub IsBodyAt : Position → Type 0
IsBodyAt (expression (in_function_body fronted parameters frequency annotations) mode frames) =
    Unit {0}
IsBodyAt position = ⊥

pub undecided_body : (position : Position) → verdict_in position ≡ undecided → IsBodyAt position → ⊥
undecided_body (expression (in_function_body fronted parameters frequency annotations) wanted []) is
    body =
    body_decided fronted.deferred is
undecided_body (expression (in_function_body fronted parameters frequency annotations) mode frames)
    is body =
    none_decided mode is
undecided_body position is body = body

later_undecided : (mode : Mode) (d : ℕ) → if_deferred mode (behind_parameter (Some d)) ≡
    refused_here
    → ⊥
later_undecided mode d is = by (is_deferred mode) is
  where
    by : (test : Bool) → (if test then undecided else passes) ≡ refused_here → ⊥
    by true is = subst IsHere (sym is) tt
    by false is = subst IsHere (sym is) tt

later_size : {A : Type 0} (mode : Mode) (size : Option ℕ) (p : ℕ) →
    if_deferred mode (behind_parameter size) ≡ refused_here → size ≡ Some p → A
later_size mode size p is same =
    absurd (later_undecided mode p (sym (ap (λ s. if_deferred mode (behind_parameter s)) same)
    ∙ is))

no_size : {A : Type 0} (p : ℕ) → None ≡ Some p → A
no_size p same = absurd (none-some p same)

passes_here : {A : Type 0} → passes ≡ refused_here → A
passes_here is = absurd (subst IsHere (sym is) tt)

pub refused_cases : (begun : Begun) (position : Position) (p : ℕ) →
    verdict_in position ≡ refused_here → size_in (within begun position) ≡ Some p →
    PastVariant (within begun position) ⊎ IsBodyAt position
refused_cases begun (fronting (of_parameter owner parameters) mode) p is size = passes_here is
refused_cases begun (fronting (of_declaration at exported) mode) p is size = no_size p size
refused_cases begun (fronting (of_field held) mode) p is size = no_size p size
refused_cases begun (expression (in_function_body fronted parameters frequency annotations) mode
    frames) p is size =
    inr tt
refused_cases begun (expression (in_default (of_function fronted) parameters front) mode frames) p
    is
    size =
    later_size mode fronted.deferred p is size
refused_cases begun (expression (in_default (of_annotation named) parameters front) mode frames) p
    is
    size =
    no_size p size
refused_cases begun (expression (in_field_default held front) mode frames) p is size =
    no_size p size
refused_cases begun (expression (in_annotation (a_parameter (of_function fronted) parameters front
    default) annotations) mode frames) p is size =
    later_size mode fronted.deferred p is size
refused_cases begun (expression (in_annotation (a_parameter (of_annotation named) parameters front
    default) annotations) mode frames) p is size =
    no_size p size
refused_cases begun (expression (in_annotation (a_function fronted parameters frequency)
    annotations) mode frames) p is size =
    later_size mode fronted.deferred p is size
refused_cases begun (expression (in_annotation (a_variant fronted) annotations) mode frames) p is
    size =
    inl tt
refused_cases begun (expression (in_annotation holder annotations) mode frames) p is size =
    no_size p size
refused_cases begun (expression (in_base fronted annotations) mode frames) p is size = inl tt
refused_cases begun position p is size = passes_here is

body_here : {A : Type 0} (size : Option ℕ) → before_body size ≡ refused_here → A
body_here None is = absurd (subst IsHere (sym is) tt)
body_here (Some at) is = absurd (subst IsHere (sym is) tt)

-- a strict way comes to no refused size in a body behind an earlier one
pub body_started : (begun : Begun) (position : Position) (p : ℕ) → IsBodyAt position →
    PositionComes true position → verdict_in position ≡ refused_here →
    size_in (within begun position) ≡ Some p → ⊥
body_started begun (expression (in_function_body fronted parameters frequency annotations) wanted
    [])
    p body comes is size =
    body_here fronted.deferred is
body_started begun (expression (in_function_body fronted parameters frequency annotations) wanted
    (frame ∷ frames)) p body comes is size =
    none-some p (sym (comes refl) ∙ size)
body_started begun (expression (in_function_body fronted parameters frequency annotations) mode
    frames) p body comes is size =
    none-some p (sym (comes refl) ∙ size)
body_started begun position p body comes is size = body

-- Annotation declarations have no first size.

owner_size : (owner : Owner) → AnnotationOwner owner → deferred_of (fronted_of_owner owner) ≡ None
owner_size (of_annotation named) is = refl
owner_size (of_function fronted) is = absurd is

holder_size : (holder : Holder) → AnnotationHolder holder →
    deferred_of (fronted_of_holder holder) ≡ None
holder_size (an_annotation named parameters) is = refl
holder_size (a_parameter owner parameters front default) is = owner_size owner is
holder_size holder is = absurd is

site_size : (site : Site) → AnnotationSite site → deferred_of (fronted_of_site site) ≡ None
site_size (in_default owner parameters front) is = owner_size owner is
site_size (in_annotation holder annotations) is = holder_size holder is
site_size site is = absurd is

pub annotation_size : (state : State) → InAnnotation state → size_in state ≡ None
annotation_size (within begun (fronting (of_parameter owner parameters) mode)) is =
    owner_size owner is
annotation_size (within begun (kin_named at exported kin)) is = refl
annotation_size (within begun (annotation_named named)) is = refl
annotation_size (within begun (annotation_declared named parameters)) is = refl
annotation_size (within begun (parameters_begun owner)) is = owner_size owner is
annotation_size (within begun (parameter_read owner parameters front)) is = owner_size owner is
annotation_size (within begun (parameter_next owner parameters)) is = owner_size owner is
annotation_size (within begun (annotations_begun holder)) is = holder_size holder is
annotation_size (within begun (first_annotation holder)) is = holder_size holder is
annotation_size (within begun (annotation_read holder annotations)) is = holder_size holder is
annotation_size (within begun (annotations_closing holder annotations)) is = holder_size holder is
annotation_size (within begun (annotated holder annotations end)) is = holder_size holder is
annotation_size (within begun (expression site mode frames)) is = site_size site is
annotation_size (within begun (opened site mode frames bracket)) is = site_size site is
annotation_size state is = absurd is

-- What a step of the machine of modules changes: the first deferred size, and the declaration.
use Rattle.std.proofs.Common.{◌≡◌, ℕ, Bool, true, false, List, [], ◌∷◌, ◌++◌, Some, None}
use Rattle.std.proofs.Common.{if◌then◌else◌}
use Rattle.mdl_syntax.specs.Modules.{Declaration}
use Rattle.module_grammar.specs.ModuleFaults.{IsPrototype}
use Rattle.expression_grammar.specs.inside.Machine.{Sort, deferred_wanted, opening_brace}
use Rattle.module_grammar.specs.inside.ModuleStates.{Owner, Holder, Site, Kin, State, Outcome}
use Rattle.module_grammar.specs.inside.ModuleStates.{of_function, of_annotation, a_parameter}
use Rattle.module_grammar.specs.inside.ModuleStates.{an_annotation, in_default, in_annotation}
use Rattle.module_grammar.specs.inside.ModuleStates.{annotation_kin, of_parameter, within}
use Rattle.module_grammar.specs.inside.ModuleStates.{annotations_begun, first_annotation}
use Rattle.module_grammar.specs.inside.ModuleStates.{annotation_read, annotations_closing, annotated}
use Rattle.module_grammar.specs.inside.ModuleStates.{kin_named, annotation_named, fronting}
use Rattle.module_grammar.specs.inside.ModuleStates.{parameters_begun, parameter_read, parameter_next}
use Rattle.module_grammar.specs.inside.ModuleStates.{annotation_declared, expression, opened, on}
use Rattle.module_grammar.specs.inside.ModuleStates.{statement_body}
use Rattle.module_grammar.specs.inside.ModuleHeads.{size_in, IsHead, IsItem}
use Rattle.module_grammar.specs.inside.ModuleHolds.{ModuleHolds, IsDefault}
use Rattle.mdl_lexer.specs.declared.token.Token.{Token}

-- The declaration around began with `annotation`.

abbrev pub AnnotationOwner : Owner → Type 0
AnnotationOwner (of_annotation named) = Unit {0}
AnnotationOwner (of_function fronted) = ⊥

abbrev pub AnnotationHolder : Holder → Type 0
AnnotationHolder (an_annotation named parameters) = Unit {0}
AnnotationHolder (a_parameter owner parameters front default) = AnnotationOwner owner
AnnotationHolder holder = ⊥

abbrev pub AnnotationSite : Site → Type 0
AnnotationSite (in_default owner parameters front) = AnnotationOwner owner
AnnotationSite (in_annotation holder annotations) = AnnotationHolder holder
AnnotationSite site = ⊥

abbrev pub AnnotationKin : Kin → Type 0
AnnotationKin annotation_kin = Unit {0}
AnnotationKin kin = ⊥

abbrev pub InAnnotation : State → Type 0
InAnnotation (within begun (fronting (of_parameter owner parameters) mode)) = AnnotationOwner owner
InAnnotation (within begun (kin_named at exported kin)) = AnnotationKin kin
InAnnotation (within begun (annotation_named named)) = Unit {0}
InAnnotation (within begun (annotation_declared named parameters)) = Unit {0}
InAnnotation (within begun (parameters_begun owner)) = AnnotationOwner owner
InAnnotation (within begun (parameter_read owner parameters front)) = AnnotationOwner owner
InAnnotation (within begun (parameter_next owner parameters)) = AnnotationOwner owner
InAnnotation (within begun (annotations_begun holder)) = AnnotationHolder holder
InAnnotation (within begun (first_annotation holder)) = AnnotationHolder holder
InAnnotation (within begun (annotation_read holder annotations)) = AnnotationHolder holder
InAnnotation (within begun (annotations_closing holder annotations)) = AnnotationHolder holder
InAnnotation (within begun (annotated holder annotations end)) = AnnotationHolder holder
InAnnotation (within begun (expression site mode frames)) = AnnotationSite site
InAnnotation (within begun (opened site mode frames bracket)) = AnnotationSite site
InAnnotation state = ⊥

-- `[` waits only behind a default
abbrev pub MayStand : State → Type 0
MayStand (within begun (opened site mode frames bracket)) = IsDefault site
MayStand state = Unit {0}

pub holds_may : (state : State) (tokens : List Token) → ModuleHolds state tokens → MayStand state
holds_may (within begun (opened site mode frames bracket)) tokens holds = holds.holds.form
holds_may state tokens holds = tt

abbrev pub declarations_in : State → List Declaration
declarations_in (within begun position) = begun.declarations
declarations_in state = []

-- the size of a parameter is deferred at the last token
abbrev pub IsDeferredFront : State → Type 0
IsDeferredFront (within begun (fronting of (deferred_wanted head name))) = Unit {0}
IsDeferredFront state = ⊥

-- what the end of an item adds to the declarations
pub data Ends (state after : State) : Type 0 where
  head_ended : IsHead state → Ends state after
  none_added : declarations_in after ≡ declarations_in state → Ends state after
  other_added : (one : Declaration) → declarations_in after ≡ declarations_in state ++ one ∷ [] →
      (IsPrototype one → ⊥) → Ends state after

pub data Change (number : ℕ) (state after : State) : Type 0 where
  stays_so : size_in after ≡ size_in state → (InAnnotation state → InAnnotation after) →
      (IsItem after → ⊥) → Change number state after
  ends_there : IsItem after → Ends state after → Change number state after
  defers_first : size_in state ≡ None → size_in after ≡ Some number →
      (InAnnotation state → InAnnotation after) → IsDeferredFront after → Change number state after

abbrev pub Changes : ℕ → State → Sort → Outcome → Type 0
Changes number state sort (on after) = Change number state after
Changes number state sort statement_body = IsHead state × (sort ≡ opening_brace)
Changes number state sort _ = Unit {0}

pub if_changes : (number : ℕ) (state : State) (sort : Sort) (test : Bool) (one other : Outcome) →
    Changes number state sort one → Changes number state sort other →
    Changes number state sort (if test then one else other)
if_changes number state sort true one other holds others = holds
if_changes number state sort false one other holds others = others

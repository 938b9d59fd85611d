-- Parts of a declaration that are begun can be led to the end of a module.
use Rattle.std.proofs.Common.{◌≡◌, ◌∙◌, ap, refl, ℕ, suc, Bool, true, false, List, [], ◌∷◌, ◌++◌}
use Rattle.std.proofs.Common.{Option, Some, None, codes}
use Rattle.mdl_lexer.specs.declared.token.Token.{Token}
use Rattle.mdl_syntax.specs.declared.names.Ident.{Ident}
use Rattle.mdl_syntax.specs.declared.types.Freq.{Freq}
use Rattle.mdl_syntax.specs.Modules.{Annotation, Parameter}
use Rattle.module_grammar.specs.inside.ModuleStates.{State, Begun, Named, Fronted, Front, Owner}
use Rattle.module_grammar.specs.inside.ModuleMachine.{module_step, permitted}
use Rattle.module_grammar.specs.inside.ModuleStates.{Struct, Enum, Kin, on, within}
use Rattle.module_grammar.specs.inside.ModuleMachine.{permitted_state}
use Rattle.module_grammar.specs.inside.ModuleStates.{of_function, of_annotation}
use Rattle.module_grammar.specs.inside.ModuleStates.{struct_kin, enum_kin, annotation_kin}
use Rattle.module_grammar.specs.inside.ModuleMachine.{parameters_state}
use Rattle.module_grammar.specs.inside.ModuleStates.{item_wanted, kin_named}
use Rattle.module_grammar.specs.inside.ModuleStates.{annotation_named, declared, parameters_begun}
use Rattle.module_grammar.specs.inside.ModuleStates.{base_read, parameter_read, function_read}
use Rattle.module_grammar.specs.inside.ModuleStates.{annotation_declared, struct_named, fields_read}
use Rattle.module_grammar.specs.inside.ModuleStates.{field_read, enum_named, value_wanted, value_read}
use Rattle.module_grammar.specs.inside.ModuleStates.{number_wanted, number_read, struct_closed}
use Rattle.module_grammar.specs.inside.ModuleStates.{enum_closed, plain_parameter}
use Rattle.module_grammar.specs.inside.ModuleLeads.{next}
use Rattle.module_grammar.proofs.ModuleReadsParts.{Way, stay}
use Rattle.expression_grammar.proofs.ShutLaws.{mark, zero_token, name_token}

-- tokens that lead from the state to the end of a declaration, and so of a module
pub record ModuleViable (strict : Bool) (limit : ℕ) (state : State) : Type 0 where
  pub tokens : List Token
  pub begun : Begun
  pub early : Bool
  pub leads : Way strict limit state tokens (within begun (item_wanted early))

pub whole_end : {strict : Bool} {limit : ℕ} {begun : Begun} {early : Bool} →
    ModuleViable strict limit (within begun (item_wanted early))
whole_end {strict} {limit} {begun} {early} =
    record { tokens = []; begun = begun; early = early; leads = stay }

allowed_when : (strict : Bool) (state : State) →
    (strict ≡ true → permitted_state state ≡ on state) → permitted strict (on state) ≡ on state
allowed_when true state allowed = allowed refl
allowed_when false state allowed = refl

-- one token in front, behind which the state is permitted where the machine is strict
pub led_if : {strict : Bool} {limit : ℕ} {state then : State} (token : Token) →
    ((number : ℕ) → module_step limit number state token ≡ on then) →
    (strict ≡ true → permitted_state then ≡ on then) → ModuleViable strict limit then →
    ModuleViable strict limit state
led_if {strict} {limit} {state} {then} token same allowed rest = record {
  tokens = token ∷ rest.tokens;
  begun = rest.begun;
  early = rest.early;
  leads = λ number. next number state then (within rest.begun (item_wanted rest.early)) token
      rest.tokens
      (ap (permitted strict) (same number) ∙ allowed_when strict then allowed)
      (rest.leads (suc number));
}

pub led : {strict : Bool} {limit : ℕ} {state then : State} (token : Token) →
    ((number : ℕ) → module_step limit number state token ≡ on then) →
    permitted_state then ≡ on then → ModuleViable strict limit then →
    ModuleViable strict limit state
led token same allowed rest = led_if token same (λ strictly. allowed) rest

abbrev pub semicolon_mark : Token
semicolon_mark = mark (codes ";")

-- Structs and enums.

pub struct_closed_viable : (strict : Bool) (limit : ℕ) (begun : Begun) (held : Struct) →
    ModuleViable strict limit (within begun (struct_closed held))
struct_closed_viable strict limit begun held = led semicolon_mark (λ number. refl) refl whole_end

pub fields_viable : (strict : Bool) (limit : ℕ) (begun : Begun) (held : Struct) →
    ModuleViable strict limit (within begun (fields_read held))
fields_viable strict limit begun held =
    led (mark (codes "}")) (λ number. refl) refl (struct_closed_viable strict limit begun held)

pub field_viable : (strict : Bool) (limit : ℕ) (begun : Begun) (held : Struct) (front : Front) →
    ModuleViable strict limit (within begun (field_read held front))
field_viable strict limit begun held front =
    led semicolon_mark (λ number. refl) refl (fields_viable strict limit begun _)

pub struct_viable : (strict : Bool) (limit : ℕ) (begun : Begun) (named : Named) →
    ModuleViable strict limit (within begun (struct_named named))
struct_viable strict limit begun named =
    led (mark (codes "{")) (λ number. refl) refl (fields_viable strict limit begun _)

pub enum_closed_viable : (strict : Bool) (limit : ℕ) (begun : Begun) (held : Enum) →
    ModuleViable strict limit (within begun (enum_closed held))
enum_closed_viable strict limit begun held = led semicolon_mark (λ number. refl) refl whole_end

pub value_viable : (strict : Bool) (limit : ℕ) (begun : Begun) (held : Enum) (name : Ident) →
    ModuleViable strict limit (within begun (value_read held name))
value_viable strict limit begun held name =
    led (mark (codes "}")) (λ number. refl) refl (enum_closed_viable strict limit begun _)

pub number_viable : (strict : Bool) (limit : ℕ) (begun : Begun) (held : Enum) (name : Ident)
    (value end : ℕ) → ModuleViable strict limit (within begun (number_read held name value end))
number_viable strict limit begun held name value end =
    led (mark (codes "}")) (λ number. refl) refl (enum_closed_viable strict limit begun _)

pub number_wanted_viable : (strict : Bool) (limit : ℕ) (begun : Begun) (held : Enum)
    (name : Ident) → ModuleViable strict limit (within begun (number_wanted held name))
number_wanted_viable strict limit begun held name =
    led zero_token (λ number. refl) refl (number_viable strict limit begun held name 0 0)

pub value_wanted_viable : (strict : Bool) (limit : ℕ) (begun : Begun) (held : Enum) →
    ModuleViable strict limit (within begun (value_wanted held))
value_wanted_viable strict limit begun held =
    led name_token (λ number. refl) refl (value_viable strict limit begun held _)

pub enum_viable : (strict : Bool) (limit : ℕ) (begun : Begun) (named : Named) →
    ModuleViable strict limit (within begun (enum_named named))
enum_viable strict limit begun named =
    led (mark (codes "{")) (λ number. refl) refl (value_wanted_viable strict limit begun _)

-- Functions and annotations.

pub function_viable : (strict : Bool) (limit : ℕ) (begun : Begun) (fronted : Fronted)
    (parameters : List Parameter) (frequency : Option Freq) →
    ModuleViable strict limit (within begun (function_read fronted parameters frequency))
function_viable strict limit begun fronted parameters None =
    led semicolon_mark (λ number. refl) refl whole_end
function_viable strict limit begun fronted parameters (Some frequency) =
    led semicolon_mark (λ number. refl) refl whole_end

pub annotation_viable : (strict : Bool) (limit : ℕ) (begun : Begun) (named : Named)
    (parameters : List Parameter) →
    ModuleViable strict limit (within begun (annotation_declared named parameters))
annotation_viable strict limit begun named parameters =
    led semicolon_mark (λ number. refl) refl whole_end

pub parameters_viable : (strict : Bool) (limit : ℕ) (begun : Begun) (owner : Owner)
    (parameters : List Parameter) →
    ModuleViable strict limit (within begun (parameters_state owner parameters))
parameters_viable strict limit begun (of_function fronted) parameters =
    function_viable strict limit begun fronted parameters None
parameters_viable strict limit begun (of_annotation named) parameters =
    annotation_viable strict limit begun named parameters

pub parameters_permitted : (begun : Begun) (owner : Owner) (parameters : List Parameter) →
    permitted_state (within begun (parameters_state owner parameters))
    ≡ on (within begun (parameters_state owner parameters))
parameters_permitted begun (of_function fronted) parameters = refl
parameters_permitted begun (of_annotation named) parameters = refl

pub parameters_begun_viable : (strict : Bool) (limit : ℕ) (begun : Begun) (owner : Owner) →
    ModuleViable strict limit (within begun (parameters_begun owner))
parameters_begun_viable strict limit begun owner =
    led (mark (codes ")")) (λ number. refl) (parameters_permitted begun owner [])
    (parameters_viable strict limit begun owner [])

pub parameter_viable : (strict : Bool) (limit : ℕ) (begun : Begun) (owner : Owner)
    (parameters : List Parameter) (front : Front) →
    ModuleViable strict limit (within begun (parameter_read owner parameters front))
parameter_viable strict limit begun owner parameters front =
    led (mark (codes ")")) (λ number. refl)
    (parameters_permitted begun owner (parameters ++ plain_parameter front None ∷ []))
    (parameters_viable strict limit begun owner (parameters ++ plain_parameter front None ∷ []))

pub declared_viable : (strict : Bool) (limit : ℕ) (begun : Begun) (fronted : Fronted) →
    ModuleViable strict limit (within begun (declared fronted))
declared_viable strict limit begun fronted =
    led (mark (codes "(")) (λ number. refl) refl
    (parameters_begun_viable strict limit begun (of_function fronted))

pub annotation_named_viable : (strict : Bool) (limit : ℕ) (begun : Begun) (named : Named) →
    ModuleViable strict limit (within begun (annotation_named named))
annotation_named_viable strict limit begun named =
    led (mark (codes "(")) (λ number. refl) refl
    (parameters_begun_viable strict limit begun (of_annotation named))

pub base_viable : (strict : Bool) (limit : ℕ) (begun : Begun) (fronted : Fronted)
    (annotations : Option (List Annotation)) (one : Annotation) →
    ModuleViable strict limit (within begun (base_read fronted annotations one))
base_viable strict limit begun fronted annotations one =
    led semicolon_mark (λ number. refl) refl whole_end

-- behind the word that a declaration begins with
pub kin_viable : (strict : Bool) (limit : ℕ) (begun : Begun) (at : ℕ) (exported : Bool)
    (kin : Kin) → ModuleViable strict limit (within begun (kin_named at exported kin))
kin_viable strict limit begun at exported struct_kin =
    led name_token (λ number. refl) refl (struct_viable strict limit begun _)
kin_viable strict limit begun at exported enum_kin =
    led name_token (λ number. refl) refl (enum_viable strict limit begun _)
kin_viable strict limit begun at exported annotation_kin =
    led name_token (λ number. refl) refl (annotation_named_viable strict limit begun _)

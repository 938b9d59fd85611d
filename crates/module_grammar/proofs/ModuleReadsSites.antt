-- What reading a value is where it stands: a parameter's default, a function's body, a variant's base.
use Rattle.std.proofs.Common.{◌≡◌, ℕ, ◌≤◌, Bool, true, List, [], ◌∷◌, ◌++◌, codes, Option, Some, None}
use Rattle.mdl_lexer.specs.declared.token.Token.{Token}
use Rattle.mdl_syntax.specs.declared.names.Span.{Span}
use Rattle.mdl_syntax.specs.declared.names.Name.{Name}
use Rattle.mdl_syntax.specs.declared.types.Freq.{Freq}
use Rattle.mdl_syntax.specs.Trees.{Tree, Arguments, call}
use Rattle.mdl_syntax.specs.Heights.{height, arguments_height}
use Rattle.mdl_syntax.specs.Modules.{Annotation, Parameter}
use Rattle.expression_grammar.specs.inside.Machine.{wanted, comma, closing}
use Rattle.module_grammar.specs.inside.ModuleMachine.{state_step}
use Rattle.module_grammar.specs.inside.ModuleStates.{State, on, within, Begun, Owner, Front}
use Rattle.module_grammar.specs.inside.ModuleStates.{Fronted, expression, in_default, in_base}
use Rattle.module_grammar.specs.inside.ModuleMachine.{parameters_state}
use Rattle.module_grammar.specs.inside.ModuleStates.{in_function_body, parameter_next}
use Rattle.module_grammar.specs.inside.ModuleStates.{plain_parameter, first_annotation, a_parameter}
use Rattle.module_grammar.specs.inside.ModuleStates.{with_declaration, function_from, base_read}
use Rattle.expression_grammar.specs.inside.Sound.{IsMark}
use Rattle.expression_grammar.specs.inside.Wrote.{Wrote}
use Rattle.module_grammar.proofs.ModuleReadsParts.{Way}

-- a default is read, up to `,`, `)` or annotations
pub record DefaultValue (strict : Bool) (limit : ℕ) (begun : Begun) (owner : Owner)
    (parameters : List Parameter) (front : Front) (tree : Tree) (tokens : List Token) : Type 0 where
  pub last : State
  pub leads : Way strict limit
      (within begun (expression (in_default owner parameters front) wanted [])) tokens last
  pub at_comma : (number : ℕ) (own : Span) → state_step limit number last comma own
      ≡ on (within begun (parameter_next owner
      (parameters ++ plain_parameter front (Some tree) ∷ [])))
  pub at_closing : (number : ℕ) (own : Span) → state_step limit number last closing own
      ≡ on (within begun (parameters_state owner
      (parameters ++ plain_parameter front (Some tree) ∷ [])))
  pub at_brackets : (one two : Token) → IsMark one (codes "[") → IsMark two (codes "[") →
      Way strict limit last (one ∷ two ∷ [])
      (within begun (first_annotation (a_parameter owner parameters front (Some tree))))

abbrev pub DefaultLaw : Bool → ℕ → Type 0
DefaultLaw strict limit =
    (begun : Begun) (owner : Owner) (parameters : List Parameter) (front : Front) (tree : Tree)
    (tokens : List Token) → Wrote strict tree tokens → height tree ≤ limit →
    DefaultValue strict limit begun owner parameters front tree tokens

-- a body is read with the `;` behind it
abbrev pub BodyLaw : Bool → ℕ → Type 0
BodyLaw strict limit =
    (begun : Begun) (fronted : Fronted) (parameters : List Parameter) (frequency : Option Freq)
    (annotations : Option (List Annotation)) (tree : Tree) (tokens : List Token)
    (semicolon : Token) → (strict ≡ true → fronted.deferred ≡ None) → Wrote strict tree tokens →
    height tree ≤ limit → IsMark semicolon (codes ";") →
    Way strict limit
    (within begun (expression (in_function_body fronted parameters frequency annotations) wanted []))
    (tokens ++ semicolon ∷ [])
    (with_declaration begun (function_from fronted parameters frequency annotations tree
    semicolon.end) semicolon.end)

-- the call of a variant is no expression, but its arguments are
abbrev pub BaseLaw : Bool → ℕ → Type 0
BaseLaw strict limit =
    (begun : Begun) (fronted : Fronted) (annotations : Option (List Annotation)) (name : Name)
    (arguments : Arguments) (span : Span) (tokens : List Token) →
    Wrote strict (call name arguments span) tokens → arguments_height arguments ≤ limit →
    Way strict limit (within begun (expression (in_base fronted annotations) wanted [])) tokens
    (within begun (base_read fronted annotations (record {
      name = name;
      arguments = arguments;
      span = span;
    })))

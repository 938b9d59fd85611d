-- The first body that tokens lead to, by the tokens before it, and where a size that waits goes.
use Rattle.std.proofs.Common.{◌≡◌, ℕ, ◌+◌, false, List}
use Rattle.std.proofs.Common.{◌∷◌, ◌++◌, Option}
use Rattle.mdl_lexer.specs.declared.token.Token.{Token}
use Rattle.mdl_syntax.specs.declared.types.Freq.{Freq}
use Rattle.mdl_syntax.specs.Modules.{Annotation, Parameter}
use Rattle.expression_grammar.specs.inside.Machine.{Mode, Frame}
use Rattle.module_grammar.specs.inside.ModuleStates.{Begun, Fronted, State, within, expression}
use Rattle.module_grammar.specs.inside.ModuleStates.{in_function_body}
use Rattle.module_grammar.specs.inside.ModuleLeads.{ModuleLeads}
use Rattle.module_grammar.proofs.ModuleWaitedLaws.{IsGoing}

-- no state before the end of these tokens is a body or an item
abbrev pub GoingBefore : ℕ → ℕ → State → List Token → Type 0
GoingBefore limit number state before =
    (one : List Token) (token : Token) (other : List Token) (between : State) →
    one ++ token ∷ other ≡ before → ModuleLeads false limit number state one between →
    IsGoing between

-- the first of the tokens lead to a body, and to none before
pub record BodyFirst (limit number : ℕ) (state : State) (tokens : List Token) (deferred : Option ℕ)
    : Type 0 where
  pub before : List Token
  pub rest : List Token
  pub all : before ++ rest ≡ tokens
  pub begun : Begun
  pub fronted : Fronted
  pub parameters : List Parameter
  pub frequency : Option Freq
  pub annotations : Option (List Annotation)
  pub mode : Mode
  pub frames : List Frame
  pub leads : ModuleLeads false limit number state before
      (within begun (expression (in_function_body fronted parameters frequency annotations) mode
      frames))
  pub is_first : GoingBefore limit number state before
  pub deferred_is : fronted.deferred ≡ deferred

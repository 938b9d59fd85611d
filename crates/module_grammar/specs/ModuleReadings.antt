-- What tokens are: a module with its places, or a fault at its place.
use Rattle.std.specs.Prelude.{◌≡◌, ℕ, List, Option, Some, None}
use Rattle.mdl_lexer.specs.declared.token.Token.{Token}
use Rattle.mdl_syntax.specs.Modules.{ModuleTree}
use Rattle.mdl_syntax.specs.WrittenModules.{write_module}
use Rattle.mdl_syntax.specs.PlacedModules.{placed_module}
use Rattle.mdl_syntax.specs.AcceptedModules.{IsAccepted}
use Rattle.expression_grammar.specs.Languages.{NoneBefore}
use Rattle.expression_grammar.specs.Readings.{kinds}
use Rattle.module_grammar.specs.ModuleFaults.{IsTooDeep, IsLeftOutForm, IsStatementBody, IsOtherVersion, IsNamedFault}
use Rattle.module_grammar.specs.ModuleFaults.{IsBadModule, IsMost}

-- the tokens are what the tree writes, and its places are theirs
pub record IsModuleTree (most : ℕ) (tokens : List Token) (tree : ModuleTree) : Type 0 where
  pub writes : write_module tree ≡ kinds tokens
  pub places : placed_module tree tokens ≡ tree
  pub accepted : IsAccepted most tree

-- with the number of tokens of whole declarations goes bad syntax alone
pub data ModuleReading : Type 0 where
  a_module : ModuleTree → ModuleReading
  bad_syntax : ℕ → ℕ → ModuleReading
  too_deep : ℕ → ModuleReading
  left_out : ℕ → List ℕ → ModuleReading
  statement_body : ℕ → ModuleReading
  other_version : ℕ → ModuleReading

-- this fault stands here, and none before it
abbrev pub IsFirst : ℕ → List Token → ℕ → Type 0 → Type 0
IsFirst most tokens at fault = fault × NoneBefore (IsNamedFault most (kinds tokens)) at

-- of several faults the one that stands first
abbrev pub HasModuleReading : ℕ → List Token → ModuleReading → Type 0
HasModuleReading most tokens (a_module tree) = IsModuleTree most tokens tree
HasModuleReading most tokens (bad_syntax declaration at) =
    IsBadModule most (kinds tokens) at × IsMost (kinds tokens) declaration
HasModuleReading most tokens (too_deep at) = IsFirst most tokens at (IsTooDeep most (kinds tokens) at)
HasModuleReading most tokens (left_out at text) =
    IsFirst most tokens at (IsLeftOutForm most (kinds tokens) at text)
HasModuleReading most tokens (statement_body at) = IsFirst most tokens at (IsStatementBody (kinds tokens) at)
HasModuleReading most tokens (other_version at) = IsFirst most tokens at (IsOtherVersion (kinds tokens) at)

-- tokens have one reading
pub record OneModuleReading (most : ℕ) (tokens : List Token) : Type 0 where
  pub reading : ModuleReading
  pub has : HasModuleReading most tokens reading
  pub only : (other : ModuleReading) → HasModuleReading most tokens other → other ≡ reading

-- where a fault stands
abbrev pub module_fault_place : ModuleReading → Option ℕ
module_fault_place (a_module tree) = None
module_fault_place (bad_syntax declaration at) = Some at
module_fault_place (too_deep at) = Some at
module_fault_place (left_out at text) = Some at
module_fault_place (statement_body at) = Some at
module_fault_place (other_version at) = Some at

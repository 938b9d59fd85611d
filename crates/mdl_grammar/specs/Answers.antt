-- What the parsers answer.
use Rattle.std.specs.Prelude.{◌≡◌, ⊤, ℕ, List, Result, Ok, Err}
use Rattle.mdl_lexer.specs.declared.token.Token.{Token}
use Rattle.expression_grammar.specs.declared.fault.ParseFault.{ParseFault}
use Rattle.expression_grammar.specs.declared.fault.ParseFault.TheVariants as fault
use Rattle.mdl_syntax.specs.declared.modules.Module.{Module}
use Rattle.mdl_syntax.specs.Modules.{ModuleTree, module_of}
use Rattle.mdl_syntax.specs.PlacedModules.{placed_module, IsSameModule}
use Rattle.module_grammar.specs.ModuleReadings.{HasModuleReading}
use Rattle.module_grammar.specs.ModuleReadings as modules

-- the fault that stands in tokens that are to be a module
abbrev pub HasModuleFault : ℕ → List Token → ParseFault → Type 0
HasModuleFault most tokens (fault.BadSyntax declaration at) =
    HasModuleReading most tokens (modules.bad_syntax declaration at)
HasModuleFault most tokens (fault.TooDeep at) = HasModuleReading most tokens (modules.too_deep at)
HasModuleFault most tokens (fault.StatementBody at) = HasModuleReading most tokens (modules.statement_body at)
HasModuleFault most tokens (fault.LeftOut at word) = HasModuleReading most tokens (modules.left_out at word)
HasModuleFault most tokens (fault.Version at) = HasModuleReading most tokens (modules.other_version at)
HasModuleFault most tokens fault.OutOfMemory = ⊤

-- the module is read with the tokens' places, unless memory is short
abbrev pub IsModuleReadAs : List Token → ModuleTree → Result Module ParseFault → Type 0
IsModuleReadAs tokens tree (Ok read) =
    (module_of read ≡ placed_module tree tokens) × IsSameModule (module_of read) tree
IsModuleReadAs tokens tree (Err refused) = refused ≡ fault.OutOfMemory

-- What the parser of modules answers, by the definitions.
use Rattle.std.proofs.Common.{◌≡◌, ◌∙◌, ◌≤◌, refl, ap, sym, subst, ℕ, List, Result, Ok, Err, IfOk}
use Rattle.std.proofs.Common.{IfErr}
use Rattle.mdl_lexer.specs.declared.token.Token.{Token}
use Rattle.mdl_syntax.specs.declared.modules.Module.{Module}
use Rattle.mdl_syntax.specs.Modules.{ModuleTree, module_of}
use Rattle.mdl_syntax.specs.WrittenModules.{write_module}
use Rattle.mdl_syntax.specs.PlacedModules.{placed_module, IsSameModule}
use Rattle.mdl_syntax.specs.AcceptedModules.{IsAccepted}
use Rattle.mdl_syntax.proofs.PlacedModuleTwice.{placed_module_twice}
use Rattle.expression_grammar.specs.declared.fault.ParseFault.{ParseFault}
use Rattle.expression_grammar.specs.declared.fault.ParseFault.TheVariants as fault
use Rattle.expression_grammar.specs.Readings.{kinds}
use Rattle.module_grammar.specs.ModuleReadings.{HasModuleReading, ModuleReading, IsModuleTree, a_module}
use Rattle.mdl_grammar.specs.Answers.{HasModuleFault, IsModuleReadAs}
use Rattle.module_grammar.specs.inside.ModuleMachine.{ModuleRun, run_module, module_read}
use Rattle.module_grammar.specs.inside.ModuleRuns.{module_reading_of}
use Rattle.mdl_grammar.specs.inside.Runs.{ModuleFaultOf, ModuleParsed}
use Rattle.module_grammar.proofs.ModuleRunLaws.{run_has, module_written_is_read}
use Rattle.module_grammar.proofs.ModuleReadingsLaws.{module_run_only}

known : (most : ℕ) (tokens : List Token) → 1 ≤ most → (made : ModuleRun) →
    run_module most tokens ≡ made → HasModuleReading most tokens (module_reading_of made)
known most tokens some made same =
    subst (λ own. HasModuleReading most tokens (module_reading_of own)) same (run_has most some tokens)

answers_fault : (most : ℕ) (tokens : List Token) (refused : ParseFault) → 1 ≤ most →
    ModuleFaultOf refused (run_module most tokens) → HasModuleFault most tokens refused
answers_fault most tokens (fault.BadSyntax declaration at) some is = known most tokens some _ is
answers_fault most tokens (fault.TooDeep at) some is = known most tokens some _ is
answers_fault most tokens (fault.StatementBody at) some is = known most tokens some _ is
answers_fault most tokens (fault.LeftOut at word) some is = known most tokens some _ is
answers_fault most tokens (fault.Version at) some is = known most tokens some _ is
answers_fault most tokens fault.OutOfMemory some is = tt

-- the tree of a reading, or another
abbrev tree_in : ModuleTree → ModuleReading → ModuleTree
tree_in other (a_module tree) = tree
tree_in other _ = other

abbrev IsSome : ModuleReading → Type 0
IsSome (a_module tree) = Unit {0}
IsSome _ = ⊥

same_reading : (most : ℕ) (tokens : List Token) (tree : ModuleTree) → 1 ≤ most →
    IsAccepted most tree → write_module tree ≡ kinds tokens → (made : ModuleRun) →
    run_module most tokens ≡ made → a_module (placed_module tree tokens) ≡ module_reading_of made
same_reading most tokens tree some accepted writes made same =
    module_run_only most some tokens (a_module (placed_module tree tokens))
    (module_written_is_read most some tree tokens accepted writes)
    ∙ ap module_reading_of same

is_tree : (most : ℕ) (tokens : List Token) (tree : ModuleTree) → 1 ≤ most → IsAccepted most tree →
    write_module tree ≡ kinds tokens → (made : ModuleRun) → run_module most tokens ≡ made →
    IsSome (module_reading_of made)
is_tree most tokens tree some accepted writes made same =
    subst IsSome (same_reading most tokens tree some accepted writes made same) tt

pub module_answers_written : (most : ℕ) (tokens : List Token) (result : Result Module ParseFault)
    (tree : ModuleTree) → 1 ≤ most → ModuleParsed result (run_module most tokens) →
    IsAccepted most tree → write_module tree ≡ kinds tokens → IsModuleReadAs tokens tree result
module_answers_written most tokens (Ok read) tree some same accepted writes =
    let is = sym (ap (tree_in (placed_module tree tokens)) (same_reading most tokens tree some
    accepted writes (module_read (module_of read)) same)) in
    (is, subst (λ (own : ModuleTree). IsSameModule own tree) (sym is) (placed_module_twice tree tokens))
module_answers_written most tokens (Err (fault.BadSyntax declaration at)) tree some is accepted writes =
    absurd (is_tree most tokens tree some accepted writes _ is)
module_answers_written most tokens (Err (fault.TooDeep at)) tree some is accepted writes =
    absurd (is_tree most tokens tree some accepted writes _ is)
module_answers_written most tokens (Err (fault.StatementBody at)) tree some is accepted writes =
    absurd (is_tree most tokens tree some accepted writes _ is)
module_answers_written most tokens (Err (fault.LeftOut at word)) tree some is accepted writes =
    absurd (is_tree most tokens tree some accepted writes _ is)
module_answers_written most tokens (Err (fault.Version at)) tree some is accepted writes =
    absurd (is_tree most tokens tree some accepted writes _ is)
module_answers_written most tokens (Err fault.OutOfMemory) tree some is accepted writes = refl

pub ok_module : (most : ℕ) (tokens : List Token) (result : Result Module ParseFault) → 1 ≤ most →
    ModuleParsed result (run_module most tokens) →
    IfOk result (λ tree. IsModuleTree most tokens (module_of tree))
ok_module most tokens (Ok tree) some is = known most tokens some (module_read (module_of tree)) is
ok_module most tokens (Err refused) some is = tt

pub err_module : (most : ℕ) (tokens : List Token) (result : Result Module ParseFault) → 1 ≤ most →
    ModuleParsed result (run_module most tokens) →
    IfErr result (λ refused. HasModuleFault most tokens refused)
err_module most tokens (Ok tree) some is = tt
err_module most tokens (Err refused) some is = answers_fault most tokens refused some is

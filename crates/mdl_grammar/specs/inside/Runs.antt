-- What the parser answers, by the machine's run.
use Rattle.std.specs.Prelude.{◌≡◌, ⊤, ℕ, ◌≤◌, Bool, true, false, List, Result, Ok, Err, drop, length}
use Rattle.expression_grammar.specs.declared.fault.ParseFault.{ParseFault}
use Rattle.expression_grammar.specs.declared.fault.ParseFault.TheVariants as fault
use Rattle.mdl_syntax.specs.declared.modules.Module.{Module}
use Rattle.mdl_syntax.specs.Modules.{module_of}
use Rattle.module_grammar.specs.inside.ModuleMachine.{ModuleRun, module_read, module_bad, module_deep, module_left_out}
use Rattle.module_grammar.specs.inside.ModuleMachine.{module_statement, module_version}
use Rattle.module_grammar.specs.inside.ModuleStates.{State, Outcome, Position}
use Rattle.module_grammar.specs.inside.ModuleStates.{on, within}
use Rattle.module_grammar.specs.inside.ModuleMachine.{run_module_from, outcome_after, place_behind}
use Rattle.module_grammar.specs.inside.ModuleStates.{item_wanted}
use Rattle.mdl_grammar.specs.inside.ModuleViews.{begun_of, position_of}
use Rattle.mdl_grammar.specs.declared.module_state.Begun as held_begun
use Rattle.mdl_grammar.specs.declared.module_state.Position as held_positions
use Rattle.mdl_lexer.specs.declared.token.Token.{Token}

abbrev pub ModuleFaultOf : ParseFault → ModuleRun → Type 0
ModuleFaultOf (fault.BadSyntax declaration at) made = made ≡ module_bad declaration at
ModuleFaultOf (fault.TooDeep at) made = made ≡ module_deep at
ModuleFaultOf (fault.StatementBody at) made = made ≡ module_statement at
ModuleFaultOf (fault.LeftOut at word) made = made ≡ module_left_out at word
ModuleFaultOf (fault.Version at) made = made ≡ module_version at
ModuleFaultOf fault.OutOfMemory made = ⊤

abbrev pub ModuleParsed : Result Module ParseFault → ModuleRun → Type 0
ModuleParsed (Ok tree) made = made ≡ module_read (module_of tree)
ModuleParsed (Err refused) made = ModuleFaultOf refused made

-- so many tokens lead from the state at this token to what has been read, for each limit of heights
abbrev pub BegunFrom : ℕ → ℕ → State → held_begun.Begun → List Token → Type 0
BegunFrom number at state begun tokens =
    (number ≤ length tokens) × ((limit : ℕ) → run_module_from true limit 0 at (on state) tokens
    ≡ run_module_from true limit 3 3 (on (within (begun_of begun) (item_wanted true))) (drop number tokens))

-- the fault stands in the tokens from the state at this token on, for each limit
abbrev pub FaultFrom : ℕ → State → ParseFault → List Token → Type 0
FaultFrom at state refused tokens =
    (limit : ℕ) → ModuleFaultOf refused (run_module_from true limit 0 at (on state) tokens)

-- the run behind a token at this place, with so many tokens of whole declarations before
abbrev pub run_after : ℕ → ℕ → ℕ → Outcome → List Token → ModuleRun
run_after limit whole at made rest =
    run_module_from true limit (outcome_after whole at made) (place_behind at made) made rest

-- what a step comes to for the run
abbrev pub TakenCame : ℕ → ℕ → ℕ → List Token → Result held_positions.Position ParseFault → held_begun.Begun →
    Outcome → Type 0
TakenCame limit whole at rest (Ok position) begun made = made ≡ on (within (begun_of begun) (position_of position))
TakenCame limit whole at rest (Err refused) begun made = ModuleFaultOf refused (run_after limit whole at made rest)

-- a place was found, or there was no memory
abbrev pub Placed : Result ℕ ParseFault → ℕ → Type 0
Placed (Ok at) place = at ≡ place
Placed (Err refused) place = refused ≡ fault.OutOfMemory

abbrev pub is_item : Position → Bool
is_item (item_wanted early) = true
is_item position = false

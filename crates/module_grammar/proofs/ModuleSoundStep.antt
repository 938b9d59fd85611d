-- What the reader of modules goes on to holds, and the module that it reads stands for all tokens.
use Rattle.std.proofs.Common.{◌≡◌, sym, subst, refl, ℕ, Bool, true, List, [], ◌∷◌}
use Rattle.std.proofs.Common.{◌++◌, if◌then◌else◌, Bool, false}
use Rattle.std.proofs.lemmas.List.{append_assoc, append-nil}
use Rattle.mdl_lexer.specs.declared.token.Token.{Token}
use Rattle.mdl_syntax.specs.Modules.{ModuleTree}
use Rattle.mdl_syntax.specs.WrittenModules.{write_module}
use Rattle.mdl_syntax.specs.PlacedModules.{placed_module}
use Rattle.module_grammar.specs.inside.ModuleParts.{Part}
use Rattle.module_grammar.specs.inside.ModuleStates.{State, Outcome, on, wrong, too_deep}
use Rattle.module_grammar.specs.inside.ModuleStates.{leaves_out}
use Rattle.module_grammar.specs.inside.ModuleStates.{statement_body, other_version, mdl_wanted}
use Rattle.module_grammar.specs.inside.ModuleStates.{within}
use Rattle.module_grammar.specs.inside.ModuleMachine.{module_step, module_taken}
use Rattle.module_grammar.specs.inside.ModuleStates.{item_wanted}
use Rattle.module_grammar.specs.inside.ModuleMachine.{permitted}
use Rattle.module_grammar.specs.inside.ModuleMachine.{permitted_state, judged, verdict_in}
use Rattle.module_grammar.specs.inside.ModuleStates.{waits}
use Rattle.module_grammar.specs.inside.ModuleMachine.{Verdict, passes, refused_here, refused_before}
use Rattle.module_grammar.specs.inside.ModuleMachine.{undecided}
use Rattle.module_grammar.specs.inside.ModuleStates.{version_read}
use Rattle.mdl_syntax.specs.declared.modules.VersionLit.{VersionLit}
use Rattle.mdl_syntax.specs.AcceptedModules.{is_version}
use Rattle.module_grammar.specs.inside.ModuleMachine.{ModuleRun, module_read, module_end}
use Rattle.module_grammar.specs.inside.ModuleMachine.{run_module_from}
use Rattle.module_grammar.specs.inside.ModuleMachine.{outcome_after, place_behind}
use Rattle.module_grammar.specs.inside.ModuleHolds.{ModuleHolds}
use Rattle.module_grammar.proofs.ModuleJoinLaws.{OutcomeHolds}
use Rattle.module_grammar.proofs.ModuleFormsLaws.{forms_keep}
use Rattle.module_grammar.proofs.ModuleSoundLaws.{step_keeps, module_stands}

pub module_sound_step : (limit number : ℕ) (state : State) (tokens : List Token) (token : Token)
    (next : State) → ModuleHolds state tokens → module_step limit number state token ≡ on next →
    ModuleHolds next (tokens ++ token ∷ [])
module_sound_step limit number state tokens token next holds is =
    subst (λ outcome. OutcomeHolds outcome (tokens ++ token ∷ [])) is
    (step_keeps forms_keep limit number state tokens token holds)

-- the whole run

abbrev RunStands : ModuleRun → List Token → Type 0
RunStands (module_read tree) tokens = Part write_module placed_module tree tokens
RunStands _ tokens = Unit {0}

end_stands : (whole at : ℕ) (state : State) (tokens : List Token) → ModuleHolds state tokens →
    RunStands (module_end whole at state) tokens
end_stands whole at (within begun (item_wanted early)) tokens holds =
    module_stands begun early tokens holds
end_stands whole at state tokens holds = tt

judged_keeps : (state : State) (verdict : Verdict) (tokens : List Token) →
    ModuleHolds state tokens → OutcomeHolds (judged state verdict) tokens
judged_keeps state passes tokens holds = holds
judged_keeps state refused_here tokens holds = tt
judged_keeps state (refused_before at) tokens holds = tt
judged_keeps state undecided tokens holds = tt

version_permitted : (at : ℕ) (version : VersionLit) (tokens : List Token) (test : Bool) →
    ModuleHolds (version_read at version) tokens →
    OutcomeHolds (if test then on (version_read at version) else other_version) tokens
version_permitted at version tokens true holds = holds
version_permitted at version tokens false holds = tt

state_permitted : (state : State) (tokens : List Token) → ModuleHolds state tokens →
    OutcomeHolds (permitted_state state) tokens
state_permitted (version_read at version) tokens holds =
    version_permitted at version tokens (is_version version.text version.double) holds
state_permitted (within begun position) tokens holds =
    judged_keeps (within begun position) (verdict_in position) tokens holds
state_permitted state tokens holds = holds

permitted_keeps : (strict : Bool) (outcome : Outcome) (tokens : List Token) →
    OutcomeHolds outcome tokens → OutcomeHolds (permitted strict outcome) tokens
permitted_keeps true (on state) tokens holds = state_permitted state tokens holds
permitted_keeps strict outcome tokens holds = holds

run_stands : (strict : Bool) (limit whole at : ℕ) (outcome : Outcome) (before tokens : List Token) →
    OutcomeHolds outcome before →
    RunStands (run_module_from strict limit whole at outcome tokens) (before ++ tokens)
run_stands strict limit whole at (on state) before [] holds =
    subst (RunStands (module_end whole at state)) (sym (append-nil before))
    (end_stands whole at state before holds)
run_stands strict limit whole at (on state) before (token ∷ tokens) holds =
    let next = module_taken strict limit at state token in
    subst (RunStands (run_module_from strict limit (outcome_after whole at next)
    (place_behind at next) next tokens)) (append_assoc before (token ∷ []) tokens)
    (run_stands strict limit (outcome_after whole at next) (place_behind at next) next
    (before ++ token ∷ []) tokens
    (permitted_keeps strict (module_step limit at state token) (before ++ token ∷ [])
    (step_keeps forms_keep limit at state before token holds)))
run_stands strict limit whole at (waits state) before tokens holds = tt
run_stands strict limit whole at wrong before tokens holds = tt
run_stands strict limit whole at too_deep before tokens holds = tt
run_stands strict limit whole at (leaves_out earlier text) before tokens holds = tt
run_stands strict limit whole at statement_body before tokens holds = tt
run_stands strict limit whole at other_version before tokens holds = tt

-- the module that is read stands for its tokens
pub module_run_sound : (strict : Bool) (limit : ℕ) (tokens : List Token) (tree : ModuleTree) →
    run_module_from strict limit 0 0 (on mdl_wanted) tokens ≡ module_read tree →
    Part write_module placed_module tree tokens
module_run_sound strict limit tokens tree is =
    subst (λ run. RunStands run tokens) is
    (run_stands strict limit 0 0 (on mdl_wanted) [] tokens refl)

-- The loops of the reader of modules, as the machine's run.
use Rattle.std.proofs.Common.{◌≡◌, ◌∙◌, refl, ap, sym, arith, ℕ, suc, ◌+◌, true}
use Rattle.std.proofs.Common.{List, [], ◌∷◌, Some, None, Err}
use Rattle.std.proofs.lemmas.Bool.{false≢true}
use Rattle.mdl_lexer.specs.declared.token.Token.{Token}
use Rattle.mdl_grammar.specs.declared.module_state.ModuleStop.{ModuleStop}
use Rattle.mdl_grammar.specs.declared.module_state.ModuleStop.TheVariants as stops
use Rattle.mdl_grammar.specs.declared.module_state.Begun as held_begun
use Rattle.module_grammar.specs.inside.ModuleStates.{State, Begun, Position, Outcome, on, within, item_wanted}
use Rattle.module_grammar.specs.inside.ModuleMachine.{module_taken, run_module, run_module_from, whole_after}
use Rattle.module_grammar.specs.inside.ModuleMachine.{module_end}
use Rattle.module_grammar.specs.inside.ModuleStates.{wrong, too_deep, leaves_out}
use Rattle.module_grammar.specs.inside.ModuleMachine.{waiting_place, ends_waiting}
use Rattle.module_grammar.specs.inside.ModuleStates.{statement_body}
use Rattle.module_grammar.specs.inside.ModuleMachine.{step_from, place_or}
use Rattle.expression_grammar.specs.declared.sort.Sort as words
use Rattle.expression_grammar.specs.declared.sort.Sort.TheVariants as sorts
use Rattle.expression_grammar.specs.inside.Machine.{Sort}
use Rattle.expression_grammar.specs.inside.SortViews.{sort_view}
use Rattle.mdl_grammar.specs.inside.ModuleViews.{ModuleCame, IsInUse}
use Rattle.mdl_grammar.specs.inside.Runs.{run_after, is_item}

next_place : (at : ℕ) → suc at ≡ at + 1
next_place at = omega arith

-- the run goes on as the loop does
pub loop_goes : (limit whole at next_whole : ℕ) (tokens rest behind : List Token) (state after : State)
    (token : Token) → rest ≡ token ∷ behind →
    run_module limit tokens ≡ run_module_from true limit whole at (on state) rest →
    module_taken true limit at state token ≡ on after → next_whole ≡ whole_after whole (at + 1) after →
    run_module limit tokens ≡ run_module_from true limit next_whole (at + 1) (on after) behind
loop_goes limit whole at next_whole tokens rest behind state after token first so_far made next_is =
    so_far ∙ ap (run_module_from true limit whole at (on state)) first
    ∙ ap (λ outcome. run_after limit whole at outcome behind) made
    ∙ ap (λ place. run_module_from true limit (whole_after whole place after) place (on after) behind)
    (next_place at)
    ∙ ap (λ count. run_module_from true limit count (at + 1) (on after) behind) (sym next_is)

-- Items.

pub end_item : (whole at : ℕ) (begun : Begun) (position : Position) → is_item position ≡ true →
    module_end whole at (within begun position) ≡ module_end whole at (within begun (item_wanted true))
end_item whole at begun (item_wanted early) is = refl
end_item whole at begun _ is = absurd (false≢true is)

-- Waiting.

stuck_waiting : (limit waiting at : ℕ) (made : Outcome) (tokens : List Token) →
    ends_waiting waiting made ≡ Some waiting → waiting_place limit waiting at made tokens ≡ waiting
stuck_waiting limit waiting at made [] is = ap (place_or waiting) is
stuck_waiting limit waiting at made (token ∷ tokens) is =
    ap (place_or (waiting_place limit waiting (suc at) (step_from limit at made token) tokens)) is

came_to : (limit waiting at : ℕ) (made stopped : Outcome) (tokens : List Token) → made ≡ stopped →
    ends_waiting waiting stopped ≡ Some waiting → waiting_place limit waiting at made tokens ≡ waiting
came_to limit waiting at made stopped tokens came is =
    ap (λ outcome. waiting_place limit waiting at outcome tokens) came
    ∙ stuck_waiting limit waiting at stopped tokens is

pub waiting_stopped : (limit waiting at : ℕ) (stop : ModuleStop) (begun : held_begun.Begun) (made : Outcome)
    (tokens : List Token) → (stop ≡ stops.OutOfMemory → ⊥) → ModuleCame (Err stop) begun made →
    waiting_place limit waiting at made tokens ≡ waiting
waiting_stopped limit waiting at stops.Bad begun made tokens other came =
    came_to limit waiting at made wrong tokens came refl
waiting_stopped limit waiting at stops.Deep begun made tokens other came =
    came_to limit waiting at made too_deep tokens came refl
waiting_stopped limit waiting at (stops.LeftOut word) begun made tokens other came =
    came_to limit waiting at made (leaves_out None word) tokens came refl
waiting_stopped limit waiting at stops.StatementBody begun made tokens other came =
    came_to limit waiting at made statement_body tokens came refl
waiting_stopped limit waiting at stops.OutOfMemory begun made tokens other came = absurd (other refl)

-- Words.

pub in_use : (word : words.Sort) → ((text : _) → word ≡ sorts.LeftOut text → ⊥) →
    IsInUse (sort_view word)
in_use (sorts.LeftOut text) not = absurd (not text refl)
in_use _ not = tt

-- The reader's loop, as the machine's run.
use Rattle.std.proofs.Common.{◌≡◌, ◌∙◌, ◌<◌, ap, sym, arith, ℕ, suc, ◌+◌, true, List, ◌∷◌, length}
use Rattle.std.proofs.Common.{drop}
use Rattle.std.proofs.Math.ListN.{get_or}
use Rattle.std.proofs.lemmas.List.{drop_more}
use Rattle.mdl_lexer.specs.declared.token.Token.{Token}
use Rattle.expression_grammar.specs.inside.Machine.{Mode, Frame, Step, Run, goes, taken, run_from, run}
use Rattle.expression_grammar.specs.inside.Machine.{place_after}

abbrev from_step : ℕ → ℕ → Step → List Token → Run
from_step limit at made rest = run_from true limit (place_after at made) made rest

run_on : (limit at : ℕ) (mode : Mode) (frames : List Frame) (token : Token) (rest : List Token)
    (later : Mode) (below : List Frame) → taken true limit mode frames token ≡ goes later below →
    run_from true limit at (goes mode frames) (token ∷ rest) ≡ run_from true limit (suc at)
    (goes later below) rest
run_on limit at mode frames token rest later below made = ap (λ step. from_step limit at step rest)
    made

rest_at : (tokens : List Token) (at : ℕ) (token : Token) → at < length tokens →
    token ≡ get_or tokens at token → drop at tokens ≡ token ∷ drop (at + 1) tokens
rest_at tokens at token within is =
    drop_more tokens at token within ∙ ap (λ first. first ∷ drop (at + 1) tokens) (sym is)

next_place : (at : ℕ) → suc at ≡ at + 1
next_place at = omega arith

-- the loop goes on, stops and ends as the run does
pub loop_goes : (limit at : ℕ) (tokens : List Token) (mode : Mode) (frames : List Frame)
    (token : Token) (later : Mode) (below : List Frame) → at < length tokens →
    token ≡ get_or tokens at token → run limit tokens ≡ run_from true limit at (goes mode frames)
    (drop at tokens) → taken true limit mode frames token ≡ goes later below →
    run limit tokens ≡ run_from true limit (at + 1) (goes later below) (drop (at + 1) tokens)
loop_goes limit at tokens mode frames token later below within is so_far made =
    so_far ∙ ap (run_from true limit at (goes mode frames)) (rest_at tokens at token within is)
    ∙ run_on limit at mode frames token (drop (at + 1) tokens) later below made ∙ ap
    (λ place. run_from true limit place (goes later below) (drop (at + 1) tokens)) (next_place at)

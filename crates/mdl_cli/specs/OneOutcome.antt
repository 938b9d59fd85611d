-- The definitions of answer and refusal fit together.
use Rattle.std.specs.Prelude.{◌≡◌, ◌⊎◌, ℕ, List}
use Rattle.io_edge.specs.Source.{File}
use Rattle.mdl_cli.specs.declared.status.Status.{Status}
use Rattle.mdl_cli.specs.Outcome.{Answer, Refusal}

-- for these words and files there is one answer and no refusal, or one refusal and no answer
pub record OneOutcome (words : List (List ℕ)) (files : List File) : Type 0 where
  pub stands :
      ((text : List ℕ) × Answer words files text)
      ⊎ ((refused_as : Status) × ((line : List ℕ) × Refusal words files refused_as line))
  pub one_answer : (a b : List ℕ) → Answer words files a → Answer words files b → a ≡ b
  pub one_refusal : (s t : Status) (a b : List ℕ) →
      Refusal words files s a → Refusal words files t b → (s ≡ t) × (a ≡ b)
  pub not_both : (text : List ℕ) (s : Status) (line : List ℕ) →
      Answer words files text → Refusal words files s line → ⊥

-- A list of what tables give single characters, filled one after another.
use Rattle.std.proofs.Common.{◌≡◌, ◌⊎◌, ◌<◌, ◌≤◌, ◌+◌, ◌∙◌, inl, inr, sym, ap, arith, ℕ, List, [], ◌∷◌}
use Rattle.std.proofs.Common.{Option, None}
use Rattle.std.proofs.Common.{length, get_or, set}
use Rattle.std.proofs.lemmas.Bool.{cases_lt}
use Rattle.std.proofs.lemmas.List.{get_or-set_same, get_or-set_other}
use Rattle.mdl_lexer.specs.inside.Tokens.{number_in_either}

-- one more is filled
pub one_more_single : (one other : List (List ℕ × ℕ)) (singles : List (Option ℕ)) (i : ℕ) (number : Option ℕ)
    →
    i < length singles →
    ((k : ℕ) → k < i → get_or singles k None ≡ number_in_either one other (k ∷ [])) →
    number ≡ number_in_either one other (i ∷ []) →
    (k : ℕ) → k < i + 1 → get_or (set singles i number) k None ≡ number_in_either one other (k ∷ [])
one_more_single one other singles i number within before is k less = by (cases_lt k i)
  where
    by : (k < i) ⊎ (i ≤ k) → get_or (set singles i number) k None ≡ number_in_either one other (k ∷ [])
    by (inl earlier) = get_or-set_other singles i k number None (λ same. absurd (omega (
      arith,
      earlier,
      same,
    ))) ∙ before k earlier
    by (inr later) =
        let same : k ≡ i = omega (arith, less, later) in
        ap (λ n. get_or (set singles i number) n None) same
        ∙ (get_or-set_same singles i number None within ∙ (is
        ∙ ap (λ n. number_in_either one other (n ∷ [])) (sym same)))

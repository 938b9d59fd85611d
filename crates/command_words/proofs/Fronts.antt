-- How long the front of a text is whose bytes pass a test.
use Rattle.std.proofs.Common.{◌≡◌, ℕ, ◌<◌, Bool, true, false, List, length, get_or, sym, arith}
use Rattle.std.specs.List.{prefix_len}
use Rattle.std.proofs.lemmas.List.Sums.{prefix_len_is}

-- up to the first byte that doesn't pass
pub prefix_len_at : (p : ℕ → Bool) (xs : List ℕ) (n : ℕ) → n < length xs →
    ((k : ℕ) → k < n → p (get_or xs k 0) ≡ true) → p (get_or xs n 0) ≡ false → n ≡ prefix_len p xs
prefix_len_at p xs n within passes stops = sym (prefix_len_is p xs n 0 (omega arith) passes (λ _. stops))

-- to the end, where all pass
pub prefix_len_whole : (p : ℕ → Bool) (xs : List ℕ) (n : ℕ) → n ≡ length xs →
    ((k : ℕ) → k < n → p (get_or xs k 0) ≡ true) → n ≡ prefix_len p xs
prefix_len_whole p xs n whole passes =
    sym (prefix_len_is p xs n 0 (omega arith) passes (λ h. absurd (omega arith)))

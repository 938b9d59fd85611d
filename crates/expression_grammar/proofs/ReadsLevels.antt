-- The levels of binary operators.
use Rattle.std.proofs.Common.{◌≡◌, ◌∙◌, sym, ap, refl, arith, ℕ, ◌≤◌, Bool, true, false, List, []}
use Rattle.std.proofs.Common.{◌∷◌, Some, if◌then◌else◌}
use Rattle.std.specs.Prelude.{unwrap_or, ◌==◌, nat_le}
use Rattle.std.proofs.lemmas.Bool.{cond-true, cond-false, leb-true, false≢true}
use Rattle.std.proofs.lemmas.Option.{same_Some, none-some}
use Rattle.mdl_syntax.specs.declared.names.Span.{Span}
use Rattle.mdl_syntax.specs.Trees.{Tree, binary}
use Rattle.mdl_syntax.specs.Levels.{binary_level, binary_operators, level_among, mark_number, level}

-- each row's level is between 2 and 11
abbrev are_between : List (List ℕ × ℕ) → Bool
are_between [] = true
are_between (row ∷ rows) =
    if nat_le 2 row.1 then (if nat_le row.1 11 then are_between rows else false) else false

level_between : (rows : List (List ℕ × ℕ)) → are_between rows ≡ true → (op own : ℕ) →
    level_among rows op ≡ Some own → (2 ≤ own) × (own ≤ 11)
level_between [] all op own found = absurd (none-some own found)
level_between (row ∷ rows) all op own found =
    by (λ rest. level_between rows rest op own) (nat_le 2 row.1) (nat_le row.1 11) refl refl all
  where
    on : (level_among rows op ≡ Some own → (2 ≤ own) × (own ≤ 11)) → 2 ≤ row.1 → row.1 ≤ 11 →
        (b : Bool) → (mark_number row.0 == op) ≡ b → (2 ≤ own) × (own ≤ 11)
    on behind low high true is =
        let same : row.1 ≡ own =
        same_Some row.1 own (sym (cond-true (mark_number row.0 == op) (Some row.1)
        (level_among rows op) is) ∙ found) in
        (omega (arith, same, low), omega (arith, same, high))
    on behind low high false other =
        behind (sym (cond-false (mark_number row.0 == op) (Some row.1) (level_among rows op) other)
        ∙ found)

    by : (are_between rows ≡ true → level_among rows op ≡ Some own → (2 ≤ own) × (own ≤ 11)) →
        (low high : Bool) → nat_le 2 row.1 ≡ low → nat_le row.1 11 ≡ high →
        (if low then (if high then are_between rows else false) else false) ≡ true →
        (2 ≤ own) × (own ≤ 11)
    by behind true true low high rest =
        on (behind rest) (leb-true 2 row.1 low) (leb-true row.1 11 high) (mark_number row.0 == op)
        refl
    by behind true false low high rest = absurd (false≢true rest)
    by behind false _ low high rest = absurd (false≢true rest)

pub operator_between : (op own : ℕ) → binary_level op ≡ Some own → (2 ≤ own) × (own ≤ 11)
operator_between op own is = level_between binary_operators refl op own is

-- the level of a binary expression is its operator's
pub level_of_binary : (op own : ℕ) (left right : Tree) (span : Span) → binary_level op ≡ Some own →
    level (binary op left right span) ≡ own
level_of_binary op own left right span is = ap (λ o. unwrap_or o 0) is

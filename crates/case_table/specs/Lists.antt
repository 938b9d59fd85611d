-- Lists without later repeats, and places in them. `same` tells whether two members are equal.
use Rattle.std.specs.Prelude.{◌≡◌, ℕ, suc, Bool, true, List, [], ◌∷◌, ◌++◌, if◌then◌else◌}
use Rattle.std.specs.List.{list_any}

-- the test is true of equal values, and of no others
pub record Tells {A : Type 0} (same : A → A → Bool) : Type 0 where
  pub itself : (a : A) → same a a ≡ true
  pub only : (a b : A) → same a b ≡ true → a ≡ b

-- the list, with one more member at its end unless it is there
abbrev pub with_first : {A : Type 0} → (A → A → Bool) → List A → A → List A
with_first same xs x = if list_any (same x) xs then xs else xs ++ x ∷ []

-- the list, with the members of another at its end, each unless it is there
abbrev pub firsts_onto : {A : Type 0} → (A → A → Bool) → List A → List A → List A
firsts_onto same seen [] = seen
firsts_onto same seen (x ∷ xs) = firsts_onto same (with_first same seen x) xs

-- a list without its later repeats
abbrev pub firsts : {A : Type 0} → (A → A → Bool) → List A → List A
firsts same xs = firsts_onto same [] xs

-- the place of the first member that equals x, or the length where none does
abbrev pub place_of : {A : Type 0} → (A → A → Bool) → A → List A → ℕ
place_of same x [] = 0
place_of same x (y ∷ ys) = if same x y then 0 else suc (place_of same x ys)

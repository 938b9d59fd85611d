-- Laws of lists without later repeats.
use Rattle.std.specs.Prelude.{◌≡◌, ℕ, zero, suc, ◌+◌, ◌<◌, ◌≤◌, Bool, true, false, ◌||◌, Some}
use Rattle.std.specs.Prelude.{List, [], ◌∷◌, ◌++◌, length, slice_get, slice_index_or}
use Rattle.std.specs.List.{list_any}
use Rattle.std.proofs.Common.{refl, sym, ◌∙◌, ap, subst, arith}
use Rattle.std.proofs.lemmas.Bool.{false≢true, or_parts, or_right, false_from_ne_true}
use Rattle.std.proofs.lemmas.Bool.{cond-true, cond-false, cond_both}
use Rattle.std.proofs.lemmas.List.{append_assoc, length-append, length_push}
use Rattle.std.proofs.lemmas.Option.{same_Some, none-some, slice_get-get_or}
use Rattle.case_table.specs.Lists.{Tells, with_first, firsts_onto, firsts, place_of}

-- a member that is there changes nothing
pub with_first-known : {A : Type 0} (same : A → A → Bool) (xs : List A) (x : A)
    → list_any (same x) xs ≡ true → with_first same xs x ≡ xs
with_first-known same xs x h = cond-true (list_any (same x) xs) xs (xs ++ x ∷ []) h

-- a member that isn't there comes to the end
pub with_first-new : {A : Type 0} (same : A → A → Bool) (xs : List A) (x : A)
    → list_any (same x) xs ≡ false → with_first same xs x ≡ xs ++ x ∷ []
with_first-new same xs x h = cond-false (list_any (same x) xs) xs (xs ++ x ∷ []) h

-- what comes onto one list after another comes onto both in turn
pub firsts_onto-append : {A : Type 0} (same : A → A → Bool) (seen xs ys : List A)
    → firsts_onto same seen (xs ++ ys) ≡ firsts_onto same (firsts_onto same seen xs) ys
firsts_onto-append same seen [] ys = refl
firsts_onto-append same seen (x ∷ xs) ys = firsts_onto-append same (with_first same seen x) xs ys

-- one more member comes to what the list is without its repeats
pub firsts-push : {A : Type 0} (same : A → A → Bool) (xs : List A) (x : A)
    → firsts same (xs ++ x ∷ []) ≡ with_first same (firsts same xs) x
firsts-push same xs x = firsts_onto-append same [] xs (x ∷ [])

-- a list without repeats, with one more member unless it is there, is without repeats
pub firsts-with_first : {A : Type 0} (same : A → A → Bool) (xs : List A) (x : A)
    → firsts same xs ≡ xs → firsts same (with_first same xs x) ≡ with_first same xs x
firsts-with_first same xs x h =
    cond_both (list_any (same x) xs) xs (xs ++ x ∷ []) (λ ys. firsts same ys ≡ ys) (λ known. h)
    (λ new.
    firsts-push same xs x ∙ ap (λ ys. with_first same ys x) h ∙ with_first-new same xs x new)

-- a list without repeats, with the members of another each unless it is there, is without repeats
pub firsts-firsts_onto : {A : Type 0} (same : A → A → Bool) (seen xs : List A)
    → firsts same seen ≡ seen → firsts same (firsts_onto same seen xs) ≡ firsts_onto same seen xs
firsts-firsts_onto same seen [] h = h
firsts-firsts_onto same seen (x ∷ xs) h =
    firsts-firsts_onto same (with_first same seen x) xs (firsts-with_first same seen x h)

-- a list without its repeats is without repeats
pub firsts-firsts : {A : Type 0} (same : A → A → Bool) (xs : List A)
    → firsts same (firsts same xs) ≡ firsts same xs
firsts-firsts same xs = firsts-firsts_onto same [] xs refl

-- one more member makes a list at most one longer
pub length-with_first-le : {A : Type 0} (same : A → A → Bool) (xs : List A) (x : A)
    → length (with_first same xs x) ≤ length xs + 1
length-with_first-le same xs x =
    cond_both (list_any (same x) xs) xs (xs ++ x ∷ []) (λ ys. length ys ≤ length xs + 1)
    (λ known. omega arith)
    (λ new. omega (arith, length_push xs x))

-- members that come onto a list make it at most as much longer as they are many
pub length-firsts_onto-le : {A : Type 0} (same : A → A → Bool) (seen xs : List A)
    → length (firsts_onto same seen xs) ≤ length seen + length xs
length-firsts_onto-le same seen [] = omega arith
length-firsts_onto-le same seen (x ∷ xs) =
    let longer = length-with_first-le same seen x in
    omega (arith, length-firsts_onto-le same (with_first same seen x) xs, longer)

-- where all members come onto a list, the first of them is not there
list_any-fresh : {A : Type 0} (same : A → A → Bool) (seen : List A) (x : A) (xs : List A)
    → firsts_onto same seen (x ∷ xs) ≡ seen ++ x ∷ xs → list_any (same x) seen ≡ false
list_any-fresh same seen x xs h =
    false_from_ne_true (list_any (same x) seen) (λ known.
    let stays = ap (λ ys. firsts_onto same ys xs) (with_first-known same seen x known) in
    let e = ap length (sym stays ∙ h) in
    omega (arith, e, length-append seen (x ∷ xs), length-firsts_onto-le same seen xs))

-- where all members come onto a list, the others come onto it and the first
firsts_onto-fresh : {A : Type 0} (same : A → A → Bool) (seen : List A) (x : A) (xs : List A)
    → firsts_onto same seen (x ∷ xs) ≡ seen ++ x ∷ xs
    → firsts_onto same (seen ++ x ∷ []) xs ≡ (seen ++ x ∷ []) ++ xs
firsts_onto-fresh same seen x xs h =
    let new = with_first-new same seen x (list_any-fresh same seen x xs h) in
    sym (ap (λ ys. firsts_onto same ys xs) new) ∙ h ∙ sym (append_assoc seen (x ∷ []) xs)

-- behind a list in which a member is not, its place counts on
pub place_of-append : {A : Type 0} (same : A → A → Bool) (x : A) (xs ys : List A)
    → list_any (same x) xs ≡ false → place_of same x (xs ++ ys) ≡ length xs + place_of same x ys
place_of-append same x [] ys h = omega arith
place_of-append same x (z ∷ xs) ys h =
    let apart = or_parts (same x z) (list_any (same x) xs) h in
    let e = cond-false (same x z) 0 (suc (place_of same x (xs ++ ys))) apart.0 in
    omega (arith, e, place_of-append same x xs ys apart.1)

-- a member's place is the end of a list in which it is not
pub place_of-absent : {A : Type 0} (same : A → A → Bool) (x : A) (xs : List A)
    → list_any (same x) xs ≡ false → place_of same x xs ≡ length xs
place_of-absent same x [] h = refl
place_of-absent same x (z ∷ xs) h =
    let apart = or_parts (same x z) (list_any (same x) xs) h in
    cond-false (same x z) 0 (suc (place_of same x xs)) apart.0
    ∙ ap suc (place_of-absent same x xs apart.1)

-- a member's place, where it heads the list
place_of-head : {A : Type 0} (same : A → A → Bool) → Tells same → (x : A) (xs : List A)
    → place_of same x (x ∷ xs) ≡ 0
place_of-head same tells x xs = cond-true (same x x) 0 (suc (place_of same x xs)) (tells.itself x)

place_of-fresh : {A : Type 0} (same : A → A → Bool) → Tells same → (seen xs : List A) (x : A)
    (k : ℕ) → firsts_onto same seen xs ≡ seen ++ xs → slice_get xs k ≡ Some x
    → place_of same x (seen ++ xs) ≡ length seen + k
place_of-fresh same tells seen [] x k h at = absurd (none-some x at)
place_of-fresh same tells seen (y ∷ ys) x zero h at =
    let e = same_Some y x at in
    let new = subst (λ z. list_any (same z) seen ≡ false) e (list_any-fresh same seen y ys h) in
    let head = subst (λ z. place_of same x (z ∷ ys) ≡ 0) (sym e) (place_of-head same tells x ys) in
    place_of-append same x seen (y ∷ ys) new ∙ ap (λ n. length seen + n) head
place_of-fresh same tells seen (y ∷ ys) x (suc k) h at =
    let others = firsts_onto-fresh same seen y ys h in
    let later = place_of-fresh same tells (seen ++ y ∷ []) ys x k others at in
    let whole = ap (place_of same x) (append_assoc seen (y ∷ []) ys) in
    omega (arith, later, whole, length_push seen y)

-- in a list without repeats the place of a member is its index
pub place_of-slice_get : {A : Type 0} (same : A → A → Bool) → Tells same → (xs : List A) (x : A)
    (k : ℕ) → firsts same xs ≡ xs → slice_get xs k ≡ Some x → place_of same x xs ≡ k
place_of-slice_get same tells xs x k h at = omega (arith, place_of-fresh same tells [] xs x k h at)

-- in a list without repeats a member is at one index alone
pub slice_get-once : {A : Type 0} (same : A → A → Bool) → Tells same → (xs : List A) (x : A)
    (j k : ℕ) → firsts same xs ≡ xs → slice_get xs j ≡ Some x → slice_get xs k ≡ Some x → j ≡ k
slice_get-once same tells xs x j k h at_j at_k =
    sym (place_of-slice_get same tells xs x j h at_j) ∙ place_of-slice_get same tells xs x k h at_k

-- in a list without repeats equal members are at one index, whatever stands for those past the end
pub slice_index_or-once : {A : Type 0} (same : A → A → Bool) → Tells same → (xs : List A) (d : A)
    (j k : ℕ) → firsts same xs ≡ xs → j < length xs → k < length xs
    → slice_index_or xs j d ≡ slice_index_or xs k d → j ≡ k
slice_index_or-once same tells xs d j k h j_in k_in e =
    slice_get-once same tells xs (slice_index_or xs k d) j k h
    (slice_get-get_or xs j d j_in ∙ ap Some e) (slice_get-get_or xs k d k_in)

-- a member passes the test for it
pub list_any-slice_get : {A : Type 0} (same : A → A → Bool) → Tells same → (xs : List A) (x : A)
    (k : ℕ) → slice_get xs k ≡ Some x → list_any (same x) xs ≡ true
list_any-slice_get same tells [] x k at = absurd (none-some x at)
list_any-slice_get same tells (y ∷ ys) x zero at =
    let e = same_Some y x at in
    ap (λ b. b || list_any (same x) ys) (subst (λ z. same x z ≡ true) (sym e) (tells.itself x))
list_any-slice_get same tells (y ∷ ys) x (suc k) at =
    or_right (same x y) (list_any (same x) ys) (list_any-slice_get same tells ys x k at)

-- a member for which the test is passed stands at its place
pub slice_get-place_of : {A : Type 0} (same : A → A → Bool) → Tells same → (xs : List A) (x : A)
    → list_any (same x) xs ≡ true → slice_get xs (place_of same x xs) ≡ Some x
slice_get-place_of same tells [] x h = absurd (false≢true h)
slice_get-place_of same tells (y ∷ ys) x h =
    cond_both (same x y) 0 (suc (place_of same x ys)) (λ k. slice_get (y ∷ ys) k ≡ Some x)
    (λ here. ap Some (sym (tells.only x y here)))
    (λ there.
    let later = sym (ap (λ b. b || list_any (same x) ys) there) ∙ h in
    slice_get-place_of same tells ys x later)

-- what stands in a list stands there still when more comes to its end
pub slice_get-append : {A : Type 0} (xs ys : List A) (k : ℕ) (x : A) → slice_get xs k ≡ Some x
    → slice_get (xs ++ ys) k ≡ Some x
slice_get-append [] ys k x at = absurd (none-some x at)
slice_get-append (y ∷ xs) ys zero x at = at
slice_get-append (y ∷ xs) ys (suc k) x at = slice_get-append xs ys k x at

-- one more member stands behind the list
pub slice_get-push : {A : Type 0} (xs : List A) (x : A)
    → slice_get (xs ++ x ∷ []) (length xs) ≡ Some x
slice_get-push [] x = refl
slice_get-push (y ∷ xs) x = slice_get-push xs x

-- one more member leaves those that are there
pub slice_get-with_first_kept : {A : Type 0} (same : A → A → Bool) (xs : List A) (x : A) (k : ℕ)
    (y : A) → slice_get xs k ≡ Some y → slice_get (with_first same xs x) k ≡ Some y
slice_get-with_first_kept same xs x k y at =
    cond_both (list_any (same x) xs) xs (xs ++ x ∷ []) (λ ys. slice_get ys k ≡ Some y) (λ _. at)
    (λ _. slice_get-append xs (x ∷ []) k y at)

-- Laws of tables: what follows from names that ascend.
use Rattle.std.proofs.Common.{ℕ, zero, suc, ◌-◌, ◌+◌, ◌<◌, ◌≤◌, ◌≡◌, ◌≢◌, Bool, true, false, List, []}
use Rattle.std.proofs.Common.{◌∷◌, length, map, take, nat_lt, slice_index_or, Some, None, bytes_eq}
use Rattle.std.proofs.Common.{refl, sym, ◌∙◌, ap, subst, arith, Less, Equal, Greater, Ordering}
use Rattle.std.specs.Cmp.Lexicographic.{slice_cmp, nat_list_cmp_total, texts_ties}
use Rattle.std.specs.Ordering.{nat_cmp, is_eq, is_ge, ordering_reverse, ordering_index}
use Rattle.std.proofs.lemmas.Bool.{false≢true, cond-true, cond-false}
use Rattle.std.proofs.lemmas.Bool.Decides.{nat_tests}
use native.Mathlib.Numerals.{unary_clauses}
use Rattle.std.specs.List.Sorted.{IsNonDecreasingBy, IsPartitionPoint}
use Rattle.case_table.specs.declared.table.Row.{Row}
use Rattle.case_table.specs.Rows.{row_value}
use Rattle.case_table.specs.Tables.{Below, Ascend, StopsAt, names_of, value_of}

abbrev order : List ℕ → List ℕ → Ordering
order = slice_cmp nat_cmp

-- the first name is below each later one
pub below_later : (name : List ℕ) (rows : List Row) (i : ℕ) (d : Row) →
    Ascend (name ∷ names_of (map row_value rows)) → i < length rows →
    Below name (slice_index_or rows i d).name.now
below_later name [] i d up within = absurd (omega arith)
below_later name (row ∷ rows) zero d up within = up.0
below_later name (row ∷ rows) (suc i) d up within =
    nat_list_cmp_total.trans name row.name.now (slice_index_or rows i d).name.now up.0
    (below_later row.name.now rows i d up.1 (omega arith))

later : (name : List ℕ) (names : List (List ℕ)) → Ascend (name ∷ names) → Ascend names
later name [] up = tt
later name (next ∷ names) up = up.1

-- a name that is below another is another
other_name : (word name last : List ℕ) → Below name last → order last word ≡ Equal →
    bytes_eq word name ≡ false
other_name word name last below same =
    texts_ties word name
    ∙ ap is_eq (sym (nat_list_cmp_total.congr last word name same)
    ∙ (nat_list_cmp_total.antisymm last name ∙ ap ordering_reverse below))

-- the row whose name ties with the word has its value
pub value_at : (rows : List Row) (word : List ℕ) (i : ℕ) (d : Row) →
    Ascend (names_of (map row_value rows)) → i < length rows →
    order (slice_index_or rows i d).name.now word ≡ Equal →
    value_of (map row_value rows) word ≡ Some (slice_index_or rows i d).value
value_at [] word i d up within same = absurd (omega arith)
value_at (row ∷ rows) word zero d up within same =
    cond-true (bytes_eq word row.name.now) (Some row.value) (value_of (map row_value rows) word)
    (texts_ties word row.name.now
    ∙ ap is_eq (nat_list_cmp_total.antisymm word row.name.now ∙ ap ordering_reverse same))
value_at (row ∷ rows) word (suc i) d up within same =
    cond-false (bytes_eq word row.name.now) (Some row.value) (value_of (map row_value rows) word)
    (other_name word row.name.now (slice_index_or rows i d).name.now
    (below_later row.name.now rows i d up (omega arith)) same)
    ∙ value_at rows word i d (later row.name.now (names_of (map row_value rows)) up) (omega arith) same

-- where no name ties with the word there is no value
pub no_value : (rows : List Row) (word : List ℕ) →
    ((i : ℕ) (d : Row) → i < length rows → order (slice_index_or rows i d).name.now word ≢ Equal) →
    value_of (map row_value rows) word ≡ None
no_value [] word apart = refl
no_value (row ∷ rows) word apart =
    cond-false (bytes_eq word row.name.now) (Some row.value) (value_of (map row_value rows) word)
    (not_first (bytes_eq word row.name.now) refl)
    ∙ no_value rows word (λ i d within. apart (suc i) d (omega arith))
  where
    not_first : (b : Bool) → bytes_eq word row.name.now ≡ b → bytes_eq word row.name.now ≡ false
    not_first false is = is
    not_first true is = absurd (apart 0 row (omega arith) (tie (order row.name.now word) refl))
      where
        tie : (o : Ordering) → order row.name.now word ≡ o → order row.name.now word ≡ Equal
        tie Equal at = at
        tie Less at =
            absurd (false≢true (sym (texts_ties word row.name.now
            ∙ ap is_eq (nat_list_cmp_total.antisymm word row.name.now ∙ ap ordering_reverse at)) ∙ is))
        tie Greater at =
            absurd (false≢true (sym (texts_ties word row.name.now
            ∙ ap is_eq (nat_list_cmp_total.antisymm word row.name.now ∙ ap ordering_reverse at)) ∙ is))

-- an earlier name is below a later one
below_at : (rows : List Row) (i j : ℕ) (d : Row) → Ascend (names_of (map row_value rows)) → i < j →
    j < length rows → Below (slice_index_or rows i d).name.now (slice_index_or rows j d).name.now
below_at [] i j d up less within = absurd (omega arith)
below_at (row ∷ rows) i zero d up less within = absurd (omega arith)
below_at (row ∷ rows) zero (suc j) d up less within = below_later row.name.now rows j d up (omega arith)
below_at (row ∷ rows) (suc i) (suc j) d up less within =
    below_at rows i j d (later row.name.now (names_of (map row_value rows)) up) (omega arith) (omega arith)

index_most : (o : Ordering) → ordering_index o ≤ 2
index_most Less = omega arith
index_most Equal = omega arith
index_most Greater = omega arith

-- a name that is below another compares with a word no later
rising_by : (name other word : List ℕ) → Below name other → (o : Ordering) → order other word ≡ o →
    ordering_index (order name word) ≤ ordering_index o
rising_by name other word below Less at =
    omega (arith, ap ordering_index (nat_list_cmp_total.trans name other word below at))
rising_by name other word below Equal at =
    omega (
      arith,
      ap ordering_index
          (nat_list_cmp_total.antisymm name word
          ∙ ap ordering_reverse (sym (nat_list_cmp_total.congr other word name at)
          ∙ nat_list_cmp_total.antisymm other name ∙ ap ordering_reverse below)),
    )
rising_by name other word below Greater at = index_most (order name word)

-- ascending names compare with a word in the order of `Less`, `Equal` and `Greater`
pub rising : (rows : List Row) (word : List ℕ) → Ascend (names_of (map row_value rows)) →
    IsNonDecreasingBy (λ (row : Row). ordering_index (order row.name.now word)) rows
rising rows word up i j d le within = by (nat_lt i j) refl
  where
    by : (b : Bool) → nat_lt i j ≡ b →
        ordering_index (order (slice_index_or rows i d).name.now word) ≤ ordering_index
        (order (slice_index_or rows j d).name.now word)
    by true less =
        rising_by (slice_index_or rows i d).name.now (slice_index_or rows j d).name.now word
        (below_at rows i j d up (grind (arith, nat_tests)) within)
        (order (slice_index_or rows j d).name.now word) refl
    by false same =
        let one : i ≡ j = grind (arith, nat_tests) in
        omega (arith, ap (λ k. ordering_index (order (slice_index_or rows k d).name.now word)) one)

-- names before a place are below the word, and the others above it: none ties
pub not_tied : (rows : List Row) (word : List ℕ) (place : ℕ) →
    IsPartitionPoint (λ (row : Row). order row.name.now word ≡ Less)
    (λ (row : Row). order row.name.now word ≡ Greater) rows place →
    (i : ℕ) (d : Row) → i < length rows → order (slice_index_or rows i d).name.now word ≢ Equal
not_tied rows word place parts i d within tie = by (nat_lt i place) refl
  where
    by : (b : Bool) → nat_lt i place ≡ b → ⊥
    by true less =
        absurd (omega (
          arith,
          ap ordering_index
              (sym (parts.0 i d (omega arith) (grind (arith, nat_tests))) ∙ tie),
        ))
    by false more =
        absurd (omega (
          arith,
          ap ordering_index
              (sym (parts.1 i d (grind (arith, nat_tests)) within) ∙ tie),
        ))

-- one more name ascends where it is above the one before it
pub next_ascends : (rows : List Row) (k : ℕ) (d : Row) → suc k < length rows →
    Ascend (take (suc k) (names_of (map row_value rows))) →
    Below (slice_index_or rows k d).name.now (slice_index_or rows (suc k) d).name.now →
    Ascend (take (suc (suc k)) (names_of (map row_value rows)))
next_ascends [] k d within up below = absurd (omega arith)
next_ascends (row ∷ []) k d within up below = absurd (omega arith)
next_ascends (row ∷ next ∷ rows) zero d within up below = (below, tt)
next_ascends (row ∷ next ∷ rows) (suc k) d within up below =
    (up.0, next_ascends (next ∷ rows) k d (omega arith) up.1 below)

-- and only there
pub last_below : (rows : List Row) (k : ℕ) (d : Row) → suc k < length rows →
    Ascend (take (suc (suc k)) (names_of (map row_value rows))) →
    Below (slice_index_or rows k d).name.now (slice_index_or rows (suc k) d).name.now
last_below [] k d within up = absurd (omega arith)
last_below (row ∷ []) k d within up = absurd (omega arith)
last_below (row ∷ next ∷ rows) zero d within up = up.0
last_below (row ∷ next ∷ rows) (suc k) d within up = last_below (next ∷ rows) k d (omega arith) up.1

less_than : (o : Ordering) → false ≡ is_ge o → o ≡ Less
less_than Less is = refl
less_than Equal is = absurd (false≢true is)
less_than Greater is = absurd (false≢true is)

not_less : (o : Ordering) → true ≡ is_ge o → o ≢ Less
not_less o is less = false≢true (sym (is ∙ ap is_ge less))

-- the loop's step: the next name is above the one before it
pub grown : (rows : List Row) (at : ℕ) (d : Row) → 1 ≤ at → at < length rows →
    Ascend (take at (names_of (map row_value rows))) →
    false ≡ is_ge (order (slice_index_or rows (at - 1) d).name.now
    (slice_index_or rows at d).name.now) → Ascend (take (at + 1) (names_of (map row_value rows)))
grown rows zero d some within up above = absurd (omega arith)
grown rows (suc k) d some within up above =
    subst (λ n. Ascend (take n (names_of (map row_value rows)))) {x = suc (suc k)} (omega arith)
    (next_ascends rows k d within up
    (less_than (order (slice_index_or rows k d).name.now (slice_index_or rows (suc k) d).name.now)
    (simp unary_clauses at above)))

-- the loop's end: it isn't
pub stopped : (rows : List Row) (at : ℕ) (d : Row) → 1 ≤ at → at < length rows →
    Ascend (take at (names_of (map row_value rows))) →
    true ≡ is_ge (order (slice_index_or rows (at - 1) d).name.now (slice_index_or rows at d).name.now) →
    StopsAt (names_of (map row_value rows)) at
stopped rows zero d some within up above = absurd (omega arith)
stopped rows (suc k) d some within up above =
    record {
      within = omega (arith, names_length rows);
      before = up;
      stops = λ all. not_less
          (order (slice_index_or rows k d).name.now (slice_index_or rows (suc k) d).name.now)
          (simp unary_clauses at above) (last_below rows k d within all);
    }
  where
    names_length : (rows : List Row) → length (names_of (map row_value rows)) ≡ length rows
    names_length [] = refl
    names_length (row ∷ rows) = ap suc (names_length rows)

-- the front of names that ascend
pub front_ascends : (names : List (List ℕ)) (n : ℕ) → Ascend names → Ascend (take n names)
front_ascends [] zero up = tt
front_ascends [] (suc n) up = tt
front_ascends (name ∷ names) zero up = tt
front_ascends (name ∷ []) (suc zero) up = tt
front_ascends (name ∷ []) (suc (suc n)) up = tt
front_ascends (name ∷ next ∷ names) (suc zero) up = tt
front_ascends (name ∷ next ∷ names) (suc (suc n)) up = (up.0, front_ascends (next ∷ names) (suc n) up.1)

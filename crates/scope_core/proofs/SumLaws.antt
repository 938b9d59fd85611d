-- Laws of what stands under names.
use Rattle.std.proofs.Common.{◌≡◌, ◌∙◌, ◌++◌, ◌∷◌, ◌+◌, ◌<◌, ◌≤◌, [], ℕ, suc, Bool, true, false, List, Some}
use Rattle.std.proofs.Common.{map, option_map, length, slice_get, slice_index_or, take, cond, not, ◌||◌, refl}
use Rattle.std.proofs.Common.{sym, ap, arith}
use Rattle.std.specs.List.{list_any, position_or_len}
use Rattle.std.specs.declared.vec.Vec.{Vec}
use Rattle.std.specs.declared.alloc.Global.{Global}
use Rattle.std.proofs.lemmas.List.{take_more, length-map, get_or_past, get_or-map}
use Rattle.std.proofs.lemmas.Bool.{false≢true}
use Rattle.std.proofs.lemmas.Option.{slice_get-map, get_or_from_slice_get}
use Rattle.scope_core.specs.declared.sums.NameKinds.{NameKinds}
use Rattle.scope_tables.specs.declared.tables.Table.{Table}
use Rattle.scope_tables.specs.inside.Owning.{same_text, names_in, indices_of, number_in}
use Rattle.scope_core.specs.inside.Sums.{kinds_in, under, nothing, under_all, sums_in, AreSums}
use Rattle.scope_tables.proofs.OwnLaws.{all_names, any-onto, first-within, among-names, name-at, indices-none}

abbrev under_name : Table → List ℕ → NameKinds
under_name table name = under_all table (indices_of table.own name)

-- the next name
pub sums-next : (table : Table) (i : ℕ) → i < length (all_names table.own)
    → take i (sums_in table)
    ++ under_all table (slice_index_or (map (indices_of table.own) (all_names table.own)) i []) ∷ []
    ≡ take (i + 1) (sums_in table)
sums-next table i within =
    ap (λ l. take i (sums_in table) ++ under_all table l ∷ [])
    (get_or-map (indices_of table.own) (all_names table.own) i [] [] within)
    ∙ ap (λ one. take i (sums_in table) ++ one ∷ [])
    (sym (get_or-map (under_name table) (all_names table.own) i [] nothing within))
    ∙ sym (take_more (sums_in table) i nothing (sums-within table i within))
  where
    sums-within : (table : Table) (i : ℕ) → i < length (all_names table.own) → i < length (sums_in table)
    sums-within table i within = omega (arith, within, length-map (all_names table.own) (under_name table))

none-past : {X : Type 0} (test : X → Bool) (xs : List X) → list_any test xs ≡ false
    → length xs ≤ position_or_len test xs
none-past test [] none = omega arith
none-past test (x ∷ xs) none = by (test x) none (none-past test xs)
  where
    by : (b : Bool) → (b || list_any test xs) ≡ false → (list_any test xs ≡ false → length xs ≤ position_or_len test xs)
        → suc (length xs) ≤ cond (not b) (1 + position_or_len test xs) 0
    by true none later = absurd (false≢true (sym none))
    by false none later = omega (arith, later none)

-- what stands under the number of a name stands under the name
numbered-is : (table : Table) (name : List ℕ)
    → slice_index_or (sums_in table) (number_in table.own name) nothing ≡ under_name table name
numbered-is table name = by (list_any (same_text name) (names_in table.own)) refl
  where
    by : (b : Bool) → list_any (same_text name) (names_in table.own) ≡ b
        → slice_index_or (sums_in table) (number_in table.own name) nothing ≡ under_name table name
    by true known =
        get_or-map (under_name table) (all_names table.own) (number_in table.own name) [] nothing
        (first-within (same_text name) (all_names table.own) (among-names table.own name known))
        ∙ ap (under_name table) (sym (name-at table.own name known))
    by false unknown =
        get_or_past (sums_in table) (number_in table.own name) nothing
        (omega (
          arith,
          length-map (all_names table.own) (under_name table),
          none-past (same_text name) (all_names table.own) (any-onto name [] (names_in table.own) ∙ unknown),
        ))
        ∙ ap (under_all table) (sym (indices-none name 0 table.own unknown))

-- what stands under a name of a table, by its number
pub under-at : (tables : List Table) (sums : List (Vec NameKinds Global)) (m : ℕ) (table : Table) (name : List ℕ)
    → slice_get tables m ≡ Some table → AreSums tables sums
    → slice_index_or (slice_index_or (map (λ (row : Vec NameKinds Global). row.items) sums) m [])
    (number_in table.own name) nothing ≡ under tables m name
under-at tables sums m table name at are =
    ap (λ rows. slice_index_or (slice_index_or rows m []) (number_in table.own name) nothing) are
    ∙ ap (λ row. slice_index_or row (number_in table.own name) nothing)
    (get_or_from_slice_get (map sums_in tables) m (sums_in table) []
    (slice_get-map sums_in tables m ∙ ap (option_map sums_in) at))
    ∙ numbered-is table name
    ∙ ap (λ t. record { all = kinds_in t name false; exported = kinds_in t name true }) (sym at)

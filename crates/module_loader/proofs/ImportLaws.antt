-- What names in a module mean, one after the other.
use Rattle.std.proofs.Common.{◌≡◌, ℕ, suc, zero, ◌+◌, ◌<◌, Bool, true, false, List, [], ◌∷◌, ◌++◌, length, map, take}
use Rattle.std.proofs.Common.{slice_get, get_or, filter_map, find, cond, refl, sym, ap, ◌∙◌, subst, arith}
use Rattle.std.proofs.Common.{Option, Some, None, option_map, is_none}
use Rattle.std.specs.List.{cons_option}
use Rattle.std.proofs.lemmas.Option.{same_Some, none-some, slice_get-map, slice_get_read}
use Rattle.case_table.specs.Lists.{with_first, firsts_onto}
use Rattle.case_table.specs.ListLaws.{firsts_onto-append, slice_get-with_first_kept}
use Rattle.mdl_syntax.specs.declared.imports.ModuleRef.{ModuleRef}
use Rattle.module_set.specs.declared.module_name.ModuleName.{ModuleName}
use Rattle.module_set.specs.Names.{same_name}
use Rattle.module_set.specs.NameLaws.{same_name-tells}
use Rattle.module_set.specs.Imports.{meant}
use Rattle.module_loader.specs.Files.{Packages, has_file}
use Rattle.module_loader.specs.inside.Importing.{PointTo, Imported}

-- the name that was put stands at its index
pub stored-name : (names : List ModuleName) (index : ℕ) (name : ModuleName) →
    (found : ModuleName) × (slice_get names index ≡ Some found) × (same_name name found ≡ true) →
    slice_get names index ≡ Some name
stored-name names index name stored =
    stored.1 ∙ ap Some (sym (same_name-tells.only name stored.0 stored.2))

-- an item of the loop among all
pub item-at : {A B : Type 0} (view : A → B) (items : List A) (all : List B) (i : ℕ) (item : A) →
    map view items ≡ all → i < length items → item ≡ get_or items i item → slice_get all i ≡ Some (view item)
item-at view items all i item same within is =
    let at = slice_get_read items (length items) i item refl within is in
    ap (λ all. slice_get all i) (sym same) ∙ (slice_get-map view items i ∙ ap (option_map view) at)

-- those up to and with the one at a place
pub take-next : {A : Type 0} (all : List A) (i : ℕ) (one : A) → slice_get all i ≡ Some one →
    take (i + 1) all ≡ take i all ++ one ∷ []
take-next [] i one at = absurd (none-some one at)
take-next (own ∷ all) zero one at = ap (λ one. one ∷ []) (same_Some own one at)
take-next (own ∷ all) (suc i) one at =
    let e : suc i + 1 ≡ suc (i + 1) = omega arith in
    ap (λ n. take n (own ∷ all)) e ∙ ap (λ more. own ∷ more) (take-next all i one at)

filter_map-append : {A B : Type 0} (h : A → Option B) (xs ys : List A) →
    filter_map h (xs ++ ys) ≡ filter_map h xs ++ filter_map h ys
filter_map-append h [] ys = refl
filter_map-append h (x ∷ xs) ys =
    ap (cons_option (h x)) (filter_map-append h xs ys) ∙ sym (cons-append (h x) (filter_map h xs) (filter_map h ys))
  where
    cons-append : {B : Type 0} (one : Option B) (xs ys : List B) → cons_option one xs ++ ys ≡ cons_option one (xs ++ ys)
    cons-append None xs ys = refl
    cons-append (Some x) xs ys = refl

find-append : {A : Type 0} (test : A → Bool) (xs : List A) (x : A) → find test xs ≡ None → test x ≡ false →
    find test (xs ++ x ∷ []) ≡ None
find-append test [] x none is = ap (λ b. cond b (Some x) None) is
find-append test (y ∷ xs) x none is = by (test y) (λ e. find-append test xs x e is) none
  where
    by : (b : Bool) → (find test xs ≡ None → find test (xs ++ x ∷ []) ≡ None) → cond b (Some y) (find test xs) ≡ None →
        cond b (Some y) (find test (xs ++ x ∷ [])) ≡ None
    by true later e = absurd (none-some y (sym e))
    by false later e = later e

-- of those in a list the first that passes, where none before it does
pub find-at : {A : Type 0} (test : A → Bool) (all : List A) (i : ℕ) (one : A) → find test (take i all) ≡ None →
    slice_get all i ≡ Some one → test one ≡ true → find test all ≡ Some one
find-at test [] i one none at is = absurd (none-some one at)
find-at test (own ∷ all) zero one none at is =
    let same = same_Some own one at in
    ap (λ b. cond b (Some own) (find test all)) (ap test same ∙ is) ∙ ap Some same
find-at test (own ∷ all) (suc i) one none at is = by (test own) (λ e. find-at test all i one e at is) none
  where
    by : (b : Bool) → (find test (take i all) ≡ None → find test all ≡ Some one) →
        cond b (Some own) (find test (take i all)) ≡ None → cond b (Some own) (find test all) ≡ Some one
    by true later e = absurd (none-some own (sym e))
    by false later e = later e

pub point-kept : (known : List ModuleName) (name : ModuleName) (names : List ModuleName) (indices : List ℕ) →
    PointTo known names indices → PointTo (with_first same_name known name) names indices
point-kept known name [] [] h = tt
point-kept known name [] (index ∷ indices) h = absurd h
point-kept known name (one ∷ names) [] h = absurd h
point-kept known name (one ∷ names) (index ∷ indices) h =
    (slice_get-with_first_kept same_name known name index one h.0, point-kept known name names indices h.1)

point-more : (known : List ModuleName) (name : ModuleName) (index : ℕ) (names : List ModuleName) (indices : List ℕ) →
    PointTo known names indices → slice_get known index ≡ Some name →
    PointTo known (names ++ name ∷ []) (indices ++ index ∷ [])
point-more known name index [] [] h at = (at, tt)
point-more known name index [] (other ∷ indices) h at = absurd h
point-more known name index (one ∷ names) [] h at = absurd h
point-more known name index (one ∷ names) (other ∷ indices) h at =
    (h.0, point-more known name index names indices h.1 at)

-- one more name that means a module
pub imported-more : (packages : Packages) (importer : ModuleName) (front : List ModuleRef) (reference : ModuleRef)
    (old mid new : List ModuleName) (indices : List ℕ) (index : ℕ) (found : ModuleName) →
    Imported packages importer front old mid indices →
    Some found ≡ meant (has_file packages) importer reference → new ≡ with_first same_name mid found →
    slice_get new index ≡ Some found →
    Imported packages importer (front ++ reference ∷ []) old new (indices ++ index ∷ [])
imported-more packages importer front reference old mid new indices index found before is made at =
    let h = meant (has_file packages) importer in
    let all : filter_map h (front ++ reference ∷ []) ≡ filter_map h front ++ found ∷ [] =
    filter_map-append h front (reference ∷ [])
    ∙ ap (λ one. filter_map h front ++ cons_option one []) (sym is) in
    let kept : PointTo new (filter_map h front) indices =
    subst (λ known. PointTo known (filter_map h front) indices) (sym made)
    (point-kept mid found (filter_map h front) indices before.each) in
    record {
      names = made ∙ (ap (λ known. with_first same_name known found) before.names
          ∙ (sym (firsts_onto-append same_name old (filter_map h front) (found ∷ []))
          ∙ ap (firsts_onto same_name old) (sym all)));
      each = subst (λ names. PointTo new names (indices ++ index ∷ [])) (sym all)
          (point-more new found index (filter_map h front) indices kept at);
      top = find-append (λ reference. is_none (h reference)) front reference before.top (ap is_none (sym is));
    }

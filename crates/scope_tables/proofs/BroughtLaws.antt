-- Laws of what a module brings.
use Rattle.std.proofs.Common.{◌≡◌, ◌∙◌, ◌++◌, ◌∷◌, ◌+◌, ◌<◌, [], ℕ, Bool, false, List, Option, Some, None, option_map}
use Rattle.std.proofs.Common.{take, length, get_or, cond, refl, sym, ap, arith, nat_lt}
use Rattle.std.specs.List.{list_any, filter_map, position, position_or_len}
use Rattle.std.proofs.lemmas.List.{append_assoc, take_more}
use Rattle.std.proofs.lemmas.List.Elements.{filter_map-append}
use Rattle.std.proofs.lemmas.List.Recursion.{is_position_or_len}
use Rattle.std.proofs.lemmas.Option.{cond_some}
use Rattle.case_table.specs.Lists.{place_of}
use Rattle.case_table.specs.ListLaws.{place_of-absent}
use Rattle.mdl_syntax.specs.declared.imports.Lead.{Lead}
use Rattle.mdl_syntax.specs.declared.imports.Lead.TheVariants as lead
use Rattle.mdl_syntax.specs.declared.imports.ModuleRef.{ModuleRef}
use Rattle.module_set.specs.declared.module_name.ModuleName.{ModuleName}
use Rattle.module_set.specs.Names.{same_name, package_of}
use Rattle.module_set.specs.Imports.{meant_in, bare, components}
use Rattle.module_set.specs.ModuleSets.{is_among}
use Rattle.scope_tables.specs.Brought.{as_list, index_meant}

-- the place of a member is its position
pub place-found : {A : Type 0} (same : A → A → Bool) (x : A) (xs : List A) (k : ℕ) → position (same x) xs ≡ Some k
    → k ≡ place_of same x xs
place-found same x xs k found =
    sym (cond_some (nat_lt (position_or_len (same x) xs) (length xs)) (position_or_len (same x) xs) k found).1
    ∙ sym (is_position_or_len (place_of same x) (same x) refl
    (λ y ys. ap (cond (same x y) 0) (omega arith)) xs)

-- that of one that is none is their number
pub place-missed : {A : Type 0} (same : A → A → Bool) (x : A) (xs : List A) → false ≡ list_any (same x) xs
    → length xs ≡ place_of same x xs
place-missed same x xs none = sym (place_of-absent same x xs (sym none))

-- what a name without a mark means
pub bare-meant : (names : List ModuleName) (importer : ModuleName) (reference : ModuleRef) (index : ℕ)
    → reference.lead ≡ lead.Bare
    → index ≡ place_of same_name (bare (is_among names) (package_of importer) (components reference)) names
    → Some index ≡ index_meant names importer reference
bare-meant names importer reference index is place =
    ap Some place
    ∙ sym (ap (λ (l : Lead). option_map (λ name. place_of same_name name names)
    (meant_in (is_among names) (package_of importer) l (components reference))) is)

-- what one more item gives
pub filter_map-more : {X Y : Type 0} (h : X → Option Y) (ys : List Y) (xs : List X) (i : ℕ) (x : X) → i < length xs
    → get_or xs i x ≡ x → (ys ++ filter_map h (take i xs)) ++ as_list (h x) ≡ ys ++ filter_map h (take (i + 1) xs)
filter_map-more {Y = Y} h ys xs i x within at =
    append_assoc ys (filter_map h (take i xs)) (as_list (h x))
    ∙ ap (λ l. ys ++ l)
    (sym (ap (filter_map h) (take_more xs i x within ∙ ap (λ one. take i xs ++ one ∷ []) at)
    ∙ filter_map-append h (take i xs) (x ∷ []) ∙ ap (λ l. filter_map h (take i xs) ++ l) (one (h x))))
  where
    one : (o : Option Y) → filter_map (λ (o : Option Y). o) (o ∷ []) ≡ as_list o
    one None = refl
    one (Some y) = refl

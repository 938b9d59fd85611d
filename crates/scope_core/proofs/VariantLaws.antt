-- No prototype is a variant.
use Rattle.std.proofs.Common.{◌≡◌, ◌∙◌, ◌++◌, ◌∷◌, ◌&&◌, not, [], ℕ, suc, zero, Bool, true, false, List}
use Rattle.std.proofs.Common.{Option, Some, None, refl, sym, slice_get, map, length}
use Rattle.std.specs.Prelude.{if◌then◌else◌}
use Rattle.std.specs.List.{list_all}
use Rattle.std.proofs.lemmas.Bool.{not-true}
use Rattle.std.proofs.lemmas.List.Folds.{list_all-append}
use Rattle.std.proofs.lemmas.Option.{none-some}
use Rattle.mdl_syntax.specs.Trees.{Tree}
use Rattle.mdl_syntax.specs.Modules.{EnumValue, Declaration, material, variant, function, structure}
use Rattle.mdl_syntax.specs.Modules.{enumeration, annotation}
use Rattle.module_set.specs.Members.{Member}
use Rattle.scope_tables.specs.declared.entity.Sort.TheVariants as sort
use Rattle.scope_tables.specs.declared.tables.Place.{Place}
use Rattle.scope_tables.specs.Entities.{Declared, is_material_form, is_material_size, function_sort}
use Rattle.scope_tables.specs.Entities.{values_from, declared, declared_from, entities_from}
use Rattle.scope_tables.specs.PreludeEntities.{prelude}
use Rattle.scope_core.specs.Standing.{is_prototype, pieces_of}
use Rattle.scope_core.specs.inside.Rounds.{declared_in, declared_at, is_based}
use Rattle.scope_tables.proofs.MemberLaws.{all-at}

abbrev is_either : Declared → Bool
is_either one = not (is_prototype one.entity.sort && is_based one.takes)

values-are : (m d p : ℕ) (exported : Bool) (group : List ℕ) (values : List EnumValue)
    → list_all is_either (values_from m d p exported group values) ≡ true
values-are m d p exported group [] = refl
values-are m d p exported group (value ∷ values) = values-are m d (suc p) exported group values

declaration-is : (m d : ℕ) (one : Declaration) → list_all is_either (declared m d one) ≡ true
declaration-is m d (material exported name parameters annotations body span) = refl
declaration-is m d (variant exported ty name annotations base given span) =
    by (is_material_form ty.name.form && is_material_size ty.size)
  where
    by : (b : Bool) → (not (is_prototype (if b then sort.Material else sort.Function) && true) && true) ≡ true
    by true = refl
    by false = refl
declaration-is m d (function exported ty name parameters frequency annotations body span) = by body
  where
    by : (body : Option Tree) → (not (is_prototype (function_sort body) && false) && true) ≡ true
    by None = refl
    by (Some body) = refl
declaration-is m d (structure exported name annotations fields span) = refl
declaration-is m d (enumeration exported name annotations values span) = values-are m d 1 exported name.text values
declaration-is m d (annotation exported name parameters annotations span) = refl

declared-either : (m d : ℕ) (all : List Declaration) → list_all is_either (declared_from m d all) ≡ true
declared-either m d [] = refl
declared-either m d (one ∷ all) =
    list_all-append is_either (declared m d one) (declared_from m (suc d) all)
    ∙ (λ i. declaration-is m d one i && declared-either m (suc d) all i)

each-either : (count m : ℕ) (all : List (List Declaration)) (n i : ℕ) (one : Declared)
    → declared_in (slice_get (entities_from m all ++ prelude count ∷ []) n) i ≡ Some one → is_either one ≡ true
each-either count m [] zero i one at = all-at is_either (prelude count) i one refl at
each-either count m [] (suc n) i one at = absurd (none-some one at)
each-either count m (own ∷ all) zero i one at =
    all-at is_either (declared_from m 0 own) i one (declared-either m 0 own) at
each-either count m (own ∷ all) (suc n) i one at = each-either count (suc m) all n i one at

-- for `Describes` of the entities of a set
pub prototypes-are : (members : List Member) (place : Place) (one : Declared)
    → declared_at (pieces_of members) place ≡ Some one → is_prototype one.entity.sort ≡ true
    → is_based one.takes ≡ false
prototypes-are members place one at is =
    (λ i. sym is i && is_based one.takes)
    ∙ not-true (is_prototype one.entity.sort && is_based one.takes)
    (each-either (length members) 0 (map (λ (member : Member). member.tree.declarations) members)
    place.«module» place.index one at)

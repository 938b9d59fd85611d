-- Laws of the sorts of entities.
use Rattle.std.proofs.Common.{◌≡◌, ◌∙◌, ◌++◌, ◌∷◌, ◌&&◌, ◌||◌, not, [], Bool, true, false, List, map, refl, sym, ap}
use Rattle.std.specs.List.{list_all}
use Rattle.std.proofs.Math.Bool.{or-false, or_assoc, and-false}
use Rattle.scope_tables.specs.declared.entity.Entity.{Entity}
use Rattle.scope_tables.specs.declared.entity.Sort.{Sort}
use Rattle.scope_tables.specs.declared.entity.Sort.TheVariants as sort
use Rattle.scope_tables.specs.declared.kinds.Kinds.{Kinds}
use Rattle.scope_tables.specs.Entities.{Declared}
use Rattle.scope_tables.specs.Visible.{is_function, is_annotation, are_overloads}
use Rattle.scope_tables.specs.inside.Kinds.{kinds_of, both, kinds_among, go_together}

-- one more entity
pub kinds-push : (entities : List Entity) (entity : Entity)
    → both (kinds_among entities) (kinds_of entity.sort) ≡ kinds_among (entities ++ entity ∷ [])
kinds-push [] entity = λ k. record {
  functions = sym (or-false (is_function entity.sort)) k;
  annotations = sym (or-false (is_annotation entity.sort)) k;
  others = sym (or-false (not (is_function entity.sort || is_annotation entity.sort))) k;
}
kinds-push (one ∷ entities) entity =
    (λ k. record {
      functions = or_assoc (is_function one.sort) (kinds_among entities).functions (is_function entity.sort) k;
      annotations = or_assoc (is_annotation one.sort) (kinds_among entities).annotations (is_annotation entity.sort) k;
      others = or_assoc (not (is_function one.sort || is_annotation one.sort)) (kinds_among entities).others
          (not (is_function entity.sort || is_annotation entity.sort)) k;
    })
    ∙ ap (both (kinds_of one.sort)) (kinds-push entities entity)

abbrev pub names_of : List Declared → List Entity
names_of entities = map (λ (one : Declared). one.entity) entities

abbrev all_functions : List Declared → Bool
all_functions entities = list_all (λ (one : Declared). is_function one.entity.sort) entities

abbrev all_annotations : List Declared → Bool
all_annotations entities = list_all (λ (one : Declared). is_annotation one.entity.sort) entities

only-functions : (entities : List Declared)
    → (not (kinds_among (names_of entities)).others && not (kinds_among (names_of entities)).annotations)
    ≡ all_functions entities
only-functions [] = refl
only-functions (one ∷ entities) = by one.entity.sort (only-functions entities)
  where
    by : (sort : Sort)
        → (not (kinds_among (names_of entities)).others && not (kinds_among (names_of entities)).annotations)
        ≡ all_functions entities
        → (not (not (is_function sort || is_annotation sort) || (kinds_among (names_of entities)).others)
        && not (is_annotation sort || (kinds_among (names_of entities)).annotations))
        ≡ (is_function sort && all_functions entities)
    by sort.Material later = refl
    by sort.Function later = later
    by sort.Intrinsic later = later
    by sort.Struct later = refl
    by sort.Enum later = refl
    by sort.EnumValue later = refl
    by sort.Annotation later = and-false (not (kinds_among (names_of entities)).others)

only-annotations : (entities : List Declared)
    → (not (kinds_among (names_of entities)).others && not (kinds_among (names_of entities)).functions)
    ≡ all_annotations entities
only-annotations [] = refl
only-annotations (one ∷ entities) = by one.entity.sort (only-annotations entities)
  where
    by : (sort : Sort)
        → (not (kinds_among (names_of entities)).others && not (kinds_among (names_of entities)).functions)
        ≡ all_annotations entities
        → (not (not (is_function sort || is_annotation sort) || (kinds_among (names_of entities)).others)
        && not (is_function sort || (kinds_among (names_of entities)).functions))
        ≡ (is_annotation sort && all_annotations entities)
    by sort.Material later = refl
    by sort.Function later = and-false (not (kinds_among (names_of entities)).others)
    by sort.Intrinsic later = and-false (not (kinds_among (names_of entities)).others)
    by sort.Struct later = refl
    by sort.Enum later = refl
    by sort.EnumValue later = refl
    by sort.Annotation later = later

-- sorts go together exactly where the entities are overloads
pub overloads-are : (entities : List Declared)
    → go_together (kinds_among (names_of entities)) ≡ are_overloads entities
overloads-are [] = refl
overloads-are (one ∷ entities) = by one.entity.sort
  where
    rest : Kinds
    rest = kinds_among (names_of entities)

    or-none : (b : Bool) → b ≡ (b || false)
    or-none true = refl
    or-none false = refl

    by : (sort : Sort)
        → (not (not (is_function sort || is_annotation sort) || rest.others)
        && not ((is_function sort || rest.functions) && (is_annotation sort || rest.annotations)))
        ≡ ((is_function sort && all_functions entities) || (is_annotation sort && all_annotations entities))
    by sort.Material = refl
    by sort.Function = only-functions entities ∙ or-none (all_functions entities)
    by sort.Intrinsic = only-functions entities ∙ or-none (all_functions entities)
    by sort.Struct = refl
    by sort.Enum = refl
    by sort.EnumValue = refl
    by sort.Annotation = swap rest.others rest.functions ∙ only-annotations entities
      where
        swap : (b c : Bool) → (not b && not (c && true)) ≡ (not b && not c)
        swap true c = refl
        swap false true = refl
        swap false false = refl

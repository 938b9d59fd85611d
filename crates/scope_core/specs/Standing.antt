-- A prototype that stands beside its definition is hidden by it.
-- Whether it is depends on the types of both; a type is found by what isn't hidden, and what a variant takes, by its
-- base, too. So both are worked out in rounds, each by the round before. Modules import each other in no circle, and
-- the bases of a variant lead to one that is none, or in a circle to nothing. So after as many rounds as there are
-- entities nothing changes.
use Rattle.std.specs.Prelude.{ℕ, zero, suc, ◌==◌, ◌&&◌, not, Bool, true, false, List, [], ◌∷◌}
use Rattle.std.specs.Prelude.{◌++◌, length}
use Rattle.std.specs.Prelude.{filter, map}
use Rattle.std.specs.List.{list_any, flat_map}
use Rattle.std.specs.Str.{bytes_eq}
use Rattle.std.specs.Cmp.Lexicographic.{pointwise}
use Rattle.type_rules.specs.declared.ty.Ty.{Ty}
use Rattle.type_rules.specs.Same.{same_type}
use Rattle.module_set.specs.Members.{Member}
use Rattle.module_set.specs.declared.module_name.ModuleName.{ModuleName}
use Rattle.scope_tables.specs.declared.entity.Sort.{Sort}
use Rattle.scope_tables.specs.declared.entity.Sort.TheVariants as sort
use Rattle.scope_tables.specs.Entities.{Declared, entities_from}
use Rattle.scope_tables.specs.PreludeEntities.{prelude}
use Rattle.scope_tables.specs.Brought.{brought}
use Rattle.scope_tables.specs.Visible.{World}
use Rattle.scope_tables.specs.Types.{types_in}

abbrev pub is_prototype : Sort → Bool
is_prototype sort.Intrinsic = true
is_prototype _ = false

abbrev pub is_definition : Sort → Bool
is_definition sort.Function = true
is_definition _ = false

abbrev pub share_name : Declared → Declared → Bool
share_name one other = (one.entity.id.module == other.entity.id.module) && bytes_eq one.entity.name other.entity.name

abbrev pub defines : (Declared → List Ty) → Declared → Declared → Bool
defines types prototype other =
    is_definition other.entity.sort
    && (share_name prototype other && pointwise same_type (types prototype) (types other))

-- it isn't hidden by one of these
abbrev pub stands : (Declared → List Ty) → List Declared → Declared → Bool
stands types entities one = not (is_prototype one.entity.sort && list_any (defines types one) entities)

-- what an entity takes, after so many rounds
abbrev pub types_after : World → List Declared → ℕ → Declared → List Ty
types_after world all zero one = []
types_after world all (suc round) one =
    types_in world (filter (stands (types_after world all round) all) all) (types_after world all round)
    one.entity.id.module one.takes

-- those that stand, after so many rounds
abbrev pub standing_after : World → List Declared → ℕ → List Declared
standing_after world all round = filter (stands (types_after world all round) all) all

-- the entities of each module, and behind them those of the prelude
abbrev pub pieces_of : List Member → List (List Declared)
pieces_of members =
    entities_from 0 (map (λ (member : Member). member.tree.declarations) members) ++ prelude (length members) ∷ []

abbrev pub entities_of : List Member → List Declared
entities_of members = flat_map (λ piece. piece) (pieces_of members)

abbrev pub world_of : List ModuleName → List Member → World
world_of names members = record { names = names; brings = map (brought names) members }

-- what the entities of a set take, and those that stand
abbrev pub types_of : List ModuleName → List Member → Declared → List Ty
types_of names members = types_after (world_of names members) (entities_of members) (length (entities_of members))

abbrev pub standing : List ModuleName → List Member → List Declared
standing names members =
    standing_after (world_of names members) (entities_of members) (length (entities_of members))

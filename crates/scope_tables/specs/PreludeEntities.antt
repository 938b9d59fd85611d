-- What each module sees without an import. It stands behind the modules of a set, as one more.
use Rattle.std.specs.Prelude.{ℕ, true, List, [], ◌∷◌, ◌++◌, codes, map}
use Rattle.type_rules.specs.Types.{plain}
use Rattle.scope_tables.specs.declared.entity.EntityId.{EntityId}
use Rattle.scope_tables.specs.declared.entity.Sort.{Sort}
use Rattle.scope_tables.specs.declared.entity.Sort.TheVariants as sort
use Rattle.scope_tables.specs.Entities.{Declared, numbered, known}

-- by the names of the types that it takes, which are builtin or stand here
abbrev pub given : EntityId → Sort → List ℕ → List (List ℕ) → Declared
given id of name types = record {
  entity = record { id = id; name = name; group = name; sort = of; exported = true };
  takes = known (map plain types);
  at = 0;
}

abbrev pub modes : ℕ → List Declared
modes m =
    given (numbered m 0 0) sort.Enum (codes "intensity_mode") []
    ∷ given (numbered m 0 1) sort.EnumValue (codes "intensity_radiant_exitance") []
    ∷ given (numbered m 0 2) sort.EnumValue (codes "intensity_power") [] ∷ []

abbrev pub structs : ℕ → List Declared
structs m =
    given (numbered m 1 0) sort.Struct (codes "material_emission")
    (codes "edf" ∷ codes "color" ∷ codes "intensity_mode" ∷ [])
    ∷ given (numbered m 2 0) sort.Struct (codes "material_surface")
    (codes "bsdf" ∷ codes "material_emission" ∷ [])
    ∷ given (numbered m 3 0) sort.Struct (codes "material_volume")
    (codes "vdf" ∷ codes "color" ∷ codes "color" ∷ []) ∷ []

abbrev pub large_structs : ℕ → List Declared
large_structs m =
    given (numbered m 4 0) sort.Struct (codes "material_geometry")
    (codes "float3" ∷ codes "float" ∷ codes "float3" ∷ [])
    ∷ given (numbered m 5 0) sort.Struct (codes "material")
    (codes "bool" ∷ codes "material_surface" ∷ codes "material_surface" ∷ codes "color"
    ∷ codes "material_volume" ∷ codes "material_geometry" ∷ codes "hair_bsdf" ∷ []) ∷ []

abbrev pub normal : ℕ → List Declared
normal m = given (numbered m 6 0) sort.Intrinsic (codes "state_normal") [] ∷ []

-- in the order of their declaration, for so many modules
abbrev pub prelude : ℕ → List Declared
prelude m = modes m ++ (structs m ++ (large_structs m ++ normal m))

-- The names that every module sees without an import.
use Rattle.std.specs.Prelude.{ℕ, List, [], ◌∷◌, codes}

abbrev pub prelude_names : List (List ℕ)
prelude_names =
    codes "intensity_mode" ∷ codes "intensity_radiant_exitance" ∷ codes "intensity_power"
    ∷ codes "material_emission" ∷ codes "material_surface" ∷ codes "material_volume"
    ∷ codes "material_geometry" ∷ codes "material" ∷ codes "state_normal" ∷ []

-- The faults of modules, as they are looked for.
use Rattle.std.specs.Prelude.{ℕ, suc, List, [], ◌∷◌, ◌++◌, Option, Some, None, slice_index_or}
use Rattle.std.specs.List.{flat_map}
use Rattle.mdl_syntax.specs.declared.modules.Module.{Module}
use Rattle.mdl_syntax.specs.Modules.{module_of}
use Rattle.scope_tables.specs.declared.declared.Written.{Written}
use Rattle.scope_core.specs.declared.fault.ScopeFault.{ScopeFault}
use Rattle.scope_tables.specs.Entities.{Declared}
use Rattle.scope_tables.specs.Brought.{Bringing}
use Rattle.scope_tables.specs.Visible.{World}
use Rattle.scope_core.specs.ScopeFaults.{import_faults, twice_among, parameter_faults}
use Rattle.scope_core.specs.inside.Rounds.{last_types, last_standing}

abbrev pub places_in : Option Written → List ℕ
places_in None = []
places_in (Some written) = written.places.items

-- those of one module
abbrev pub faults_of : World → List (List Declared) → List Bringing → ℕ → Module → List ScopeFault
faults_of world pieces brought m one =
    import_faults (last_standing world pieces) m [] brought
    ++ (twice_among (last_types world pieces) [] (slice_index_or pieces m [])
    ++ flat_map (parameter_faults m) (module_of one).declarations)

-- those of modules, from this index on
abbrev pub faults_in : World → List (List Declared) → List (List Bringing) → ℕ → List Module → List ScopeFault
faults_in world pieces brought m [] = []
faults_in world pieces brought m (one ∷ modules) =
    faults_of world pieces (slice_index_or brought m []) m one ++ faults_in world pieces brought (suc m) modules

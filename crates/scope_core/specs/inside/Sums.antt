-- What stands under the names of tables.
use Rattle.std.specs.Prelude.{◌≡◌, ℕ, ◌&&◌, ◌||◌, not, Bool, true, false, List, [], ◌∷◌, map}
use Rattle.std.specs.Prelude.{Option, Some, None, if◌then◌else◌, slice_get}
use Rattle.std.specs.declared.vec.Vec.{Vec}
use Rattle.std.specs.declared.alloc.Global.{Global}
use Rattle.case_table.specs.Lists.{firsts}
use Rattle.scope_tables.specs.declared.entity.Entity.{Entity}
use Rattle.scope_tables.specs.declared.kinds.Kinds.{Kinds}
use Rattle.scope_core.specs.declared.sums.NameKinds.{NameKinds}
use Rattle.scope_tables.specs.declared.tables.Table.{Table}
use Rattle.scope_tables.specs.inside.Finding.{is_hidden}
use Rattle.scope_tables.specs.inside.Kinds.{no_kinds, kinds_of, both}
use Rattle.scope_tables.specs.inside.Owning.{same_text, names_in, indices_of}

-- the sort of what stands at an index, if it counts
abbrev pub kinds_if : Table → Bool → ℕ → Option Entity → Kinds
kinds_if table exported i None = no_kinds
kinds_if table exported i (Some entity) =
    if not (is_hidden table i) && (not exported || entity.exported) then kinds_of entity.sort else no_kinds

abbrev pub kinds_there : Table → Bool → ℕ → Kinds
kinds_there table exported i = kinds_if table exported i (slice_get table.own i)

abbrev pub kinds_of_all : Table → Bool → List ℕ → Kinds
kinds_of_all table exported [] = no_kinds
kinds_of_all table exported (i ∷ more) = both (kinds_there table exported i) (kinds_of_all table exported more)

abbrev pub kinds_in : Option Table → List ℕ → Bool → Kinds
kinds_in None name exported = no_kinds
kinds_in (Some table) name exported = kinds_of_all table exported (indices_of table.own name)

-- the sorts of what stands under a name of a module, or of what is exported of it
abbrev pub kinds_under : List Table → ℕ → List ℕ → Bool → Kinds
kinds_under tables m name exported = kinds_in (slice_get tables m) name exported

abbrev pub under : List Table → ℕ → List ℕ → NameKinds
under tables m name = record { all = kinds_under tables m name false; exported = kinds_under tables m name true }

abbrev pub nothing : NameKinds
nothing = record { all = no_kinds; exported = no_kinds }

abbrev pub under_all : Table → List ℕ → NameKinds
under_all table indices = record { all = kinds_of_all table false indices; exported = kinds_of_all table true indices }

-- what stands under each name of a table, in the order in which names first stand
abbrev pub sums_in : Table → List NameKinds
sums_in table =
    map (λ (name : List ℕ). under_all table (indices_of table.own name)) (firsts same_text (names_in table.own))

abbrev pub AreSums : List Table → List (Vec NameKinds Global) → Type 0
AreSums tables sums = map (λ (row : Vec NameKinds Global). row.items) sums ≡ map sums_in tables

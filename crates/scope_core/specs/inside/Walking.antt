-- The walk from a variant by the bases that variants may have.
use Rattle.std.specs.Prelude.{◌≡◌, ℕ, suc, ◌+◌, ◌<◌, ◌==◌, ◌||◌, not, Bool, true, false, List, [], ◌∷◌, Option}
use Rattle.std.specs.Prelude.{Some, None, length, slice_get, slice_set, slice_index_or, if◌then◌else◌}
use Rattle.std.specs.List.{list_any}
use Rattle.scope_tables.specs.declared.declared.Written.{Written}
use Rattle.scope_core.specs.declared.settled.Settled.{Settled}
use Rattle.scope_core.specs.declared.settled.Scene.{Scene}
use Rattle.scope_tables.specs.declared.tables.Table.{Table}
use Rattle.scope_tables.specs.declared.tables.Place.{Place}
use Rattle.scope_tables.specs.Entities.{Declared}
use Rattle.scope_tables.specs.Visible.{World}
use Rattle.scope_tables.specs.inside.Finding.{placed}
use Rattle.scope_core.specs.inside.Settling.{same_place, takes_at, next_of}
use Rattle.scope_core.specs.inside.Rounds.{declared_at, is_settled, Describes, Settles, IsReady, Stays}
use Rattle.scope_core.specs.inside.Rounds.{WrittenAreSettled}

-- an entity of a module has another as the base that it may have
pub record IsStep (world : World) (pieces : List (List Declared)) (tables : List Table) (written : List Written)
    (m : ℕ) (place next : Place) : Type 0 where
  pub inside : place.«module» ≡ m
  pub one : Declared
  pub at : declared_at pieces place ≡ Some one
  pub leads : next_of world.names tables m (takes_at written place) ≡ Some next

-- a path leads from a place to another
abbrev pub Leads : World → List (List Declared) → List Table → List Written → ℕ → Place → List Place → Place
    → Type 0
Leads world pieces tables written m from [] to = from ≡ to
Leads world pieces tables written m from (place ∷ path) to =
    (place ≡ from) × (next : Place) × IsStep world pieces tables written m place next
    × Leads world pieces tables written m next path to

abbrev pub is_on : List Place → Place → Bool
is_on path place = list_any (same_place place) path

-- a path leads to an entity that is of the module or settled, or, where no step is left, to one that is settled
abbrev pub Reaches : World → List (List Declared) → List Written → ℕ → Place → List Place → Option Place → Settled
    → Type 0
Reaches world pieces written m from path None settled =
    (to : Place) × Leads world pieces settled.tables.items written m from path to
    × (is_settled settled.taken.items to ≡ true)
Reaches world pieces written m from path (Some to) settled =
    (one : Declared) × Leads world pieces settled.tables.items written m from path to
    × (declared_at pieces to ≡ Some one) × (((to.«module» == m) || is_settled settled.taken.items to) ≡ true)

-- on the way of a walk: what was begun is settled or on the path
pub record IsWay (world : World) (pieces : List (List Declared)) (closed : List ℕ) (scene : Scene) (m : ℕ)
    (from : Place) (begun : List Bool) (path : List Place) (next : Option Place) (settled : Settled) : Type 0 where
  pub settles : Settles world pieces closed settled
  pub written : WrittenAreSettled pieces m settled.taken.items
  pub begun_are : (i : ℕ) → slice_index_or begun i false ≡ true
      → (is_settled settled.taken.items (placed m i) || is_on path (placed m i)) ≡ true
  pub long : (piece : List Declared) → slice_get pieces m ≡ Some piece → length begun ≡ length piece
  pub reaches : Reaches world pieces scene.written.now m from path next settled

-- a walk goes on from a place to another, and none where it ends
pub record Walks (scene : Scene) (begun : List Bool) (path : List Place) (now : Option Place) (old : Settled)
    (after : List Bool) (longer : List Place) (next : Option Place) (new : Settled) : Type 0 where
  pub stays : Stays old new
  pub long : length after ≡ length begun
  pub walks : (world : World) (pieces : List (List Declared)) (closed : List ℕ) (m : ℕ) (from : Place)
      → Describes world pieces scene → IsReady world closed m
      → IsWay world pieces closed scene m from begun path now old
      → IsWay world pieces closed scene m from after longer next new

-- the steps that are left
abbrev pub unbegun : List Bool → ℕ
unbegun [] = 0
unbegun (begun ∷ more) = (if begun then 0 else 1) + unbegun more

abbrev pub left : List Bool → Option Place → ℕ
left begun None = unbegun begun
left begun (Some place) = suc (unbegun begun)

-- one step of a walk
pub record Follows (scene : Scene) (begun : List Bool) (path : List Place) (current : Place) (old : Settled)
    (after : List Bool) (longer : List Place) (next : Option Place) (new : Settled) : Type 0 where
  pub walks : Walks scene begun path (Some current) old after longer next new
  pub fewer : left after next < left begun (Some current)

-- an entity is noted as begun, unless it was before
pub record Begins (begun : List Bool) (index : ℕ) (fresh : Bool) (after : List Bool) : Type 0 where
  pub after_is : after ≡ slice_set begun index true
  pub fresh_is : fresh ≡ not (slice_index_or begun index true)

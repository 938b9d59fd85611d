-- What is known of entities while modules are settled, one behind those that it imports.
use Rattle.std.specs.Prelude.{◌≡◌, ℕ, suc, ◌+◌, ◌<◌, ◌≤◌, ◌==◌, ◌&&◌, ◌||◌, not, Bool, true, false, List, []}
use Rattle.std.specs.Prelude.{◌∷◌, ◌++◌, Option, Some, None}
use Rattle.std.specs.Prelude.{map, filter, length, slice_get, slice_index_or}
use Rattle.std.specs.List.{list_any, list_all, flat_map}
use Rattle.std.specs.declared.vec.Vec.{Vec}
use Rattle.std.specs.declared.alloc.Global.{Global}
use Rattle.type_rules.specs.declared.ty.Ty.{Ty}
use Rattle.scope_tables.specs.declared.declared.Takes as held_takes
use Rattle.scope_core.specs.declared.settled.Settled.{Settled}
use Rattle.scope_core.specs.declared.settled.Scene.{Scene}
use Rattle.scope_tables.specs.declared.tables.Table.{Table}
use Rattle.scope_tables.specs.declared.tables.Place.{Place}
use Rattle.scope_tables.specs.Entities.{Declared, Takes, listed, known, based}
use Rattle.scope_tables.specs.PreludeEntities.{prelude}
use Rattle.scope_tables.specs.Brought.{Bringing}
use Rattle.scope_tables.specs.Visible.{World, brought_at}
use Rattle.scope_core.specs.Standing.{is_prototype, share_name, stands, types_after, standing_after}
use Rattle.scope_tables.specs.inside.Order.{is_among, IsOrder}
use Rattle.scope_tables.specs.inside.Finding.{placed, is_hidden}
use Rattle.scope_core.specs.inside.Holding.{Hold}
use Rattle.scope_tables.specs.inside.Reaching.{froms}
use Rattle.scope_tables.specs.inside.Pieces.{takes_of}
use Rattle.scope_core.specs.inside.Scoping.{AreWritten}
use Rattle.scope_core.specs.inside.Sums.{AreSums}
use Rattle.scope_core.specs.inside.Settling.{taken_at, takes_at, next_of}

-- the entity at a place
abbrev pub declared_in : Option (List Declared) → ℕ → Option Declared
declared_in None i = None
declared_in (Some piece) i = slice_get piece i

abbrev pub declared_at : List (List Declared) → Place → Option Declared
declared_at pieces place = declared_in (slice_get pieces place.«module») place.index

abbrev pub entities_in : List (List Declared) → List Declared
entities_in pieces = flat_map (λ piece. piece) pieces

-- how many entities are settled
abbrev pub settled_in : List (Option ℕ) → ℕ
settled_in [] = 0
settled_in (None ∷ more) = settled_in more
settled_in (Some number ∷ more) = suc (settled_in more)

abbrev pub settled_count : List (Vec (Option ℕ) Global) → ℕ
settled_count [] = 0
settled_count (taken ∷ more) = settled_in taken.items + settled_count more

abbrev pub is_known_number : Option ℕ → Bool
is_known_number None = false
is_known_number (Some number) = true

abbrev pub is_settled : List (Vec (Option ℕ) Global) → Place → Bool
is_settled taken place = is_known_number (taken_at taken place)

-- the list of what is settled is what it takes from now on. Each round settles one entity at least
pub record AreKnown (world : World) (pieces : List (List Declared)) (keys : List (List Ty))
    (taken : List (Vec (Option ℕ) Global)) : Type 0 where
  pub apart : (i j : ℕ) → i < length keys → j < length keys → slice_index_or keys i [] ≡ slice_index_or keys j []
      → i ≡ j
  pub within : (place : Place) (number : ℕ) → taken_at taken place ≡ Some number → number < length keys
  pub known : (place : Place) (one : Declared) (number k : ℕ) → declared_at pieces place ≡ Some one
      → taken_at taken place ≡ Some number → settled_count taken ≤ k
      → types_after world (entities_in pieces) k one ≡ slice_index_or keys number []

-- all of a module is settled, and hidden is what doesn't stand from now on
pub record IsClosed (world : World) (pieces : List (List Declared)) (tables : List Table)
    (taken : List (Vec (Option ℕ) Global)) (m : ℕ) : Type 0 where
  pub settled : (i : ℕ) (one : Declared) → declared_at pieces (placed m i) ≡ Some one
      → is_settled taken (placed m i) ≡ true
  pub hidden : (i k : ℕ) (one : Declared) (table : Table) → slice_get tables m ≡ Some table
      → declared_at pieces (placed m i) ≡ Some one → settled_count taken ≤ k
      → is_hidden table i ≡ not (stands (types_after world (entities_in pieces) k) (entities_in pieces) one)

-- some modules are closed; of the others nothing is hidden
pub record Settles (world : World) (pieces : List (List Declared)) (closed : List ℕ) (settled : Settled) : Type 0 where
  pub hold : Hold world settled.tables.items pieces
  pub long : map (λ (row : Vec (Option ℕ) Global). length row.items) settled.taken.items ≡ map length pieces
  pub known : AreKnown world pieces settled.lists.keys settled.taken.items
  pub closed_are : (m : ℕ) → is_among closed m ≡ true
      → IsClosed world pieces settled.tables.items settled.taken.items m
  pub open_are : (m : ℕ) (table : Table) → is_among closed m ≡ false → slice_get settled.tables.items m ≡ Some table
      → list_any (λ hidden. hidden) table.hidden.items ≡ false

abbrev pub is_based : Takes → Bool
is_based (listed trees) = false
is_based (known types) = false
is_based (based name) = true

-- what is to be settled is what is written of these entities. No prototype is a variant
pub record Describes (world : World) (pieces : List (List Declared)) (scene : Scene) : Type 0 where
  pub names : scene.names.now ≡ world.names
  pub written : AreWritten pieces scene.written.now
  pub given : slice_get pieces (length world.names) ≡ Some (prelude (length world.names))
  pub prototypes : (place : Place) (one : Declared) → declared_at pieces place ≡ Some one
      → is_prototype one.entity.sort ≡ true → is_based one.takes ≡ false

-- a module isn't closed, and all that it sees of others is
pub record CanSettle (world : World) (closed : List ℕ) (m : ℕ) : Type 0 where
  pub within : m < length world.names
  pub fresh : is_among closed m ≡ false
  pub given : is_among closed (length world.names) ≡ true
  pub imports : list_all (λ (bringing : Bringing). is_among closed bringing.from) (brought_at world m) ≡ true

-- the prelude sees nothing of others
pub record IsReady (world : World) (closed : List ℕ) (m : ℕ) : Type 0 where
  pub can : (m == length world.names) ≡ false → CanSettle world closed m

-- what was settled stays so, and nothing is hidden or shown
pub record Stays (old new : Settled) : Type 0 where
  pub tables : new.tables ≡ old.tables
  pub kept : (place : Place) (number : ℕ) → taken_at old.taken.items place ≡ Some number
      → taken_at new.taken.items place ≡ Some number

-- in its own module an entity doesn't stand in a round
abbrev pub is_out : World → List (List Declared) → ℕ → ℕ → Declared → Bool
is_out world pieces m k one =
    (one.entity.id.module == m) && not (stands (types_after world (entities_in pieces) k) (entities_in pieces) one)

-- what a name finds in a module that is settled: at places, before anything of the module is hidden, and in a round
pub record FindsIn (world : World) (pieces : List (List Declared)) (closed : List ℕ) (m k : ℕ) (places : List Place)
    (first later : List Declared) : Type 0 where
  pub placed_are : map (declared_at pieces) places ≡ map Some first
  pub later_are : later ≡ filter (λ one. not (is_out world pieces m k one)) first
  pub named : (i j : ℕ) (one other : Declared) → slice_get first i ≡ Some one
      → slice_get (entities_in pieces) j ≡ Some other → (one.entity.id.module == m) ≡ true
      → share_name one other ≡ true → (h : ℕ) × (slice_get first h ≡ Some other)
  pub inside : (i : ℕ) (one : Declared) → slice_get first i ≡ Some one
      → ((one.entity.id.module == m) || is_among closed one.entity.id.module) ≡ true

-- an entity is settled by this list, which has to be what it takes in each round from the next one on
pub record SettlesBy (place : Place) (types : List Ty) (old new : Settled) : Type 0 where
  pub stays : Stays old new
  pub settles : (world : World) (pieces : List (List Declared)) (closed : List ℕ) (one : Declared)
      → Settles world pieces closed old → declared_at pieces place ≡ Some one
      → ((k : ℕ) → settled_count old.taken.items ≤ k → types_after world (entities_in pieces) (suc k) one ≡ types)
      → Settles world pieces closed new × (is_settled new.taken.items place ≡ true)

-- what is written of an entity settles it, unless that is a variant
pub record SettlesWritten (scene : Scene) (place : Place) (takes : held_takes.Takes) (old new : Settled) : Type 0 where
  pub stays : Stays old new
  pub settles : (world : World) (pieces : List (List Declared)) (closed : List ℕ) (one : Declared)
      → Describes world pieces scene → Settles world pieces closed old → IsReady world closed place.«module»
      → declared_at pieces place ≡ Some one → takes_of takes ≡ one.takes
      → Settles world pieces closed new × (is_based one.takes ≡ false → is_settled new.taken.items place ≡ true)

-- what isn't a variant in a module is settled
pub record WrittenAreSettled (pieces : List (List Declared)) (m : ℕ)
    (taken : List (Vec (Option ℕ) Global)) : Type 0 where
  pub settled : (i : ℕ) (one : Declared) → declared_at pieces (placed m i) ≡ Some one → is_based one.takes ≡ false
      → is_settled taken (placed m i) ≡ true

-- the variants that were begun are settled
pub record BegunAreSettled (m : ℕ) (begun : List Bool) (taken : List (Vec (Option ℕ) Global)) : Type 0 where
  pub settled : (i : ℕ) → slice_index_or begun i false ≡ true → is_settled taken (placed m i) ≡ true

-- a variant whose base is settled is settled
pub record SettlesBased (scene : Scene) (place : Place) (old new : Settled) : Type 0 where
  pub stays : Stays old new
  pub settles : (world : World) (pieces : List (List Declared)) (closed : List ℕ) (one : Declared) (base : Place)
      → Describes world pieces scene → Settles world pieces closed old → CanSettle world closed place.«module»
      → declared_at pieces place ≡ Some one → WrittenAreSettled pieces place.«module» old.taken.items
      → next_of world.names old.tables.items place.«module» (takes_at scene.written.now place) ≡ Some base
      → is_settled old.taken.items base ≡ true
      → Settles world pieces closed new × (is_settled new.taken.items place ≡ true)

-- a variant is settled, and what it leads to in its module
pub record SettlesVariant (scene : Scene) (begun : List Bool) (place : Place) (old : Settled) (after : List Bool)
    (new : Settled) : Type 0 where
  pub stays : Stays old new
  pub long : length after ≡ length begun
  pub settles : (world : World) (pieces : List (List Declared)) (closed : List ℕ) (one : Declared)
      → Describes world pieces scene → Settles world pieces closed old → IsReady world closed place.«module»
      → declared_at pieces place ≡ Some one → WrittenAreSettled pieces place.«module» old.taken.items
      → BegunAreSettled place.«module» begun old.taken.items
      → ((piece : List Declared) → slice_get pieces place.«module» ≡ Some piece → length begun ≡ length piece)
      → Settles world pieces closed new × BegunAreSettled place.«module» after new.taken.items
      × (is_settled new.taken.items place ≡ true)

-- a module whose entities are settled is closed
pub record Closes (m : ℕ) (old new : Settled) : Type 0 where
  pub settles : (world : World) (pieces : List (List Declared)) (closed : List ℕ)
      → Settles world pieces closed old
      → ((i : ℕ) (one : Declared) → declared_at pieces (placed m i) ≡ Some one
      → is_settled old.taken.items (placed m i) ≡ true)
      → Settles world pieces (closed ++ m ∷ []) new

-- what is written of the first entities of a module settles them
pub record SettlesListed (scene : Scene) (m : ℕ) (takes : List held_takes.Takes) (count : ℕ) (old new : Settled)
    : Type 0 where
  pub settles : (world : World) (pieces : List (List Declared)) (closed : List ℕ) (piece : List Declared)
      → Describes world pieces scene → Settles world pieces closed old → IsReady world closed m
      → slice_get pieces m ≡ Some piece → map takes_of takes ≡ map (λ (one : Declared). one.takes) piece
      → Settles world pieces closed new
      × ((i : ℕ) (one : Declared) → i < count → slice_get piece i ≡ Some one → is_based one.takes ≡ false
      → is_settled new.taken.items (placed m i) ≡ true)

-- the variants of a module are settled, and so all that it has
pub record SettlesVariants (scene : Scene) (m count : ℕ) (old new : Settled) : Type 0 where
  pub settles : (world : World) (pieces : List (List Declared)) (closed : List ℕ) (piece : List Declared)
      → Describes world pieces scene → Settles world pieces closed old → IsReady world closed m
      → slice_get pieces m ≡ Some piece → length piece ≡ count → WrittenAreSettled pieces m old.taken.items
      → Settles world pieces closed new
      × ((i : ℕ) (one : Declared) → slice_get piece i ≡ Some one → is_settled new.taken.items (placed m i) ≡ true)

pub record SettlesModule (scene : Scene) (m : ℕ) (old new : Settled) : Type 0 where
  pub settles : (world : World) (pieces : List (List Declared)) (closed : List ℕ) → Describes world pieces scene
      → Settles world pieces closed old → IsReady world closed m → Settles world pieces (closed ++ m ∷ []) new

-- what entities take in the end
abbrev pub last_types : World → List (List Declared) → Declared → List Ty
last_types world pieces = types_after world (entities_in pieces) (length (entities_in pieces))

abbrev pub last_standing : World → List (List Declared) → List Declared
last_standing world pieces = standing_after world (entities_in pieces) (length (entities_in pieces))

-- each entity is settled by what it takes, and hidden is what doesn't stand
pub record AreClosed (world : World) (pieces : List (List Declared)) (settled : Settled) : Type 0 where
  pub hold : Hold world settled.tables.items pieces
  pub apart : (i j : ℕ) → i < length settled.lists.keys → j < length settled.lists.keys
      → slice_index_or settled.lists.keys i [] ≡ slice_index_or settled.lists.keys j [] → i ≡ j
  pub taken : (place : Place) (one : Declared) → declared_at pieces place ≡ Some one
      → (number : ℕ) × (taken_at settled.taken.items place ≡ Some number)
      × (slice_get settled.lists.keys number ≡ Some (last_types world pieces one))
  pub hidden : (m i : ℕ) (one : Declared) (table : Table) → slice_get settled.tables.items m ≡ Some table
      → declared_at pieces (placed m i) ≡ Some one
      → is_hidden table i ≡ not (stands (last_types world pieces) (entities_in pieces) one)

-- and it is known what stands under each name
pub record AreSettled (world : World) (pieces : List (List Declared)) (settled : Settled) : Type 0 where
  pub closed : AreClosed world pieces settled
  pub sums : AreSums settled.tables.items settled.sums.items

-- the prelude and all modules are settled, in an order in which each stands behind those that it imports
pub record SettlesModules (scene : Scene) (order : List ℕ) (old new : Settled) : Type 0 where
  pub settles : (world : World) (pieces : List (List Declared)) → Describes world pieces scene
      → Settles world pieces [] old → length world.brings ≡ length world.names
      → IsOrder (map froms world.brings) order → AreClosed world pieces new

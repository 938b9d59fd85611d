-- What is settled while the modules are closed one by one.
use Rattle.std.specs.Prelude.{◌≡◌, ℕ, ◌<◌, true, Bool, List, [], ◌∷◌, map, length, take, slice_get, Some}
use Rattle.scope_core.specs.declared.settled.Settled.{Settled}
use Rattle.scope_core.specs.declared.settled.Scene.{Scene}
use Rattle.scope_tables.specs.Entities.{Declared}
use Rattle.scope_tables.specs.Visible.{World}
use Rattle.scope_tables.specs.inside.Finding.{placed}
use Rattle.scope_tables.specs.inside.Order.{IsOrder}
use Rattle.scope_tables.specs.inside.Reaching.{froms}
use Rattle.scope_core.specs.inside.Rounds.{Describes, Settles, IsReady, WrittenAreSettled, BegunAreSettled, is_settled}

-- the entities of a module before an index are settled
pub record VariantsSome (scene : Scene) (m count i : ℕ) (begun : List Bool) (old now : Settled) : Type 0 where
  pub long : length begun ≡ count
  pub tables : now.tables ≡ old.tables
  pub settles : (world : World) (pieces : List (List Declared)) (closed : List ℕ) (piece : List Declared)
      → Describes world pieces scene → Settles world pieces closed old → IsReady world closed m
      → slice_get pieces m ≡ Some piece → length piece ≡ count → WrittenAreSettled pieces m old.taken.items
      → Settles world pieces closed now × WrittenAreSettled pieces m now.taken.items
      × BegunAreSettled m begun now.taken.items
      × ((j : ℕ) (one : Declared) → j < i → slice_get piece j ≡ Some one
      → is_settled now.taken.items (placed m j) ≡ true)

-- the prelude is closed, and so are the first modules of an order
pub record OrderSome (scene : Scene) (order : List ℕ) (i : ℕ) (first now : Settled) : Type 0 where
  pub settles : (world : World) (pieces : List (List Declared)) → Describes world pieces scene
      → Settles world pieces [] first → length world.brings ≡ length world.names
      → IsOrder (map froms world.brings) order
      → Settles world pieces (length world.names ∷ take i order) now

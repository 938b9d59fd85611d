-- The walk over the modules, in depth first.
use Rattle.std.specs.Prelude.{◌≡◌, ℕ, suc, ◌+◌, ◌-◌, ◌<◌, ◌||◌, Bool, true, false, List, [], ◌∷◌, ◌++◌, length, map}
use Rattle.std.specs.Prelude.{take, reverse, slice_get, slice_set, slice_index_or, Some, ◌==◌, if◌then◌else◌}
use Rattle.std.specs.List.{list_all}
use Rattle.std.specs.declared.vec.Vec.{Vec}
use Rattle.std.specs.declared.alloc.Global.{Global}
use Rattle.case_table.specs.Lists.{firsts}
use Rattle.module_set.specs.Cycles.{leads}
use Rattle.scope_tables.specs.declared.order.Opened.{Opened}
use Rattle.scope_tables.specs.declared.order.Walk.{Walk}
use Rattle.scope_tables.specs.inside.Order.{is_among}

abbrev pub links_of : List (Vec ℕ Global) → List (List ℕ)
links_of all = map (λ (targets : Vec ℕ Global). targets.items) all

abbrev pub targets_of : List (List ℕ) → ℕ → List ℕ
targets_of links m = slice_index_or links m []

abbrev pub modules : List Opened → List ℕ
modules opened = map (λ (one : Opened). one.index) opened

-- a module that was opened, and one that went on by one import
abbrev pub begun : ℕ → Opened
begun m = record { index = m; next = 0 }

abbrev pub gone_on : Opened → Opened
gone_on one = record { index = one.index; next = one.next + 1 }

-- each is out of a list and stands once
abbrev pub IsFresh : List ℕ → List ℕ → Type 0
IsFresh done [] = Unit {0}
IsFresh done (m ∷ ms) = (is_among done m ≡ false) × (is_among ms m ≡ false) × IsFresh done ms

-- what an open module imports before its place is in a list
abbrev pub IsBehind : List (List ℕ) → List ℕ → Opened → Type 0
IsBehind links done one = list_all (is_among done) (take one.next (targets_of links one.index)) ≡ true

-- the modules that are open under one: each imports the one above it, and has ended with all that it imports before
abbrev pub StandUnder : List (List ℕ) → List ℕ → ℕ → List Opened → Type 0
StandUnder links done above [] = Unit {0}
StandUnder links done above (one ∷ rest) =
    (leads links one.index above ≡ true) × IsBehind links (done ++ above ∷ []) one
    × StandUnder links done one.index rest

-- the modules that are open, the last first
abbrev pub Stand : List (List ℕ) → List ℕ → List Opened → Type 0
Stand links done [] = Unit {0}
Stand links done (one ∷ rest) = IsBehind links done one × StandUnder links done one.index rest

-- what was seen is open or has ended, and what has ended stands behind all that it imports
pub record IsWalk (links : List (List ℕ)) (seen : List Bool) (stack : List Opened) (done : List ℕ) : Type 0 where
  pub long : length seen ≡ length links
  pub seen_are : (m : ℕ) → slice_index_or seen m false ≡ (is_among done m || is_among (modules stack) m)
  pub fresh : IsFresh done (modules stack)
  pub apart : firsts ◌==◌ done ≡ done
  pub behind : (k m : ℕ) → slice_get done k ≡ Some m
      → list_all (is_among (take k done)) (targets_of links m) ≡ true
  pub path : Stand links done stack

-- the steps that are left
abbrev pub unseen : List (List ℕ) → List Bool → ℕ
unseen [] seen = 0
unseen (targets ∷ links) [] = 0
unseen (targets ∷ links) (b ∷ seen) = (if b then 0 else suc (length targets)) + unseen links seen

abbrev pub left : List (List ℕ) → List Opened → ℕ
left links [] = 0
left links (one ∷ rest) = suc (length (targets_of links one.index) - one.next) + left links rest

abbrev pub visited : List Bool → ℕ → List Opened → List Opened
visited seen m opened = if slice_index_or seen m false then opened else opened ++ begun m ∷ []

-- what was seen stays so
abbrev pub Keeps : List Bool → List Bool → Type 0
Keeps old new = (m : ℕ) → slice_index_or old m false ≡ true → slice_index_or new m false ≡ true

pub record Visits (old : Walk) (m : ℕ) (new : Walk) : Type 0 where
  pub seen : new.seen.items ≡ slice_set old.seen.items m true
  pub opened : new.opened.items ≡ visited old.seen.items m old.opened.items
  pub done : new.done.items ≡ old.done.items

pub record Steps (links : List (List ℕ)) (old : Walk) (last : Opened) (new : Walk) : Type 0 where
  pub walk : IsWalk links new.seen.items (reverse new.opened.items) new.done.items
  pub fewer : unseen links new.seen.items + left links (reverse new.opened.items)
      < unseen links old.seen.items + left links (last ∷ reverse old.opened.items)
  pub kept : Keeps old.seen.items new.seen.items

pub record Ends (links : List (List ℕ)) (old new : Walk) : Type 0 where
  pub walk : IsWalk links new.seen.items [] new.done.items
  pub none : new.opened.items ≡ []
  pub kept : Keeps old.seen.items new.seen.items

-- each module before one was walked
pub record Walked (links : List (List ℕ)) (root : ℕ) (now : Walk) : Type 0 where
  pub walk : IsWalk links now.seen.items [] now.done.items
  pub none : now.opened.items ≡ []
  pub each : (m : ℕ) → m < root → slice_index_or now.seen.items m false ≡ true

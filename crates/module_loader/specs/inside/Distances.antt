-- How far modules are from one, over imports.
use Rattle.std.specs.Prelude.{◌≡◌, ℕ, zero, suc, ◌+◌, ◌≤◌, ◌<◌, ◌==◌, ◌&&◌, Bool, true, List, [], ◌∷◌, length, map}
use Rattle.std.specs.Prelude.{slice_index_or, if◌then◌else◌, Option, Some, None, ltb}
use Rattle.std.specs.List.{list_any}
use Rattle.std.specs.declared.vec.Vec.{Vec}
use Rattle.std.specs.declared.alloc.Global.{Global}
use Rattle.module_set.specs.Cycles.{leads, IsFirstCycle, HasNoCycle}
use Rattle.module_loader.specs.declared.linked.Linked.{Linked}

-- which modules import which, by their indices
abbrev pub links_of : List Linked → List (List ℕ)
links_of all = map (λ (one : Linked). one.imports.items) all

-- how many modules stand between one and another. One that is out of reach is as far as there are modules
abbrev pub away : ℕ → List ℕ → ℕ → ℕ
away far distances index = slice_index_or distances index far

-- over this import so many modules stand between
abbrev pub is_step : ℕ → ℕ → List ℕ → ℕ → ℕ → Bool
is_step far to distances zero target = target == to
is_step far to distances (suc between) target = away far distances target == between

abbrev pub near : ℕ → ℕ → List ℕ → ℕ → List ℕ → Bool
near far to distances between targets = list_any (is_step far to distances between) targets

abbrev pub reached_at : ℕ → ℕ → List ℕ → ℕ → List ℕ → ℕ → ℕ
reached_at far to distances between targets own =
    if (own == far) && near far to distances between targets then between else own

-- the distances, with those of modules from which so many stand between
abbrev pub reached : ℕ → ℕ → List ℕ → ℕ → List (List ℕ) → List ℕ → List ℕ
reached far to distances between [] owns = []
reached far to distances between (targets ∷ links) [] = []
reached far to distances between (targets ∷ links) (own ∷ owns) =
    reached_at far to distances between targets own ∷ reached far to distances between links owns

-- a module that is so far imports one that is one nearer
abbrev pub IsNext : List (List ℕ) → ℕ → List ℕ → ℕ → ℕ → Type 0
IsNext links to distances zero index = leads links index to ≡ true
IsNext links to distances (suc between) index =
    (target : ℕ) × (leads links index target ≡ true) × (away (length links) distances target ≡ between)

-- whoever imports a module that is in reach is at most one farther
pub record Nears (links : List (List ℕ)) (to : ℕ) (distances : List ℕ) (index target : ℕ) : Type 0 where
  pub there : target ≡ to → away (length links) distances index ≡ 0
  pub in_reach : away (length links) distances target < length links →
      (away (length links) distances index < length links)
      × (away (length links) distances index ≤ away (length links) distances target + 1)

-- the distances of all modules
pub record Measured (links : List (List ℕ)) (to : ℕ) (distances : List ℕ) : Type 0 where
  pub same : length distances ≡ length links
  pub closed : (index target : ℕ) → leads links index target ≡ true → Nears links to distances index target
  pub next : (index between : ℕ) → away (length links) distances index ≡ between → between < length links →
      IsNext links to distances between index

-- how many are out of reach
abbrev pub out : ℕ → List ℕ → ℕ
out far [] = 0
out far (own ∷ owns) = if own == far then suc (out far owns) else out far owns

-- the distances below a number
pub record Round (links : List (List ℕ)) (to between : ℕ) (distances : List ℕ) : Type 0 where
  pub same : length distances ≡ length links
  pub bounded : (index : ℕ) → away (length links) distances index ≤ length links
  pub below : (index : ℕ) → away (length links) distances index < length links →
      away (length links) distances index < between
  pub there : (index : ℕ) → leads links index to ≡ true → 1 ≤ between →
      away (length links) distances index ≡ 0
  pub closed : (index target : ℕ) → leads links index target ≡ true →
      away (length links) distances target + 1 < between →
      (away (length links) distances index < length links)
      × (away (length links) distances index ≤ away (length links) distances target + 1)
  pub next : (index own : ℕ) → away (length links) distances index ≡ own → own < length links →
      IsNext links to distances own index
  pub few : between + out (length links) distances ≤ length links

abbrev pub lesser : ℕ → Option ℕ → ℕ
lesser one None = one
lesser one (Some other) = if ltb other one then other else one

-- the least of the targets that are so far
abbrev pub least_next : ℕ → List ℕ → ℕ → List ℕ → Option ℕ
least_next far distances between [] = None
least_next far distances between (target ∷ targets) =
    if away far distances target == between then Some (lesser target (least_next far distances between targets))
    else least_next far distances between targets

abbrev pub way_over : (ℕ → List ℕ) → Option ℕ → List ℕ
way_over rest None = []
way_over rest (Some next) = next ∷ rest next

-- the way that goes to the least of the next modules each time
abbrev pub way_from : List (List ℕ) → List ℕ → ℕ → ℕ → List ℕ
way_from links distances zero index = []
way_from links distances (suc between) index =
    way_over (λ next. way_from links distances between next)
    (least_next (length links) distances between (slice_index_or links index []))

-- the first cycle, or none where there is none
abbrev pub IsFirstOrNone : List (List ℕ) → Option (Vec ℕ Global) → Type 0
IsFirstOrNone links (Some cycle) = IsFirstCycle links cycle.items
IsFirstOrNone links None = HasNoCycle links

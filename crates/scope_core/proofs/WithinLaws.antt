-- What a module reaches is what it brings, and itself.
use Rattle.std.proofs.Common.{◌≡◌, ◌∙◌, ◌≤◌, ◌∷◌, ◌==◌, ◌&&◌, ◌||◌, [], ℕ, suc, Bool, true, false, List}
use Rattle.std.proofs.Common.{Some, refl, sym, ap, slice_get, filter, arith}
use Rattle.std.specs.Prelude.{if◌then◌else◌}
use Rattle.std.specs.List.{list_any, list_all}
use Rattle.std.proofs.lemmas.Bool.{and_parts, or_from, false_from_ne_true, false≢true, eqb-true}
use Rattle.scope_tables.specs.declared.entity.Entity.{Entity}
use Rattle.scope_tables.specs.declared.reach.Reach.{Reach}
use Rattle.scope_tables.specs.Brought.{Bringing}
use Rattle.scope_tables.specs.Visible.{World, brought_at, lists, brings, uses, is_within}
use Rattle.scope_tables.specs.inside.Reaching.{has_it, brings_it, from_module, modules_of, Tells, AreReaches, Ascends}
use Rattle.scope_core.specs.inside.Holding.{Ordered, Agree}
use Rattle.scope_core.proofs.HoldLaws.{ordered-weaken}

any-from : (m : ℕ) (one other : Bringing → Bool) (bringings : List Bringing)
    → ((bringing : Bringing) → ((bringing.from == m) && one bringing) ≡ other bringing)
    → list_any one (from_module m bringings) ≡ list_any other bringings
any-from m one other [] agree = refl
any-from m one other (bringing ∷ bringings) agree =
    by (bringing.from == m) (agree bringing) (any-from m one other bringings agree)
  where
    by : (b : Bool) → (b && one bringing) ≡ other bringing
        → list_any one (from_module m bringings) ≡ list_any other bringings
        → list_any one (if b then bringing ∷ from_module m bringings else from_module m bringings)
        ≡ (other bringing || list_any other bringings)
    by true is later = λ k. is k || later k
    by false is later = later ∙ ap (λ b. b || list_any other bringings) is

swapped : (x y z : Bool) → (x && (y && z)) ≡ (y && (x && z))
swapped true true z = refl
swapped true false z = refl
swapped false true z = refl
swapped false false z = refl

-- of the entities of its module a reach has what is within
pub has-within : (m : ℕ) (bringings : List Bringing) (reach : Reach) (entity : Entity) (all : Bool) (world : World)
    → brought_at world m ≡ bringings → reach.own ≡ (reach.module == m)
    → Tells (from_module reach.module bringings) reach → (entity.id.module == reach.module) ≡ true
    → (has_it reach entity true all ≡ is_within all uses world m entity)
    × (has_it reach entity false all ≡ is_within all brings world m entity)
has-within m bringings reach entity all world is own tells here = (
  both true uses (tells.used entity
      ∙ any-from reach.module (λ b. b.used && lists b.names entity) (uses entity) bringings
      (λ b. swapped (b.from == reach.module) b.used (lists b.names entity)
      ∙ ap (λ n. b.used && ((b.from == n) && lists b.names entity)) (sym e))),
  both false brings (tells.imported entity
      ∙ any-from reach.module (λ b. lists b.names entity) (brings entity) bringings
      (λ b. ap (λ n. (b.from == n) && lists b.names entity) (sym e))),
)
  where
    e : entity.id.module ≡ reach.module
    e = eqb-true entity.id.module reach.module here

    both : (used : Bool) (way : Entity → Bringing → Bool)
        → brings_it reach entity used ≡ list_any (way entity) bringings
        → has_it reach entity used all ≡ is_within all way world m entity
    both used way same =
        λ k. (own ∙ ap (λ n. n == m) (sym e)) k
        || ((all || entity.exported) && (same ∙ ap (list_any (way entity)) (sym is)) k)

ordered-from : (k : ℕ) (reaches : List Reach) → ((j n : ℕ) → slice_get (modules_of reaches) j ≡ Some n → k ≤ n)
    → Ascends (modules_of reaches) → Ordered k reaches
ordered-from k [] above ascend = tt
ordered-from k (reach ∷ reaches) above ascend = (
  above 0 reach.module refl,
  ordered-from (suc reach.module) reaches (λ j n at. ascend 0 (suc j) reach.module n (omega arith) refl at)
      (λ i j m n less one other. ascend (suc i) (suc j) m n (omega (arith, less)) one other),
)

pub are-ordered : (m : ℕ) (bringings : List Bringing) (reaches : List Reach) → AreReaches m bringings reaches
    → Ordered 0 reaches
are-ordered m bringings reaches are = ordered-from 0 reaches (λ j n at. omega arith) are.ascend

-- reaches that are kept
pub ordered-kept : (k : ℕ) (keep : Reach → Bool) (reaches : List Reach) → Ordered k reaches
    → Ordered k (filter keep reaches)
ordered-kept k keep [] ordered = tt
ordered-kept k keep (reach ∷ reaches) ordered =
    by (keep reach) (ordered-kept (suc reach.module) keep reaches ordered.1)
  where
    by : (b : Bool) → Ordered (suc reach.module) (filter keep reaches)
        → Ordered k (if b then reach ∷ filter keep reaches else filter keep reaches)
    by true later = (ordered.0, later)
    by false later = ordered-weaken k (suc reach.module) (filter keep reaches) (omega (arith, ordered.0)) later

pub agree-kept : (keep : Reach → Bool) (test : Entity → Bool) (seen : Reach → Entity → Bool) (reaches : List Reach)
    → ((j : ℕ) (reach : Reach) → slice_get reaches j ≡ Some reach → keep reach ≡ true → (entity : Entity)
    → (entity.id.module == reach.module) ≡ true → seen reach entity ≡ test entity)
    → Agree test seen (filter keep reaches)
agree-kept keep test seen [] same = tt
agree-kept keep test seen (reach ∷ reaches) same =
    by (keep reach) refl (agree-kept keep test seen reaches (λ j one at. same (suc j) one at))
  where
    by : (b : Bool) → keep reach ≡ b → Agree test seen (filter keep reaches)
        → Agree test seen (if b then reach ∷ filter keep reaches else filter keep reaches)
    by true is later = ((λ entity here. same 0 reach refl is entity here), later)
    by false is later = later

-- all are kept
pub kept-all : (reaches : List Reach) → filter (λ reach. true) reaches ≡ reaches
kept-all [] = refl
kept-all (reach ∷ reaches) = ap (λ l. reach ∷ l) (kept-all reaches)

any-module : (n : ℕ) (reaches : List Reach)
    → list_any (λ m. m == n) (modules_of reaches) ≡ list_any (λ (reach : Reach). reach.module == n) reaches
any-module n [] = refl
any-module n (reach ∷ reaches) = ap (λ b. (reach.module == n) || b) (any-module n reaches)

none-brought : (entity : Entity) (way : Entity → Bringing → Bool) (modules : List ℕ) (bringings : List Bringing)
    → ((bringing : Bringing) → way entity bringing ≡ true → bringing.from ≡ entity.id.module)
    → list_all (λ (bringing : Bringing). list_any (λ m. m == bringing.from) modules) bringings ≡ true
    → list_any (λ m. m == entity.id.module) modules ≡ false → list_any (way entity) bringings ≡ false
none-brought entity way modules [] from all apart = refl
none-brought entity way modules (bringing ∷ bringings) from all apart =
    let both = and_parts (list_any (λ m. m == bringing.from) modules)
    (list_all (λ (bringing : Bringing). list_any (λ m. m == bringing.from) modules) bringings) all in
    or_from (way entity bringing) (list_any (way entity) bringings)
    (false_from_ne_true (way entity bringing)
    (λ yes. false≢true (sym apart ∙ ap (λ n. list_any (λ m. m == n) modules) (sym (from bringing yes)) ∙ both.0)))
    (none-brought entity way modules bringings from both.1 apart)

-- of a module that isn't reached nothing is within
pub none-within : (m : ℕ) (bringings : List Bringing) (reaches : List Reach) (world : World) (all : Bool)
    (way : Entity → Bringing → Bool) (entity : Entity) → brought_at world m ≡ bringings → AreReaches m bringings reaches
    → ((bringing : Bringing) → way entity bringing ≡ true → bringing.from ≡ entity.id.module)
    → list_any (λ (reach : Reach). reach.module == entity.id.module) reaches ≡ false
    → is_within all way world m entity ≡ false
none-within m bringings reaches world all way entity is are from apart =
    or_from (entity.id.module == m) ((all || entity.exported) && list_any (way entity) (brought_at world m))
    (false_from_ne_true (entity.id.module == m)
    (λ own. false≢true (sym gone
    ∙ ap (λ n. list_any (λ k. k == n) (modules_of reaches)) (eqb-true entity.id.module m own)
    ∙ are.itself)))
    (and-none (all || entity.exported) (ap (list_any (way entity)) is
    ∙ none-brought entity way (modules_of reaches) bringings from are.all gone))
  where
    gone : list_any (λ k. k == entity.id.module) (modules_of reaches) ≡ false
    gone = any-module entity.id.module reaches ∙ apart

    and-none : (b : Bool) {c : Bool} → c ≡ false → (b && c) ≡ false
    and-none true none = none
    and-none false none = refl

pub uses-from : (entity : Entity) (bringing : Bringing) → uses entity bringing ≡ true
    → bringing.from ≡ entity.id.module
uses-from entity bringing used =
    eqb-true bringing.from entity.id.module
    (and_parts (bringing.from == entity.id.module) (lists bringing.names entity)
    (and_parts bringing.used (brings entity bringing) used).1).0

pub brings-from : (entity : Entity) (bringing : Bringing) → brings entity bringing ≡ true
    → bringing.from ≡ entity.id.module
brings-from entity bringing brought =
    eqb-true bringing.from entity.id.module
    (and_parts (bringing.from == entity.id.module) (lists bringing.names entity) brought).0

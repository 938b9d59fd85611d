-- The walk from a variant by the bases that variants may have.
use Rattle.std.proofs.Common.{◌≡◌, ◌∙◌, ◌+◌, ◌<◌, ◌≤◌, ◌++◌, ◌∷◌, ◌==◌, ◌||◌, ◌&&◌, not, [], ℕ, suc, zero, Bool}
use Rattle.std.proofs.Common.{true, false, List, Option, Some, None, option_map, refl, sym, ap, subst, slice_get}
use Rattle.std.proofs.Common.{slice_set, slice_index_or, length, map, arith}
use Rattle.std.specs.Prelude.{if◌then◌else◌}
use Rattle.std.specs.Option.{is_some}
use Rattle.std.specs.declared.vec.Vec.{Vec}
use Rattle.std.specs.declared.alloc.Global.{Global}
use Rattle.std.proofs.lemmas.Bool.{false≢true, true≢false, eqb-true, eqb-false, eq-eqb}
use Rattle.std.proofs.lemmas.List.{length-set, set-get_or, get_or-set_other, get_or_default}
use Rattle.std.proofs.lemmas.List.Folds.{list_any-append}
use Rattle.std.proofs.lemmas.Option.{same_Some, none-some, slice_get-map}
use Rattle.std.proofs.Math.Bool.{or-true}
use Rattle.type_rules.specs.declared.ty.Ty.{Ty}
use Rattle.scope_tables.specs.declared.declared.Takes as held_takes
use Rattle.scope_tables.specs.declared.declared.Takes.TheVariants as held
use Rattle.scope_tables.specs.declared.declared.Written.{Written}
use Rattle.scope_core.specs.declared.settled.Settled.{Settled}
use Rattle.scope_core.specs.declared.settled.Scene.{Scene}
use Rattle.scope_tables.specs.declared.tables.Table.{Table}
use Rattle.scope_tables.specs.declared.tables.Place.{Place}
use Rattle.scope_tables.specs.Entities.{Declared, Takes, listed, known, based}
use Rattle.scope_tables.specs.Visible.{World, found}
use Rattle.scope_tables.specs.Types.{is_callable, has_deferred, based_on}
use Rattle.scope_core.specs.Standing.{is_prototype, types_after, standing_after}
use Rattle.scope_tables.specs.inside.Order.{is_among}
use Rattle.scope_tables.specs.inside.Finding.{placed, found_places}
use Rattle.scope_core.specs.inside.Holding.{open_pieces}
use Rattle.scope_tables.specs.inside.Pieces.{takes_of}
use Rattle.scope_core.specs.inside.Settling.{same_place, taken_at, takes_at, next_of}
use Rattle.scope_core.specs.inside.Rounds.{declared_in, declared_at, entities_in, settled_count, is_known_number}
use Rattle.scope_core.specs.inside.Rounds.{is_settled, Settles, Describes, CanSettle, IsReady, is_based}
use Rattle.scope_core.specs.inside.Rounds.{WrittenAreSettled, Stays, SettlesBy, SettlesBased, SettlesVariant}
use Rattle.scope_core.specs.inside.Walking.{IsStep, Leads, is_on, IsWay, Walks, unbegun, Follows}
use Rattle.scope_core.proofs.VisibleLaws.{finds-in, still-found}
use Rattle.scope_core.proofs.WrittenLaws.{is_known, can-settle}
use Rattle.scope_core.proofs.BaseLaws.{module-is, takes-is, same-place, place-itself, known-number}
use Rattle.scope_core.proofs.BasedLaws.{likely-in, declared-there, based-next, no-base-settles}

-- what was settled stays so
pub still-settled : (old new : Settled) (place : Place) → Stays old new → is_settled old.taken.items place ≡ true
    → is_settled new.taken.items place ≡ true
still-settled old new place stays is =
    let number = known-number (taken_at old.taken.items place) is in
    ap is_known_number (stays.kept place number.0 number.1)

stays-itself : (settled : Settled) → Stays settled settled
stays-itself settled = record {
  tables = refl;
  kept = λ place number is. is;
}

stays-then : (one two three : Settled) → Stays one two → Stays two three → Stays one three
stays-then one two three first second = record {
  tables = second.tables ∙ first.tables;
  kept = λ place number is. second.kept place number (first.kept place number is);
}

pub walks-then : (scene : Scene) (a b c : List Bool) (p q r : List Place) (x y z : Option Place)
    (one two three : Settled) → Walks scene a p x one b q y two → Walks scene b q y two c r z three
    → Walks scene a p x one c r z three
walks-then scene a b c p q r x y z one two three first second = record {
  stays = stays-then one two three first.stays second.stays;
  long = second.long ∙ first.long;
  walks = λ world pieces closed m from describes ready way.
      second.walks world pieces closed m from describes ready
      (first.walks world pieces closed m from describes ready way);
}

-- where a step leads from, a variant is
step-based : (world : World) (tables : List Table) (m : ℕ) (takes : Option held_takes.Takes) (own : Takes)
    (next : Place) → option_map takes_of takes ≡ Some own → next_of world.names tables m takes ≡ Some next
    → is_based own ≡ true
step-based world tables m None own next is leads = absurd (none-some next leads)
step-based world tables m (Some (held.Listed params)) own next is leads = absurd (none-some next leads)
step-based world tables m (Some (held.Known names)) own next is leads = absurd (none-some next leads)
step-based world tables m (Some (held.Based name)) own next is leads =
    sym (ap is_based (same_Some (based name.now) own is))

based-unknown : (takes : Takes) → is_based takes ≡ true → is_known takes ≡ false
based-unknown (listed trees) is = absurd (false≢true is)
based-unknown (known types) is = absurd (false≢true is)
based-unknown (based name) is = refl

-- where what is found holds one that takes nothing, nothing is taken
based-nothing : (types : Declared → List Ty) (all : List Declared) (i : ℕ) (one : Declared)
    → slice_get all i ≡ Some one → types one ≡ [] → based_on types all ≡ []
based-nothing types [] i one at none = refl
based-nothing types (x ∷ []) zero one at none =
    by (is_callable x.entity.sort && not (has_deferred x.takes))
  where
    by : (b : Bool) → (if b then types x else []) ≡ []
    by true = ap types (same_Some x one at) ∙ none
    by false = refl
based-nothing types (x ∷ []) (suc i) one at none = absurd (none-some one at)
based-nothing types (x ∷ y ∷ all) i one at none = refl

found-there : (at : Place → Option Declared) (places : List Place) (first : List Declared) (i : ℕ) (place : Place)
    (one : Declared) → map at places ≡ map Some first → slice_get places i ≡ Some place → at place ≡ Some one
    → slice_get first i ≡ Some one
found-there at places first i place one same there is =
    by (slice_get first i)
    (sym (slice_get-map Some first i) ∙ ap (λ l. slice_get l i) (sym same) ∙ slice_get-map at places i
    ∙ ap (option_map at) there ∙ ap Some is)
  where
    by : (found : Option Declared) → option_map Some found ≡ Some (Some one) → found ≡ Some one
    by None e = absurd (none-some (Some one) e)
    by (Some d) e = same_Some (Some d) (Some one) e

not-prototype : (b c : Bool) → (b ≡ true → c ≡ false) → c ≡ true → b ≡ false
not-prototype true c apart is = absurd (true≢false (sym is ∙ apart refl))
not-prototype false c apart is = refl

-- a variant takes nothing in a round where its base, a variant of the module that isn't settled, took nothing before
base-nothing : (world : World) (pieces : List (List Declared)) (closed : List ℕ) (scene : Scene) (settled : Settled)
    (m k : ℕ) (place next beyond : Place) (one : Declared) → Describes world pieces scene
    → Settles world pieces closed settled → CanSettle world closed m
    → IsStep world pieces settled.tables.items scene.written.now m place next
    → IsStep world pieces settled.tables.items scene.written.now m next beyond
    → ((base : Declared) → declared_at pieces next ≡ Some base → types_after world (entities_in pieces) k base ≡ [])
    → declared_at pieces place ≡ Some one → types_after world (entities_in pieces) (suc k) one ≡ []
base-nothing world pieces closed scene settled m k place next beyond one describes settles can step further nothing at =
    by (takes_at scene.written.now place) (takes-is pieces scene.written.now place one describes.written at) step.leads
  where
    tables : List Table
    tables = settled.tables.items

    base : Declared
    base = further.one

    own : (base.entity.id.module == m) ≡ true
    own =
        eq-eqb base.entity.id.module m
        (module-is world tables pieces next base settles.hold further.at ∙ further.inside)

    whole : is_prototype base.entity.sort ≡ false
    whole =
        not-prototype (is_prototype base.entity.sort) (is_based base.takes) (describes.prototypes next base further.at)
        (step-based world tables m (takes_at scene.written.now next) base.takes beyond
        (takes-is pieces scene.written.now next base describes.written further.at) further.leads)

    by : (takes : Option held_takes.Takes) → option_map takes_of takes ≡ Some one.takes
        → next_of world.names tables m takes ≡ Some next → types_after world (entities_in pieces) (suc k) one ≡ []
    by None is leads = absurd (none-some next leads)
    by (Some (held.Listed params)) is leads = absurd (none-some next leads)
    by (Some (held.Known names)) is leads = absurd (none-some next leads)
    by (Some (held.Based name)) is leads =
        let places = found_places world.names tables m name.now.form false in
        let first = found false world (open_pieces tables pieces) m name.now.form in
        let later = found false world (standing_after world (entities_in pieces) k) m name.now.form in
        let finds = finds-in world pieces closed settled m (settled_count settled.taken.items) name.now.form settles can
        (omega arith) in
        let there = likely-in tables m places next leads in
        let has = found-there (declared_at pieces) places first there.0 next base finds.placed_are there.1 further.at in
        let still = still-found world pieces closed settled m name.now.form settles can k there.0 base has own whole in
        based-next world pieces k one m name.now
        (module-is world tables pieces place one settles.hold at ∙ step.inside)
        (sym (same_Some (based name.now) one.takes is))
        ∙ based-nothing (types_after world (entities_in pieces) k) later still.0 base still.1 (nothing base further.at)

-- paths
leads-push : (world : World) (pieces : List (List Declared)) (tables : List Table) (written : List Written) (m : ℕ)
    (from : Place) (path : List Place) (to next : Place) → Leads world pieces tables written m from path to
    → IsStep world pieces tables written m to next
    → Leads world pieces tables written m from (path ++ to ∷ []) next
leads-push world pieces tables written m from [] to next leads step = (sym leads, next, step, refl)
leads-push world pieces tables written m from (place ∷ path) to next leads step =
    (leads.0, leads.1, leads.2, leads-push world pieces tables written m leads.1 path to next leads.3 step)

leads-pop : (world : World) (pieces : List (List Declared)) (tables : List Table) (written : List Written) (m : ℕ)
    (from : Place) (path : List Place) (last to : Place)
    → Leads world pieces tables written m from (path ++ last ∷ []) to
    → Leads world pieces tables written m from path last × IsStep world pieces tables written m last to
leads-pop world pieces tables written m from [] last to leads =
    (sym leads.0, subst (λ next. IsStep world pieces tables written m last next) leads.3 leads.2)
leads-pop world pieces tables written m from (place ∷ path) last to leads =
    let rest = leads-pop world pieces tables written m leads.1 path last to leads.3 in
    ((leads.0, leads.1, leads.2, rest.0), rest.1)

-- each member of a path in a list leads to a member of the list, if its end does
leads-in : (world : World) (pieces : List (List Declared)) (tables : List Table) (written : List Written) (m : ℕ)
    (whole : List Place) (from : Place) (path : List Place) (to : Place)
    → Leads world pieces tables written m from path to
    → ((i : ℕ) (place : Place) → slice_get path i ≡ Some place → (j : ℕ) × (slice_get whole j ≡ Some place))
    → (j : ℕ) × (slice_get whole j ≡ Some to) → (i : ℕ) (place : Place) → slice_get path i ≡ Some place
    → (next : Place) × IsStep world pieces tables written m place next × (j : ℕ) × (slice_get whole j ≡ Some next)
leads-in world pieces tables written m whole from [] to leads all end i place at = absurd (none-some place at)
leads-in world pieces tables written m whole from (x ∷ path) to leads all end zero place at =
    let there = head path leads.3 (λ j place at. all (suc j) place at) in (
      leads.1,
      subst (λ place. IsStep world pieces tables written m place leads.1) (same_Some x place at) leads.2,
      there.0,
      there.1,
    )
  where
    head : (path : List Place) → Leads world pieces tables written m leads.1 path to
        → ((i : ℕ) (place : Place) → slice_get path i ≡ Some place → (j : ℕ) × (slice_get whole j ≡ Some place))
        → (j : ℕ) × (slice_get whole j ≡ Some leads.1)
    head [] is all = (end.0, end.1 ∙ ap Some (sym is))
    head (y ∷ path) more all =
        let there = all 0 y refl in
        (there.0, there.1 ∙ ap Some more.0)
leads-in world pieces tables written m whole from (x ∷ path) to leads all end (suc i) place at =
    leads-in world pieces tables written m whole leads.1 path to leads.3 (λ j place at. all (suc j) place at) end i
    place at

-- where a path leads into itself, its members take nothing in any round
circle-nothing : (world : World) (pieces : List (List Declared)) (closed : List ℕ) (scene : Scene) (settled : Settled)
    (m : ℕ) (from : Place) (path : List Place) (to : Place) → Describes world pieces scene
    → Settles world pieces closed settled → CanSettle world closed m
    → Leads world pieces settled.tables.items scene.written.now m from path to
    → (j : ℕ) × (slice_get path j ≡ Some to) → (k i : ℕ) (place : Place) (one : Declared)
    → slice_get path i ≡ Some place → declared_at pieces place ≡ Some one
    → types_after world (entities_in pieces) k one ≡ []
circle-nothing world pieces closed scene settled m from path to describes settles can leads end zero i place one
    there at =
    refl
circle-nothing world pieces closed scene settled m from path to describes settles can leads end (suc k) i place one
    there at =
    let step = leads-in world pieces settled.tables.items scene.written.now m path from path to leads
    (λ i place at. (i, at)) end i place there in
    let further = leads-in world pieces settled.tables.items scene.written.now m path from path to leads
    (λ i place at. (i, at)) end step.2 step.0 step.3 in
    base-nothing world pieces closed scene settled m k place step.0 further.0 one describes settles can step.1
    further.1
    (λ base is.
    circle-nothing world pieces closed scene settled m from path to describes settles can leads end k step.2 step.0
    base step.3 is) at

-- what is known of an entity that the walk comes to, and that isn't settled
record IsHere (world : World) (pieces : List (List Declared)) (closed : List ℕ) (m : ℕ) (place : Place) : Type 0 where
  one : Declared
  at : declared_at pieces place ≡ Some one
  inside : place.«module» ≡ m
  variant : is_based one.takes ≡ true
  can : CanSettle world closed m

is-here : (world : World) (pieces : List (List Declared)) (closed : List ℕ) (scene : Scene) (m : ℕ) (from : Place)
    (begun : List Bool) (path : List Place) (place : Place) (settled : Settled) → Describes world pieces scene
    → IsReady world closed m → IsWay world pieces closed scene m from begun path (Some place) settled
    → is_settled settled.taken.items place ≡ false → IsHere world pieces closed m place
is-here world pieces closed scene m from begun path place settled describes ready way unsettled = record {
  one = one;
  at = at;
  inside = inside;
  variant = variant;
  can = subst (CanSettle world closed) inside
      (can-settle world pieces scene closed place one describes (subst (IsReady world closed) (sym inside) ready) at
      (based-unknown one.takes variant));
}
  where
    one : Declared
    one = way.reaches.0

    at : declared_at pieces place ≡ Some one
    at = way.reaches.2

    inside : place.«module» ≡ m
    inside = by (place.«module» == m) refl way.reaches.3
      where
        by : (b : Bool) → (place.«module» == m) ≡ b → (b || is_settled settled.taken.items place) ≡ true
            → place.«module» ≡ m
        by true is either = eqb-true place.«module» m is
        by false is either = absurd (false≢true (sym unsettled ∙ either))

    variant : is_based one.takes ≡ true
    variant = by (is_based one.takes) refl
      where
        by : (b : Bool) → is_based one.takes ≡ b → b ≡ true
        by true is = refl
        by false is =
            absurd (false≢true (sym unsettled ∙ ap (λ n. is_settled settled.taken.items (placed n place.index)) inside
            ∙ way.written.settled place.index one
            (ap (λ n. declared_at pieces (placed n place.index)) (sym inside) ∙ at) is))

or-kept : (a b c d : Bool) → (a ≡ true → c ≡ true) → (b ≡ true → d ≡ true) → (a || b) ≡ true → (c || d) ≡ true
or-kept true b c d one other either = ap (λ c. c || d) (one refl)
or-kept false true c d one other either = ap (λ d. c || d) (other refl) ∙ or-true c
or-kept false false c d one other either = absurd (false≢true either)

-- the way stays where more is settled
way-on : (world : World) (pieces : List (List Declared)) (closed : List ℕ) (scene : Scene) (m : ℕ) (from : Place)
    (begun : List Bool) (path : List Place) (now : Option Place) (to : Place) (old new : Settled) → Stays old new
    → Settles world pieces closed new → IsWay world pieces closed scene m from begun path now old
    → Leads world pieces old.tables.items scene.written.now m from path to
    → is_settled new.taken.items to ≡ true → IsWay world pieces closed scene m from begun path None new
way-on world pieces closed scene m from begun path now to old new stays settles way leads ended = record {
  settles = settles;
  written = record {
    settled = λ i one at other. still-settled old new (placed m i) stays (way.written.settled i one at other);
  };
  begun_are = λ i is. or-kept (is_settled old.taken.items (placed m i)) (is_on path (placed m i))
      (is_settled new.taken.items (placed m i)) (is_on path (placed m i)) (still-settled old new (placed m i) stays)
      (λ on. on) (way.begun_are i is);
  long = way.long;
  reaches = (
    to,
    subst (λ (tables : Vec Table Global). Leads world pieces tables.items scene.written.now m from path to)
        (sym stays.tables) leads,
    ended,
  );
}

-- a variant that takes nothing ends a walk
walks-end : (scene : Scene) (begun : List Bool) (path : List Place) (current : Place) (old new : Settled)
    → SettlesBy current [] old new
    → ((world : World) (pieces : List (List Declared)) (closed : List ℕ) (m : ℕ) (from : Place) (one : Declared) (k : ℕ)
    → Describes world pieces scene → IsReady world closed m
    → IsWay world pieces closed scene m from begun path (Some current) old → declared_at pieces current ≡ Some one
    → settled_count old.taken.items ≤ k → types_after world (entities_in pieces) (suc k) one ≡ [])
    → Walks scene begun path (Some current) old begun path None new
walks-end scene begun path current old new by nothing = record {
  stays = by.stays;
  long = refl;
  walks = λ world pieces closed m from describes ready way.
      let one = way.reaches.0 in
      let done = by.settles world pieces closed one way.settles way.reaches.2
      (λ k less. nothing world pieces closed m from one k describes ready way way.reaches.2 less) in
      way-on world pieces closed scene m from begun path (Some current) current old new by.stays done.0 way
      way.reaches.1 done.1;
}

-- without a base
pub follows-none : (scene : Scene) (begun : List Bool) (path : List Place) (current : Place) (old new : Settled)
    → is_settled old.taken.items current ≡ false
    → next_of scene.names.now old.tables.items current.«module» (takes_at scene.written.now current) ≡ None
    → SettlesBy current [] old new → Follows scene begun path current old begun path None new
follows-none scene begun path current old new unsettled next by = record {
  walks = walks-end scene begun path current old new by
      (λ world pieces closed m from one k describes ready way at less.
      let here = is-here world pieces closed scene m from begun path current old describes ready way unsettled in
      no-base-settles world pieces closed scene old current one k describes way.settles
      (subst (CanSettle world closed) (sym here.inside) here.can) at
      (ap (λ (one : Declared). is_based one.takes) (same_Some one here.one (sym at ∙ here.at)) ∙ here.variant)
      (ap (λ names. next_of names old.tables.items current.«module» (takes_at scene.written.now current))
      (sym describes.names) ∙ next) less);
  fewer = omega arith;
}

some-on : (path : List Place) (place : Place) → is_on path place ≡ true → (j : ℕ) × (slice_get path j ≡ Some place)
some-on [] place on = absurd (false≢true on)
some-on (x ∷ path) place on = by (same_place place x) refl on (λ on. some-on path place on)
  where
    by : (b : Bool) → same_place place x ≡ b → (b || is_on path place) ≡ true
        → (is_on path place ≡ true → (j : ℕ) × (slice_get path j ≡ Some place))
        → (j : ℕ) × (slice_get (x ∷ path) j ≡ Some place)
    by true is on later = (0, ap Some (sym (same-place place x is)))
    by false is on later = let there = later on in (suc there.0, there.1)

within-piece : (piece : Option (List Declared)) (i : ℕ) (one : Declared) → declared_in piece i ≡ Some one
    → (all : List Declared) × (piece ≡ Some all) × (i < length all)
within-piece None i one at = absurd (none-some one at)
within-piece (Some all) i one at = (all, refl, within all i at)
  where
    within : (all : List Declared) (i : ℕ) → slice_get all i ≡ Some one → i < length all
    within [] i at = absurd (none-some one at)
    within (x ∷ all) zero at = omega arith
    within (x ∷ all) (suc i) at = let later = within all i at in omega (arith, later)

not-true-is : (b : Bool) → false ≡ not b → b ≡ true
not-true-is true is = refl
not-true-is false is = absurd (false≢true is)

not-false-is : (b : Bool) → true ≡ not b → b ≡ false
not-false-is true is = absurd (true≢false is)
not-false-is false is = refl

-- what is of the module
here-is : (m : ℕ) (place : Place) → place.«module» ≡ m → place ≡ placed m place.index
here-is m place inside = λ k. record { «module» = inside k; index = place.index }

-- where what was begun comes again, it closes a circle
pub follows-circle : (scene : Scene) (begun after : List Bool) (path : List Place) (current : Place) (old new : Settled)
    → is_settled old.taken.items current ≡ false → after ≡ slice_set begun current.index true
    → false ≡ not (slice_index_or begun current.index true) → SettlesBy current [] old new
    → Follows scene begun path current old after path None new
follows-circle scene begun after path current old new unsettled set fresh by =
    subst (λ after. Follows scene begun path current old after path None new) (sym same) (record {
      walks = walks-end scene begun path current old new by
          (λ world pieces closed m from one k describes ready way at less.
          let here = is-here world pieces closed scene m from begun path current old describes ready way unsettled in
          circle-nothing world pieces closed scene old m from path current describes way.settles here.can way.reaches.1
          (on world pieces closed m from way here) (suc k)
          (on world pieces closed m from way here).0 current one (on world pieces closed m from way here).1 at);
      fewer = omega arith;
    })
  where
    was : slice_index_or begun current.index true ≡ true
    was = not-true-is (slice_index_or begun current.index true) fresh

    same : after ≡ begun
    same = set ∙ ap (slice_set begun current.index) (sym was) ∙ set-get_or begun current.index true

    on : (world : World) (pieces : List (List Declared)) (closed : List ℕ) (m : ℕ) (from : Place)
        → IsWay world pieces closed scene m from begun path (Some current) old → IsHere world pieces closed m current
        → (j : ℕ) × (slice_get path j ≡ Some current)
    on world pieces closed m from way here =
        let piece = within-piece (slice_get pieces current.«module») current.index here.one here.at in
        let long = way.long piece.0 (ap (slice_get pieces) (sym here.inside) ∙ piece.1) in
        let less = piece.2 in
        let was_begun = get_or_default begun current.index false true (omega (arith, long, less)) ∙ was in
        let e = here-is m current here.inside in
        some-on path current
        (by-or (is_settled old.taken.items current) (is_on path current) unsettled
        (ap (λ place. is_settled old.taken.items place || is_on path place) e ∙ way.begun_are current.index was_begun))
      where
        by-or : (a b : Bool) → a ≡ false → (a || b) ≡ true → b ≡ true
        by-or true b none either = absurd (true≢false none)
        by-or false b none either = either

unbegun-set : (begun : List Bool) (i : ℕ) → slice_index_or begun i true ≡ false
    → suc (unbegun (slice_set begun i true)) ≡ unbegun begun
unbegun-set [] i fresh = absurd (true≢false fresh)
unbegun-set (b ∷ begun) zero fresh = by b fresh
  where
    by : (b : Bool) → b ≡ false → suc (0 + unbegun begun) ≡ (if b then 0 else 1) + unbegun begun
    by true fresh = absurd (true≢false fresh)
    by false fresh = omega arith
unbegun-set (b ∷ begun) (suc i) fresh = by (if b then 0 else 1) (unbegun-set begun i fresh)
  where
    by : (n : ℕ) → suc (unbegun (slice_set begun i true)) ≡ unbegun begun
        → suc (n + unbegun (slice_set begun i true)) ≡ n + unbegun begun
    by n later = omega (arith, later)

-- what a step leads to is of the module or settled
next-there : (world : World) (pieces : List (List Declared)) (closed : List ℕ) (settled : Settled) (m : ℕ)
    (takes : Option held_takes.Takes) (next : Place) → Settles world pieces closed settled → CanSettle world closed m
    → next_of world.names settled.tables.items m takes ≡ Some next
    → (one : Declared) × (declared_at pieces next ≡ Some one)
    × (((next.«module» == m) || is_settled settled.taken.items next) ≡ true)
next-there world pieces closed settled m None next settles can leads = absurd (none-some next leads)
next-there world pieces closed settled m (Some (held.Listed params)) next settles can leads =
    absurd (none-some next leads)
next-there world pieces closed settled m (Some (held.Known names)) next settles can leads =
    absurd (none-some next leads)
next-there world pieces closed settled m (Some (held.Based name)) next settles can leads =
    let tables = settled.tables.items in
    let places = found_places world.names tables m name.now.form false in
    let first = found false world (open_pieces tables pieces) m name.now.form in
    let finds = finds-in world pieces closed settled m (settled_count settled.taken.items) name.now.form settles can
    (omega arith) in
    let there = likely-in tables m places next leads in
    let one = declared-there (declared_at pieces) places first there.0 next finds.placed_are there.1 in
    let has = found-there (declared_at pieces) places first there.0 next one.0 finds.placed_are there.1 one.1 in (
      one.0,
      one.1,
      or-kept (next.«module» == m) (is_among closed next.«module») (next.«module» == m)
          (is_settled settled.taken.items next) (λ own. own)
          (λ among. (settles.closed_are next.«module» among).settled next.index one.0 one.1)
          (ap (λ n. (n == m) || is_among closed n) (sym (module-is world tables pieces next one.0 settles.hold one.1))
          ∙ finds.inside there.0 one.0 has),
    )

-- a variant that is begun leads on to its base
pub follows-on : (scene : Scene) (begun after : List Bool) (path longer : List Place) (current next : Place)
    (settled : Settled) → is_settled settled.taken.items current ≡ false
    → next_of scene.names.now settled.tables.items current.«module» (takes_at scene.written.now current) ≡ Some next
    → after ≡ slice_set begun current.index true → true ≡ not (slice_index_or begun current.index true)
    → longer ≡ path ++ current ∷ []
    → Follows scene begun path current settled after longer (Some next) settled
follows-on scene begun after path longer current next settled unsettled leads set fresh pushed =
    subst (λ after. Follows scene begun path current settled after longer (Some next) settled) (sym set)
    (subst (λ longer. Follows scene begun path current settled (slice_set begun current.index true) longer (Some next)
    settled) (sym pushed) (record {
      walks = record {
        stays = stays-itself settled;
        long = length-set begun current.index true;
        walks = λ world pieces closed m from describes ready way.
            on world pieces closed m from describes way
            (is-here world pieces closed scene m from begun path current settled describes ready way unsettled);
      };
      fewer = omega (
        arith,
        unbegun-set begun current.index
            (not-false-is (slice_index_or begun current.index true) fresh),
      );
    }))
  where
    on : (world : World) (pieces : List (List Declared)) (closed : List ℕ) (m : ℕ) (from : Place)
        → Describes world pieces scene → IsWay world pieces closed scene m from begun path (Some current) settled
        → IsHere world pieces closed m current
        → IsWay world pieces closed scene m from (slice_set begun current.index true) (path ++ current ∷ []) (Some next)
        settled
    on world pieces closed m from describes way here = record {
      settles = way.settles;
      written = way.written;
      begun_are = begun_are;
      long = λ piece at. length-set begun current.index true ∙ way.long piece at;
      reaches = (
        there.0,
        leads-push world pieces settled.tables.items scene.written.now m from path current next way.reaches.1
            (record { inside = here.inside; one = here.one; at = here.at; leads = led }),
        there.1,
        there.2,
      );
    }
      where
        led : next_of world.names settled.tables.items m (takes_at scene.written.now current) ≡ Some next
        led =
            (λ k. next_of (sym describes.names k) settled.tables.items (sym here.inside k)
            (takes_at scene.written.now current)) ∙ leads

        there : (one : Declared) × (declared_at pieces next ≡ Some one)
            × (((next.«module» == m) || is_settled settled.taken.items next) ≡ true)
        there =
            next-there world pieces closed settled m (takes_at scene.written.now current) next way.settles here.can led

        begun_are : (i : ℕ) → slice_index_or (slice_set begun current.index true) i false ≡ true
            → (is_settled settled.taken.items (placed m i) || is_on (path ++ current ∷ []) (placed m i)) ≡ true
        begun_are i is = by (i == current.index) refl
          where
            by : (b : Bool) → (i == current.index) ≡ b
                → (is_settled settled.taken.items (placed m i) || is_on (path ++ current ∷ []) (placed m i)) ≡ true
            by true same =
                let e : placed m i ≡ current =
                (λ k. record { «module» = sym here.inside k; index = eqb-true i current.index same k }) in
                ap (λ place. is_settled settled.taken.items place || is_on (path ++ current ∷ []) place) e
                ∙ ap (λ b. is_settled settled.taken.items current || b)
                (list_any-append (same_place current) path (current ∷ [])
                ∙ ap (λ b. is_on path current || (b || false)) (place-itself current) ∙ or-true (is_on path current))
                ∙ or-true (is_settled settled.taken.items current)
            by false other =
                or-kept (is_settled settled.taken.items (placed m i)) (is_on path (placed m i))
                (is_settled settled.taken.items (placed m i)) (is_on (path ++ current ∷ []) (placed m i)) (λ is. is)
                (λ on. list_any-append (same_place (placed m i)) path (current ∷ [])
                ∙ ap (λ b. b || is_on (current ∷ []) (placed m i)) on)
                (way.begun_are i
                (sym (get_or-set_other begun current.index i true false (λ e. eqb-false i current.index other e)) ∙ is))

-- what is settled ends a walk
pub follows-settled : (scene : Scene) (begun : List Bool) (path : List Place) (current : Place) (settled : Settled)
    → is_settled settled.taken.items current ≡ true → Follows scene begun path current settled begun path None settled
follows-settled scene begun path current settled ended = record {
  walks = record {
    stays = stays-itself settled;
    long = refl;
    walks = λ world pieces closed m from describes ready way.
        way-on world pieces closed scene m from begun path (Some current) current settled settled (stays-itself settled)
        way.settles way way.reaches.1 ended;
  };
  fewer = omega arith;
}

popped : (a b c d : Bool) → (a ≡ true → d ≡ true) → (c ≡ true → d ≡ true) → (a || (b || (c || false))) ≡ true
    → (d || b) ≡ true
popped true b c d one other either = ap (λ d. d || b) (one refl)
popped false true c d one other either = or-true d
popped false false true d one other either = ap (λ d. d || false) (other refl)
popped false false false d one other either = absurd (false≢true either)

-- the last variant of the path is settled
pub walks-pop : (scene : Scene) (begun : List Bool) (path : List Place) (last : Place) (old new : Settled)
    → SettlesBased scene last old new → Walks scene begun (path ++ last ∷ []) None old begun path None new
walks-pop scene begun path last old new by = record {
  stays = by.stays;
  long = refl;
  walks = on;
}
  where
    on : (world : World) (pieces : List (List Declared)) (closed : List ℕ) (m : ℕ) (from : Place)
        → Describes world pieces scene → IsReady world closed m
        → IsWay world pieces closed scene m from begun (path ++ last ∷ []) None old
        → IsWay world pieces closed scene m from begun path None new
    on world pieces closed m from describes ready way = record {
      settles = done.0;
      written = record {
        settled = λ i one at other. still-settled old new (placed m i) by.stays (way.written.settled i one at other);
      };
      begun_are = λ i is. popped (is_settled old.taken.items (placed m i)) (is_on path (placed m i))
          (same_place (placed m i) last) (is_settled new.taken.items (placed m i))
          (still-settled old new (placed m i) by.stays)
          (λ same. ap (is_settled new.taken.items) (same-place (placed m i) last same) ∙ done.1)
          (ap (λ b. is_settled old.taken.items (placed m i) || b)
          (sym (list_any-append (same_place (placed m i)) path (last ∷ []))) ∙ way.begun_are i is);
      long = way.long;
      reaches = (
        last,
        subst (λ (tables : Vec Table Global). Leads world pieces tables.items scene.written.now m from path last)
            (sym by.stays.tables) parts.0,
        done.1,
      );
    }
      where
        to : Place
        to = way.reaches.0

        parts : Leads world pieces old.tables.items scene.written.now m from path last
            × IsStep world pieces old.tables.items scene.written.now m last to
        parts = leads-pop world pieces old.tables.items scene.written.now m from path last to way.reaches.1

        variant : is_based parts.1.one.takes ≡ true
        variant =
            step-based world old.tables.items m (takes_at scene.written.now last) parts.1.one.takes to
            (takes-is pieces scene.written.now last parts.1.one describes.written parts.1.at) parts.1.leads

        done : Settles world pieces closed new × (is_settled new.taken.items last ≡ true)
        done =
            by.settles world pieces closed parts.1.one to describes way.settles
            (can-settle world pieces scene closed last parts.1.one describes
            (subst (IsReady world closed) (sym parts.1.inside) ready) parts.1.at
            (based-unknown parts.1.one.takes variant))
            parts.1.at (subst (λ n. WrittenAreSettled pieces n old.taken.items) (sym parts.1.inside) way.written)
            (ap (λ n. next_of world.names old.tables.items n (takes_at scene.written.now last)) parts.1.inside
            ∙ parts.1.leads) way.reaches.2

or-none : (b : Bool) → (b || false) ≡ true → b ≡ true
or-none true is = refl
or-none false is = is

-- the walk from a variant, with nothing left on its path, settles it
pub variant-settled : (scene : Scene) (begun after : List Bool) (place : Place) (old new : Settled)
    → Walks scene begun [] (Some place) old after [] None new → SettlesVariant scene begun place old after new
variant-settled scene begun after place old new walks = record {
  stays = walks.stays;
  long = walks.long;
  settles = λ world pieces closed one describes settles ready at written begun_are long.
      let way = walks.walks world pieces closed place.«module» place describes ready (record {
        settles = settles;
        written = written;
        begun_are = λ i is. ap (λ b. b || false) (begun_are.settled i is);
        long = long;
        reaches = (
          one,
          refl,
          at,
          ap (λ b. b || is_settled old.taken.items place) (eq-eqb place.«module» place.«module» refl),
        );
      }) in (
        way.settles,
        record {
          settled = λ i is. or-none (is_settled new.taken.items (placed place.«module» i)) (way.begun_are i is);
        },
        ap (is_settled new.taken.items) way.reaches.1 ∙ way.reaches.2,
      );
}

-- the test that a walk makes
pub tells-settled : (number own : Option ℕ) (test answer : Bool) → number ≡ own → test ≡ is_some number
    → test ≡ answer → is_known_number own ≡ answer
tells-settled number own test answer is some told = by own ∙ ap is_some (sym is) ∙ sym some ∙ told
  where
    by : (own : Option ℕ) → is_known_number own ≡ is_some own
    by None = refl
    by (Some n) = refl

-- no place is left on a path
pub none-left : (path : List Place) → length path ≡ 0 → path ≡ []
none-left [] long = refl
none-left (place ∷ path) long = absurd (omega (arith, long))

-- A variant is settled by its base, which is settled.
use Rattle.std.proofs.Common.{◌≡◌, ◌∙◌, ◌<◌, ◌≤◌, ◌∷◌, ◌==◌, ◌&&◌, not, [], ℕ, suc, zero, Bool, true, false}
use Rattle.std.proofs.Common.{List, Option, Some, None, option_map, refl, sym, ap, slice_get, map}
use Rattle.std.proofs.Common.{slice_index_or, length, arith}
use Rattle.std.specs.Prelude.{if◌then◌else◌}
use Rattle.std.specs.Str.{bytes_eq}
use Rattle.std.specs.Cmp.Lexicographic.{bytes_decides}
use Rattle.std.specs.declared.vec.Vec.{Vec}
use Rattle.std.specs.declared.alloc.Global.{Global}
use Rattle.std.proofs.lemmas.Bool.{and_parts, false≢true, eqb-true}
use Rattle.std.proofs.lemmas.Option.{same_Some, none-some}
use Rattle.type_rules.specs.declared.ty.Ty.{Ty}
use Rattle.mdl_syntax.specs.declared.names.Name.{Name}
use Rattle.mdl_syntax.specs.declared.names.NameForm.{NameForm}
use Rattle.mdl_syntax.specs.declared.names.NameForm.TheVariants as form
use Rattle.module_set.specs.declared.module_name.ModuleName.{ModuleName}
use Rattle.scope_tables.specs.declared.entity.Entity.{Entity}
use Rattle.scope_tables.specs.declared.tables.Table.{Table}
use Rattle.scope_tables.specs.declared.tables.Place.{Place}
use Rattle.scope_tables.specs.declared.declared.Takes as held_takes
use Rattle.scope_tables.specs.declared.declared.Written.{Written}
use Rattle.scope_tables.specs.declared.declared.Takes.TheVariants as held
use Rattle.scope_core.specs.declared.settled.Settled.{Settled}
use Rattle.scope_core.specs.declared.settled.Scene.{Scene}
use Rattle.scope_tables.specs.Entities.{Declared, based}
use Rattle.scope_tables.specs.Visible.{World, those, or_else, is_near, is_given, is_far, is_within, uses}
use Rattle.scope_tables.specs.Visible.{brings, fits, name_at, last_part, front_parts, texts, word_text, found}
use Rattle.scope_tables.specs.Visible.{found_near, found_far, found_parts}
use Rattle.scope_tables.specs.Types.{based_on, types_in}
use Rattle.scope_core.specs.Standing.{is_prototype, types_after, standing_after}
use Rattle.scope_tables.specs.inside.Finding.{placed, entity_at, found_places}
use Rattle.scope_core.specs.inside.Holding.{open_pieces}
use Rattle.scope_core.specs.inside.Settling.{is_prototype_of, is_own_prototype, others_of, likely_base, taken_at}
use Rattle.scope_core.specs.inside.Settling.{stands_alone, takes_at, next_of, is_base_at, number_on, base_number}
use Rattle.scope_tables.specs.inside.Pieces.{takes_of}
use Rattle.scope_core.specs.inside.Rounds.{declared_at, entities_in, settled_count, is_settled, Settles}
use Rattle.scope_core.specs.inside.Rounds.{Describes, CanSettle, FindsIn, is_based, WrittenAreSettled, Stays}
use Rattle.scope_core.specs.inside.Rounds.{SettlesBy, SettlesBased}
use Rattle.scope_core.proofs.VisibleLaws.{finds-in}
use Rattle.scope_core.proofs.BaseLaws.{behind, module-is, own-is, no-base, known-number}
use Rattle.scope_core.proofs.BaseLaws.{only-is, takes-is, on-base, AreAlike, Knows}
use Rattle.scope_tables.proofs.MemberLaws.{filter-of, heads}

-- the names of what is found
those-alike : (test : Entity → Bool) (name : List ℕ) (entities : List Declared)
    → ((entity : Entity) → test entity ≡ true → bytes_eq name entity.name ≡ true) → AreAlike (those test entities)
those-alike test name entities named = record {
  alike = λ i j one other at there.
      let first = filter-of (λ (d : Declared). test d.entity) entities i one at in
      let second = filter-of (λ (d : Declared). test d.entity) entities j other there in
      let is = (bytes_decides name one.entity.name).0 (named one.entity first.0) in
      let same = (bytes_decides name other.entity.name).0 (named other.entity second.0) in
      (bytes_decides one.entity.name other.entity.name).1 (sym is ∙ same);
}

else-alike : (one other : List Declared) → AreAlike one → AreAlike other → AreAlike (or_else one other)
else-alike [] other first second = second
else-alike (x ∷ one) other first second = first

near-alike : (all : Bool) (world : World) (entities : List Declared) (m : ℕ) (name : List ℕ)
    → AreAlike (found_near all world entities m name)
near-alike all world entities m name =
    else-alike (those (is_near all world m name) entities) (those (is_given world name) entities)
    (those-alike (is_near all world m name) name entities
    (λ entity is. (and_parts (bytes_eq name entity.name) (is_within all uses world m entity) is).0))
    (those-alike (is_given world name) name entities
    (λ entity is. (and_parts (bytes_eq name entity.name) (entity.id.module == length world.names) is).0))

parts-alike : (all : Bool) (world : World) (entities : List Declared) (m : ℕ) (absolute : Bool) (parts : List (List ℕ))
    → AreAlike (found_parts all world entities m absolute parts)
parts-alike all world entities m absolute [] = record { alike = λ i j one other at there. absurd (none-some one at) }
parts-alike all world entities m absolute (part ∷ parts) = by (not absolute && (length (part ∷ parts) == 1))
  where
    name : List ℕ
    name = last_part (part ∷ parts)

    front : List (List ℕ)
    front = front_parts (part ∷ parts)

    by : (b : Bool) → AreAlike (if b then found_near all world entities m name
        else found_far all world entities m absolute (part ∷ parts))
    by true = near-alike all world entities m name
    by false =
        those-alike (is_far all world m absolute front name) name entities
        (λ entity is. (and_parts (bytes_eq name entity.name)
        (fits absolute front (name_at world entity.id.module).parts && is_within all brings world m entity) is).0)

pub found-alike : (all : Bool) (world : World) (entities : List Declared) (m : ℕ) (name : NameForm)
    → AreAlike (found all world entities m name)
found-alike all world entities m (form.Word word) =
    those-alike (is_given world (word_text word)) (word_text word) entities
    (λ entity is. (and_parts (bytes_eq (word_text word) entity.name) (entity.id.module == length world.names) is).0)
found-alike all world entities m (form.Parts absolute parts) = parts-alike all world entities m absolute (texts parts)

-- the base is one of what is found
pub likely-in : (tables : List Table) (m : ℕ) (places : List Place) (base : Place)
    → likely_base tables m places ≡ Some base
    → (i : ℕ) × (slice_get places i ≡ Some base)
likely-in tables m [] base likely = absurd (none-some base likely)
likely-in tables m (p ∷ []) base likely = (0, likely)
likely-in tables m (p ∷ q ∷ places) base likely =
    let only = only-is (others_of tables m (p ∷ q ∷ places)) base likely in
    let there = filter-of (λ place. not (is_own_prototype tables m place)) (p ∷ q ∷ places) 0 base
    (ap (λ l. slice_get l 0) only) in
    (there.1, there.2)

pub declared-there : (at : Place → Option Declared) (places : List Place) (first : List Declared) (i : ℕ)
    (place : Place)
    → map at places ≡ map Some first → slice_get places i ≡ Some place → (one : Declared) × (at place ≡ Some one)
declared-there at [] first i place same there = absurd (none-some place there)
declared-there at (p ∷ places) [] i place same there = let long = ap length same in absurd (omega (arith, long))
declared-there at (p ∷ places) (one ∷ first) zero place same there =
    (one, ap at (sym (same_Some p place there)) ∙ heads (at p) (Some one) (map at places) (map Some first) same)
declared-there at (p ∷ places) (one ∷ first) (suc i) place same there =
    declared-there at places first i place (ap behind same) there

-- the types of a number
abbrev pub types_on : List (List Ty) → Option ℕ → List Ty
types_on keys None = []
types_on keys (Some number) = slice_index_or keys number []

types-if : (keys : List (List Ty)) (b : Bool) (number : ℕ)
    → (if b then slice_index_or keys number [] else []) ≡ types_on keys (if b then Some number else None)
types-if keys true number = refl
types-if keys false number = refl

-- what is known while a variant is settled whose base is
knows-found : (world : World) (pieces : List (List Declared)) (closed : List ℕ) (scene : Scene) (settled : Settled)
    (m k : ℕ) (name : NameForm) → Describes world pieces scene → Settles world pieces closed settled
    → CanSettle world closed m → WrittenAreSettled pieces m settled.taken.items → settled_count settled.taken.items ≤ k
    → Knows world pieces closed settled.tables.items settled.taken.items settled.lists.keys m k
    (found_places world.names settled.tables.items m name false)
    (found false world (open_pieces settled.tables.items pieces) m name)
    (found false world (standing_after world (entities_in pieces) k) m name)
knows-found world pieces closed scene settled m k name describes settles can written less = record {
  hold = settles.hold;
  known = settles.known;
  less = less;
  finds = finds;
  alike = found-alike false world (open_pieces settled.tables.items pieces) m name;
  settled = λ i place there own.
      let d = declared-there (declared_at pieces) places first i place finds.placed_are there in
      let is = (and_parts (is_prototype d.0.entity.sort) (d.0.entity.id.module == m)
      (sym (own-is world settled.tables.items pieces m place d.0 settles.hold d.1) ∙ own)).0 in
      let inside = eqb-true place.«module» m
      (and_parts (is_prototype_of (entity_at settled.tables.items place)) (place.«module» == m) own).1 in
      let e : place ≡ placed m place.index = (λ j. record { «module» = inside j; index = place.index }) in
      ap (is_settled settled.taken.items) e
      ∙ written.settled place.index d.0 (ap (declared_at pieces) (sym e) ∙ d.1)
      (describes.prototypes place d.0 d.1 is);
}
  where
    places : List Place
    places = found_places world.names settled.tables.items m name false

    first : List Declared
    first = found false world (open_pieces settled.tables.items pieces) m name

    finds : FindsIn world pieces closed m k places first
        (found false world (standing_after world (entities_in pieces) k) m name)
    finds = finds-in world pieces closed settled m k name settles can less

-- what a variant takes in the next round
pub based-next : (world : World) (pieces : List (List Declared)) (k : ℕ) (one : Declared) (m : ℕ) (name : Name)
    → one.entity.id.module ≡ m → one.takes ≡ based name
    → types_after world (entities_in pieces) (suc k) one
    ≡ based_on (types_after world (entities_in pieces) k)
    (found false world (standing_after world (entities_in pieces) k) m name.form)
based-next world pieces k one m name inside takes =
    λ i. types_in world (standing_after world (entities_in pieces) k) (types_after world (entities_in pieces) k)
    (inside i) (takes i)

-- a variant whose base is settled takes what the base's number tells
pub takes-on : (world : World) (pieces : List (List Declared)) (closed : List ℕ) (scene : Scene) (settled : Settled)
    (place : Place) (one : Declared) (base : Place) (k : ℕ) → Describes world pieces scene
    → Settles world pieces closed settled → CanSettle world closed place.«module» → declared_at pieces place ≡ Some one
    → WrittenAreSettled pieces place.«module» settled.taken.items
    → next_of world.names settled.tables.items place.«module» (takes_at scene.written.now place) ≡ Some base
    → is_settled settled.taken.items base ≡ true → settled_count settled.taken.items ≤ k
    → types_after world (entities_in pieces) (suc k) one
    ≡ types_on settled.lists.keys (base_number world.names settled.tables.items scene.written.now settled.taken.items
    place.«module» (takes_at scene.written.now place))
takes-on world pieces closed scene settled place one base k describes settles can at written next known less =
    by (takes_at scene.written.now place) (takes-is pieces scene.written.now place one describes.written at) next
  where
    m : ℕ
    m = place.«module»

    tables : List Table
    tables = settled.tables.items

    keys : List (List Ty)
    keys = settled.lists.keys

    number : (n : ℕ) × (taken_at settled.taken.items base ≡ Some n)
    number = known-number (taken_at settled.taken.items base) known

    by : (takes : Option held_takes.Takes) → option_map takes_of takes ≡ Some one.takes
        → next_of world.names tables m takes ≡ Some base
        → types_after world (entities_in pieces) (suc k) one
        ≡ types_on keys (base_number world.names tables scene.written.now settled.taken.items m takes)
    by None is next = absurd (none-some base next)
    by (Some (held.Listed params)) is next = absurd (none-some base next)
    by (Some (held.Known names)) is next = absurd (none-some base next)
    by (Some (held.Based name)) is next =
        let places = found_places world.names tables m name.now.form false in
        let first = found false world (open_pieces tables pieces) m name.now.form in
        let later = found false world (standing_after world (entities_in pieces) k) m name.now.form in
        let knows =
        knows-found world pieces closed scene settled m k name.now.form describes settles can written less in
        let there = likely-in tables m places base next in
        let b = declared-there (declared_at pieces) places first there.0 base knows.finds.placed_are there.1 in
        let test = stands_alone tables settled.taken.items base places && is_base_at tables scene.written.now base in
        based-next world pieces k one m name.now (module-is world tables pieces place one settles.hold at)
        (sym (same_Some (based name.now) one.takes is))
        ∙ on-base world pieces closed tables scene.written.now settled.taken.items keys m k places first later base b.0
        number.0 knows (record { at = b.1; takes = number.1 }) describes.written next
        ∙ types-if keys test number.0
        ∙ ap (λ n. types_on keys (if test then n else None)) (sym number.1)
        ∙ ap (λ likely. types_on keys (number_on tables scene.written.now settled.taken.items places likely)) (sym next)

-- a variant without a base takes nothing
pub no-base-settles : (world : World) (pieces : List (List Declared)) (closed : List ℕ) (scene : Scene)
    (settled : Settled) (place : Place) (one : Declared) (k : ℕ) → Describes world pieces scene
    → Settles world pieces closed settled → CanSettle world closed place.«module» → declared_at pieces place ≡ Some one
    → is_based one.takes ≡ true
    → next_of world.names settled.tables.items place.«module» (takes_at scene.written.now place) ≡ None
    → settled_count settled.taken.items ≤ k → types_after world (entities_in pieces) (suc k) one ≡ []
no-base-settles world pieces closed scene settled place one k describes settles can at variant next less =
    by (takes_at scene.written.now place) (takes-is pieces scene.written.now place one describes.written at) next
  where
    m : ℕ
    m = place.«module»

    tables : List Table
    tables = settled.tables.items

    by : (takes : Option held_takes.Takes) → option_map takes_of takes ≡ Some one.takes
        → next_of world.names tables m takes ≡ None → types_after world (entities_in pieces) (suc k) one ≡ []
    by None is next = absurd (none-some one.takes is)
    by (Some (held.Listed params)) is next =
        absurd (false≢true (ap is_based (same_Some (takes_of (held.Listed params)) one.takes is) ∙ variant))
    by (Some (held.Known names)) is next =
        absurd (false≢true (ap is_based (same_Some (takes_of (held.Known names)) one.takes is) ∙ variant))
    by (Some (held.Based name)) is next =
        based-next world pieces k one m name.now (module-is world tables pieces place one settles.hold at)
        (sym (same_Some (based name.now) one.takes is))
        ∙ no-base world pieces closed tables m k (found_places world.names tables m name.now.form false)
        (found false world (open_pieces tables pieces) m name.now.form)
        (found false world (standing_after world (entities_in pieces) k) m name.now.form) settles.hold
        (finds-in world pieces closed settled m k name.now.form settles can less) next

-- a number that the base of a variant gives is one of those that are known
base-within : (names : List ModuleName) (tables : List Table) (written : List Written)
    (taken : List (Vec (Option ℕ) Global)) (m : ℕ) (takes : Option held_takes.Takes) (limit number : ℕ)
    → ((place : Place) (n : ℕ) → taken_at taken place ≡ Some n → n < limit)
    → base_number names tables written taken m takes ≡ Some number → number < limit
base-within names tables written taken m None limit number within is = absurd (none-some number is)
base-within names tables written taken m (Some (held.Listed params)) limit number within is =
    absurd (none-some number is)
base-within names tables written taken m (Some (held.Known known)) limit number within is =
    absurd (none-some number is)
base-within names tables written taken m (Some (held.Based name)) limit number within is =
    by (likely_base tables m places) is
  where
    places : List Place
    places = found_places names tables m name.now.form false

    known : (base : Place) (b : Bool) → (if b then taken_at taken base else None) ≡ Some number → number < limit
    known base true is = within base number is
    known base false is = absurd (none-some number is)

    by : (base : Option Place) → number_on tables written taken places base ≡ Some number → number < limit
    by None is = absurd (none-some number is)
    by (Some base) is =
        known base (stands_alone tables taken base places && is_base_at tables written base) is

-- a variant that is settled by the number that its base gives
pub settles-based : (scene : Scene) (place : Place) (old new : Settled) (number : Option ℕ)
    → number ≡ base_number scene.names.now old.tables.items scene.written.now old.taken.items place.«module»
    (takes_at scene.written.now place)
    → Stays old new
    → (((n : ℕ) → number ≡ Some n → n < length old.lists.keys)
    → SettlesBy place (types_on old.lists.keys number) old new)
    → SettlesBased scene place old new
settles-based scene place old new number is stays by = record {
  stays = stays;
  settles = λ world pieces closed one base describes settles can at written next known.
      let e = is ∙ ap (λ names. base_number names old.tables.items scene.written.now old.taken.items place.«module»
      (takes_at scene.written.now place)) describes.names in
      let within = λ (n : ℕ) (some : number ≡ Some n).
      base-within world.names old.tables.items scene.written.now old.taken.items place.«module»
      (takes_at scene.written.now place) (length old.lists.keys) n settles.known.within (sym e ∙ some) in
      (by within).settles world pieces closed one settles at
      (λ k less.
      takes-on world pieces closed scene old place one base k describes settles can at written next known less
      ∙ ap (types_on old.lists.keys) (sym e));
}

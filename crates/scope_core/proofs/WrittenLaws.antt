-- What is written of an entity settles it.
use Rattle.std.proofs.Common.{◌≡◌, ◌∙◌, ◌==◌, ℕ, Bool, true, false, List, Some, refl, sym, ap, slice_get, map}
use Rattle.std.proofs.Common.{length, arith}
use Rattle.std.proofs.lemmas.Bool.{false≢true, eqb-true}
use Rattle.type_rules.specs.declared.ty.Ty.{Ty}
use Rattle.mdl_syntax.specs.declared.declarations.Param.{Param}
use Rattle.mdl_syntax.specs.Modules.{parameter_of}
use Rattle.scope_tables.specs.declared.declared.Takes as held_takes
use Rattle.scope_core.specs.declared.settled.Settled.{Settled}
use Rattle.scope_core.specs.declared.settled.Scene.{Scene}
use Rattle.scope_tables.specs.declared.tables.Place.{Place}
use Rattle.scope_tables.specs.Entities.{Declared, Takes, listed, known, based}
use Rattle.scope_tables.specs.Entities as written
use Rattle.scope_tables.specs.PreludeEntities.{prelude}
use Rattle.scope_tables.specs.Visible.{World}
use Rattle.scope_tables.specs.Types.{types_in}
use Rattle.scope_core.specs.Standing.{types_after, standing_after}
use Rattle.scope_tables.specs.inside.Pieces.{takes_of}
use Rattle.scope_tables.specs.inside.Typing.{types_at}
use Rattle.scope_core.specs.inside.Rounds.{declared_in, declared_at, entities_in, Describes}
use Rattle.scope_core.specs.inside.Rounds.{CanSettle, IsReady, SettlesBy, SettlesWritten}
use Rattle.scope_core.proofs.VisibleLaws.{module-at, written-types}
use Rattle.scope_tables.proofs.MemberLaws.{all-at}

abbrev pub is_known : Takes → Bool
is_known (listed trees) = false
is_known (known types) = true
is_known (based name) = false

-- what isn't known by the types' names isn't of the prelude
pub can-settle : (world : World) (pieces : List (List Declared)) (scene : Scene) (closed : List ℕ) (place : Place)
    (one : Declared) → Describes world pieces scene → IsReady world closed place.module
    → declared_at pieces place ≡ Some one → is_known one.takes ≡ false → CanSettle world closed place.module
can-settle world pieces scene closed place one describes ready at other =
    by (place.module == length world.names) refl
  where
    by : (b : Bool) → (place.module == length world.names) ≡ b → CanSettle world closed place.module
    by false is = ready.can is
    by true is =
        absurd (false≢true (sym other ∙ all-at (λ (one : Declared). is_known one.takes) (prelude (length world.names))
        place.index one refl
        (ap (λ piece. declared_in piece place.index)
        (sym (ap (slice_get pieces) (eqb-true place.module (length world.names) is) ∙ describes.given)) ∙ at)))

pub listed-settles : (scene : Scene) (place : Place) (takes : held_takes.Takes) (params : List Param) (types : List Ty)
    (old new : Settled) → takes_of takes ≡ written.parameter_types (map parameter_of params)
    → types ≡ types_at scene.names.now old.tables.items place.module params → SettlesBy place types old new
    → SettlesWritten scene place takes old new
listed-settles scene place takes params types old new of are by = record {
  stays = by.stays;
  settles = λ world pieces closed one describes settles ready at is.
      let takes_are = sym is ∙ of in
      let can = can-settle world pieces scene closed place one describes ready at (ap is_known takes_are) in
      let e : one.entity.id.module ≡ place.module =
      module-at world 0 old.tables.items pieces place.module place.index one settles.hold.are at ∙ omega arith in
      let done = by.settles world pieces closed one settles at
      (λ k less.
      ap (types_in world (standing_after world (entities_in pieces) k) (types_after world (entities_in pieces) k)
      one.entity.id.module) takes_are
      ∙ ap (λ m. types_in world (standing_after world (entities_in pieces) k)
      (types_after world (entities_in pieces) k) m (written.parameter_types (map parameter_of params))) e
      ∙ written-types world pieces closed old place.module k params settles can less
      ∙ ap (λ names. types_at names old.tables.items place.module params) (sym describes.names) ∙ sym are) in
      (done.0, λ whole. done.1);
}

pub known-settles : (scene : Scene) (place : Place) (takes : held_takes.Takes) (given types : List Ty)
    (old new : Settled) → takes_of takes ≡ known given → types ≡ given → SettlesBy place types old new
    → SettlesWritten scene place takes old new
known-settles scene place takes given types old new of are by = record {
  stays = by.stays;
  settles = λ world pieces closed one describes settles ready at is.
      let done = by.settles world pieces closed one settles at
      (λ k less.
      ap (types_in world (standing_after world (entities_in pieces) k) (types_after world (entities_in pieces) k)
      one.entity.id.module) (sym is ∙ of)
      ∙ sym are) in
      (done.0, λ whole. done.1);
}

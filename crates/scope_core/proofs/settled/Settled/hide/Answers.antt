use Rattle.std.proofs.Common.{refl, sym, ap, subst, length, ◌≡◌, ◌∙◌, ◌≤◌, slice_get, slice_set, Some}
use Rattle.std.proofs.lemmas.Bool.{ltb-true, ltb-false}
use Rattle.std.proofs.lemmas.Option.{slice_get_read, slice_get_past}
use Rattle.std.proofs.lemmas.List.{set-get_or}
use Rattle.scope_core.specs.inside.Hiding.{IsHiding}
use Rattle.scope_core.proofs.HidingLaws.{close-empty, close-hidden, no-table, no-taken}
use Rattle.scope_core.proofs.settled.Settled.hide.Goals as goal

pub returns-in_default : goal.returns-in_default
returns-in_default c =
    close-empty c.args.«module» c.args.self.now _ refl refl refl
    (no-table c.args.«module» c.args.self.now (slice_get_past c.args.self.now.tables.items c.args.«module»
    (ltb-false _ _ (sym c.in_default.ensures.item.0))))

pub returns-in_default-get : goal.returns-in_default-get
returns-in_default-get c =
    close-empty c.args.«module» c.args.self.now _ refl refl
    (ap (slice_set c.args.self.now.tables.items c.args.«module») c.in-Some.ensures.value
    ∙ set-get_or c.args.self.now.tables.items c.args.«module» c.in-Some.table.now)
    (no-taken c.args.«module» c.args.self.now (slice_get_past c.args.self.now.taken.items c.args.«module»
    (subst (λ rows. length rows ≤ c.args.«module») c.deref.ensures.value c.in_default-get.ensures.lookup.3)))

pub returns : goal.returns
returns c =
    let has : slice_get c.args.self.now.tables.items c.args.«module» ≡ Some c.in-Some.table.now =
    slice_get_read c.args.self.now.tables.items (length c.args.self.now.tables.items) c.args.«module»
    c.in-Some.table.now refl (ltb-true _ _ (sym c.in-Some.ensures.item.0)) c.in-Some.ensures.value in
    let row : slice_get c.args.self.now.taken.items c.args.«module» ≡ Some c.in-Some-get.taken.now =
    ap (λ rows. slice_get rows c.args.«module») (sym c.deref.ensures.value)
    ∙ slice_get_read c.deref.result.now (length c.deref.result.now) c.args.«module» c.in-Some-get.taken.now refl
    (ltb-true _ _ (sym c.in-Some-get.ensures.lookup.0)) c.in-Some-get.ensures.lookup.1 in
    close-hidden c.args.«module» c.args.self.now _ c.in-Some.table.now
    (record { own = c.in-Some.table.now.own; reaches = c.in-Some.table.now.reaches; hidden = c.in_ok-hidden.hidden })
    c.in-Some-get.taken.now refl refl refl has row refl refl
    (subst (λ row. IsHiding c.in-Some.table.now.own row c.in_ok-hidden.hidden.items) c.deref-2.ensures.value
    c.in_ok-hidden.ensures)

use Rattle.std.proofs.Common.{refl, sym, ap, length, ◌≡◌, ◌∙◌, slice_get, slice_set, Some, None}
use Rattle.std.proofs.lemmas.Bool.{ltb-true, ltb-false}
use Rattle.std.proofs.lemmas.Option.{slice_get_read, slice_get_past}
use Rattle.std.proofs.lemmas.List.{set-get_or}
use Rattle.scope_core.specs.inside.Settling.{taken_in, taken_at}
use Rattle.scope_core.proofs.CountLaws.{is-set, set-settles, same-settles, no-place, no-row, no-number}
use Rattle.scope_core.proofs.settled.Settled.set_taken.Goals as goal

pub returns-in-Some-get_mut-clause-settles : goal.returns-in-Some-get_mut-clause-settles
returns-in-Some-get_mut-clause-settles c inside =
    let has : slice_get c.args.self.now.taken.items c.args.place.«module» ≡ Some c.in-Some.taken.now =
    slice_get_read c.args.self.now.taken.items (length c.args.self.now.taken.items) c.args.place.«module»
    c.in-Some.taken.now refl (ltb-true _ _ (sym c.in-Some.ensures.item.0)) c.in-Some.ensures.value in
    let none : taken_at c.args.self.now.taken.items c.args.place ≡ None = sym c.taken.ensures
    ∙ no-number c.taken.result (sym c.if-is_some.ensures) in
    set-settles c.args.place c.args.number c.args.self.now _
    (is-set c.args.place c.args.number c.args.self.now.taken.items c.in-Some.taken.now _ has
    (ltb-true _ _ (sym c.in-Some-get_mut.ensures.item.0))
    (sym (ap (λ row. taken_in row c.args.place.index) has) ∙ none) refl)
    refl refl inside

pub returns-in_default-get_mut-clause-settles : goal.returns-in_default-get_mut-clause-settles
returns-in_default-get_mut-clause-settles c inside =
    let has : slice_get c.args.self.now.taken.items c.args.place.«module» ≡ Some c.in-Some.taken.now =
    slice_get_read c.args.self.now.taken.items (length c.args.self.now.taken.items) c.args.place.«module»
    c.in-Some.taken.now refl (ltb-true _ _ (sym c.in-Some.ensures.item.0)) c.in-Some.ensures.value in
    same-settles c.args.place _ c.args.self.now _ refl refl
    (ap (λ row. slice_set c.args.self.now.taken.items c.args.place.«module» row) c.in-Some.ensures.value
    ∙ set-get_or c.args.self.now.taken.items c.args.place.«module» c.in-Some.taken.now)
    (λ pieces one. no-place c.args.place c.args.self.now.taken.items c.in-Some.taken.now pieces one has
    (ltb-false _ _ (sym c.in_default-get_mut.ensures.item.0)))

pub returns-in_default-clause-settles : goal.returns-in_default-clause-settles
returns-in_default-clause-settles c inside =
    same-settles c.args.place _ c.args.self.now _ refl refl refl
    (λ pieces one. no-row c.args.place c.args.self.now.taken.items pieces one
    (slice_get_past c.args.self.now.taken.items c.args.place.«module»
    (ltb-false _ _ (sym c.in_default.ensures.item.0))))

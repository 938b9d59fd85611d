use Rattle.std.proofs.Common.{◌∙◌, false, sym, ap, Some, option_map}
use Rattle.scope_core.specs.inside.Settling.{likely_base, number_on, base_number}
use Rattle.scope_tables.specs.inside.Finding.{found_places}
use Rattle.scope_core.proofs.settled.Settled.base.Goals as goal

pub returns-in-Some : goal.returns-in-Some
returns-in-Some c =
    let names = c.args.scene.names.now in
    let tables = c.args.self.now.tables.items in
    let written = c.args.scene.written.now in
    let taken = c.args.self.now.taken.items in
    let takes = ap Some (sym c.in-Some-Based.field-0-is) ∙ (sym c.in-Some-Based.is ∙ c.takes_at.ensures) in
    let kept = c.requires.are c.args.place c.in-Some.base.now _
    (sym c.at.ensures ∙ ap (option_map (λ base. base.now)) c.in-Some.is) (sym takes) in
    c.number_on.ensures
    ∙ (λ i. number_on tables written taken ((c.deref.ensures.value ∙ kept.found_is) i) (kept.likely_is i))
    ∙ ap (base_number names tables written taken c.args.place.«module») takes

pub returns-in_ok-found-in-Some-Based : goal.returns-in_ok-found-in-Some-Based
returns-in_ok-found-in-Some-Based c =
    let tables = c.args.self.now.tables.items in
    let written = c.args.scene.written.now in
    let taken = c.args.self.now.taken.items in
    let found = c.in_ok-found-in-Some-Based.ensures
    ∙ (λ i. found_places (c.view.ensures.0 i) (c.view.ensures.1 i) c.args.place.«module»
    c.in-Some-Based.name.now.form false) in
    let given = c.deref-in-Some-Based-3.ensures.value ∙ found in
    let likely = c.deref-in-Some-Based-2.ensures.value ∙ found in
    c.number_on-in-Some-Based.ensures
    ∙ ap (number_on tables written taken c.deref-in-Some-Based-3.result.now) c.likely-base.ensures
    ∙ (λ i. number_on tables written taken (given i)
    (likely_base (c.deref-in-Some-Based.ensures.value i) c.args.place.«module» (likely i)))
    ∙ ap (λ takes. base_number c.args.scene.names.now tables written taken c.args.place.«module» (Some takes))
    (sym c.in-Some-Based.field-0-is)
    ∙ ap (base_number c.args.scene.names.now tables written taken c.args.place.«module»)
    (sym c.in-Some-Based.is ∙ c.takes_at.ensures)

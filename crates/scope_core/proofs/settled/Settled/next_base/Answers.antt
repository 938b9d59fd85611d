use Rattle.std.proofs.Common.{◌∙◌, false, sym, ap, Some, option_map}
use Rattle.scope_core.specs.inside.Settling.{likely_base, next_of}
use Rattle.scope_tables.specs.inside.Finding.{found_places}
use Rattle.scope_core.proofs.settled.Settled.next_base.Goals as goal

pub returns-in_ok-found-in-Some-Based : goal.returns-in_ok-found-in-Some-Based
returns-in_ok-found-in-Some-Based c =
    let tables = c.args.self.now.tables.items in
    let found = c.deref-in-Some-Based.ensures.value ∙ c.in_ok-found-in-Some-Based.ensures
    ∙ (λ i. found_places (c.view.ensures.0 i) (c.view.ensures.1 i) c.args.place.«module»
    c.in-Some-Based.name.now.form false) in
    c.likely.ensures
    ∙ (λ i. likely_base (c.deref.ensures.value i) c.args.place.«module» (found i))
    ∙ ap (λ takes. next_of c.args.scene.names.now tables c.args.place.«module» (Some takes))
    (sym c.in-Some-Based.field-0-is)
    ∙ ap (next_of c.args.scene.names.now tables c.args.place.«module»)
    (sym c.in-Some-Based.is ∙ c.takes_at.ensures)

pub returns-in-Some : goal.returns-in-Some
returns-in-Some c =
    let takes = ap Some (sym c.in-Some-Based.field-0-is) ∙ (sym c.in-Some-Based.is ∙ c.takes_at.ensures) in
    let kept = c.requires.are c.args.place c.in-Some.base.now _
    (sym c.at.ensures ∙ ap (option_map (λ base. base.now)) c.in-Some.is) (sym takes) in
    kept.likely_is ∙ ap (next_of c.args.scene.names.now c.args.self.now.tables.items c.args.place.«module») takes

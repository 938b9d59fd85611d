use Rattle.std.proofs.Common.{◌≡◌, ◌∙◌, not, false, sym, ap, subst, Some}
use Rattle.std.specs.List.{list_any}
use Rattle.case_table.specs.Lists.{with_first}
use Rattle.scope_tables.specs.Visible.{texts}
use Rattle.scope_core.specs.inside.Based.{Form, same_form, form_in, form_of, IsBase}
use Rattle.scope_tables.specs.inside.Finding.{found_places}
use Rattle.scope_core.proofs.FormLaws.{same_form-only, notes-fresh, notes-known}
use Rattle.scope_core.proofs.bases.note_base.Goals as goal

pub returns-in_ok-push-in-Parts : goal.returns-in_ok-push-in-Parts
returns-in_ok-push-in-Parts c =
    let names = c.args.view.names.now in
    let tables = c.args.view.tables.now in
    let form : Form = (c.in-Parts.absolute, texts c.in-Parts.parts) in
    let given : Form = (c.in-Parts.absolute, c.in_ok-copied-in-Parts.copied) in
    let is : given ≡ form =
    λ k. (c.in-Parts.absolute, (c.in_ok-copied-in-Parts.ensures ∙ ap texts c.list.ensures) k) in
    let stored = c.in_ok-number-in-Parts.ensures.stored in
    notes-fresh names tables c.args.module c.args.takes c.args.forms.now.keys c.insert_full.new.self.keys
    c.args.bases.now.items c.push.new.self.items form c.in_ok-base-in-Parts.base c.in_ok-number-in-Parts.number
    (ap form_of c.in-Based.is ∙ ap form_in c.in-Parts.is)
    (c.in_ok-number-in-Parts.ensures.keys ∙ ap (with_first same_form c.args.forms.now.keys) is)
    (ap (λ form. not (list_any (same_form form) c.args.forms.now.keys)) (sym is)
    ∙ sym c.in_ok-number-in-Parts.ensures.added ∙ c.if-fresh.true)
    (stored.1 ∙ ap Some (sym (same_form-only given stored.0 stored.2) ∙ is))
    (subst (λ form. IsBase tables c.args.module (found_places names tables c.args.module form false)
    c.in_ok-base-in-Parts.base) c.in-Parts.is c.in_ok-base-in-Parts.ensures)
    c.in_ok-push-in-Parts.ensures.items

pub returns-else-fresh : goal.returns-else-fresh
returns-else-fresh c =
    let form : Form = (c.in-Parts.absolute, texts c.in-Parts.parts) in
    let given : Form = (c.in-Parts.absolute, c.in_ok-copied-in-Parts.copied) in
    let is : given ≡ form =
    λ k. (c.in-Parts.absolute, (c.in_ok-copied-in-Parts.ensures ∙ ap texts c.list.ensures) k) in
    let stored = c.in_ok-number-in-Parts.ensures.stored in
    notes-known c.args.view.names.now c.args.view.tables.now c.args.module c.args.takes c.args.forms.now.keys
    c.insert_full.new.self.keys c.args.bases.now.items form c.in_ok-number-in-Parts.number
    (ap form_of c.in-Based.is ∙ ap form_in c.in-Parts.is)
    (c.in_ok-number-in-Parts.ensures.keys ∙ ap (with_first same_form c.args.forms.now.keys) is)
    (ap (λ form. not (list_any (same_form form) c.args.forms.now.keys)) (sym is)
    ∙ sym c.in_ok-number-in-Parts.ensures.added ∙ c.if-fresh.false)
    (stored.1 ∙ ap Some (sym (same_form-only given stored.0 stored.2) ∙ is))

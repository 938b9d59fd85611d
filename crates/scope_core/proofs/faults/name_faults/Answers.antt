use Rattle.std.proofs.Common.{◌≡◌, ◌∙◌, ◌&&◌, not, true, false, sym, ap, subst}
use Rattle.scope_core.specs.ScopeFaults.{clash}
use Rattle.scope_tables.specs.inside.Kinds.{has_none}
use Rattle.scope_core.specs.inside.Lessening.{least_onto}
use Rattle.scope_core.specs.inside.Noting.{NotesUsed, missing_by}
use Rattle.scope_core.specs.inside.Sums.{AreSums, kinds_under, under}
use Rattle.scope_core.proofs.ClashLaws.{name-listed, name-skipped}
use Rattle.scope_core.proofs.faults.name_faults.Goals as goal
use Rattle.scope_core.proofs.faults.name_faults.Goals.{else-bringing-via-then-bringing+else-not-is_empty}
use Rattle.scope_core.proofs.faults.name_faults.Goals.{else-bringing-via-else-bringing}

pub returns-in_ok-note_used : goal.returns-in_ok-note_used
returns-in_ok-note_used c =
    let tables = c.args.settled.now.tables.items in
    let from = c.args.bringing.now.from in
    let name = c.args.name.now in
    record {
      notes = λ world pieces before names listed are same old.
          let there : c.under-there.result ≡ under tables from name.text = c.under-there.ensures are.sums in
          let own : c.under-own.result ≡ under tables c.args.module name.text = c.under-own.ensures are.sums in
          name-listed world pieces c.args.settled.now c.args.module c.args.number from c.args.bringing.now.used before
          names listed name c.args.earlier.now.entries c.note_used.new.earlier.entries c.args.least.now
          c.note_missing.new.least c.note_used.new.least are same c.if-bringing.true
          (ap (λ u. has_none u.exported) (sym there) ∙ sym c.is_empty.ensures ∙ c.if-not-is_empty.true)
          (c.note_missing.ensures
          ∙ ap (λ u. least_onto c.args.least.now
          (missing_by c.args.number name.span.at (has_none u.all) (has_none u.exported))) there)
          (subst (λ u. NotesUsed u.all (kinds_under tables from name.text true) from name.text
          (clash c.args.number name.span.at) c.args.earlier.now.entries c.note_missing.new.least
          c.note_used.new.earlier.entries c.note_used.new.least) own
          (subst (λ u. NotesUsed c.under-own.result.all u.exported from name.text
          (clash c.args.number name.span.at) c.args.earlier.now.entries c.note_missing.new.least
          c.note_used.new.earlier.entries c.note_used.new.least) there c.in_ok-note_used.ensures))
          old;
    }

pub returns-else-bringing : goal.returns-else-bringing
returns-else-bringing c =
    let tables = c.args.settled.now.tables.items in
    let from = c.args.bringing.now.from in
    let used = c.args.bringing.now.used in
    let name = c.args.name.now in
    let skipped : AreSums tables c.args.settled.now.sums.items
    → (used && not (has_none (kinds_under tables from name.text true))) ≡ false =
    λ sums.
    elim c.else-bringing.branch [
      | else-bringing-via-then-bringing+else-not-is_empty w ↦
          (λ k. w.if-bringing.true k && not ((ap (λ u. has_none u.exported) (sym (c.under-there.ensures sums))
          ∙ sym w.is_empty.ensures ∙ w.if-not-is_empty.false) k))
      | else-bringing-via-else-bringing w ↦
          ap (λ b. b && not (has_none (kinds_under tables from name.text true))) w.if-bringing.false
    ] in
    record {
      notes = λ world pieces before names listed are same old.
          name-skipped world pieces c.args.settled.now c.args.number from used before names listed name
          c.args.earlier.now.entries c.args.least.now c.note_missing.new.least are (skipped are.sums)
          (c.note_missing.ensures
          ∙ ap (λ u. least_onto c.args.least.now
          (missing_by c.args.number name.span.at (has_none u.all) (has_none u.exported)))
          (c.under-there.ensures are.sums))
          old;
    }

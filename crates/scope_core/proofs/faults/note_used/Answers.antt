use Rattle.std.proofs.Common.{◌≡◌, ◌∙◌, sym, ap}
use Rattle.std.proofs.lemmas.Bool.{cond-true, cond-false}
use Rattle.scope_core.specs.inside.Lessening.{lesser}
use Rattle.scope_core.specs.inside.Noting.{is_clash, listed_under}
use Rattle.scope_core.proofs.faults.note_used.Goals as goal
use Rattle.scope_core.proofs.faults.note_used.Goals.{then-is_clash, else-is_clash}

pub returns : goal.returns
returns c =
    let test : c.is_clash.result ≡ is_clash c.args.own c.args.exported
    (listed_under c.args.earlier.now.entries c.args.name.now) c.args.from =
    c.is_clash.ensures
    ∙ ap (λ listed. is_clash c.args.own c.args.exported listed c.args.from)
    (c.copied-listed.ensures ∙ c.get.ensures.value) in
    let clash = is_clash c.args.own c.args.exported
    (listed_under c.args.earlier.now.entries c.args.name.now) c.args.from in
    record {
      listed = c.in_ok-note_listed.ensures;
      least_is =
          elim c.if-is_clash.branch [
            | then-is_clash w ↦
                w.least-is ∙ w.note.ensures
                ∙ sym (cond-true clash (lesser c.args.least.now c.args.fault) c.args.least.now
                (sym test ∙ w.if-is_clash.true))
            | else-is_clash w ↦
                w.least-is
                ∙ sym (cond-false clash (lesser c.args.least.now c.args.fault) c.args.least.now
                (sym test ∙ w.if-is_clash.false))
          ];
    }

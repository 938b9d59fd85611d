use Rattle.std.proofs.Common.{◌+◌, sym, subst, refl, length}
use Rattle.std.proofs.lemmas.Option.{slice_get_read}
use Rattle.scope_core.specs.inside.Based.{AreNotedBases}
use Rattle.scope_core.proofs.FormLaws.{noted-more, bases-made}
use Rattle.scope_core.proofs.bases.bases_of.Goals as goal

pub loop-index-preserved : goal.loop-index-preserved
loop-index-preserved c =
    let takes = c.args.takes.now in
    let names = c.args.view.names.now in
    let tables = c.args.view.tables.now in
    subst (AreNotedBases names tables c.args.module takes (c.loop-index.index + 1) c.note_base.new.forms.keys
    c.note_base.new.bases.items) (sym c.in_ok-push.ensures.items)
    (noted-more names tables c.args.module takes c.loop-index.index c.loop-index.forms.keys c.note_base.new.forms.keys
    c.loop-index.bases.items c.note_base.new.bases.items c.loop-index.indices.items c.in_ok-number.number
    c.index-takes-index.result c.loop-index.invariant
    (slice_get_read takes (length takes) c.loop-index.index c.index-takes-index.result refl c.loop-index-test.true
    c.index-takes-index.is)
    c.in_ok-number.ensures)

pub returns : goal.returns
returns c =
    bases-made c.args.view.names.now c.args.view.tables.now c.args.module c.args.takes.now c.loop-index.index
    c.loop-index.forms.keys
    (record { «module» = c.args.module; indices = c.loop-index.indices; bases = c.loop-index.bases }) refl
    c.loop-index.invariant

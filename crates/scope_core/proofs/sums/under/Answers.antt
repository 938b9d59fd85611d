use Rattle.std.proofs.Common.{◌∙◌, [], true, false, refl, sym, ap, length, map, slice_index_or}
use Rattle.std.proofs.lemmas.Bool.{ltb-true, ltb-false}
use Rattle.std.proofs.lemmas.Option.{slice_get_read, slice_get_past}
use Rattle.scope_core.specs.inside.Sums.{kinds_in, nothing}
use Rattle.scope_core.proofs.SumLaws.{under-at}
use Rattle.scope_core.proofs.sums.under.Goals as goal

pub returns-in-Some : goal.returns-in-Some
returns-in-Some c are =
    let tables = c.args.tables.now in
    let table = c.in-Some.table.now in
    c.numbered.ensures
    ∙ ap (λ number. slice_index_or (slice_index_or (map (λ row. row.items) c.args.sums.now) c.args.module []) number
    nothing) c.number.ensures
    ∙ under-at tables c.args.sums.now c.args.module table c.args.name.now
    (slice_get_read tables (length tables) c.args.module table refl (ltb-true _ _ (sym c.in-Some.ensures.lookup.0))
    c.in-Some.ensures.lookup.1) are

pub returns-in-None : goal.returns-in-None
returns-in-None c are =
    ap (λ t. record { all = kinds_in t c.args.name.now false; exported = kinds_in t c.args.name.now true })
    (sym (slice_get_past c.args.tables.now c.args.module (ltb-false _ _ (sym c.in-None.ensures.lookup.0))))

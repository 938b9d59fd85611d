use Rattle.std.proofs.Common.{◌∙◌, sym, ap, take, get_or}
use Rattle.std.proofs.lemmas.List.{take_more}
use Rattle.scope_tables.specs.inside.Kinds.{both}
use Rattle.scope_core.specs.inside.Sums.{kinds_of_all}
use Rattle.scope_core.proofs.UnderLaws.{all-push}
use Rattle.scope_core.proofs.sums.kinds_of_all.Goals as goal

pub loop-index-preserved : goal.loop-index-preserved
loop-index-preserved c =
    let table = c.args.table.now in
    let indices = c.args.indices.now in
    let i = c.loop-index.index-index in
    c.and-kinds.ensures
    ∙ (λ k. both (c.loop-index.invariant k) (c.kinds_there.ensures k))
    ∙ all-push table c.args.exported (take i indices) (get_or indices i 0)
    ∙ ap (kinds_of_all table c.args.exported) (sym (take_more indices i 0 c.loop-index-test.true))

use Rattle.std.proofs.Common.{◌∙◌, ◌++◌, ◌∷◌, ◌<◌, [], ap, subst}
use Rattle.scope_core.specs.inside.Sums.{under_all}
use Rattle.scope_core.proofs.SumLaws.{sums-next}
use Rattle.scope_core.proofs.sums.sums_in.Goals as goal

pub loop-number-preserved : goal.loop-number-preserved
loop-number-preserved c =
    let table = c.args.table.now in
    c.in_ok-push.ensures.items
    ∙ (λ k. c.loop-number.invariant k ++ (c.under_all.ensures ∙ ap (under_all table) c.numbered.ensures) k ∷ [])
    ∙ sums-next table c.loop-number.number (subst (λ n. c.loop-number.number < n) c.count-number-end.ensures
    c.loop-number-test.true)

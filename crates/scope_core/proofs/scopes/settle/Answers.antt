use Rattle.std.proofs.Common.{◌∙◌, map, ap, sym, subst}
use Rattle.scope_tables.specs.inside.Order.{IsOrder}
use Rattle.scope_tables.specs.inside.Reaching.{froms}
use Rattle.scope_core.proofs.NewLaws.{sources-are}
use Rattle.scope_core.proofs.scopes.settle.Goals as goal

pub returns : goal.returns
returns c world pieces describes hold none brings long =
    c.settle_all.ensures world pieces describes hold none long
    (subst (λ order. IsOrder (map froms world.brings) order) (sym c.deref-2.ensures.value)
    (subst (λ links. IsOrder links c.in_ok-order.order.items)
    (ap (map (λ targets. targets.items)) c.deref.ensures.value ∙ c.in_ok-links.ensures
    ∙ sym (ap (map froms) brings ∙ sources-are c.args.brought.now))
    c.in_ok-order.ensures))

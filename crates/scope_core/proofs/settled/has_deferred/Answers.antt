use Rattle.std.proofs.Common.{sym, ap, ◌∙◌}
use Rattle.scope_tables.specs.Types.{has_deferred}
use Rattle.scope_tables.specs.inside.Pieces.{takes_of}
use Rattle.scope_core.proofs.SettleLaws.{deferred-of}
use Rattle.scope_core.proofs.settled.has_deferred.Goals as goal

pub returns-in-Listed : goal.returns-in-Listed
returns-in-Listed c =
    c.any_deferred.ensures ∙ deferred-of c.in-Listed.params.now
    ∙ ap (λ takes. has_deferred (takes_of takes)) (sym c.in-Listed.is)

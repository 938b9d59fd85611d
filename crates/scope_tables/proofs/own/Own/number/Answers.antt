use Rattle.std.proofs.Common.{sym, ap, ◌∙◌}
use Rattle.std.specs.List.{position_or_len}
use Rattle.scope_tables.specs.inside.Owning.{same_text}
use Rattle.scope_tables.proofs.OwnLaws.{number-none}
use Rattle.scope_tables.proofs.own.Own.number.Goals as goal

pub returns-in-None : goal.returns-in-None
returns-in-None c =
    rw (c.self.view_is) at
    (c.len.ensures.len
    ∙ number-none (same_text c.args.name.now) c.self.inside.names.keys (sym c.get_index_of.ensures.index ∙ c.in-None.is)
    ∙ ap (position_or_len (same_text c.args.name.now)) c.self.invariant.0.names_are)

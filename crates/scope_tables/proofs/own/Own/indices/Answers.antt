use Rattle.std.proofs.Common.{sym, ap, map, is_some, ◌∙◌}
use Rattle.std.proofs.Math.ListN.{get_or-map}
use Rattle.scope_tables.proofs.OwnLaws.{found-list, missed-list}
use Rattle.scope_tables.proofs.own.Own.indices.Goals as goal

pub returns-in-Some : goal.returns-in-Some
returns-in-Some c =
    rw (c.self.view_is) at
    (c.deref.ensures ∙ ap (λ list. list.items) c.index.ensures
    ∙ sym (get_or-map (λ list. list.items) c.self.inside.lists.items c.in-Some.number c.index.result.now)
    ∙ found-list c.self.inside.entities.items c.self.inside.names.keys
    (map (λ list. list.items) c.self.inside.lists.items) c.args.name.now c.in-Some.number c.index.result.now.items
    c.self.invariant.0 (sym c.get_index_of.ensures.index ∙ c.in-Some.is))

pub returns-in-None : goal.returns-in-None
returns-in-None c =
    rw (c.self.view_is) at
    (missed-list c.self.inside.entities.items c.self.inside.names.keys
    (map (λ list. list.items) c.self.inside.lists.items) c.args.name.now c.self.invariant.0
    (sym c.get_index_of.ensures.found ∙ ap is_some c.in-None.is))

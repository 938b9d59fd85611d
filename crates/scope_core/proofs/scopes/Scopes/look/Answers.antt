use Rattle.std.proofs.Common.{ap, ◌∙◌, true, false}
use Rattle.std.specs.List.{filter_map}
use Rattle.scope_tables.specs.Visible.{look}
use Rattle.scope_tables.specs.inside.Finding.{entity_at, found_places}
use Rattle.scope_tables.specs.inside.Kinds.{looked_among}
use Rattle.scope_core.proofs.LookLaws.{look-is}
use Rattle.scope_core.proofs.scopes.Scopes.look.Goals as goal

pub returns : goal.returns
returns c world entities holds inside =
    let tables = c.args.self.now.tables.items in
    let name = c.args.name.now.form in
    c.in_ok-looked.ensures
    ∙ (λ k. looked_among
    (filter_map (entity_at (c.deref-2.ensures.value k))
    (found_places (c.deref.ensures.value k) (c.deref-2.ensures.value k) c.args.module name false))
    (filter_map (entity_at (c.deref-2.ensures.value k))
    (found_places (c.deref.ensures.value k) (c.deref-2.ensures.value k) c.args.module name true)))
    ∙ ap (λ names. looked_among (filter_map (entity_at tables) (found_places names tables c.args.module name false))
    (filter_map (entity_at tables) (found_places names tables c.args.module name true))) holds.names
    ∙ look-is world tables holds.pieces c.args.module name holds.hold inside
    ∙ ap (λ standing. look world standing c.args.module name) holds.stand

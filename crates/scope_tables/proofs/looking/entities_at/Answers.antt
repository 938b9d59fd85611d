use Rattle.std.proofs.Common.{sym, ap, take, slice_index_or, ◌∙◌, ◌++◌, ◌∷◌, []}
use Rattle.std.specs.List.{filter_map}
use Rattle.std.proofs.lemmas.List.{take_more}
use Rattle.std.proofs.lemmas.List.Elements.{filter_map-append}
use Rattle.scope_tables.specs.inside.Finding.{entity_at, placed}
use Rattle.scope_tables.proofs.looking.entities_at.Goals as goal

pub loop-index-preserved : goal.loop-index-preserved
loop-index-preserved c =
    let tables = c.args.view.tables.now in
    let places = c.args.places.now in
    let i = c.loop-index.index in
    c.in_ok-push_at.ensures
    ∙ ap (λ l. l ++ filter_map (entity_at tables) (slice_index_or places i (placed 0 0) ∷ [])) c.loop-index.invariant
    ∙ sym (ap (filter_map (entity_at tables)) (take_more places i (placed 0 0) c.loop-index-test.true)
    ∙ filter_map-append (entity_at tables) (take i places) (slice_index_or places i (placed 0 0) ∷ []))

use Rattle.std.proofs.Common.{sym, ap, map, take, ◌∙◌, ◌++◌, ◌∷◌, []}
use Rattle.std.proofs.lemmas.List.{take_more, map-append}
use Rattle.scope_tables.specs.inside.Kinds.{both, kinds_among}
use Rattle.scope_tables.proofs.KindLaws.{kinds-push}
use Rattle.scope_tables.proofs.looking.kinds_of.Goals as goal

pub loop-entity-preserved : goal.loop-entity-preserved
loop-entity-preserved c =
    let entities = c.args.entities.now in
    let i = c.loop-entity.entity-index in
    let one = c.entity-item.result in
    c.and-kinds.ensures
    ∙ (λ k. both (c.loop-entity.invariant k) (c.of.ensures k))
    ∙ kinds-push (map (λ entity. entity.now) (take i entities)) one.now
    ∙ sym (ap kinds_among
    (ap (map (λ entity. entity.now))
    (take_more entities i one c.loop-entity-test.true ∙ ap (λ e. take i entities ++ e ∷ []) (sym c.entity-item.is))
    ∙ map-append (λ entity. entity.now) (take i entities) (one ∷ [])))

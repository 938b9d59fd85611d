use Rattle.std.proofs.Common.{◌≡◌, ◌∙◌, ◌<◌, ◌++◌, ◌∷◌, [], ◌+◌, length, length-take-le, take, map, sym, ap, subst, arith}
use Rattle.std.specs.List.{position_or_len}
use Rattle.scope_tables.specs.inside.Owning.{AreOwn, same_text, numbers_of}
use Rattle.scope_tables.proofs.MemberLaws.{take-next}
use Rattle.scope_tables.proofs.OwnLaws.{numbers-push}
use Rattle.scope_tables.proofs.own.Own.of.Goals as goal

pub loop-index-preserved : goal.loop-index-preserved
loop-index-preserved c =
    let i = c.loop-index.index in
    let entities = c.args.entities.items in
    let entity = c.index.result.now in
    let number = c.in_ok-number.number in
    let within : i < length entities = omega (arith, c.loop-index-test.true, c.loop-index.auto.index-end) in
    let next : take (i + 1) entities ≡ take i entities ++ entity ∷ [] =
    take-next entities i entity within c.index.ensures in (
      subst (λ all. AreOwn all c.note.new.names.keys (map (λ list. list.items) c.note.new.lists.items)) (sym next)
          (c.in_ok-number.ensures.own (take i entities) (length-take-le i entities (omega (arith, within)))
          c.loop-index.invariant.0),
      c.in_ok-push.ensures.items ∙ ap (λ l. l ++ number ∷ []) c.loop-index.invariant.1
          ∙ sym (numbers-push (take i entities) entity number
          (c.in_ok-number.ensures.number
          ∙ ap (position_or_len (same_text entity.name)) c.loop-index.invariant.0.names_are))
          ∙ ap numbers_of (sym next),
    )

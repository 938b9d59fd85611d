use Rattle.std.proofs.Common.{◌∙◌, ◌≡◌, ◌∷◌, [], sym, subst, map, slice_index_or}
use Rattle.std.proofs.lemmas.List.{nil_from_length}
use Rattle.scope_tables.specs.inside.Reaching.{bringing_of, AreReaches}
use Rattle.scope_core.specs.inside.Scoping.{Makes}
use Rattle.scope_core.proofs.ScopingLaws.{makes_start, makes_more, makes_end}
use Rattle.scope_core.proofs.scopes.tables_of.Goals as goal

pub loop-piece-init : goal.loop-piece-init
loop-piece-init c =
    let brings = map (λ one. map bringing_of one.items) c.args.brought.now in
    let all : c.into_iter-piece-iterator.result.rest.items ≡ c.args.pieces.items =
    c.into_iter-piece-iterator.ensures.into_iter_gives.0 in
    subst (λ l. Makes brings c.args.pieces.items c.into_iter-piece-iterator.result.rest.items l
    c.new-written.result.items) (sym c.new-tables.ensures.items)
    (subst (λ l. Makes brings c.args.pieces.items c.into_iter-piece-iterator.result.rest.items [] l)
    (sym c.new-written.ensures.items)
    (subst (λ l. Makes brings c.args.pieces.items l [] []) (sym all)
    (makes_start brings c.args.pieces.items)))

pub loop-piece-preserved : goal.loop-piece-preserved
loop-piece-preserved c =
    let brings = map (λ one. map bringing_of one.items) c.args.brought.now in
    let next : c.loop-piece.piece-iterator.rest.items ≡ c.in-Some.piece ∷ c.next.new.self.rest.items =
    c.in-Some.ensures.steps.0 in
    makes_more brings c.args.pieces.items c.next.new.self.rest.items c.in-Some.piece c.in_ok-table.table
    c.loop-piece.tables.items c.push.new.self.items c.loop-piece.written.items c.push-in-loop-piece.new.self.items
    c.in_ok-reaches.reaches.items
    (subst (λ l. Makes brings c.args.pieces.items l c.loop-piece.tables.items c.loop-piece.written.items) next
    c.loop-piece.invariant)
    (subst (λ n. AreReaches n (slice_index_or brings n []) c.in_ok-reaches.reaches.items)
    (c.len.ensures ∙ c.loop-piece.tables.ok.0)
    c.in_ok-reaches.ensures) c.in_ok-table.ensures.own c.in_ok-table.ensures.reaches c.in_ok-table.ensures.hidden
    c.in_ok-push.ensures.items c.in_ok-push-2.ensures.items

pub returns : goal.returns
returns c world all brought are inside =
    let brings = map (λ one. map bringing_of one.items) c.args.brought.now in
    let end : c.loop-piece.piece-iterator.rest.items ≡ [] =
    nil_from_length c.loop-piece.piece-iterator.rest.items
    (sym c.loop-piece.piece-iterator.rest.ok.0 ∙ c.in-None.ensures.steps.0) in
    makes_end brings c.args.pieces.items c.loop-piece.tables.items c.loop-piece.written.items world all
    (subst (λ l. Makes brings c.args.pieces.items l c.loop-piece.tables.items c.loop-piece.written.items) end
    c.loop-piece.invariant)
    brought are inside

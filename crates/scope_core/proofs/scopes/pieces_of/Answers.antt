use Rattle.std.proofs.Common.{subst, arith, length, map, ap, sym, ◌∙◌}
use Rattle.mdl_syntax.specs.declared.modules.Module.{Module}
use Rattle.mdl_syntax.specs.Modules.{module_of, declaration_of}
use Rattle.scope_tables.specs.Entities.{declared_from}
use Rattle.scope_tables.specs.PreludeEntities.{prelude}
use Rattle.scope_tables.specs.inside.Pieces.{IsPiece}
use Rattle.scope_core.proofs.ScopingLaws.{pieces_more, pieces_end}
use Rattle.scope_core.proofs.scopes.pieces_of.Goals as goal

pub loop-index-preserved : goal.loop-index-preserved
loop-index-preserved c =
    pieces_more c.args.modules.now c.loop-index.pieces.items c.push.new.self.items c.loop-index.index
    c.index-modules-index.result c.in_ok-piece.piece c.loop-index.invariant (omega arith) c.index-modules-index.is
    (subst (λ m. IsPiece (declared_from m 0 (module_of c.index-modules-index.result).declarations) c.in_ok-piece.piece)
    c.in_ok-number_of.ensures
    (subst (λ decls. IsPiece (declared_from c.in_ok-number_of.field-0 0 (map declaration_of decls)) c.in_ok-piece.piece)
    (c.list.ensures ∙ ap (λ (one : Module). one.decls)
    (sym c.index-modules-index.is)) c.in_ok-piece.ensures)) c.in_ok-push.ensures.items

pub returns : goal.returns
returns c =
    pieces_end c.args.modules.now c.loop-index.pieces.items c.push-2.new.self.items c.loop-index.index
    (prelude (length c.args.modules.now))
    c.in_ok-piece-2.piece c.loop-index.invariant (omega (arith, c.loop-index-test.false))
    (subst (λ m. IsPiece (prelude m) c.in_ok-piece-2.piece) c.in_ok-number_of-2.ensures c.in_ok-piece-2.ensures)
    c.in_ok-push-2.ensures.items

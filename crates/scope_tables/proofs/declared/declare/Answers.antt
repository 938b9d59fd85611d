use Rattle.std.proofs.Common.{subst, arith}
use Rattle.mdl_syntax.specs.Modules.{declaration_of}
use Rattle.scope_tables.specs.Entities.{declared}
use Rattle.scope_tables.specs.inside.Pieces.{Appends}
use Rattle.scope_tables.proofs.PieceLaws.{declarations_more}
use Rattle.scope_tables.proofs.declared.declare.Goals as goal

pub loop-index-preserved : goal.loop-index-preserved
loop-index-preserved c =
    declarations_more c.args.module c.args.decls.now c.loop-index.piece c.push_declaration.new.piece c.loop-index.index
    c.index-decls-index.result c.loop-index.invariant (omega arith) c.index-decls-index.is
    (subst (λ decl. Appends (declared c.args.module decl (declaration_of c.index-decls-index.result))
    c.loop-index.piece c.push_declaration.new.piece) c.in_ok-number_of.ensures c.in_ok-push_declaration.ensures)

-- some declarations came, and the others are left
use Rattle.scope_tables.specs.inside.Pieces.{DeclarationsLeft}
use Rattle.scope_tables.proofs.declared.declare.Given as goal

abbrev pub invariant-loop-index : goal.invariant-loop-index
invariant-loop-index l = DeclarationsLeft l.module l.decls l.piece l.index

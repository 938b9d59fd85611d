-- the pieces of some modules came, and the others are left
use Rattle.scope_core.specs.inside.Scoping.{PiecesLeft}
use Rattle.scope_core.proofs.scopes.pieces_of.Given as goal

abbrev pub invariant-loop-index : goal.invariant-loop-index
invariant-loop-index l = PiecesLeft l.modules l.pieces.items l.index

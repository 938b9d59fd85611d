-- the tables of some pieces are made, and the others are left
use Rattle.std.proofs.Common.{map}
use Rattle.scope_tables.specs.inside.Reaching.{bringing_of}
use Rattle.scope_core.specs.inside.Scoping.{Makes}
use Rattle.scope_core.proofs.scopes.tables_of.Given as goal

abbrev pub invariant-loop-piece : goal.invariant-loop-piece
invariant-loop-piece l = Makes (map (λ one. map bringing_of one.items) l.brought) l.fn.pieces.items
    l.piece-iterator.rest.items l.tables.items l.written.items

-- some values came, and the others are left
use Rattle.scope_tables.specs.inside.Pieces.{ValuesLeft}
use Rattle.scope_tables.proofs.declared.push_values.Given as goal

abbrev pub invariant-loop-index : goal.invariant-loop-index
invariant-loop-index l =
    ValuesLeft l.id.module l.id.decl 1 l.exported l.group.text l.values l.fn.piece l.piece l.index

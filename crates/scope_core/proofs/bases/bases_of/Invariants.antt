-- the entities before are noted
use Rattle.scope_core.specs.inside.Based.{AreNotedBases}
use Rattle.scope_core.proofs.bases.bases_of.Given as goal

abbrev pub invariant-loop-index : goal.invariant-loop-index
invariant-loop-index l =
    AreNotedBases l.view.names.now l.view.tables.now l.module l.takes l.index l.forms.keys l.bases.items
    l.indices.items

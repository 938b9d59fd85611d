use Rattle.std.proofs.Common.{◌∙◌, sym, ap, map-id}
use Rattle.std.proofs.lemmas.Iterator.{YieldsList-from_chars}
use Rattle.std.proofs.lemmas.Iterator.Consumers.{YieldsList-end}
use Rattle.io_edge.specs.Places.{line_behind, column_behind}
use Rattle.io_edge.proofs.place.place_behind.Goals as goal

pub returns-clause-line : goal.returns-clause-line
returns-clause-line c =
    let end = YieldsList-end (YieldsList-from_chars c.args.front.now c.utf8.front cc)
    c.loop-character.yielded _ c.loop-character.yielded_by _ _ c.in-None.is c.next.ensures.steps in
    c.loop-character.invariant.0 ∙ ap line_behind (sym (map-id c.loop-character.yielded) ∙ end.0)

pub returns-clause-column : goal.returns-clause-column
returns-clause-column c =
    let end = YieldsList-end (YieldsList-from_chars c.args.front.now c.utf8.front cc)
    c.loop-character.yielded _ c.loop-character.yielded_by _ _ c.in-None.is c.next.ensures.steps in
    c.loop-character.invariant.1 ∙ ap column_behind (sym (map-id c.loop-character.yielded) ∙ end.0)

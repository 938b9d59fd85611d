-- A term's kids are read with one height less, and what is left of them reads as all did.
use Rattle.std.proofs.Common.{◌≡◌, ◌+◌, ◌*◌, [], ◌∷◌, drop, map}
use Rattle.mdl_cli.specs.Words.{kinds_of}
use Rattle.mdl_cli.specs.inside.Reading as reading
use Rattle.mdl_cli.specs.inside.Trees.{term_of}
use Rattle.mdl_cli.specs.inside.Gives.{behind_terms}
use Rattle.mdl_cli.proofs.terms.+term.Given as goal

abbrev pub decreases-term_in : goal.decreases-term_in
decreases-term_in l = 8 * l.height

abbrev pub decreases-next_in : goal.decreases-next_in
decreases-next_in l = 8 * l.height + 1

abbrev pub decreases-others_in : goal.decreases-others_in
decreases-others_in l = 8 * l.height + 2

abbrev pub decreases-kids_in : goal.decreases-kids_in
decreases-kids_in l = 8 * l.height + 3

abbrev pub decreases-operands_in : goal.decreases-operands_in
decreases-operands_in l = 8 * l.height + 4

abbrev pub decreases-under : goal.decreases-under
decreases-under l = 8 * l.height + 5

abbrev pub invariant-others_in-loop-arg : goal.invariant-others_in-loop-arg
invariant-others_in-loop-arg l =
    behind_terms (map term_of l.kids.items)
    (reading.others_in (reading.term_in l.height) (drop l.arg-index l.args) (kinds_of l.rest))
    ≡ behind_terms (term_of l.fn.first ∷ [])
    (reading.others_in (reading.term_in l.height) l.args (kinds_of l.fn.words))

-- The search by `is_same` finds what `same_symbol` tells equal.
use Rattle.std.proofs.Common.{ap, sym, ◌∙◌, Some, rules, tests}
use Rattle.std.proofs.lemmas.Iterator.{YieldsList-from_slice}
use Rattle.std.proofs.lemmas.Iterator.Search.{position_from_yields_List}
use Rattle.std.proofs.lemmas.Option.{IfSome_then}
use Rattle.type_rules.specs.Same.{same_symbol}
use Rattle.type_rules.specs.TermLaws.{same_symbol-only}
use Rattle.dag_store.proofs.Places.{IsPosition, IfSome-position, IfNone-position}
use Rattle.dag_store.proofs.store.find_symbol.Goals as goal

position-is : (c : goal.After-position)
    → IsPosition (same_symbol c.args.wanted.now) c.args.symbols.now c.position.result
position-is c =
    position_from_yields_List (same_symbol c.args.wanted.now) _ _ c.position.result c.position.ensures.ran
    (YieldsList-from_slice c.args.symbols.now cc) (λ x b q k. search (rules, tests))

pub returns-clause-found : goal.returns-clause-found
returns-clause-found c =
    let test = same_symbol c.args.wanted.now in
    IfSome_then c.position.result (IfSome-position test c.args.symbols.now c.position.result (position-is c))
    (λ k w. w.1 ∙ ap Some (sym (same_symbol-only c.args.wanted.now w.0 w.2)))

pub returns-clause-absent : goal.returns-clause-absent
returns-clause-absent c =
    let test = same_symbol c.args.wanted.now in
    IfNone-position test c.args.symbols.now c.position.result (position-is c)

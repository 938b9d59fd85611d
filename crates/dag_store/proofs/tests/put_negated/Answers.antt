-- The negation takes one kid of the type that a whole number has.
use Rattle.std.proofs.Common.{[], ◌∷◌, map, slice_get, sym, ap, ◌∙◌}
use Rattle.type_rules.specs.declared.symbol.Symbol.TheVariants as symbol
use Rattle.type_rules.specs.Terms.{apply, nil}
use Rattle.dag_store.specs.Unfolding.{terms_of}
use Rattle.dag_store.specs.StoreLaws.{Fits-from_kids}
use Rattle.dag_store.proofs.tests.put_negated.Goals as goal

pub put-requires : goal.put-requires
put-requires c =
    let kept = c.intern.new.self in
    let number = apply (symbol.Int c.args.value) nil in
    let at_kid =
    ap (λ ts. slice_get ts c.in_ok-kid.kid.0) c.in_ok-number.ensures.terms ∙ c.in_ok-kid.ensures in
    let at_kids = ap (map (slice_get (terms_of kept))) c.in_ok-copy.ensures ∙ ap (λ o. o ∷ []) at_kid in
    Fits-from_kids kept _ c.in_ok-negation.negation (number ∷ []) c.in_ok-number.ensures.number at_kids
    (sym c.in_ok-negation.ensures)

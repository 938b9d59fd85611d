-- The search by the derived `==` finds the equal node.
use Rattle.std.proofs.Common.{◌≡◌, Bool, true, ap, sym, ◌∙◌, refl, eqb, Some, rules, tests}
use Rattle.std.specs.Str.{bytes_eq}
use Rattle.std.specs.Cmp.Lexicographic.{bytes_decides}
use Rattle.std.proofs.lemmas.Bool.{false≢true, and_parts, and_from, eqb-true, eq-eqb}
use Rattle.std.proofs.lemmas.Iterator.{YieldsList-from_slice}
use Rattle.std.proofs.lemmas.Iterator.Search.{position_from_yields_List}
use Rattle.std.proofs.lemmas.Map.Keys.{any_passes_from_place}
use Rattle.std.proofs.lemmas.Option.{IfSome_then}
use Rattle.dag_store.specs.declared.store.Node.{Node}
use Rattle.dag_store.specs.contracts.store.NodePartialEq.TheImpl as derived
use Rattle.dag_store.proofs.Places.{IsPosition, IfSome-position, IfNone-position, IfNone_then}
use Rattle.dag_store.proofs.store.find_node.Goals as goal

-- the derived equality, with the wanted node behind
same_as : Node → Node → Bool
same_as wanted known = (derived.ghosts).eq known wanted

-- it is true of equal nodes alone
only : (wanted known : Node) → same_as wanted known ≡ true → known ≡ wanted
unfolding same_as
only wanted known h =
    let both = and_parts (eqb known.symbol wanted.symbol) (bytes_eq known.kids wanted.kids) h in
    let symbol : known.symbol ≡ wanted.symbol = eqb-true known.symbol wanted.symbol both.0 in
    let kids : known.kids ≡ wanted.kids = (bytes_decides known.kids wanted.kids).0 both.1 in
    λ i. record { symbol = symbol i; kids = kids i }

-- and of a node and itself
itself : (node : Node) → same_as node node ≡ true
unfolding same_as
itself node = and_from _ _ (eq-eqb node.symbol node.symbol refl) ((bytes_decides node.kids node.kids).1 refl)

position-is : (c : goal.After-position)
    → IsPosition (same_as c.args.wanted.now) c.args.nodes.now c.position.result
unfolding same_as
position-is c =
    position_from_yields_List (same_as c.args.wanted.now) _ _ c.position.result c.position.ensures.ran
    (YieldsList-from_slice c.args.nodes.now cc) (λ x b q k. search (rules, tests))

pub returns-clause-found : goal.returns-clause-found
returns-clause-found c =
    let test = same_as c.args.wanted.now in
    IfSome_then c.position.result (IfSome-position test c.args.nodes.now c.position.result (position-is c))
    (λ k w. w.1 ∙ ap Some (only c.args.wanted.now w.0 w.2))

pub returns-clause-absent : goal.returns-clause-absent
returns-clause-absent c =
    let test = same_as c.args.wanted.now in
    IfNone_then c.position.result (IfNone-position test c.args.nodes.now c.position.result (position-is c))
    (λ none k at.
    let own = itself c.args.wanted.now in
    false≢true (sym none ∙ any_passes_from_place test c.args.nodes.now k c.args.wanted.now at own))

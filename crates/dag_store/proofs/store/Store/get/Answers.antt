-- What stands at an id, by the laws of the store.
use Rattle.std.proofs.Common.{◌≡◌, ◌<◌, length, Some, refl, sym, subst}
use Rattle.std.specs.List.{slice_get}
use Rattle.std.proofs.lemmas.Option.{slice_get_read}
use Rattle.dag_store.specs.Unfolding.{IsShared}
use Rattle.dag_store.specs.StoreLaws.{slice_get-terms_of, Fits-slice_get, kids-below}
use Rattle.dag_store.proofs.store.Store.get.Goals as goal

is_shared : (c : goal.After-index) → IsShared c.args.self.now
is_shared c = subst IsShared c.self.view_is c.self.invariant

stands : (c : goal.After-index)
    → slice_get c.args.self.now.nodes c.args.id.0 ≡ Some c.index.result.now
stands c =
    let nodes = c.self.inside.nodes.items in
    let place = c.args.id.0 in
    let within : place < length nodes =
    subst (λ k. place < length k.nodes) (sym c.self.view_is) c.requires in
    subst (λ k. slice_get k.nodes c.args.id.0 ≡ Some c.index.result.now) c.self.view_is
    (slice_get_read nodes (length nodes) c.args.id.0 c.index.result.now refl within c.index.ensures)

pub returns-clause-made : goal.returns-clause-made
returns-clause-made c = Fits-slice_get c.args.self.now c.args.id.0 c.index.result.now (is_shared c) (stands c)

pub returns-clause-term : goal.returns-clause-term
returns-clause-term c =
    slice_get-terms_of c.args.self.now c.args.id.0 c.index.result.now (is_shared c) (stands c)

pub returns-clause-below : goal.returns-clause-below
returns-clause-below c = kids-below c.args.self.now c.args.id.0 c.index.result.now (is_shared c) (stands c)

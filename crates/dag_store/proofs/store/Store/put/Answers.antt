-- A search among the nodes finds what a search among their terms would.
use Rattle.std.proofs.Common.{◌≡◌, ℕ, ◌+◌, ◌<◌, ◌^◌, false, Some, List, length, slice_get}
use Rattle.std.proofs.Common.{refl, subst, sym, ◌∙◌, ap, arith}
use Rattle.std.specs.List.{list_any}
use Rattle.std.proofs.lemmas.Bool.{false≢true}
use Rattle.case_table.specs.Lists.{with_first}
use Rattle.case_table.specs.ListLaws.{with_first-known, with_first-new}
use Rattle.type_rules.specs.Same.{same_term}
use Rattle.dag_store.specs.declared.store.Node.{Node}
use Rattle.dag_store.specs.Store.{Kept}
use Rattle.dag_store.specs.Unfolding.{terms_of, stands_for, Fits, IsShared}
use Rattle.dag_store.specs.StoreLaws.{slice_get-terms_of, list_any-absent, list_any-present}
use Rattle.dag_store.specs.StoreLaws.{terms_of-push, slice_get-terms_of_push, IsShared-push}
use Rattle.dag_store.proofs.store.Store.put.Goals as goal
use Rattle.dag_store.proofs.store.Store.put.Goals.{In_ok-push}

abbrev IsNew : Kept → Node → Type 0
IsNew kept node = list_any (same_term (stands_for kept node)) (terms_of kept) ≡ false

-- where the search found nothing, the node's term is not there
IsNew-from_search : (kept shown : Kept) (nodes : List Node) (node : Node) → shown ≡ kept
    → IsShared shown → Fits kept node → nodes ≡ shown.nodes
    → ((k : ℕ) → slice_get nodes k ≡ Some node → ⊥) → IsNew kept node
IsNew-from_search kept shown nodes node e shared fits searched absent =
    let all = searched ∙ ap (λ (k : Kept). k.nodes) e in
    list_any-absent kept node (subst IsShared e shared) fits
    (λ k at. absent k (subst (λ ns. slice_get ns k ≡ Some node) (sym all) at))

-- a node that was found stands in the store
found : (c : goal.After-drop-node) → slice_get c.args.self.now.nodes c.in-Some.place ≡ Some c.args.node
found c =
    subst (λ ns. slice_get ns c.in-Some.place ≡ Some c.args.node)
    (c.deref.ensures.value ∙ ap (λ (k : Kept). k.nodes) c.self.view_is) c.in-Some.ensures.found

is_shared : (c : goal.After-drop-node) → IsShared c.args.self.now
is_shared c = subst IsShared c.self.view_is c.self.invariant

pub returns-in-Some-clause-id : goal.returns-in-Some-clause-id
returns-in-Some-clause-id c =
    slice_get-terms_of c.args.self.now c.in-Some.place c.args.node (is_shared c) (found c)

pub returns-in-Some-clause-terms : goal.returns-in-Some-clause-terms
returns-in-Some-clause-terms c =
    let kept = c.args.self.now in
    let there = list_any-present kept c.in-Some.place c.args.node (is_shared c) (found c) in
    sym (with_first-known same_term (terms_of kept) (stands_for kept c.args.node) there)

pub returns-then-place-ge-MOST-clause-known : goal.returns-then-place-ge-MOST-clause-known
returns-then-place-ge-MOST-clause-known c =
    let absent = c.in_default.ensures.absent in
    let new =
    IsNew-from_search c.args.self.now _ _ c.args.node c.self.view_is c.self.invariant c.requires
    c.deref.ensures.value absent in
    λ known. sym new ∙ known

pub returns-in_err-push-clause-known : goal.returns-in_err-push-clause-known
returns-in_err-push-clause-known c =
    let absent = c.in_default.ensures.absent in
    let new =
    IsNew-from_search c.args.self.now _ _ c.args.node c.self.view_is c.self.invariant c.requires
    c.deref.ensures.value absent in
    λ known. absurd (false≢true (sym new ∙ known))

-- ---- after the push

-- the store before it
abbrev before : In_ok-push → Kept
before c = record { symbols = c.self.inside.symbols.items; nodes = c.self.inside.nodes.items }

-- that store with other nodes
abbrev at_nodes : In_ok-push → List Node → Kept
at_nodes c nodes = record { symbols = c.self.inside.symbols.items; nodes = nodes }

fits : (c : In_ok-push) → Fits (before c) c.args.node
fits c = subst (λ k. Fits k c.args.node) (sym c.self.view_is) c.requires

is_new : (c : In_ok-push) → IsNew (before c) c.args.node
is_new c =
    let absent = c.in_default.ensures.absent in
    let searched = c.deref.ensures.value in
    IsNew-from_search (before c) (before c) c.deref.result.now c.args.node refl c.self.invariant
    (fits c) searched absent

pub invariant_of-self-2 : goal.invariant_of-self-2
invariant_of-self-2 c =
    let few : length c.self.inside.nodes.items + 1 < 2 ^ 32 = omega arith in
    subst (λ nodes. IsShared (at_nodes c nodes)) (sym c.in_ok-push.ensures.items)
    (IsShared-push (before c) c.args.node c.self.invariant (fits c) (is_new c) few)

pub returns-clause-id : goal.returns-clause-id
returns-clause-id c =
    let node = c.args.node in
    let place = c.len-place.result in
    let last : place ≡ length c.self.inside.nodes.items = omega arith in
    let pushed = slice_get-terms_of_push (before c) node place last in
    let now = at_nodes c c.push.new.self.items in
    let items = sym c.in_ok-push.ensures.items in
    subst (λ k. slice_get (terms_of now) place ≡ Some (stands_for k node)) c.self.view_is
    (subst (λ nodes. slice_get (terms_of (at_nodes c nodes)) place ≡ Some (stands_for (before c) node))
    items pushed)

pub returns-clause-terms : goal.returns-clause-terms
returns-clause-terms c =
    let node = c.args.node in
    let put_into = λ (k : Kept). with_first same_term (terms_of k) (stands_for k node) in
    let terms = terms_of (before c) in
    let last = with_first-new same_term terms (stands_for (before c) node) (is_new c) in
    let pushed = terms_of-push (before c) node ∙ sym last in
    let now = at_nodes c c.push.new.self.items in
    let items = sym c.in_ok-push.ensures.items in
    subst (λ k. terms_of now ≡ put_into k) c.self.view_is
    (subst (λ nodes. terms_of (at_nodes c nodes) ≡ put_into (before c)) items pushed)

pub returns-clause-unchanged : goal.returns-clause-unchanged
returns-clause-unchanged c =
    let new = subst (λ k. IsNew k c.args.node) c.self.view_is (is_new c) in
    λ known. absurd (false≢true (sym new ∙ known))

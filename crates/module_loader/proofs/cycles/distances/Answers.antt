use Rattle.std.proofs.Common.{sym, ap, ◌∙◌, length, replicate}
use Rattle.std.proofs.lemmas.List.{length-map}
use Rattle.module_loader.specs.inside.Distances.{links_of, reached}
use Rattle.module_loader.proofs.DistanceLaws.{round-none, round-next, round-last}
use Rattle.module_loader.proofs.cycles.distances.Goals as goal

pub loop-distances-init : goal.loop-distances-init
loop-distances-init c =
    round-none (links_of c.args.all.now) c.args.to c.in_ok-distances.distances.items
    (c.in_ok-distances.ensures.items_if_clones_equal (λ y same. same) ∙ ap (λ n. replicate n n)
    (sym (length-map c.args.all.now (λ one. one.imports.items))))

pub returns-then-eq : goal.returns-then-eq
returns-then-eq c =
    let links = links_of c.args.all.now in
    let distances = c.loop-distances.distances.items in
    let is = c.in_ok-next.ensures
    ∙ (ap (λ all. reached (length c.args.all.now) c.args.to all c.loop-distances.between links all)
    c.deref.ensures.value
    ∙ ap (λ far. reached far c.args.to distances c.loop-distances.between links distances)
    (sym (length-map c.args.all.now (λ one. one.imports.items)))) in
    round-last links c.args.to c.loop-distances.between distances c.in_ok-next.next.items c.loop-distances.invariant is
    (sym c.eq.ensures ∙ c.if-eq.true)

pub loop-distances-smaller : goal.loop-distances-smaller
loop-distances-smaller c =
    let links = links_of c.args.all.now in
    let distances = c.loop-distances.distances.items in
    let is = c.in_ok-next.ensures
    ∙ (ap (λ all. reached (length c.args.all.now) c.args.to all c.loop-distances.between links all)
    c.deref.ensures.value
    ∙ ap (λ far. reached far c.args.to distances c.loop-distances.between links distances)
    (sym (length-map c.args.all.now (λ one. one.imports.items)))) in
    (round-next links c.args.to c.loop-distances.between distances c.in_ok-next.next.items c.loop-distances.invariant is
    (sym c.eq.ensures ∙ c.if-eq.false)).0

pub loop-distances-preserved : goal.loop-distances-preserved
loop-distances-preserved c =
    let links = links_of c.args.all.now in
    let distances = c.loop-distances.distances.items in
    let is = c.in_ok-next.ensures
    ∙ (ap (λ all. reached (length c.args.all.now) c.args.to all c.loop-distances.between links all)
    c.deref.ensures.value
    ∙ ap (λ far. reached far c.args.to distances c.loop-distances.between links distances)
    (sym (length-map c.args.all.now (λ one. one.imports.items)))) in
    (round-next links c.args.to c.loop-distances.between distances c.in_ok-next.next.items c.loop-distances.invariant is
    (sym c.eq.ensures ∙ c.if-eq.false)).1

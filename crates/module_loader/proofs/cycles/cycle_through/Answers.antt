use Rattle.std.proofs.Common.{sym, ap, ◌∙◌, ◌++◌, ◌∷◌, [], ◌-◌, length, slice_index_or, arith}
use Rattle.std.proofs.lemmas.List.{append_assoc, append-nil, length-map}
use Rattle.module_loader.specs.inside.Distances.{links_of, least_next, way_from}
use Rattle.module_loader.proofs.WayLaws.{way-more, way-none}
use Rattle.module_loader.proofs.cycles.cycle_through.Goals as goal

pub loop-between-preserved : goal.loop-between-preserved
loop-between-preserved c =
    let links = links_of c.args.all.now in
    let distances = c.args.distances.now in
    let between = c.loop-between.between in
    let at = c.loop-between.at in
    let rest = way_from links distances (between - 1) c.in-Some.next in
    let next = ap (λ far. least_next far distances (between - 1) (slice_index_or links at []))
    (length-map c.args.all.now (λ one. one.imports.items) ∙ sym c.requires)
    ∙ (ap (λ targets. least_next (length distances) distances (between - 1) targets) (sym c.imports_at.ensures)
    ∙ (sym c.least_next.ensures ∙ c.in-Some.is)) in
    ap (λ items. items ++ rest) c.in_ok-push-2.ensures.items
    ∙ (append_assoc c.loop-between.cycle.items (c.in-Some.next ∷ []) rest
    ∙ (ap (λ tail. c.loop-between.cycle.items ++ tail)
    (sym (way-more links distances between at c.in-Some.next (omega arith) next))
    ∙ c.loop-between.invariant))

pub returns-in_default : goal.returns-in_default
returns-in_default c =
    let links = links_of c.args.all.now in
    let distances = c.args.distances.now in
    let between = c.loop-between.between in
    let at = c.loop-between.at in
    let none = ap (λ far. least_next far distances (between - 1) (slice_index_or links at []))
    (length-map c.args.all.now (λ one. one.imports.items) ∙ sym c.requires)
    ∙ (ap (λ targets. least_next (length distances) distances (between - 1) targets) (sym c.imports_at.ensures)
    ∙ (sym c.least_next.ensures ∙ c.in_default.is)) in
    sym (append-nil c.loop-between.cycle.items)
    ∙ (ap (λ tail. c.loop-between.cycle.items ++ tail) (sym (way-none links distances between at (omega arith) none))
    ∙ c.loop-between.invariant)

use Rattle.std.proofs.Common.{sym, ap, refl, ◌∙◌, ◌++◌, ◌∷◌, [], ◌+◌, length, drop, slice_index_or, arith}
use Rattle.std.proofs.lemmas.List.{append_assoc}
use Rattle.std.proofs.lemmas.Option.{slice_get-get_or}
use Rattle.module_loader.specs.inside.Distances.{links_of, reached, reached_at}
use Rattle.module_loader.proofs.ImportLaws.{item-at}
use Rattle.module_loader.proofs.DistanceLaws.{reached-drop}
use Rattle.module_loader.proofs.cycles.reached.Goals as goal

pub loop-index-preserved : goal.loop-index-preserved
loop-index-preserved c =
    let all = c.args.all.now in
    let distances = c.args.distances.now in
    let i = c.loop-index.index in
    let own = slice_index_or distances i 0 in
    let at = item-at (λ one. one.imports.items) all (links_of all) i c.index-all-index.result refl (omega arith)
    c.index-all-index.is in
    let at_own = slice_get-get_or distances i 0 (omega (arith, c.requires)) in
    let rest = reached (length all) c.args.to distances c.args.between (drop (i + 1) (links_of all))
    (drop (i + 1) distances) in
    let next = c.reached_at-next.ensures
    ∙ (ap (λ targets. reached_at (length distances) c.args.to distances c.args.between targets own)
    (c.deref.ensures.value ∙ ap (λ one. one.imports.items) (sym c.index-all-index.is))
    ∙ ap (λ far. reached_at far c.args.to distances c.args.between c.index-all-index.result.imports.items own)
    c.requires) in
    ap (λ items. items ++ rest) c.in_ok-push.ensures.items
    ∙ (append_assoc c.loop-index.found.items (c.reached_at-next.result ∷ []) rest
    ∙ (ap (λ tail. c.loop-index.found.items ++ tail)
    (ap (λ value. value ∷ rest) next
    ∙ sym (reached-drop (length all) c.args.to distances c.args.between (links_of all) distances i
    c.index-all-index.result.imports.items own at at_own))
    ∙ c.loop-index.invariant))

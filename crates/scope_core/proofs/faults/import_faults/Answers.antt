use Rattle.std.proofs.Common.{◌≡◌, ◌∙◌, ◌+◌, ◌++◌, ◌∷◌, [], sym, ap, subst, map, take}
use Rattle.std.proofs.lemmas.List.{take_more, map-append}
use Rattle.scope_tables.specs.inside.Reaching.{bringing_of}
use Rattle.scope_core.proofs.ImportLaws.{AreBrought, brought-push}
use Rattle.scope_core.proofs.faults.import_faults.Goals as goal

pub loop-bringing-preserved : goal.loop-bringing-preserved
loop-bringing-preserved c =
    let brought = c.args.brought.now in
    let i = c.loop-bringing.bringing-index in
    let one = c.bringing-item.result in
    let next : map bringing_of (take (i + 1) brought) ≡ map bringing_of (take i brought) ++ bringing_of one ∷ [] =
    ap (map bringing_of)
    (take_more brought i one c.loop-bringing-test.true
    ∙ ap (λ e. take i brought ++ e ∷ []) (sym c.bringing-item.is))
    ∙ map-append bringing_of (take i brought) (one ∷ []) in
    subst (λ l. AreBrought c.args.settled.now c.args.module c.args.number l c.args.least.now
    c.bringing_faults.new.earlier.entries c.bringing_faults.new.least) (sym next)
    (brought-push c.args.settled.now c.args.module c.args.number (map bringing_of (take i brought)) (bringing_of one)
    c.loop-bringing.earlier.entries c.bringing_faults.new.earlier.entries c.args.least.now c.loop-bringing.least
    c.bringing_faults.new.least c.loop-bringing.invariant c.in_ok-bringing_faults.ensures)

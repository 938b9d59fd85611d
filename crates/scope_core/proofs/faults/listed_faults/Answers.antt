use Rattle.std.proofs.Common.{◌≡◌, ◌∙◌, ◌+◌, ◌++◌, ◌∷◌, [], sym, ap, subst, take}
use Rattle.std.proofs.lemmas.List.{take_more}
use Rattle.scope_core.specs.inside.Noting.{NotesNames}
use Rattle.scope_core.proofs.ImportLaws.{names-push}
use Rattle.scope_core.proofs.faults.listed_faults.Goals as goal

pub loop-name-preserved : goal.loop-name-preserved
loop-name-preserved c =
    let names = c.args.names.now in
    let i = c.loop-name.name-index in
    let one = c.name-item.result in
    let next : take (i + 1) names ≡ take i names ++ one ∷ [] =
    take_more names i one c.loop-name-test.true ∙ ap (λ e. take i names ++ e ∷ []) (sym c.name-item.is) in
    subst (λ l. NotesNames c.args.settled.now c.args.module c.args.number c.args.bringing.now.from
    c.args.bringing.now.used l c.args.earlier.now.entries c.args.least.now c.name_faults.new.earlier.entries
    c.name_faults.new.least) (sym next)
    (names-push c.args.settled.now c.args.module c.args.number c.args.bringing.now.from c.args.bringing.now.used
    (take i names) one c.args.earlier.now.entries c.loop-name.earlier.entries c.name_faults.new.earlier.entries
    c.args.least.now c.loop-name.least c.name_faults.new.least c.loop-name.invariant c.in_ok-name_faults.ensures)

use Rattle.std.proofs.Common.{sym, ap, subst, map, take, ◌≡◌, ◌∙◌, ◌+◌, ◌++◌, ◌∷◌, []}
use Rattle.std.specs.List.{list_any}
use Rattle.std.proofs.lemmas.Bool.{not-true, not-false}
use Rattle.std.proofs.lemmas.List.{take_more, map-append}
use Rattle.case_table.specs.Lists.{with_first}
use Rattle.scope_tables.specs.inside.Owning.{same_text}
use Rattle.scope_core.proofs.ListedLaws.{AreListed, listed-known, listed-new}
use Rattle.scope_core.proofs.faults.twice_listed.Goals as goal
use Rattle.scope_core.proofs.faults.twice_listed.Goals.{then-not-branch, else-not-branch}

pub loop-param-preserved : goal.loop-param-preserved
loop-param-preserved c =
    let params = c.args.params.now in
    let i = c.loop-param.param-index in
    let one = c.param-item.result in
    let text_is : c.in_ok-clone.field-0 ≡ one.name.text = c.in_ok-clone.ensures.cases in
    let keys : c.insert.new.self.keys ≡ with_first same_text c.loop-param.names.keys one.name.text =
    c.in_ok-insert.ensures.keys ∙ ap (with_first same_text c.loop-param.names.keys) text_is in
    let names : map (λ param. param.name) (take (i + 1) params)
    ≡ map (λ param. param.name) (take i params) ++ one.name ∷ [] =
    ap (map (λ param. param.name))
    (take_more params i one c.loop-param-test.true ∙ ap (λ e. take i params ++ e ∷ []) (sym c.param-item.is))
    ∙ map-append (λ param. param.name) (take i params) (one ∷ []) in
    subst (λ listed. AreListed c.args.module c.args.least.now listed c.insert.new.self.keys c.if-not-branch.least)
    (sym names)
    (elim c.if-not-branch.branch [
      | then-not-branch w ↦
          listed-known c.args.module c.args.least.now c.loop-param.least c.if-not-branch.least
          (map (λ param. param.name) (take i params)) c.loop-param.names.keys c.insert.new.self.keys one.name
          c.loop-param.invariant
          (ap (λ text. list_any (same_text text) c.loop-param.names.keys) (sym text_is)
          ∙ not-false _ (sym c.in_ok-insert.ensures.added ∙ w.if-not-branch.true))
          keys (w.least-is ∙ w.note.ensures)
      | else-not-branch w ↦
          subst (AreListed c.args.module c.args.least.now (map (λ param. param.name) (take i params) ++ one.name ∷ [])
          c.insert.new.self.keys) (sym w.least-is)
          (listed-new c.args.module c.args.least.now c.loop-param.least
          (map (λ param. param.name) (take i params)) c.loop-param.names.keys c.insert.new.self.keys one.name
          c.loop-param.invariant
          (ap (λ text. list_any (same_text text) c.loop-param.names.keys) (sym text_is)
          ∙ not-true _ (sym c.in_ok-insert.ensures.added ∙ w.if-not-branch.false))
          keys)
    ])

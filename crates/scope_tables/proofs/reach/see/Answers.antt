use Rattle.std.proofs.Common.{sym, subst, ◌==◌, ◌∙◌, []}
use Rattle.std.proofs.lemmas.Bool.{not-true}
use Rattle.case_table.specs.ListLaws.{with_first-new}
use Rattle.scope_tables.specs.inside.Reaching.{AreTold}
use Rattle.scope_tables.proofs.ReachLaws.{told-new}
use Rattle.scope_tables.proofs.reach.see.Goals as goal

pub returns-then-branch-clause-told : goal.returns-then-branch-clause-told
returns-then-branch-clause-told c told =
    subst (AreTold c.args.own c.insert.new.self.keys []) (sym c.in_ok-push.ensures.items)
    (told-new c.args.own c.args.«module» c.args.places.now.keys c.insert.new.self.keys c.args.all.now.items c.new.result
    (c.in_ok-insert.ensures.keys
    ∙ with_first-new ◌==◌ c.args.places.now.keys c.args.«module»
    (not-true _ (sym c.in_ok-insert.ensures.added ∙ c.if-branch.true)))
    c.new.ensures.of c.new.ensures.own c.new.ensures.tells told)

use Rattle.std.proofs.Common.{◌∙◌, sym, refl, subst, Some, None, []}
use Rattle.scope_core.specs.inside.Rounds.{SettlesBy}
use Rattle.scope_core.proofs.BasedLaws.{settles-based}
use Rattle.scope_core.proofs.settled.Settled.settle_based.Goals as goal

pub returns-in-Some : goal.returns-in-Some
returns-in-Some c =
    settles-based c.args.scene c.args.place c.args.self.now c.set_taken.new.self (Some c.in-Some.number)
    (sym c.in-Some.is ∙ c.in_ok-number.ensures) c.set_taken.ensures.stays
    (λ within. c.set_taken.ensures.settles (within c.in-Some.number refl))

pub returns-in_ok-take-in-None : goal.returns-in_ok-take-in-None
returns-in_ok-take-in-None c =
    settles-based c.args.scene c.args.place c.args.self.now c.take.new.self None
    (sym c.in-None.is ∙ c.in_ok-number.ensures) settles.stays (λ within. settles)
  where
    settles : SettlesBy c.args.place [] c.args.self.now c.take.new.self
    settles =
        subst (λ types. SettlesBy c.args.place types c.args.self.now c.take.new.self) c.new.ensures.items
        c.in_ok-take-in-None.ensures

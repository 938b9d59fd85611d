use Rattle.std.proofs.Common.{◌∙◌, sym, subst, length}
use Rattle.std.proofs.lemmas.Bool.{ltb-true, ltb-false}
use Rattle.scope_core.specs.inside.Rounds.{SettlesListed, SettlesVariants, Closes}
use Rattle.scope_core.proofs.ClosingLaws.{module-settled, module-none}
use Rattle.scope_core.proofs.settled.Settled.settle_module.Goals.{in-Some+in_ok-settle_listed+in_ok-bases+in_ok-settle_variants}
use Rattle.scope_core.proofs.settled.Settled.settle_module.Goals.{in_default}
use Rattle.scope_core.proofs.settled.Settled.settle_module.Goals as goal

pub returns : goal.returns
returns c = elim c.match-get.branch [
  | in-Some+in_ok-settle_listed+in_ok-bases+in_ok-settle_variants w ↦
      module-settled c.args.scene c.args.module w.in-Some.written.now c.args.self.now w.settle_listed.new.self
      w.settle_variants.new.self c.hide.new.self (ltb-true _ _ (sym w.in-Some.ensures.lookup.0))
      w.in-Some.ensures.lookup.1
      (subst (λ l. SettlesListed c.args.scene c.args.module l (length l) c.args.self.now w.settle_listed.new.self)
      w.deref.ensures.value w.in_ok-settle_listed.ensures)
      (subst (λ n. SettlesVariants c.args.scene c.args.module n w.settle_listed.new.self w.settle_variants.new.self)
      (w.len.ensures ∙ w.in-Some.written.now.takes.ok.0) w.in_ok-settle_variants.ensures)
      (subst (λ s. Closes c.args.module s c.hide.new.self) w.self-is c.in_ok-hide.ensures)
  | in_default w ↦
      module-none c.args.scene c.args.module c.args.self.now c.hide.new.self
      (ltb-false _ _ (sym w.in_default.ensures.lookup.0))
      (subst (λ s. Closes c.args.module s c.hide.new.self) w.self-is c.in_ok-hide.ensures)
]

use Rattle.std.proofs.Common.{◌≡◌, Some, None, [], ◌∷◌, ◌++◌, subst, arith}
use Rattle.scope_core.specs.inside.Walking.{Walks}
use Rattle.scope_core.proofs.WalkLaws.{walks-then, walks-pop, none-left, variant-settled}
use Rattle.scope_core.proofs.settled.Settled.settle_variant.Goals as goal

pub steps-init : goal.steps-init
steps-init c =
    subst (λ path. Walks c.args.scene c.args.begun.now path (Some c.args.place) c.args.self.now c.walk.new.begun
    c.walk.new.path.items None c.walk.new.self) c.new-path.ensures.items c.in_ok-walk.ensures

pub steps-preserved : goal.steps-preserved
steps-preserved c =
    walks-then c.args.scene c.args.begun.now c.walk.new.begun c.walk.new.begun []
    (c.pop.new.self.items ++ c.in-Some.variant ∷ []) c.pop.new.self.items (Some c.args.place) None None c.args.self.now
    c.steps.self c.settle_based.new.self
    (subst (λ path. Walks c.args.scene c.args.begun.now [] (Some c.args.place) c.args.self.now c.walk.new.begun path
    None c.steps.self) c.in-Some.ensures.items c.steps.invariant)
    (walks-pop c.args.scene c.walk.new.begun c.pop.new.self.items c.in-Some.variant c.steps.self
    c.settle_based.new.self c.in_ok-settle_based.ensures)

pub returns : goal.returns
returns c =
    let none : c.steps.path.len ≡ 0 = c.in_default.ensures.cases.0 in
    variant-settled c.args.scene c.args.begun.now c.walk.new.begun c.args.place c.args.self.now c.steps.self
    (subst (λ path. Walks c.args.scene c.args.begun.now [] (Some c.args.place) c.args.self.now c.walk.new.begun path
    None c.steps.self) (none-left c.steps.path.items (omega (arith, none, c.steps.path.ok))) c.steps.invariant)

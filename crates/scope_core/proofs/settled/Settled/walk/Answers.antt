use Rattle.std.proofs.Common.{Some, subst}
use Rattle.scope_core.specs.inside.Walking.{Walks}
use Rattle.scope_core.proofs.WalkLaws.{walks-then}
use Rattle.scope_core.proofs.settled.Settled.walk.Goals as goal

pub steps-preserved : goal.steps-preserved
steps-preserved c =
    walks-then c.args.scene c.args.begun.now c.steps.begun c.follow.new.begun c.args.path.now.items c.steps.path.items
    c.follow.new.path.items (Some c.args.place) (Some c.in-Some.current) c.in_ok-next.next c.args.self.now c.steps.self
    c.follow.new.self
    (subst (λ now. Walks c.args.scene c.args.begun.now c.args.path.now.items (Some c.args.place) c.args.self.now
    c.steps.begun c.steps.path.items now c.steps.self) c.in-Some.is c.steps.invariant)
    c.in_ok-next.ensures.walks

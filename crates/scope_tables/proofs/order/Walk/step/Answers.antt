use Rattle.std.proofs.Common.{sym, refl, arith}
use Rattle.scope_tables.specs.inside.Ordering.{links_of}
use Rattle.scope_tables.proofs.OrderLaws.{target-within, steps-on, steps-end}
use Rattle.scope_tables.proofs.order.Walk.step.Goals as goal

pub visit-requires : goal.visit-requires
visit-requires c =
    let inside = target-within (links_of c.args.links.now) c.args.last.index c.args.last.next c.in-Some.target
    c.requires.within (sym c.in-Some.ensures.is) in
    omega (arith, inside, c.requires.walk.long)

pub returns-in_ok-visit-in-Some : goal.returns-in_ok-visit-in-Some
returns-in_ok-visit-in-Some c =
    steps-on (links_of c.args.links.now) c.args.self.now c.visit.new.self c.push.new.self.items c.args.last
    c.in-Some.target c.requires.within c.requires.acyclic c.requires.walk (sym c.in-Some.ensures.is)
    c.in_ok-push-in-Some.ensures.items c.in_ok-visit-in-Some.ensures.seen c.in_ok-visit-in-Some.ensures.opened
    c.in_ok-visit-in-Some.ensures.done

pub returns-in_ok-push-in-None : goal.returns-in_ok-push-in-None
returns-in_ok-push-in-None c =
    steps-end (links_of c.args.links.now) c.args.self.now
    (record { seen = c.args.self.now.seen; opened = c.args.self.now.opened; done = c.push-in-None.new.self })
    c.args.last c.requires.walk (sym c.in-None.ensures.is) refl refl c.in_ok-push-in-None.ensures.items

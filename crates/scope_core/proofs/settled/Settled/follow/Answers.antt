use Rattle.std.proofs.Common.{◌∙◌, sym, subst, true, false}
use Rattle.scope_core.specs.inside.Rounds.{SettlesBy}
use Rattle.scope_core.specs.inside.Settling.{taken_at}
use Rattle.scope_core.proofs.WalkLaws.{tells-settled, follows-settled, follows-on, follows-circle, follows-none}
use Rattle.scope_core.proofs.settled.Settled.follow.Goals as goal

pub returns-then-is_some : goal.returns-then-is_some
returns-then-is_some c =
    follows-settled c.args.scene c.args.begun.now c.args.path.now.items c.args.current c.args.self.now
    (tells-settled c.taken.result (taken_at c.args.self.now.taken.items c.args.current) c.is_some.result true
    c.taken.ensures c.is_some.ensures c.if-is_some.true)

pub returns-then-begin : goal.returns-then-begin
returns-then-begin c =
    follows-on c.args.scene c.args.begun.now c.begin.new.begun c.args.path.now.items c.push.new.self.items
    c.args.current c.in-Some.next c.args.self.now
    (tells-settled c.taken.result (taken_at c.args.self.now.taken.items c.args.current) c.is_some.result false
    c.taken.ensures c.is_some.ensures c.if-is_some.false)
    (sym c.in_ok-next.ensures ∙ c.in-Some.is) c.begin.ensures.after_is
    (sym c.if-begin.true ∙ c.begin.ensures.fresh_is) c.in_ok-push-in-Some.ensures.items

pub returns-in_ok-take-in-Some : goal.returns-in_ok-take-in-Some
returns-in_ok-take-in-Some c =
    follows-circle c.args.scene c.args.begun.now c.begin.new.begun c.args.path.now.items c.args.current
    c.args.self.now c.take.new.self
    (tells-settled c.taken.result (taken_at c.args.self.now.taken.items c.args.current) c.is_some.result false
    c.taken.ensures c.is_some.ensures c.if-is_some.false)
    c.begin.ensures.after_is (sym c.if-begin.false ∙ c.begin.ensures.fresh_is)
    (subst (λ types. SettlesBy c.args.current types c.args.self.now c.take.new.self) c.new.ensures.items
    c.in_ok-take-in-Some.ensures)

pub returns-in_ok-take-in-None : goal.returns-in_ok-take-in-None
returns-in_ok-take-in-None c =
    follows-none c.args.scene c.args.begun.now c.args.path.now.items c.args.current c.args.self.now
    c.take-in-None.new.self
    (tells-settled c.taken.result (taken_at c.args.self.now.taken.items c.args.current) c.is_some.result false
    c.taken.ensures c.is_some.ensures c.if-is_some.false)
    (sym c.in_ok-next.ensures ∙ c.in-None.is)
    (subst (λ types. SettlesBy c.args.current types c.args.self.now c.take-in-None.new.self)
    c.new-in-None.ensures.items c.in_ok-take-in-None.ensures)

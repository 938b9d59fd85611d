use Rattle.std.proofs.Common.{◌+◌, reverse}
use Rattle.scope_tables.specs.inside.Ordering.{links_of, IsWalk, Keeps, unseen, left}
use Rattle.scope_tables.proofs.order.Walk.run.Given as goal

abbrev pub invariant-steps : goal.invariant-steps
invariant-steps l = record {
  walk : IsWalk (links_of l.links) l.self.seen.items (reverse l.self.opened.items) l.self.done.items;
  kept : Keeps l.initial.self.seen.items l.self.seen.items;
}

abbrev pub decreases-steps : goal.decreases-steps
decreases-steps l =
    unseen (links_of l.links) l.self.seen.items + left (links_of l.links) (reverse l.self.opened.items)

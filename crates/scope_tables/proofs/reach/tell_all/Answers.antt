use Rattle.std.proofs.Common.{sym, ap, subst, map, take, arith, ◌∷◌, ◌++◌, ◌∙◌, []}
use Rattle.std.proofs.lemmas.List.{map_more}
use Rattle.scope_tables.specs.inside.Reaching.{bringing_of, TakesIn}
use Rattle.scope_tables.proofs.ReachLaws.{takes-more}
use Rattle.scope_tables.proofs.reach.tell_all.Goals as goal

pub loop-bringing-preserved : goal.loop-bringing-preserved
loop-bringing-preserved c =
    let before = map bringing_of (take c.loop-bringing.bringing-index c.args.brought.now) in
    subst (λ l. TakesIn c.args.places.now.keys l c.args.all.now.items c.tell.new.all.items)
    (sym (map_more bringing_of c.args.brought.now c.loop-bringing.bringing-index c.bringing-item.result (omega arith)
    ∙ ap (λ one. before ++ bringing_of one ∷ []) (sym c.bringing-item.is)))
    (takes-more c.args.places.now.keys before (bringing_of c.bringing-item.result) c.args.all.now.items
    c.loop-bringing.all.items c.tell.new.all.items c.loop-bringing.invariant c.in_ok-tell.ensures)

use Rattle.std.proofs.Common.{sym, ap, ◌∙◌, length, arith}
use Rattle.std.proofs.lemmas.List.{length-map}
use Rattle.module_loader.specs.inside.Distances.{links_of}
use Rattle.module_loader.specs.inside.Numbers.{all_less}
use Rattle.module_loader.proofs.NumberLaws.{none-numbered}
use Rattle.module_loader.proofs.WayLaws.{first-found-in, none-here-in, none-left}
use Rattle.module_loader.proofs.cycles.first_cycle.Goals as goal

pub returns-then-away-all : goal.returns-then-away-all
returns-then-away-all c =
    first-found-in (links_of c.args.all.now) c.loop-start.start c.in_ok-distances.distances.items
    c.deref-in-loop-start.result.now
    c.deref-then-away-all.result.now c.in_ok-cycle.cycle.items c.away.result (length c.args.all.now)
    c.in_ok-distances.ensures c.loop-start.invariant c.deref-in-loop-start.ensures.value
    c.deref-then-away-all.ensures.value
    c.away.ensures c.if-away-all.true (sym (length-map c.args.all.now (λ one. one.imports.items)))
    c.in_ok-cycle.ensures

pub loop-start-preserved : goal.loop-start-preserved
loop-start-preserved c =
    none-here-in (links_of c.args.all.now) c.loop-start.start c.in_ok-distances.distances.items
    c.deref-in-loop-start.result.now
    c.away.result (length c.args.all.now) c.in_ok-distances.ensures c.loop-start.invariant
    c.deref-in-loop-start.ensures.value
    c.away.ensures c.if-away-all.false (sym (length-map c.args.all.now (λ one. one.imports.items)))

pub returns : goal.returns
returns c =
    none-left (links_of c.args.all.now) c.loop-start.start c.loop-start.invariant
    (omega (arith, length-map c.args.all.now (λ one. one.imports.items)))

pub loop-start-preserved-then-all_less : goal.loop-start-preserved-then-all_less
loop-start-preserved-then-all_less c =
    none-numbered (links_of c.args.all.now) c.in_ok-numbers.numbers.items c.loop-start.start c.in_ok-numbers.ensures
    c.loop-start.invariant
    (ap (λ all. all_less (links_of c.args.all.now) all c.loop-start.start) (sym c.deref.ensures.value) ∙ sym
    c.all_less.ensures
    ∙ c.if-all_less.true)

use Rattle.std.proofs.Common.{arith}
use Rattle.std.proofs.lemmas.List.{length-map}
use Rattle.module_loader.specs.inside.Distances.{links_of}
use Rattle.module_loader.proofs.NumberLaws.{all-rise-not, rise-not-more}
use Rattle.module_loader.proofs.numbers.rise_not.Goals as goal

pub loop-index-preserved : goal.loop-index-preserved
loop-index-preserved c =
    rise-not-more (links_of c.args.all.now) c.args.numbers.now c.loop-index.index c.loop-index.invariant
    (c.rises_not.ensures c.if-not-rises_not.false)

pub returns : goal.returns
returns c = λ _.
    all-rise-not (links_of c.args.all.now) c.args.numbers.now c.loop-index.index
    (omega (arith, length-map c.args.all.now (λ one. one.imports.items))) c.loop-index.invariant

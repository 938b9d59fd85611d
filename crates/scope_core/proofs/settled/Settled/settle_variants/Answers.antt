use Rattle.std.proofs.Common.{◌≡◌, ◌∙◌, ◌++◌, ◌+◌, arith, take, drop, length, ap, sym, subst, Bool, List}
use Rattle.std.proofs.Math.Seq.{take-append_seam}
use Rattle.scope_tables.specs.inside.Finding.{placed}
use Rattle.scope_core.specs.inside.Rounds.{SettlesVariant}
use Rattle.scope_core.specs.inside.Closing.{VariantsSome}
use Rattle.scope_core.proofs.ClosingLaws.{variants-start, variants-more, variants-end}
use Rattle.scope_core.proofs.settled.Settled.settle_variants.Goals as goal

pub loop-index-init : goal.loop-index-init
loop-index-init c =
    variants-start c.args.scene c.args.module c.args.count c.args.self.now c.in_ok-begun.begun.items
    c.in_ok-begun.ensures

pub loop-index-preserved : goal.loop-index-preserved
loop-index-preserved c =
    let before : List Bool = c.loop-index.begun.items in
    let after : List Bool = c.settle_variant.new.begun in
    let step : SettlesVariant c.args.scene before (placed c.args.module c.loop-index.index) c.loop-index.self after
    c.settle_variant.new.self = subst
    (λ begun. SettlesVariant c.args.scene begun (placed c.args.module c.loop-index.index)
    c.loop-index.self after c.settle_variant.new.self) c.deref_mut.ensures.value c.in_ok-settle_variant.ensures in
    let rest : List Bool = drop (length after) before in
    let long : c.loop-index.begun.len ≡ length after = omega (arith, c.loop-index.begun.ok.0, step.long) in
    subst (λ begun. VariantsSome c.args.scene c.args.module c.args.count (c.loop-index.index + 1) begun c.args.self.now
    c.settle_variant.new.self)
    (sym (ap (λ n. take n (after ++ rest)) long ∙ take-append_seam after rest))
    (variants-more c.args.scene c.args.module c.args.count c.loop-index.index before after c.args.self.now
    c.loop-index.self c.settle_variant.new.self (omega arith) c.loop-index.invariant step)

pub returns : goal.returns
returns c =
    variants-end c.args.scene c.args.module c.args.count c.loop-index.index c.loop-index.begun.items c.args.self.now
    c.loop-index.self (omega (arith, c.loop-index-test.false)) c.loop-index.invariant

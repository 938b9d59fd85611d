use Rattle.std.proofs.Common.{◌≡◌, ◌+◌, ◌∷◌, [], subst, arith}
use Rattle.mdl_syntax.specs.Modules.{enum_value_of}
use Rattle.scope_tables.specs.Entities.{numbered, a_value}
use Rattle.scope_tables.specs.inside.Pieces.{Appends}
use Rattle.scope_tables.proofs.PieceLaws.{values_more}
use Rattle.scope_tables.proofs.declared.push_values.Goals as goal

pub loop-index-preserved : goal.loop-index-preserved
loop-index-preserved c =
    let part : c.in_ok-number_of.field-0 ≡ 1 + c.loop-index.index = omega (arith, c.in_ok-number_of.ensures) in
    values_more c.args.id.module c.args.id.decl 1 c.args.exported c.args.group.now.text c.args.values.now
    c.args.piece.now c.loop-index.piece c.push_value.new.piece c.loop-index.index c.index-values-index.result
    c.loop-index.invariant (omega arith) c.index-values-index.is
    (subst (λ part. Appends (a_value (numbered c.args.id.module c.args.id.decl part) c.args.exported
    c.args.group.now.text (enum_value_of c.index-values-index.result) ∷ []) c.loop-index.piece c.push_value.new.piece)
    part c.in_ok-push_value.ensures)

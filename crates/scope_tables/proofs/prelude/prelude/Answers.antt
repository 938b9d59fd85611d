use Rattle.std.proofs.Common.{[]}
use Rattle.scope_tables.specs.PreludeEntities.{modes, structs, large_structs, normal}
use Rattle.scope_tables.proofs.PieceLaws.{appends_both}
use Rattle.scope_tables.proofs.prelude.prelude.Goals as goal

pub returns : goal.returns
returns c =
    let rest = appends_both (large_structs c.args.module) (normal c.args.module) _ _ _
    c.in_ok-push_large_structs.ensures c.in_ok-push_normal.ensures in
    let most = appends_both (structs c.args.module) _ _ _ _ c.in_ok-push_structs.ensures rest in
    let all = appends_both (modes c.args.module) _ _ _ _ c.in_ok-push_modes.ensures most in
    all.comes [] c.new-piece.ensures

use Rattle.std.proofs.Common.{sym, ap, ◌∙◌, take, arith}
use Rattle.case_table.specs.Lists.{firsts, with_first}
use Rattle.case_table.specs.ListLaws.{firsts-push}
use Rattle.module_set.specs.Names.{same_name}
use Rattle.scope_core.proofs.scopes.indices_of.Goals as goal
use Rattle.scope_tables.proofs.MemberLaws.{take-next}

pub loop-name-preserved : goal.loop-name-preserved
loop-name-preserved c =
    let names = c.args.names.now in
    let i = c.loop-name.name-index in
    let name = c.name-item.result in
    c.in_ok-insert.ensures.keys
    ∙ (ap (λ known. with_first same_name known c.in_ok-copied.copied) c.loop-name.invariant
    ∙ (ap (with_first same_name (firsts same_name (take i names))) c.in_ok-copied.ensures
    ∙ (sym (firsts-push same_name (take i names) name)
    ∙ ap (firsts same_name) (sym (take-next names i name (omega arith) c.name-item.is)))))

use Rattle.std.proofs.Common.{sym, ap, ◌∙◌, length, refl, take, arith}
use Rattle.std.proofs.lemmas.Option.{slice_get_read}
use Rattle.case_table.specs.Lists.{firsts, with_first}
use Rattle.case_table.specs.ListLaws.{firsts-push}
use Rattle.module_set.specs.Names.{same_name}
use Rattle.module_loader.proofs.ImportLaws.{take-next}
use Rattle.module_loader.proofs.closure.names_of.Goals as goal

pub loop-name-preserved : goal.loop-name-preserved
loop-name-preserved c =
    let first = c.args.first.now in
    let i = c.loop-name.name-index in
    let name = c.name-item.result in
    let at = slice_get_read first (length first) i name refl (omega arith) c.name-item.is in
    c.in_ok-take_in.ensures.names
    ∙ (ap (λ known. with_first same_name known c.in_ok-copied.copied) c.loop-name.invariant
    ∙ (ap (with_first same_name (firsts same_name (take i first))) c.in_ok-copied.ensures
    ∙ (sym (firsts-push same_name (take i first) name)
    ∙ ap (firsts same_name) (sym (take-next first i name at)))))

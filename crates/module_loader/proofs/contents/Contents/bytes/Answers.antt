use Rattle.std.proofs.Common.{sym, ap, ◌∙◌, Some}
use Rattle.module_loader.specs.declared.contents.Content.TheVariants as content
use Rattle.module_loader.proofs.ContentLaws.{short-at}
use Rattle.module_loader.proofs.contents.Contents.bytes.Goals as goal

pub returns-in-Found-clause-short : goal.returns-in-Found-clause-short
returns-in-Found-clause-short c =
    short-at _ c.args.index _ c.self.invariant.short
    (rw c.self.view_is (c.content.ensures ∙ ap Some c.in-Found.is ∙ ap (λ bytes. Some (content.Found bytes))
    (sym c.list.ensures)))

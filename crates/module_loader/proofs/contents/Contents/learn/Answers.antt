use Rattle.std.proofs.Common.{◌∙◌}
use Rattle.module_loader.proofs.ContentLaws.{insert-new, distinct-short}
use Rattle.module_loader.proofs.contents.Contents.learn.Goals as goal

pub invariant_of-self-2 : goal.invariant_of-self-2
invariant_of-self-2 c =
    let new = insert-new c.args.path c.args.content _ (rw c.self.view_is c.requires.new) in
    distinct-short c.args.path c.args.content _ _ c.self.invariant c.insert.ensures.unique c.requires.short
    (c.in_ok-insert.ensures.entries ∙ new)

pub returns-clause-learned : goal.returns-clause-learned
returns-clause-learned c =
    let new = insert-new c.args.path c.args.content _ (rw c.self.view_is c.requires.new) in
    rw (← c.self.view_is) (c.in_ok-insert.ensures.entries ∙ new)

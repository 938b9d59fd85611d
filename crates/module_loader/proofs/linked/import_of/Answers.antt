use Rattle.std.proofs.Common.{ap, ◌∙◌, get_or, arith}
use Rattle.mdl_lexer.specs.Places.{IsPlace}
use Rattle.mdl_syntax.specs.Modules.{module_of}
use Rattle.module_set.specs.Imports.{references}
use Rattle.module_loader.proofs.ContentLaws.{all-at}
use Rattle.module_loader.proofs.ImportLaws.{item-at}
use Rattle.module_loader.proofs.linked.import_of.Goals as goal

pub returns-then-means-clause-place : goal.returns-then-means-clause-place
returns-then-means-clause-place c =
    let all = references (module_of c.args.one.now.loaded.module) in
    let at = item-at (λ one. one.now) c.in_ok-references.references.items all c.loop-reference.reference-index
    c.reference-item.result c.in_ok-references.ensures (omega arith)
    (c.reference-item.is
    ∙ ap (λ items. get_or items c.loop-reference.reference-index c.reference-item.result)
    c.deref-reference-items.ensures.value) in
    all-at (λ reference. IsPlace c.args.one.now.loaded.text reference.span.at) all c.loop-reference.reference-index
    c.reference-item.result.now c.requires at

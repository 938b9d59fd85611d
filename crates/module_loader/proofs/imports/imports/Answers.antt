use Rattle.std.proofs.Common.{sym, ap, subst, refl, ◌∙◌, ◌++◌, ◌∷◌, [], map, take, get_or, length, is_none}
use Rattle.std.proofs.Common.{string_bytes, arith}
use Rattle.std.proofs.lemmas.List.{take_all, length-map}
use Rattle.mdl_lexer.specs.Places.{IsPlace}
use Rattle.mdl_syntax.specs.Modules.{module_of}
use Rattle.module_set.specs.Imports.{references, meant}
use Rattle.module_loader.specs.Files.{has_file}
use Rattle.module_loader.specs.inside.Loading.{over, member_of}
use Rattle.module_loader.specs.inside.Importing.{Imported, HasImportFault}
use Rattle.module_loader.proofs.ContentLaws.{all-at}
use Rattle.module_loader.proofs.LocateLaws.{older, reads_on}
use Rattle.module_loader.proofs.ImportLaws.{item-at, take-next, find-at, imported-more}
use Rattle.module_loader.proofs.imports.imports.Goals as goal

pub past_top-requires-clause-place : goal.past_top-requires-clause-place
past_top-requires-clause-place g c =
    let at = item-at (λ one. one.now) c.in_ok-references.references.items _ c.loop-reference.reference-index
    c.reference-item.result c.in_ok-references.ensures (omega arith)
    (c.reference-item.is
    ∙ ap (λ items. get_or items c.loop-reference.reference-index c.reference-item.result)
    c.deref-reference-items.ensures.value) in
    all-at (λ reference. IsPlace c.args.loaded.now.text reference.span.at) _ c.loop-reference.reference-index _
    c.requires.places at

pub returns-in-None-clause-reads : goal.returns-in-None-clause-reads
returns-in-None-clause-reads g c =
    reads_on _ _ _ _ _ _ c.loop-reference.invariant.0 c.in_ok-imported.ensures.reads

pub returns-in-None-clause-fault : goal.returns-in-None-clause-fault
returns-in-None-clause-fault g c =
    let roots = map string_bytes c.args.roots.now in
    let all = references (module_of c.args.loaded.now.module) in
    let at = item-at (λ one. one.now) c.in_ok-references.references.items all c.loop-reference.reference-index
    c.reference-item.result c.in_ok-references.ensures (omega arith)
    (c.reference-item.is
    ∙ ap (λ items. get_or items c.loop-reference.reference-index c.reference-item.result)
    c.deref-reference-items.ensures.value) in
    subst (HasImportFault (g.S.Source.state c.args.source.now) (g.S.Source.state c.meaning.new.source) roots
    (member_of c.args.name.now c.args.loaded.now) c.meaning.new.contents)
    (sym c.in_ok-past_top-in-None.ensures)
    (λ files agree.
    let before = c.loop-reference.invariant.1 files (older _ _ _ _ files c.in_ok-imported.ensures.reads agree) in
    record {
      reference = c.reference-item.result.now;
      goes = find-at (λ reference. is_none (meant (has_file (over roots files)) c.args.name.now reference)) all
          c.loop-reference.reference-index c.reference-item.result.now before.top at
          (ap is_none (sym (c.in_ok-imported.ensures.meant files agree) ∙ c.in-None.is));
      asker_is = refl;
      place_is = refl;
      name_is = refl;
    })

pub loop-reference-preserved : goal.loop-reference-preserved
loop-reference-preserved g c =
    let roots = map string_bytes c.args.roots.now in
    let all = references (module_of c.args.loaded.now.module) in
    let i = c.loop-reference.reference-index in
    let reference = c.reference-item.result.now in
    let at = item-at (λ one. one.now) c.in_ok-references.references.items all i
    c.reference-item.result c.in_ok-references.ensures (omega arith)
    (c.reference-item.is
    ∙ ap (λ items. get_or items c.loop-reference.reference-index c.reference-item.result)
    c.deref-reference-items.ensures.value) in (
      reads_on _ _ _ _ _ _ c.loop-reference.invariant.0 c.in_ok-imported.ensures.reads,
      λ files agree.
          let packages = over roots files in
          let before = c.loop-reference.invariant.1 files (older _ _ _ _ files c.in_ok-imported.ensures.reads agree) in
          let more = imported-more packages c.args.name.now (take i all) reference c.args.names.now.keys
          c.loop-reference.names.keys c.take_in.new.names.keys c.loop-reference.indices.items
          c.in_ok-index-in-Some.index c.in-Some.imported before
          (sym c.in-Some.is ∙ c.in_ok-imported.ensures.meant files agree)
          c.in_ok-index-in-Some.ensures.names c.in_ok-index-in-Some.ensures.index in
          subst (λ front. Imported packages c.args.name.now front c.args.names.now.keys c.take_in.new.names.keys
          c.push.new.self.items) (sym (take-next all i reference at))
          (subst (λ indices. Imported packages c.args.name.now (take i all ++ reference ∷ []) c.args.names.now.keys
          c.take_in.new.names.keys indices) (sym c.in_ok-push-in-Some.ensures.items) more),
    )

pub returns-clause-imported : goal.returns-clause-imported
returns-clause-imported g c = λ files agree.
    let all = references (module_of c.args.loaded.now.module) in
    let i = c.loop-reference.reference-index in
    let whole = take_all i all (omega (
      arith,
      ap length c.in_ok-references.ensures,
      length-map c.in_ok-references.references.items (λ one. one.now),
      ap length c.deref-reference-items.ensures.value,
    )) in
    subst (λ front. Imported (over (map string_bytes c.args.roots.now) files) c.args.name.now front
    c.args.names.now.keys c.loop-reference.names.keys c.loop-reference.indices.items) whole
    (c.loop-reference.invariant.1 files agree)

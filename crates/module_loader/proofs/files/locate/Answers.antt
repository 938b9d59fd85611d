use Rattle.std.proofs.Common.{ap, ◌∙◌, map, string_bytes, arith, Some}
use Rattle.module_loader.specs.Files.{path_of}
use Rattle.module_loader.specs.declared.contents.Content.TheVariants as content
use Rattle.module_loader.proofs.LocateLaws.{older, reads_on, root-at, RootRead, located-found, located-long}
use Rattle.module_loader.proofs.LocateLaws.{located-later}
use Rattle.module_loader.proofs.files.locate.Goals as goal

pub returns-in-Found-clause-located : goal.returns-in-Found-clause-located
returns-in-Found-clause-located g c =
    let read : RootRead (map string_bytes c.args.roots.now) c.args.name.now c.loop-root.contents c.read.new.self
    c.loop-root.root-index c.in_ok-index.index c.in_ok-path.path (content.Found c.in-Found.field-0) = record {
      before = c.loop-root.invariant.1;
      root = string_bytes c.root-item.result;
      at = root-at c.args.roots.now c.loop-root.root-index c.root-item.result (omega arith) c.root-item.is;
      path_is = c.in_ok-path.ensures ∙ ap (λ root. path_of root c.args.name.now) c.deref.ensures;
      earlier = λ files agree. older _ _ _ _ files c.in_ok-index.ensures.reads agree;
      stands = c.in_ok-index.ensures.found;
      is = c.content.ensures ∙ ap Some c.in-Found.is;
    } in
    located-found _ _ _ _ _ _ _ _ read

pub returns-in-TooLong-clause-located : goal.returns-in-TooLong-clause-located
returns-in-TooLong-clause-located g c =
    let read : RootRead (map string_bytes c.args.roots.now) c.args.name.now c.loop-root.contents c.read.new.self
    c.loop-root.root-index c.in_ok-index.index c.in_ok-path.path content.TooLong = record {
      before = c.loop-root.invariant.1;
      root = string_bytes c.root-item.result;
      at = root-at c.args.roots.now c.loop-root.root-index c.root-item.result (omega arith) c.root-item.is;
      path_is = c.in_ok-path.ensures ∙ ap (λ root. path_of root c.args.name.now) c.deref.ensures;
      earlier = λ files agree. older _ _ _ _ files c.in_ok-index.ensures.reads agree;
      stands = c.in_ok-index.ensures.found;
      is = c.content.ensures ∙ ap Some c.in-TooLong.is;
    } in
    located-long _ _ _ _ _ _ _ read

pub loop-root-preserved : goal.loop-root-preserved
loop-root-preserved g c =
    let read : RootRead (map string_bytes c.args.roots.now) c.args.name.now c.loop-root.contents c.read.new.self
    c.loop-root.root-index c.in_ok-index.index c.in_ok-path.path content.Absent = record {
      before = c.loop-root.invariant.1;
      root = string_bytes c.root-item.result;
      at = root-at c.args.roots.now c.loop-root.root-index c.root-item.result (omega arith) c.root-item.is;
      path_is = c.in_ok-path.ensures ∙ ap (λ root. path_of root c.args.name.now) c.deref.ensures;
      earlier = λ files agree. older _ _ _ _ files c.in_ok-index.ensures.reads agree;
      stands = c.in_ok-index.ensures.found;
      is = c.content.ensures ∙ ap Some c.in-Absent.is;
    } in (
      reads_on _ _ _ _ _ _ c.loop-root.invariant.0 c.in_ok-index.ensures.reads,
      located-later _ _ _ _ _ _ _ read,
    )

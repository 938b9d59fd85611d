use Rattle.std.proofs.Common.{sym, ap, subst, refl, map, length, ◌≤◌, string_bytes, arith}
use Rattle.module_loader.specs.LoadFaults.{most_modules}
use Rattle.module_loader.specs.inside.Loading.{over, IsLoaded, member_of}
use Rattle.module_loader.specs.inside.Linking.{Holds, HasClosureFault, ArePlaced}
use Rattle.module_loader.proofs.ContentLaws.{none-read, all-append}
use Rattle.module_loader.proofs.LocateLaws.{older, reads_on}
use Rattle.module_loader.proofs.ClosureLaws.{holds-none, member-fault, handed-on, name-at, many-fault}
use Rattle.module_loader.proofs.ClosureLaws.{import-fault, holds-more, absent-fault-in, few-more}
use Rattle.module_loader.proofs.closure.load_closure.Goals as goal

pub loop-name-init : goal.loop-name-init
loop-name-init g c = (
  none-read (g.S.Source.state c.args.source.now) c.args.contents.now,
  subst ArePlaced (sym c.new-all.ensures.items) tt,
  omega (arith, ap length c.new-all.ensures.items),
  λ files agree.
      holds-none (over (map string_bytes c.args.roots.now) files) c.args.first.now c.in_ok-names.names.keys
      c.new-all.result.items c.new-all.ensures.items c.in_ok-names.ensures,
)

pub returns-in_err-loaded-clause-fault : goal.returns-in_err-loaded-clause-fault
returns-in_err-loaded-clause-fault g c =
    handed-on _ c.from_residual-in_err-loaded.result c.in_err-loaded.field-0.0 c.from_residual-in_err-loaded.ensures.1
    (member-fault (g.S.Source.state c.args.source.now) (g.S.Source.state c.loop-name.source)
    (g.S.Source.state c.load_member.new.source) (map string_bytes c.args.roots.now) c.args.first.now
    c.loop-name.names.keys c.loop-name.all.items c.args.contents.now c.loop-name.contents
    c.load_member.new.contents c.in_ok-name.name c.in_err-loaded.field-0.0 c.loop-name.invariant.0
    (λ files agree. record {
      holds = c.loop-name.invariant.3 files (older _ _ _ _ files c.load_member.ensures.reads agree);
      few = omega (arith, c.len-in-Some.ensures, c.loop-name.all.ok);
      at = name-at c.loop-name.names.keys c.loop-name.all.items c.len.result c.in-Some.name.now c.in_ok-name.name
          (omega (arith, c.len.ensures, c.loop-name.all.ok)) c.in-Some.ensures.key c.in_ok-name.ensures;
    }) c.in_err-loaded.ensures.fault)

pub returns-in_err-imports-in-Some-2-clause-reads : goal.returns-in_err-imports-in-Some-2-clause-reads
returns-in_err-imports-in-Some-2-clause-reads g c =
    reads_on _ _ _ _ _ _ c.loop-name.invariant.0
    (reads_on _ _ _ _ _ _ c.load_member.ensures.reads c.imports.ensures.reads)

pub returns-in_err-push-in-Some-2-clause-reads : goal.returns-in_err-push-in-Some-2-clause-reads
returns-in_err-push-in-Some-2-clause-reads g c =
    reads_on _ _ _ _ _ _ c.loop-name.invariant.0
    (reads_on _ _ _ _ _ _ c.load_member.ensures.reads c.imports.ensures.reads)

pub returns-then-len-ge-MOST_MODULES-clause-fault : goal.returns-then-len-ge-MOST_MODULES-clause-fault
returns-then-len-ge-MOST_MODULES-clause-fault g c = λ files agree.
    many-fault (over (map string_bytes c.args.roots.now) files) c.args.first.now c.loop-name.names.keys
    c.loop-name.all.items c.in-Some.name.now (c.loop-name.invariant.3 files agree)
    (omega (arith, c.len-in-Some.ensures, c.loop-name.all.ok, c.loop-name.invariant.2))
    (name-at c.loop-name.names.keys c.loop-name.all.items c.len.result c.in-Some.name.now c.in-Some.name.now
    (omega (arith, c.len.ensures, c.loop-name.all.ok)) c.in-Some.ensures.key refl)

pub returns-in_err-imports-in-Some-2-clause-fault : goal.returns-in_err-imports-in-Some-2-clause-fault
returns-in_err-imports-in-Some-2-clause-fault g c =
    let loaded = subst (IsLoaded (map string_bytes c.args.roots.now) c.in_ok-name.name c.load_member.new.contents)
    c.in-Some-2.is c.in_ok-loaded.ensures.loaded in
    handed-on _ c.from_residual-in_err-imports-in-Some-2.result c.in_err-imports-in-Some-2.field-0.0
    c.from_residual-in_err-imports-in-Some-2.ensures.1
    (import-fault (g.S.Source.state c.args.source.now) (g.S.Source.state c.load_member.new.source)
    (g.S.Source.state c.imports.new.source) (map string_bytes c.args.roots.now) c.args.first.now
    c.loop-name.names.keys c.loop-name.all.items c.args.contents.now c.load_member.new.contents
    c.imports.new.contents (member_of c.in_ok-name.name c.in-Some-2.loaded) c.in_err-imports-in-Some-2.field-0.0
    (reads_on _ _ _ _ _ _ c.loop-name.invariant.0 c.load_member.ensures.reads)
    (λ files agree. record {
      holds = c.loop-name.invariant.3 files (older _ _ _ _ files c.load_member.ensures.reads
          (older _ _ _ _ files c.imports.ensures.reads agree));
      few = omega (arith, c.len-in-Some.ensures, c.loop-name.all.ok);
      at = name-at c.loop-name.names.keys c.loop-name.all.items c.len.result c.in-Some.name.now c.in_ok-name.name
          (omega (arith, c.len.ensures, c.loop-name.all.ok)) c.in-Some.ensures.key c.in_ok-name.ensures;
    })
    (λ files agree. loaded.0 files (older _ _ _ _ files c.imports.ensures.reads agree))
    c.in_err-imports-in-Some-2.ensures.fault)

pub loop-name-preserved : goal.loop-name-preserved
loop-name-preserved g c =
    let loaded = subst (IsLoaded (map string_bytes c.args.roots.now) c.in_ok-name.name c.load_member.new.contents)
    c.in-Some-2.is c.in_ok-loaded.ensures.loaded in
    let pushed = c.in_ok-push-in-Some-2.ensures.items in (
      reads_on _ _ _ _ _ _ c.loop-name.invariant.0
          (reads_on _ _ _ _ _ _ c.load_member.ensures.reads c.imports.ensures.reads),
      subst ArePlaced (sym pushed) (all-append _ c.loop-name.all.items _ c.loop-name.invariant.1
          ((loaded.1, loaded.2), tt)),
      subst (λ items. length items ≤ most_modules) (sym pushed)
          (few-more c.loop-name.all.items _ (omega (arith, c.len-in-Some.ensures, c.loop-name.all.ok))),
      λ files agree.
          let before = older _ _ _ _ files c.imports.ensures.reads agree in
          subst (Holds (over (map string_bytes c.args.roots.now) files) c.args.first.now c.imports.new.names.keys)
          (sym pushed)
          (holds-more (over (map string_bytes c.args.roots.now) files) c.args.first.now c.loop-name.names.keys
          c.imports.new.names.keys c.loop-name.all.items _
          (c.loop-name.invariant.3 files (older _ _ _ _ files c.load_member.ensures.reads before))
          (name-at c.loop-name.names.keys c.loop-name.all.items c.len.result c.in-Some.name.now c.in_ok-name.name
          (omega (arith, c.len.ensures, c.loop-name.all.ok)) c.in-Some.ensures.key c.in_ok-name.ensures)
          (loaded.0 files before) (c.in_ok-imports-in-Some-2.ensures.imported files agree)),
    )

pub returns-in-None-clause-fault : goal.returns-in-None-clause-fault
returns-in-None-clause-fault g c =
    let none = subst (IsLoaded (map string_bytes c.args.roots.now) c.in_ok-name.name c.load_member.new.contents)
    c.in-None.is c.in_ok-loaded.ensures.loaded in
    subst (HasClosureFault (g.S.Source.state c.args.source.now) (g.S.Source.state c.load_member.new.source)
    (map string_bytes c.args.roots.now) c.args.first.now c.load_member.new.contents)
    (sym c.in_ok-absent-in-None.ensures)
    (λ files agree.
    absent-fault-in (over (map string_bytes c.args.roots.now) files) c.args.first.now c.loop-name.names.keys
    c.as_slice.result.now c.loop-name.all.items c.deref.result.now c.in_ok-name.name c.as_slice.ensures.keys
    c.deref.ensures.value
    (c.loop-name.invariant.3 files (older _ _ _ _ files c.load_member.ensures.reads agree))
    (omega (arith, c.len-in-Some.ensures, c.loop-name.all.ok))
    (name-at c.loop-name.names.keys c.loop-name.all.items c.len.result c.in-Some.name.now c.in_ok-name.name
    (omega (arith, c.len.ensures, c.loop-name.all.ok)) c.in-Some.ensures.key c.in_ok-name.ensures)
    (none files agree))

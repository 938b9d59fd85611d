use Rattle.std.proofs.Common.{◌≡◌, ap, subst, ◌∙◌, map, string_bytes}
use Rattle.module_loader.specs.LoadFaults.{HasLoadFault, name_at}
use Rattle.module_loader.specs.declared.fault.LoadFault.TheVariants as fault
use Rattle.module_loader.specs.Loads.{IsLoaded}
use Rattle.module_loader.specs.inside.Contents.{Reading}
use Rattle.module_loader.specs.inside.Loading.{over}
use Rattle.module_loader.specs.inside.Linking.{linked_members}
use Rattle.module_loader.specs.inside.Distances.{links_of, IsFirstOrNone}
use Rattle.module_loader.proofs.ClosureLaws.{handed-on}
use Rattle.module_loader.proofs.FileLaws.{surely-some, fails-to-load}
use Rattle.module_loader.proofs.LinkLaws.{cycle-fault, loaded-set}
use Rattle.module_loader.proofs.SetLaws.{loaded-is-set}
use Rattle.module_loader.proofs.loading.load.Goals as goal

pub returns-in_err-all-clause-fault : goal.returns-in_err-all-clause-fault
returns-in_err-all-clause-fault g c =
    let before = g.S.Source.state c.args.source.now in
    let after = g.S.Source.state c.load_closure.new.source in
    let entries = c.load_closure.new.contents in
    handed-on _ c.from_residual.result c.in_err-all.field-0.0 c.from_residual.ensures.1
    (fails-to-load before after (map string_bytes c.args.roots.now) c.args.first.now entries c.in_err-all.field-0.0
    (rw (← c.contents.view_is) c.contents.invariant)
    (subst (λ old. Reading before after old entries) c.new-contents.ensures c.in_err-all.ensures.reads)
    c.in_err-all.ensures.fault)

pub returns-in-Some-clause-fault : goal.returns-in-Some-clause-fault
returns-in-Some-clause-fault g c =
    let before = g.S.Source.state c.args.source.now in
    let after = g.S.Source.state c.load_closure.new.source in
    let entries = c.load_closure.new.contents in
    let all = c.in_ok-all.all.items in
    let is = subst (λ lent. IsFirstOrNone (links_of lent) c.in_ok-cycle.field-0) c.deref.ensures.value
    c.in_ok-cycle.ensures in
    let cycle = subst (IsFirstOrNone (links_of all)) c.in-Some.is is in
    let path = c.of.ensures ∙ (c.in_ok-path.ensures
    ∙ (ap (λ lent. map (name_at (linked_members lent)) c.deref-in-Some-2.result.now) c.deref-in-Some.ensures.value
    ∙ ap (map (name_at (linked_members all))) c.deref-in-Some-2.ensures.value)) in
    surely-some before after (map string_bytes c.args.roots.now) entries
    (λ packages. HasLoadFault packages c.args.first.now (fault.Cycle c.of.result)) c.are_read.ensures
    (subst (λ old. Reading before after old entries) c.new-contents.ensures c.in_ok-all.ensures.reads)
    (λ files agree.
    cycle-fault (over (map string_bytes c.args.roots.now) files) c.args.first.now all c.in-Some.cycle.items c.of.result
    (c.in_ok-all.ensures.closed files agree) cycle path)

pub returns-clause-loaded : goal.returns-clause-loaded
returns-clause-loaded g c =
    let before = g.S.Source.state c.args.source.now in
    let after = g.S.Source.state c.load_closure.new.source in
    let entries = c.load_closure.new.contents in
    let all = c.in_ok-all.all.items in
    let is = subst (λ lent. IsFirstOrNone (links_of lent) c.in_ok-cycle.field-0) c.deref.ensures.value
    c.in_ok-cycle.ensures in
    let none = subst (IsFirstOrNone (links_of all)) c.in_default.is is in
    surely-some before after (map string_bytes c.args.roots.now) entries
    (λ packages. IsLoaded packages c.args.first.now c.in_ok-set.set) c.are_read.ensures
    (subst (λ old. Reading before after old entries) c.new-contents.ensures c.in_ok-all.ensures.reads)
    (λ files agree.
    loaded-set c.one_module_reading.ensures (over (map string_bytes c.args.roots.now) files) c.args.first.now all
    c.in_ok-set.set (c.in_ok-all.ensures.closed files agree) none c.in_ok-set.ensures.0 c.in_ok-set.ensures.1
    c.in_ok-set.ensures.2)

pub returns-clause-is_set : goal.returns-clause-is_set
returns-clause-is_set g c =
    loaded-is-set c.one_module_reading.ensures _ c.args.first.now c.in_ok-set.set (returns-clause-loaded g c).2

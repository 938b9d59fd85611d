use Rattle.std.proofs.Common.{◌≡◌, ◌∙◌, ◌<◌, map, ap, sym, subst, length}
use Rattle.std.specs.declared.vec.Vec.{Vec}
use Rattle.std.specs.declared.alloc.Global.{Global}
use Rattle.case_table.specs.Lists.{firsts}
use Rattle.module_set.specs.Names.{same_name}
use Rattle.module_set.specs.Cycles.{HasNoCycle}
use Rattle.module_set.specs.Members.{members_of}
use Rattle.scope_tables.specs.declared.brought.Bringing as held
use Rattle.scope_core.specs.Standing.{world_of, pieces_of}
use Rattle.scope_core.specs.ScopeFaults.{scope_faults, Fails}
use Rattle.scope_tables.specs.inside.Order.{AreWithin}
use Rattle.scope_core.specs.inside.Scoping.{AreMade, brought_all}
use Rattle.scope_core.specs.inside.Checking.{faults_in}
use Rattle.scope_core.proofs.SetLaws.{brings-are, links-within}
use Rattle.scope_core.proofs.NewLaws.{handed-on, held_all, links-read, modules-few, opens-stand, all-settled-of}
use Rattle.scope_core.specs.Places.{IsAtName}
use Rattle.scope_core.proofs.NewLaws.{faults-are}
use Rattle.scope_core.proofs.PlaceLaws.{fails-placed}
use Rattle.scope_core.proofs.scopes.Scopes.new.Goals as goal

pub settle-requires-clause-within : goal.settle-requires-clause-within
settle-requires-clause-within c =
    let set = c.args.set.now in
    let names : c.in_ok-names.names.items ≡ set.names = c.in_ok-names.ensures ∙ c.list.ensures in
    let brings : held_all c.in_ok-brought.brought.items ≡ (world_of set.names (members_of set)).brings =
    c.in_ok-brought.ensures
    ∙ (λ k. brought_all (firsts same_name ((c.deref.ensures.value ∙ names) k)) ((c.deref.ensures.value ∙ names) k)
    (c.list-modules.ensures k))
    ∙ brings-are set c.requires in
    subst AreWithin
    (sym (ap (map (λ (one : Vec held.Bringing Global). map (λ (bringing : held.Bringing). bringing.from) one.items))
    c.deref-5.ensures.value ∙ links-read set c.in_ok-brought.brought.items c.requires brings))
    (links-within set c.requires)

pub settle-requires-clause-acyclic : goal.settle-requires-clause-acyclic
settle-requires-clause-acyclic c =
    let set = c.args.set.now in
    let names : c.in_ok-names.names.items ≡ set.names = c.in_ok-names.ensures ∙ c.list.ensures in
    let brings : held_all c.in_ok-brought.brought.items ≡ (world_of set.names (members_of set)).brings =
    c.in_ok-brought.ensures
    ∙ (λ k. brought_all (firsts same_name ((c.deref.ensures.value ∙ names) k)) ((c.deref.ensures.value ∙ names) k)
    (c.list-modules.ensures k))
    ∙ brings-are set c.requires in
    subst HasNoCycle
    (sym (ap (map (λ (one : Vec held.Bringing Global). map (λ (bringing : held.Bringing). bringing.from) one.items))
    c.deref-5.ensures.value ∙ links-read set c.in_ok-brought.brought.items c.requires brings))
    c.requires.acyclic

pub returns-in_err-check-clause-fault : goal.returns-in_err-check-clause-fault
returns-in_err-check-clause-fault c =
    let set = c.args.set.now in
    let whole = all-settled-of set c.in_ok-brought.brought.items c.in_ok-pieces.pieces.items c.in_ok-tables.tables.items
    (record { names = c.deref-3.result; written = c.deref-4.result }) c.in_ok-settled.settled
    c.in_ok-names.names.items c.list-modules.result.now c.requires (c.in_ok-names.ensures ∙ c.list.ensures)
    c.list-modules.ensures
    (c.in_ok-brought.ensures ∙ ap (λ names. brought_all (firsts same_name names) names c.list-modules.result.now)
    c.deref.ensures.value)
    c.in_ok-pieces.ensures
    (λ world all brought are inside.
    subst (AreMade world all c.in_ok-tables.tables.items) (sym c.deref-4.ensures.value)
    (c.in_ok-tables.ensures world all (brought ∙ sym (ap held_all c.deref-2.ensures.value)) are inside))
    c.deref-3.ensures.value
    (λ world pieces describes hold none brought long.
    c.in_ok-settled.ensures world pieces describes hold none
    (brought ∙ sym (ap held_all c.deref-5.ensures.value)) long) in
    handed-on (Fails (scope_faults set.names (members_of set))) c.from_residual-in_err-check.result
    c.in_err-check.field-0.0 c.from_residual-in_err-check.ensures.1
    (subst (λ faults. Fails faults c.in_err-check.field-0.0)
    ((λ k. faults_in (world_of set.names (members_of set)) (pieces_of (members_of set))
    ((ap held_all c.deref-6.ensures.value ∙ whole.0) k) 0 (c.list-modules.ensures k)) ∙ faults-are set c.requires)
    (c.in_err-check.ensures.fault (world_of set.names (members_of set)) (pieces_of (members_of set)) whole.2 whole.1
    (subst (λ modules. length modules < length (pieces_of (members_of set))) (sym c.list-modules.ensures)
    (modules-few set c.requires))))

pub returns-in_err-check-clause-placed : goal.returns-in_err-check-clause-placed
returns-in_err-check-clause-placed c =
    let set = c.args.set.now in
    let whole = all-settled-of set c.in_ok-brought.brought.items c.in_ok-pieces.pieces.items c.in_ok-tables.tables.items
    (record { names = c.deref-3.result; written = c.deref-4.result }) c.in_ok-settled.settled
    c.in_ok-names.names.items c.list-modules.result.now c.requires (c.in_ok-names.ensures ∙ c.list.ensures)
    c.list-modules.ensures
    (c.in_ok-brought.ensures ∙ ap (λ names. brought_all (firsts same_name names) names c.list-modules.result.now)
    c.deref.ensures.value)
    c.in_ok-pieces.ensures
    (λ world all brought are inside.
    subst (AreMade world all c.in_ok-tables.tables.items) (sym c.deref-4.ensures.value)
    (c.in_ok-tables.ensures world all (brought ∙ sym (ap held_all c.deref-2.ensures.value)) are inside))
    c.deref-3.ensures.value
    (λ world pieces describes hold none brought long.
    c.in_ok-settled.ensures world pieces describes hold none
    (brought ∙ sym (ap held_all c.deref-5.ensures.value)) long) in
    handed-on (IsAtName set) c.from_residual-in_err-check.result
    c.in_err-check.field-0.0 c.from_residual-in_err-check.ensures.1
    (fails-placed set.names (members_of set) c.in_err-check.field-0.0
    (subst (λ faults. Fails faults c.in_err-check.field-0.0)
    ((λ k. faults_in (world_of set.names (members_of set)) (pieces_of (members_of set))
    ((ap held_all c.deref-6.ensures.value ∙ whole.0) k) 0 (c.list-modules.ensures k)) ∙ faults-are set c.requires)
    (c.in_err-check.ensures.fault (world_of set.names (members_of set)) (pieces_of (members_of set)) whole.2 whole.1
    (subst (λ modules. length modules < length (pieces_of (members_of set))) (sym c.list-modules.ensures)
    (modules-few set c.requires)))))

pub returns-clause-holds : goal.returns-clause-holds
returns-clause-holds c =
    let set = c.args.set.now in
    let whole = all-settled-of set c.in_ok-brought.brought.items c.in_ok-pieces.pieces.items c.in_ok-tables.tables.items
    (record { names = c.deref-3.result; written = c.deref-4.result }) c.in_ok-settled.settled
    c.in_ok-names.names.items c.list-modules.result.now c.requires (c.in_ok-names.ensures ∙ c.list.ensures)
    c.list-modules.ensures
    (c.in_ok-brought.ensures ∙ ap (λ names. brought_all (firsts same_name names) names c.list-modules.result.now)
    c.deref.ensures.value)
    c.in_ok-pieces.ensures
    (λ world all brought are inside.
    subst (AreMade world all c.in_ok-tables.tables.items) (sym c.deref-4.ensures.value)
    (c.in_ok-tables.ensures world all (brought ∙ sym (ap held_all c.deref-2.ensures.value)) are inside))
    c.deref-3.ensures.value
    (λ world pieces describes hold none brought long.
    c.in_ok-settled.ensures world pieces describes hold none
    (brought ∙ sym (ap held_all c.deref-5.ensures.value)) long) in
    record {
      names = c.in_ok-names.ensures ∙ c.list.ensures;
      pieces = pieces_of (members_of set);
      hold = whole.2.closed.hold;
      stand = opens-stand (world_of set.names (members_of set)) (pieces_of (members_of set)) c.in_ok-settled.settled
          whole.2;
    }

pub returns-clause-sound : goal.returns-clause-sound
returns-clause-sound c =
    let set = c.args.set.now in
    let whole = all-settled-of set c.in_ok-brought.brought.items c.in_ok-pieces.pieces.items c.in_ok-tables.tables.items
    (record { names = c.deref-3.result; written = c.deref-4.result }) c.in_ok-settled.settled
    c.in_ok-names.names.items c.list-modules.result.now c.requires (c.in_ok-names.ensures ∙ c.list.ensures)
    c.list-modules.ensures
    (c.in_ok-brought.ensures ∙ ap (λ names. brought_all (firsts same_name names) names c.list-modules.result.now)
    c.deref.ensures.value)
    c.in_ok-pieces.ensures
    (λ world all brought are inside.
    subst (AreMade world all c.in_ok-tables.tables.items) (sym c.deref-4.ensures.value)
    (c.in_ok-tables.ensures world all (brought ∙ sym (ap held_all c.deref-2.ensures.value)) are inside))
    c.deref-3.ensures.value
    (λ world pieces describes hold none brought long.
    c.in_ok-settled.ensures world pieces describes hold none
    (brought ∙ sym (ap held_all c.deref-5.ensures.value)) long) in
    sym ((λ k. faults_in (world_of set.names (members_of set)) (pieces_of (members_of set))
    ((ap held_all c.deref-6.ensures.value ∙ whole.0) k) 0 (c.list-modules.ensures k)) ∙ faults-are set c.requires)
    ∙ c.in_ok-check.ensures.sound (world_of set.names (members_of set)) (pieces_of (members_of set)) whole.2 whole.1
    (subst (λ modules. length modules < length (pieces_of (members_of set))) (sym c.list-modules.ensures)
    (modules-few set c.requires))

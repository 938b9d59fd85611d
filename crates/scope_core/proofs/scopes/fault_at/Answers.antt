use Rattle.std.proofs.Common.{◌≡◌, ◌∙◌, [], None, map, sym, subst, slice_index_or, List, IfOk, ap}
use Rattle.std.proofs.lemmas.Bool.{ltb-true, ltb-false}
use Rattle.std.specs.declared.vec.Vec.{Vec}
use Rattle.std.specs.declared.alloc.Global.{Global}
use Rattle.scope_tables.specs.declared.brought.Bringing.{Bringing}
use Rattle.scope_tables.specs.Brought as held
use Rattle.scope_tables.specs.inside.Reaching.{bringing_of}
use Rattle.scope_core.specs.inside.Lessening.{least_onto}
use Rattle.scope_core.specs.inside.Checking.{faults_of}
use Rattle.scope_core.proofs.CheckLaws.{piece-there, places-there, mapped-at, mapped-past}
use Rattle.scope_core.proofs.scopes.fault_at.Goals as goal

pub returns-in-Some : goal.returns-in-Some
returns-in-Some c world pieces settled written within =
    let f : Vec Bringing Global → List held.Bringing = λ one. map bringing_of one.items in
    subst (λ brought. IfOk c.module_fault.result (λ least. least
    ≡ least_onto None (faults_of world pieces brought c.args.index c.args.module.now)))
    (ap (map bringing_of) c.deref.ensures.value
    ∙ sym (mapped-at f c.args.brought.now c.args.index c.in-Some.brought.now
    (ltb-true _ _ (sym c.in-Some.ensures.lookup.0)) c.in-Some.ensures.lookup.1))
    (c.module_fault.ensures world pieces (slice_index_or pieces c.args.index []) settled
    (piece-there pieces c.args.index within)
    (c.places_at-places.ensures ∙ places-there pieces c.args.scene.written.now c.args.index written))

pub returns-in-None : goal.returns-in-None
returns-in-None c world pieces settled written within =
    let f : Vec Bringing Global → List held.Bringing = λ one. map bringing_of one.items in
    subst (λ brought. IfOk c.module_fault-in-None.result (λ least. least
    ≡ least_onto None (faults_of world pieces brought c.args.index c.args.module.now)))
    (sym (mapped-past f c.args.brought.now c.args.index (ltb-false _ _ (sym c.in-None.ensures.lookup.0))))
    (c.module_fault-in-None.ensures world pieces (slice_index_or pieces c.args.index []) settled
    (piece-there pieces c.args.index within)
    (c.places_at-places.ensures ∙ places-there pieces c.args.scene.written.now c.args.index written))

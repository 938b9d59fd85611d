use Rattle.std.proofs.Common.{◌≡◌, ◌∙◌, ◌<◌, ◌≤◌, Some, length, slice_get, take, ◌+◌, refl, sym, ap, subst, arith}
use Rattle.std.proofs.lemmas.Bool.{ltb-true}
use Rattle.std.proofs.lemmas.Option.{slice_get_read, slice_get_past}
use Rattle.std.proofs.lemmas.List.{with_items_is}
use Rattle.scope_core.specs.ScopeFaults.{twice}
use Rattle.scope_core.specs.inside.Rounds.{last_types}
use Rattle.scope_core.specs.inside.Noting.{NotesDeclared}
use Rattle.case_table.specs.Lists.{firsts}
use Rattle.scope_tables.specs.inside.Owning.{same_text, names_in, number_in}
use Rattle.scope_tables.proofs.OwnLaws.{number-read}
use Rattle.scope_core.proofs.TwiceLaws.{AreNoted, noted-step, noted-all, place-there, taken-there}
use Rattle.scope_core.proofs.faults.twice_in.Goals as goal
use Rattle.scope_core.proofs.faults.twice_in.Goals.{in-Some+in-Some-taken+in_ok-note_declared}
use Rattle.scope_core.proofs.faults.twice_in.Goals.{in-Some+in_default-taken, in_default}

pub loop-index-preserved : goal.loop-index-preserved
loop-index-preserved c world pieces own are there number places table_at =
    let i = c.loop-index.index in
    let table = c.args.table.now in
    let settled = c.args.settled.now in
    let entity = c.index-entities-index.result in
    let long = ap length c.list-entities.ensures in
    let within : i < length table.own = omega (arith, c.loop-index-test.true, long) in
    elim c.match-get.branch [
      | in-Some+in-Some-taken+in_ok-note_declared w ↦
          let at = w.in-Some.at.now in
          let taken = w.in-Some-taken.taken in
          let place : slice_get c.args.places.now i ≡ Some at =
          slice_get_read c.args.places.now (length c.args.places.now) i at refl
          (ltb-true _ _ (sym w.in-Some.ensures.lookup.0)) w.in-Some.ensures.lookup.1 in
          let held : slice_get table.own i ≡ Some entity =
          ap (λ l. slice_get l i) (sym c.list-entities.ensures)
          ∙ slice_get_read c.list-entities.result.now (length c.list-entities.result.now) i entity refl
          c.loop-index-test.true c.index-entities-index.is in
          let named : w.number_at-name.result ≡ number_in table.own entity.name =
          w.number_at-name.ensures
          ∙ number-read table.own i (length (firsts same_text (names_in table.own))) entity held in
          let notes : NotesDeclared (number_in table.own entity.name) taken entity.sort (twice c.args.number at)
          c.loop-index.least c.loop-index.kinds.items c.loop-index.seen.keys w.note_declared.new.least
          w.note_declared.new.kinds w.note_declared.new.seen.keys =
          subst (λ n. NotesDeclared n taken entity.sort (twice c.args.number at)
          c.loop-index.least c.loop-index.kinds.items c.loop-index.seen.keys w.note_declared.new.least
          w.note_declared.new.kinds w.note_declared.new.seen.keys) named
          (subst (λ l. NotesDeclared w.number_at-name.result taken entity.sort (twice c.args.number at)
          c.loop-index.least l c.loop-index.seen.keys w.note_declared.new.least
          w.note_declared.new.kinds w.note_declared.new.seen.keys) w.deref_mut.ensures.value
          w.in_ok-note_declared.ensures) in
          subst (λ l. AreNoted (last_types world pieces) table.own settled.lists.keys c.args.least.now
          (take (i + 1) own) l
          c.match-get.kinds.items c.match-get.seen.keys) (sym w.least-is)
          (subst (λ l. AreNoted (last_types world pieces) table.own settled.lists.keys c.args.least.now
          (take (i + 1) own)
          w.note_declared.new.least l c.match-get.seen.keys)
          (sym (ap (λ v. v.items) w.kinds-is
          ∙ with_items_is c.loop-index.kinds w.note_declared.new.kinds
          (w.note_declared.auto.kinds ∙ w.deref_mut.ensures.len)))
          (subst (λ l. AreNoted (last_types world pieces) table.own settled.lists.keys c.args.least.now
          (take (i + 1) own)
          w.note_declared.new.least w.note_declared.new.kinds l) (sym (ap (λ v. v.keys) w.seen-is))
          (noted-step world settled pieces c.args.module i taken at table own c.args.places.now entity
          c.args.least.now c.loop-index.least w.note_declared.new.least
          c.loop-index.kinds.items w.note_declared.new.kinds
          c.loop-index.seen.keys w.note_declared.new.seen.keys are table_at there places within place held
          (sym w.taken.ensures ∙ w.in-Some-taken.is)
          (c.loop-index.invariant world pieces own are there number places table_at)
          (subst (λ n. NotesDeclared (number_in table.own entity.name) taken entity.sort (twice n at)
          c.loop-index.least c.loop-index.kinds.items c.loop-index.seen.keys w.note_declared.new.least
          w.note_declared.new.kinds w.note_declared.new.seen.keys) number notes))))
      | in-Some+in_default-taken w ↦
          absurd (taken-there world settled pieces c.args.module i table own are table_at there within
          (sym w.taken.ensures ∙ w.in_default-taken.is))
      | in_default w ↦
          absurd (place-there world settled pieces c.args.module i table own c.args.places.now are table_at there
          within places
          (slice_get_past c.args.places.now i w.in_default.ensures.lookup.3))
    ]

pub returns : goal.returns
returns c world pieces own are there number places table_at =
    let long = ap length c.list-entities.ensures in
    let past : length c.args.table.now.own ≤ c.loop-index.index = omega (arith, c.loop-index-test.false, long) in
    noted-all world c.args.settled.now pieces c.args.module c.loop-index.index c.args.table.now own c.args.least.now
    c.loop-index.least c.loop-index.kinds.items c.loop-index.seen.keys are table_at there past
    (c.loop-index.invariant world pieces own are there number places table_at)

use Rattle.std.proofs.Common.{refl, sym, ap, subst, length, ◌≡◌, ◌∙◌, ◌<◌, [], slice_get}
use Rattle.std.proofs.lemmas.Option.{slice_get_within, get_or_from_slice_get}
use Rattle.std.specs.Cmp.Lexicographic.{pointwise}
use Rattle.type_rules.specs.contracts.ty.TyPartialEq.TheImpl as ty
use Rattle.case_table.specs.ListLaws.{slice_get-with_first_kept}
use Rattle.scope_core.specs.declared.settled.Settled.{Settled}
use Rattle.scope_core.specs.inside.Rounds.{SettlesBy}
use Rattle.scope_core.proofs.SameLaws.{held-decide, apart-more}
use Rattle.scope_core.proofs.CountLaws.{grown-settles}
use Rattle.scope_core.proofs.settled.Settled.take.Goals as goal

pub returns : goal.returns
returns c =
    let stored = c.in_ok-number.ensures.stored in
    let is : c.args.types.items ≡ stored.0 = sym c.of.ensures ∙ (held-decide c.of.result stored.0).0 stored.2 in
    let inside : c.in_ok-number.number < length c.insert_full.new.self.keys =
    slice_get_within c.insert_full.new.self.keys c.in_ok-number.number stored.0 stored.1 in
    let mid : Settled =
    record {
      tables = c.args.self.now.tables;
      lists = c.insert_full.new.self;
      taken = c.args.self.now.taken;
      sums = c.args.self.now.sums;
    } in
    grown-settles c.args.place c.args.types.items c.args.self.now mid c.set_taken.new.self refl refl
    (apart-more c.args.self.now.lists.keys c.insert_full.new.self.keys c.of.result c.in_ok-number.ensures.keys)
    (λ n list at. ap (λ keys. slice_get keys n) c.in_ok-number.ensures.keys
    ∙ slice_get-with_first_kept (pointwise (ty.ghosts).eq) c.args.self.now.lists.keys c.of.result n list at)
    (subst (λ types. SettlesBy c.args.place types mid c.set_taken.new.self)
    (get_or_from_slice_get c.insert_full.new.self.keys c.in_ok-number.number stored.0 [] stored.1 ∙ sym is)
    (c.set_taken.ensures.settles inside))

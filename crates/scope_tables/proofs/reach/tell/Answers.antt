use Rattle.std.proofs.Common.{refl, sym, ap, is_some, length, ◌∙◌}
use Rattle.std.proofs.lemmas.Bool.{ltb-true}
use Rattle.std.proofs.lemmas.Option.{slice_get_read}
use Rattle.scope_tables.specs.inside.Reaching.{bringing_of}
use Rattle.scope_tables.proofs.ReachLaws.{takes-none, takes-one, module-found}
use Rattle.scope_tables.proofs.reach.tell.Goals as goal

pub returns-in_default : goal.returns-in_default
returns-in_default c =
    takes-none c.args.places.now.keys (bringing_of c.args.bringing.now) c.args.all.now.items
    (sym c.get_index_of.ensures.found ∙ ap is_some c.in_default.is)

pub returns : goal.returns
returns c =
    takes-one c.args.places.now.keys (bringing_of c.args.bringing.now) c.args.all.now.items c.in-Some.place
    c.in-Some-get_mut.reach.now c.take_in.new.self
    (module-found c.args.places.now.keys c.args.bringing.now.from c.in-Some.place
    (sym c.get_index_of.ensures.index ∙ c.in-Some.is))
    (slice_get_read c.args.all.now.items (length c.args.all.now.items) c.in-Some.place c.in-Some-get_mut.reach.now refl
    (ltb-true _ _ (sym c.in-Some-get_mut.ensures.item.0)) c.in-Some-get_mut.ensures.value)
    c.in_ok-take_in.ensures

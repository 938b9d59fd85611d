use Rattle.std.proofs.Common.{refl, sym, ap, ◌∙◌, option_map, length}
use Rattle.std.proofs.lemmas.Bool.{ltb-true, ltb-false}
use Rattle.std.proofs.lemmas.Option.{slice_get-map, slice_get_read, slice_get_past}
use Rattle.module_set.specs.Names.{named}
use Rattle.module_loader.specs.LoadFaults.{name_of}
use Rattle.module_loader.specs.inside.Linking.{linked_member}
use Rattle.module_loader.proofs.loading.name_at.Goals as goal

pub returns-in_ok-name-in-Some : goal.returns-in_ok-name-in-Some
returns-in_ok-name-in-Some c =
    let all = c.args.all.now in
    let within = ltb-true c.args.index (length all) (sym c.in-Some.ensures.lookup.0) in
    let at = slice_get_read all (length all) c.args.index c.in-Some.one.now refl within c.in-Some.ensures.lookup.1 in
    c.in_ok-name-in-Some.ensures
    ∙ sym (ap name_of (slice_get-map linked_member all c.args.index ∙ ap (option_map linked_member) at))

pub returns-in-None : goal.returns-in-None
returns-in-None c =
    let all = c.args.all.now in
    let past = ltb-false c.args.index (length all) (sym c.in-None.ensures.lookup.0) in
    ap named (c.of.ensures ∙ c.new.ensures.items)
    ∙ sym (ap name_of (slice_get-map linked_member all c.args.index
    ∙ ap (option_map linked_member) (slice_get_past all c.args.index past)))

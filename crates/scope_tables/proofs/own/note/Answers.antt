use Rattle.std.proofs.Common.{refl, length, sym, ap, subst, map, ◌≡◌, ◌∙◌, ◌++◌, ◌∷◌, [], true, false, Some}
use Rattle.std.proofs.Common.{slice_get, slice_set, option_map, arith}
use Rattle.std.specs.List.{list_any}
use Rattle.std.proofs.lemmas.Bool.{not-true, not-false, ltb-true, false≢true}
use Rattle.std.proofs.lemmas.List.{map-append, map-set, length-map}
use Rattle.std.proofs.lemmas.Option.{slice_get-map, slice_get_read, slice_get_within}
use Rattle.case_table.specs.Lists.{with_first}
use Rattle.case_table.specs.ListLaws.{with_first-known}
use Rattle.scope_tables.specs.inside.Owning.{AreOwn, same_text, indices_of}
use Rattle.scope_tables.proofs.OwnLaws.{fresh-own, known-own}
use Rattle.scope_tables.proofs.own.note.Goals as goal

pub returns-in_ok-push-2-clause-own : goal.returns-in_ok-push-2-clause-own
returns-in_ok-push-2-clause-own c entities long own =
    let name_is : c.in_ok-name.name ≡ c.args.entity.now.name = c.in_ok-name.ensures.cases in
    let new : list_any (same_text c.args.entity.now.name) c.args.names.now.keys ≡ false =
    ap (λ name. list_any (same_text name) c.args.names.now.keys) (sym name_is)
    ∙ not-true _ (sym c.in_ok-number.ensures.added ∙ c.if-fresh.true) in
    let keys : c.insert_full.new.self.keys ≡ with_first same_text c.args.names.now.keys c.args.entity.now.name =
    c.in_ok-number.ensures.keys ∙ ap (with_first same_text c.args.names.now.keys) name_is in
    subst (AreOwn (entities ++ c.args.entity.now ∷ []) c.insert_full.new.self.keys)
    (sym (ap (map (λ list. list.items)) c.in_ok-push-2.ensures.items
    ∙ map-append (λ list. list.items) c.args.lists.now.items (c.push.new.self ∷ [])
    ∙ ap (λ one. map (λ list. list.items) c.args.lists.now.items ++ one ∷ [])
    (c.in_ok-push.ensures.ok ∙ ap (λ l. l ++ c.args.index ∷ []) c.new-list.ensures.items)))
    (fresh-own entities c.args.entity.now c.args.index c.args.names.now.keys c.insert_full.new.self.keys
    (map (λ list. list.items) c.args.lists.now.items) long own new keys c.in_ok-number.ensures.unique)

pub returns-in_ok-push-3-clause-own : goal.returns-in_ok-push-3-clause-own
returns-in_ok-push-3-clause-own c entities long own =
    let name_is : c.in_ok-name.name ≡ c.args.entity.now.name = c.in_ok-name.ensures.cases in
    let old : list_any (same_text c.args.entity.now.name) c.args.names.now.keys ≡ true =
    ap (λ name. list_any (same_text name) c.args.names.now.keys) (sym name_is)
    ∙ not-false _ (sym c.in_ok-number.ensures.added ∙ c.if-fresh.false) in
    let keys : c.insert_full.new.self.keys ≡ with_first same_text c.args.names.now.keys c.args.entity.now.name =
    c.in_ok-number.ensures.keys ∙ ap (with_first same_text c.args.names.now.keys) name_is in
    let stored = c.in_ok-number.ensures.stored in
    let items_at : slice_get (map (λ list. list.items) c.args.lists.now.items) c.in_ok-number.number
    ≡ Some c.in-Some.list.now.items =
    slice_get-map (λ list. list.items) c.args.lists.now.items c.in_ok-number.number
    ∙ ap (option_map (λ list. list.items))
    (slice_get_read c.args.lists.now.items (length c.args.lists.now.items) c.in_ok-number.number c.in-Some.list.now
    refl (ltb-true _ _ (sym c.in-Some.ensures.item.0)) c.in-Some.ensures.value) in
    subst (AreOwn (entities ++ c.args.entity.now ∷ []) c.insert_full.new.self.keys)
    (sym (map-set (λ list. list.items) c.args.lists.now.items c.in_ok-number.number c.push-in-Some.new.self
    ∙ ap (slice_set (map (λ list. list.items) c.args.lists.now.items) c.in_ok-number.number)
    c.in_ok-push-3.ensures.ok))
    (known-own entities c.args.entity.now c.args.index c.in_ok-number.number c.args.names.now.keys
    c.insert_full.new.self.keys (map (λ list. list.items) c.args.lists.now.items) c.in-Some.list.now.items stored.0
    long own old keys stored.1 (ap (λ name. same_text name stored.0) (sym name_is) ∙ stored.2) items_at)

-- where the name is known, it has a list
pub returns-in_default-clause-own : goal.returns-in_default-clause-own
returns-in_default-clause-own c entities long own =
    let name_is : c.in_ok-name.name ≡ c.args.entity.now.name = c.in_ok-name.ensures.cases in
    let old : list_any (same_text c.args.entity.now.name) c.args.names.now.keys ≡ true =
    ap (λ name. list_any (same_text name) c.args.names.now.keys) (sym name_is)
    ∙ not-false _ (sym c.in_ok-number.ensures.added ∙ c.if-fresh.false) in
    let keys : c.insert_full.new.self.keys ≡ with_first same_text c.args.names.now.keys c.args.entity.now.name =
    c.in_ok-number.ensures.keys ∙ ap (with_first same_text c.args.names.now.keys) name_is in
    let stored = c.in_ok-number.ensures.stored in
    let within = slice_get_within c.insert_full.new.self.keys c.in_ok-number.number stored.0 stored.1 in
    let stays = ap length (keys ∙ with_first-known same_text c.args.names.now.keys c.args.entity.now.name old) in
    let listed = ap length own.lists_are in
    let lists_long = length-map c.args.lists.now.items (λ list. list.items) in
    let names_long = length-map c.args.names.now.keys (indices_of entities) in
    absurd (false≢true (c.in_default.ensures.variant.1
    (omega (arith, within, stays, listed, lists_long, names_long))))

use Rattle.std.proofs.Common.{◌∙◌, ◌++◌, ◌∷◌, [], ap, sym, map, flat_map, arith}
use Rattle.std.proofs.lemmas.Bool.{ltb-true, ltb-false}
use Rattle.std.proofs.lemmas.List.{map-append}
use Rattle.case_table.specs.Lists.{firsts}
use Rattle.module_set.specs.Names.{same_name}
use Rattle.scope_tables.specs.Brought.{brought_by}
use Rattle.scope_tables.specs.inside.Reaching.{bringing_of}
use Rattle.scope_core.proofs.ScopingLaws.{brought_more, brought_past, brought_end}
use Rattle.scope_core.proofs.scopes.brought_of_all.Goals.{in-Some+in_ok-one+in_ok-push, in_default}
use Rattle.scope_core.proofs.scopes.brought_of_all.Goals as goal

pub loop-index-preserved : goal.loop-index-preserved
loop-index-preserved c = elim c.match-get.branch [
  | in-Some+in_ok-one+in_ok-push w ↦
      let names = c.args.names.now in
      let done = map (λ one. map bringing_of one.items) c.loop-index.all.items in
      brought_more (firsts same_name names) names c.args.modules.now done
      (map (λ one. map bringing_of one.items) c.match-get.all.items) c.loop-index.index w.in-Some.name.now
      w.index-modules-index.result c.loop-index.invariant (ltb-true _ _ (sym w.in-Some.ensures.lookup.0))
      w.in-Some.ensures.lookup.1 (omega arith) w.index-modules-index.is
      (ap (λ all. map (λ one. map bringing_of one.items) all.items) w.all-is
      ∙ ap (map (λ one. map bringing_of one.items)) w.in_ok-push.ensures.items
      ∙ map-append (λ one. map bringing_of one.items) c.loop-index.all.items (w.in_ok-one.one ∷ [])
      ∙ ap (λ one. done ++ one ∷ []) (w.in_ok-one.ensures
      ∙ ap (λ known. flat_map (brought_by known w.in-Some.name.now) w.index-modules-index.result.imports)
      c.in_ok-indices.ensures))
  | in_default w ↦
      brought_past (firsts same_name c.args.names.now) c.args.names.now c.args.modules.now
      (map (λ one. map bringing_of one.items) c.loop-index.all.items)
      (map (λ one. map bringing_of one.items) c.match-get.all.items) c.loop-index.index c.loop-index.invariant
      (ltb-false _ _ (sym w.in_default.ensures.lookup.0))
      (ap (λ all. map (λ one. map bringing_of one.items) all.items) w.all-is)
]

pub returns : goal.returns
returns c =
    brought_end (firsts same_name c.args.names.now) c.args.names.now c.args.modules.now
    (map (λ one. map bringing_of one.items) c.loop-index.all.items) c.loop-index.index c.loop-index.invariant
    (omega (arith, c.loop-index-test.false))

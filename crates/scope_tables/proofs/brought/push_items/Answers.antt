use Rattle.std.proofs.Common.{sym, ap, map, option_map, arith, false, ◌∙◌, ◌++◌}
use Rattle.scope_tables.specs.Brought.{brought_item, bringing, as_list, index_meant}
use Rattle.scope_tables.specs.inside.Reaching.{bringing_of}
use Rattle.scope_tables.proofs.BroughtLaws.{filter_map-more}
use Rattle.scope_tables.proofs.brought.push_items.Goals as goal

pub loop-item-preserved : goal.loop-item-preserved
loop-item-preserved c =
    let item = c.item-item.result in
    let keys = c.args.names.now.keys in
    let importer = c.args.importer.now in
    c.in_ok-push_one.ensures
    ∙ ap (λ names. map bringing_of c.loop-item.all.items
    ++ as_list (option_map (bringing names false) (index_meant keys importer item.«module»))) c.named_alone.ensures
    ∙ ap (λ l. l ++ as_list (brought_item keys importer item)) c.loop-item.invariant
    ∙ filter_map-more (brought_item keys importer) (map bringing_of c.args.all.now.items) c.args.items.now
    c.loop-item.item-index item (omega arith) (sym c.item-item.is)

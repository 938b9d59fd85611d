use Rattle.std.proofs.Common.{◌≡◌, map, take, flat_map}
use Rattle.scope_tables.specs.Brought.{brought_by}
use Rattle.scope_tables.specs.inside.Reaching.{bringing_of}
use Rattle.scope_tables.proofs.brought.brought.Given as goal

abbrev pub invariant-loop-import : goal.invariant-loop-import
invariant-loop-import l =
    map bringing_of l.all.items ≡ flat_map (brought_by l.names.keys l.importer) (take l.import-index l.«module».imports)

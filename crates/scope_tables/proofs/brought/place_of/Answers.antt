use Rattle.std.proofs.Common.{sym, ap, is_some, ◌∙◌}
use Rattle.module_set.specs.Names.{same_name}
use Rattle.scope_tables.proofs.BroughtLaws.{place-found, place-missed}
use Rattle.scope_tables.proofs.brought.place_of.Goals as goal

pub returns-in-Some : goal.returns-in-Some
returns-in-Some c =
    place-found same_name c.args.name.now c.args.names.now.keys c.in-Some.index
    (sym c.get_index_of.ensures.index ∙ c.in-Some.is)

pub returns-in-None : goal.returns-in-None
returns-in-None c =
    c.len.ensures.len
    ∙ place-missed same_name c.args.name.now c.args.names.now.keys
    (sym (ap is_some c.in-None.is) ∙ c.get_index_of.ensures.found)

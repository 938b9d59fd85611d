use Rattle.std.proofs.Common.{◌∙◌, ap, map, string_bytes}
use Rattle.mdl_cli.proofs.FindLaws.{short-texts, loaded_found}
use Rattle.mdl_cli.proofs.find.find.Goals as goal

pub find_in-requires-clause-short : goal.find_in-requires-clause-short
find_in-requires-clause-short g c =
    short-texts (map string_bytes c.deref.result.now) c.deref-2.result.now (g.S.Source.state c.args.source.now)
    c.in-Ok-load.set c.in-Ok-load.ensures.loaded

pub returns-in-Ok-load : goal.returns-in-Ok-load
returns-in-Ok-load g c =
    loaded_found c.args.request.now (g.S.Source.state c.args.source.now) (g.S.Source.state c.load.new.source)
    (map string_bytes c.deref.result.now) c.deref-2.result.now c.in-Ok-load.set c.find_in.result
    (ap (map string_bytes) c.deref.ensures.value ∙ (c.in-Ok.ensures ∙ c.list.ensures))
    (c.deref-2.ensures.value ∙ c.in-Ok-asked.ensures) c.in-Ok-load.ensures.loaded c.find_in.ensures

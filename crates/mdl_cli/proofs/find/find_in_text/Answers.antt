use Rattle.mdl_cli.specs.Outcome.{material_name}
use Rattle.mdl_cli.proofs.FindLaws.{words_found, wordless_found}
use Rattle.mdl_cli.proofs.find.find_in_text.Goals as goal

pub returns-in-Ok : goal.returns-in-Ok
returns-in-Ok c =
    words_found (material_name c.args.own.now c.args.material.now) c.args.material.now c.args.bytes.now
    c.deref.result.now c.find_in_words.result (rw c.deref.ensures.value c.in-Ok.ensures.tokens) c.find_in_words.ensures

pub returns-in-Err : goal.returns-in-Err
returns-in-Err c =
    wordless_found (material_name c.args.own.now c.args.material.now) c.args.material.now c.args.bytes.now
    c.in-Err.fault c.without_words.result c.in-Err.ensures.fault c.without_words.ensures

use Rattle.std.proofs.Common.{◌∙◌, ap, is_some}
use Rattle.mdl_lexer.proofs.NameTests.{number_of}
use Rattle.mdl_lexer.proofs.names.is_reserved.Goals as goal

pub returns : goal.returns
returns c =
    c.is_some.ensures
    ∙ ap is_some (number_of c.args.name.now c.new-words.result.in_use c.new-words.result.left_out
    c.number.result
    c.utf8.name c.new-words.ensures.in_use c.new-words.ensures.left_out c.number.ensures)

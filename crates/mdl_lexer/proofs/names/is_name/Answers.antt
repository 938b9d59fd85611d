use Rattle.std.proofs.Common.{◌∙◌, sym}
use Rattle.mdl_lexer.proofs.NameTests.{name_test}
use Rattle.mdl_lexer.proofs.names.is_name.Goals as goal

pub returns-then-starts_name : goal.returns-then-starts_name
returns-then-starts_name c =
    c.is_empty.ensures
    ∙ name_test c.args.text.now c.in-Some.behind.now c.skip.result.now c.in-Some.character
    c.in-Some.ensures.some.characters (sym c.starts_name.ensures ∙ c.if-starts_name.true) c.skip.utf8
    c.skip.ensures.value

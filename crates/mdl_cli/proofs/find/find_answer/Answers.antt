use Rattle.std.proofs.Common.{◌∙◌, sym}
use Rattle.mdl_cli.proofs.FindLaws.{finds_asked, finds_usage, unnamed_none}
use Rattle.mdl_cli.proofs.find.find_answer.Goals as goal

pub returns-then-not-names_command : goal.returns-then-not-names_command
returns-then-not-names_command g c =
    finds_usage _ _ _ (unnamed_none _ (sym c.names_command.ensures ∙ c.if-not-names_command.true))

pub returns-in-Ok-Some : goal.returns-in-Ok-Some
returns-in-Ok-Some g c =
    finds_asked _ _ _ _ _ (sym c.names_command.ensures ∙ c.if-not-names_command.false)
    (rw c.in-Ok-Some.field-0-is at c.in-Ok-Some.ensures) c.find.ensures

pub returns-in-Ok-None : goal.returns-in-Ok-None
returns-in-Ok-None g c = finds_usage _ _ _ (rw c.in-Ok-None.field-0-is at c.in-Ok-None.ensures)

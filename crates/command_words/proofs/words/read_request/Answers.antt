use Rattle.command_words.proofs.ReadingLaws.{request_has}
use Rattle.command_words.proofs.words.read_request.Goals as goal

pub returns : goal.returns
returns c = request_has _ c.in_ok-found.found c.in_ok-found.ensures

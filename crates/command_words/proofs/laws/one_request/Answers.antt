use Rattle.command_words.proofs.ReadingLaws.{request_is_one}
use Rattle.command_words.proofs.laws.one_request.Goals as goal

pub returns : goal.returns
returns c = request_is_one

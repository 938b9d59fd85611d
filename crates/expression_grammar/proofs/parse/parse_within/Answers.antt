use Rattle.expression_grammar.proofs.AnswerLaws.{ok_answer, err_answer, answers_written}
use Rattle.expression_grammar.proofs.parse.parse_within.Goals as goal

pub returns : goal.returns
returns c =
    let answer = c.read_tokens.ensures in
    record {
      tree = ok_answer c.args.limit c.args.tokens.now c.read_tokens.result c.requires answer;
      fault = err_answer c.args.limit c.args.tokens.now c.read_tokens.result c.requires answer;
      written = λ tree accepted writes.
          answers_written c.args.limit c.args.tokens.now c.read_tokens.result tree c.requires answer accepted
          writes;
    }

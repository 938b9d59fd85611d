use Rattle.mdl_grammar.proofs.ModuleAnswerLaws.{ok_module, err_module, module_answers_written}
use Rattle.mdl_grammar.proofs.modules.parse_module_within.Goals as goal

pub returns : goal.returns
returns c =
    let some = c.requires.0 in
    let answer = c.read_module.ensures in
    record {
      tree = ok_module c.args.limit c.args.tokens.now c.read_module.result some answer;
      fault = err_module c.args.limit c.args.tokens.now c.read_module.result some answer;
      written = λ tree accepted writes.
          module_answers_written c.args.limit c.args.tokens.now c.read_module.result tree some
          answer accepted writes;
    }

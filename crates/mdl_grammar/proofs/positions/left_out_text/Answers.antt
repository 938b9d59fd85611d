use Rattle.mdl_grammar.proofs.ModuleParseLaws.{in_use}
use Rattle.mdl_grammar.proofs.positions.left_out_text.Goals as goal

pub returns-in_default-clause-none : goal.returns-in_default-clause-none
returns-in_default-clause-none c = λ none. in_use c.args.sort.now c.in_default.not-LeftOut

use Rattle.mdl_cli.proofs.OutcomeLaws.{answer_is_one, no_refusal, refusal_is_one, outcome_stands}
use Rattle.mdl_cli.proofs.run.one_outcome.Goals as goal

pub returns : goal.returns
returns c = λ words files. record {
  stands = outcome_stands c.one_request.ensures c.one_load.ensures c.one_scope_fault.ensures words files;
  one_answer = answer_is_one c.one_request.ensures c.one_load.ensures words files;
  one_refusal = refusal_is_one c.one_request.ensures c.one_load.ensures c.one_scope_fault.ensures words files;
  not_both = no_refusal c.one_request.ensures c.one_load.ensures c.one_scope_fault.ensures words files;
}

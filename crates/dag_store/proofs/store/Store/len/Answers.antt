use Rattle.std.proofs.Common.{arith}
use Rattle.dag_store.specs.StoreLaws.{length-terms_of}
use Rattle.dag_store.proofs.store.Store.len.Goals as goal

pub returns-clause-terms : goal.returns-clause-terms
returns-clause-terms c = rw (length-terms_of, ← c.self.view_is) (omega arith)

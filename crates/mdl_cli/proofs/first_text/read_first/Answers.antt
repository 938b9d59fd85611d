use Rattle.std.proofs.Common.{sym, ◌∙◌}
use Rattle.std.proofs.lemmas.Option.{none-some}
use Rattle.std.proofs.lemmas.Result.{err_from_is_err_and}
use Rattle.mdl_cli.specs.Words.{kinds_of}
use Rattle.mdl_cli.specs.inside.Trees.{term_of}
use Rattle.mdl_cli.proofs.FirstLaws.{first_in_sound, first_in_complete}
use Rattle.mdl_cli.proofs.TermReading.{is_typed}
use Rattle.mdl_cli.proofs.GivesLaws.{none_from_not_first}
use Rattle.mdl_cli.proofs.first_text.read_first.Goals as goal

pub returns-in_err-first-clause-not_first : goal.returns-in_err-first-clause-not_first
returns-in_err-first-clause-not_first c = λ e name term first.
    let p = err_from_is_err_and c.from_residual.result c.from_residual.ensures.1 in
    let none = none_from_not_first c.from_residual.result p.0 c.in_err-first.field-0.0 _ p.1 p.2 e
    c.in_err-first.ensures in
    none-some _ (sym none ∙ first_in_complete (kinds_of c.args.words.now) name term first)

pub returns-clause-first : goal.returns-clause-first
returns-clause-first c = first_in_sound (kinds_of c.args.words.now) _ _ c.in_ok-first.ensures

pub returns-clause-typed : goal.returns-clause-typed
returns-clause-typed c = is_typed (term_of c.in_ok-first.first.tree) (returns-clause-first c).first

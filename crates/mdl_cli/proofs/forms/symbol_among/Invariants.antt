-- what is left finds the same
use Rattle.std.proofs.Common.{◌≡◌, drop, map}
use Rattle.mdl_cli.specs.inside.Reading.{symbol_among}
use Rattle.mdl_cli.specs.inside.Rows.{form_row}
use Rattle.mdl_cli.proofs.forms.symbol_among.Given as goal

abbrev pub invariant-loop-form : goal.invariant-loop-form
invariant-loop-form l =
    symbol_among (map form_row (drop l.form-index l.forms)) l.word ≡ symbol_among (map form_row l.forms)
    l.word

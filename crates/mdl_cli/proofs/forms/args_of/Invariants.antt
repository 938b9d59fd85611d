-- the arguments so far
use Rattle.std.proofs.Common.{◌≡◌, take, map}
use Rattle.mdl_cli.specs.inside.Rows.{field_arg}
use Rattle.mdl_cli.proofs.forms.args_of.Given as goal

abbrev pub invariant-loop-field : goal.invariant-loop-field
invariant-loop-field l = l.args.items ≡ map field_arg (take l.field-index l.fields)

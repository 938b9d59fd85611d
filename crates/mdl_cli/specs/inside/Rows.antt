-- What the rows of the code's table of forms stand for.
use Rattle.std.specs.Prelude.{ℕ, List, map}
use Rattle.type_rules.specs.declared.ty.Arg.{Arg}
use Rattle.type_rules.specs.declared.symbol.Symbol.{Symbol}
use Rattle.type_rules.specs.declared.symbol.Symbol.TheVariants as symbol
use Rattle.type_rules.specs.Types.{plain}
use Rattle.mdl_cli.specs.declared.forms.Field.{Field}
use Rattle.mdl_cli.specs.declared.forms.Field.TheVariants.{Varies, Uniform}
use Rattle.mdl_cli.specs.declared.forms.Head.{Head}
use Rattle.mdl_cli.specs.declared.forms.Head.TheVariants.{Truth, Value, Operation}
use Rattle.mdl_cli.specs.declared.forms.Form.{Form}
use Rattle.mdl_lexer.specs.declared.token.Kind.{Kind}
use Rattle.mdl_cli.specs.Words.{named}
use Rattle.mdl_cli.specs.FirstText.{varies, uniformly}

abbrev pub field_arg : Field → Arg
field_arg (Varies name) = varies name.now
field_arg (Uniform name) = uniformly name.now

abbrev pub form_symbol : List ℕ → Head → Symbol
form_symbol name (Truth value) = symbol.Bool value
form_symbol name (Value ty) = symbol.EnumValue ty.now name
form_symbol name (Operation fields result varying) =
    symbol.Op name (map field_arg fields.now) (plain result.now) varying

abbrev pub form_row : Form → Kind × Symbol
form_row form = (named form.name.now form.reserved, form_symbol form.name.now form.head)

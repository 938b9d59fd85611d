use Rattle.std.proofs.Common.{rules}
use Rattle.mdl_grammar.specs.inside.ModuleViews.{begun_of, naming_of}
use Rattle.mdl_grammar.proofs.ImportStepLaws.{imports_otherwise}
use Rattle.mdl_grammar.proofs.imports.by_sort.Goals as goal

pub returns-in_default : goal.returns-in_default
returns-in_default c =
    rw (imports_otherwise (begun_of c.args.begun.now) c.args.at c.args.items.items
    (naming_of c.args.naming) c.args.sort c.args.place c.in_default.not-Comma
    c.in_default.not-Semicolon c.in_default.not-BinaryOperator c.in_default.not-Str)
    (search rules)

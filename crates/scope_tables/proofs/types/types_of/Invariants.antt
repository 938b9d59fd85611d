use Rattle.std.proofs.Common.{◌≡◌, take}
use Rattle.scope_tables.specs.inside.Typing.{types_at}
use Rattle.scope_tables.proofs.types.types_of.Given as goal

-- the types so far
abbrev pub invariant-loop-param : goal.invariant-loop-param
invariant-loop-param l = l.types.items
    ≡ types_at l.view.names.now l.view.tables.now l.module (take l.param-index l.params)

-- What the parser answers, by the machine's run.
use Rattle.std.specs.Prelude.{◌≡◌, ⊤, ℕ, Result, Ok, Err}
use Rattle.mdl_syntax.specs.declared.expressions.Expr.{Expr}
use Rattle.mdl_syntax.specs.Trees.{tree_of}
use Rattle.expression_grammar.specs.declared.fault.ParseFault.{ParseFault}
use Rattle.expression_grammar.specs.declared.fault.ParseFault.TheVariants as fault
use Rattle.expression_grammar.specs.declared.mode.Stop.{Stop}
use Rattle.expression_grammar.specs.declared.mode.Stop.TheVariants as stop
use Rattle.expression_grammar.specs.inside.Machine.{Run, read_as, bad_at, deep_at, left_out_at}

abbrev pub FaultOf : ParseFault → Run → Type 0
FaultOf (fault.BadSyntax declaration at) made = (declaration ≡ 0) × (made ≡ bad_at at)
FaultOf (fault.TooDeep at) made = made ≡ deep_at at
FaultOf (fault.LeftOut at word) made = made ≡ left_out_at at word
FaultOf (fault.StatementBody at) made = ⊥
FaultOf (fault.Version at) made = ⊥
FaultOf fault.OutOfMemory made = ⊤

abbrev pub Parsed : Result Expr ParseFault → Run → Type 0
Parsed (Ok tree) made = made ≡ read_as (tree_of tree)
Parsed (Err refused) made = FaultOf refused made

-- the run that ends where the reader stops
abbrev pub stopped : ℕ → Stop → Run → Type 0
stopped at stop.Bad made = made ≡ bad_at at
stopped at stop.Deep made = made ≡ deep_at at
stopped at (stop.LeftOut word) made = made ≡ left_out_at at word
stopped at stop.OutOfMemory made = ⊤

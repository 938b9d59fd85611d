-- What the parsers answer.
use Rattle.std.specs.Prelude.{◌≡◌, ⊤, ℕ, List, Result, Ok, Err}
use Rattle.mdl_lexer.specs.declared.token.Token.{Token}
use Rattle.mdl_syntax.specs.declared.expressions.Expr.{Expr}
use Rattle.mdl_syntax.specs.Trees.{Tree, tree_of}
use Rattle.mdl_syntax.specs.Placed.{placed, IsSameButPlaces}
use Rattle.expression_grammar.specs.declared.fault.ParseFault.{ParseFault}
use Rattle.expression_grammar.specs.declared.fault.ParseFault.TheVariants as fault
use Rattle.expression_grammar.specs.Readings.{HasReading, bad_syntax, too_deep, left_out}

-- the fault that stands in the tokens, where expressions have at most this height. Memory may be short of any
abbrev pub HasFault : ℕ → List Token → ParseFault → Type 0
HasFault most tokens (fault.BadSyntax declaration at) = (declaration ≡ 0) × HasReading most tokens (bad_syntax at)
HasFault most tokens (fault.TooDeep at) = HasReading most tokens (too_deep at)
HasFault most tokens (fault.LeftOut at word) = HasReading most tokens (left_out at word)
HasFault most tokens (fault.StatementBody at) = ⊥
HasFault most tokens (fault.Version at) = ⊥
HasFault most tokens fault.OutOfMemory = ⊤

-- the expression is read with the tokens' places, unless memory is short
abbrev pub IsReadAs : List Token → Tree → Result Expr ParseFault → Type 0
IsReadAs tokens tree (Ok read) = (tree_of read ≡ placed tree tokens) × IsSameButPlaces (tree_of read) tree
IsReadAs tokens tree (Err refused) = refused ≡ fault.OutOfMemory

-- A result of the code is what reading gives, unless memory ran out.
use Rattle.std.specs.Prelude.{◌≡◌, ℕ, List, Result, Ok, Err}
use Rattle.std.specs.Borrow.{Bor}
use Rattle.mdl_lexer.specs.declared.token.Kind.{Kind}
use Rattle.mdl_lexer.specs.declared.tokens.Stop.{Stop}
use Rattle.mdl_lexer.specs.declared.tokens.Stop.TheVariants as stop
use Rattle.mdl_lexer.specs.inside.Classes.{kind_found}
use Rattle.mdl_lexer.specs.inside.Tokens.{Read, NoWord, PastRange, Found}

abbrev pub Stops : Stop → Read → Type 0
Stops stop.NoWord read = read ≡ NoWord
Stops stop.PastRange read = read ≡ PastRange
Stops stop.OutOfMemory read = Unit {0}

abbrev pub Reads : Result (Kind × Bor (List ℕ)) Stop → Read → Type 0
Reads (Ok found) read = read ≡ Found (kind_found found).0 (kind_found found).1
Reads (Err error) read = Stops error read

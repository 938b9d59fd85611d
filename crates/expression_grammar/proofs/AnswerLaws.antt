-- What the parser answers, by the definitions.
use Rattle.std.proofs.Common.{◌≡◌, ◌∙◌, ◌≤◌, refl, ap, sym, subst, ℕ, List, Result, Ok, Err, IfOk, IfErr}
use Rattle.mdl_lexer.specs.declared.token.Token.{Token}
use Rattle.mdl_syntax.specs.declared.expressions.Expr.{Expr}
use Rattle.mdl_syntax.specs.Trees.{Tree, tree_of}
use Rattle.mdl_syntax.specs.Written.{write}
use Rattle.mdl_syntax.specs.Levelled.{Accepted}
use Rattle.mdl_syntax.specs.Placed.{placed, IsSameButPlaces}
use Rattle.mdl_syntax.proofs.PlacedTwice.{placed_twice}
use Rattle.expression_grammar.specs.declared.fault.ParseFault.{ParseFault}
use Rattle.expression_grammar.specs.declared.fault.ParseFault.TheVariants as fault
use Rattle.expression_grammar.specs.Readings.{kinds, IsTree, HasReading, Reading, a_tree}
use Rattle.expression_grammar.specs.Answers.{HasFault, IsReadAs}
use Rattle.expression_grammar.specs.inside.Machine.{Run, run, read_as}
use Rattle.expression_grammar.specs.inside.Leads.{reading_of}
use Rattle.expression_grammar.specs.inside.Runs.{FaultOf, Parsed}
use Rattle.expression_grammar.proofs.ReadingLaws.{run_has, run_only, written_is_read}

known : (most : ℕ) (tokens : List Token) → 1 ≤ most → (made : Run) → run most tokens ≡ made →
    HasReading most tokens (reading_of made)
known most tokens some made same =
    subst (λ own. HasReading most tokens (reading_of own)) same (run_has most some tokens)

answers_tree : (most : ℕ) (tokens : List Token) (result : Expr) → 1 ≤ most →
    run most tokens ≡ read_as (tree_of result) → IsTree most tokens (tree_of result)
answers_tree most tokens result some same = known most tokens some (read_as (tree_of result)) same

answers_fault : (most : ℕ) (tokens : List Token) (refused : ParseFault) → 1 ≤ most →
    FaultOf refused (run most tokens) → HasFault most tokens refused
answers_fault most tokens (fault.BadSyntax declaration at) some is = (is.0, known most tokens some _ is.1)
answers_fault most tokens (fault.TooDeep at) some is = known most tokens some _ is
answers_fault most tokens (fault.LeftOut at word) some is = known most tokens some _ is
answers_fault most tokens (fault.StatementBody at) some is = absurd is
answers_fault most tokens (fault.Version at) some is = absurd is
answers_fault most tokens fault.OutOfMemory some is = tt

-- the tree of a reading, or another
abbrev tree_in : Tree → Reading → Tree
tree_in other (a_tree tree) = tree
tree_in other _ = other

abbrev IsSome : Reading → Type 0
IsSome (a_tree tree) = Unit {0}
IsSome _ = ⊥

same_reading : (most : ℕ) (tokens : List Token) (tree : Tree) → 1 ≤ most → Accepted most tree →
    write tree ≡ kinds tokens → (made : Run) →
    run most tokens ≡ made → a_tree (placed tree tokens) ≡ reading_of made
same_reading most tokens tree some accepted writes made same =
    run_only most some tokens (a_tree (placed tree tokens))
    (written_is_read most some tree tokens accepted writes)
    ∙ ap reading_of same

is_tree : (most : ℕ) (tokens : List Token) (tree : Tree) → 1 ≤ most → Accepted most tree →
    write tree ≡ kinds tokens → (made : Run) →
    run most tokens ≡ made → IsSome (reading_of made)
is_tree most tokens tree some accepted writes made same =
    subst IsSome (same_reading most tokens tree some accepted writes made same) tt

pub answers_written : (most : ℕ) (tokens : List Token) (result : Result Expr ParseFault) (tree : Tree) → 1 ≤ most →
    Parsed result (run most tokens) → Accepted most tree → write tree ≡ kinds tokens → IsReadAs tokens tree result
answers_written most tokens (Ok read) tree some same accepted writes =
    let is = sym (ap (tree_in (placed tree tokens))
    (same_reading most tokens tree some accepted writes (read_as (tree_of read)) same)) in
    (is, subst (λ (own : Tree). IsSameButPlaces own tree) (sym is) (placed_twice tree tokens))
answers_written most tokens (Err (fault.BadSyntax declaration at)) tree some is accepted writes =
    absurd (is_tree most tokens tree some accepted writes _ is.1)
answers_written most tokens (Err (fault.TooDeep at)) tree some is accepted writes =
    absurd (is_tree most tokens tree some accepted writes _ is)
answers_written most tokens (Err (fault.LeftOut at word)) tree some is accepted writes =
    absurd (is_tree most tokens tree some accepted writes _ is)
answers_written most tokens (Err (fault.StatementBody at)) tree some is accepted writes = absurd is
answers_written most tokens (Err (fault.Version at)) tree some is accepted writes = absurd is
answers_written most tokens (Err fault.OutOfMemory) tree some is accepted writes = refl

pub ok_answer : (most : ℕ) (tokens : List Token) (result : Result Expr ParseFault) → 1 ≤ most →
    Parsed result (run most tokens) → IfOk result (λ tree. IsTree most tokens (tree_of tree))
ok_answer most tokens (Ok tree) some is = answers_tree most tokens tree some is
ok_answer most tokens (Err refused) some is = tt

pub err_answer : (most : ℕ) (tokens : List Token) (result : Result Expr ParseFault) → 1 ≤ most →
    Parsed result (run most tokens) → IfErr result (λ refused. HasFault most tokens refused)
err_answer most tokens (Ok tree) some is = tt
err_answer most tokens (Err refused) some is = answers_fault most tokens refused some is

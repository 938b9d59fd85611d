-- The tokens of a module have one reading.
use Rattle.std.proofs.Common.{◌≡◌, ◌∙◌, ap, subst, ℕ, ◌≤◌, true, List}
use Rattle.mdl_lexer.specs.declared.token.Token.{Token}
use Rattle.module_grammar.specs.ModuleFaults.{IsTooDeep, IsStatementBody, IsOtherVersion}
use Rattle.module_grammar.specs.ModuleFaults.{IsLeftOutForm, too_deep, left_out, statement_body}
use Rattle.module_grammar.specs.ModuleFaults.{other_version}
use Rattle.module_grammar.specs.ModuleReadings.{ModuleReading, HasModuleReading, OneModuleReading}
use Rattle.module_grammar.specs.ModuleReadings as reading
use Rattle.expression_grammar.specs.Readings.{kinds}
use Rattle.module_grammar.specs.inside.ModuleMachine.{run_module}
use Rattle.module_grammar.specs.inside.ModuleRuns.{module_reading_of}
use Rattle.module_grammar.proofs.ModuleOpeningLaws.{one_end}
use Rattle.module_grammar.proofs.ModuleRunLaws.{run_has}
use Rattle.module_grammar.proofs.ModuleOneLaws.{never_both, named_once, bad_once, most_once, tree_ends}
use Rattle.module_grammar.proofs.ModuleOneLaws.{tree_not_bad, tree_not_named, left_once, deep_left}
use Rattle.module_grammar.proofs.ModuleOneLaws.{deep_statement, deep_version, left_statement}
use Rattle.module_grammar.proofs.ModuleOneLaws.{left_version, statement_version}

two_readings : (most : ℕ) → 1 ≤ most → (tokens : List Token) (one other : ModuleReading) →
    HasModuleReading most tokens one → HasModuleReading most tokens other → other ≡ one
two_readings most some tokens (reading.a_module one) (reading.a_module other) first second =
    ap reading.a_module (one_end true most tokens other one (tree_ends most tokens other second)
    (tree_ends most tokens one first))
two_readings most some tokens (reading.a_module one) (reading.bad_syntax whole at) first second =
    absurd (tree_not_bad most some tokens one first at second.0)
two_readings most some tokens (reading.a_module one) (reading.too_deep at) first second =
    absurd (tree_not_named most some tokens one first at (too_deep second.0))
two_readings most some tokens (reading.a_module one) (reading.left_out at text) first second =
    absurd (tree_not_named most some tokens one first at (left_out text second.0))
two_readings most some tokens (reading.a_module one) (reading.statement_body at) first second =
    absurd (tree_not_named most some tokens one first at (statement_body second.0))
two_readings most some tokens (reading.a_module one) (reading.other_version at) first second =
    absurd (tree_not_named most some tokens one first at (other_version second.0))
two_readings most some tokens (reading.bad_syntax whole at) (reading.a_module other) first second =
    absurd (tree_not_bad most some tokens other second at first.0)
two_readings most some tokens (reading.bad_syntax whole at) (reading.bad_syntax more place) first
    second =
    ap (λ n. reading.bad_syntax n place) (most_once (kinds tokens) more whole second.1 first.1)
    ∙ ap (reading.bad_syntax whole) (bad_once most (kinds tokens) place at second.0 first.0)
two_readings most some tokens (reading.bad_syntax whole at) (reading.too_deep place) first second =
    absurd (first.0.unnamed place (too_deep second.0))
two_readings most some tokens (reading.bad_syntax whole at) (reading.left_out place text) first
    second =
    absurd (first.0.unnamed place (left_out text second.0))
two_readings most some tokens (reading.bad_syntax whole at) (reading.statement_body place) first
    second =
    absurd (first.0.unnamed place (statement_body second.0))
two_readings most some tokens (reading.bad_syntax whole at) (reading.other_version place) first
    second =
    absurd (first.0.unnamed place (other_version second.0))
two_readings most some tokens (reading.too_deep at) (reading.a_module other) first second =
    absurd (tree_not_named most some tokens other second at (too_deep first.0))
two_readings most some tokens (reading.too_deep at) (reading.bad_syntax whole place) first second =
    absurd (second.0.unnamed at (too_deep first.0))
two_readings most some tokens (reading.too_deep at) (reading.too_deep place) first second =
    ap reading.too_deep (named_once most (kinds tokens) place at (too_deep second.0) second.1
    (too_deep first.0) first.1)
two_readings most some tokens (reading.too_deep at) (reading.left_out place text) first second =
    absurd (never_both most (kinds tokens) (IsTooDeep most (kinds tokens))
    (λ n. IsLeftOutForm most (kinds tokens) n text) (λ n is. too_deep is) (λ n is. left_out text is)
    (deep_left most some tokens text) at place first second)
two_readings most some tokens (reading.too_deep at) (reading.statement_body place) first second =
    absurd (never_both most (kinds tokens) (IsTooDeep most (kinds tokens))
    (IsStatementBody (kinds tokens)) (λ n is. too_deep is) (λ n is. statement_body is)
    (deep_statement most tokens) at place first second)
two_readings most some tokens (reading.too_deep at) (reading.other_version place) first second =
    absurd (never_both most (kinds tokens) (IsTooDeep most (kinds tokens))
    (IsOtherVersion (kinds tokens)) (λ n is. too_deep is) (λ n is. other_version is)
    (deep_version most some tokens) at place first second)
two_readings most some tokens (reading.left_out at text) (reading.a_module other) first second =
    absurd (tree_not_named most some tokens other second at (left_out text first.0))
two_readings most some tokens (reading.left_out at text) (reading.bad_syntax whole place) first
    second =
    absurd (second.0.unnamed at (left_out text first.0))
two_readings most some tokens (reading.left_out at text) (reading.too_deep place) first second =
    absurd (never_both most (kinds tokens) (IsTooDeep most (kinds tokens))
    (λ n. IsLeftOutForm most (kinds tokens) n text) (λ n is. too_deep is) (λ n is. left_out text is)
    (deep_left most some tokens text) place at second first)
two_readings most some tokens (reading.left_out at text) (reading.left_out place other) first second
    =
    let same = named_once most (kinds tokens) place at (left_out other second.0) second.1
    (left_out text first.0) first.1 in
    ap (λ n. reading.left_out n other) same ∙ ap (reading.left_out at) (left_once most tokens at
    other
    text (subst (λ n. IsLeftOutForm most (kinds tokens) n other) same second.0) first.0)
two_readings most some tokens (reading.left_out at text) (reading.statement_body place) first second
    =
    absurd (never_both most (kinds tokens) (λ n. IsLeftOutForm most (kinds tokens) n text)
    (IsStatementBody (kinds tokens)) (λ n is. left_out text is) (λ n is. statement_body is)
    (left_statement most tokens text) at place first second)
two_readings most some tokens (reading.left_out at text) (reading.other_version place) first second
    =
    absurd (never_both most (kinds tokens) (λ n. IsLeftOutForm most (kinds tokens) n text)
    (IsOtherVersion (kinds tokens)) (λ n is. left_out text is) (λ n is. other_version is)
    (left_version most tokens text) at place first second)
two_readings most some tokens (reading.statement_body at) (reading.a_module other) first second =
    absurd (tree_not_named most some tokens other second at (statement_body first.0))
two_readings most some tokens (reading.statement_body at) (reading.bad_syntax whole place) first
    second =
    absurd (second.0.unnamed at (statement_body first.0))
two_readings most some tokens (reading.statement_body at) (reading.too_deep place) first second =
    absurd (never_both most (kinds tokens) (IsTooDeep most (kinds tokens))
    (IsStatementBody (kinds tokens)) (λ n is. too_deep is) (λ n is. statement_body is)
    (deep_statement most tokens) place at second first)
two_readings most some tokens (reading.statement_body at) (reading.left_out place text) first second
    =
    absurd (never_both most (kinds tokens) (λ n. IsLeftOutForm most (kinds tokens) n text)
    (IsStatementBody (kinds tokens)) (λ n is. left_out text is) (λ n is. statement_body is)
    (left_statement most tokens text) place at second first)
two_readings most some tokens (reading.statement_body at) (reading.statement_body place) first
    second =
    ap reading.statement_body (named_once most (kinds tokens) place at (statement_body second.0)
    second.1 (statement_body first.0) first.1)
two_readings most some tokens (reading.statement_body at) (reading.other_version place) first second
    =
    absurd (never_both most (kinds tokens) (IsStatementBody (kinds tokens))
    (IsOtherVersion (kinds tokens)) (λ n is. statement_body is) (λ n is. other_version is)
    (statement_version most tokens) at place first second)
two_readings most some tokens (reading.other_version at) (reading.a_module other) first second =
    absurd (tree_not_named most some tokens other second at (other_version first.0))
two_readings most some tokens (reading.other_version at) (reading.bad_syntax whole place) first
    second =
    absurd (second.0.unnamed at (other_version first.0))
two_readings most some tokens (reading.other_version at) (reading.too_deep place) first second =
    absurd (never_both most (kinds tokens) (IsTooDeep most (kinds tokens))
    (IsOtherVersion (kinds tokens)) (λ n is. too_deep is) (λ n is. other_version is)
    (deep_version most some tokens) place at second first)
two_readings most some tokens (reading.other_version at) (reading.left_out place text) first second
    =
    absurd (never_both most (kinds tokens) (λ n. IsLeftOutForm most (kinds tokens) n text)
    (IsOtherVersion (kinds tokens)) (λ n is. left_out text is) (λ n is. other_version is)
    (left_version most tokens text) place at second first)
two_readings most some tokens (reading.other_version at) (reading.statement_body place) first second
    =
    absurd (never_both most (kinds tokens) (IsStatementBody (kinds tokens))
    (IsOtherVersion (kinds tokens)) (λ n is. statement_body is) (λ n is. other_version is)
    (statement_version most tokens) place at second first)
two_readings most some tokens (reading.other_version at) (reading.other_version place) first second
    =
    ap reading.other_version (named_once most (kinds tokens) place at (other_version second.0)
    second.1 (other_version first.0) first.1)

pub module_run_only : (most : ℕ) → 1 ≤ most → (tokens : List Token) (other : ModuleReading) →
    HasModuleReading most tokens other → other ≡ module_reading_of (run_module most tokens)
module_run_only most some tokens other has =
    two_readings most some tokens (module_reading_of (run_module most tokens)) other
    (run_has most some tokens) has

pub one_module_reading : (most : ℕ) → 1 ≤ most → (tokens : List Token) →
    OneModuleReading most tokens
one_module_reading most some tokens = record {
  reading = module_reading_of (run_module most tokens);
  has = run_has most some tokens;
  only = module_run_only most some tokens;
}

use Rattle.std.proofs.Common.{subst, sym}
use Rattle.mdl_lexer.specs.Lexes.{StartsNone}
use Rattle.mdl_lexer.proofs.LexingLaws.{starts_none}
use Rattle.mdl_lexer.proofs.LexResults.{has_tokens, has_fault, has_places, has_fault_place}
use Rattle.mdl_lexer.proofs.lexer.lex.Goals as goal

pub returns-in-Ok-clause-tokens : goal.returns-in-Ok-clause-tokens
returns-in-Ok-clause-tokens c =
    has_tokens c.args.bytes.now c.in-Ok.text.now c.lex_text.result c.in-Ok.ensures.cases.0
    c.in-Ok.ensures.cases.1
    c.lex_text.ensures.tokens

pub returns-in-Ok-clause-fault : goal.returns-in-Ok-clause-fault
returns-in-Ok-clause-fault c =
    has_fault c.args.bytes.now c.in-Ok.text.now c.lex_text.result c.in-Ok.ensures.cases.0
    c.in-Ok.ensures.cases.1
    c.lex_text.ensures.fault

pub returns-in-Ok-clause-places : goal.returns-in-Ok-clause-places
returns-in-Ok-clause-places c = has_places c.args.bytes.now c.lex_text.result (returns-in-Ok-clause-tokens c)

pub returns-in-Ok-clause-fault_place : goal.returns-in-Ok-clause-fault_place
returns-in-Ok-clause-fault_place c = has_fault_place c.args.bytes.now c.lex_text.result
    (returns-in-Ok-clause-fault c)

pub returns-in-Err-clause-fault : goal.returns-in-Err-clause-fault
returns-in-Err-clause-fault c =
    subst (StartsNone c.args.bytes.now) (sym c.valid_up_to.ensures) (starts_none c.args.bytes.now _
    c.in-Err.ensures.cases.1)

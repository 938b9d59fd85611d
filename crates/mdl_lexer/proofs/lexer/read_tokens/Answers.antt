use Rattle.std.proofs.Common.{◌≡◌, ◌∙◌, [], subst, Some, None, chars}
use Rattle.std.proofs.Common.{rules}
use Rattle.mdl_lexer.specs.inside.Separators.{behind_separator}
use Rattle.mdl_lexer.specs.inside.Tokens.{word_in, Found, NoWord, PastRange}
use Rattle.mdl_lexer.specs.inside.Lexing.{Reaches}
use Rattle.mdl_lexer.proofs.CuttingLaws.{rest_of_rest}
use Rattle.mdl_lexer.proofs.LexingLaws.{leads_over, leads_word, leads_here, token_places, stops_for}
use Rattle.mdl_lexer.proofs.LexingLaws.{not_empty, all_read}
use Rattle.mdl_lexer.proofs.lexer.read_tokens.Goals as goal

pub loop-rest-preserved-in-Some : goal.loop-rest-preserved-in-Some
loop-rest-preserved-in-Some c =
    let skips : behind_separator (chars c.loop-rest.rest.now) ≡ Some (chars c.in-Some.behind.now) =
    search rules in (
      c.in-Some.ensures.rest.rest_is_text,
      (
        rest_of_rest _ _ _ c.loop-rest.invariant.1.0 c.in-Some.ensures.rest,
        leads_over _ _ _ _ c.loop-rest.invariant.1.1 skips,
      ),
    )

pub loop-rest-preserved : goal.loop-rest-preserved
loop-rest-preserved c =
    let none : behind_separator (chars c.loop-rest.rest.now) ≡ None = search rules in
    let found : word_in (chars c.loop-rest.rest.now) ≡ Found c.in-Ok.kind (chars c.in-Ok.behind.now) =
    search rules in
    let rest = rest_of_rest _ _ _ c.loop-rest.invariant.1.0 c.in-Ok.ensures.rest in (
      c.in-Ok.ensures.rest.rest_is_text,
      (
        rest,
        leads_word _ _ _ _ _ c.in-Ok.kind c.loop-rest.invariant.1.1 (record {
          no_separator = none;
          found =
              found;
        })
            (c.in_ok-push-in-Ok.ensures.items
            ∙ token_places c.args.text.now _ c.loop-rest.rest.now c.in-Ok.behind.now c.in-Ok.kind
            c.loop-rest.invariant.1.0.rest_is_text rest.rest_is_text),
      ),
    )

pub returns-in-Err-NoWord-clause-fault : goal.returns-in-Err-NoWord-clause-fault
returns-in-Err-NoWord-clause-fault c =
    let none : behind_separator (chars c.loop-rest.rest.now) ≡ None = search rules in
    let read : word_in (chars c.loop-rest.rest.now) ≡ NoWord = search rules in
    stops_for _ _ c.loop-rest.rest.now NoWord c.loop-rest.invariant.1.1 c.loop-rest.invariant.1.0.rest_is_text
    (not_empty c.loop-rest.rest.now c.loop-rest-test.ensures) none read

pub returns-in-Err-PastRange-clause-fault : goal.returns-in-Err-PastRange-clause-fault
returns-in-Err-PastRange-clause-fault c =
    let none : behind_separator (chars c.loop-rest.rest.now) ≡ None = search rules in
    let read : word_in (chars c.loop-rest.rest.now) ≡ PastRange = search rules in
    stops_for _ _ c.loop-rest.rest.now PastRange c.loop-rest.invariant.1.1
    c.loop-rest.invariant.1.0.rest_is_text
    (not_empty c.loop-rest.rest.now c.loop-rest-test.ensures) none read

pub returns-clause-tokens : goal.returns-clause-tokens
returns-clause-tokens c =
    let none : chars c.loop-rest.rest.now ≡ [] = all_read c.loop-rest.rest.now c.loop-rest-test.ensures in
    subst (λ rest. Reaches c.args.text.now c.loop-rest.tokens.items rest) none
    (leads_here c.args.text.now c.loop-rest.tokens.items (chars c.loop-rest.rest.now)
    c.loop-rest.invariant.1.1)

use Rattle.std.proofs.Common.{◌≡◌, ◌∙◌, [], chars, sym, rules}
use Rattle.mdl_lexer.specs.inside.Classes.{in_class}
use Rattle.mdl_lexer.proofs.CuttingLaws.{dropped_one, dropped_none, dropped_end, rest_of_rest}
use Rattle.mdl_lexer.proofs.cursor.skip.Goals as goal

pub loop-character-smaller : goal.loop-character-smaller
loop-character-smaller c = c.in-Some.ensures.some.shorter

pub loop-character-preserved : goal.loop-character-preserved
loop-character-preserved c = (
  c.in-Some.ensures.some.is_text,
  (
    rest_of_rest _ _ _ c.loop-character.invariant.1.0 c.in-Some.ensures.some.is_rest,
    sym (dropped_one (in_class c.args.class) _ _ _ c.in-Some.ensures.some (sym c.if-not-has.ensures))
        ∙ c.loop-character.invariant.1.1,
  ),
)

pub returns-then-not-has-clause-value : goal.returns-then-not-has-clause-value
returns-then-not-has-clause-value c =
    sym (dropped_none (in_class c.args.class) _ _ _ c.in-Some.ensures.some (sym c.if-not-has.ensures))
    ∙ c.loop-character.invariant.1.1

pub returns-in_default-clause-value : goal.returns-in_default-clause-value
returns-in_default-clause-value c =
    let end : chars c.loop-character.rest.now ≡ [] = search rules in
    sym (dropped_end (in_class c.args.class) _ end) ∙ c.loop-character.invariant.1.1

use Rattle.std.proofs.Common.{◌≡◌, ◌∙◌, None, sym, ap, rules, chars}
use Rattle.mdl_lexer.specs.inside.Reading.{or_else}
use Rattle.mdl_lexer.specs.inside.Separators.{behind_block, block_end}
use Rattle.mdl_lexer.proofs.CuttingLaws.{rest_of_rest}
use Rattle.mdl_lexer.proofs.separators.behind_block.Goals as goal

pub returns-in-Some-block_end-clause-rest : goal.returns-in-Some-block_end-clause-rest
returns-in-Some-block_end-clause-rest c =
    rest_of_rest _ _ _ (rest_of_rest _ _ _ c.loop-character.invariant.1.0 c.in-Some.ensures.some.is_rest)
    c.in-Some-block_end.ensures.rest

pub loop-character-preserved : goal.loop-character-preserved
loop-character-preserved c =
    let none : block_end c.in-Some.character (chars c.in-Some.next.now) ≡ None = search rules in (
      c.in-Some.ensures.some.is_text,
      (
        rest_of_rest _ _ _ c.loop-character.invariant.1.0 c.in-Some.ensures.some.is_rest,
        sym (ap behind_block c.in-Some.ensures.some.characters
            ∙ ap (λ end. or_else end (behind_block (chars c.in-Some.next.now))) none)
            ∙ c.loop-character.invariant.1.1,
      ),
    )

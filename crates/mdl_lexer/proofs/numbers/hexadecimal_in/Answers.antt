use Rattle.mdl_lexer.proofs.CuttingLaws.{rest_of_rest}
use Rattle.std.proofs.Common.{◌∙◌, ap, arith, chars, encode_utf8_all}
use Rattle.mdl_lexer.specs.Characters.{is_hexadecimal}
use Rattle.mdl_lexer.specs.inside.Reading.{front_of}
use Rattle.mdl_lexer.proofs.NumberLaws.{digits_front, hexadecimal_below, hexadecimal_ascii}
use Rattle.mdl_lexer.proofs.numbers.hexadecimal_in.Goals as goal

pub returns-clause-number : goal.returns-clause-number
returns-clause-number c =
    let text = chars c.in_ok-digits.digits.now in (
      digits_front is_hexadecimal 16 hexadecimal_below hexadecimal_ascii text c.before-digits.result.now
          c.in_ok-rest.ensures.some
          (c.before-digits.ensures.encoded ∙ ap (λ rest. encode_utf8_all (front_of text rest))
          c.in_ok-rest.ensures.dropped),
      (omega arith, omega arith),
    )

pub returns-clause-rest : goal.returns-clause-rest
returns-clause-rest c =
    rest_of_rest _ _ _ (rest_of_rest _ _ _ c.in_ok-zero.ensures.rest c.in_ok-digits.ensures.rest)
    c.in_ok-rest.ensures.rest

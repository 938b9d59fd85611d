use Rattle.std.proofs.Common.{◌∙◌, ap, arith, chars, encode_utf8_all}
use Rattle.mdl_lexer.specs.Characters.{is_octal}
use Rattle.mdl_lexer.specs.inside.Reading.{front_of}
use Rattle.mdl_lexer.proofs.NumberLaws.{digits_front, octal_below, octal_ascii}
use Rattle.mdl_lexer.proofs.numbers.integer_of.Goals as goal

pub returns-clause-number : goal.returns-clause-number
returns-clause-number c =
    let text = chars c.in-Some.octal.now in (
      digits_front is_octal 8 octal_below octal_ascii text c.before-digits.result.now
          c.in_ok-rest.ensures.some
          (c.before-digits.ensures.encoded ∙ ap (λ rest. encode_utf8_all (front_of text rest))
          c.in_ok-rest.ensures.dropped),
      (omega arith, omega arith),
    )

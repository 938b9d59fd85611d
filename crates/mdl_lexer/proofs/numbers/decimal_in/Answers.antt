use Rattle.std.proofs.Common.{◌≡◌, ap, arith, None, rules, chars, length}
use Rattle.std.proofs.lemmas.List.{length-append}
use Rattle.mdl_lexer.specs.inside.Reading.{real_end}
use Rattle.mdl_lexer.specs.inside.Numbers.{AreDigits}
use Rattle.mdl_lexer.proofs.CuttingLaws.{rest_of_rest}
use Rattle.mdl_lexer.proofs.NumberLaws.{decimal_digits}
use Rattle.mdl_lexer.proofs.numbers.decimal_in.Goals as goal

pub returns-in-Some-clause-rest : goal.returns-in-Some-clause-rest
returns-in-Some-clause-rest c =
    rest_of_rest _ _ _ (rest_of_rest _ _ _ c.skip-digits_end.ensures.rest c.in-Some.ensures.rest)
    c.suffix_in-double.ensures.rest

pub integer_of-requires : goal.integer_of-requires
integer_of-requires c =
    let none : real_end (chars c.skip-digits_end.result.now) ≡ None = search rules in
    decimal_digits _ _ _ c.requires c.skip-digits_end.ensures.value none c.before-in-None.ensures.encoded

pub returns-in_ok-integer_of-in-None-clause-shorter : goal.returns-in_ok-integer_of-in-None-clause-shorter
returns-in_ok-integer_of-in-None-clause-shorter c =
    let none : real_end (chars c.skip-digits_end.result.now) ≡ None = search rules in
    let digits : AreDigits 10 c.before-in-None.result.now =
    decimal_digits _ _ _ c.requires c.skip-digits_end.ensures.value none c.before-in-None.ensures.encoded in
    omega (
      arith,
      ap length c.before-in-None.ensures.bytes,
      length-append c.before-in-None.result.now c.skip-digits_end.result.now,
      digits.numeral.0,
    )

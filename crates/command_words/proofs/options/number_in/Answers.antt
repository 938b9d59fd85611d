use Rattle.std.proofs.Common.{◌≤◌, ◌<◌, sym, get_or, arith}
use Rattle.std.proofs.lemmas.Bool.Decides.{nat_tests}
use Rattle.command_words.proofs.NumberLaws.{number_first, number_refused, number_large, number_parsed}
use Rattle.command_words.proofs.options.number_in.Goals as goal

pub returns-then-not-is_plain : goal.returns-then-not-is_plain
returns-then-not-is_plain c =
    let low : get_or c.args.word.now 0 0 ≤ 48 = grind (arith, nat_tests) in
    sym (number_first c.args.word.now low)

pub returns-in_default : goal.returns-in_default
returns-in_default c =
    sym (number_refused c.args.word.now c.in_default.field-0 c.parse.result c.in_default.is c.parse.ensures.value.0)

pub returns-then-number-gt-MOST_WORKERS : goal.returns-then-number-gt-MOST_WORKERS
returns-then-number-gt-MOST_WORKERS c =
    sym (number_large c.args.word.now c.in-Ok.number c.parse.result c.in-Ok.is c.parse.ensures.value.0
    c.if-number-gt-MOST_WORKERS.true)

pub returns : goal.returns
returns c =
    let first : 48 < get_or c.args.word.now 0 0 = grind (arith, nat_tests) in
    sym (number_parsed c.args.word.now c.in-Ok.number c.parse.result c.in-Ok.is first c.parse.ensures.value.0
    c.if-number-gt-MOST_WORKERS.false)

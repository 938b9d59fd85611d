use Rattle.std.proofs.Common.{◌≡◌, ◌≢◌, sym, ap, ◌∙◌, Some, length, arith}
use Rattle.std.proofs.lemmas.Bool.Decides.{nat_tests}
use Rattle.module_set.specs.Names.{named}
use Rattle.command_words.proofs.ModuleLaws.{module_of_none, module_of_some}
use Rattle.command_words.proofs.names.module_of.Goals as goal

pub returns-then-is_empty : goal.returns-then-is_empty
returns-then-is_empty c =
    let none : length c.args.parts.items ≡ 0 = grind (arith, nat_tests) in
    sym (module_of_none c.args.parts.items none)

pub returns : goal.returns
returns c =
    let some : length c.args.parts.items ≢ 0 = grind (arith, nat_tests) in
    ap (λ parts. Some (named parts)) c.of.ensures ∙ sym (module_of_some c.args.parts.items some)

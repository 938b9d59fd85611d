use Rattle.std.proofs.Common.{◌≡◌, ◌∙◌, Some, sym, ap, rules, chars}
use Rattle.std.proofs.lemmas.Str.{encodes-chars}
use Rattle.mdl_lexer.specs.declared.token.Kind.TheVariants as kind
use Rattle.mdl_lexer.specs.inside.Reading.{number_in, Real}
use Rattle.mdl_lexer.specs.inside.Tokens.{number_word, number_read, Found}
use Rattle.mdl_lexer.proofs.tokens.number_word.Goals as goal

pub returns-in-Ok-clause-value : goal.returns-in-Ok-clause-value
unfolding number_word
returns-in-Ok-clause-value c =
    let found : number_in (chars c.args.text.now) ≡ Some (
      Real (chars c.in-Some-Real-default.text.now)
          c.in-Some-Real-default.double,
      chars c.in-Some-Real-default.rest.now,
    ) = search rules in
    ap number_read found
    ∙ ap (λ own. Found (kind.Real own c.in-Some-Real-default.double) (chars c.in-Some-Real-default.rest.now))
    (encodes-chars c.in-Some-Real-default.text.now (search rules) ∙ sym c.in-Ok.ensures)

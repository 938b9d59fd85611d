use Rattle.std.proofs.Common.{◌≡◌, ◌∙◌, Some, ap, rules, chars, length, IsUtf8}
use Rattle.std.proofs.lemmas.Str.{encodes-chars}
use Rattle.mdl_lexer.specs.declared.token.Kind.TheVariants as kind
use Rattle.mdl_lexer.specs.inside.Strings.{string_in}
use Rattle.mdl_lexer.specs.inside.Tokens.{string_read, Found}
use Rattle.mdl_lexer.proofs.tokens.string_word.Goals as goal

pub returns-in-Some-clause-value : goal.returns-in-Some-clause-value
returns-in-Some-clause-value c =
    let found : string_in (length (chars c.args.text.now)) (chars c.args.text.now) ≡ Some (
      chars
          c.in-Some.meaning,
      chars c.in-Some.rest.now,
    ) = search rules in
    let is_text : IsUtf8 c.in-Some.meaning = search rules in
    ap string_read found ∙ ap (λ own. Found (kind.Str own) (chars c.in-Some.rest.now)) (encodes-chars
    c.in-Some.meaning is_text)

use Rattle.std.proofs.Common.{◌≡◌, ◌++◌, ◌∙◌, [], Some, None, sym, ap, subst, rules, chars, length}
use Rattle.std.proofs.Common.{string_bytes, encode_utf8, IsUtf8}
use Rattle.std.proofs.lemmas.Str.{chars-nil, IsUtf8-string_bytes}
use Rattle.mdl_lexer.specs.inside.Cutting.{IsRest}
use Rattle.mdl_lexer.specs.inside.Strings.{string_in, escape_in}
use Rattle.mdl_lexer.proofs.CuttingLaws.{whole_rest, rest_of_rest}
use Rattle.mdl_lexer.proofs.StringLaws.{IsLeft, all_left, text_ends, quote_ends, line_ends, escape_fails}
use Rattle.mdl_lexer.proofs.StringLaws.{escape_goes_on, character_goes_on, is_equal, is_other, chars_push}
use Rattle.mdl_lexer.proofs.StringLaws.{rest_shorter}
use Rattle.mdl_lexer.proofs.strings.string_in.Goals as goal

pub loop-character-init : goal.loop-character-init
loop-character-init c = (
  c.utf8.text,
  (
    whole_rest c.args.text.now c.utf8.text,
    subst (λ read. IsLeft (string_in (length (chars c.args.text.now)) (chars c.args.text.now)) read (chars
        c.args.text.now))
        (sym (ap chars c.new-meaning.ensures.bytes ∙ chars-nil)) (all_left (chars c.args.text.now)),
  ),
)

pub returns-then-character-eq34-clause-value : goal.returns-then-character-eq34-clause-value
returns-then-character-eq34-clause-value c =
    ap (λ own. Some (chars own, chars c.in-Some.behind.now)) c.of.ensures
    ∙ sym (quote_ends _ _ _ _ c.in-Some.character c.loop-character.invariant.1.1
    c.in-Some.ensures.some.characters
    (is_equal c.in-Some.character 34 c.if-character-eq34.true))

pub returns-then-character-eq34-clause-rest : goal.returns-then-character-eq34-clause-rest
returns-then-character-eq34-clause-rest c =
    rest_of_rest _ _ _ c.loop-character.invariant.1.0 c.in-Some.ensures.some.is_rest

pub returns-then-character-eq10-clause-value : goal.returns-then-character-eq10-clause-value
returns-then-character-eq10-clause-value c =
    sym (line_ends _ _ _ _ c.in-Some.character c.loop-character.invariant.1.1
    c.in-Some.ensures.some.characters
    (is_other c.in-Some.character 34 c.if-character-eq34.false) (is_equal c.in-Some.character 10
    c.if-character-eq10.true))

pub returns-in_default-escape_in-clause-value : goal.returns-in_default-escape_in-clause-value
returns-in_default-escape_in-clause-value c =
    let none : escape_in (chars c.in-Some.behind.now) ≡ None = search rules in
    sym (escape_fails _ _ _ _ c.in-Some.character c.loop-character.invariant.1.1
    c.in-Some.ensures.some.characters
    (is_other c.in-Some.character 34 c.if-character-eq34.false) (is_other c.in-Some.character 10
    c.if-character-eq10.false)
    (is_equal c.in-Some.character 92 c.if-character-eq92.true) none)

pub loop-character-preserved-then-character-eq92 :
    goal.loop-character-preserved-then-character-eq92
loop-character-preserved-then-character-eq92 c =
    let found : escape_in (chars c.in-Some.behind.now) ≡ Some (
      c.in-Some-escape_in.escaped,
      chars
          c.in-Some-escape_in.behind.now,
    ) = search rules in
    let rest : IsRest c.in-Some.behind.now c.in-Some-escape_in.behind.now =
    c.in-Some-escape_in.ensures.rest in
    let pushed : string_bytes c.push.new.self ≡ string_bytes c.loop-character.meaning ++ encode_utf8
    c.in-Some-escape_in.escaped = search rules in (
      rest.rest_is_text,
      (
        rest_of_rest _ _ _ (rest_of_rest _ _ _ c.loop-character.invariant.1.0 c.in-Some.ensures.some.is_rest)
            rest,
        subst (λ read. IsLeft (string_in (length (chars c.args.text.now)) (chars c.args.text.now)) read
            (chars c.in-Some-escape_in.behind.now))
            (sym (chars_push _ _ _ (IsUtf8-string_bytes c.loop-character.meaning) (search rules) pushed))
            (escape_goes_on _ _ _ _ _ c.in-Some.character _ c.loop-character.invariant.1.1
            c.in-Some.ensures.some.characters
            (is_other c.in-Some.character 34 c.if-character-eq34.false) (is_other c.in-Some.character 10
            c.if-character-eq10.false)
            (is_equal c.in-Some.character 92 c.if-character-eq92.true) found (rest_shorter _ _ rest)),
      ),
    )

pub loop-character-preserved : goal.loop-character-preserved
loop-character-preserved c =
    let pushed : string_bytes c.push-else-character-eq92.new.self ≡ string_bytes c.loop-character.meaning ++
    encode_utf8 c.in-Some.character = search rules in (
      c.in-Some.ensures.some.is_text,
      (
        rest_of_rest _ _ _ c.loop-character.invariant.1.0 c.in-Some.ensures.some.is_rest,
        subst (λ read. IsLeft (string_in (length (chars c.args.text.now)) (chars c.args.text.now)) read
            (chars c.in-Some.behind.now))
            (sym (chars_push _ _ _ (IsUtf8-string_bytes c.loop-character.meaning) (search rules) pushed))
            (character_goes_on _ _ _ _ c.in-Some.character c.loop-character.invariant.1.1
            c.in-Some.ensures.some.characters
            (is_other c.in-Some.character 34 c.if-character-eq34.false) (is_other c.in-Some.character 10
            c.if-character-eq10.false)
            (is_other c.in-Some.character 92 c.if-character-eq92.false)),
      ),
    )

pub returns-clause-value : goal.returns-clause-value
returns-clause-value c =
    let none : chars c.loop-character.rest.now ≡ [] = search rules in
    sym (text_ends _ _ _ c.loop-character.invariant.1.1 none)

pub returns-then-character-eq34-clause-text : goal.returns-then-character-eq34-clause-text
returns-then-character-eq34-clause-text c = subst IsUtf8 (sym c.of.ensures) (IsUtf8-string_bytes
    c.loop-character.meaning)

use Rattle.std.proofs.Common.{◌≡◌, ◌∙◌, sym, ap, true, chars}
use Rattle.std.specs.Str.{is_utf8}
use Rattle.std.proofs.lemmas.Bool.{and_from, and_left, and_right, false_from_ne_true}
use Rattle.std.proofs.lemmas.Str.{is_utf8-from_IsUtf8, IsUtf8-from_is_utf8}
use Rattle.mdl_lexer.specs.Forms as forms
use Rattle.command_words.proofs.names.identifier_of.Goals.{in_default-via-in-Ok+else-is_identifier}
use Rattle.command_words.proofs.names.identifier_of.Goals.{in_default-via-in_default}
use Rattle.command_words.proofs.names.identifier_of.Goals as goal

pub returns-in-Ok-clause-is : goal.returns-in-Ok-clause-is
returns-in-Ok-clause-is c =
    let named : forms.is_identifier (chars c.args.name.now) ≡ true =
    ap (λ name. forms.is_identifier (chars name)) (sym c.in-Ok.ensures.cases.0)
    ∙ (sym c.is_identifier.ensures ∙ c.if-is_identifier.true) in
    sym (and_from (is_utf8 c.args.name.now) (forms.is_identifier (chars c.args.name.now))
    (is_utf8-from_IsUtf8 c.args.name.now c.in-Ok.ensures.cases.1) named)

pub returns-in_default-clause-is : goal.returns-in_default-clause-is
returns-in_default-clause-is c =
    elim c.in_default.branch [
      | in_default-via-in-Ok+else-is_identifier w ↦
          sym (and_right (is_utf8 c.args.name.now) (forms.is_identifier (chars c.args.name.now))
          (ap (λ name. forms.is_identifier (chars name)) (sym w.in-Ok.ensures.cases.0)
          ∙ sym w.if-is_identifier.ensures))
      | in_default-via-in_default w ↦
          sym (and_left (is_utf8 c.args.name.now) (forms.is_identifier (chars c.args.name.now))
          (false_from_ne_true (is_utf8 c.args.name.now) (λ text.
          w.in_default.ensures.cases.0 (IsUtf8-from_is_utf8 c.args.name.now text))))
    ]

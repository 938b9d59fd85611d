use Rattle.std.proofs.Common.{◌≡◌, ◌++◌, [], sym, ap, length, arith, encode_utf8, chars, IfNone, subst, rules}
use Rattle.std.proofs.lemmas.List.{length-append}
use Rattle.std.proofs.lemmas.Str.{chars_past_char, length-encode, len_utf8_bounds, IsUtf8-encode}
use Rattle.mdl_lexer.proofs.CuttingLaws.{none_left}
use Rattle.mdl_lexer.proofs.cursor.first.Goals as goal

pub returns-clause-some : goal.returns-clause-some
returns-clause-some c =
    let char = c.in_ok-character.character in
    let written : c.args.text.now ≡ encode_utf8 char ++ c.as_str.result.now = search rules in
    record {
      written = written;
      characters = chars_past_char c.args.text.now c.as_str.result.now char c.utf8.text written;
      is_text = c.as_str.utf8;
      is_rest = record {
        front = encode_utf8 char;
        written = written;
        is_text =
            IsUtf8-encode char (search rules);
        rest_is_text = c.as_str.utf8;
      };
      shorter = omega (
        arith,
        ap length written,
        length-append (encode_utf8 char) c.as_str.result.now,
        length-encode char,
        (len_utf8_bounds char).0,
      );
    }

pub returns-in_err-character-clause-none : goal.returns-in_err-character-clause-none
returns-in_err-character-clause-none c =
    subst (λ r. IfNone r (chars c.args.text.now ≡ [])) (sym c.from_residual.ensures)
    (none_left c.args.text.now _ c.chars-characters.ensures.rest c.in_err-character.ensures.steps.0.0)

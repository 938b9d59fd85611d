use Rattle.std.proofs.Common.{◌∙◌, sym, ap, chars, encode_utf8_all, rules}
use Rattle.std.proofs.lemmas.Str.{encodes-chars}
use Rattle.mdl_lexer.proofs.CuttingLaws.{cut_before, front_is, front_taken}
use Rattle.mdl_lexer.proofs.cursor.before.Goals as goal

pub split_at-requires : goal.split_at-requires
split_at-requires c = cut_before c.args.text.now c.args.rest.now c.requires c.utf8.rest

pub returns-clause-bytes : goal.returns-clause-bytes
returns-clause-bytes c = (front_is c.args.text.now c.args.rest.now _ c.requires c.split_at.ensures.front).0

pub returns-clause-characters : goal.returns-clause-characters
returns-clause-characters c = (front_is c.args.text.now c.args.rest.now _ c.requires
    c.split_at.ensures.front).1

pub returns-clause-front : goal.returns-clause-front
returns-clause-front c =
    front_taken (chars c.args.text.now) _ (chars c.args.rest.now) (front_is c.args.text.now c.args.rest.now _
    c.requires c.split_at.ensures.front).1

pub returns-clause-encoded : goal.returns-clause-encoded
returns-clause-encoded c =
    let front = front_taken (chars c.args.text.now) _ (chars c.args.rest.now) (front_is c.args.text.now
    c.args.rest.now _ c.requires c.split_at.ensures.front).1 in
    sym (encodes-chars c.split_at.result.0.now (search rules)) ∙ ap encode_utf8_all front

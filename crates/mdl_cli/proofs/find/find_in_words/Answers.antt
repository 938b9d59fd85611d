use Rattle.std.proofs.Common.{◌∙◌, ap, sym, Err}
use Rattle.std.specs.Cmp.Lexicographic.{bytes_decides}
use Rattle.std.proofs.lemmas.Bool.{not-false}
use Rattle.mdl_cli.specs.inside.Trees.{term_of}
use Rattle.mdl_cli.proofs.find.find_in_words.Goals as goal

pub returns-in-Ok-instance_of : goal.returns-in-Ok-instance_of
returns-in-Ok-instance_of c =
    let same = (bytes_decides c.in-Ok.first.name.now c.as_str.result.now).0
    (not-false _ (sym c.ne.ensures ∙ c.if-ne.false)) in (
      term_of c.in-Ok.first.tree,
      rw (same, c.as_str.ensures) at c.in-Ok.ensures.first,
      c.in-Ok-instance_of.ensures,
    )

pub returns-in-Err-NotFirst : goal.returns-in-Err-NotFirst
returns-in-Err-NotFirst c =
    c.read_first.ensures.not_first (c.in-Err-NotFirst.is
    ∙ ap (λ error. Err error) c.in-Err-NotFirst.field-0-is)

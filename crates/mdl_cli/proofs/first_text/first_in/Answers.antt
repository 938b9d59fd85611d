use Rattle.std.proofs.Common.{sym, ap, ◌∙◌}
use Rattle.std.specs.List.{list_any}
use Rattle.std.specs.Str.{bytes_eq}
use Rattle.mdl_cli.specs.Names.{prelude_names}
use Rattle.mdl_cli.specs.Words.{kinds_of}
use Rattle.mdl_cli.specs.inside.Trees.{term_of}
use Rattle.mdl_cli.proofs.FirstLaws.{goes_on, has_old_name, no_first}
use Rattle.mdl_cli.proofs.first_text.first_in.Goals as goal
use Rattle.mdl_cli.proofs.first_text.first_in.Goals.{then-not-is_empty-via-then-not-is_empty}
use Rattle.mdl_cli.proofs.first_text.first_in.Goals.{then-not-is_empty-via-else-not-is_empty+then-is_prelude_name}

pub returns-then-not-is_empty : goal.returns-then-not-is_empty
returns-then-not-is_empty c =
    let name = c.in_ok-name.name.now in
    let term = term_of c.in_ok-tree.tree in
    let rest = c.in_ok-rest.rest.now in
    no_first (kinds_of c.args.words.now) c.in_ok-material.material (name, kinds_of c.in_ok-name.rest.now)
    (term, kinds_of c.in_ok-tree.rest.now) (kinds_of rest) c.in_ok-name.ensures c.in_ok-material.ensures
    c.in_ok-tree.ensures c.in_ok-rest.ensures
    (elim c.then-not-is_empty.branch [
      | then-not-is_empty-via-then-not-is_empty w ↦
          goes_on (name, term) rest (sym c.is_empty.ensures ∙ w.if-not-is_empty.true)
      | then-not-is_empty-via-else-not-is_empty+then-is_prelude_name w ↦
          has_old_name (name, term) rest
          (ap (λ text. list_any (bytes_eq text) prelude_names) (sym w.as_bytes.ensures.value)
          ∙ sym w.is_prelude_name.ensures ∙ w.if-is_prelude_name.true)
    ])

use Rattle.std.proofs.Common.{◌∙◌, ◌++◌, List, ℕ, ap, sym}
use Rattle.std.specs.Str.{bytes_eq}
use Rattle.type_rules.specs.Texts.{size_text}
use Rattle.std.proofs.lemmas.Bool.Decides.{Decides-eqb}
use Rattle.std.proofs.lemmas.Slice.Eq.{strip_prefix_is}
use Rattle.mdl_cli.proofs.GraphTextLaws.{same_behind, apart_behind}
use Rattle.mdl_cli.proofs.graph_text.is_type_text.Goals as goal

pub returns-in-Some : goal.returns-in-Some
returns-in-Some c =
    let text = c.args.text.now in
    let name = c.as_bytes.result.now in
    let size = size_text c.args.ty.now.shape in
    let begins =
    rw c.in-Some.is at (strip_prefix_is Decides-eqb text name c.strip_prefix.result
    c.strip_prefix.ensures.cases) in
    c.is_size_text.ensures ∙ same_behind text name c.in-Some.size.now size begins
    ∙ ap (λ (name : List ℕ). bytes_eq text (name ++ size)) (c.as_bytes.ensures.value ∙ c.as_str.ensures)

pub returns-in-None : goal.returns-in-None
returns-in-None c =
    let text = c.args.text.now in
    let name = c.as_bytes.result.now in
    let size = size_text c.args.ty.now.shape in
    let apart = rw c.in-None.is at
    (strip_prefix_is Decides-eqb text name c.strip_prefix.result c.strip_prefix.ensures.cases) in
    sym (apart_behind text name size apart)
    ∙ ap (λ (name : List ℕ). bytes_eq text (name ++ size)) (c.as_bytes.ensures.value ∙ c.as_str.ensures)

use Rattle.std.proofs.Common.{◌∙◌, ◌++◌, codes, decimal, ap, sym}
use Rattle.std.specs.Str.{bytes_eq}
use Rattle.std.proofs.lemmas.Bool.Decides.{Decides-eqb}
use Rattle.std.proofs.lemmas.Slice.Eq.{strip_prefix_is, strip_suffix_is}
use Rattle.mdl_cli.proofs.GraphTextLaws.{same_behind, apart_before, same_before}
use Rattle.mdl_cli.proofs.graph_text.is_sized_text.Goals as goal

pub returns-in_default-strip_suffix : goal.returns-in_default-strip_suffix
returns-in_default-strip_suffix c =
    let text = c.args.text.now in
    let behind = c.in-Some.behind.now in
    let size = decimal c.args.size in
    let begins =
    rw c.in-Some.is at (strip_prefix_is Decides-eqb text
    (codes "[") c.strip_prefix.result c.strip_prefix.ensures.cases) in
    let apart = rw c.in_default-strip_suffix.is at (strip_suffix_is Decides-eqb behind (codes "]")
    c.strip_suffix.result c.strip_suffix.ensures.cases) in
    sym (apart_before behind (codes "]") size apart)
    ∙ same_behind text (codes "[") behind (size ++ codes "]") begins

pub returns : goal.returns
returns c =
    let text = c.args.text.now in
    let behind = c.in-Some.behind.now in
    let digits = c.in-Some-strip_suffix.digits.now in
    let size = decimal c.args.size in
    let begins =
    rw c.in-Some.is at (strip_prefix_is Decides-eqb text
    (codes "[") c.strip_prefix.result c.strip_prefix.ensures.cases) in
    let ends = rw c.in-Some-strip_suffix.is at (strip_suffix_is Decides-eqb behind (codes "]")
    c.strip_suffix.result c.strip_suffix.ensures.cases) in
    c.eq.ensures ∙ ap (bytes_eq digits) (c.as_bytes.ensures.value ∙ c.format.ensures.text)
    ∙ same_before behind digits (codes "]") size ends
    ∙ same_behind text (codes "[") behind (size ++ codes "]") begins

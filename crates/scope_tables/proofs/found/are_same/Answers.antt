use Rattle.std.proofs.Common.{sym, ap, get_or, ◌∙◌, ◌≡◌, arith}
use Rattle.std.proofs.lemmas.Bool.{not-true, not-false, false≢true}
use Rattle.std.proofs.lemmas.List.{take_all, length-map, take_more_same, get_or-map}
use Rattle.std.specs.Cmp.Lexicographic.{bytes_decides}
use Rattle.scope_tables.specs.Visible.{texts}
use Rattle.scope_tables.proofs.FoundLaws.{all-same, not-same}
use Rattle.scope_tables.proofs.found.are_same.Goals as goal

pub returns-then-ne : goal.returns-then-ne
returns-then-ne c =
    let i = c.loop-index.index in
    let front = c.index-front-index.result in
    let part = c.index-parts-index.result in
    let at : get_or (texts c.args.front.now) i part ≡ (get_or c.args.front.now i front).text =
    get_or-map (λ one. one.text) c.args.front.now i front part (omega arith) in
    not-same (texts c.args.front.now) c.args.parts.now
    (λ same. false≢true
    (sym (not-true _ (sym c.ne.ensures ∙ c.if-ne.true))
    ∙ (bytes_decides (get_or c.args.front.now i front).text part).1
    (sym at ∙ ap (λ l. get_or l i part) same ∙ sym c.index-parts-index.is)))

pub loop-index-preserved : goal.loop-index-preserved
loop-index-preserved c =
    let i = c.loop-index.index in
    let front = c.index-front-index.result in
    let part = c.index-parts-index.result in
    let at : get_or (texts c.args.front.now) i part ≡ (get_or c.args.front.now i front).text =
    get_or-map (λ one. one.text) c.args.front.now i front part (omega arith) in
    take_more_same (texts c.args.front.now) c.args.parts.now i part
    (omega (arith, length-map c.args.front.now (λ one. one.text))) (omega arith) c.loop-index.invariant
    (at
    ∙ (bytes_decides (get_or c.args.front.now i front).text part).0
    (not-false _ (sym c.ne.ensures ∙ c.if-ne.false))
    ∙ c.index-parts-index.is)

pub returns : goal.returns
returns c =
    let long = length-map c.args.front.now (λ one. one.text) in
    all-same (texts c.args.front.now) c.args.parts.now
    (sym (take_all c.loop-index.index (texts c.args.front.now) (omega (arith, long)))
    ∙ c.loop-index.invariant ∙ take_all c.loop-index.index c.args.parts.now (omega arith))

-- No two expressions write the same words, places aside.
use Rattle.std.proofs.Common.{◌≡◌, ◌∙◌, sym, ap}
use Rattle.mdl_syntax.specs.Trees.{Tree}
use Rattle.mdl_syntax.specs.Written.{write}
use Rattle.mdl_syntax.specs.Placed.{placed, IsSameButPlaces}
use Rattle.mdl_syntax.specs.Levelled.{Levelled}
use Rattle.mdl_syntax.proofs.PlacedTwice.{placed_twice}
use Rattle.expression_grammar.proofs.PlaceLaws.{some_tokens, kinds_some}
use Rattle.expression_grammar.proofs.ReadingLaws.{written_one_way}

pub same_but_places : (one other : Tree) → Levelled one → Levelled other → write one ≡ write other →
    IsSameButPlaces one other
same_but_places one other levelled also same tokens =
    let words = some_tokens (write one) in
    sym (placed_twice one words tokens)
    ∙ (ap (λ tree. placed tree tokens)
    (written_one_way one other levelled also same words (sym (kinds_some (write one))))
    ∙ placed_twice other words tokens)

-- Texts that go out in pieces.
use Rattle.std.proofs.Common.{◌≡◌, ℕ, ◌+◌, ◌-◌, ◌<◌, ◌≤◌, List, Option, Some, None, IfSome, option_map}
use Rattle.std.proofs.Common.{length, take, drop, refl, ap, arith, append_assoc, length-take}
use Rattle.std.proofs.lemmas.List.{take_rest, take_all}
use Rattle.std.proofs.Math.Seq.{take-add}
use Rattle.io_edge.specs.Sink.{followed_by}

-- the first bytes of a text, and then the first ones of the rest, are the first ones of the text
pub followed_by-more : (before : Option (List ℕ)) (text : List ℕ) (gone count : ℕ) →
    followed_by (followed_by before (take gone text))
    (take count (take (length text - gone) (drop gone text)))
    ≡ followed_by before (take (gone + count) text)
followed_by-more None text gone count = refl
followed_by-more (Some bytes) text gone count =
    rw (take_rest text gone, take-add gone count text, append_assoc)

-- the same of a sink, which told the bytes `before`, then `now` and then `after`
pub followed_by-next : (before now after : Option (List ℕ)) (text : List ℕ) (gone count : ℕ) →
    now ≡ followed_by before (take gone text) →
    after ≡ followed_by now (take count (take (length text - gone) (drop gone text))) →
    after ≡ followed_by before (take (gone + count) text)
followed_by-next before now after text gone count so_far next =
    rw (next, so_far) (followed_by-more before text gone count)

-- the first bytes up to a limit are all, where they are fewer than the limit
pub whole_of-short : (known : Option (List ℕ)) (limit : ℕ) (bytes found : List ℕ) →
    IfSome (option_map (take limit) known) (λ first. bytes ≡ first) → length bytes < limit →
    found ≡ bytes → IfSome known (λ rest. Some rest ≡ Some found)
whole_of-short None limit bytes found told short same = tt
whole_of-short (Some rest) limit bytes found told short same =
    let within : length rest ≤ limit = omega (arith, ap length told, length-take limit rest) in
    let all = take_all limit rest within in
    cc

use Rattle.std.proofs.Common.{◌≡◌, ◌<◌, ◌∙◌, ap, sym, arith, length, ℕ, List, [], ◌∷◌, ◌++◌}
use Rattle.std.proofs.lemmas.Bool.Decides.{nat_tests}
use Rattle.command_words.specs.inside.Views.{parts_found, behind_parts}
use Rattle.command_words.specs.inside.Names as asking
use Rattle.command_words.proofs.PartLaws.{parts_more, parts_stop, parts_end, part_in-shorter}
use Rattle.command_words.proofs.names.parts_of.Goals as goal

pub returns-in_default : goal.returns-in_default
returns-in_default c =
    let some : 0 < length c.loop-rest.rest.now = grind (arith, nat_tests) in
    sym (parts_stop c.loop-rest.rest.now (parts_found c.loop-rest.parts) _ some
    (sym c.in_default.ensures) c.loop-rest.invariant)

pub loop-rest-smaller : goal.loop-rest-smaller
loop-rest-smaller c =
    part_in-shorter c.loop-rest.rest.now c.in-Some.part.now c.in-Some.behind.now (sym c.in-Some.ensures)

pub loop-rest-preserved : goal.loop-rest-preserved
loop-rest-preserved c =
    let some : 0 < length c.loop-rest.rest.now = grind (arith, nat_tests) in
    let more = parts_more c.loop-rest.rest.now c.in-Some.behind.now c.in-Some.part.now
    (parts_found c.loop-rest.parts) _ some (sym c.in-Some.ensures) c.loop-rest.invariant in
    let parts : parts_found c.push.new.self ≡ parts_found c.loop-rest.parts ++ c.in-Some.part.now ∷ [] =
    ◌∙◌ {A = List (List ℕ)} c.in_ok-push.ensures.items
    (ap (λ (part : List ℕ). c.loop-rest.parts.items ++ part ∷ []) c.in_ok-copy.ensures) in
    ap (λ (front : List (List ℕ)). behind_parts front (asking.parts_of c.in-Some.behind.now)) parts ∙ more

pub returns : goal.returns
returns c =
    let none : length c.loop-rest.rest.now ≡ 0 = grind (arith, nat_tests) in
    sym (parts_end c.loop-rest.rest.now (parts_found c.loop-rest.parts) _ none c.loop-rest.invariant)

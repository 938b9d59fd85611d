-- Parts of an absolute name, one after another.
use Rattle.std.proofs.Common.{◌≡◌, ℕ, suc, ◌<◌, List, [], ◌∷◌, ◌++◌, Option, Some, None}
use Rattle.std.proofs.Common.{length, refl, sym, ap, ◌∙◌, arith, option_and_then}
use Rattle.std.proofs.lemmas.List.{append_assoc, append-nil, length-append}
use Rattle.command_words.specs.inside.Options.{◌>>=◌}
use Rattle.command_words.specs.inside.Names.{part_in, parts_in, parts_of}
use Rattle.command_words.specs.inside.Views.{behind_parts}
use Rattle.command_words.proofs.NameLaws.{part_sound, parts_in-enough}

-- what is left behind a part is shorter
pub part_in-shorter : (text part rest : List ℕ) → part_in text ≡ Some (part, rest) → length rest < length text
part_in-shorter text part rest h =
    let e = ap length (part_sound text part rest h).0 in
    omega (arith, e, length-append part rest)

behind_parts-append : (xs ys : List (List ℕ)) (found : Option (List (List ℕ))) →
    behind_parts xs (behind_parts ys found) ≡ behind_parts (xs ++ ys) found
behind_parts-append xs ys None = refl
behind_parts-append xs ys (Some found) = ap Some (sym (append_assoc xs ys found))

first_behind : (part : List ℕ) (found : Option (List (List ℕ))) →
    (found >>= (λ parts. Some (part ∷ parts))) ≡ behind_parts (part ∷ []) found
first_behind part None = refl
first_behind part (Some found) = refl

-- no part was read, so there are no parts
parts_of-none : (byte : ℕ) (more : List ℕ) → part_in (byte ∷ more) ≡ None → parts_of (byte ∷ more) ≡ None
unfolding parts_of parts_in
parts_of-none byte more h = ap (option_and_then _) h

-- a part was read, and then the others
parts_of-some : (byte : ℕ) (more part rest : List ℕ) → part_in (byte ∷ more) ≡ Some (part, rest) →
    parts_of (byte ∷ more) ≡ behind_parts (part ∷ []) (parts_of rest)
unfolding parts_of parts_in
parts_of-some byte more part rest h =
    let short : length rest < suc (length more) = part_in-shorter (byte ∷ more) part rest h in
    ap (option_and_then _) h
    ∙ (ap (λ (o : Option (List (List ℕ))). o >>= (λ parts. Some (part ∷ parts)))
    (parts_in-enough (length more) rest (omega arith))
    ∙ first_behind part (parts_in (length rest) rest))

-- one more part was read
pub parts_more : (rest behind part : List ℕ) (front : List (List ℕ)) (all : Option (List (List ℕ))) →
    0 < length rest → part_in rest ≡ Some (part, behind) → behind_parts front (parts_of rest) ≡ all →
    behind_parts (front ++ part ∷ []) (parts_of behind) ≡ all
parts_more [] behind part front all some found before = absurd (omega arith)
parts_more (byte ∷ more) behind part front all some found before =
    sym (behind_parts-append front (part ∷ []) (parts_of behind))
    ∙ (ap (behind_parts front) (sym (parts_of-some byte more part behind found)) ∙ before)

-- no part was read, so all read nothing
pub parts_stop : (rest : List ℕ) (front : List (List ℕ)) (all : Option (List (List ℕ))) →
    0 < length rest → part_in rest ≡ None → behind_parts front (parts_of rest) ≡ all → all ≡ None
parts_stop [] front all some found before = absurd (omega arith)
parts_stop (byte ∷ more) front all some found before =
    sym before ∙ ap (behind_parts front) (parts_of-none byte more found)

-- all parts were read
pub parts_end : (rest : List ℕ) (front : List (List ℕ)) (all : Option (List (List ℕ))) →
    length rest ≡ 0 → behind_parts front (parts_of rest) ≡ all → all ≡ Some front
unfolding parts_of parts_in
parts_end [] front all none before = sym before ∙ ap Some (append-nil front)
parts_end (byte ∷ more) front all none before = absurd (omega arith)

-- Parts of an absolute name: reading them agrees with how a name is written.
use Rattle.std.proofs.Common.{◌≡◌, ◌≤◌, ℕ, zero, suc, ◌&&◌, ◌==◌, not, cond, Bool}
use Rattle.std.proofs.Common.{true, List, [], ◌∷◌, ◌++◌, Option, Some, None, codes, length, take, drop}
use Rattle.std.proofs.Common.{nat_eq, refl, sym, ap, ◌∙◌, subst, arith, option_and_then}
use Rattle.std.specs.List.{list_all, prefix_len, starts_with}
use Rattle.std.specs.Cmp.Lexicographic.{bytes_decides}
use Rattle.std.proofs.lemmas.Bool.{and_parts, and_from, cond-true}
use Rattle.std.proofs.lemmas.List.{length-append, take-append-drop, take_at, drop_at}
use Rattle.std.proofs.lemmas.Option.{same_Some, none-some, cond_some, option_and_then_some}
use Rattle.command_words.specs.Identifiers.{is_identifier}
use Rattle.command_words.specs.inside.Names.{absolute, part_in, parts_in, parts_of}
use Rattle.command_words.proofs.PartFronts.{stops, front_len, identifier_no_colon}

-- a byte other than `:`
abbrev no_colon : ℕ → Bool
no_colon byte = not (byte == 58)

-- a part that is read is an identifier behind `::`
pub part_sound : (text part rest : List ℕ) → part_in text ≡ Some (part, rest)
    → (text ≡ 58 ∷ 58 ∷ (part ++ rest)) × (is_identifier part ≡ true)
unfolding part_in
part_sound text part rest e =
    let name : List ℕ = drop 2 text in
    let end = prefix_len no_colon name in
    let found : List ℕ × List ℕ = (take end name, drop end name) in
    let parts = cond_some (starts_with nat_eq text (codes "::") && is_identifier (take end name)) found
    (part, rest) e in
    let both = and_parts (starts_with nat_eq text (codes "::")) (is_identifier (take end name)) parts.0 in
    let begin : codes "::" ≡ take 2 text = (bytes_decides (codes "::") (take 2 text)).0 both.0 in
    let front : text ≡ 58 ∷ 58 ∷ name = sym (take-append-drop 2 text) ∙ ap (λ l. l ++ name) (sym begin) in
    let whole : text ≡ 58 ∷ 58 ∷ (take end name ++ drop end name) =
    front ∙ ap (λ l. 58 ∷ 58 ∷ l) (sym (take-append-drop end name)) in
    subst (λ (p : List ℕ × List ℕ). (text ≡ 58 ∷ 58 ∷ (p.0 ++ p.1)) × (is_identifier p.0 ≡ true))
    parts.1 (whole, both.1)

-- an identifier behind `::` is read as a part, up to the next one
part_complete : (part rest : List ℕ) → is_identifier part ≡ true → stops no_colon rest ≡ true
    → part_in (58 ∷ 58 ∷ (part ++ rest)) ≡ Some (part, rest)
unfolding part_in
part_complete part rest h s =
    let end : prefix_len no_colon (part ++ rest) ≡ length part =
    front_len no_colon part rest (identifier_no_colon part h) s in
    let taken : take (prefix_len no_colon (part ++ rest)) (part ++ rest) ≡ part =
    ap (λ n. take n (part ++ rest)) end ∙ take_at part rest (length part) refl in
    let left : drop (prefix_len no_colon (part ++ rest)) (part ++ rest) ≡ rest =
    ap (λ n. drop n (part ++ rest)) end ∙ drop_at part rest (length part) refl in
    ap (λ p. cond (is_identifier p)
    (Some (p, drop (prefix_len no_colon (part ++ rest)) (part ++ rest))) None) taken
    ∙ (cond-true (is_identifier part) _ None h ∙ ap (λ r. Some (part, r)) left)

-- an absolute name is empty or begins with `:`
absolute_stops : (parts : List (List ℕ)) → stops no_colon (absolute parts) ≡ true
absolute_stops [] = refl
absolute_stops (part ∷ parts) = refl

-- no bytes have no parts
no_parts : (n : ℕ) → parts_in n [] ≡ Some []
unfolding parts_in
no_parts zero = refl
no_parts (suc n) = refl

-- parts that are read are identifiers, and make the text
pub parts_in_sound : (n : ℕ) (text : List ℕ) (parts : List (List ℕ)) → parts_in n text ≡ Some parts
    → (absolute parts ≡ text) × (list_all is_identifier parts ≡ true)
unfolding parts_in
parts_in_sound n [] parts e =
    subst (λ ps. (absolute ps ≡ []) × (list_all is_identifier ps ≡ true))
    (same_Some [] parts (sym (no_parts n) ∙ e)) (refl, refl)
parts_in_sound zero (b ∷ bs) parts e = absurd (none-some parts e)
parts_in_sound (suc n) (b ∷ bs) parts e =
    option_and_then_some _ (part_in (b ∷ bs)) parts e (λ part part_is e1.
    option_and_then_some _ (parts_in n part.1) parts e1 (λ others others_is e2.
    let one = part_sound (b ∷ bs) part.0 part.1 part_is in
    let more = parts_in_sound n part.1 others others_is in
    let text_is : absolute (part.0 ∷ others) ≡ b ∷ bs =
    ap (λ l. 58 ∷ 58 ∷ (part.0 ++ l)) more.0 ∙ sym one.0 in
    subst (λ ps. (absolute ps ≡ b ∷ bs) × (list_all is_identifier ps ≡ true))
    (same_Some (part.0 ∷ others) parts e2)
    (text_is, and_from (is_identifier part.0) (list_all is_identifier others) one.1 more.1)))

-- identifiers are read from the text that they make
pub parts_in_complete : (n : ℕ) (parts : List (List ℕ)) → length (absolute parts) ≤ n →
    list_all is_identifier parts ≡ true
    → parts_in n (absolute parts) ≡ Some parts
unfolding parts_in
parts_in_complete n [] l h = no_parts n
parts_in_complete zero (part ∷ parts) l h = absurd (omega arith)
parts_in_complete (suc n) (part ∷ parts) l h =
    let both = and_parts (is_identifier part) (list_all is_identifier parts) h in
    let shorter : length (absolute parts) ≤ n = omega (arith, length-append part (absolute parts)) in
    ap (option_and_then _) (part_complete part (absolute parts) both.0 (absolute_stops parts))
    ∙ ap (option_and_then _) (parts_in_complete n parts shorter both.1)

-- two functions that agree on what there is give the same
same_then : {A B : Type 0} (f g : A → Option B) (o : Option A) → ((x : A) → o ≡ Some x → f x ≡ g x)
    → option_and_then f o ≡ option_and_then g o
same_then f g None h = refl
same_then f g (Some x) h = h x refl

-- bounds that the text keeps give the same parts
parts_in-same : (n m : ℕ) (text : List ℕ) → length text ≤ n → length text ≤ m →
    parts_in n text ≡ parts_in m text
unfolding parts_in
parts_in-same n m [] l k = no_parts n ∙ sym (no_parts m)
parts_in-same zero m (b ∷ bs) l k = absurd (omega arith)
parts_in-same (suc n) zero (b ∷ bs) l k = absurd (omega arith)
parts_in-same (suc n) (suc m) (b ∷ bs) l k =
    same_then _ _ (part_in (b ∷ bs)) (λ part part_is.
    let one = part_sound (b ∷ bs) part.0 part.1 part_is in
    let long : length (b ∷ bs) ≡ suc (suc (length (part.0 ++ part.1))) = ap length one.0 in
    let below_n : length part.1 ≤ n = omega (arith, length-append part.0 part.1) in
    let below_m : length part.1 ≤ m = omega (arith, length-append part.0 part.1) in
    ap (option_and_then _) (parts_in-same n m part.1 below_n below_m))

-- more bytes than there are change nothing
pub parts_in-enough : (n : ℕ) (text : List ℕ) → length text ≤ n →
    parts_in n text ≡ parts_in (length text) text
parts_in-enough n text l = parts_in-same n (length text) text l (omega arith)

-- the parts of an absolute name are identifiers, and it is the name that they make
pub parts_of_sound : (name : List ℕ) (parts : List (List ℕ)) → parts_of name ≡ Some parts
    → (absolute parts ≡ name) × (list_all is_identifier parts ≡ true)
unfolding parts_of
parts_of_sound name parts e = parts_in_sound (length name) name parts e

-- identifiers are the parts of the name that they make
pub parts_of_complete : (parts : List (List ℕ)) → list_all is_identifier parts ≡ true →
    parts_of (absolute parts) ≡ Some parts
unfolding parts_of
parts_of_complete parts h = parts_in_complete (length (absolute parts)) parts (omega arith) h

-- Reading names of modules and of materials agrees with what they are.
use Rattle.std.proofs.Common.{◌≡◌, ◌≢◌, ◌<◌, ◌≤◌, ℕ, ◌+◌, ◌-◌, cond, true, false}
use Rattle.std.proofs.Common.{List, [], ◌∷◌, ◌++◌, Option, Some, None, length, take, drop, nat_le, map, slice_get}
use Rattle.std.proofs.Common.{get_or, Bor}
use Rattle.std.proofs.Common.{refl, sym, ap, ◌∙◌, subst, arith, option_and_then}
use Rattle.std.specs.List.{list_any, list_all, AllByRecursion}
use Rattle.std.proofs.lemmas.Bool.{cond-true, cond-false, leb-true, le-leb, false_from_ne_true}
use Rattle.std.proofs.lemmas.List.{append_assoc, append-nil, length-append, length-take-le, take_at}
use Rattle.std.proofs.lemmas.List.{drop_all, drop_more, get_or_at}
use Rattle.std.proofs.lemmas.Option.{same_Some, none-some, option_and_then_some, slice_get-get_or}
use Rattle.case_table.specs.Lists.{with_first, firsts_onto}
use Rattle.case_table.specs.ListLaws.{with_first-new, with_first-known, length-firsts_onto-le}
use Rattle.module_set.specs.declared.module_name.ModuleName.{ModuleName}
use Rattle.module_set.specs.Names.{same_name, named, written_name}
use Rattle.command_words.specs.declared.request.Task.{Task}
use Rattle.command_words.specs.declared.request.Task.TheVariants as task
use Rattle.command_words.specs.Identifiers.{is_identifier}
use Rattle.command_words.specs.Requests.{IsName}
use Rattle.command_words.specs.inside.Names.{parts_of, instance_of, module_of, module_in, modules_onto}
use Rattle.command_words.specs.inside.Views.{words_of}
use Rattle.command_words.proofs.NameLaws.{parts_of_sound, parts_of_complete}
use Rattle.command_words.proofs.PartFronts.{cond_then, cut_at}
use Rattle.command_words.proofs.OptionLaws.{choice}

some_parts : (part : List ℕ) (parts : List (List ℕ)) → part ∷ parts ≢ []
some_parts part parts e = let long : length (part ∷ parts) ≡ 0 = ap length e in omega arith

-- a module that is read is named so
module_of_sound : (parts : List (List ℕ)) (found : ModuleName) → module_of parts ≡ Some found →
    (found.parts ≡ parts) × (found.parts ≢ [])
module_of_sound [] found e = absurd (none-some found e)
module_of_sound (part ∷ parts) found e =
    subst (λ (name : ModuleName). (name.parts ≡ part ∷ parts) × (name.parts ≢ []))
    (same_Some (named (part ∷ parts)) found e) (refl, some_parts part parts)

module_in_sound : (word : List ℕ) (found : ModuleName) → module_in word ≡ Some found →
    (word ≡ written_name found) × IsName found
unfolding module_in
module_in_sound word found e =
    option_and_then_some module_of (parts_of word) found e (λ parts parts_is e1.
    let named_so = parts_of_sound word parts parts_is in
    let made = module_of_sound parts found e1 in (
      sym named_so.0 ∙ ap (λ parts. written_name (named parts)) (sym made.0),
      (made.1, subst (λ parts. list_all is_identifier parts ≡ true) (sym made.0) named_so.1),
    ))

module_of_complete : (parts : List (List ℕ)) → parts ≢ [] → module_of parts ≡ Some (named parts)
module_of_complete [] h = absurd (h refl)
module_of_complete (part ∷ parts) h = refl

-- a module is read from its name
module_in_complete : (found : ModuleName) → IsName found → module_in (written_name found) ≡ Some found
unfolding module_in
module_in_complete found h =
    ap (option_and_then module_of) (parts_of_complete found.parts h.1) ∙ module_of_complete found.parts h.0

-- what is read behind modules
pub record ReadsModules (modules : List ModuleName) (words : List (List ℕ)) (all : List ModuleName) : Type 0 where
  pub own : List ModuleName
  pub is : all ≡ modules ++ own
  pub written : words ≡ map written_name own
  pub names : AllByRecursion IsName own
  pub firsts_are : firsts_onto same_name modules own ≡ modules ++ own

reads_first : (found : ModuleName) (modules : List ModuleName) (word : List ℕ) (words : List (List ℕ))
    (all : List ModuleName) → word ≡ written_name found → IsName found → list_any (same_name found) modules ≡ false →
    ReadsModules (modules ++ found ∷ []) words all → ReadsModules modules (word ∷ words) all
reads_first found modules word words all word_is name new r = record {
  own = found ∷ r.own;
  is = r.is ∙ append_assoc modules (found ∷ []) r.own;
  written = λ i. word_is i ∷ r.written i;
  names = (name, r.names);
  firsts_are = ap (λ seen. firsts_onto same_name seen r.own) (with_first-new same_name modules found new)
      ∙ (r.firsts_are ∙ append_assoc modules (found ∷ []) r.own);
}

pub modules_sound : (words : List (List ℕ)) (modules all : List ModuleName) →
    modules_onto modules words ≡ Some all → ReadsModules modules words all
unfolding modules_onto
modules_sound [] modules all e =
    subst (ReadsModules modules []) (same_Some modules all e) (record {
      own = [];
      is = sym (append-nil modules);
      written = refl;
      names = tt;
      firsts_are = sym (append-nil modules);
    })
modules_sound (word ∷ words) modules all e =
    option_and_then_some (λ (found : ModuleName). cond (list_any (same_name found) modules) None
    (modules_onto (modules ++ found ∷ []) words)) (module_in word) all e (λ found found_is e1.
    let named_so = module_in_sound word found found_is in
    choice (list_any (same_name found) modules) None (modules_onto (modules ++ found ∷ []) words) (Some all) e1
    (λ known e2. absurd (none-some all e2))
    (λ new e2.
    reads_first found modules word words all named_so.0 named_so.1 new
    (modules_sound words (modules ++ found ∷ []) all e2)))

-- where all modules come onto others, the first of them is not there
new_first : (modules : List ModuleName) (found : ModuleName) (own : List ModuleName) →
    firsts_onto same_name modules (found ∷ own) ≡ modules ++ found ∷ own → list_any (same_name found) modules ≡ false
new_first modules found own h =
    false_from_ne_true (list_any (same_name found) modules) (λ known.
    let stays = ap (λ seen. firsts_onto same_name seen own) (with_first-known same_name modules found known) in
    let long = ap length (sym stays ∙ h) in
    omega (arith, long, length-append modules (found ∷ own), length-firsts_onto-le same_name modules own))

pub modules_complete : (own modules : List ModuleName) → AllByRecursion IsName own →
    firsts_onto same_name modules own ≡ modules ++ own →
    modules_onto modules (map written_name own) ≡ Some (modules ++ own)
unfolding modules_onto
modules_complete [] modules names h = ap Some (sym (append-nil modules))
modules_complete (found ∷ own) modules names h =
    let new = new_first modules found own h in
    let others : firsts_onto same_name (modules ++ found ∷ []) own ≡ (modules ++ found ∷ []) ++ own =
    sym (ap (λ seen. firsts_onto same_name seen own) (with_first-new same_name modules found new))
    ∙ (h ∙ sym (append_assoc modules (found ∷ []) own)) in
    ap (option_and_then (λ (one : ModuleName). cond (list_any (same_name one) modules) None
    (modules_onto (modules ++ one ∷ []) (map written_name own)))) (module_in_complete found names.0)
    ∙ (cond-false (list_any (same_name found) modules) None
    (modules_onto (modules ++ found ∷ []) (map written_name own)) new
    ∙ (modules_complete own (modules ++ found ∷ []) names.1 others ∙ ap Some (append_assoc modules (found ∷ []) own)))

-- no name is read
pub modules_none : (modules : List ModuleName) (word : List ℕ) (words : List (List ℕ)) → module_in word ≡ None →
    modules_onto modules (word ∷ words) ≡ None
unfolding modules_onto
modules_none modules word words h = ap (option_and_then _) h

-- a name is read that is known
pub modules_known : (modules : List ModuleName) (word : List ℕ) (words : List (List ℕ)) (found : ModuleName) →
    module_in word ≡ Some found → list_any (same_name found) modules ≡ true →
    modules_onto modules (word ∷ words) ≡ None
unfolding modules_onto
modules_known modules word words found is known =
    ap (option_and_then _) is ∙ cond-true (list_any (same_name found) modules) None _ known

-- a name is read that is new
pub modules_new : (modules : List ModuleName) (word : List ℕ) (words : List (List ℕ)) (found : ModuleName) →
    module_in word ≡ Some found → list_any (same_name found) modules ≡ false →
    modules_onto modules (word ∷ words) ≡ modules_onto (modules ++ found ∷ []) words
unfolding modules_onto
modules_new modules word words found is new =
    ap (option_and_then _) is ∙ cond-false (list_any (same_name found) modules) None _ new

-- all names are read
pub modules_end : (modules : List ModuleName) → modules_onto modules [] ≡ Some modules
unfolding modules_onto
modules_end modules = refl

-- a list with one element more is longer by one
short_by_one : {X : Type 0} (xs : List X) (x : X) → length (xs ++ x ∷ []) - 1 ≡ length xs
short_by_one xs x = omega (arith, length-append xs (x ∷ []))

-- an instance of a module and of its material
pub record IsInstance (parts : List (List ℕ)) (found : Task) : Type 0 where
  pub own : ModuleName
  pub material : List ℕ
  pub is : found ≡ task.Instance own material
  pub parts_are : own.parts ++ material ∷ [] ≡ parts
  pub some : own.parts ≢ []

-- the last of two or more parts names the material
pub instance_of_sound : (parts : List (List ℕ)) (found : Task) → instance_of parts ≡ Some found →
    IsInstance parts found
instance_of_sound parts found e =
    let k = length parts - 1 in
    let last = slice_get parts k in
    let made : List ℕ → Task = λ material. task.Instance (named (take k parts)) material in
    let both = cond_then (nat_le 2 (length parts))
    (option_and_then (λ material. Some (made material)) last) found e in
    let two : 2 ≤ length parts = leb-true 2 (length parts) both.0 in
    option_and_then_some (λ material. Some (made material)) last found both.1 (λ material material_is e1.
    let end : drop (k + 1) parts ≡ [] = drop_all (k + 1) parts (omega arith) in
    let whole : parts ≡ take k parts ++ material ∷ [] =
    cut_at parts k material material_is ∙ ap (λ l. take k parts ++ material ∷ l) end in
    let some : take k parts ≢ [] =
    λ none. let none_long : length (take k parts) ≡ 0 = ap length none in
    omega (arith, length-take-le k parts (omega arith)) in
    record {
      own = named (take k parts);
      material = material;
      is = sym (same_Some (made material) found e1);
      parts_are = sym whole;
      some = some;
    })

some_long : (parts : List (List ℕ)) → parts ≢ [] → 0 < length parts
some_long [] h = absurd (h refl)
some_long (part ∷ parts) h = omega arith

-- a material behind one or more parts makes an instance
pub instance_of_complete : (parts : List (List ℕ)) (material : List ℕ) → parts ≢ [] →
    instance_of (parts ++ material ∷ []) ≡ Some (task.Instance (named parts) material)
instance_of_complete parts material some =
    let all : List (List ℕ) = parts ++ material ∷ [] in
    let long : length all ≡ length parts + 1 = omega (arith, length-append parts (material ∷ [])) in
    let two : 2 ≤ length all = omega (arith, long, some_long parts some) in
    let last : length all - 1 ≡ length parts = short_by_one parts material in
    let front : take (length all - 1) all ≡ parts =
    ap (λ n. take n all) last ∙ take_at parts (material ∷ []) (length parts) refl in
    let found : slice_get all (length all - 1) ≡ Some material =
    ap (slice_get all) last
    ∙ (slice_get-get_or all (length parts) material (omega arith)
    ∙ ap Some (get_or_at parts material [] material (length parts) refl)) in
    let made : List ℕ → Task = λ last_part. task.Instance (named (take (length all - 1) all)) last_part in
    let with_last : Option (List ℕ) → Option Task =
    λ o. option_and_then (λ last_part. Some (made last_part)) o in
    cond-true (nat_le 2 (length all)) (with_last (slice_get all (length all - 1))) None
    (le-leb 2 (length all) two)
    ∙ (ap with_last found ∙ ap (λ ps. Some (task.Instance (named ps) material)) front)

-- no parts name no module
pub module_of_none : (parts : List (List ℕ)) → length parts ≡ 0 → module_of parts ≡ None
module_of_none [] h = refl
module_of_none (part ∷ parts) h = absurd (omega arith)

pub module_of_some : (parts : List (List ℕ)) → length parts ≢ 0 → module_of parts ≡ Some (named parts)
module_of_some [] h = absurd (h refl)
module_of_some (part ∷ parts) h = refl

-- the word at a place comes first in what is left from there
next_word : (words : List (Bor (List ℕ))) (i : ℕ) (other : Bor (List ℕ)) → i < length words →
    words_of (drop i words) ≡ (get_or words i other).now ∷ words_of (drop (i + 1) words)
next_word words i other within = ap words_of (drop_more words i other within)

-- the word at a place names no module
pub none_at : (modules : List ModuleName) (words : List (Bor (List ℕ))) (i : ℕ) (other : Bor (List ℕ))
    (all : Option (List ModuleName)) → i < length words → modules_onto modules (words_of (drop i words)) ≡ all →
    None ≡ module_in (get_or words i other).now → None ≡ all
none_at modules words i other all within h none =
    sym (modules_none modules (get_or words i other).now (words_of (drop (i + 1) words)) (sym none))
    ∙ (ap (modules_onto modules) (sym (next_word words i other within)) ∙ h)

-- the word at a place names a known module
pub known_at : (modules : List ModuleName) (words : List (Bor (List ℕ))) (i : ℕ) (other : Bor (List ℕ))
    (all : Option (List ModuleName)) (found : ModuleName) → i < length words →
    modules_onto modules (words_of (drop i words)) ≡ all → Some found ≡ module_in (get_or words i other).now →
    list_any (same_name found) modules ≡ true → None ≡ all
known_at modules words i other all found within h is known =
    sym (modules_known modules (get_or words i other).now (words_of (drop (i + 1) words)) found (sym is) known)
    ∙ (ap (modules_onto modules) (sym (next_word words i other within)) ∙ h)

-- the word at a place names a new module
pub new_at : (modules : List ModuleName) (words : List (Bor (List ℕ))) (i : ℕ) (other : Bor (List ℕ))
    (all : Option (List ModuleName)) (found : ModuleName) → i < length words →
    modules_onto modules (words_of (drop i words)) ≡ all → Some found ≡ module_in (get_or words i other).now →
    list_any (same_name found) modules ≡ false →
    modules_onto (with_first same_name modules found) (words_of (drop (i + 1) words)) ≡ all
new_at modules words i other all found within h is new =
    ap (λ known. modules_onto known (words_of (drop (i + 1) words))) (with_first-new same_name modules found new)
    ∙ (sym (modules_new modules (get_or words i other).now (words_of (drop (i + 1) words)) found (sym is) new)
    ∙ (ap (modules_onto modules) (sym (next_word words i other within)) ∙ h))

-- no word is left
pub all_words : (modules : List ModuleName) (words : List (Bor (List ℕ))) (i : ℕ) (all : Option (List ModuleName)) →
    length words ≤ i → modules_onto modules (words_of (drop i words)) ≡ all → Some modules ≡ all
all_words modules words i all past h =
    sym (modules_end modules) ∙ (ap (λ left. modules_onto modules (words_of left)) (sym (drop_all i words past)) ∙ h)

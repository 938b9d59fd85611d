-- Laws of entities by their names.
use Rattle.std.proofs.Common.{◌≡◌, ◌∙◌, ◌++◌, ◌∷◌, ◌+◌, [], ℕ, zero, suc, Bool, true, false, List, Some, None}
use Rattle.std.proofs.Common.{option_map, ◌||◌, map, length, slice_get, slice_set, get_or, cond, refl, sym, ap}
use Rattle.std.proofs.Common.{subst, arith, not, if◌then◌else◌, nat_lt, ◌<◌, ◌==◌}
use Rattle.std.specs.List.{list_any, AllByRecursion, IsDistinct, position, position_or_len}
use Rattle.std.specs.Cmp.Lexicographic.{bytes_decides}
use Rattle.std.proofs.lemmas.Bool.{false≢true, false_from_ne_true, cond-true, cond-false, cond_both, or_parts}
use Rattle.std.proofs.lemmas.Bool.{ltb-false, or_left, or_right, eqb-true}
use Rattle.std.proofs.lemmas.List.{map-append, append-nil, append_assoc, get_or-map, length-map}
use Rattle.std.proofs.lemmas.List.Folds.{position_or_len_push, list_any-append}
use Rattle.std.proofs.lemmas.List.Quantifiers.{position-Some}
use Rattle.std.proofs.lemmas.List.Sums.{prefix_len-le-length, passes_at_first}
use Rattle.std.proofs.lemmas.Option.{same_Some, none-some, slice_get-map, get_or_from_slice_get}
use Rattle.std.proofs.lemmas.Bool.{eq-eqb, ne_eqb}
use Rattle.case_table.specs.Lists.{Tells, with_first, firsts, firsts_onto}
use Rattle.case_table.specs.ListLaws.{firsts-push, with_first-known, with_first-new, length-firsts_onto-le}
use Rattle.scope_tables.specs.declared.entity.Entity.{Entity}
use Rattle.scope_tables.specs.inside.Owning.{same_text, names_in, indices_from, indices_of, AreOwn, number_in}
use Rattle.scope_tables.specs.inside.Owning.{numbers_of}
use Rattle.scope_tables.proofs.MemberLaws.{turned, any-firsts_onto}

pub same_text-tells : Tells same_text
same_text-tells = record {
  itself = λ text. (bytes_decides text text).1 refl;
  only = λ one other h. (bytes_decides one other).0 h;
}

each-at : {A : Type 0} (P : A → Type 0) (xs : List A) (k : ℕ) (x : A) → AllByRecursion P xs → slice_get xs k ≡ Some x
    → P x
each-at P [] k x h at = absurd (none-some x at)
each-at P (y ∷ xs) zero x h at = subst P (same_Some y x at) h.0
each-at P (y ∷ xs) (suc k) x h at = each-at P xs k x h.1 at

-- one more entity
indices-push : (name : List ℕ) (i : ℕ) (entities : List Entity) (entity : Entity)
    → indices_from name i (entities ++ entity ∷ [])
    ≡ indices_from name i entities ++ (if same_text name entity.name then (i + length entities) ∷ [] else [])
indices-push name i [] entity = ap (λ n. if same_text name entity.name then n ∷ [] else []) (omega arith)
indices-push name i (one ∷ entities) entity =
    by (indices_from name (i + 1) entities) (indices_from name (i + 1) (entities ++ entity ∷ []))
    (if same_text name entity.name then (i + suc (length entities)) ∷ [] else []) (same_text name one.name)
    (indices-push name (i + 1) entities entity
    ∙ ap (λ n. indices_from name (i + 1) entities ++ (if same_text name entity.name then n ∷ [] else [])) e)
  where
    e : i + 1 + length entities ≡ i + suc (length entities)
    e = omega arith

    by : (rest more end : List ℕ) (b : Bool) → more ≡ rest ++ end
        → (if b then i ∷ more else more) ≡ (if b then i ∷ rest else rest) ++ end
    by rest more end true later = ap (λ l. i ∷ l) later
    by rest more end false later = later

-- a name that no entity has
pub indices-none : (name : List ℕ) (i : ℕ) (entities : List Entity)
    → list_any (same_text name) (names_in entities) ≡ false → indices_from name i entities ≡ []
indices-none name i [] none = refl
indices-none name i (one ∷ entities) none =
    let apart = or_parts (same_text name one.name) (list_any (same_text name) (names_in entities)) none in
    cond-false (same_text name one.name) (i ∷ indices_from name (i + 1) entities) (indices_from name (i + 1) entities)
    apart.0
    ∙ indices-none name (i + 1) entities apart.1

-- what changes for one name of several
grown : (before after : List ℕ → List ℕ) (name known : List ℕ) (i p : ℕ) (names : List (List ℕ))
    → IsDistinct same_text names → slice_get names p ≡ Some known → same_text name known ≡ true
    → ((other : List ℕ) → same_text name other ≡ false → after other ≡ before other)
    → after known ≡ before known ++ i ∷ []
    → map after names ≡ slice_set (map before names) p (before known ++ i ∷ [])
unfolding IsDistinct
grown before after name known i p [] distinct at same others own = absurd (none-some known at)
grown before after name known i zero (one ∷ names) distinct at same others own =
    let here = same_Some one known at in
    let is = same_text-tells.only name known same in
    (λ k. (ap after here ∙ own) k
    ∷ unchanged names (subst (λ n. AllByRecursion (λ other. same_text n other ≡ false) names)
    (here ∙ sym is) distinct.0) k)
  where
    unchanged : (names : List (List ℕ)) → AllByRecursion (λ other. same_text name other ≡ false) names
        → map after names ≡ map before names
    unchanged [] apart = refl
    unchanged (other ∷ names) apart = λ k. others other apart.0 k ∷ unchanged names apart.1 k
grown before after name known i (suc p) (one ∷ names) distinct at same others own =
    let is = same_text-tells.only name known same in
    let apart = each-at (λ other. same_text one other ≡ false) names p known distinct.0 at in
    let other = false_from_ne_true (same_text name one)
    (λ yes. false≢true (sym apart ∙ ap (λ n. same_text n known) (sym (same_text-tells.only name one yes)) ∙ same)) in
    λ k. others one other k ∷ grown before after name known i p names distinct.1 at same others own k

-- where nothing is found the length stands
pub number-none : (test : List ℕ → Bool) (names : List (List ℕ)) → position test names ≡ None
    → length names ≡ position_or_len test names
number-none test names none =
    by (nat_lt (position_or_len test names) (length names)) refl none
  where
    by : (b : Bool) → nat_lt (position_or_len test names) (length names) ≡ b
        → cond b (Some (position_or_len test names)) None ≡ None → length names ≡ position_or_len test names
    by true is none = absurd (none-some (position_or_len test names) (sym none))
    by false is none =
        let past = ltb-false (position_or_len test names) (length names) is in
        omega (arith, prefix_len-le-length (λ name. not (test name)) names, past)

pub any-onto : (text : List ℕ) (seen texts : List (List ℕ))
    → list_any (same_text text) (firsts_onto same_text seen texts)
    ≡ (list_any (same_text text) seen || list_any (same_text text) texts)
any-onto text seen texts = any-firsts_onto same_text same_text-tells (same_text text) seen texts

-- the names of one more entity
firsts-ends : (entities : List Entity) (entity : Entity)
    → firsts same_text (names_in (entities ++ entity ∷ []))
    ≡ with_first same_text (firsts same_text (names_in entities)) entity.name
firsts-ends entities entity =
    ap (firsts same_text) (map-append (λ (one : Entity). one.name) entities (entity ∷ []))
    ∙ firsts-push same_text (names_in entities) entity.name

-- one more entity changes nothing for another name
other-name : (entities : List Entity) (entity : Entity) (name : List ℕ) → same_text entity.name name ≡ false
    → indices_of (entities ++ entity ∷ []) name ≡ indices_of entities name
other-name entities entity name other =
    indices-push name 0 entities entity
    ∙ ap (λ l. indices_of entities name ++ l)
    (cond-false (same_text name entity.name) ((0 + length entities) ∷ []) []
    (turned same_text same_text-tells name entity.name ∙ other))
    ∙ append-nil (indices_of entities name)

own-name : (entities : List Entity) (entity : Entity) (i : ℕ) (name : List ℕ) → length entities ≡ i
    → same_text entity.name name ≡ true
    → indices_of (entities ++ entity ∷ []) name ≡ indices_of entities name ++ i ∷ []
own-name entities entity i name long same =
    let is = same_text-tells.only entity.name name same in
    let end : 0 + length entities ≡ i = omega (arith, long) in
    indices-push name 0 entities entity
    ∙ ap (λ l. indices_of entities name ++ l)
    (cond-true (same_text name entity.name) ((0 + length entities) ∷ []) []
    (ap (λ text. same_text name text) is ∙ same_text-tells.itself name)
    ∙ ap (λ n. n ∷ []) end)

-- the entity of a new name
pub fresh-own : (entities : List Entity) (entity : Entity) (i : ℕ) (names now : List (List ℕ)) (lists : List (List ℕ))
    → length entities ≡ i → AreOwn entities names lists → list_any (same_text entity.name) names ≡ false
    → now ≡ with_first same_text names entity.name → IsDistinct same_text now
    → AreOwn (entities ++ entity ∷ []) now (lists ++ (i ∷ []) ∷ [])
fresh-own entities entity i names now lists long own new is distinct = record {
  apart = distinct;
  names_are =
      is ∙ ap (λ ns. with_first same_text ns entity.name) own.names_are ∙ sym (firsts-ends entities entity);
  lists_are =
      ap (λ l. l ++ (i ∷ []) ∷ []) own.lists_are
      ∙ (λ k. map-others names new k ++ (own-list k ∷ []))
      ∙ sym (map-append (indices_of (entities ++ entity ∷ [])) names (entity.name ∷ []))
      ∙ ap (map (indices_of (entities ++ entity ∷ [])))
      (sym (is ∙ with_first-new same_text names entity.name new));
}
  where
    absent : list_any (same_text entity.name) (names_in entities) ≡ false
    absent =
        sym (any-onto entity.name [] (names_in entities)) ∙ ap (list_any (same_text entity.name)) (sym own.names_are)
        ∙ new

    own-list : i ∷ [] ≡ indices_of (entities ++ entity ∷ []) entity.name
    own-list =
        sym (own-name entities entity i entity.name long (same_text-tells.itself entity.name)
        ∙ ap (λ l. l ++ i ∷ []) (indices-none entity.name 0 entities absent))

    map-others : (names : List (List ℕ)) → list_any (same_text entity.name) names ≡ false
        → map (indices_of entities) names ≡ map (indices_of (entities ++ entity ∷ [])) names
    map-others [] none = refl
    map-others (name ∷ names) none =
        let apart = or_parts (same_text entity.name name) (list_any (same_text entity.name) names) none in
        λ k. sym (other-name entities entity name apart.0) k ∷ map-others names apart.1 k

-- the entity of a name that is there, at this number
pub known-own : (entities : List Entity) (entity : Entity) (i p : ℕ) (names now : List (List ℕ))
    (lists : List (List ℕ)) (list known : List ℕ)
    → length entities ≡ i → AreOwn entities names lists → list_any (same_text entity.name) names ≡ true
    → now ≡ with_first same_text names entity.name → slice_get now p ≡ Some known
    → same_text entity.name known ≡ true → slice_get lists p ≡ Some list
    → AreOwn (entities ++ entity ∷ []) now (slice_set lists p (list ++ i ∷ []))
known-own entities entity i p names now lists list known long own old is at same list_at = record {
  apart = subst (IsDistinct same_text) (sym stays) own.apart;
  names_are =
      is ∙ ap (λ ns. with_first same_text ns entity.name) own.names_are ∙ sym (firsts-ends entities entity);
  lists_are =
      (λ k. slice_set (own.lists_are k) p (list_is k ++ i ∷ []))
      ∙ sym (grown (indices_of entities) (indices_of (entities ++ entity ∷ [])) entity.name known i p names own.apart
      known_at same (other-name entities entity) (own-name entities entity i known long same))
      ∙ ap (map (indices_of (entities ++ entity ∷ []))) (sym stays);
}
  where
    stays : now ≡ names
    stays = is ∙ with_first-known same_text names entity.name old

    known_at : slice_get names p ≡ Some known
    known_at = ap (λ l. slice_get l p) (sym stays) ∙ at

    list_is : list ≡ indices_of entities known
    list_is =
        same_Some list (indices_of entities known)
        (sym list_at ∙ ap (λ l. slice_get l p) own.lists_are ∙ slice_get-map (indices_of entities) names p
        ∙ ap (option_map (indices_of entities)) known_at)

-- what stands for a name is the list of its entities
pub found-list : (entities : List Entity) (names lists : List (List ℕ)) (name : List ℕ) (p : ℕ) (d : List ℕ)
    → AreOwn entities names lists → position (same_text name) names ≡ Some p
    → get_or lists p d ≡ indices_of entities name
found-list entities names lists name p d own found =
    let at = position-Some (same_text name) names p [] found in
    ap (λ l. get_or l p d) own.lists_are
    ∙ get_or-map (indices_of entities) names p [] d at.0
    ∙ ap (indices_of entities) (sym (same_text-tells.only name (get_or names p []) at.1))

-- a name without a list has no entity
pub missed-list : (entities : List Entity) (names lists : List (List ℕ)) (name : List ℕ)
    → AreOwn entities names lists → list_any (same_text name) names ≡ false → [] ≡ indices_of entities name
missed-list entities names lists name own missed =
    sym (indices-none name 0 entities
    (sym (any-onto name [] (names_in entities)) ∙ ap (list_any (same_text name)) (sym own.names_are) ∙ missed))

-- the number of a name that an entity has
abbrev pub all_names : List Entity → List (List ℕ)
all_names entities = firsts same_text (names_in entities)

pub first-within : {X : Type 0} (test : X → Bool) (xs : List X) → list_any test xs ≡ true
    → position_or_len test xs < length xs
first-within test [] some = absurd (false≢true some)
first-within test (x ∷ xs) some = by (test x) some (first-within test xs)
  where
    by : (b : Bool) → (b || list_any test xs) ≡ true → (list_any test xs ≡ true → position_or_len test xs < length xs)
        → cond (not b) (1 + position_or_len test xs) 0 < suc (length xs)
    by true some later = omega arith
    by false some later = omega (arith, later some)

pub among-names : (entities : List Entity) (name : List ℕ) → list_any (same_text name) (names_in entities) ≡ true
    → list_any (same_text name) (all_names entities) ≡ true
among-names entities name known = any-onto name [] (names_in entities) ∙ known

pub number-within : (entities : List Entity) (name : List ℕ) → list_any (same_text name) (names_in entities) ≡ true
    → number_in entities name < length entities
number-within entities name known =
    let less = first-within (same_text name) (all_names entities) (among-names entities name known) in
    let most = length-firsts_onto-le same_text [] (names_in entities) in
    let long = length-map entities (λ (entity : Entity). entity.name) in
    omega (arith, less, most, long)

pub name-at : (entities : List Entity) (name : List ℕ) → list_any (same_text name) (names_in entities) ≡ true
    → name ≡ get_or (all_names entities) (number_in entities name) []
name-at entities name known =
    same_text-tells.only name (get_or (all_names entities) (number_in entities name) [])
    (passes_at_first (same_text name) (all_names entities) []
    (first-within (same_text name) (all_names entities) (among-names entities name known)))

pub same-number : (entities : List Entity) (one other : List ℕ)
    → list_any (same_text one) (names_in entities) ≡ true → list_any (same_text other) (names_in entities) ≡ true
    → (number_in entities one == number_in entities other) ≡ same_text other one
same-number entities one other known there = by (same_text other one) refl
  where
    by : (b : Bool) → same_text other one ≡ b → (number_in entities one == number_in entities other)
        ≡ same_text other one
    by true same =
        eq-eqb (number_in entities one) (number_in entities other)
        (ap (number_in entities) (sym (same_text-tells.only other one same)))
        ∙ sym same
    by false apart =
        ne_eqb (number_in entities one) (number_in entities other)
        (λ e. false≢true (sym apart ∙ ap (same_text other)
        (name-at entities one known ∙ ap (λ n. get_or (all_names entities) n []) e ∙ sym (name-at entities other there))
        ∙ same_text-tells.itself other))
        ∙ sym apart

-- a name that stands keeps its number where one more comes
number-stays : (names : List (List ℕ)) (more name : List ℕ) → list_any (same_text name) names ≡ true
    → position_or_len (same_text name) (with_first same_text names more) ≡ position_or_len (same_text name) names
number-stays names more name known =
    let place = position_or_len (same_text name) names in
    cond_both (list_any (same_text more) names) names (names ++ more ∷ [])
    (λ l. position_or_len (same_text name) l ≡ place) (λ there. refl)
    (λ new. position_or_len_push (same_text name) names more
    ∙ cond-false (place == length names) (length names + cond (same_text name more) 0 1) place
    (ne_eqb place (length names) (λ end. omega (arith, first-within (same_text name) names known, end))))

-- and one that comes has the number at which it was looked for
number-comes : (names : List (List ℕ)) (name : List ℕ)
    → position_or_len (same_text name) (with_first same_text names name) ≡ position_or_len (same_text name) names
number-comes names name =
    let place = position_or_len (same_text name) names in
    cond_both (list_any (same_text name) names) names (names ++ name ∷ [])
    (λ l. position_or_len (same_text name) l ≡ place) (λ there. refl)
    (λ new. position_or_len_push (same_text name) names name
    ∙ cond_both (place == length names) (length names + cond (same_text name name) 0 1) place (λ n. n ≡ place)
    (λ end. ap (λ b. length names + cond b 0 1) (same_text-tells.itself name)
    ∙ omega (arith, eqb-true place (length names) end)) (λ before. refl))

number-kept : (entities : List Entity) (entity : Entity) (name : List ℕ)
    → list_any (same_text name) (names_in entities) ≡ true
    → number_in (entities ++ entity ∷ []) name ≡ number_in entities name
number-kept entities entity name known =
    ap (position_or_len (same_text name)) (firsts-ends entities entity)
    ∙ number-stays (all_names entities) entity.name name (among-names entities name known)

numbers-kept : (entities : List Entity) (entity : Entity) (front part : List Entity) → front ++ part ≡ entities
    → map (λ (one : Entity). number_in (entities ++ entity ∷ []) one.name) part
    ≡ map (λ (one : Entity). number_in entities one.name) part
numbers-kept entities entity front [] is = refl
numbers-kept entities entity front (one ∷ part) is =
    λ k. number-kept entities entity one.name known k
    ∷ numbers-kept entities entity (front ++ one ∷ []) part (append_assoc front (one ∷ []) part ∙ is) k
  where
    known : list_any (same_text one.name) (names_in entities) ≡ true
    known =
        ap (λ all. list_any (same_text one.name) (names_in all)) (sym is)
        ∙ ap (list_any (same_text one.name)) (map-append (λ (one : Entity). one.name) front (one ∷ part))
        ∙ list_any-append (same_text one.name) (names_in front) (one.name ∷ names_in part)
        ∙ or_right (list_any (same_text one.name) (names_in front)) (same_text one.name one.name
        || list_any (same_text one.name) (names_in part))
        (or_left (same_text one.name one.name) (list_any (same_text one.name) (names_in part))
        (same_text-tells.itself one.name))

-- the numbers of one more entity
pub numbers-push : (entities : List Entity) (entity : Entity) (number : ℕ)
    → number ≡ position_or_len (same_text entity.name) (all_names entities)
    → numbers_of (entities ++ entity ∷ []) ≡ numbers_of entities ++ number ∷ []
numbers-push entities entity number is =
    map-append (λ (one : Entity). number_in (entities ++ entity ∷ []) one.name) entities (entity ∷ [])
    ∙ (λ k. numbers-kept entities entity [] entities refl k ++ comes k ∷ [])
  where
    comes : number_in (entities ++ entity ∷ []) entity.name ≡ number
    comes =
        ap (position_or_len (same_text entity.name)) (firsts-ends entities entity)
        ∙ number-comes (all_names entities) entity.name ∙ sym is

pub number-read : (entities : List Entity) (i d : ℕ) (entity : Entity) → slice_get entities i ≡ Some entity
    → get_or (numbers_of entities) i d ≡ number_in entities entity.name
number-read entities i d entity at =
    get_or_from_slice_get (numbers_of entities) i (number_in entities entity.name) d
    (slice_get-map (λ (one : Entity). number_in entities one.name) entities i
    ∙ ap (option_map (λ (one : Entity). number_in entities one.name)) at)

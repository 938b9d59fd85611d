-- Putting terms one after another.
use Rattle.std.proofs.Common.{◌≡◌, ℕ, zero, suc, ◌+◌, ◌<◌, List, [], ◌∷◌, ◌++◌, Option, Some, length}
use Rattle.std.proofs.Common.{map, take, ◌≤◌, true, slice_get, get_or, refl, sym, ap, ◌∙◌}
use Rattle.std.proofs.Common.{subst, arith}
use Rattle.std.specs.List.{flat_map, AllByRecursion}
use Rattle.std.proofs.lemmas.Option.{get_or_from_slice_get, slice_get_within}
use Rattle.std.proofs.lemmas.List.{append-nil, length_push, length-append, map_push, map-append, take_more}
use Rattle.std.proofs.lemmas.List.Concat.{flat_map-append}
use Rattle.case_table.specs.Lists.{with_first, firsts_onto}
use Rattle.case_table.specs.ListLaws.{firsts_onto-append, slice_get-with_first_kept}
use Rattle.type_rules.specs.declared.symbol.Symbol.{Symbol}
use Rattle.type_rules.specs.declared.symbol.Symbol.TheVariants as symbol
use Rattle.type_rules.specs.declared.ty.Arg.{Arg}
use Rattle.type_rules.specs.Types.{arguments_of}
use Rattle.type_rules.specs.Terms.{Term, Terms, apply, nil, cons, list_of, terms_from, symbol_of}
use Rattle.type_rules.specs.Terms.{kids_of, term_type, IsTyped, AreTyped}
use Rattle.type_rules.specs.TermLaws.{terms_from-list_of}
use Rattle.type_rules.specs.Same.{same_term}
use Rattle.type_rules.specs.Postorder.{post, posts}
use Rattle.mdl_cli.specs.declared.tree.Tree.{Tree}
use Rattle.mdl_cli.specs.inside.Trees.{term_of}
use Rattle.dag_store.specs.Store.{Kept}
use Rattle.dag_store.specs.Unfolding.{terms_of, term_at, symbol_at, stands_for, Fits}

-- the terms' subterms came onto those that were there, and these are the terms' ids
pub record HasPut (before after put : List Term) (ids : List ℕ) : Type 0 where
  pub terms : after ≡ firsts_onto same_term before (flat_map post put)
  pub found : map (slice_get after) ids ≡ map Some put

-- what stands in a list stands there still when the members of another come onto it
pub slice_get-firsts_onto : (seen xs : List Term) (k : ℕ) (t : Term) → slice_get seen k ≡ Some t →
    slice_get (firsts_onto same_term seen xs) k ≡ Some t
slice_get-firsts_onto seen [] k t at = at
slice_get-firsts_onto seen (x ∷ xs) k t at =
    slice_get-firsts_onto (with_first same_term seen x) xs k t
    (slice_get-with_first_kept same_term seen x k t at)

found-head : (terms : List Term) (id : ℕ) (ids : List ℕ) (t : Term) (ts : List Term) →
    map (slice_get terms) (id ∷ ids) ≡ map Some (t ∷ ts) →
    (slice_get terms id ≡ Some t) × (map (slice_get terms) ids ≡ map Some ts)
found-head terms id ids t ts found = (cc, cc)

-- ids keep their terms when more come
pub found-more : (terms more : List Term) (ids : List ℕ) (ts : List Term) →
    ((k : ℕ) (t : Term) → slice_get terms k ≡ Some t → slice_get more k ≡ Some t) →
    map (slice_get terms) ids ≡ map Some ts → map (slice_get more) ids ≡ map Some ts
found-more terms more [] [] stays found = refl
found-more terms more (id ∷ ids) [] stays found = absurd cc
found-more terms more [] (t ∷ ts) stays found = absurd cc
found-more terms more (id ∷ ids) (t ∷ ts) stays found =
    let parts = found-head terms id ids t ts found in
    let first = stays id t parts.0 in
    let others = found-more terms more ids ts stays parts.1 in
    cc

found-push : (terms : List Term) (ids : List ℕ) (ts : List Term) (id : ℕ) (t : Term) →
    map (slice_get terms) ids ≡ map Some ts → slice_get terms id ≡ Some t →
    map (slice_get terms) (ids ++ id ∷ []) ≡ map Some (ts ++ t ∷ [])
found-push terms ids ts id t found at =
    map-append (slice_get terms) ids (id ∷ [])
    ∙ (ap (λ (os : List (Option Term)). os ++ slice_get terms id ∷ []) found
    ∙ (ap (λ (o : Option Term). map Some ts ++ o ∷ []) at ∙ sym (map-append Some ts (t ∷ []))))

-- one more term is put
put_push : (before after more ts : List Term) (ids : List ℕ) (id : ℕ) (t : Term) →
    HasPut before after ts ids → more ≡ firsts_onto same_term after (post t) →
    slice_get more id ≡ Some t → HasPut before more (ts ++ t ∷ []) (ids ++ id ∷ [])
put_push before after more ts ids id t had onto at = record {
  terms =
      onto ∙ (ap (λ (seen : List Term). firsts_onto same_term seen (post t)) had.terms
      ∙ (sym (firsts_onto-append same_term before (flat_map post ts) (post t))
      ∙ ap (firsts_onto same_term before)
      (sym (flat_map-append post ts (t ∷ [])
      ∙ ap (λ (own : List Term). flat_map post ts ++ own) (append-nil (post t))))));
  found =
      found-push more ids ts id t
      (found-more after more ids ts
      (λ k u stays. subst (λ (all : List Term). slice_get all k ≡ Some u) (sym onto)
      (slice_get-firsts_onto after (post t) k u stays)) had.found)
      at;
}

-- the next of some kids is put
pub put_more : (before after more : List Term) (kids : List Tree) (i : ℕ) (kid : Tree)
    (ids more_ids : List ℕ) (id : ℕ) → HasPut before after (map term_of (take i kids)) ids →
    i < length kids → kid ≡ get_or kids i kid →
    more ≡ firsts_onto same_term after (post (term_of kid)) → slice_get more id ≡ Some (term_of kid) →
    more_ids ≡ ids ++ id ∷ [] → HasPut before more (map term_of (take (i + 1) kids)) more_ids
put_more before after more kids i kid ids more_ids id had within is onto at pushed =
    let terms : map term_of (take (i + 1) kids) ≡ map term_of (take i kids) ++ term_of kid ∷ [] =
    ap (map term_of)
    (take_more kids i kid within ∙ ap (λ (last : Tree). take i kids ++ last ∷ []) (sym is))
    ∙ map_push term_of (take i kids) kid in
    subst (λ (all : List Term). HasPut before more all more_ids) (sym terms)
    (subst (λ (all : List ℕ). HasPut before more (map term_of (take i kids) ++ term_of kid ∷ []) all)
    (sym pushed)
    (put_push before after more (map term_of (take i kids)) ids id (term_of kid) had onto at))

-- each of the kids is typed
pub typed_at : (kids : List Tree) (i : ℕ) (kid : Tree) → AllByRecursion IsTyped (map term_of kids) →
    i < length kids → kid ≡ get_or kids i kid → IsTyped (term_of kid)
typed_at [] i kid all within is = absurd (omega arith)
typed_at (first ∷ kids) zero kid all within is = subst (λ (t : Tree). IsTyped (term_of t)) (sym is) all.0
typed_at (first ∷ kids) (suc i) kid all within is = typed_at kids i kid all.1 (omega arith) is

all_typed : (ts : Terms) → AreTyped ts → AllByRecursion IsTyped (list_of ts)
all_typed nil typed = tt
all_typed (cons t ts) typed = (typed.0, all_typed ts typed.1)

-- a typed term has typed kids
pub kids_typed : (t : Term) (kids : List Term) → kids ≡ kids_of t → IsTyped t → AllByRecursion IsTyped kids
kids_typed (apply s ts) kids same typed = subst (AllByRecursion IsTyped) (sym same) (all_typed ts typed.1)

posts_is : (ts : Terms) → posts ts ≡ flat_map post (list_of ts)
posts_is nil = refl
posts_is (cons t ts) = ap (λ (later : List Term). post t ++ later) (posts_is ts)

-- the kids' subterms and then the term itself
pub put_term : (before after more : List Term) (t : Term) →
    after ≡ firsts_onto same_term before (flat_map post (kids_of t)) →
    more ≡ with_first same_term after t → more ≡ firsts_onto same_term before (post t)
put_term before after more (apply s ts) kids put =
    put ∙ (ap (λ (seen : List Term). with_first same_term seen (apply s ts))
    (kids ∙ ap (firsts_onto same_term before) (sym (posts_is ts)))
    ∙ sym (firsts_onto-append same_term before (posts ts) (apply s ts ∷ [])))

at_found : (terms : List Term) (ids : List ℕ) (ts : List Term) →
    map (slice_get terms) ids ≡ map Some ts → map (term_at terms) ids ≡ ts
at_found terms [] [] found = refl
at_found terms (id ∷ ids) [] found = absurd cc
at_found terms [] (t ∷ ts) found = absurd cc
at_found terms (id ∷ ids) (t ∷ ts) found =
    let parts = found-head terms id ids t ts found in
    let first : term_at terms id ≡ t =
    get_or_from_slice_get terms id t (apply (symbol.Bool true) nil) parts.0 in
    let others = at_found terms ids ts parts.1 in
    λ i. first i ∷ others i

types_found : (terms : List Term) (ids : List ℕ) (ts : List Term) →
    map (slice_get terms) ids ≡ map Some ts →
    map (λ id. term_type (term_at terms id)) ids ≡ map term_type ts
types_found terms [] [] found = refl
types_found terms (id ∷ ids) [] found = absurd cc
types_found terms [] (t ∷ ts) found = absurd cc
types_found terms (id ∷ ids) (t ∷ ts) found =
    let parts = found-head terms id ids t ts found in
    let first : term_at terms id ≡ t =
    get_or_from_slice_get terms id t (apply (symbol.Bool true) nil) parts.0 in
    let others = types_found terms ids ts parts.1 in
    λ i. term_type (first i) ∷ others i

below_found : (terms : List Term) (ids : List ℕ) (ts : List Term) →
    map (slice_get terms) ids ≡ map Some ts → AllByRecursion (λ id. id < length terms) ids
below_found terms [] ts found = tt
below_found terms (id ∷ ids) [] found = absurd cc
below_found terms (id ∷ ids) (t ∷ ts) found =
    let parts = found-head terms id ids t ts found in
    (slice_get_within terms id t parts.0, below_found terms ids ts parts.1)

symbol_found : (symbols : List Symbol) (number : ℕ) (s : Symbol) → slice_get symbols number ≡ Some s →
    symbol_at symbols number ≡ s
symbol_found symbols number s at = get_or_from_slice_get symbols number s (symbol.Bool true) at

-- the node of a term's symbol over its kids' ids stands for the term
pub node-stands : (kept : Kept) (number : ℕ) (ids : List ℕ) (t : Term) →
    slice_get kept.symbols number ≡ Some (symbol_of t) →
    map (slice_get (terms_of kept)) ids ≡ map Some (kids_of t) →
    stands_for kept (record { symbol = number; kids = ids }) ≡ t
node-stands kept number ids (apply s ts) symbol kids =
    let head = symbol_found kept.symbols number s symbol in
    let under = ap terms_from (at_found (terms_of kept) ids (list_of ts) kids) ∙ terms_from-list_of ts in
    λ i. apply (head i) (under i)

-- and it may be put
pub node-fits : (kept : Kept) (number : ℕ) (ids : List ℕ) (t : Term) → IsTyped t →
    slice_get kept.symbols number ≡ Some (symbol_of t) →
    map (slice_get (terms_of kept)) ids ≡ map Some (kids_of t) →
    Fits kept (record { symbol = number; kids = ids })
node-fits kept number ids (apply s ts) typed symbol kids = record {
  symbol = slice_get_within kept.symbols number s symbol;
  kids = below_found (terms_of kept) ids (list_of ts) kids;
  typed =
      types_found (terms_of kept) ids (list_of ts) kids
      ∙ (typed.0 ∙ ap (λ (s : Symbol). map (λ (arg : Arg). arg.ty) (arguments_of s))
      (sym (symbol_found kept.symbols number s symbol)));
}

-- a term's kids, its symbol and then its node were put
pub record PutsNode (before : List Term) (with_kids with_symbol : Kept) (number : ℕ) (ids : List ℕ)
    (kids : List Term) (t : Term) : Type 0 where
  pub kids_are : kids ≡ kids_of t
  pub onto : terms_of with_kids ≡ firsts_onto same_term before (flat_map post kids)
  pub found : map (slice_get (terms_of with_kids)) ids ≡ map Some kids
  pub same_terms : terms_of with_symbol ≡ terms_of with_kids
  pub symbol : slice_get with_symbol.symbols number ≡ Some (symbol_of t)

kids-found : (before : List Term) (with_kids with_symbol : Kept) (number : ℕ) (ids : List ℕ)
    (kids : List Term) (t : Term) → PutsNode before with_kids with_symbol number ids kids t →
    map (slice_get (terms_of with_symbol)) ids ≡ map Some (kids_of t)
kids-found before with_kids with_symbol number ids kids t p =
    ap (λ (all : List Term). map (slice_get all) ids) p.same_terms ∙ (p.found ∙ ap (map Some) p.kids_are)

pub puts-fits : (before : List Term) (with_kids with_symbol : Kept) (number : ℕ) (ids own : List ℕ)
    (kids : List Term) (t : Term) → PutsNode before with_kids with_symbol number ids kids t →
    IsTyped t → own ≡ ids → Fits with_symbol (record { symbol = number; kids = own })
puts-fits before with_kids with_symbol number ids own kids t p typed same =
    subst (λ (ids : List ℕ). Fits with_symbol (record { symbol = number; kids = ids })) (sym same)
    (node-fits with_symbol number ids t typed p.symbol
    (kids-found before with_kids with_symbol number ids kids t p))

pub puts-stands : (before : List Term) (with_kids with_symbol : Kept) (number : ℕ) (ids own : List ℕ)
    (kids : List Term) (t : Term) → PutsNode before with_kids with_symbol number ids kids t →
    own ≡ ids → stands_for with_symbol (record { symbol = number; kids = own }) ≡ t
puts-stands before with_kids with_symbol number ids own kids t p same =
    ap (λ (ids : List ℕ). stands_for with_symbol (record { symbol = number; kids = ids })) same
    ∙ node-stands with_symbol number ids t p.symbol
    (kids-found before with_kids with_symbol number ids kids t p)

pub puts-terms : (before : List Term) (with_kids with_symbol after : Kept) (number : ℕ)
    (ids own : List ℕ) (kids : List Term) (t : Term) →
    PutsNode before with_kids with_symbol number ids kids t → own ≡ ids →
    terms_of after ≡ with_first same_term (terms_of with_symbol)
    (stands_for with_symbol (record { symbol = number; kids = own })) →
    terms_of after ≡ firsts_onto same_term before (post t)
puts-terms before with_kids with_symbol after number ids own kids t p same put =
    put_term before (terms_of with_kids) (terms_of after) t
    (p.onto ∙ ap (λ (ts : List Term). firsts_onto same_term before (flat_map post ts)) p.kids_are)
    (put ∙ (ap (with_first same_term (terms_of with_symbol))
    (puts-stands before with_kids with_symbol number ids own kids t p same)
    ∙ ap (λ (seen : List Term). with_first same_term seen t) p.same_terms))

-- a term has one subterm more than its kids
pub length-post : (t : Term) (kids : List Term) → kids ≡ kids_of t →
    length (post t) ≡ length (flat_map post kids) + 1
length-post (apply s ts) kids same =
    length_push (posts ts) (apply s ts)
    ∙ ap (λ n. n + 1) (ap length (posts_is ts ∙ ap (flat_map post) (sym same)))

-- one of some terms has no more subterms than all
pub length-post_at : (kids : List Tree) (i : ℕ) (kid : Tree) → i < length kids →
    kid ≡ get_or kids i kid → length (post (term_of kid)) ≤ length (flat_map post (map term_of kids))
length-post_at [] i kid within is = absurd (omega arith)
length-post_at (first ∷ kids) zero kid within is =
    let e = ap (λ (t : Tree). length (post (term_of t))) is in
    omega (arith, e, length-append (post (term_of first)) (flat_map post (map term_of kids)))
length-post_at (first ∷ kids) (suc i) kid within is =
    omega (
      arith,
      length-post_at kids i kid (omega arith) is,
      length-append (post (term_of first))
          (flat_map post (map term_of kids)),
    )

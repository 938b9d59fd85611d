-- Laws of a store's terms: which term stands at a place, and what more symbols and nodes leave.
use Rattle.std.specs.Prelude.{◌≡◌, ℕ, zero, suc, ◌+◌, ◌<◌, ◌≤◌, ◌^◌, true, false, Some}
use Rattle.std.specs.Prelude.{List, [], ◌∷◌, ◌++◌, length, map, slice_get, slice_index_or}
use Rattle.std.specs.List.{list_any, AllByRecursion}
use Rattle.std.proofs.Common.{refl, sym, ◌∙◌, ap, subst, arith}
use Rattle.std.proofs.lemmas.Bool.{false_from_ne_true}
use Rattle.std.proofs.lemmas.List.{length-append, length_push, get_or_append_left}
use Rattle.std.proofs.lemmas.Option.{same_Some, none-some, slice_get_within, slice_get-get_or}
use Rattle.std.proofs.lemmas.Option.{get_or_from_slice_get}
use Rattle.case_table.specs.Lists.{with_first, firsts, place_of}
use Rattle.case_table.specs.ListLaws.{with_first-new, firsts-push, slice_index_or-once}
use Rattle.case_table.specs.ListLaws.{list_any-slice_get, slice_get-place_of, slice_get-append}
use Rattle.case_table.specs.ListLaws.{slice_get-push}
use Rattle.type_rules.specs.declared.symbol.Symbol.{Symbol}
use Rattle.type_rules.specs.declared.symbol.Symbol.TheVariants as symbol
use Rattle.type_rules.specs.Terms.{Term, apply, nil, terms_from, symbol_of, kids_of}
use Rattle.type_rules.specs.Terms.{term_type, Takes}
use Rattle.type_rules.specs.Same.{same_symbol, same_term}
use Rattle.type_rules.specs.TermLaws.{same_symbol-tells, same_term-tells, list_of-terms_from}
use Rattle.dag_store.specs.declared.store.Node.{Node}
use Rattle.dag_store.specs.Store.{Kept}
use Rattle.dag_store.specs.Unfolding.{symbol_at, term_at, node_term, terms_onto, terms_of}
use Rattle.dag_store.specs.Unfolding.{stands_for, IsMade, AreMade, Fits, IsShared}

-- a store with more symbols behind those it has
abbrev pub with_symbols : Kept → List Symbol → Kept
with_symbols kept more = record { symbols = kept.symbols ++ more; nodes = kept.nodes }

-- a store with more nodes behind those it has
abbrev pub with_nodes : Kept → List Node → Kept
with_nodes kept more = record { symbols = kept.symbols; nodes = kept.nodes ++ more }

-- ---- lengths and fronts

-- the terms of nodes one list after another
pub terms_onto-append : (symbols : List Symbol) (terms : List Term) (xs ys : List Node)
    → terms_onto symbols terms (xs ++ ys) ≡ terms_onto symbols (terms_onto symbols terms xs) ys
terms_onto-append symbols terms [] ys = refl
terms_onto-append symbols terms (x ∷ xs) ys =
    terms_onto-append symbols (terms ++ node_term symbols terms x ∷ []) xs ys

-- one term for each node
pub length-terms_onto : (symbols : List Symbol) (terms : List Term) (nodes : List Node)
    → length (terms_onto symbols terms nodes) ≡ length terms + length nodes
length-terms_onto symbols terms [] = omega arith
length-terms_onto symbols terms (node ∷ nodes) =
    let term = node_term symbols terms node in
    omega (arith, length-terms_onto symbols (terms ++ term ∷ []) nodes, length_push terms term)

-- a store has one term for each node
pub length-terms_of : (kept : Kept) → length (terms_of kept) ≡ length kept.nodes
length-terms_of kept = omega (arith, length-terms_onto kept.symbols [] kept.nodes)

-- the terms that stood before stand there still
pub slice_get-terms_onto : (symbols : List Symbol) (terms : List Term) (nodes : List Node) (k : ℕ)
    (t : Term) → slice_get terms k ≡ Some t → slice_get (terms_onto symbols terms nodes) k ≡ Some t
slice_get-terms_onto symbols terms [] k t at = at
slice_get-terms_onto symbols terms (node ∷ nodes) k t at =
    let term = node_term symbols terms node in
    let still = slice_get-append terms (term ∷ []) k t at in
    slice_get-terms_onto symbols (terms ++ term ∷ []) nodes k t still

-- the same of `term_at`
pub term_at-terms_onto : (symbols : List Symbol) (terms : List Term) (nodes : List Node) (k : ℕ)
    → k < length terms → term_at (terms_onto symbols terms nodes) k ≡ term_at terms k
term_at-terms_onto symbols terms [] k h = refl
term_at-terms_onto symbols terms (node ∷ nodes) k h =
    let term = node_term symbols terms node in
    let within : k < length (terms ++ term ∷ []) = omega (arith, length_push terms term) in
    term_at-terms_onto symbols (terms ++ term ∷ []) nodes k within
    ∙ get_or_append_left terms (term ∷ []) (apply (symbol.Bool true) nil) k h

-- ---- nodes over lists that agree where the nodes look

map-agree : {X : Type 0} (f g : ℕ → X) (n : ℕ) (kids : List ℕ)
    → AllByRecursion (λ kid. kid < n) kids → ((k : ℕ) → k < n → f k ≡ g k) → map f kids ≡ map g kids
map-agree f g n [] below agree = refl
map-agree f g n (kid ∷ kids) below agree =
    λ i. agree kid below.0 i ∷ map-agree f g n kids below.1 agree i

below-le : (m n : ℕ) (kids : List ℕ) → m ≤ n → AllByRecursion (λ kid. kid < m) kids
    → AllByRecursion (λ kid. kid < n) kids
below-le m n [] le below = tt
below-le m n (kid ∷ kids) le below =
    let first : kid < m = below.0 in
    (omega arith, below-le m n kids le below.1)

-- a node has the same term over terms that agree at its kids
pub node_term-agree : (symbols : List Symbol) (terms others : List Term) (n : ℕ) (node : Node)
    → AllByRecursion (λ kid. kid < n) node.kids
    → ((k : ℕ) → k < n → term_at others k ≡ term_at terms k)
    → node_term symbols others node ≡ node_term symbols terms node
node_term-agree symbols terms others n node below agree =
    ap (λ ts. apply (symbol_at symbols node.symbol) (terms_from ts))
    (map-agree (term_at others) (term_at terms) n node.kids below agree)

-- a made node is made over more terms
pub IsMade-agree : (symbols : List Symbol) (terms others : List Term) (node : Node)
    → length terms ≤ length others
    → ((k : ℕ) → k < length terms → term_at others k ≡ term_at terms k) → IsMade symbols terms node
    → IsMade symbols others node
IsMade-agree symbols terms others node le agree made =
    let type_over = λ (ts : List Term) (kid : ℕ). term_type (term_at ts kid) in
    let agree_types = λ (k : ℕ) (h : k < length terms). ap term_type (agree k h) in
    let types =
    map-agree (type_over others) (type_over terms) (length terms) node.kids made.kids agree_types in
    record {
      symbol = made.symbol;
      kids = below-le (length terms) (length others) node.kids le made.kids;
      typed = types ∙ made.typed;
    }

-- ---- the node at a place

record Stands (symbols : List Symbol) (terms : List Term) (place : ℕ) (node : Node) : Type 0 where
  term : slice_get terms place ≡ Some (node_term symbols terms node)
  made : IsMade symbols terms node
  below : AllByRecursion (λ kid. kid < place) node.kids

Stands-first : (symbols : List Symbol) (terms : List Term) (node : Node) (nodes : List Node)
    → IsMade symbols terms node
    → Stands symbols (terms_onto symbols terms (node ∷ nodes)) (length terms) node
Stands-first symbols terms node nodes made =
    let term = node_term symbols terms node in
    let all = terms_onto symbols terms (node ∷ nodes) in
    let agree = term_at-terms_onto symbols terms (node ∷ nodes) in
    let last = slice_get-push terms term in
    let here = slice_get-terms_onto symbols (terms ++ term ∷ []) nodes (length terms) term last in
    let count = length-terms_onto symbols terms (node ∷ nodes) in
    let longer : length terms ≤ length all = omega (arith, count) in
    let same = node_term-agree symbols terms all (length terms) node made.kids agree in
    record {
      term = here ∙ ap Some (sym same);
      made = IsMade-agree symbols terms all node longer agree made;
      below = made.kids;
    }

Stands-at : (symbols : List Symbol) (terms : List Term) (nodes : List Node) (k : ℕ) (node : Node)
    → AreMade symbols terms nodes → slice_get nodes k ≡ Some node
    → Stands symbols (terms_onto symbols terms nodes) (length terms + k) node
Stands-at symbols terms [] k node made at = absurd (none-some node at)
Stands-at symbols terms (first ∷ nodes) zero node made at =
    let all = terms_onto symbols terms (first ∷ nodes) in
    let place : length terms ≡ length terms + 0 = omega arith in
    subst (λ n. Stands symbols all (length terms + 0) n) (same_Some first node at)
    (subst (λ p. Stands symbols all p first) place (Stands-first symbols terms first nodes made.0))
Stands-at symbols terms (first ∷ nodes) (suc k) node made at =
    let term = node_term symbols terms first in
    let longer = length_push terms term in
    let place : length (terms ++ term ∷ []) + k ≡ length terms + suc k = omega (arith, longer) in
    subst (λ p. Stands symbols (terms_onto symbols terms (first ∷ nodes)) p node) place
    (Stands-at symbols (terms ++ term ∷ []) nodes k node made.1 at)

Stands-in : (kept : Kept) (k : ℕ) (node : Node) → AreMade kept.symbols [] kept.nodes
    → slice_get kept.nodes k ≡ Some node → Stands kept.symbols (terms_of kept) k node
Stands-in kept k node made at =
    let place : length {A = Term} [] + k ≡ k = omega arith in
    subst (λ p. Stands kept.symbols (terms_of kept) p node) place
    (Stands-at kept.symbols [] kept.nodes k node made at)

-- at a place stands the term of the node at that place
pub slice_get-terms_of : (kept : Kept) (k : ℕ) (node : Node) → IsShared kept
    → slice_get kept.nodes k ≡ Some node → slice_get (terms_of kept) k ≡ Some (stands_for kept node)
slice_get-terms_of kept k node shared at = (Stands-in kept k node shared.made at).term

-- a node of a store may be put into it
pub Fits-slice_get : (kept : Kept) (k : ℕ) (node : Node) → IsShared kept
    → slice_get kept.nodes k ≡ Some node → Fits kept node
Fits-slice_get kept k node shared at = (Stands-in kept k node shared.made at).made

-- the kids of a node stand before it
pub kids-below : (kept : Kept) (k : ℕ) (node : Node) → IsShared kept
    → slice_get kept.nodes k ≡ Some node → AllByRecursion (λ kid. kid < k) node.kids
kids-below kept k node shared at = (Stands-in kept k node shared.made at).below

-- ---- a node from the terms of its kids

-- places at which terms stand: they are in the list, and it has those terms there
record Reads (terms : List Term) (places : List ℕ) (found : List Term) : Type 0 where
  inside : AllByRecursion (λ place. place < length terms) places
  read : map (term_at terms) places ≡ found
  types : map (λ place. term_type (term_at terms place)) places ≡ map term_type found

Reads-from_slice_get : (terms : List Term) (places : List ℕ) (found : List Term)
    → map (slice_get terms) places ≡ map Some found → Reads terms places found
Reads-from_slice_get terms [] [] e = record { inside = tt; read = refl; types = refl }
Reads-from_slice_get terms [] (t ∷ found) e = absurd (cc)
Reads-from_slice_get terms (place ∷ places) [] e = absurd (cc)
Reads-from_slice_get terms (place ∷ places) (t ∷ found) e =
    let at : slice_get terms place ≡ Some t = cc in
    let others : map (slice_get terms) places ≡ map Some found = cc in
    let rest = Reads-from_slice_get terms places found others in
    let first = get_or_from_slice_get terms place t (apply (symbol.Bool true) nil) at in
    record {
      inside = (slice_get_within terms place t at, rest.inside);
      read = λ i. first i ∷ rest.read i;
      types = λ i. term_type (first i) ∷ rest.types i;
    }

-- a node fits whose symbol is there and takes the types of the terms at its kids
pub Fits-from_kids : (kept : Kept) (node : Node) (s : Symbol) (kids : List Term)
    → slice_get kept.symbols node.symbol ≡ Some s
    → map (slice_get (terms_of kept)) node.kids ≡ map Some kids
    → Takes s (map term_type kids) → Fits kept node
Fits-from_kids kept node s kids at_symbol at_kids takes =
    let reads = Reads-from_slice_get (terms_of kept) node.kids kids at_kids in
    let number = get_or_from_slice_get kept.symbols node.symbol s (symbol.Bool true) at_symbol in
    record {
      symbol = slice_get_within kept.symbols node.symbol s at_symbol;
      kids = reads.inside;
      typed = reads.types ∙ subst (λ r. Takes r (map term_type kids)) (sym number) takes;
    }

-- ---- one node for each term

map-injective : {X : Type 0} (f : ℕ → X) (n : ℕ) (xs ys : List ℕ)
    → ((j k : ℕ) → j < n → k < n → f j ≡ f k → j ≡ k) → AllByRecursion (λ x. x < n) xs
    → AllByRecursion (λ y. y < n) ys → map f xs ≡ map f ys → xs ≡ ys
map-injective f n [] [] once xs_in ys_in e = refl
map-injective f n [] (y ∷ ys) once xs_in ys_in e = cc
map-injective f n (x ∷ xs) [] once xs_in ys_in e = cc
map-injective f n (x ∷ xs) (y ∷ ys) once xs_in ys_in e =
    let first : f x ≡ f y = cc in
    let others : map f xs ≡ map f ys = cc in
    λ i. once x y xs_in.0 ys_in.0 first i ∷ map-injective f n xs ys once xs_in.1 ys_in.1 others i

-- two made nodes that stand for one term are one node, where symbols and terms are without repeats
pub node_term-injective : (symbols : List Symbol) (terms : List Term) (m n : Node)
    → firsts same_symbol symbols ≡ symbols → firsts same_term terms ≡ terms → IsMade symbols terms m
    → IsMade symbols terms n → node_term symbols terms m ≡ node_term symbols terms n → m ≡ n
node_term-injective symbols terms m n symbols_once terms_once made_m made_n e =
    let no_symbol = symbol.Bool true in
    let no_term = apply no_symbol nil in
    let kids_m = map (term_at terms) m.kids in
    let kids_n = map (term_at terms) n.kids in
    let one_list : kids_m ≡ kids_n =
    sym (list_of-terms_from kids_m) ∙ ap kids_of e ∙ list_of-terms_from kids_n in
    let number : m.symbol ≡ n.symbol =
    slice_index_or-once same_symbol same_symbol-tells symbols no_symbol m.symbol n.symbol
    symbols_once made_m.symbol made_n.symbol (ap symbol_of e) in
    let once =
    λ (j k : ℕ). slice_index_or-once same_term same_term-tells terms no_term j k terms_once in
    let count = length terms in
    let kids : m.kids ≡ n.kids =
    map-injective (term_at terms) count m.kids n.kids once made_m.kids made_n.kids one_list in
    λ i. record { symbol = number i; kids = kids i }

-- a node that fits and is not there stands for no term that is there
pub list_any-absent : (kept : Kept) (node : Node) → IsShared kept → Fits kept node
    → ((k : ℕ) → slice_get kept.nodes k ≡ Some node → ⊥)
    → list_any (same_term (stands_for kept node)) (terms_of kept) ≡ false
list_any-absent kept node shared made absent =
    let terms = terms_of kept in
    let term = stands_for kept node in
    false_from_ne_true (list_any (same_term term) terms) (λ known.
    let place = place_of same_term term terms in
    let at = slice_get-place_of same_term same_term-tells terms term known in
    let inside = slice_get_within terms place term at in
    let within : place < length kept.nodes = omega (arith, inside, length-terms_of kept) in
    let there = slice_index_or kept.nodes place node in
    let found = slice_get-get_or kept.nodes place node within in
    let stands = slice_get-terms_of kept place there shared found in
    let one_term = same_Some (stands_for kept there) term (sym stands ∙ at) in
    let fits = Fits-slice_get kept place there shared found in
    let one_node =
    node_term-injective kept.symbols terms there node shared.symbols shared.terms fits made
    one_term in
    absent place (found ∙ ap Some one_node))

-- a node that is there stands for a term that is there
pub list_any-present : (kept : Kept) (k : ℕ) (node : Node) → IsShared kept
    → slice_get kept.nodes k ≡ Some node
    → list_any (same_term (stands_for kept node)) (terms_of kept) ≡ true
list_any-present kept k node shared at =
    list_any-slice_get same_term same_term-tells (terms_of kept) (stands_for kept node) k
    (slice_get-terms_of kept k node shared at)

-- ---- one more symbol, and one more node

-- more symbols at the end leave a made node's term
pub node_term-more_symbols : (symbols more : List Symbol) (terms : List Term) (node : Node)
    → node.symbol < length symbols
    → node_term (symbols ++ more) terms node ≡ node_term symbols terms node
node_term-more_symbols symbols more terms node h =
    ap (λ s. apply s (terms_from (map (term_at terms) node.kids)))
    (get_or_append_left symbols more (symbol.Bool true) node.symbol h)

-- a made node is made with more symbols at the end
pub IsMade-more_symbols : (symbols more : List Symbol) (terms : List Term) (node : Node)
    → IsMade symbols terms node → IsMade (symbols ++ more) terms node
IsMade-more_symbols symbols more terms node made =
    let types = map (λ kid. term_type (term_at terms kid)) node.kids in
    let kept = get_or_append_left symbols more (symbol.Bool true) node.symbol made.symbol in
    record {
      symbol = omega (arith, made.symbol, length-append symbols more);
      kids = made.kids;
      typed = subst (λ s. Takes s types) (sym kept) made.typed;
    }

-- more symbols at the end leave the terms of made nodes
pub terms_onto-more_symbols : (symbols more : List Symbol) (terms : List Term) (nodes : List Node)
    → AreMade symbols terms nodes
    → terms_onto (symbols ++ more) terms nodes ≡ terms_onto symbols terms nodes
terms_onto-more_symbols symbols more terms [] made = refl
terms_onto-more_symbols symbols more terms (node ∷ nodes) made =
    let first = node_term-more_symbols symbols more terms node made.0.symbol in
    ap (λ t. terms_onto (symbols ++ more) (terms ++ t ∷ []) nodes) first
    ∙ terms_onto-more_symbols symbols more (terms ++ node_term symbols terms node ∷ []) nodes made.1

-- more symbols at the end leave made nodes made
pub AreMade-more_symbols : (symbols more : List Symbol) (terms : List Term) (nodes : List Node)
    → AreMade symbols terms nodes → AreMade (symbols ++ more) terms nodes
AreMade-more_symbols symbols more terms [] made = tt
AreMade-more_symbols symbols more terms (node ∷ nodes) made =
    let first = node_term-more_symbols symbols more terms node made.0.symbol in
    let before = terms ++ node_term symbols terms node ∷ [] in
    let others = AreMade-more_symbols symbols more before nodes made.1 in
    let moved = subst (λ t. AreMade (symbols ++ more) (terms ++ t ∷ []) nodes) (sym first) others in
    (IsMade-more_symbols symbols more terms node made.0, moved)

-- one more node that is made of those before it
pub AreMade-push : (symbols : List Symbol) (terms : List Term) (nodes : List Node) (node : Node)
    → AreMade symbols terms nodes → IsMade symbols (terms_onto symbols terms nodes) node
    → AreMade symbols terms (nodes ++ node ∷ [])
AreMade-push symbols terms [] node made last = (last, tt)
AreMade-push symbols terms (first ∷ nodes) node made last =
    let others = terms ++ node_term symbols terms first ∷ [] in
    (made.0, AreMade-push symbols others nodes node made.1 last)

-- more symbols at the end leave a store's terms
pub terms_of-more_symbols : (kept : Kept) (more : List Symbol) → IsShared kept
    → terms_of (with_symbols kept more) ≡ terms_of kept
terms_of-more_symbols kept more shared =
    terms_onto-more_symbols kept.symbols more [] kept.nodes shared.made

-- a new node's term comes behind the others
pub terms_of-push : (kept : Kept) (node : Node)
    → terms_of (with_nodes kept (node ∷ [])) ≡ terms_of kept ++ stands_for kept node ∷ []
terms_of-push kept node = terms_onto-append kept.symbols [] kept.nodes (node ∷ [])

-- behind the others stands the term of a new node
pub slice_get-terms_of_push : (kept : Kept) (node : Node) (place : ℕ) → place ≡ length kept.nodes
    → slice_get (terms_of (with_nodes kept (node ∷ []))) place ≡ Some (stands_for kept node)
slice_get-terms_of_push kept node place last =
    let at : place ≡ length (terms_of kept) = last ∙ sym (length-terms_of kept) in
    ap (λ k. slice_get (terms_of (with_nodes kept (node ∷ []))) k) at
    ∙ ap (λ ts. slice_get ts (length (terms_of kept))) (terms_of-push kept node)
    ∙ slice_get-push (terms_of kept) (stands_for kept node)

-- a new symbol may come behind the others
pub IsShared-more_symbols : (kept : Kept) (s : Symbol) → IsShared kept
    → list_any (same_symbol s) kept.symbols ≡ false → length kept.symbols + 1 < 2 ^ 32
    → IsShared (with_symbols kept (s ∷ []))
IsShared-more_symbols kept s shared new few =
    let stay = terms_of-more_symbols kept (s ∷ []) shared in
    let once =
    firsts-push same_symbol kept.symbols s ∙ ap (λ ss. with_first same_symbol ss s) shared.symbols
    ∙ with_first-new same_symbol kept.symbols s new in
    record {
      symbols = once;
      terms = subst (λ ts. firsts same_term ts ≡ ts) (sym stay) shared.terms;
      made = AreMade-more_symbols kept.symbols (s ∷ []) [] kept.nodes shared.made;
      few_symbols = omega (arith, length_push kept.symbols s);
      few_nodes = shared.few_nodes;
    }

-- a node that fits and stands for no term that is there may come behind the others
pub IsShared-push : (kept : Kept) (node : Node) → IsShared kept → Fits kept node
    → list_any (same_term (stands_for kept node)) (terms_of kept) ≡ false
    → length kept.nodes + 1 < 2 ^ 32
    → IsShared (with_nodes kept (node ∷ []))
IsShared-push kept node shared made new few =
    let t = stands_for kept node in
    let once =
    firsts-push same_term (terms_of kept) t ∙ ap (λ ts. with_first same_term ts t) shared.terms
    ∙ with_first-new same_term (terms_of kept) t new in
    record {
      symbols = shared.symbols;
      terms = subst (λ ts. firsts same_term ts ≡ ts) (sym (terms_of-push kept node)) once;
      made = AreMade-push kept.symbols [] kept.nodes node shared.made made;
      few_symbols = shared.few_symbols;
      few_nodes = omega (arith, length_push kept.nodes node);
    }

-- The text of a graph: lines one after another, the places of kids, and tests of texts in parts.
use Rattle.std.proofs.Common.{◌≡◌, ℕ, suc, ◌+◌, ◌<◌, ◌≤◌, Bool, true, false, Some, List, [], ◌∷◌, ◌++◌}
use Rattle.std.proofs.Common.{codes, decimal, length, map, take, get_or, slice_get, refl, sym, ap, ◌∙◌}
use Rattle.std.proofs.Common.{arith}
use Rattle.std.specs.Bool.{Decides}
use Rattle.std.specs.List.{flat_map, AllByRecursion}
use Rattle.std.specs.Str.{bytes_eq}
use Rattle.std.proofs.lemmas.Bool.{false_from_ne_true}
use Rattle.std.proofs.lemmas.List.{append_assoc, append-nil, append_cancel_left, append_cancel_right}
use Rattle.std.proofs.lemmas.List.{take_all, take_more, length-take}
use Rattle.std.proofs.lemmas.Option.{slice_get-get_or, get_or_from_slice_get, slice_get_read}
use Rattle.std.proofs.lemmas.Slice.Eq.{bytes_eq-Decides}
use Rattle.case_table.specs.Lists.{firsts}
use Rattle.case_table.specs.ListLaws.{place_of-slice_get}
use Rattle.type_rules.specs.declared.symbol.Symbol.{Symbol}
use Rattle.type_rules.specs.declared.symbol.Symbol.TheVariants as symbol
use Rattle.type_rules.specs.Terms.{Term, apply, nil}
use Rattle.type_rules.specs.Texts.{symbol_text}
use Rattle.type_rules.specs.Same.{same_term}
use Rattle.type_rules.specs.TermLaws.{same_term-tells, list_of-terms_from}
use Rattle.dag_store.specs.declared.store.Node.{Node}
use Rattle.dag_store.specs.Store.{Kept}
use Rattle.dag_store.specs.Unfolding.{terms_of, term_at, symbol_at, stands_for, Fits, IsShared}
use Rattle.mdl_cli.specs.GraphText.{place_text, kids_text, node_line, node_lines}
use Rattle.mdl_cli.specs.inside.GraphLines.{ids_text, line_text}

-- ---- the places of kids

place_is : (all : List Term) (kid : ℕ) → firsts same_term all ≡ all → kid < length all
    → place_text all (term_at all kid) ≡ decimal kid
place_is all kid once within =
    let at = slice_get-get_or all kid (apply (symbol.Bool true) nil) within in
    ap decimal (place_of-slice_get same_term same_term-tells all (term_at all kid) kid once at)

others_are : (all : List Term) (kids : List ℕ) → firsts same_term all ≡ all
    → AllByRecursion (λ kid. kid < length all) kids
    → flat_map (λ (next : Term). codes "," ++ place_text all next) (map (term_at all) kids)
    ≡ flat_map (λ (next : ℕ). codes "," ++ decimal next) kids
others_are all [] once within = refl
others_are all (kid ∷ kids) once within =
    let first = place_is all kid once within.0 in
    let others = others_are all kids once within.1 in
    λ i. (codes "," ++ first i) ++ others i

-- the places of the terms at ids are those ids
kids_are : (all : List Term) (kids : List ℕ) → firsts same_term all ≡ all
    → AllByRecursion (λ kid. kid < length all) kids
    → kids_text all (map (term_at all) kids) ≡ ids_text kids
kids_are all [] once within = refl
kids_are all (kid ∷ kids) once within =
    let first = place_is all kid once within.0 in
    let others = others_are all kids once within.1 in
    λ i. first i ++ others i

-- all kids are written
pub ids_end : (old begun text kids others : List ℕ) (first i : ℕ) → kids ≡ first ∷ others
    → begun ≡ old ++ decimal first → length others ≤ i
    → text ≡ begun ++ flat_map (λ (next : ℕ). codes "," ++ decimal next) (take i others)
    → text ≡ old ++ ids_text kids
ids_end old begun text kids others first i is begins whole so_far =
    let commas = flat_map (λ (next : ℕ). codes "," ++ decimal next) in
    so_far ∙ ap (λ ids. begun ++ commas ids) (take_all i others whole)
    ∙ ap (λ text. text ++ commas others) begins ∙ append_assoc old (decimal first) (commas others)
    ∙ ap (λ kids. old ++ ids_text kids) (sym is)

-- ---- lines

-- the symbol that was read stands at its number
pub symbol_is : (symbols read : List Symbol) (number : ℕ) (s : Symbol) → read ≡ symbols
    → number < length symbols → s ≡ get_or read number s → s ≡ symbol_at symbols number
symbol_is symbols read number s same within is =
    let at = is ∙ ap (λ list. get_or list number s) same in
    sym (get_or_from_slice_get symbols number s (symbol.Bool true)
    (slice_get_read symbols (length symbols) number s refl within at))

-- the line over a node's numbers is the line of the term that stands at its id
pub line_is : (kept : Kept) (id : ℕ) (node : Node) (s : Symbol) → IsShared kept → Fits kept node
    → slice_get (terms_of kept) id ≡ Some (stands_for kept node) → s ≡ symbol_at kept.symbols node.symbol
    → line_text id node.kids s ≡ node_line (terms_of kept) id (term_at (terms_of kept) id)
line_is kept id node s shared fits at is =
    let all = terms_of kept in
    let term = get_or_from_slice_get all id (stands_for kept node) (apply (symbol.Bool true) nil) at in
    let kids = kids_are all node.kids shared.terms fits.kids in
    let read = ap (kids_text all) (list_of-terms_from (map (term_at all) node.kids)) ∙ kids in
    let over = λ (kids : List ℕ) (s : Symbol).
    decimal id ++ (codes " " ++ (kids ++ (codes " " ++ (symbol_text s ++ codes "\n")))) in
    let text : line_text id node.kids s ≡ node_line all id (stands_for kept node) =
    λ i. over (sym read i) (is i) in
    text ∙ ap (node_line all id) (sym term)

lines-push : (all : List Term) (index : ℕ) (terms : List Term) (term : Term)
    → node_lines all index (terms ++ term ∷ [])
    ≡ node_lines all index terms ++ node_line all (index + length terms) term
lines-push all index [] term =
    let place : index ≡ index + 0 = omega arith in
    append-nil (node_line all index term) ∙ ap (λ place. node_line all place term) place
lines-push all index (first ∷ terms) term =
    let place : suc index + length terms ≡ index + suc (length terms) = omega arith in
    ap (λ text. node_line all index first ++ text) (lines-push all (suc index) terms term)
    ∙ sym (append_assoc (node_line all index first) (node_lines all (suc index) terms)
    (node_line all (suc index + length terms) term))
    ∙ ap (λ place. (node_line all index first ++ node_lines all (suc index) terms) ++ node_line all
    place term) place

-- one more line
pub lines_more : (all : List Term) (text : List ℕ) (i : ℕ) → i < length all
    → (text ++ node_lines all 0 (take i all)) ++ node_line all i (term_at all i)
    ≡ text ++ node_lines all 0 (take (i + 1) all)
lines_more all text i within =
    let next = take_more all i (apply (symbol.Bool true) nil) within in
    let place : 0 + length (take i all) ≡ i = omega (arith, length-take i all) in
    append_assoc text (node_lines all 0 (take i all)) (node_line all i (term_at all i))
    ∙ ap (λ lines. text ++ lines)
    (ap (λ place. node_lines all 0 (take i all) ++ node_line all place (term_at all i)) (sym place)
    ∙ sym (lines-push all 0 (take i all) (term_at all i)) ∙ ap (node_lines all 0) (sym next))

-- ---- tests of texts in parts

decided : {P Q : Type 0} (p q : Bool) → Decides p P → Decides q Q → (P → Q) → (Q → P) → p ≡ q
decided true q p_is q_is there back = sym (q_is.1 (there (p_is.0 refl)))
decided false true p_is q_is there back = p_is.1 (back (q_is.0 refl))
decided false false p_is q_is there back = refl

-- a text that begins so is another if the rest is the other's rest
pub same_behind : (text front rest other : List ℕ) → text ≡ front ++ rest
    → bytes_eq rest other ≡ bytes_eq text (front ++ other)
same_behind text front rest other is =
    decided (bytes_eq rest other) (bytes_eq text (front ++ other)) (bytes_eq-Decides rest other)
    (bytes_eq-Decides text (front ++ other))
    (λ same. is ∙ ap (λ (end : List ℕ). front ++ end) same)
    (λ same. append_cancel_left front rest other (sym is ∙ same))

-- a text that doesn't begin so is no text that does
pub apart_behind : (text front other : List ℕ) → ((rest : List ℕ) → text ≡ front ++ rest → ⊥)
    → bytes_eq text (front ++ other) ≡ false
apart_behind text front other apart =
    false_from_ne_true (bytes_eq text (front ++ other))
    (λ same. apart other ((bytes_eq-Decides text (front ++ other)).0 same))

-- a text that ends so is another if the front is the other's front
pub same_before : (text front end other : List ℕ) → text ≡ front ++ end
    → bytes_eq front other ≡ bytes_eq text (other ++ end)
same_before text front end other is =
    decided (bytes_eq front other) (bytes_eq text (other ++ end)) (bytes_eq-Decides front other)
    (bytes_eq-Decides text (other ++ end))
    (λ same. is ∙ ap (λ (front : List ℕ). front ++ end) same)
    (λ same. append_cancel_right front other end (sym is ∙ same))

-- a text that doesn't end so is no text that does
pub apart_before : (text end other : List ℕ) → ((front : List ℕ) → text ≡ front ++ end → ⊥)
    → bytes_eq text (other ++ end) ≡ false
apart_before text end other apart =
    false_from_ne_true (bytes_eq text (other ++ end))
    (λ same. apart other ((bytes_eq-Decides text (other ++ end)).0 same))

-- The sum takes two kids of the type that a whole number has.
use Rattle.std.proofs.Common.{◌≡◌, ℕ, ◌<◌, Some, List, [], ◌∷◌, map, length, slice_get, sym, subst, ap}
use Rattle.std.proofs.Common.{◌∙◌, true}
use Rattle.std.specs.List.{AllByRecursion}
use Rattle.std.proofs.lemmas.Option.{slice_get_within, get_or_from_slice_get}
use Rattle.case_table.specs.ListLaws.{slice_get-with_first_kept}
use Rattle.type_rules.specs.declared.ty.Arg.{Arg}
use Rattle.type_rules.specs.declared.symbol.Symbol.{Symbol}
use Rattle.type_rules.specs.declared.symbol.Symbol.TheVariants as symbol
use Rattle.type_rules.specs.Types.{arguments_of}
use Rattle.type_rules.specs.Terms.{Term, apply, nil, term_type}
use Rattle.type_rules.specs.Same.{same_term}
use Rattle.dag_store.specs.declared.store.Node.{Node}
use Rattle.dag_store.specs.Store.{Kept}
use Rattle.dag_store.specs.Unfolding.{terms_of, term_at, Fits}
use Rattle.mdl_cli.proofs.graph_text.tests.put_sum.Goals as goal

Fits-two : (kept : Kept) (node : Node) (s : Symbol) (j k : ℕ) (t u : Term)
    → slice_get kept.symbols node.symbol ≡ Some s → node.kids ≡ j ∷ k ∷ []
    → slice_get (terms_of kept) j ≡ Some t → slice_get (terms_of kept) k ≡ Some u
    → map (λ (arg : Arg). arg.ty) (arguments_of s) ≡ term_type t ∷ term_type u ∷ [] → Fits kept node
Fits-two kept node s j k t u at_symbol two at_j at_k takes =
    let all = terms_of kept in
    let types = λ (r : Symbol). map (λ (arg : Arg). arg.ty) (arguments_of r) in
    let no_symbol = symbol.Bool true in
    let read_j = ap term_type (get_or_from_slice_get all j t (apply no_symbol nil) at_j) in
    let read_k = ap term_type (get_or_from_slice_get all k u (apply no_symbol nil) at_k) in
    let read_symbol = get_or_from_slice_get kept.symbols node.symbol s no_symbol at_symbol in
    let inside_j : j < length all = slice_get_within all j t at_j in
    let inside_k : k < length all = slice_get_within all k u at_k in
    let read : term_type (term_at all j) ∷ term_type (term_at all k) ∷ [] ≡ term_type t ∷ term_type u ∷ [] =
    λ i. read_j i ∷ read_k i ∷ [] in
    record {
      symbol = slice_get_within kept.symbols node.symbol s at_symbol;
      kids = subst (λ kids. AllByRecursion (λ kid. kid < length all) kids) (sym two)
          (inside_j, (inside_k, tt));
      typed = ap (map (λ kid. term_type (term_at all kid))) two ∙ read ∙ sym takes
          ∙ ap types (sym read_symbol);
    }

pub put-requires : goal.put-requires
put-requires c =
    let left = apply (symbol.Int c.args.left) nil in
    let right = apply (symbol.Int c.args.right) nil in
    let more = c.in_ok-right.ensures.terms in
    let stays = slice_get-with_first_kept same_term (terms_of c.put_int.new.store) right
    c.in_ok-left.left.0 left c.in_ok-left.ensures.id in
    let at_left =
    ap (λ (ts : List Term). slice_get ts c.in_ok-left.left.0) (c.in_ok-number.ensures.terms ∙ more)
    ∙ stays in
    let at_right =
    ap (λ (ts : List Term). slice_get ts c.in_ok-right.right.0) c.in_ok-number.ensures.terms
    ∙ c.in_ok-right.ensures.id in
    Fits-two c.intern.new.self _ c.in_ok-sum.sum c.in_ok-left.left.0 c.in_ok-right.right.0 left right
    c.in_ok-number.ensures.number c.in_ok-copy.ensures at_left at_right c.in_ok-sum.ensures

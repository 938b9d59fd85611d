-- The terms that a store's nodes stand for.
use Rattle.std.specs.Prelude.{◌≡◌, ℕ, ◌<◌, ◌^◌, true}
use Rattle.std.specs.Prelude.{List, [], ◌∷◌, ◌++◌, length, map, slice_index_or}
use Rattle.std.specs.List.{AllByRecursion}
use Rattle.case_table.specs.Lists.{firsts}
use Rattle.type_rules.specs.declared.symbol.Symbol.{Symbol}
use Rattle.type_rules.specs.declared.symbol.Symbol.TheVariants as symbol
use Rattle.type_rules.specs.Terms.{Term, apply, nil, terms_from, term_type, Takes}
use Rattle.type_rules.specs.Same.{same_symbol, same_term}
use Rattle.dag_store.specs.declared.store.Node.{Node}
use Rattle.dag_store.specs.Store.{Kept}

-- the symbol of a number; past the end of the list it is some symbol
abbrev pub symbol_at : List Symbol → ℕ → Symbol
symbol_at symbols number = slice_index_or symbols number (symbol.Bool true)

-- the term at a place; past the end of the list it is some term
abbrev pub term_at : List Term → ℕ → Term
term_at terms place = slice_index_or terms place (apply (symbol.Bool true) nil)

-- the term of a node over terms at whose places its kids stand
abbrev pub node_term : List Symbol → List Term → Node → Term
node_term symbols terms node =
    apply (symbol_at symbols node.symbol) (terms_from (map (term_at terms) node.kids))

-- the terms of nodes, one after another, behind the terms that stand before them
abbrev pub terms_onto : List Symbol → List Term → List Node → List Term
terms_onto symbols terms [] = terms
terms_onto symbols terms (node ∷ nodes) =
    terms_onto symbols (terms ++ node_term symbols terms node ∷ []) nodes

-- the term of each node of a store, by its id
abbrev pub terms_of : Kept → List Term
terms_of kept = terms_onto kept.symbols [] kept.nodes

-- the term that a node stands for in a store
abbrev pub stands_for : Kept → Node → Term
stands_for kept node = node_term kept.symbols (terms_of kept) node

-- a node's symbol and kids are there, and the kids have the types that the symbol takes
pub record IsMade (symbols : List Symbol) (terms : List Term) (node : Node) : Type 0 where
  pub symbol : node.symbol < length symbols
  pub kids : AllByRecursion (λ kid. kid < length terms) node.kids
  pub typed :
      Takes (symbol_at symbols node.symbol) (map (λ kid. term_type (term_at terms kid)) node.kids)

-- each node is made of those before it
abbrev pub AreMade : List Symbol → List Term → List Node → Type 0
AreMade symbols terms [] = Unit {0}
AreMade symbols terms (node ∷ nodes) =
    IsMade symbols terms node × AreMade symbols (terms ++ node_term symbols terms node ∷ []) nodes

-- a node that may be put
abbrev pub Fits : Kept → Node → Type 0
Fits kept node = IsMade kept.symbols (terms_of kept) node

-- no two symbols are equal and no two nodes, kids stand before the nodes that have them, and ids
-- fit in 32 bits
pub record IsShared (kept : Kept) : Type 0 where
  pub symbols : firsts same_symbol kept.symbols ≡ kept.symbols
  pub terms : firsts same_term (terms_of kept) ≡ terms_of kept
  pub made : AreMade kept.symbols [] kept.nodes
  pub few_symbols : length kept.symbols < 2 ^ 32
  pub few_nodes : length kept.nodes < 2 ^ 32

-- The text of a graph: one line for each subterm of its term.
use Rattle.std.specs.Prelude.{ℕ, suc, List, [], ◌∷◌, ◌++◌, codes, decimal, length}
use Rattle.std.specs.List.{flat_map}
use Rattle.case_table.specs.Lists.{place_of}
use Rattle.type_rules.specs.Terms.{Term, symbol_of, kids_of}
use Rattle.type_rules.specs.Texts.{symbol_text}
use Rattle.type_rules.specs.Same.{same_term}
use Rattle.type_rules.specs.Postorder.{canon}

-- the place of a term among all that have lines
abbrev pub place_text : List Term → Term → List ℕ
place_text all term = decimal (place_of same_term term all)

-- the kids' places with commas, or a dash where there are none
abbrev pub kids_text : List Term → List Term → List ℕ
kids_text all [] = codes "-"
kids_text all (kid ∷ kids) = place_text all kid ++ flat_map (λ next. codes "," ++ place_text all next) kids

-- the line of the term at an index
abbrev pub node_line : List Term → ℕ → Term → List ℕ
node_line all index term =
    decimal index ++ (codes " " ++ (kids_text all (kids_of term)
    ++ (codes " " ++ (symbol_text (symbol_of term) ++ codes "\n"))))

-- the lines of terms from an index on
abbrev pub node_lines : List Term → ℕ → List Term → List ℕ
node_lines all index [] = []
node_lines all index (term ∷ terms) = node_line all index term ++ node_lines all (suc index) terms

-- the text of an instance of this name whose lines are of these terms
abbrev pub instance_lines : List ℕ → List Term → List ℕ
instance_lines name all =
    codes "mdlgraph 1\ninstance " ++ (name ++ (codes "\nnodes " ++ (decimal (length all)
    ++ (codes "\n" ++ (node_lines all 0 all ++ codes "end\n")))))

-- the canonical text of an instance: its term's subterms in postorder, each once
abbrev pub instance_text : List ℕ → Term → List ℕ
instance_text name term = instance_lines name (canon term)

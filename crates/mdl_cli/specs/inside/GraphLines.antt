-- The lines of a graph text over a store's numbers.
use Rattle.std.specs.Prelude.{ℕ, List, [], ◌∷◌, ◌++◌, codes, decimal}
use Rattle.std.specs.List.{flat_map}
use Rattle.type_rules.specs.declared.symbol.Symbol.{Symbol}
use Rattle.type_rules.specs.Texts.{symbol_text}

-- kids' ids with commas, or a dash where there are none
abbrev pub ids_text : List ℕ → List ℕ
ids_text [] = codes "-"
ids_text (kid ∷ kids) = decimal kid ++ flat_map (λ next. codes "," ++ decimal next) kids

-- a line of an id, of kids' ids and a symbol
abbrev pub line_text : ℕ → List ℕ → Symbol → List ℕ
line_text id kids symbol =
    decimal id ++ (codes " "
    ++ (ids_text kids ++ (codes " " ++ (symbol_text symbol ++ codes "\n"))))

-- an instance's name, and how many lines it has
abbrev pub head_text : List ℕ → ℕ → List ℕ
head_text name count = name ++ (codes "\nnodes " ++ (decimal count ++ codes "\n"))

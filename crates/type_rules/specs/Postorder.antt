-- The subterms of a term, each once.
use Rattle.std.specs.Prelude.{List, [], ◌∷◌, ◌++◌}
use Rattle.case_table.specs.Lists.{firsts}
use Rattle.type_rules.specs.Terms.{Term, Terms, apply, nil, cons}
use Rattle.type_rules.specs.Same.{same_term}

-- all subterms of a term in postorder, kids from left to right, with repeats
abbrev mutual
  pub post : Term → List Term
  post (apply s ts) = posts ts ++ apply s ts ∷ []

  pub posts : Terms → List Term
  posts nil = []
  posts (cons t ts) = post t ++ posts ts

-- the canonical order: the subterms in postorder, without later repeats
abbrev pub canon : Term → List Term
canon t = firsts same_term (post t)

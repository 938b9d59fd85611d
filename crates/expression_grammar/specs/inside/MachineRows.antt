-- The machine on short texts.
use Rattle.std.specs.Prelude.{◌≡◌, refl, ℕ, suc, List, [], ◌∷◌, codes}
use Rattle.mdl_lexer.specs.declared.token.Kind.{Kind}
use Rattle.mdl_lexer.specs.declared.token.Kind.TheVariants as kind
use Rattle.mdl_lexer.specs.declared.token.Token.{Token}
use Rattle.mdl_lexer.specs.Kinds.{mark_word}
use Rattle.mdl_syntax.specs.Trees.{Tree, binary}
use Rattle.expression_grammar.specs.inside.Machine.{run, read_as, deep_at, name_tree, path_name}
use Rattle.expression_grammar.specs.inside.Machine.{first_part, from_to}

abbrev pub token_at : ℕ → Kind → Token
token_at at kind = record { kind = kind; at = at; end = suc at }

abbrev pub tokens_from : ℕ → List Kind → List Token
tokens_from at [] = []
tokens_from at (kind ∷ kinds) = token_at at kind ∷ tokens_from (suc at) kinds

abbrev name_at : ℕ → List ℕ → Tree
name_at at text = name_tree (path_name (first_part text (from_to at (suc at))))

abbrev a_minus_b_minus_c : List Kind
a_minus_b_minus_c =
    kind.Word (codes "a") ∷ mark_word (codes "-") ∷ kind.Word (codes "b") ∷ mark_word (codes "-")
    ∷ kind.Word (codes "c") ∷ []

pub it_groups_to_the_left : run 3 (tokens_from 0 a_minus_b_minus_c) ≡
    read_as (binary 210 (binary 210 (name_at 0 (codes "a")) (name_at 2 (codes "b")) (from_to 0 3))
    (name_at 4 (codes "c")) (from_to 0 5))
it_groups_to_the_left = refl

pub it_is_too_deep : run 2 (tokens_from 0 a_minus_b_minus_c) ≡ deep_at 3
it_is_too_deep = refl

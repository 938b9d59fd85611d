-- Lists that are written piece by piece.
use Rattle.std.proofs.Common.{◌≡◌, ap, refl, append_assoc, List, [], ◌∷◌, ◌++◌, map, codes}
use Rattle.std.proofs.lemmas.Grind.{common_steps}
use Rattle.std.specs.List.{flat_map}
use Rattle.mdl_lexer.specs.declared.token.Kind.{Kind}
use Rattle.mdl_syntax.specs.declared.names.Ident.{Ident}
use Rattle.mdl_syntax.specs.declared.expressions.Expr.{Expr}
use Rattle.mdl_syntax.specs.declared.expressions.Argument as held
use Rattle.mdl_syntax.specs.declared.expressions.LetInit as held_init
use Rattle.mdl_lexer.specs.Kinds.{mark_word}
use Rattle.mdl_syntax.specs.Words.{ident_word, parts_words}
use Rattle.mdl_syntax.specs.Trees.{tree_of, trees_of, argument_of, arguments_of, initializer_of}
use Rattle.mdl_syntax.specs.Trees.{initializers_of}
use Rattle.mdl_syntax.specs.Written.{write, write_more_trees}
use Rattle.mdl_syntax.specs.Written.{write_more_arguments, write_initializers}
use Rattle.mdl_syntax.specs.inside.Parts.{argument_words, initializer_words}

-- an identifier, a tree and an argument behind others, and an initializer
abbrev pub next_part : Ident → List Kind
next_part part = mark_word (codes "::") ∷ ident_word part ∷ []

abbrev pub next_tree : Expr → List Kind
next_tree tree = mark_word (codes ",") ∷ write (tree_of tree)

abbrev pub next_argument : held.Argument → List Kind
next_argument argument = mark_word (codes ",") ∷ argument_words (argument_of argument)

abbrev pub one_initializer : held_init.LetInit → List Kind
one_initializer initializer = initializer_words (initializer_of initializer)

pub parts_in_pieces : (part : Ident) (parts : List Ident) →
    parts_words (part ∷ parts) ≡ ident_word part ∷ flat_map next_part parts
parts_in_pieces part [] = refl
parts_in_pieces part (next ∷ parts) =
    ap (λ rest. ident_word part ∷ mark_word (codes "::") ∷ rest) (parts_in_pieces next parts)

pub trees_in_pieces : (trees : List Expr) →
    write_more_trees (trees_of (map tree_of trees)) ≡ flat_map next_tree trees
trees_in_pieces [] = refl
trees_in_pieces (tree ∷ trees) = ap (λ rest. next_tree tree ++ rest) (trees_in_pieces trees)

pub arguments_in_pieces : (arguments : List held.Argument) →
    write_more_arguments (arguments_of (map argument_of arguments)) ≡ flat_map next_argument arguments
arguments_in_pieces [] = refl
arguments_in_pieces (argument ∷ arguments) = simp (append_assoc, arguments_in_pieces arguments)

pub initializers_in_pieces : (initializers : List held_init.LetInit) →
    write_initializers (initializers_of (map initializer_of initializers))
    ≡ flat_map one_initializer initializers
initializers_in_pieces [] = refl
initializers_in_pieces (initializer ∷ initializers) =
    simp (append_assoc, initializers_in_pieces initializers)

pub ruleset piece_laws = (
  common_steps,
  parts_in_pieces,
  trees_in_pieces,
  arguments_in_pieces,
  initializers_in_pieces,
)

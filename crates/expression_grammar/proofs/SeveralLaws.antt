-- Lists with one member more, and their heights in the machine's numbers.
use Rattle.std.proofs.Common.{◌≡◌, ◌∙◌, ap, sym, arith, ℕ, Option, List, [], ◌∷◌, ◌++◌, map, max}
use Rattle.std.proofs.lemmas.List.{map-append}
use Rattle.mdl_syntax.specs.declared.names.Span.{Span}
use Rattle.mdl_syntax.specs.declared.names.Ident.{Ident}
use Rattle.mdl_syntax.specs.declared.types.TypeTree.{TypeTree}
use Rattle.mdl_syntax.specs.declared.types.Freq.{Freq}
use Rattle.mdl_syntax.specs.declared.expressions.Expr.{Expr}
use Rattle.mdl_syntax.specs.declared.expressions.Argument as held
use Rattle.mdl_syntax.specs.declared.expressions.LetInit as held_init
use Rattle.mdl_syntax.specs.Trees.{tree_of, argument_of, initializer_of}
use Rattle.mdl_syntax.specs.Trees.{trees_of, arguments_of, initializers_of}
use Rattle.mdl_syntax.specs.Heights.{height, trees_height, arguments_height, initializers_height}
use Rattle.mdl_syntax.proofs.TreeLaws.{argument_by_parts, initializer_by_parts}
use Rattle.expression_grammar.specs.inside.Capped.{capped}
use Rattle.expression_grammar.proofs.LongerLaws.{arguments_higher, trees_higher, initializers_higher}

capped_max : (one other : ℕ) → max (capped one) (capped other) ≡ capped (max one other)
capped_max one other = omega arith

pub more_trees : (list : List Expr) (one : Expr) →
    max (capped (trees_height (trees_of (map tree_of list)))) (capped (height (tree_of one)))
    ≡ capped (trees_height (trees_of (map tree_of (list ++ one ∷ []))))
more_trees list one =
    capped_max (trees_height (trees_of (map tree_of list))) (height (tree_of one)) ∙ ap capped
    (sym (trees_higher (map tree_of list) (tree_of one)) ∙ ap
    (λ trees. trees_height (trees_of trees)) (sym (map-append tree_of list (one ∷ []))))

-- an argument, and an initializer, made of its parts
abbrev made_argument : Option Ident → Expr → Span → held.Argument
made_argument name value span = held.roll-Argument
    (record { name = name; value = value; span = span })

abbrev made_initializer : Option Freq → TypeTree → Ident → Expr → Span → held_init.LetInit
made_initializer freq ty name value span =
    held_init.roll-LetInit
    (record { freq = freq; ty = ty; name = name; value = value; span = span })

argument_made : (name : Option Ident) (value : Expr) (span : Span) →
    argument_of (made_argument name value span) ≡ (name, tree_of value, span)
argument_made name value span = argument_by_parts (made_argument name value span)

initializer_made : (freq : Option Freq) (ty : TypeTree) (name : Ident) (value : Expr)
    (span : Span) → initializer_of (made_initializer freq ty name value span)
    ≡ (freq, ty, name, tree_of value, span)
initializer_made freq ty name value span =
    initializer_by_parts (made_initializer freq ty name value span)

pub longer_argument_list : (list : List held.Argument) (name : Option Ident) (value : Expr)
    (span : Span) → map argument_of (list ++ made_argument name value span ∷ []) ≡ map argument_of
    list ++ (name, tree_of value, span) ∷ []
longer_argument_list list name value span =
    map-append argument_of list (made_argument name value span ∷ []) ∙ ap
    (λ last. map argument_of list ++ last ∷ []) (argument_made name value span)

pub longer_initializer_list : (list : List held_init.LetInit) (freq : Option Freq) (ty : TypeTree)
    (name : Ident) (value : Expr) (span : Span) →
    map initializer_of (list ++ made_initializer freq ty name value span ∷ []) ≡ map initializer_of
    list ++ (freq, ty, name, tree_of value, span) ∷ []
longer_initializer_list list freq ty name value span =
    map-append initializer_of list (made_initializer freq ty name value span ∷ []) ∙ ap
    (λ last. map initializer_of list ++ last ∷ []) (initializer_made freq ty name value span)

pub more_arguments : (list : List held.Argument) (name : Option Ident) (value : Expr)
    (span : Span) → max (capped (arguments_height (arguments_of (map argument_of list))))
    (capped (height (tree_of value))) ≡ capped
    (arguments_height (arguments_of (map argument_of (list ++ made_argument name value span ∷ []))))
more_arguments list name value span =
    capped_max (arguments_height (arguments_of (map argument_of list))) (height (tree_of value))
    ∙ ap capped (sym (arguments_higher (map argument_of list) name (tree_of value) span) ∙ ap
    (λ all. arguments_height (arguments_of all)) (sym (longer_argument_list list name value span)))

pub more_initializers : (list : List held_init.LetInit) (freq : Option Freq) (ty : TypeTree)
    (name : Ident) (value : Expr) (span : Span) →
    max (capped (initializers_height (initializers_of (map initializer_of list))))
    (capped (height (tree_of value))) ≡ capped
    (initializers_height
    (initializers_of (map initializer_of (list ++ made_initializer freq ty name value span ∷ []))))
more_initializers list freq ty name value span =
    capped_max (initializers_height (initializers_of (map initializer_of list)))
    (height (tree_of value)) ∙ ap capped (sym (initializers_higher (map initializer_of list) freq ty
    name (tree_of value) span) ∙ ap (λ all. initializers_height (initializers_of all))
    (sym (longer_initializer_list list freq ty name value span)))

-- A levelled tree is written form by form, with the places of any tokens that are its words.
use Rattle.std.proofs.Common.{◌≡◌, Bool, true, false, List, Some, None}
use Rattle.std.proofs.lemmas.Bool.{false≢true}
use Rattle.mdl_lexer.specs.declared.token.Token.{Token}
use Rattle.mdl_syntax.specs.Written.{write}
use Rattle.mdl_syntax.specs.Placed.{placed}
use Rattle.mdl_syntax.specs.Levelled.{Levelled, AreLevelled, AreLevelledArguments}
use Rattle.mdl_syntax.specs.Levelled.{AreLevelledInitializers}
use Rattle.mdl_syntax.specs.Levelled.{NoneDeferred, NoElementDeferred, NoArgumentDeferred}
use Rattle.mdl_syntax.specs.Levelled.{NoInitializerDeferred, in_order}
use Rattle.mdl_syntax.specs.Trees.{Tree, literal, named, parenthesized, unary, binary, conditional}
use Rattle.mdl_syntax.specs.Trees.{indexed}
use Rattle.mdl_syntax.specs.Trees.{field, call, array, binding, Trees, no_trees, tree_and}
use Rattle.mdl_syntax.specs.Trees.{Arguments}
use Rattle.mdl_syntax.specs.Trees.{no_arguments, argument_and, Initializers, no_initializers}
use Rattle.mdl_syntax.specs.Trees.{initializer_and}
use Rattle.expression_grammar.specs.Readings.{kinds}
use Rattle.expression_grammar.specs.inside.Wrote.{Wrote}
use Rattle.expression_grammar.proofs.FormWroteLaws.{WroteAll, literal_all, named_all, parenthesized_all}
use Rattle.expression_grammar.proofs.FormWroteLaws.{unary_all}
use Rattle.expression_grammar.proofs.FormWroteLaws.{binary_all, conditional_all, indexed_all, field_all}
use Rattle.expression_grammar.proofs.ListWroteLaws.{TreesAll, MoreTreesAll, ArgumentsAll, MoreArgumentsAll}
use Rattle.expression_grammar.proofs.ListWroteLaws.{trees_none, more_trees_none, trees_some}
use Rattle.expression_grammar.proofs.ListWroteLaws.{more_trees_some}
use Rattle.expression_grammar.proofs.ListWroteLaws.{arguments_none, more_arguments_none, arguments_some}
use Rattle.expression_grammar.proofs.ListWroteLaws.{more_arguments_some, plain_behind, labelled_behind}
use Rattle.expression_grammar.proofs.LetWroteLaws.{InitializersAll, first_behind, initializers_none}
use Rattle.expression_grammar.proofs.LetWroteLaws.{initializers_some}
use Rattle.expression_grammar.proofs.CallWroteLaws.{call_all, array_all, braced_all, plain_all}

mutual
  wrote_all : (strict : Bool) (tree : Tree) → Levelled tree → (strict ≡ true → NoneDeferred tree) →
      WroteAll strict tree
  wrote_all strict (literal own span) fits none = literal_all strict own span
  wrote_all strict (named name span) fits none = named_all strict name span fits
  wrote_all strict (parenthesized inner span) fits none =
      parenthesized_all strict inner span (wrote_all strict inner fits none)
  wrote_all strict (unary op operand span) fits none =
      unary_all strict op operand span fits.0 fits.1 (wrote_all strict operand fits.2 none)
  wrote_all strict (binary op left right span) fits none =
      binary_all strict op fits.0 left right span fits.1 fits.2 fits.3 (wrote_all strict left fits.4
      (λ is. (none is).0)) (wrote_all strict right fits.5 (λ is. (none is).1))
  wrote_all strict (conditional test one other span) fits none =
      conditional_all strict test one other span fits.0 fits.1 (wrote_all strict test fits.2
      (λ is. (none is).0)) (wrote_all strict one fits.3 (λ is. (none is).1))
      (wrote_all strict other fits.4 (λ is. (none is).2))
  wrote_all strict (indexed of at span) fits none =
      indexed_all strict of at span fits.0 (wrote_all strict of fits.1 (λ is. (none is).0))
      (wrote_all strict at fits.2 (λ is. (none is).1))
  wrote_all strict (field of name span) fits none =
      field_all strict of name span fits.0 (wrote_all strict of fits.1 none)
  wrote_all strict (call name arguments span) fits none =
      call_all strict name arguments span fits.0 (wrote_arguments strict arguments fits.1 fits.2
      none)
  wrote_all strict (array name own elements span) fits none =
      array_all strict name own elements span fits.0 (wrote_trees strict elements fits.1 none)
  wrote_all strict (binding braces no_initializers body span) fits none = absurd (false≢true fits.0)
  wrote_all strict (binding true (initializer_and frequency ty name value place others) body span)
      fits none =
      braced_all strict frequency ty name value place others body span
      (first_behind strict frequency ty name value place others fits.1.0 (λ is. (none is).0.0)
      (wrote_all strict value fits.1.1 (λ is. (none is).0.1))) (wrote_initializers strict others
      fits.1.2 (λ is. (none is).0.2)) (wrote_all strict body fits.2 (λ is. (none is).1))
  wrote_all strict (binding false (initializer_and frequency ty name value place no_initializers)
      body span)
      fits none =
      plain_all strict frequency ty name value place body span (first_behind strict frequency ty
      name value place no_initializers fits.1.0 (λ is. (none is).0.0)
      (wrote_all strict value fits.1.1 (λ is. (none is).0.1))) (wrote_all strict body fits.2
      (λ is. (none is).1))
  wrote_all strict (binding false (initializer_and frequency ty name value place
      (initializer_and f t n v s o))
      body span) fits none = absurd (false≢true fits.0)

  wrote_trees : (strict : Bool) (trees : Trees) → AreLevelled trees →
      (strict ≡ true → NoElementDeferred trees) → TreesAll strict trees
  wrote_trees strict no_trees fits none = trees_none strict
  wrote_trees strict (tree_and tree trees) fits none =
      trees_some strict tree trees (wrote_all strict tree fits.0 (λ is. (none is).0))
      (wrote_more_trees strict trees fits.1 (λ is. (none is).1))

  wrote_more_trees : (strict : Bool) (trees : Trees) → AreLevelled trees →
      (strict ≡ true → NoElementDeferred trees) → MoreTreesAll strict trees
  wrote_more_trees strict no_trees fits none = more_trees_none strict
  wrote_more_trees strict (tree_and tree trees) fits none =
      more_trees_some strict tree trees (wrote_all strict tree fits.0 (λ is. (none is).0))
      (wrote_more_trees strict trees fits.1 (λ is. (none is).1))

  wrote_arguments : (strict : Bool) (arguments : Arguments) → in_order false arguments ≡ true →
      AreLevelledArguments arguments → (strict ≡ true → NoArgumentDeferred arguments) →
      ArgumentsAll strict arguments
  wrote_arguments strict no_arguments ordered fits none = arguments_none strict
  wrote_arguments strict (argument_and None value span arguments) ordered fits none =
      arguments_some strict None value span arguments (plain_behind strict value span arguments
      (wrote_all strict value fits.0 (λ is. (none is).0)) (wrote_more_arguments strict false
      arguments ordered fits.1 (λ is. (none is).1)))
  wrote_arguments strict (argument_and (Some name) value span arguments) ordered fits none =
      arguments_some strict (Some name) value span arguments (labelled_behind strict false name
      value span arguments (wrote_all strict value fits.0 (λ is. (none is).0))
      (wrote_more_arguments strict true arguments ordered fits.1 (λ is. (none is).1)))

  wrote_more_arguments : (strict before : Bool) (arguments : Arguments) →
      in_order before arguments ≡ true → AreLevelledArguments arguments →
      (strict ≡ true → NoArgumentDeferred arguments) → MoreArgumentsAll strict before arguments
  wrote_more_arguments strict before no_arguments ordered fits none = more_arguments_none strict
      before
  wrote_more_arguments strict before (argument_and (Some name) value span arguments) ordered fits
      none =
      more_arguments_some strict before (Some name) value span arguments
      (labelled_behind strict before name value span arguments
      (wrote_all strict value fits.0 (λ is. (none is).0)) (wrote_more_arguments strict true
      arguments ordered fits.1 (λ is. (none is).1)))
  wrote_more_arguments strict true (argument_and None value span others) ordered fits none =
      absurd (false≢true ordered)
  wrote_more_arguments strict false (argument_and None value span arguments) ordered fits none =
      more_arguments_some strict false None value span arguments (plain_behind strict value span
      arguments (wrote_all strict value fits.0 (λ is. (none is).0))
      (wrote_more_arguments strict false arguments ordered fits.1 (λ is. (none is).1)))

  wrote_initializers : (strict : Bool) (own : Initializers) → AreLevelledInitializers own →
      (strict ≡ true → NoInitializerDeferred own) → InitializersAll strict own
  wrote_initializers strict no_initializers fits none = initializers_none strict
  wrote_initializers strict (initializer_and frequency ty name value place others) fits none =
      initializers_some strict frequency ty name value place others
      (first_behind strict frequency ty name value place others fits.0 (λ is. (none is).0)
      (wrote_all strict value fits.1 (λ is. (none is).1))) (wrote_initializers strict others fits.2
      (λ is. (none is).2))

pub wrote : (strict : Bool) (tree : Tree) (tokens : List Token) → Levelled tree →
    (strict ≡ true → NoneDeferred tree) → write tree ≡ kinds tokens →
    Wrote strict (placed tree tokens) tokens
wrote strict tree tokens fits none is = wrote_all strict tree fits none tokens is

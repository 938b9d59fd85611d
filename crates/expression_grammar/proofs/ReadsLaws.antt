-- The machine reads what is written, as the tree that it is written for.
use Rattle.std.proofs.Common.{arith, ℕ, ◌≤◌, Bool, false, List, []}
use Rattle.mdl_lexer.specs.declared.token.Token.{Token}
use Rattle.mdl_syntax.specs.Heights.{height}
use Rattle.mdl_syntax.specs.Trees.{Tree, Argument, Initializer}
use Rattle.expression_grammar.specs.inside.Machine.{wanted}
use Rattle.expression_grammar.specs.inside.Leads.{Ends}
use Rattle.expression_grammar.specs.inside.Wrote.{Wrote, a_literal, a_name, a_parenthesized, a_unary}
use Rattle.expression_grammar.specs.inside.Wrote.{a_binary, a_conditional, an_indexed, a_field, a_call}
use Rattle.expression_grammar.specs.inside.Wrote.{an_array, a_plain_let, a_braced_let, ArgumentWrote}
use Rattle.expression_grammar.specs.inside.Wrote.{plain, labelled, MoreArgumentsWrote, no_more_arguments}
use Rattle.expression_grammar.specs.inside.Wrote.{one_more_argument, ArgumentsWrote, no_arguments}
use Rattle.expression_grammar.specs.inside.Wrote.{some_arguments, MoreTreesWrote, no_more_trees}
use Rattle.expression_grammar.specs.inside.Wrote.{one_more_tree, TreesWrote, no_trees, some_trees}
use Rattle.expression_grammar.specs.inside.Wrote.{InitializerWrote, with_frequency, without_frequency}
use Rattle.expression_grammar.specs.inside.Wrote.{InitializersWrote, no_initializers, one_more_initializer}
use Rattle.expression_grammar.proofs.ReadsEdges.{from_wanted}
use Rattle.expression_grammar.proofs.ReadsNames.{Law, literal_law, named_law}
use Rattle.expression_grammar.proofs.ReadsForms.{parenthesized_law, unary_law, binary_law, conditional_law}
use Rattle.expression_grammar.proofs.ReadsForms.{indexed_law, field_law}
use Rattle.expression_grammar.proofs.ReadsCalls.{ArgumentLaw, MoreArgumentsLaw, ArgumentsLaw}
use Rattle.expression_grammar.proofs.ReadsCalls.{plain_argument, labelled_argument, no_more_law}
use Rattle.expression_grammar.proofs.ReadsCalls.{one_more_law, no_arguments_law, some_arguments_law}
use Rattle.expression_grammar.proofs.ReadsCalls.{call_law}
use Rattle.expression_grammar.proofs.ReadsArrays.{MoreTreesLaw, TreesLaw, no_more_trees_law}
use Rattle.expression_grammar.proofs.ReadsArrays.{one_more_tree_law, no_trees_law, some_trees_law}
use Rattle.expression_grammar.proofs.ReadsArrays.{array_law}
use Rattle.expression_grammar.proofs.ReadsLets.{InitializerLaw, InitializersLaw, with_frequency_law}
use Rattle.expression_grammar.proofs.ReadsLets.{without_frequency_law, no_initializers_law}
use Rattle.expression_grammar.proofs.ReadsLets.{one_more_initializer_law, plain_let_law, braced_let_law}

mutual
  tree_law : (strict : Bool) (limit : ℕ) (tree : Tree) (tokens : List Token) →
      Wrote strict tree tokens → Law strict limit tree tokens
  tree_law strict limit tree tokens (a_literal token own is) = literal_law strict limit token own is
  tree_law strict limit tree tokens (a_name name _ wrote) = named_law strict limit name tokens wrote
  tree_law strict limit tree tokens (a_parenthesized start close inner inners is_start wrote
      is_close) =
      parenthesized_law strict limit start close inner inners is_start is_close
      (tree_law strict limit inner inners wrote)
  tree_law strict limit tree tokens (a_unary op number operand operands is is_op high wrote) =
      unary_law strict limit op number operand operands is is_op high
      (tree_law strict limit operand operands wrote)
  tree_law strict limit tree tokens (a_binary op number own left right lefts rights is is_op
      left_high right_high left_wrote right_wrote) =
      binary_law strict limit op number own left right lefts rights is is_op left_high right_high
      (tree_law strict limit left lefts left_wrote) (tree_law strict limit right rights right_wrote)
  tree_law strict limit tree tokens (a_conditional mark other_mark test one other tests ones others
      is_mark is_other test_high other_high test_wrote one_wrote other_wrote) =
      conditional_law strict limit mark other_mark test one other tests ones others is_mark is_other
      test_high other_high (tree_law strict limit test tests test_wrote)
      (tree_law strict limit one ones one_wrote) (tree_law strict limit other others other_wrote)
  tree_law strict limit tree tokens (an_indexed start close of at ofs ats is_start is_close high
      of_wrote at_wrote) =
      indexed_law strict limit start close of at ofs ats is_start is_close high
      (tree_law strict limit of ofs of_wrote) (tree_law strict limit at ats at_wrote)
  tree_law strict limit tree tokens (a_field mark word text of ofs is_mark is high wrote) =
      field_law strict limit mark word text of ofs is_mark is high
      (tree_law strict limit of ofs wrote)
  tree_law strict limit tree tokens (a_call start close name arguments names inners wrote is_start
      inner is_close) =
      call_law strict limit start close name arguments names inners wrote is_start
      (arguments_law strict limit arguments inners inner) is_close
  tree_law strict limit tree tokens (an_array bracket end_bracket start close name own elements
      names sizes inners wrote is_bracket is is_end is_start inner is_close) =
      array_law strict limit bracket end_bracket start close name own elements names sizes inners
      wrote is_bracket is is_end is_start (trees_law strict limit elements inners inner) is_close
  tree_law strict limit tree tokens
      (a_plain_let word in_token initializer body inners bodies is inner is_in wrote) =
      plain_let_law strict limit word in_token initializer body inners bodies is
      (initializer_law strict limit initializer inners inner) is_in
      (tree_law strict limit body bodies wrote)
  tree_law strict limit tree tokens (a_braced_let word brace close in_token first more body firsts
      others bodies is is_brace first_wrote more_wrote is_close is_in wrote) =
      braced_let_law strict limit word brace close in_token first more body firsts others bodies is
      is_brace (initializer_law strict limit first firsts first_wrote)
      (initializers_law strict limit more others more_wrote) is_close is_in
      (tree_law strict limit body bodies wrote)

  argument_law : (strict : Bool) (limit : ℕ) (before with_it : Bool) (first : Argument)
      (tokens : List Token) → ArgumentWrote strict before with_it first tokens →
      ArgumentLaw strict limit before with_it first tokens
  argument_law strict limit before with_it first tokens (plain value _ wrote) =
      plain_argument strict limit value tokens (tree_law strict limit value tokens wrote)
  argument_law strict limit before with_it first tokens (labelled _ word mark text value inners is
      is_mark wrote) =
      labelled_argument strict limit before word mark text value inners is is_mark
      (tree_law strict limit value inners wrote)

  more_arguments_law : (strict : Bool) (limit : ℕ) (before : Bool) (more : List Argument)
      (tokens : List Token) → MoreArgumentsWrote strict before more tokens →
      MoreArgumentsLaw strict limit before more tokens
  more_arguments_law strict limit before more tokens (no_more_arguments _) = no_more_law
      strict limit before
  more_arguments_law strict limit before more tokens
      (one_more_argument _ with_it mark first rest firsts others is first_wrote more_wrote) =
      one_more_law strict limit before with_it mark first rest firsts others is
      (argument_law strict limit before with_it first firsts first_wrote)
      (more_arguments_law strict limit with_it rest others more_wrote)

  pub arguments_law : (strict : Bool) (limit : ℕ) (arguments : List Argument)
      (tokens : List Token) → ArgumentsWrote strict arguments tokens →
      ArgumentsLaw strict limit arguments tokens
  arguments_law strict limit arguments tokens no_arguments = no_arguments_law strict limit
  arguments_law strict limit arguments tokens
      (some_arguments with_it first more firsts others first_wrote more_wrote) =
      some_arguments_law strict limit with_it first more firsts others
      (argument_law strict limit false with_it first firsts first_wrote)
      (more_arguments_law strict limit with_it more others more_wrote)

  more_trees_law : (strict : Bool) (limit : ℕ) (more : List Tree) (tokens : List Token) →
      MoreTreesWrote strict more tokens → MoreTreesLaw strict limit more tokens
  more_trees_law strict limit more tokens no_more_trees = no_more_trees_law strict limit
  more_trees_law strict limit more tokens (one_more_tree mark first rest firsts others is
      first_wrote more_wrote) =
      one_more_tree_law strict limit mark first rest firsts others is
      (tree_law strict limit first firsts first_wrote) (more_trees_law strict limit rest others
      more_wrote)

  trees_law : (strict : Bool) (limit : ℕ) (elements : List Tree) (tokens : List Token) →
      TreesWrote strict elements tokens → TreesLaw strict limit elements tokens
  trees_law strict limit elements tokens no_trees = no_trees_law strict limit
  trees_law strict limit elements tokens (some_trees first more firsts others first_wrote
      more_wrote) =
      some_trees_law strict limit first more firsts others (tree_law strict limit first firsts
      first_wrote) (more_trees_law strict limit more others more_wrote)

  initializer_law : (strict : Bool) (limit : ℕ) (first : Initializer) (tokens : List Token) →
      InitializerWrote strict first tokens → InitializerLaw strict limit first tokens
  initializer_law strict limit first tokens (with_frequency front word mark end frequency ty text
      value types inners is_front wrote is is_mark value_wrote is_end) =
      with_frequency_law strict limit front word mark end frequency ty text value types inners
      is_front wrote is is_mark (tree_law strict limit value inners value_wrote) is_end
  initializer_law strict limit first tokens (without_frequency word mark end ty text value types
      inners wrote is is_mark value_wrote is_end) =
      without_frequency_law strict limit word mark end ty text value types inners wrote is is_mark
      (tree_law strict limit value inners value_wrote) is_end

  initializers_law : (strict : Bool) (limit : ℕ) (more : List Initializer)
      (tokens : List Token) → InitializersWrote strict more tokens →
      InitializersLaw strict limit more tokens
  initializers_law strict limit more tokens no_initializers = no_initializers_law strict limit
  initializers_law strict limit more tokens (one_more_initializer first rest firsts others
      first_wrote more_wrote) =
      one_more_initializer_law strict limit first rest firsts others
      (initializer_law strict limit first firsts first_wrote) (initializers_law strict limit rest
      others more_wrote)

-- what is written for a tree that is low enough leads from the start to the whole tree
pub reads_wrote : (strict : Bool) (limit : ℕ) (tree : Tree) (tokens : List Token) →
    Wrote strict tree tokens → height tree ≤ limit → Ends strict limit wanted [] tokens tree
reads_wrote strict limit tree tokens wrote low =
    let read = tree_law strict limit tree tokens wrote wanted [] [] (from_wanted []) (omega arith)
    (omega (arith, low)) in
    record {
      last = read.last;
      last_frames = read.last_frames;
      leads = read.leads;
      ends = read.edge.ends;
    }

-- Elements and arguments are written one by one.
use Rattle.std.proofs.Common.{◌≡◌, ◌∙◌, sym, ap, subst, refl, arith, suc, ◌+◌, Bool, true, false}
use Rattle.std.proofs.Common.{List, []}
use Rattle.std.proofs.Common.{◌∷◌, ◌++◌, length, drop, codes, Option, Some, None}
use Rattle.std.proofs.lemmas.List.{append_assoc}
use Rattle.mdl_lexer.specs.Kinds.{mark_word}
use Rattle.mdl_lexer.specs.declared.token.Token.{Token}
use Rattle.mdl_syntax.specs.declared.names.Span.{Span}
use Rattle.mdl_syntax.specs.declared.names.Ident.{Ident}
use Rattle.mdl_syntax.specs.Words.{ident_word}
use Rattle.mdl_syntax.specs.Written.{label_words, write, write_trees, write_more_trees}
use Rattle.mdl_syntax.specs.Written.{write_arguments}
use Rattle.mdl_syntax.specs.Written.{write_more_arguments}
use Rattle.mdl_syntax.specs.Placed.{last_end, place_of, tokens_of, placed, placed_trees}
use Rattle.mdl_syntax.specs.Placed.{placed_arguments}
use Rattle.mdl_syntax.specs.Trees.{Tree, Trees, no_trees, tree_and, Arguments, no_arguments}
use Rattle.mdl_syntax.specs.Trees.{argument_and}
use Rattle.mdl_syntax.specs.Trees.{Argument, trees_of, arguments_of}
use Rattle.expression_grammar.specs.inside.Machine.{span_of, from_to, ident_at, argument}
use Rattle.expression_grammar.specs.Readings.{kinds}
use Rattle.expression_grammar.specs.inside.Sound.{place}
use Rattle.expression_grammar.specs.inside.Wrote.{ArgumentWrote, plain, labelled, MoreArgumentsWrote}
use Rattle.expression_grammar.specs.inside.Wrote.{no_more_arguments, one_more_argument, ArgumentsWrote}
use Rattle.expression_grammar.specs.inside.Wrote.{some_arguments, MoreTreesWrote, no_more_trees}
use Rattle.expression_grammar.specs.inside.Wrote.{one_more_tree}
use Rattle.expression_grammar.specs.inside.Wrote.{TreesWrote, some_trees, no_trees as wrote_no_trees}
use Rattle.expression_grammar.specs.inside.Wrote.{no_arguments as wrote_no_arguments}
use Rattle.expression_grammar.proofs.CutLaws.{NoTokens, no_tokens, none, First, first, cut_first, Halves}
use Rattle.expression_grammar.proofs.CutLaws.{halves, cut}
use Rattle.expression_grammar.proofs.FormWroteLaws.{WroteAll, all_some}
use Rattle.expression_grammar.proofs.KindLaws.{front_of, behind_front, end_placed, span_placed}

-- The lists.

abbrev pub tree_list : Trees → List Tree
tree_list no_trees = []
tree_list (tree_and tree trees) = tree ∷ tree_list trees

pub trees_same : (trees : Trees) → trees_of (tree_list trees) ≡ trees
trees_same no_trees = refl
trees_same (tree_and tree trees) = ap (tree_and tree) (trees_same trees)

abbrev pub argument_list : Arguments → List Argument
argument_list no_arguments = []
argument_list (argument_and name value span arguments) = (name, value, span) ∷ argument_list
    arguments

pub arguments_same : (arguments : Arguments) → arguments_of (argument_list arguments) ≡ arguments
arguments_same no_arguments = refl
arguments_same (argument_and name value span arguments) =
    ap (argument_and name value span) (arguments_same arguments)

-- Elements, whatever is behind them.

abbrev pub TreesAll : Bool → Trees → Type 0
TreesAll strict trees = (tokens rest : List Token) → write_trees trees ≡ kinds tokens →
    TreesWrote strict (tree_list (placed_trees trees (tokens ++ rest))) tokens

abbrev pub MoreTreesAll : Bool → Trees → Type 0
MoreTreesAll strict trees = (tokens rest : List Token) → write_more_trees trees ≡ kinds tokens →
    MoreTreesWrote strict (tree_list (placed_trees trees (drop 1 (tokens ++ rest)))) tokens

trees_front : (tree : Tree) (trees : Trees) (one other rest : List Token) → write tree ≡ kinds one →
    tree_list (placed_trees (tree_and tree trees) ((one ++ other) ++ rest)) ≡ placed tree one
    ∷ tree_list (placed_trees trees (drop 1 (other ++ rest)))
trees_front tree trees one other rest is =
    ap (λ own. tree_list (placed_trees (tree_and tree trees) own)) (append_assoc one other rest)
    ∙ (λ i. placed tree (front_of (write tree) one (other ++ rest) is i) ∷ tree_list
    (placed_trees trees (behind_front (write tree) 1 one (other ++ rest) is i)))

pub trees_none : (strict : Bool) → TreesAll strict no_trees
trees_none strict tokens rest is = by tokens (none is)
  where
    by : (tokens : List Token) → NoTokens tokens → TreesWrote strict [] tokens
    by tokens no_tokens = wrote_no_trees

pub more_trees_none : (strict : Bool) → MoreTreesAll strict no_trees
more_trees_none strict tokens rest is = by tokens (none is)
  where
    by : (tokens : List Token) → NoTokens tokens → MoreTreesWrote strict [] tokens
    by tokens no_tokens = no_more_trees

pub trees_some : (strict : Bool) (tree : Tree) (trees : Trees) → WroteAll strict tree →
    MoreTreesAll strict trees → TreesAll strict (tree_and tree trees)
trees_some strict tree trees all more tokens rest is =
    by tokens (cut is)
  where
    by : (tokens : List Token) → Halves (write tree) (write_more_trees trees) tokens →
        TreesWrote strict (tree_list (placed_trees (tree_and tree trees) (tokens ++ rest))) tokens
    by tokens (halves one other front back) =
        subst (λ list. TreesWrote strict list (one ++ other))
        (sym (trees_front tree trees one other rest front)) (some_trees (placed tree one)
        (tree_list (placed_trees trees (drop 1 (other ++ rest)))) one other (all one front)
        (more other rest back))

pub more_trees_some : (strict : Bool) (tree : Tree) (trees : Trees) → WroteAll strict tree →
    MoreTreesAll strict trees → MoreTreesAll strict (tree_and tree trees)
more_trees_some strict tree trees all more tokens rest is =
    by tokens (cut_first is)
  where
    inner : (comma : Token) (others : List Token) → comma.kind ≡ mark_word (codes ",") →
        Halves (write tree) (write_more_trees trees) others →
        MoreTreesWrote strict (tree_list (placed_trees (tree_and tree trees) (others ++ rest)))
        (comma ∷ others)
    inner comma others divides (halves one other front back) =
        subst (λ list. MoreTreesWrote strict list (comma ∷ (one ++ other)))
        (sym (trees_front tree trees one other rest front)) (one_more_tree comma (placed tree one)
        (tree_list (placed_trees trees (drop 1 (other ++ rest)))) one
        other (record { is = divides }) (all one front) (more other rest back))

    by : (tokens : List Token) →
        First (mark_word (codes ",")) (write tree ++ write_more_trees trees) tokens →
        MoreTreesWrote strict
        (tree_list (placed_trees (tree_and tree trees) (drop 1 (tokens ++ rest)))) tokens
    by tokens (first comma others divides others_are) =
        inner comma others divides (cut others_are)

-- Arguments, whatever is behind them.

abbrev pub ArgumentsAll : Bool → Arguments → Type 0
ArgumentsAll strict arguments = (tokens rest : List Token) →
    write_arguments arguments ≡ kinds tokens →
    ArgumentsWrote strict (argument_list (placed_arguments arguments (tokens ++ rest))) tokens

abbrev pub MoreArgumentsAll : Bool → Bool → Arguments → Type 0
MoreArgumentsAll strict before arguments =
    (tokens rest : List Token) → write_more_arguments arguments ≡ kinds tokens →
    MoreArgumentsWrote strict before
    (argument_list (placed_arguments arguments (drop 1 (tokens ++ rest)))) tokens

-- an argument, and others behind it
pub data Behind (strict before : Bool) (list : List Argument) : List Token → Type 0 where
  behind_one : (with_it : Bool) (own : Argument) (more : List Argument) (one other : List Token) →
      list ≡ own ∷ more → ArgumentWrote strict before with_it own one →
      MoreArgumentsWrote strict with_it more other → Behind strict before list (one ++ other)

alone : (strict : Bool) (list : List Argument) (tokens : List Token) →
    Behind strict false list tokens → ArgumentsWrote strict list tokens
alone strict list tokens (behind_one with_it own more one other is wrote others) =
    subst (λ all. ArgumentsWrote strict all (one ++ other)) (sym is)
    (some_arguments with_it own more one other wrote others)

with_comma : (strict before : Bool) (list : List Argument) (comma : Token) (tokens : List Token) →
    comma.kind ≡ mark_word (codes ",") → Behind strict before list tokens →
    MoreArgumentsWrote strict before list (comma ∷ tokens)
with_comma strict before list comma tokens divides (behind_one with_it own more one other is wrote
    others) =
    subst (λ all. MoreArgumentsWrote strict before all (comma ∷ (one ++ other))) (sym is)
    (one_more_argument before with_it comma own more one other (record { is = divides }) wrote
    others)

-- what an argument's words and the others' stand for
abbrev ArgumentBehind : Bool → Bool → Option Ident → Tree → Span → Arguments → Type 0
ArgumentBehind strict before name value span arguments = (tokens rest : List Token) →
    label_words name ++ (write value ++ write_more_arguments arguments) ≡ kinds tokens →
    Behind strict before (argument_list (placed_arguments (argument_and name value span arguments)
    (tokens ++ rest))) tokens

pub plain_behind : (strict : Bool) (value : Tree) (span : Span) (arguments : Arguments) →
    WroteAll strict value → MoreArgumentsAll strict false arguments →
    ArgumentBehind strict false None value span arguments
plain_behind strict value span arguments all more tokens rest is =
    by tokens (cut is)
  where
    by : (tokens : List Token) → Halves (write value) (write_more_arguments arguments) tokens →
        Behind strict false
        (argument_list (placed_arguments (argument_and None value span arguments) (tokens ++ rest)))
        tokens
    by tokens (halves one other front back) =
        behind_one false (argument None (placed value one))
        (argument_list (placed_arguments arguments (drop 1 (other ++ rest)))) one other
        (ap (λ own. argument_list (placed_arguments (argument_and None value span arguments) own))
        (append_assoc one other rest) ∙ (λ i. (None, placed value (own i), own_span i)
        ∷ argument_list (placed_arguments arguments (behind_front (write value) 1 one
        (other ++ rest) front i)))) (plain (placed value one) one (all one front))
        (more other rest back)
      where
        own : tokens_of (write value) (one ++ (other ++ rest)) ≡ one
        own = front_of (write value) one (other ++ rest) front

        own_span : place_of (tokens_of (write value) (one ++ (other ++ rest))) ≡ span_of
            (placed value one)
        own_span = ap place_of own ∙ sym (span_placed value one)

pub labelled_behind : (strict before : Bool) (name : Ident) (value : Tree) (span : Span)
    (arguments : Arguments) → WroteAll strict value → MoreArgumentsAll strict true arguments →
    ArgumentBehind strict before (Some name) value span arguments
labelled_behind strict before name value span arguments all more tokens rest is =
    by tokens (cut_first is)
  where
    values : (word colon : Token) (tokens : List Token) → word.kind ≡ ident_word name →
        colon.kind ≡ mark_word (codes ":") → Halves (write value) (write_more_arguments arguments)
        tokens →
        Behind strict before
        (argument_list (placed_arguments (argument_and (Some name) value span arguments)
        ((word ∷ colon ∷ tokens) ++ rest))) (word ∷ colon ∷ tokens)
    values word colon tokens word_is divides (halves one other front back) =
        behind_one true (argument (Some (ident_at name.text (place word))) (placed value one))
        (argument_list (placed_arguments arguments (drop 1 (other ++ rest)))) (word ∷ colon ∷ one)
        other
        (ap (λ own. argument_list (placed_arguments (argument_and (Some name) value span arguments)
        (word ∷ colon ∷ own))) (append_assoc one other rest)
        ∙ (λ i.
        (Some (ident_at name.text (place word)), placed value (own i), from_to word.at (own_end i))
        ∷ argument_list (placed_arguments arguments (behind_it i))))
        (labelled before word colon name.text (placed value one) one word_is
        (record { is = divides })
        (all one front)) (more other rest back)
      where
        own : tokens_of (write value) (one ++ (other ++ rest)) ≡ one
        own = front_of (write value) one (other ++ rest) front

        own_end : last_end colon.end (tokens_of (write value) (one ++ (other ++ rest)))
            ≡ (span_of (placed value one)).end
        own_end = ap (last_end colon.end) own
            ∙ end_placed colon.end value one (all_some strict value all one front)

        two_more : suc (suc (length (write value))) + 1 ≡ suc (suc (length (write value) + 1))
        two_more = omega (arith)

        behind_it : drop (suc (suc (length (write value))) + 1)
            (word ∷ colon ∷ (one ++ (other ++ rest))) ≡ drop 1 (other ++ rest)
        behind_it = ap (λ n. drop n (word ∷ colon ∷ (one ++ (other ++ rest)))) two_more
            ∙ behind_front (write value) 1 one (other ++ rest) front

    inner : (word : Token) (tokens : List Token) → word.kind ≡ ident_word name →
        First (mark_word (codes ":")) (write value ++ write_more_arguments arguments) tokens →
        Behind strict before
        (argument_list (placed_arguments (argument_and (Some name) value span arguments)
        ((word ∷ tokens) ++ rest))) (word ∷ tokens)
    inner word tokens word_is (first colon others divides others_are) =
        values word colon others word_is divides (cut others_are)

    by : (tokens : List Token) →
        First (ident_word name) (mark_word (codes ":") ∷ (write value ++ write_more_arguments
        arguments)) tokens →
        Behind strict before
        (argument_list (placed_arguments (argument_and (Some name) value span arguments)
        (tokens ++ rest))) tokens
    by tokens (first word others word_is others_are) =
        inner word others word_is (cut_first others_are)

pub arguments_none : (strict : Bool) → ArgumentsAll strict no_arguments
arguments_none strict tokens rest is = by tokens (none is)
  where
    by : (tokens : List Token) → NoTokens tokens → ArgumentsWrote strict [] tokens
    by tokens no_tokens = wrote_no_arguments

pub more_arguments_none : (strict before : Bool) → MoreArgumentsAll strict before no_arguments
more_arguments_none strict before tokens rest is = by tokens (none is)
  where
    by : (tokens : List Token) → NoTokens tokens → MoreArgumentsWrote strict before [] tokens
    by tokens no_tokens = no_more_arguments before

pub arguments_some : (strict : Bool) (name : Option Ident) (value : Tree) (span : Span)
    (arguments : Arguments) → ArgumentBehind strict false name value span arguments →
    ArgumentsAll strict (argument_and name value span arguments)
arguments_some strict name value span arguments all tokens rest is =
    alone strict (argument_list (placed_arguments (argument_and name value span arguments)
    (tokens ++ rest))) tokens (all tokens rest is)

pub more_arguments_some : (strict before : Bool) (name : Option Ident) (value : Tree) (span : Span)
    (arguments : Arguments) → ArgumentBehind strict before name value span arguments →
    MoreArgumentsAll strict before (argument_and name value span arguments)
more_arguments_some strict before name value span arguments all tokens rest is =
    by tokens (cut_first is)
  where
    by : (tokens : List Token) → First (mark_word (codes ","))
        (label_words name ++ (write value ++ write_more_arguments arguments)) tokens →
        MoreArgumentsWrote strict before
        (argument_list (placed_arguments (argument_and name value span arguments)
        (drop 1 (tokens ++ rest)))) tokens
    by tokens (first comma others divides others_are) =
        with_comma strict before
        (argument_list (placed_arguments (argument_and name value span arguments) (others ++ rest)))
        comma others divides (all others rest others_are)

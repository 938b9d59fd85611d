-- Lists of arguments, elements and initializers, which grow at their end, stand for their tokens.
use Rattle.std.proofs.Common.{◌≡◌, ◌≤◌, ◌∙◌, ◌+◌, sym, ap, refl, arith, ℕ, suc}
use Rattle.std.proofs.Common.{true, false, List, [], ◌∷◌, ◌++◌, length, take, drop}
use Rattle.std.proofs.Common.{Option, Some, None, codes}
use Rattle.std.proofs.lemmas.List.{append-nil, append_assoc, length-append}
use Rattle.std.proofs.lemmas.List.{take-append-le, drop-append-le, length-drop, take_all}
use Rattle.std.proofs.Math.Seq.{drop-append-add}
use Rattle.mdl_lexer.specs.Kinds.{mark_word, name_word}
use Rattle.mdl_lexer.specs.declared.token.Kind.{Kind}
use Rattle.mdl_lexer.specs.declared.token.Kind.TheVariants as kind
use Rattle.mdl_lexer.specs.declared.token.Token.{Token}
use Rattle.mdl_syntax.specs.declared.names.Span.{Span}
use Rattle.mdl_syntax.specs.declared.names.Ident.{Ident}
use Rattle.mdl_syntax.specs.declared.names.Name.{Name}
use Rattle.mdl_syntax.specs.declared.types.TypeTree.{TypeTree}
use Rattle.mdl_syntax.specs.declared.types.Freq.{Freq}
use Rattle.mdl_syntax.specs.Words.{ident_word, name_words}
use Rattle.mdl_syntax.specs.Words.{type_words, frequency_words}
use Rattle.mdl_syntax.specs.Written.{number_words, label_words, write, write_trees}
use Rattle.mdl_syntax.specs.Written.{write_more_trees}
use Rattle.mdl_syntax.specs.Written.{write_arguments, write_more_arguments, write_initializers}
use Rattle.mdl_syntax.specs.Placed.{place_of, tokens_of, behind, placed_ident}
use Rattle.mdl_syntax.specs.Placed.{placed_type, placed_label, placed, placed_trees}
use Rattle.mdl_syntax.specs.Placed.{placed_arguments}
use Rattle.mdl_syntax.specs.Placed.{placed_initializers}
use Rattle.mdl_syntax.specs.Trees.{Tree}
use Rattle.mdl_syntax.specs.Trees.{call, array, binding, Trees, no_trees, tree_and}
use Rattle.mdl_syntax.specs.Trees.{Arguments, no_arguments, argument_and, Initializers}
use Rattle.mdl_syntax.specs.Trees.{no_initializers}
use Rattle.mdl_syntax.specs.Trees.{initializer_and, Argument, Initializer}
use Rattle.mdl_syntax.specs.Trees.{arguments_of, trees_of, initializers_of}
use Rattle.expression_grammar.specs.inside.Machine.{span_of, from_to, ident_at, argument_at, argument}
use Rattle.expression_grammar.specs.Readings.{kinds}
use Rattle.expression_grammar.specs.inside.Stands.{Stands, NameStands, TypeStands, LabelStands}
use Rattle.expression_grammar.specs.inside.Stands.{ArgumentsStand, TreesStand, InitializersStand}
use Rattle.expression_grammar.proofs.KindLaws.{not_empty, append_some, kinds_append, length_kinds}
use Rattle.expression_grammar.proofs.KindLaws.{front_of, all_of, behind_long, behind_front, later_front}
use Rattle.expression_grammar.proofs.KindLaws.{length_three, assoc_three, last_end_append, span_stands}
use Rattle.expression_grammar.proofs.KindLaws.{end_stands, place_from_name, name_kept}
use Rattle.expression_grammar.proofs.TypeFrontLaws.{type_front}

pub no_arguments_stand : ArgumentsStand [] []
no_arguments_stand = record { writes = refl; places = refl }

pub no_trees_stand : TreesStand [] []
no_trees_stand = record { writes = refl; places = refl }

pub no_initializers_stand : InitializersStand [] []
no_initializers_stand = record { writes = refl; places = refl }

label_front : (label : Option Ident) (tokens rest : List Token) →
    length (label_words label) ≤ length tokens → placed_label label (tokens ++ rest) ≡ placed_label
    label tokens
label_front None tokens rest fits = refl
label_front (Some name) [] rest fits = absurd (omega (arith, fits))
label_front (Some name) (token ∷ tokens) rest fits = refl

-- Arguments.

abbrev join_arguments : Arguments → Arguments → Arguments
join_arguments no_arguments back = back
join_arguments (argument_and name value span front) back =
    argument_and name value span (join_arguments front back)

arguments_joined : (front : List Argument) (last : Argument) →
    arguments_of (front ++ last ∷ []) ≡ join_arguments (arguments_of front)
    (arguments_of (last ∷ []))
arguments_joined [] last = refl
arguments_joined ((name, value, span) ∷ front) last =
    ap (argument_and name value span) (arguments_joined front last)

more_arguments_joined : (front back : Arguments) →
    write_more_arguments (join_arguments front back) ≡ write_more_arguments front
    ++ write_more_arguments back
more_arguments_joined no_arguments back = refl
more_arguments_joined (argument_and name value span front) back =
    ap (λ m. mark_word (codes ",") ∷ (label_words name ++ (write value ++ m)))
    (more_arguments_joined front back) ∙ ap (λ words. mark_word (codes ",") ∷ words)
    (assoc_three (label_words name) (write value) (write_more_arguments front)
    (write_more_arguments back))

argument_words_joined : (name : Option Ident) (value : Tree) (span : Span)
    (front back : Arguments) →
    write_arguments (argument_and name value span (join_arguments front back)) ≡ write_arguments
    (argument_and name value span front) ++ write_more_arguments back
argument_words_joined name value span front back =
    ap (λ m. label_words name ++ (write value ++ m)) (more_arguments_joined front back)
    ∙ assoc_three (label_words name) (write value) (write_more_arguments front)
    (write_more_arguments back)

-- one argument's parts at the front, with what follows
argument_front : (name : Option Ident) (value : Tree) (tokens rest : List Token)
    (after before : Arguments) → length (label_words name) + length (write value) ≤ length tokens →
    after ≡ before → argument_and (placed_label name (tokens ++ rest))
    (placed value (tokens_of (write value) (behind (label_words name) 0 (tokens ++ rest))))
    (place_of (tokens_of (label_words name ++ write value) (tokens ++ rest))) after ≡ argument_and
    (placed_label name tokens)
    (placed value (tokens_of (write value) (behind (label_words name) 0 tokens)))
    (place_of (tokens_of (label_words name ++ write value) tokens)) before
argument_front name value tokens rest after before fits is = λ i. argument_and
    (label_front name tokens rest (omega (arith, fits)) i)
    (placed value (later_front (length (label_words name) + 0) (write value) tokens rest
    (omega (arith, fits)) i)) (place_of (take-append-le (length (label_words name ++ write value))
    tokens rest (omega (arith, fits, length-append (label_words name) (write value))) i)) (is i)

arguments_grow : (name : Option Ident) (value : Tree) (span : Span) (front back : Arguments)
    (tokens : List Token) (comma : Token) (rest : List Token) →
    length (write_arguments (argument_and name value span front)) ≡ length tokens →
    placed_arguments (argument_and name value span (join_arguments front back))
    (tokens ++ comma ∷ rest) ≡ join_arguments (placed_arguments (argument_and name value span front)
    tokens) (placed_arguments back rest)
arguments_grow name value span no_arguments back tokens comma rest fits =
    let l = label_words name in
    let w = write value in
    let size : length l + (length w + length {A = Kind} []) ≡ length tokens =
    sym (length_three l w []) ∙ fits in
    let own : length (l ++ w) ≡ length tokens = omega (arith, size, length-append l w) in
    argument_front name value tokens (comma ∷ rest) (placed_arguments back
    (behind (l ++ w) 1 (tokens ++ comma ∷ rest))) (placed_arguments back rest) (omega (arith, size))
    (ap (placed_arguments back) (behind_long (l ++ w) 1 tokens (comma ∷ rest) own))
arguments_grow name value span (argument_and next held place front) back tokens comma rest fits =
    let l = label_words name in
    let w = write value in
    let later = write_arguments (argument_and next held place front) in
    let size : length l + (length w + suc (length later)) ≡ length tokens =
    sym (length_three l w (mark_word (codes ",") ∷ later)) ∙ fits in
    let own = length-append l w in
    let rests : behind (l ++ w) 1 (tokens ++ comma ∷ rest) ≡ behind (l ++ w) 1 tokens ++ comma
    ∷ rest =
    drop-append-le (length (l ++ w) + 1) tokens (comma ∷ rest) (omega (arith, size, own)) in
    let left : length later ≡ length (behind (l ++ w) 1 tokens) =
    omega (arith, size, own, length-drop (length (l ++ w) + 1) tokens) in
    argument_front name value tokens (comma ∷ rest)
    (placed_arguments (argument_and next held place (join_arguments front back))
    (behind (l ++ w) 1 (tokens ++ comma ∷ rest)))
    (join_arguments (placed_arguments (argument_and next held place front)
    (behind (l ++ w) 1 tokens)) (placed_arguments back rest)) (omega (arith, size))
    (ap (placed_arguments (argument_and next held place (join_arguments front back))) rests
    ∙ arguments_grow next held place front back (behind (l ++ w) 1 tokens) comma rest left)

pub label_stands : (text : List ℕ) (name colon : Token) → name.kind ≡ kind.Word text →
    colon.kind ≡ mark_word (codes ":") →
    LabelStands (Some (ident_at text (from_to name.at name.end))) (name ∷ colon ∷ [])
label_stands text name colon is also = record {
  writes = λ i. sym is i ∷ sym also i ∷ [];
  places = refl;
}

pub no_label_stands : LabelStands None []
no_label_stands = record { writes = refl; places = refl }

abbrev label_at : Option Ident → ℕ
label_at None = 0
label_at (Some name) = name.span.at

argument_span : (label : Option Ident) (labels : List Token) (value : Tree) (values : List Token) →
    LabelStands label labels → Stands value values →
    place_of (labels ++ values) ≡ from_to (argument_at label value) (span_of value).end
argument_span None [] value values ls vs = sym (span_stands value values vs)
argument_span None (a ∷ labels) value values ls vs =
    absurd (omega (arith, length_kinds [] (a ∷ labels) ls.writes))
argument_span (Some name) [] value values ls vs =
    absurd (omega (arith, length_kinds (label_words (Some name)) [] ls.writes))
argument_span (Some name) (a ∷ []) value values ls vs =
    absurd (omega (arith, length_kinds (label_words (Some name)) (a ∷ []) ls.writes))
argument_span (Some name) (a ∷ b ∷ []) value values ls vs = λ i.
    from_to (ap label_at ls.places i) (end_stands b.end value values vs i)
argument_span (Some name) (a ∷ b ∷ c ∷ labels) value values ls vs =
    absurd (omega (arith, length_kinds (label_words (Some name)) (a ∷ b ∷ c ∷ labels) ls.writes))

labelled_words : (label : Option Ident) (labels : List Token) (value : Tree) (values : List Token) →
    LabelStands label labels → Stands value values →
    label_words label ++ write value ≡ kinds (labels ++ values)
labelled_words label labels value values ls vs =
    (λ i. ls.writes i ++ vs.writes i) ∙ sym (kinds_append labels values)

pub first_argument_stands : (label : Option Ident) (labels : List Token) (value : Tree)
    (values : List Token) → LabelStands label labels → Stands value values →
    ArgumentsStand (argument label value ∷ []) (labels ++ values)
first_argument_stands label labels value values ls vs =
    let own = labelled_words label labels value values ls vs in
    let size = length_kinds (label_words label) labels ls.writes in record {
      writes = ap (λ w. label_words label ++ w) (append-nil (write value)) ∙ own;
      places = λ i. argument_and ((label_front label labels values (omega (arith, size))
          ∙ ls.places) i)
          ((ap (λ t. placed value (tokens_of (write value) t)) (behind_front (label_words label) 0
          labels values ls.writes) ∙ (ap (placed value) (all_of (write value) values vs.writes)
          ∙ vs.places)) i)
          ((ap place_of (all_of (label_words label ++ write value) (labels ++ values) own)
          ∙ argument_span label labels value values ls vs) i) no_arguments;
    }

pub next_argument_stands : (arguments : List Argument) (tokens : List Token) (comma : Token)
    (label : Option Ident) (labels : List Token) (value : Tree) (values : List Token) →
    ArgumentsStand arguments tokens → (arguments ≡ [] → ⊥) → comma.kind ≡ mark_word (codes ",") →
    LabelStands label labels → Stands value values →
    ArgumentsStand (arguments ++ argument label value ∷ []) (tokens ++ comma ∷ (labels ++ values))
next_argument_stands [] tokens comma label labels value values before some is ls vs = absurd
    (some refl)
next_argument_stands ((name, held, place) ∷ front) tokens comma label labels value values before
    some is ls vs =
    by (first_argument_stands label labels value values ls vs) (ap (argument_and name held place)
    (arguments_joined front (argument label value)))
  where
    by : ArgumentsStand (argument label value ∷ []) (labels ++ values) →
        argument_and name held place (arguments_of (front ++ argument label value ∷ []))
        ≡ argument_and name held place (join_arguments (arguments_of front)
        (arguments_of (argument label value ∷ []))) →
        ArgumentsStand (((name, held, place) ∷ front) ++ argument label value ∷ [])
        (tokens ++ comma ∷ (labels ++ values))
    by one joined = record {
      writes = ap write_arguments joined ∙ (argument_words_joined name held place
          (arguments_of front) (arguments_of (argument label value ∷ []))
          ∙ ((λ i. before.writes i ++ (sym is i ∷ one.writes i))
          ∙ sym (kinds_append tokens (comma ∷ (labels ++ values)))));
      places = ap (λ a. placed_arguments a (tokens ++ comma ∷ (labels ++ values))) joined
          ∙ (arguments_grow name held place (arguments_of front)
          (arguments_of (argument label value ∷ [])) tokens comma (labels ++ values)
          (length_kinds (write_arguments (argument_and name held place (arguments_of front))) tokens
          before.writes)
          ∙ ((λ i. join_arguments (before.places i) (one.places i)) ∙ sym joined));
    }

-- what follows doesn't matter
pub arguments_front : (arguments : Arguments) (tokens rest : List Token) →
    length (write_arguments arguments) ≤ length tokens → placed_arguments arguments (tokens ++ rest)
    ≡ placed_arguments arguments tokens
arguments_front no_arguments tokens rest fits = refl
arguments_front (argument_and name value span no_arguments) tokens rest fits =
    argument_front name value tokens rest no_arguments no_arguments
    (omega (arith, fits, length_three (label_words name) (write value) [])) refl
arguments_front (argument_and name value span (argument_and next held place front)) tokens rest
    fits =
    let l = label_words name in
    let w = write value in
    let later = write_arguments (argument_and next held place front) in
    let size : length l + (length w + suc (length later)) ≤ length tokens =
    omega (arith, fits, length_three l w (mark_word (codes ",") ∷ later)) in
    let own = length-append l w in
    let left : length later ≤ length (behind (l ++ w) 1 tokens) =
    omega (arith, size, own, length-drop (length (l ++ w) + 1) tokens) in
    argument_front name value tokens rest (placed_arguments (argument_and next held place front)
    (behind (l ++ w) 1 (tokens ++ rest))) (placed_arguments (argument_and next held place front)
    (behind (l ++ w) 1 tokens)) (omega (arith, size))
    (ap (placed_arguments (argument_and next held place front))
    (drop-append-le (length (l ++ w) + 1) tokens rest (omega (arith, size, own))) ∙ arguments_front
    (argument_and next held place front) (behind (l ++ w) 1 tokens) rest left)

-- from a name to a last token
name_to_last : (name : Name) (names : List Token) (first : Token) (tokens : List Token)
    (last : Token) → NameStands name names → place_of (names ++ first ∷ (tokens ++ last ∷ []))
    ≡ from_to name.span.at last.end
name_to_last name names first tokens last stands =
    place_from_name name names first (tokens ++ last ∷ []) last.end stands
    (last_end_append first.end tokens (last ∷ []))

pub stands_call : (name : Name) (names : List Token) (first : Token) (arguments : List Argument)
    (tokens : List Token) (close : Token) → NameStands name names →
    first.kind ≡ mark_word (codes "(") → close.kind ≡ mark_word (codes ")") →
    ArgumentsStand arguments tokens →
    Stands (call name (arguments_of arguments) (from_to name.span.at close.end))
    (names ++ first ∷ (tokens ++ close ∷ []))
stands_call name names first arguments tokens close ns o c held = record {
  writes = (λ i. ns.writes i ++ (sym o i ∷ (held.writes i ++ (sym c i ∷ []))))
      ∙ (ap (λ k. kinds names ++ (first.kind ∷ k)) (sym (kinds_append tokens (close ∷ [])))
      ∙ sym (kinds_append names (first ∷ (tokens ++ close ∷ []))));
  places = λ i. call (name_kept name names (first ∷ (tokens ++ close ∷ [])) ns i)
      ((ap (placed_arguments (arguments_of arguments)) (behind_front (name_words name) 1 names
      (first ∷ (tokens ++ close ∷ [])) ns.writes) ∙ (arguments_front (arguments_of arguments) tokens
      (close ∷ [])
      (omega (arith, length_kinds (write_arguments (arguments_of arguments)) tokens held.writes))
      ∙ held.places)) i)
      (name_to_last name names first tokens close ns i);
  some = append_some names (first ∷ (tokens ++ close ∷ []))
      (not_empty first (tokens ++ close ∷ []));
}

-- Elements.

abbrev join_trees : Trees → Trees → Trees
join_trees no_trees back = back
join_trees (tree_and tree front) back = tree_and tree (join_trees front back)

trees_joined : (front : List Tree) (last : Tree) →
    trees_of (front ++ last ∷ []) ≡ join_trees (trees_of front) (trees_of (last ∷ []))
trees_joined [] last = refl
trees_joined (tree ∷ front) last = ap (tree_and tree) (trees_joined front last)

more_trees_joined : (front back : Trees) →
    write_more_trees (join_trees front back) ≡ write_more_trees front ++ write_more_trees back
more_trees_joined no_trees back = refl
more_trees_joined (tree_and tree front) back =
    ap (λ m. mark_word (codes ",") ∷ (write tree ++ m)) (more_trees_joined front back) ∙ ap
    (λ words. mark_word (codes ",") ∷ words)
    (sym (append_assoc (write tree) (write_more_trees front) (write_more_trees back)))

tree_words_joined : (tree : Tree) (front back : Trees) →
    write_trees (tree_and tree (join_trees front back)) ≡ write_trees (tree_and tree front)
    ++ write_more_trees back
tree_words_joined tree front back =
    ap (λ m. write tree ++ m) (more_trees_joined front back) ∙ sym (append_assoc (write tree)
    (write_more_trees front) (write_more_trees back))

tree_front : (tree : Tree) (tokens rest : List Token) (after before : Trees) →
    length (write tree) ≤ length tokens → after ≡ before →
    tree_and (placed tree (tokens_of (write tree) (tokens ++ rest))) after ≡ tree_and
    (placed tree (tokens_of (write tree) tokens)) before
tree_front tree tokens rest after before fits is = λ i.
    tree_and (placed tree (take-append-le (length (write tree)) tokens rest fits i)) (is i)

trees_grow : (tree : Tree) (front back : Trees) (tokens : List Token) (comma : Token)
    (rest : List Token) → length (write_trees (tree_and tree front)) ≡ length tokens →
    placed_trees (tree_and tree (join_trees front back)) (tokens ++ comma ∷ rest) ≡ join_trees
    (placed_trees (tree_and tree front) tokens) (placed_trees back rest)
trees_grow tree no_trees back tokens comma rest fits =
    let w = write tree in
    let size : length w ≡ length tokens = sym (ap length (append-nil w)) ∙ fits in
    tree_front tree tokens (comma ∷ rest) (placed_trees back (behind w 1 (tokens ++ comma ∷ rest)))
    (placed_trees back rest) (omega (arith, size)) (ap (placed_trees back)
    (behind_long w 1 tokens (comma ∷ rest) size))
trees_grow tree (tree_and next front) back tokens comma rest fits =
    let w = write tree in
    let later = write_trees (tree_and next front) in
    let size : length w + suc (length later) ≡ length tokens =
    sym (length-append w (mark_word (codes ",") ∷ later)) ∙ fits in
    let left : length later ≡ length (behind w 1 tokens) =
    omega (arith, size, length-drop (length w + 1) tokens) in
    tree_front tree tokens (comma ∷ rest) (placed_trees (tree_and next (join_trees front back))
    (behind w 1 (tokens ++ comma ∷ rest)))
    (join_trees (placed_trees (tree_and next front) (behind w 1 tokens)) (placed_trees back rest))
    (omega (arith, size)) (ap (placed_trees (tree_and next (join_trees front back)))
    (drop-append-le (length w + 1) tokens (comma ∷ rest) (omega (arith, size))) ∙ trees_grow next
    front back (behind w 1 tokens) comma rest left)

trees_front : (trees : Trees) (tokens rest : List Token) →
    length (write_trees trees) ≤ length tokens → placed_trees trees (tokens ++ rest) ≡ placed_trees
    trees tokens
trees_front no_trees tokens rest fits = refl
trees_front (tree_and tree no_trees) tokens rest fits =
    tree_front tree tokens rest no_trees no_trees
    (omega (arith, fits, ap length (append-nil (write tree)))) refl
trees_front (tree_and tree (tree_and next front)) tokens rest fits =
    let w = write tree in
    let later = write_trees (tree_and next front) in
    let size : length w + suc (length later) ≤ length tokens =
    omega (arith, fits, length-append w (mark_word (codes ",") ∷ later)) in
    let left : length later ≤ length (behind w 1 tokens) =
    omega (arith, size, length-drop (length w + 1) tokens) in
    tree_front tree tokens rest (placed_trees (tree_and next front) (behind w 1 (tokens ++ rest)))
    (placed_trees (tree_and next front) (behind w 1 tokens)) (omega (arith, size))
    (ap (placed_trees (tree_and next front)) (drop-append-le (length w + 1) tokens rest
    (omega (arith, size))) ∙ trees_front (tree_and next front) (behind w 1 tokens) rest left)

pub first_tree_stands : (value : Tree) (values : List Token) → Stands value values →
    TreesStand (value ∷ []) values
first_tree_stands value values vs = record {
  writes = append-nil (write value) ∙ vs.writes;
  places = ap (λ t. tree_and t no_trees)
      (ap (placed value) (all_of (write value) values vs.writes) ∙ vs.places);
}

pub next_tree_stands : (trees : List Tree) (tokens : List Token) (comma : Token) (value : Tree)
    (values : List Token) → TreesStand trees tokens → (trees ≡ [] → ⊥) →
    comma.kind ≡ mark_word (codes ",") → Stands value values →
    TreesStand (trees ++ value ∷ []) (tokens ++ comma ∷ values)
next_tree_stands [] tokens comma value values before some is vs = absurd (some refl)
next_tree_stands (tree ∷ front) tokens comma value values before some is vs =
    by (first_tree_stands value values vs) (ap (tree_and tree) (trees_joined front value))
  where
    by : TreesStand (value ∷ []) values →
        tree_and tree (trees_of (front ++ value ∷ [])) ≡ tree_and tree (join_trees (trees_of front)
        (trees_of (value ∷ []))) → TreesStand ((tree ∷ front) ++ value ∷ [])
        (tokens ++ comma ∷ values)
    by one joined = record {
      writes = ap write_trees joined ∙ (tree_words_joined tree (trees_of front)
          (trees_of (value ∷ [])) ∙ ((λ i. before.writes i ++ (sym is i ∷ one.writes i))
          ∙ sym (kinds_append tokens (comma ∷ values))));
      places = ap (λ a. placed_trees a (tokens ++ comma ∷ values)) joined
          ∙ (trees_grow tree (trees_of front) (trees_of (value ∷ [])) tokens comma values
          (length_kinds (write_trees (tree_and tree (trees_of front))) tokens before.writes)
          ∙ ((λ i. join_trees (before.places i) (one.places i)) ∙ sym joined));
    }

-- the tokens behind the brackets
behind_brackets : (name : List Kind) (own : List Kind) (names sizes : List Token) (a b c : Token)
    (rest : List Token) → name ≡ kinds names → own ≡ kinds sizes →
    behind (name ++ own) 3 (names ++ a ∷ (sizes ++ b ∷ c ∷ rest)) ≡ rest
behind_brackets name own names sizes a b c rest ns ss =
    let count : length (name ++ own) + 3 ≡ length names + suc (length sizes + 2) =
    omega (arith, length-append name own, length_kinds name names ns, length_kinds own sizes ss) in
    ap (λ n. drop n (names ++ a ∷ (sizes ++ b ∷ c ∷ rest))) count
    ∙ (drop-append-add names (a ∷ (sizes ++ b ∷ c ∷ rest)) (suc (length sizes + 2))
    ∙ drop-append-add sizes (b ∷ c ∷ rest) 2)

pub stands_array : (name : Name) (names : List Token) (own : Option ℕ) (sizes : List Token)
    (bracket end_bracket first : Token) (trees : List Tree) (tokens : List Token) (close : Token) →
    NameStands name names → number_words own ≡ kinds sizes → bracket.kind ≡ mark_word (codes "[") →
    end_bracket.kind ≡ mark_word (codes "]") → first.kind ≡ mark_word (codes "(") →
    close.kind ≡ mark_word (codes ")") → TreesStand trees tokens →
    Stands (array name own (trees_of trees) (from_to name.span.at close.end))
    (names ++ bracket ∷ (sizes ++ end_bracket ∷ first ∷ (tokens ++ close ∷ [])))
stands_array name names own sizes bracket end_bracket first trees tokens close ns ss b e o c held =
    let inner = tokens ++ close ∷ [] in
    let outer = bracket ∷ (sizes ++ end_bracket ∷ first ∷ inner) in record {
      writes = (λ i. ns.writes i ++ (sym b i ∷ (ss i ++ (sym e i ∷ sym o i
          ∷ (held.writes i ++ (sym c i ∷ []))))))
          ∙ (ap
          (λ k. kinds names
          ++ (bracket.kind ∷ (kinds sizes ++ (end_bracket.kind ∷ first.kind ∷ k))))
          (sym (kinds_append tokens (close ∷ []))) ∙ (ap (λ k. kinds names ++ (bracket.kind ∷ k))
          (sym (kinds_append sizes (end_bracket ∷ first ∷ inner)))
          ∙ sym (kinds_append names outer)));
      places = λ i. array (name_kept name names outer ns i) own
          ((ap (placed_trees (trees_of trees)) (behind_brackets (name_words name) (number_words own)
          names sizes bracket end_bracket first inner ns.writes ss)
          ∙ (trees_front (trees_of trees) tokens (close ∷ [])
          (omega (arith, length_kinds (write_trees (trees_of trees)) tokens held.writes))
          ∙ held.places)) i)
          ((ap (λ t. place_of (names ++ bracket ∷ t))
          (sym (append_assoc sizes (end_bracket ∷ first ∷ tokens) (close ∷ []))) ∙ name_to_last name
          names bracket (sizes ++ end_bracket ∷ first ∷ tokens)
          close ns) i);
      some = append_some names outer (not_empty bracket (sizes ++ end_bracket ∷ first ∷ inner));
    }

-- Initializers.

ident_front : (name : Ident) (tokens rest : List Token) → 1 ≤ length tokens →
    placed_ident name (tokens ++ rest) ≡ placed_ident name tokens
ident_front name [] rest fits = absurd (omega (arith, fits))
ident_front name (one ∷ tokens) rest fits = refl

abbrev own_words : Option Freq → TypeTree → Tree → List Kind
own_words frequency ty value = frequency_words frequency ++ (type_words ty ++ write value)

abbrev at_name : Option Freq → TypeTree → List Token → List Token
at_name frequency ty tokens = behind (type_words ty) 0 (behind (frequency_words frequency) 0 tokens)

abbrev placed_initializer : Option Freq → TypeTree → Ident → Tree → List Token → Initializers →
    Initializers
placed_initializer frequency ty name value tokens later =
    initializer_and frequency (placed_type ty (behind (frequency_words frequency) 0 tokens))
    (placed_ident name (at_name frequency ty tokens))
    (placed value (tokens_of (write value) (drop 2 (at_name frequency ty tokens))))
    (place_of (take (length (own_words frequency ty value) + 3) tokens)) later

initializer_front : (frequency : Option Freq) (ty : TypeTree) (name : Ident) (value : Tree)
    (tokens rest : List Token) (after before : Initializers) →
    length (frequency_words frequency) + (length (type_words ty) + (length (write value) + 3))
    ≤ length tokens → after ≡ before → placed_initializer frequency ty name value (tokens ++ rest)
    after ≡ placed_initializer frequency ty name value tokens before
initializer_front frequency ty name value tokens rest after before fits is =
    let f = frequency_words frequency in
    let t = type_words ty in
    let w = write value in
    let one : behind f 0 (tokens ++ rest) ≡ behind f 0 tokens ++ rest =
    drop-append-le (length f + 0) tokens rest (omega (arith, fits)) in
    let size_one = length-drop (length f + 0) tokens in
    let two : behind t 0 (behind f 0 (tokens ++ rest)) ≡ behind t 0 (behind f 0 tokens) ++ rest =
    ap (behind t 0) one
    ∙ drop-append-le (length t + 0) (behind f 0 tokens) rest (omega (arith, fits, size_one)) in
    let size_two = length-drop (length t + 0) (behind f 0 tokens) in
    let three : drop 2 (behind t 0 (behind f 0 (tokens ++ rest)))
    ≡ drop 2 (behind t 0 (behind f 0 tokens)) ++ rest =
    ap (drop 2) two ∙ drop-append-le 2 (behind t 0 (behind f 0 tokens)) rest
    (omega (arith, fits, size_one, size_two)) in
    let size_three = length-drop 2 (behind t 0 (behind f 0 tokens)) in λ i.
    initializer_and frequency ((ap (placed_type ty) one ∙ type_front ty (behind f 0 tokens) rest
    (omega (arith, fits, size_one))) i)
    ((ap (placed_ident name) two ∙ ident_front name (behind t 0 (behind f 0 tokens)) rest
    (omega (arith, fits, size_one, size_two))) i)
    (placed value
    ((ap (tokens_of w) three ∙ take-append-le (length w) (drop 2 (behind t 0 (behind f 0 tokens)))
    rest (omega (arith, fits, size_one, size_two, size_three))) i))
    (place_of (take-append-le (length (own_words frequency ty value) + 3) tokens rest
    (omega (arith, fits, length_three f t w)) i)) (is i)

abbrev join_initializers : Initializers → Initializers → Initializers
join_initializers no_initializers back = back
join_initializers (initializer_and frequency ty name value span front) back =
    initializer_and frequency ty name value span (join_initializers front back)

initializers_joined : (front : List Initializer) (last : Initializer) →
    initializers_of (front ++ last ∷ []) ≡ join_initializers (initializers_of front)
    (initializers_of (last ∷ []))
initializers_joined [] last = refl
initializers_joined ((frequency, ty, name, value, span) ∷ front) last =
    ap (initializer_and frequency ty name value span) (initializers_joined front last)

initializer_words_joined : (front back : Initializers) →
    write_initializers (join_initializers front back) ≡ write_initializers front
    ++ write_initializers back
initializer_words_joined no_initializers back = refl
initializer_words_joined (initializer_and frequency ty name value span front) back =
    let f = frequency_words frequency in
    let t = type_words ty in
    let w = write value in
    let i = ident_word name in
    let e = mark_word (codes "=") in
    let s = mark_word (codes ";") in
    let m = write_initializers front in
    ap (λ later. f ++ (t ++ (i ∷ e ∷ (w ++ (s ∷ later))))) (initializer_words_joined front back)
    ∙ (ap (λ later. f ++ (t ++ (i ∷ e ∷ later)))
    (sym (append_assoc w (s ∷ m) (write_initializers back))) ∙ assoc_three f t
    (i ∷ e ∷ (w ++ (s ∷ m))) (write_initializers back))

initializer_length : (frequency : Option Freq) (ty : TypeTree) (name : Ident) (value : Tree)
    (span : Span) (front : Initializers) →
    length (write_initializers (initializer_and frequency ty name value span front)) ≡ length
    (frequency_words frequency) + (length (type_words ty) + (length (write value)
    + (length (write_initializers front) + 3)))
initializer_length frequency ty name value span front =
    let f = frequency_words frequency in
    let t = type_words ty in
    let w = write value in
    let m = write_initializers front in
    let inner = w ++ (mark_word (codes ";") ∷ m) in
    let sum = length_three f t (ident_word name ∷ mark_word (codes "=") ∷ inner) in
    omega (arith, sum, length-append w (mark_word (codes ";") ∷ m))

initializers_grow : (front back : Initializers) (tokens rest : List Token) →
    length (write_initializers front) ≡ length tokens →
    placed_initializers (join_initializers front back) (tokens ++ rest) ≡ join_initializers
    (placed_initializers front tokens) (placed_initializers back rest)
initializers_grow no_initializers back [] rest fits = refl
initializers_grow no_initializers back (token ∷ tokens) rest fits = absurd (omega (arith, fits))
initializers_grow (initializer_and frequency ty name value span front) back tokens rest fits =
    let own = own_words frequency ty value in
    let size = sym (initializer_length frequency ty name value span front) ∙ fits in
    let sum = length_three (frequency_words frequency) (type_words ty) (write value) in
    initializer_front frequency ty name value tokens rest
    (placed_initializers (join_initializers front back) (behind own 3 (tokens ++ rest)))
    (join_initializers (placed_initializers front (behind own 3 tokens))
    (placed_initializers back rest)) (omega (arith, size))
    (ap (placed_initializers (join_initializers front back)) (drop-append-le (length own + 3) tokens
    rest (omega (arith, size, sum))) ∙ initializers_grow front back (behind own 3 tokens) rest
    (omega (arith, size, sum, length-drop (length own + 3) tokens)))

initializers_front : (front : Initializers) (tokens rest : List Token) →
    length (write_initializers front) ≤ length tokens → placed_initializers front (tokens ++ rest)
    ≡ placed_initializers front tokens
initializers_front no_initializers tokens rest fits = refl
initializers_front (initializer_and frequency ty name value span front) tokens rest fits =
    let own = own_words frequency ty value in
    let size = initializer_length frequency ty name value span front in
    let sum = length_three (frequency_words frequency) (type_words ty) (write value) in
    initializer_front frequency ty name value tokens rest (placed_initializers front
    (behind own 3 (tokens ++ rest))) (placed_initializers front (behind own 3 tokens))
    (omega (arith, size, fits)) (ap (placed_initializers front) (drop-append-le (length own + 3)
    tokens rest (omega (arith, size, fits, sum))) ∙ initializers_front front (behind own 3 tokens)
    rest (omega (arith, size, fits, sum, length-drop (length own + 3) tokens)))

-- the initializer that begins here and ends with this semicolon
abbrev pub initializer_of : Option Freq → TypeTree → List ℕ → Token → Tree → ℕ → Token → Initializer
initializer_of frequency ty text name value at semicolon =
    (frequency, ty, ident_at text (from_to name.at name.end), value, from_to at semicolon.end)

-- one initializer; `first` is the first token of its frequency and its type
first_initializer_stands : (frequency : Option Freq) (frequencies : List Token) (ty : TypeTree)
    (types : List Token) (text : List ℕ) (name equals : Token) (value : Tree) (values : List Token)
    (semicolon : Token) (at : ℕ) (first : Token) (others : List Token) →
    frequency_words frequency ≡ kinds frequencies → TypeStands ty types →
    name.kind ≡ kind.Word text → equals.kind ≡ mark_word (codes "=") → Stands value values →
    semicolon.kind ≡ mark_word (codes ";") → frequencies ++ types ≡ first ∷ others → at ≡ first.at →
    InitializersStand (initializer_of frequency ty text name value at semicolon ∷ [])
    (frequencies ++ (types ++ name ∷ equals ∷ (values ++ semicolon ∷ [])))
first_initializer_stands frequency frequencies ty types text name equals value values semicolon at
    first
    others fs ts n e vs s begins is =
    let f = frequency_words frequency in
    let t = type_words ty in
    let w = write value in
    let last = values ++ semicolon ∷ [] in
    let tail = name ∷ equals ∷ last in
    let one : behind f 0 (frequencies ++ (types ++ tail)) ≡ types ++ tail =
    behind_front f 0 frequencies (types ++ tail) fs in
    let two : at_name frequency ty (frequencies ++ (types ++ tail)) ≡ tail =
    ap (behind t 0) one ∙ behind_front t 0 types tail ts.writes in
    let sum = length_three f t w in
    let long : length (frequencies ++ (types ++ tail)) ≤ length (own_words frequency ty value) + 3 =
    omega (
      arith,
      sum,
      length_kinds f frequencies fs,
      length_kinds t types ts.writes,
      length_kinds w values vs.writes,
      length-append frequencies (types ++ tail),
      length-append types tail,
      length-append values (semicolon ∷ []),
    ) in record {
      writes = (λ i. fs i ++ (ts.writes i ++ (sym n i ∷ sym e i ∷ (vs.writes i ++ (sym s i ∷ [])))))
          ∙ (ap (λ k. kinds frequencies ++ (kinds types ++ (name.kind ∷ equals.kind ∷ k)))
          (sym (kinds_append values (semicolon ∷ []))) ∙ (ap (λ k. kinds frequencies ++ k)
          (sym (kinds_append types tail))
          ∙ sym (kinds_append frequencies (types ++ tail))));
      places = λ i. initializer_and frequency
          ((ap (placed_type ty) one
          ∙ (type_front ty types tail (omega (arith, length_kinds t types ts.writes)) ∙ ts.places))
          i) (placed_ident (ident_at text (from_to name.at name.end)) (two i))
          ((ap (λ place. placed value (tokens_of w (drop 2 place))) two
          ∙ (ap (placed value) (front_of w values (semicolon ∷ []) vs.writes) ∙ vs.places)) i)
          ((ap place_of (take_all (length (own_words frequency ty value) + 3)
          (frequencies ++ (types ++ tail)) long)
          ∙ (ap place_of (sym (append_assoc frequencies types tail) ∙ ap (λ front. front ++ tail)
          begins) ∙ (λ j. from_to (sym is j) ((last_end_append first.end others tail
          ∙ last_end_append equals.end values (semicolon ∷ [])) j)))) i) no_initializers;
    }

-- initializers, and one behind them
initializers_and_one : (initializers : List Initializer) (last : Initializer)
    (tokens rest : List Token) → InitializersStand initializers tokens →
    InitializersStand (last ∷ []) rest → InitializersStand (initializers ++ last ∷ [])
    (tokens ++ rest)
initializers_and_one initializers last tokens rest before one =
    let joined = initializers_joined initializers last in record {
      writes = ap write_initializers joined
          ∙ (initializer_words_joined (initializers_of initializers) (initializers_of (last ∷ []))
          ∙ ((λ i. before.writes i ++ one.writes i) ∙ sym (kinds_append tokens rest)));
      places = ap (λ a. placed_initializers a (tokens ++ rest)) joined
          ∙ (initializers_grow (initializers_of initializers) (initializers_of (last ∷ [])) tokens
          rest (length_kinds (write_initializers (initializers_of initializers)) tokens
          before.writes)
          ∙ ((λ i. join_initializers (before.places i) (one.places i)) ∙ sym joined));
    }

pub next_initializer_stands : (initializers : List Initializer) (tokens : List Token)
    (frequency : Option Freq) (frequencies : List Token) (ty : TypeTree) (types : List Token)
    (text : List ℕ) (name equals : Token) (value : Tree) (values : List Token) (semicolon : Token)
    (at : ℕ) (first : Token) (others : List Token) → InitializersStand initializers tokens →
    frequency_words frequency ≡ kinds frequencies → TypeStands ty types →
    name.kind ≡ kind.Word text → equals.kind ≡ mark_word (codes "=") → Stands value values →
    semicolon.kind ≡ mark_word (codes ";") → frequencies ++ types ≡ first ∷ others → at ≡ first.at →
    InitializersStand (initializers ++ initializer_of frequency ty text name value at semicolon
    ∷ []) (tokens ++ (frequencies ++ (types ++ name ∷ equals ∷ (values ++ semicolon ∷ []))))
next_initializer_stands initializers tokens frequency frequencies ty types text name equals value
    values
    semicolon at first others before fs ts n e vs s begins is =
    initializers_and_one initializers (initializer_of frequency ty text name value at semicolon)
    tokens (frequencies ++ (types ++ name ∷ equals ∷ (values ++ semicolon ∷ []))) before
    (first_initializer_stands frequency frequencies ty types text name equals value values semicolon
    at first others fs ts n e vs s begins is)

-- Lets.

pub stands_binding_braced : (let_token first : Token) (initializers : List Initializer)
    (tokens : List Token) (close in_token : Token) (body : Tree) (bodies : List Token) →
    let_token.kind ≡ name_word (codes "let") → first.kind ≡ mark_word (codes "{") →
    close.kind ≡ mark_word (codes "}") → in_token.kind ≡ name_word (codes "in") →
    InitializersStand initializers tokens → Stands body bodies →
    Stands (binding true (initializers_of initializers) body
    (from_to let_token.at (span_of body).end))
    (let_token ∷ first ∷ (tokens ++ close ∷ in_token ∷ bodies))
stands_binding_braced let_token first initializers tokens close in_token body bodies l o c n held
    bs = record {
      writes = (λ i. sym l i ∷ sym o i ∷ (held.writes i ++ (sym c i ∷ sym n i ∷ bs.writes i)))
          ∙ ap (λ k. let_token.kind ∷ first.kind ∷ k)
          (sym (kinds_append tokens (close ∷ in_token ∷ bodies)));
      places = λ i. binding true
          ((initializers_front (initializers_of initializers) tokens (close ∷ in_token ∷ bodies)
          (omega (
            arith,
            length_kinds (write_initializers (initializers_of initializers)) tokens
                held.writes,
          )) ∙ held.places) i)
          ((ap (placed body) (behind_front (write_initializers (initializers_of initializers)) 2
          tokens (close ∷ in_token ∷ bodies) held.writes) ∙ bs.places) i)
          (from_to let_token.at ((last_end_append first.end tokens (close ∷ in_token ∷ bodies)
          ∙ end_stands in_token.end body bodies bs) i));
      some = not_empty let_token (first ∷ (tokens ++ close ∷ in_token ∷ bodies));
    }

pub stands_binding : (let_token : Token) (initializers : List Initializer) (tokens : List Token)
    (in_token : Token) (body : Tree) (bodies : List Token) →
    let_token.kind ≡ name_word (codes "let") → in_token.kind ≡ name_word (codes "in") →
    InitializersStand initializers tokens → Stands body bodies →
    Stands (binding false (initializers_of initializers) body
    (from_to let_token.at (span_of body).end)) (let_token ∷ (tokens ++ in_token ∷ bodies))
stands_binding let_token initializers tokens in_token body bodies l n held bs = record {
  writes = (λ i. sym l i ∷ (held.writes i ++ (sym n i ∷ bs.writes i)))
      ∙ ap (λ k. let_token.kind ∷ k) (sym (kinds_append tokens (in_token ∷ bodies)));
  places = λ i. binding false
      ((initializers_front (initializers_of initializers) tokens (in_token ∷ bodies)
      (omega
      (arith, length_kinds (write_initializers (initializers_of initializers)) tokens held.writes))
      ∙ held.places) i)
      ((ap (placed body) (behind_front (write_initializers (initializers_of initializers)) 1 tokens
      (in_token ∷ bodies) held.writes) ∙ bs.places) i)
      (from_to let_token.at ((last_end_append let_token.end tokens (in_token ∷ bodies)
      ∙ end_stands in_token.end body bodies bs) i));
  some = not_empty let_token (tokens ++ in_token ∷ bodies);
}
